-- `load_state::parts::is_request` meets its contract by its tests.
use native.Mathlib.Omega.{arith}
use borrow.Author.Tests.{lt-ltb, le-ltb, le-leb, lt-leb}
use Rattle.rules.specs.Facts.{compared}
use Rattle.load_state.proofs.parts.is_request.Goals as goal

pub returns-then-triple-gt281474976710655 : goal.returns-then-triple-gt281474976710655
returns-then-triple-gt281474976710655 c = rw (le-ltb c.args.triple 281474976710656 (omega (arith, c.if-triple-gt281474976710655.true)))

pub returns-then-principal-gt65535 : goal.returns-then-principal-gt65535
returns-then-principal-gt65535 c =
    rw (lt-ltb c.args.triple 281474976710656 (omega (arith, c.if-triple-gt281474976710655.false)), le-ltb c.args.principal 65536 (omega (arith, c.if-principal-gt65535.true)))

pub returns : goal.returns
returns c =
    rw (lt-ltb c.args.triple 281474976710656 (omega (arith, c.if-triple-gt281474976710655.false)), lt-ltb c.args.principal 65536 (omega (arith, c.if-principal-gt65535.false)))
    (compared c.args.resource 65536 (λ less. rw (lt-ltb c.args.resource 65536 less, le-leb c.args.resource 65535 (omega arith)))
    (λ more. rw (le-ltb c.args.resource 65536 more, lt-leb c.args.resource 65535 (omega arith))))
