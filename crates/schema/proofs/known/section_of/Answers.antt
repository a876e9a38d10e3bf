-- `schema::known::section_of` meets its contract: each arm of the match is a case of `section_of`.
use native.Mathlib.Omega.{arith}
use borrow.Author.Tests.{le-leb, lt-leb, ne_eqb}
use Rattle.schema.proofs.known.section_of.Goals as goal

pub returns-in-13 : goal.returns-in-13
returns-in-13 c = rw c.in-13.is

pub returns-in-0-to-10 : goal.returns-in-0-to-10
returns-in-0-to-10 c = rw (le-leb c.args.tag 10 (omega arith))

pub returns-in-11 : goal.returns-in-11
returns-in-11 c =
    rw (lt-leb c.args.tag 10 (omega arith), le-leb c.args.tag 12 (omega arith))

pub returns-in_default : goal.returns-in_default
returns-in_default c =
    rw (lt-leb c.args.tag 10 (omega arith), lt-leb c.args.tag 12 (omega arith), ne_eqb c.args.tag 13 (omega arith))
