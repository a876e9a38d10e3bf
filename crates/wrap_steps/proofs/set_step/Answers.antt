-- `wrap_steps::set_step` meets its contract: the top is wrapped under the head of a set literal.
use native.Mathlib.Omega.{arith}
use Rattle.wrap_steps.specs.WrapLaws.{set_few, set_done}
use Rattle.wrap_steps.proofs.set_step.Goals as goal

pub returns-then-stack-eq0 : goal.returns-then-stack-eq0
returns-then-stack-eq0 c results held place = set_few results held c.if-stack-eq0.true place

pub wrap-requires : goal.wrap-requires
wrap-requires c =
    record { working = c.requires; count_nonzero = (omega arith, (omega (arith, c.if-stack-eq0.false), omega arith)) }

pub returns : goal.returns
returns c results held =
    set_done results held c.wrap.new.code c.wrap.new.tries c.wrap.result (omega (arith, c.if-stack-eq0.false)) (rw c.word.ensures at c.wrap.ensures)
