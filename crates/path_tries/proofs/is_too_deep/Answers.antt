-- `path_tries::is_too_deep` meets its contract: the paths that were passed are not too deep.
use native.Mathlib.Omega.{arith}
use Rattle.path_tries.specs.NodeLaws.{looking_within, looking_deep, looking_next, looking_all}
use Rattle.path_tries.proofs.is_too_deep.Goals as goal

pub steps_at-requires : goal.steps_at-requires
steps_at-requires c = omega (arith, looking_within c.loop-place.invariant.1 c.loop-place-test.true)

pub overflow_add-steps_at : goal.overflow_add-steps_at
overflow_add-steps_at c = omega (arith, looking_within c.loop-place.invariant.1 c.loop-place-test.true, c.steps_at.ensures)

pub returns-then-steps_at-below-gt-STEPS : goal.returns-then-steps_at-below-gt-STEPS
returns-then-steps_at-below-gt-STEPS c = looking_deep c.loop-place.invariant.1 c.loop-place-test.true (rw c.steps_at.ensures at c.if-steps_at-below-gt-STEPS.true)

pub loop-place-preserved : goal.loop-place-preserved
loop-place-preserved c = (omega arith, looking_next c.loop-place.invariant.1 c.loop-place-test.true (rw c.steps_at.ensures at c.if-steps_at-below-gt-STEPS.false))

pub returns : goal.returns
returns c = looking_all c.loop-place.invariant.1 (omega arith)
