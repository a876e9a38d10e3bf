-- `path_tries::longest` meets its contract: the longest of the paths passed and of those left is the longest of all.
use native.Mathlib.Omega.{arith}
use Rattle.path_tries.specs.NodeLaws.{longest_first, longest_within, longest_next, longest_all}
use Rattle.path_tries.proofs.longest.Goals as goal

pub loop-place-init : goal.loop-place-init
loop-place-init c = (omega arith, longest_first _ _ c.requires)

pub steps_at-requires : goal.steps_at-requires
steps_at-requires c = omega (arith, longest_within c.loop-place.invariant.1 c.loop-place-test.true)

pub loop-place-preserved : goal.loop-place-preserved
loop-place-preserved c = (omega arith, rw (c.max-most.ensures, c.steps_at.ensures) (longest_next c.loop-place.invariant.1 c.loop-place-test.true))

pub returns : goal.returns
returns c = longest_all c.loop-place.invariant.1 (omega arith)
