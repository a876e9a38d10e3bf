use Prim.Native.Nat.{◌≤◌}
use lib.ListN.{length}
use Rattle.path_tries.specs.NodeLaws.{DepthsPassed}
use Rattle.path_tries.proofs.is_too_deep.Given as goal

abbrev pub invariant-loop-place : goal.invariant-loop-place
invariant-loop-place l = (l.place-index ≤ length l.places) × DepthsPassed l.code l.places l.below l.place-index
