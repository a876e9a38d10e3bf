use Prim.Native.Nat.{◌≤◌}
use lib.ListN.{length}
use Rattle.path_tries.specs.NodeLaws.{Longest}
use Rattle.path_tries.proofs.longest.Given as goal

abbrev pub invariant-loop-place : goal.invariant-loop-place
invariant-loop-place l = (l.place-index ≤ length l.places) × Longest l.code l.places l.most l.place-index
