use Prim.Native.Nat.{◌≤◌}
use mathlib.Core.Path.{◌≡◌}
use lib.ListN.{length}
use Rattle.path_tries.specs.NodeLaws.{Adding}
use Rattle.path_tries.proofs.add_wrapped_access_paths.Given as goal

abbrev pub invariant-loop-place : goal.invariant-loop-place
invariant-loop-place l = (l.place-index ≤ length l.places) × ((length l.path ≡ 24) × Adding l.code l.places l.below l.marked l.initial.trie l.trie l.place-index)
