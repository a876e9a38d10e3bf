use Prim.Native.Nat.{◌≤◌}
use mathlib.Core.List.{[]}
use lib.ListN.{length, drop}
use Rattle.rules.specs.Tries.{found}
use Rattle.rules.proofs.PlaceLaws.{Sought}
use Rattle.rows.specs.States.{rows_of}
use Rattle.rows.proofs.place.find.Given as goal

abbrev pub invariant-loop-word : goal.invariant-loop-word
invariant-loop-word l =
    (l.word-index ≤ length l.words) × Sought (found [] (rows_of l.words) l.place) (rows_of (drop l.word-index l.words)) l.place l.matched
