use Prim.Native.Nat.{ℕ, ◌≤◌}
use lib.ListN.{drop}
use Rattle.rules.specs.Trips.{bound_of}
use Rattle.rows.specs.States.{rows_of}
use Rattle.entries.specs.Bounds.{NodesOf}
use Rattle.entries.specs.BoundLaws.{Bounding}
use Rattle.entries.proofs.trips.bound_of.Given as goal

abbrev pub invariant-loop-word : goal.invariant-loop-word
invariant-loop-word l =
    (l.rows ≤ l.word-index)
    × ((request : ℕ) → NodesOf request (rows_of l.nodes) → Bounding (bound_of request (rows_of l.nodes)) (rows_of (drop l.word-index l.nodes)) l.primary l.rows l.batches)
