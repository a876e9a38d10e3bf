use Prim.Native.Nat.{ℕ, ◌≤◌}
use lib.ListN.{length}
use Rattle.values.specs.Lawful.{PastInside}
use Rattle.values.proofs.lawful.past.Given as goal

abbrev pub invariant-loop-i : goal.invariant-loop-i
invariant-loop-i l = (l.i ≤ length l.words) × ((end : ℕ) → PastInside l.words l.i l.depth end → PastInside l.words l.at l.depth end)
