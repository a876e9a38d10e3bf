use Prim.Native.Nat.{◌+◌, ◌-◌, ◌≤◌}
use lib.ListN.{length}
use Rattle.union.specs.Unions.{union_words}
use Rattle.union.specs.Merge.{left}
use Rattle.rows.specs.Sizes.{Counted}
use Rattle.union.proofs.union_size.Given as goal

abbrev pub invariant-loop-next : goal.invariant-loop-next
invariant-loop-next l =
    (l.i ≤ length l.a) × (l.j ≤ length l.b) × (l.size.entries + l.size.nodes ≤ l.i + l.j) × Counted (union_words l.a l.b) (left l.a l.b l.i l.j) l.size.entries l.size.nodes

abbrev pub decreases-loop-next : goal.decreases-loop-next
decreases-loop-next l = length l.a + length l.b - (l.i + l.j)
