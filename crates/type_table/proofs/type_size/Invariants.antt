use Prim.Native.Nat.{◌+◌, ◌-◌}
use lib.ListN.{length}
use Rattle.type_table.specs.TypeTableLaws.{Sizing}
use Rattle.type_table.proofs.type_size.Given as goal

abbrev pub invariant-loop-below : goal.invariant-loop-below
invariant-loop-below l = Sizing l.words (l.place + 1) l.at l.depth l.nodes

abbrev pub decreases-loop-below : goal.decreases-loop-below
decreases-loop-below l = length l.words - l.at
    -- the type l.at the l.place, and its number
