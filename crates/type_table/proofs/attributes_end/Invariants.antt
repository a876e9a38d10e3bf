use Prim.Native.Nat.{◌-◌}
use lib.ListN.{length}
use Rattle.type_table.specs.TypeTableLaws.{AttributesPassed}
use Rattle.type_table.proofs.attributes_end.Given as goal

abbrev pub invariant-loop-at : goal.invariant-loop-at
invariant-loop-at l = AttributesPassed l.words l.first l.at

abbrev pub decreases-loop-at : goal.decreases-loop-at
decreases-loop-at l = length l.words - l.at
