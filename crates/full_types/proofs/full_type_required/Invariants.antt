use Prim.Native.Nat.{◌-◌}
use lib.ListN.{length}
use Rattle.schema.specs.Items.{items_of}
use Rattle.full_types.specs.RequiredLaws.{Walking}
use Rattle.full_types.proofs.full_type_required.Given as goal

abbrev pub invariant-loop-left : goal.invariant-loop-left
invariant-loop-left l = Walking l.code (items_of l.types.words.now) l.t l.at l.waiting l.pairs l.from l.left l.count

abbrev pub decreases-loop-left : goal.decreases-loop-left
decreases-loop-left l = length l.code - l.from
