use Prim.Native.Nat.{◌-◌, ◌≤◌}
use mathlib.Core.List.{List}
use mathlib.Core.Path.{◌≡◌}
use lib.ListN.{length}
use Rattle.rules.specs.ValueTexts.{EntityRead}
use Rattle.store_text.specs.Entities.{HoldsEntities}
use Rattle.store_text.specs.OrderLaws.{EntitiesPassed}
use Rattle.store_text.proofs.order.first_unordered.Given as goal

abbrev pub invariant-loop-i : goal.invariant-loop-i
invariant-loop-i l =
    (length l.levels ≡ length l.initial.levels) × (l.i ≤ length l.words) × ((es : List EntityRead) → HoldsEntities l.words es → EntitiesPassed l.words es l.i)

abbrev pub decreases-loop-i : goal.decreases-loop-i
decreases-loop-i l = length l.words - l.i
