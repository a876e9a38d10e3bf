-- `type_table::fill_table` meets its contract: the types before the next word are in the table.
use Prim.Native.Nat.{◌%◌, ◌≤◌, ◌<◌}
use native.Mathlib.Omega.{arith}
use mathlib.Core.Path.{ap}
use lib.ListN.{get_or}
use Rattle.rules.specs.Schema.{Item, last_type}
use Rattle.type_table.specs.TypeTableLaws.{filling_none, filling_all, filling_other, filling_room, filling_type}
use Rattle.type_table.proofs.fill_table.Goals as goal
use Rattle.type_table.proofs.fill_table.Goals.{Then-from-le-LAST, then-from-le-LAST, else-from-le-LAST}

kind : (c : Then-from-le-LAST) → get_or c.args.words.now c.loop-at.at 0 % 16 ≤ last_type
kind c = omega (arith, c.if-from-le-LAST.true, ap (λ (it : Item). it.tag) c.from.ensures)

room : (c : Then-from-le-LAST) → c.loop-at.types < 1024
room c = filling_room c.loop-at.invariant c.requires.0 c.loop-at-test.true (kind c)

pub loop-at-init : goal.loop-at-init
loop-at-init c = filling_none _ _ c.requires.1.1

pub type_size-requires : goal.type_size-requires
type_size-requires c = record {
  words_value = (c.requires.0, c.requires.1.0);
  place_in_bounds = (c.loop-at-test.true, kind (goal.at.type_size-requires c).Then-from-le-LAST);
  tabled = rw c.loop-at.invariant.count at c.loop-at.invariant.tabled;
}

pub offset_bounds-table-t : goal.offset_bounds-table-t
offset_bounds-table-t c = omega (arith, room (goal.at.offset_bounds-table-t c).Then-from-le-LAST)

pub bounds-table-t : goal.bounds-table-t
bounds-table-t c = omega (arith, room (goal.at.bounds-table-t c).Then-from-le-LAST, c.loop-at.invariant.tabled.0)

pub overflow_add-types : goal.overflow_add-types
overflow_add-types c = omega (arith, room (goal.at.overflow_add-types c).Then-from-le-LAST)

pub loop-at-preserved : goal.loop-at-preserved
loop-at-preserved c = elim c.if-from-le-LAST.branch [
  | then-from-le-LAST w ↦
      rw (w.table-is, w.types-is, w.word.ensures)
      (filling_type c.loop-at.invariant c.requires.0 c.loop-at-test.true (omega (arith, w.if-from-le-LAST.true, ap (λ (it : Item). it.tag) c.from.ensures)) (rw c.loop-at.invariant.count w.type_size.ensures.type_measured))
  | else-from-le-LAST w ↦
      rw (w.table-is, w.types-is)
      (filling_other c.loop-at.invariant c.requires.0 c.loop-at-test.true (omega (arith, w.if-from-le-LAST.false, ap (λ (it : Item). it.tag) c.from.ensures)))
]

pub returns : goal.returns
returns c = filling_all c.loop-at.invariant c.loop-at-test.false
