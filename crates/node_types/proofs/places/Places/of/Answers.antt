-- `node_types::places::Places::of` meets its contract: what is found is so of the words before the next one.
use Prim.Native.Nat.{◌/◌, ◌%◌, ◌^◌, ◌≤◌, ◌<◌}
use native.Mathlib.Omega.{arith}
use mathlib.Core.Path.{◌≡◌, sym, ap, ◌∙◌}
use lib.ListN.{get_or}
use Rattle.rules.specs.Schema.{Item, attribute_line, literal_line}
use Rattle.type_table.specs.TypeTableLaws.{good_all, key_small}
use Rattle.node_types.specs.NamedLaws.{before_literals, before_actions, up_inside}
use Rattle.node_types.specs.PlacesLaws.{tabling_none, tabling_other, tabling_room, tabling_next, tabling_all, reaches_next, reaches_no_more, placed}
use Rattle.node_types.proofs.places.Places.of.Goals as goal
use Rattle.node_types.proofs.places.Places.of.Goals.{After-from-item, Then-item-eq-ENTITY_LINE, then-item-eq-ENTITY_LINE, else-item-eq-ENTITY_LINE, then-item-le-ATTRIBUTE_LINE, else-item-le-ATTRIBUTE_LINE, then-item-le-LITERAL_LINE, else-item-le-LITERAL_LINE}

-- what the next word says
tag : (c : After-from-item) → c.from-item.result.tag ≡ get_or c.args.words.now c.loop-at.at 0 % 16
tag c = ap (λ (it : Item). it.tag) c.from-item.ensures

key : (c : After-from-item) → c.from-item.result.key ≡ get_or c.args.words.now c.loop-at.at 0 / 2 ^ 40
key c = ap (λ (it : Item). it.key) c.from-item.ensures

-- it is an entity type, whose name is an id, and there is room for it
small : (c : After-from-item) → c.from-item.result.key ≤ 65535
small c =
    rw (key c) (key_small c.args.words.now c.loop-at.at (good_all c.args.words.now c.requires.0) c.loop-at-test.true)

room : (c : Then-item-eq-ENTITY_LINE) → (c.from-item.result.tag ≡ get_or c.args.words.now c.loop-at.at 0 % 16) → c.loop-at.count < 1024
room c tag-here =
    tabling_room c.loop-at.invariant.1 c.loop-at-test.true c.requires.0 (sym tag-here ∙ c.if-item-eq-ENTITY_LINE.true)

pub loop-at-init : goal.loop-at-init
loop-at-init c = (omega arith, tabling_none _ _ c.requires.1.1, omega arith, omega arith)

pub overflow_mul-entities : goal.overflow_mul-entities
overflow_mul-entities c = omega (arith, small (goal.at.overflow_mul-entities c).After-from-item)

pub overflow_add-entities : goal.overflow_add-entities
overflow_add-entities c =
    omega (arith, small (goal.at.overflow_add-entities c).After-from-item, c.loop-at-test.true, c.requires.1.0)

pub offset_bounds-entities-count : goal.offset_bounds-entities-count
offset_bounds-entities-count c = omega (arith, room (goal.at.offset_bounds-entities-count c).Then-item-eq-ENTITY_LINE (tag (goal.at.offset_bounds-entities-count c).After-from-item))

pub bounds-entities-count : goal.bounds-entities-count
bounds-entities-count c = omega (arith, room (goal.at.bounds-entities-count c).Then-item-eq-ENTITY_LINE (tag (goal.at.bounds-entities-count c).After-from-item), c.loop-at.invariant.1.long)

pub overflow_add-count : goal.overflow_add-count
overflow_add-count c = omega (arith, room (goal.at.overflow_add-count c).Then-item-eq-ENTITY_LINE (tag (goal.at.overflow_add-count c).After-from-item))

pub loop-at-preserved : goal.loop-at-preserved
loop-at-preserved c = (
  omega (arith, c.loop-at-test.true),
  elim c.if-item-eq-ENTITY_LINE.branch [
    | then-item-eq-ENTITY_LINE w ↦ rw (w.entities-is, w.count-is) (tabling_next c.loop-at.invariant.1 c.loop-at-test.true c.requires.0 (sym (tag (goal.at.loop-at-preserved c).After-from-item) ∙ w.if-item-eq-ENTITY_LINE.true) (omega (arith, key (goal.at.loop-at-preserved c).After-from-item)))
    | else-item-eq-ENTITY_LINE w ↦ rw (w.entities-is, w.count-is) (tabling_other c.loop-at.invariant.1 c.loop-at-test.true (λ e. w.if-item-eq-ENTITY_LINE.false (tag (goal.at.loop-at-preserved c).After-from-item ∙ e)))
  ],
  elim c.if-item-le-ATTRIBUTE_LINE.branch [
    | then-item-le-ATTRIBUTE_LINE w ↦ rw w.literals-is (reaches_next before_literals c.args.words.now c.loop-at.at c.requires.0 c.loop-at-test.true (omega (arith, tag (goal.at.loop-at-preserved c).After-from-item, w.if-item-le-ATTRIBUTE_LINE.true)))
    | else-item-le-ATTRIBUTE_LINE w ↦ rw w.literals-is (reaches_no_more before_literals c.args.words.now c.loop-at.at c.requires.0 c.loop-at-test.true (omega (arith, tag (goal.at.loop-at-preserved c).After-from-item, w.if-item-le-ATTRIBUTE_LINE.false)) c.loop-at.invariant.2)
  ],
  elim c.if-item-le-LITERAL_LINE.branch [
    | then-item-le-LITERAL_LINE w ↦ rw w.actions-is (reaches_next before_actions c.args.words.now c.loop-at.at c.requires.0 c.loop-at-test.true (omega (arith, tag (goal.at.loop-at-preserved c).After-from-item, w.if-item-le-LITERAL_LINE.true)))
    | else-item-le-LITERAL_LINE w ↦ rw w.actions-is (reaches_no_more before_actions c.args.words.now c.loop-at.at c.requires.0 c.loop-at-test.true (omega (arith, tag (goal.at.loop-at-preserved c).After-from-item, w.if-item-le-LITERAL_LINE.false)) c.loop-at.invariant.3)
  ],
)

pub returns : goal.returns
returns c =
    record { places_found = placed c.args.words.now _ c.requires.0 (omega (arith, c.loop-at.invariant.2, c.loop-at-test.false, up_inside attribute_line c.args.words.now)) (omega (arith, c.loop-at.invariant.3, c.loop-at-test.false, up_inside literal_line c.args.words.now)); entities_bound = (c.loop-at.invariant.1.few, tabling_all c.loop-at.invariant.1 c.requires.0 c.requires.1.0 c.loop-at-test.false) }
