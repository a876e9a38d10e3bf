-- `type_table::type_size` meets its contract: the attributes that are passed have so deep a trie and so many nodes.
use Prim.Native.Nat.{◌/◌, ◌%◌, ◌^◌, ◌<◌, ◌+◌}
use native.Mathlib.Omega.{arith}
use mathlib.Core.Bool.{true}
use mathlib.Core.Path.{◌≡◌, sym, ap, ◌∙◌}
use lib.ListN.{take, get_or}
use Rattle.rules.specs.Schema.{Item}
use Rattle.rules.proofs.TypeLaws.{types_in}
use Rattle.schema.specs.Items.{items_of}
use Rattle.type_table.specs.Tables.{attribute_at, TypeMeasured}
use Rattle.type_table.specs.TypeTableLaws.{TypeStands, sizing_none, sizing_small, sizing_next, sizing_all, stands_here, attribute_inside, passing_below}
use Rattle.type_table.proofs.type_size.Goals as goal
use Rattle.type_table.proofs.type_size.Goals.{After-from, In-loop-below, Start}

-- the type at the place, and its number
there : (c : Start) → TypeStands c.args.words.now (types_in (items_of (take c.args.place c.args.words.now))) c.args.place
there c = stands_here c.args.words.now c.args.place c.requires.place_in_bounds.0 c.requires.words_value.0 c.requires.place_in_bounds.1

-- the next word is an attribute
here : (c : In-loop-below) → attribute_at c.args.words.now c.loop-below.at ≡ true
here c = sym c.is_attribute.ensures ∙ c.loop-below-test.true

-- its type is lower, so its size is known
value : (c : After-from) → c.from.result.value ≡ get_or c.args.words.now c.loop-below.at 0 / 16 % 2 ^ 36
value c = ap (λ (it : Item). it.value) c.from.ensures

below : (c : After-from) → TypeStands c.args.words.now (types_in (items_of (take c.args.place c.args.words.now))) c.args.place → (attribute_at c.args.words.now c.loop-below.at ≡ true) → c.from.result.value < types_in (items_of (take c.args.place c.args.words.now))
below c there-here here-here = rw (value c) (passing_below c.loop-below.invariant.passing (here-here) (there-here).lines.below)

sized : (c : After-from) → TypeStands c.args.words.now (types_in (items_of (take c.args.place c.args.words.now))) c.args.place → (attribute_at c.args.words.now c.loop-below.at ≡ true) → TypeMeasured c.args.words.now c.from.result.value (get_or c.args.table.now c.from.result.value 0)
sized c there-here here-here = c.requires.tabled.1 c.from.result.value (below c there-here here-here)

pub loop-below-init : goal.loop-below-init
loop-below-init c = sizing_none c.args.words.now (c.args.place + 1) (omega arith)

pub bounds-words-at : goal.bounds-words-at
bounds-words-at c = omega (arith, attribute_inside _ _ (here (goal.at.bounds-words-at c).In-loop-below))

pub size_at-below-requires : goal.size_at-below-requires
size_at-below-requires c = omega (arith, below (goal.at.size_at-below-requires c).After-from (there (goal.at.size_at-below-requires c).Start) (here (goal.at.size_at-below-requires c).In-loop-below), (there (goal.at.size_at-below-requires c).Start).lines.small, c.requires.tabled.0)

pub overflow_add-nodes : goal.overflow_add-nodes
overflow_add-nodes c = omega (arith, sizing_small c.loop-below.invariant)

pub overflow_add-nodes-in-loop-below : goal.overflow_add-nodes-in-loop-below
overflow_add-nodes-in-loop-below c = omega (arith, sizing_small c.loop-below.invariant)

pub loop-below-smaller : goal.loop-below-smaller
loop-below-smaller c = omega (arith, attribute_inside _ _ (here (goal.at.loop-below-smaller c).In-loop-below))

pub loop-below-preserved : goal.loop-below-preserved
loop-below-preserved c = rw (c.max-depth.ensures, c.min.ensures, c.min-nodes.ensures, c.size_at-below.ensures.1.0, c.size_at-below.ensures.1.1)
    (sizing_next c.loop-below.invariant (here (goal.at.loop-below-preserved c).In-loop-below) (value (goal.at.loop-below-preserved c).After-from) (sized (goal.at.loop-below-preserved c).After-from (there (goal.at.loop-below-preserved c).Start) (here (goal.at.loop-below-preserved c).In-loop-below)))

pub returns : goal.returns
returns c = let small = sizing_small c.loop-below.invariant in
    record { type_measured = sizing_all _ _ _ _ _ _ (there (goal.at.returns c).Start) c.loop-below.invariant (sym c.is_attribute.ensures ∙ c.loop-below-test.false) (omega arith); place_bound = (omega arith, (omega arith, omega arith)) }
