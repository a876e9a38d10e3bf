-- `full_types::await_set` meets its contract: the type's line says whether it is a set type, and its elements' type.
use native.Mathlib.Omega.{arith}
use Prim.Native.Nat.{◌%◌, ◌/◌, ◌^◌}
use mathlib.Core.Path.{◌≡◌, sym, ap, ◌∙◌}
use lib.ListN.{get_or}
use Rattle.rules.specs.Schema.{Item}
use Rattle.type_table.specs.TypeTableLaws.{TypeStands}
use Rattle.type_table.specs.TypeTableLaws.{known_type}
use Rattle.full_types.specs.RequiredLaws.{known_inside, known_stands, set-none, set_stacked}
use Rattle.full_types.proofs.await_set.Goals as goal
use Rattle.full_types.proofs.await_set.Goals.{After-from-item, After-size_at-place}

-- the type stands there
there : (c : After-size_at-place) → TypeStands c.args.types.now.words.now c.args.t c.size_at-place.result.place
there c = known_stands (known_type c.args.types.now c.requires.0) c.size_at-place.ensures.0

tag : (c : After-from-item) → c.from-item.result.tag ≡ get_or c.args.types.now.words.now c.size_at-place.result.place 0 % 16
tag c = ap (λ (it : Item). it.tag) c.from-item.ensures

value : (c : After-from-item) → c.from-item.result.value ≡ get_or c.args.types.now.words.now c.size_at-place.result.place 0 / 16 % 2 ^ 36
value c = ap (λ (it : Item). it.value) c.from-item.ensures

pub size_at-place-requires : goal.size_at-place-requires
size_at-place-requires c = known_inside (known_type c.args.types.now c.requires.0)

pub offset_bounds-types-place : goal.offset_bounds-types-place
offset_bounds-types-place c = omega (arith, (there (goal.at.offset_bounds-types-place c).After-size_at-place).inside)

pub bounds-types-place : goal.bounds-types-place
bounds-types-place c = (there (goal.at.bounds-types-place c).After-size_at-place).inside

pub returns-then-item-ne-SET : goal.returns-then-item-ne-SET
returns-then-item-ne-SET c = set-none (there (goal.at.returns-then-item-ne-SET c).After-size_at-place) (λ e. c.if-item-ne-SET.true (tag (goal.at.returns-then-item-ne-SET c).After-from-item ∙ e))

pub returns : goal.returns
returns c =
    rw (value (goal.at.returns c).After-from-item)
    (set_stacked (there (goal.at.returns c).After-size_at-place) c.args.waiting.now c.args.left (sym (tag (goal.at.returns c).After-from-item) ∙ c.if-item-ne-SET.false) c.requires.1)
