-- `node_types::tables::SchemaTables::type_shape` meets its contract, by the kind that the line of the type says.
use Prim.Native.Nat.{◌/◌, ◌%◌, ◌^◌}
use native.Mathlib.Omega.{arith}
use mathlib.Core.Path.{◌≡◌, sym, ap, ◌∙◌}
use lib.ListN.{get_or}
use Rattle.rules.specs.Schema.{Item}
use Rattle.type_table.specs.TypeTableLaws.{TypeStands, tabled_stands, tabled_inside}
use Rattle.node_types.specs.ShapeLaws.{type_none, type_leaf, type_known, type_entity, type_any}
use Rattle.node_types.proofs.tables.SchemaTables.type_shape.Goals as goal
use Rattle.node_types.proofs.tables.SchemaTables.type_shape.Goals.{After-from-item, After-size_at-place}

-- the type stands there
there : (c : After-size_at-place) → TypeStands c.args.self.now.types.words.now c.args.t c.size_at-place.result.place
there c =
    tabled_stands c.args.self.now.types.words.now c.args.self.now.types.table.now c.args.self.now.types.good.good-items c.args.self.now.types.good.tabled c.if-self-t.false c.size_at-place.ensures.0

-- what its line says
kind : (c : After-from-item) → c.from-item.result.tag ≡ get_or c.args.self.now.types.words.now c.size_at-place.result.place 0 % 16
kind c = ap (λ (it : Item). it.tag) c.from-item.ensures

name : (c : After-from-item) → c.from-item.result.value ≡ get_or c.args.self.now.types.words.now c.size_at-place.result.place 0 / 16 % 2 ^ 36
name c = ap (λ (it : Item). it.value) c.from-item.ensures

pub returns-then-self-t : goal.returns-then-self-t
returns-then-self-t c =
    type_none _ _ c.args.self.now.types.good.good-items (omega (arith, c.args.self.now.types.good.all_types, c.if-self-t.true))

pub size_at-place-requires : goal.size_at-place-requires
size_at-place-requires c =
    tabled_inside c.args.self.now.types.words.now c.args.self.now.types.table.now c.args.self.now.types.good.good-items c.args.self.now.types.good.tabled c.if-self-t.false

pub offset_bounds-words-place : goal.offset_bounds-words-place
offset_bounds-words-place c = omega (arith, (there (goal.at.offset_bounds-words-place c).After-size_at-place).inside)

pub bounds-words-place : goal.bounds-words-place
bounds-words-place c = (there (goal.at.bounds-words-place c).After-size_at-place).inside

pub overflow_add-result : goal.overflow_add-result
overflow_add-result c = omega (arith, (there (goal.at.overflow_add-result c).After-size_at-place).inside)

pub overflow_add-place : goal.overflow_add-place
overflow_add-place c = omega (arith, (there (goal.at.overflow_add-place c).After-size_at-place).inside)

pub attributes_end-requires : goal.attributes_end-requires
attributes_end-requires c = omega (arith, (there (goal.at.attributes_end-requires c).After-size_at-place).inside)

pub returns-in-9 : goal.returns-in-9
returns-in-9 c =
    rw (type_entity (there (goal.at.returns-in-9 c).After-size_at-place) (sym (kind (goal.at.returns-in-9 c).After-from-item) ∙ c.in-9.is), ← name (goal.at.returns-in-9 c).After-from-item) c.entity_shape.ensures

pub returns-in-0-to-6 : goal.returns-in-0-to-6
returns-in-0-to-6 c =
    type_leaf (there (goal.at.returns-in-0-to-6 c).After-size_at-place) (omega (arith, kind (goal.at.returns-in-0-to-6 c).After-from-item))

pub returns-in-7 : goal.returns-in-7
returns-in-7 c = let x = kind (goal.at.returns-in-7 c).After-from-item in
    type_known (there (goal.at.returns-in-7 c).After-size_at-place) (omega (arith, x)) (omega (arith, x)) c.attributes_end.ensures

pub returns-in_default : goal.returns-in_default
returns-in_default c =
    type_any (there (goal.at.returns-in_default c).After-size_at-place) (omega (arith, kind (goal.at.returns-in_default c).After-from-item))
