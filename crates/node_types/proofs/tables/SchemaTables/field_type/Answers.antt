-- `node_types::tables::SchemaTables::field_type` meets its contract: an attribute of the type above, found by a search.
use Prim.Native.Nat.{◌-◌}
use native.Mathlib.Omega.{arith}
use mathlib.Core.Path.{ap, ◌∙◌}
use Rattle.rules.specs.Typing.{shape_of}
use Rattle.rows.specs.Words.{number_for}
use Rattle.schema.specs.Items.{items_of}
use Rattle.node_types.specs.Shapes.{AttributesAt}
use Rattle.node_types.specs.FateLaws.{field_lacking, field_held}
use Rattle.node_types.proofs.tables.SchemaTables.field_type.Goals as goal
use Rattle.node_types.proofs.tables.SchemaTables.field_type.Goals.{In-Known}

-- the attributes of the type above
attributes : (c : In-Known) → let a = c.args in AttributesAt a.self.now.types.words.now (shape_of (items_of a.self.now.types.words.now) a.request (a.above - 1)) c.in-Known.first c.in-Known.end
attributes c = rw c.in-Known.is at c.shape-shape.ensures

pub returns-in_default : goal.returns-in_default
returns-in_default c =
    let a = c.args in
    field_lacking a.self.now.types.words.now a.request (a.above - 1) a.field c.shape-shape.result c.shape-shape.ensures
    (λ first end e. c.in_default.not-Known first end e)

pub offset_bounds-words-first : goal.offset_bounds-words-first
offset_bounds-words-first c = omega (arith, (attributes (goal.at.offset_bounds-words-first c).In-Known).in_order, (attributes (goal.at.offset_bounds-words-first c).In-Known).inside)

pub slice_bounds-type_named-count : goal.slice_bounds-type_named-count
slice_bounds-type_named-count c = (attributes (goal.at.slice_bounds-type_named-count c).In-Known).in_order

pub slice_bounds-type_named-start : goal.slice_bounds-type_named-start
slice_bounds-type_named-start c = omega (arith, (attributes (goal.at.slice_bounds-type_named-start c).In-Known).in_order, (attributes (goal.at.slice_bounds-type_named-start c).In-Known).inside)

pub slice_bounds-type_named-end : goal.slice_bounds-type_named-end
slice_bounds-type_named-end c = (attributes (goal.at.slice_bounds-type_named-end c).In-Known).inside

pub returns : goal.returns
returns c =
    let a = c.args in
    c.type_named.ensures ∙ ap number_for (field_held a.self.now.types.words.now a.request (a.above - 1) a.field (attributes (goal.at.returns c).In-Known))
