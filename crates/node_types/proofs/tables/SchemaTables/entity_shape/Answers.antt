-- `node_types::tables::SchemaTables::entity_shape` meets its contract: what the search finds is the line of the name, with its attributes behind it.
use native.Mathlib.Omega.{arith}
use mathlib.Core.Path.{sym, ◌∙◌}
use Rattle.std.specs.Prelude.{◌<◌, ◌≡◌, length, drop, get_or}
use Rattle.rules.specs.Schema.{entity_line}
use Rattle.rules.specs.Typing.{from_line}
use Rattle.schema.specs.Items.{items_of}
use Rattle.node_types.specs.Named.{entity_place}
use Rattle.node_types.specs.ShapeLaws.{entity_unknown, entity_known}
use Rattle.node_types.proofs.tables.SchemaTables.entity_shape.Goals as goal
use Rattle.node_types.proofs.tables.SchemaTables.entity_shape.Goals.{In-Ok}

-- what the search says of the schema's lines
there :
    (c : In-Ok) →
    let entities = c.args.self.now.entities.now in
    let words = c.args.self.now.types.words.now in
    (c.in-Ok.i < length entities)
    × (entity_place (get_or entities c.in-Ok.i 0) < length words)
    × (from_line entity_line c.args.name (items_of words) ≡ items_of (drop (entity_place (get_or entities c.in-Ok.i 0)) words))
there c = c.args.self.now.entity_table.found c.args.name c.in-Ok.i (sym c.search_key.ensures ∙ c.in-Ok.is)

pub returns-in_default : goal.returns-in_default
returns-in_default c = entity_unknown _ _ (c.args.self.now.entity_table.missing c.args.name c.in_default.field-0 (sym c.search_key.ensures ∙ c.in_default.is))

pub offset_bounds-entities-i : goal.offset_bounds-entities-i
offset_bounds-entities-i c = omega (arith, (there (goal.at.offset_bounds-entities-i c).In-Ok).0)

pub bounds-entities-i : goal.bounds-entities-i
bounds-entities-i c = (there (goal.at.bounds-entities-i c).In-Ok).0

pub attributes_end-requires : goal.attributes_end-requires
attributes_end-requires c = omega (arith, (there (goal.at.attributes_end-requires c).In-Ok).1)

pub returns : goal.returns
returns c =
    entity_known c.args.self.now.types.words.now c.args.name c.args.self.now.types.good.good-items (there (goal.at.returns c).In-Ok).1 (there (goal.at.returns c).In-Ok).2 (omega arith) c.attributes_end.ensures
