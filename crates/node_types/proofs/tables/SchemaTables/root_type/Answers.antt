-- `node_types::tables::SchemaTables::root_type` meets its contract: the type by its kind, and a literal or an action by a search.
use native.Mathlib.Omega.{arith}
use mathlib.Core.List.{List}
use mathlib.Core.Path.{sym, ◌∙◌}
use Rattle.rules.specs.Schema.{Item}
use Rattle.schema.specs.Items.{items_of}
use Rattle.node_types.specs.FateLaws.{root_principal, root_action, root_resource, root_context, root_literal}
use Rattle.node_types.proofs.tables.SchemaTables.root_type.Goals as goal
use Rattle.node_types.proofs.tables.SchemaTables.root_type.Goals.{Start}

-- the schema's lines
abbrev items : (s : Start) → List Item
items s = items_of s.args.self.now.types.words.now

pub returns-in-1 : goal.returns-in-1
returns-in-1 c = root_principal (items (goal.at.returns-in-1 c).Start) c.args.request c.args.step (sym c.from-parts.ensures.0 ∙ c.in-1.is)

pub returns-in-2 : goal.returns-in-2
returns-in-2 c = root_action c.args.self.now.places_found c.args.request c.args.step c.from-action.result.action c.type_named.ensures (sym c.from-parts.ensures.0 ∙ c.in-2.is) c.from-action.ensures.1

pub returns-in-3 : goal.returns-in-3
returns-in-3 c = root_resource (items (goal.at.returns-in-3 c).Start) c.args.request c.args.step (sym c.from-parts.ensures.0 ∙ c.in-3.is)

pub returns-in-4 : goal.returns-in-4
returns-in-4 c = root_context c.args.self.now.places_found c.args.request c.args.step c.from-action.result.action c.type_named-in-4.ensures (sym c.from-parts.ensures.0 ∙ c.in-4.is) c.from-action.ensures.1

pub returns-in_default : goal.returns-in_default
returns-in_default c =
    root_literal c.args.self.now.places_found c.args.request c.args.step c.from-parts.result.id c.type_named-in_default.ensures
    (λ e. omega (arith, c.from-parts.ensures.0))
    (λ e. omega (arith, c.from-parts.ensures.0))
    (λ e. omega (arith, c.from-parts.ensures.0))
    (λ e. omega (arith, c.from-parts.ensures.0))
    c.from-parts.ensures.1
