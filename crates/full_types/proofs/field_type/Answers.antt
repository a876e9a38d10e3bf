-- `full_types::field_type` meets its contract: what the search names is the field's attribute.
use mathlib.Core.Path.{◌≡◌, sym, ap, ◌∙◌}
use Rattle.rules.specs.Paths.{attribute_type}
use Rattle.rows.specs.Words.{number_for}
use Rattle.schema.specs.Items.{items_of}
use Rattle.type_table.specs.NamedLaws.{named_attribute}
use Rattle.full_types.specs.RequiredLaws.{field_none, field_some}
use Rattle.full_types.proofs.field_type.Goals as goal
use Rattle.full_types.proofs.field_type.Goals.{After-type_named-number}

number : (c : After-type_named-number) → c.type_named-number.result ≡ number_for ((attribute_type c.args.name (items_of c.args.attributes.now)))
number c = c.type_named-number.ensures ∙ ap number_for (named_attribute c.args.attributes.now c.args.name c.requires)

pub returns-then-number-eq0 : goal.returns-then-number-eq0
returns-then-number-eq0 c = field_none ((attribute_type c.args.name (items_of c.args.attributes.now))) (sym (number (goal.at.returns-then-number-eq0 c).After-type_named-number) ∙ c.if-number-eq0.true)

pub returns : goal.returns
returns c = rw (number (goal.at.returns c).After-type_named-number) (field_some ((attribute_type c.args.name (items_of c.args.attributes.now))) (λ e. c.if-number-eq0.false (number (goal.at.returns c).After-type_named-number ∙ e)))
