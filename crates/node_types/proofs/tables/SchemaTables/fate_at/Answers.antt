-- `node_types::tables::SchemaTables::fate_at` meets its contract: a field by the type above it, a root by itself.
use Prim.Native.Nat.{◌+◌, ◌-◌}
use native.Mathlib.Omega.{arith}
use mathlib.Core.Path.{◌≡◌, sym, ◌∙◌}
use lib.ListN.{drop, get_or}
use Rattle.rules.specs.Tries.{kind_of, id_of}
use Rattle.rules.specs.Typing.{field_type, fate, fate_below}
use Rattle.rules.proofs.TypingLaws.{Small, lawful_small}
use Rattle.rows.specs.Words.{type_from, number_for, row_in}
use Rattle.rows.specs.States.{rows_of}
use Rattle.schema.specs.Items.{items_of}
use Rattle.type_table.specs.TypeTableLaws.{good_lawful}
use Rattle.node_types.specs.FateLaws.{row_fate, field_dropped, field_number, field_fate, root_missing, root_number, root_fate}
use Rattle.node_types.proofs.tables.SchemaTables.fate_at.Goals as goal
use Rattle.node_types.proofs.tables.SchemaTables.fate_at.Goals.{After-field_type-number, After-from-parts, Else-parts-eq0, Start, Then-parts-eq0}

-- the types that lines name are few
small : (s : Start) → Small (items_of s.args.self.now.types.words.now)
small s = lawful_small (items_of s.args.self.now.types.words.now) (good_lawful s.args.self.now.types.words.now s.args.self.now.types.good.good-items)

-- that is said by its step and whether it has field children
below :
    (c : After-from-parts) →
    (let a = c.args in fate (items_of a.self.now.types.words.now) a.request (type_from a.above) (row_in (get_or a.rows.now a.i 0)) (rows_of (drop (a.i + 1) a.rows.now))) ≡ fate_below (items_of c.args.self.now.types.words.now) c.args.request (c.args.above - 1) c.step-step.result c.has_fields-children.result
below c =
    row_fate (items_of c.args.self.now.types.words.now) c.args.request c.args.above (row_in (get_or c.args.rows.now c.args.i 0))
    (rows_of (drop (c.args.i + 1) c.args.rows.now))
    c.if-above-eq0.false c.step-step.ensures c.has_fields-children.ensures

is_field : (c : Then-parts-eq0) → kind_of c.step-step.result ≡ 0
is_field c = sym c.from-parts.ensures.0 ∙ c.if-parts-eq0.true

is-root : (c : Else-parts-eq0) → kind_of c.step-step.result ≡ 0 → ⊥
is-root c e = c.if-parts-eq0.false (c.from-parts.ensures.0 ∙ e)

field-given :
    (c : After-field_type-number) →
    c.field_type-number.result ≡ number_for (field_type (items_of c.args.self.now.types.words.now) c.args.request (c.args.above - 1) (id_of c.step-step.result))
field-given c = c.field_type-number.ensures ∙ rw c.from-parts.ensures.1

pub returns-then-above-eq0 : goal.returns-then-above-eq0
returns-then-above-eq0 c = rw c.if-above-eq0.true

pub has_fields-children-requires : goal.has_fields-children-requires
has_fields-children-requires c = c.requires

pub field_type-number-requires : goal.field_type-number-requires
field_type-number-requires c = omega (arith, c.if-above-eq0.false)

pub returns-then-number-eq0 : goal.returns-then-number-eq0
returns-then-number-eq0 c =
    below (goal.at.returns-then-number-eq0 c).After-from-parts
    ∙ field_dropped (items_of c.args.self.now.types.words.now) (small (goal.at.returns-then-number-eq0 c).Start) c.args.request (c.args.above - 1) c.step-step.result c.has_fields-children.result
    (is_field (goal.at.returns-then-number-eq0 c).Then-parts-eq0) (field-given (goal.at.returns-then-number-eq0 c).After-field_type-number) c.if-number-eq0.true

pub typed_fate-requires : goal.typed_fate-requires
typed_fate-requires c =
    (omega (arith, c.if-number-eq0.false), field_number (items_of c.args.self.now.types.words.now) (small (goal.at.typed_fate-requires c).Start) c.args.request (c.args.above - 1) c.step-step.result c.has_fields-children.result (is_field (goal.at.typed_fate-requires c).Then-parts-eq0) (field-given (goal.at.typed_fate-requires c).After-field_type-number) c.if-number-eq0.false)

pub returns-then-parts-eq0 : goal.returns-then-parts-eq0
returns-then-parts-eq0 c =
    rw (
      below (goal.at.returns-then-parts-eq0 c).After-from-parts,
      field_fate (items_of c.args.self.now.types.words.now) (small (goal.at.returns-then-parts-eq0 c).Start) c.args.request (c.args.above - 1) c.step-step.result c.has_fields-children.result
          (is_field (goal.at.returns-then-parts-eq0 c).Then-parts-eq0) (field-given (goal.at.returns-then-parts-eq0 c).After-field_type-number) c.if-number-eq0.false,
    )
    c.typed_fate.ensures

pub returns-then-number-eq0-2 : goal.returns-then-number-eq0-2
returns-then-number-eq0-2 c =
    below (goal.at.returns-then-number-eq0-2 c).After-from-parts
    ∙ root_missing (items_of c.args.self.now.types.words.now) (small (goal.at.returns-then-number-eq0-2 c).Start) c.args.request (c.args.above - 1) c.step-step.result c.has_fields-children.result
    (is-root (goal.at.returns-then-number-eq0-2 c).Else-parts-eq0) c.root_type-number.ensures c.if-number-eq0-2.true

pub typed_fate-requires-2 : goal.typed_fate-requires-2
typed_fate-requires-2 c =
    (omega (arith, c.if-number-eq0-2.false), root_number (items_of c.args.self.now.types.words.now) (small (goal.at.typed_fate-requires-2 c).Start) c.args.request (c.args.above - 1) c.step-step.result c.has_fields-children.result (is-root (goal.at.typed_fate-requires-2 c).Else-parts-eq0) c.root_type-number.ensures c.if-number-eq0-2.false)

pub returns : goal.returns
returns c =
    rw (
      below (goal.at.returns c).After-from-parts,
      root_fate (items_of c.args.self.now.types.words.now) (small (goal.at.returns c).Start) c.args.request (c.args.above - 1) c.step-step.result c.has_fields-children.result
          (is-root (goal.at.returns c).Else-parts-eq0) c.root_type-number.ensures c.if-number-eq0-2.false,
    )
    c.typed_fate-2.ensures
