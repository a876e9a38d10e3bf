-- Laws of what a type says of fields: attributes between two places of a schema's words. No contract cites this file.
use Rattle.std.specs.Prelude.{ℕ, ◌+◌, ◌-◌, ◌/◌, ◌%◌, ◌^◌, ◌≤◌, ◌<◌, true, List, [], ◌∷◌, ◌≡◌, ltb, length, drop, get_or}
use Rattle.std.proofs.Common.{arith, sym, ap, ◌∙◌, le-ltb, lt-ltb, ne_eqb}
use Rattle.rules.specs.Facts.{by_test}
use Rattle.rules.specs.Tries.{ids, principal_of, resource_of}
use Rattle.rules.specs.Schema.{Item, record_type, entity_type, entity_line, attribute_line, unknown, beyond, attributes_of}
use Rattle.rules.specs.Paths.{kind_at}
use Rattle.rules.specs.Typing.{
  from_line,
  Shape,
  known,
  leaf,
  not_strict,
  entity_shape,
  type_shape,
  shape_of,
  of_principal,
  of_resource,
}
use Rattle.rules.proofs.TypeLaws.{types_in, type_missing, Ascends, lawful_ascends}
use Rattle.schema.specs.Items.{item_in, items_of, good_items}
use Rattle.type_table.specs.TypeTableLaws.{
  items_at,
  good_all,
  good_lawful,
  key_small,
  TypeStands,
  stands_kind,
  stands_element,
  stands_attributes,
}
use Rattle.type_table.specs.NamedLaws.{attributes_cut, attributes_inside}
use Rattle.node_types.specs.NamedLaws.{from_found}
use Rattle.node_types.specs.Shapes.{AttributesAt}

-- ---- attributes between two places

module _ (words : List ℕ) (first : ℕ) {end : ℕ} (ends : end ≡ first + length (attributes_of (items_of (drop first words)))) where
  attributes_there :
      {shape : Shape}
      → first ≤ length words
      → shape ≡ known (attributes_of (items_of (drop first words)))
      → Ascends 0 (attributes_of (items_of (drop first words)))
      → AttributesAt words shape first end
  attributes_there begins says ascends = record {
    in_order = omega arith;
    inside = attributes_inside words first ends begins;
    those = says ∙ ap known (sym (attributes_cut words first ends));
    ascend = rw (attributes_cut words first ends) ascends;
  }

-- ---- the shape of an entity type

-- a name that no line has
pub entity_unknown : (items : List Item) (name : ℕ) → from_line entity_line name items ≡ [] → entity_shape items name ≡ not_strict
entity_unknown items name missing = by_test (ltb name ids) (λ e. rw (e, missing, entity_shape)) (λ e. rw e)

-- a name that is found
module _
    (words : List ℕ)
    (name : ℕ)
    {place : ℕ}
    (good : good_items words ≡ true)
    (inside : place < length words)
    (there : from_line entity_line name (items_of words) ≡ items_of (drop place words))
  where
    line : from_line entity_line name (items_of words) ≡ item_in (get_or words place 0) ∷ items_of (drop (place + 1) words)
    line = there ∙ items_at words place inside

    entity-shape : entity_shape (items_of words) name ≡ known (attributes_of (items_of (drop (place + 1) words)))
    entity-shape =
        let key = (from_found entity_line name unknown (items_of words) _ _ (good_lawful words good) line).1 in
        let small : name < ids = omega (arith, key, key_small words place (good_all words good) inside) in
        rw (lt-ltb name ids small, line, entity_shape)

    entity_ascends : Ascends 0 (attributes_of (items_of (drop (place + 1) words)))
    entity_ascends =
        let (tag, _, before, lawful) = from_found entity_line name unknown (items_of words) _ _ (good_lawful words good) line in
        let other : get_or words place 0 % 16 ≡ attribute_line → ⊥ = λ e. omega arith in
        let ascends = lawful_ascends (beyond before (item_in (get_or words place 0))) (items_of (drop (place + 1) words)) lawful in
        rw (ne_eqb (get_or words place 0 % 16) attribute_line other) at ascends

    pub entity_known :
        {first end : ℕ}
        → first ≡ place + 1
        → end ≡ first + length (attributes_of (items_of (drop first words)))
        → AttributesAt words (entity_shape (items_of words) name) first end
    entity_known {first} behind ends =
        attributes_there words first ends (omega arith) (rw behind entity-shape) (rw behind entity_ascends)

-- ---- the shape of a type

-- a number that no type has
pub type_none : (words : List ℕ) (t : ℕ) → good_items words ≡ true → types_in (items_of words) ≤ t → type_shape (items_of words) t ≡ leaf
type_none words t good past =
    let kind : kind_at (items_of words) t ≡ 0 = rw (type_missing (items_of words) (good_lawful words good) t past, kind_at) in
    rw kind

module _ {words : List ℕ} {t place : ℕ} (here : TypeStands words t place) where
  pub type_leaf : get_or words place 0 % 16 < record_type → type_shape (items_of words) t ≡ leaf
  type_leaf kind = rw (stands_kind here, lt-ltb (get_or words place 0 % 16) record_type kind)

  pub type_known :
      record_type ≤ get_or words place 0 % 16
      → get_or words place 0 % 16 < entity_type
      → {end : ℕ}
      → end ≡ place + 1 + length (attributes_of (items_of (drop (place + 1) words)))
      → AttributesAt words (type_shape (items_of words) t) (place + 1) end
  type_known low high ends =
      attributes_there words (place + 1) ends (omega (arith, here.inside))
      (rw (
        stands_kind here,
        le-ltb (get_or words place 0 % 16) record_type low,
        lt-ltb (get_or words place 0 % 16) entity_type high,
        stands_attributes here,
      ))
      here.lines.ascends

  pub type_entity :
      get_or words place 0 % 16 ≡ entity_type
      → type_shape (items_of words) t ≡ entity_shape (items_of words) (get_or words place 0 / 16 % 2 ^ 36)
  type_entity kind = rw (stands_kind here, kind, stands_element here)

  pub type_any : entity_type < get_or words place 0 % 16 → type_shape (items_of words) t ≡ not_strict
  type_any past =
      rw (
        stands_kind here,
        le-ltb (get_or words place 0 % 16) record_type (omega arith),
        le-ltb (get_or words place 0 % 16) entity_type (omega arith),
        ne_eqb (get_or words place 0 % 16) entity_type (omega arith),
      )

-- ---- the shape of a node's type, as a row has it

module _ (items : List Item) (request number : ℕ) where
  pub shape_principal : number ≡ 1025 → shape_of items request (number - 1) ≡ entity_shape items (principal_of request)
  shape_principal e = rw e

  pub shape_resource : number ≡ 1026 → shape_of items request (number - 1) ≡ entity_shape items (resource_of request)
  shape_resource e = rw e

  pub shape_type :
      0 < number
      → (number ≡ 1025 → ⊥)
      → (number ≡ 1026 → ⊥)
      → shape_of items request (number - 1) ≡ type_shape items (number - 1)
  shape_type some-type no-principal no-resource =
      rw (ne_eqb (number - 1) of_principal (omega arith), ne_eqb (number - 1) of_resource (omega arith))
