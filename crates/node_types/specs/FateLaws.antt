-- Laws of what becomes of a node: its root's type, its fields, its numbers. No contract cites this file.
use Rattle.std.specs.Prelude.{ℕ, zero, suc, ◌+◌, ◌-◌, ◌≤◌, ◌<◌, Bool, false, ◌&&◌, List, ◌≡◌, refl, eqb, length, drop, get_or}
use Rattle.std.proofs.Common.{add-one, arith, sym, ap, ◌∙◌, eq-eqb, ne_eqb, drop_of_length-le, length-drop, drop-cons, take_all}
use Rattle.std.proofs.Math.Option.{Option, none, some}
use Rattle.rules.specs.Schema.{Item, literal_line, context_line}
use Rattle.rules.specs.Tries.{Row, kind_of, id_of, action_of}
use Rattle.rules.specs.Typing.{type_named, root_type, field_type, shape_of, of_shape, is_field, has_fields, Fate, stays, dropped, wrong, fate, fate_below}
use Rattle.rules.proofs.TypingLaws.{Small, field_small, root_small}
use Rattle.rows.specs.Words.{type_from, number_for, row_in, depth_in, step_in}
use Rattle.rows.specs.States.{rows_of}
use Rattle.schema.specs.Items.{items_of}
use Rattle.type_table.specs.Tables.{value_named}
use Rattle.type_table.specs.NamedLaws.{named_attribute}
use Rattle.node_types.specs.Named.{between, PlacesFound}
use Rattle.node_types.specs.Shapes.{AttributesAt, ShapeAt, FateGiven}
use Rattle.node_types.specs.declared.fate.Fate.TheVariants.{Stays}
use Rattle.node_types.specs.declared.places.Places.{Places}
use Rattle.node_types.specs.declared.shape.Shape.{Shape as ShapeFound}
use Rattle.node_types.specs.declared.shape.Shape.TheVariants.{Known, Leaf, NotStrict}

-- ---- whether the row at a place has field children

module _ (rows : List ℕ) (i : ℕ) where
  -- no row is behind it
  pub fields_none : length rows ≤ i + 1 → false ≡ has_fields (row_in (get_or rows i 0)) (rows_of (drop (i + 1) rows))
  fields_none h = rw (drop_of_length-le rows h)

  module _ (more : i + 1 < length rows) where
    fields_next :
        has_fields (row_in (get_or rows i 0)) (rows_of (drop (i + 1) rows))
        ≡ (eqb (depth_in (get_or rows (i + 1) 0)) (suc (depth_in (get_or rows i 0))) && is_field (step_in (get_or rows (i + 1) 0)))
    fields_next = rw (drop-cons rows (i + 1) 0 more)

    -- the next is not one deeper
    pub fields_level :
        (depth_in (get_or rows (i + 1) 0) ≡ depth_in (get_or rows i 0) + 1 → ⊥)
        → false ≡ has_fields (row_in (get_or rows i 0)) (rows_of (drop (i + 1) rows))
    fields_level h = rw (fields_next, ne_eqb _ (suc (depth_in (get_or rows i 0))) (λ e. h (e ∙ sym (add-one _))))

    -- it is, and its kind says it
    pub fields_kind :
        depth_in (get_or rows (i + 1) 0) ≡ depth_in (get_or rows i 0) + 1
        → eqb (kind_of (step_in (get_or rows (i + 1) 0))) 0 ≡ has_fields (row_in (get_or rows i 0)) (rows_of (drop (i + 1) rows))
    fields_kind h = rw (fields_next, eq-eqb _ (suc (depth_in (get_or rows i 0))) (h ∙ add-one _))

-- ---- the type of a root, by its kind

module _ (items : List Item) (request step : ℕ) where
  pub root_principal : kind_of step ≡ 1 → 1025 ≡ number_for (root_type items request step)
  root_principal e = rw e

  pub root_resource : kind_of step ≡ 3 → 1026 ≡ number_for (root_type items request step)
  root_resource e = rw e

-- a literal and an action are found among the schema's lines
module _ {words : List ℕ} {places : Places} (placed : PlacesFound words places) (request step key : ℕ) {number : ℕ} where
  module _ (given : number ≡ number_for (value_named (between words places.literals places.actions) key)) where
    literal : number ≡ number_for (type_named literal_line key (items_of words))
    literal = given ∙ ap number_for (placed.literals_named key)

    pub root_action : kind_of step ≡ 2 → key ≡ action_of request → number ≡ number_for (root_type (items_of words) request step)
    root_action kind named = literal ∙ rw (named, kind)

    pub root_literal :
        (kind_of step ≡ 1 → ⊥) → (kind_of step ≡ 2 → ⊥) → (kind_of step ≡ 3 → ⊥) → (kind_of step ≡ 4 → ⊥)
        → key ≡ id_of step
        → number ≡ number_for (root_type (items_of words) request step)
    root_literal p a r c named =
        literal ∙ rw (named, ne_eqb (kind_of step) 1 p, ne_eqb (kind_of step) 2 a, ne_eqb (kind_of step) 3 r, ne_eqb (kind_of step) 4 c)

  pub root_context :
      number ≡ number_for (value_named (between words places.actions (length words)) key)
      → kind_of step ≡ 4
      → key ≡ action_of request
      → number ≡ number_for (root_type (items_of words) request step)
  root_context given kind named =
      let all : between words places.actions (length words) ≡ drop places.actions words =
      take_all (length words - places.actions) (drop places.actions words) (omega (arith, length-drop places.actions words)) in
      let context : number ≡ number_for (type_named context_line key (items_of words)) = given ∙ rw all (ap number_for (placed.actions_named key)) in
      context ∙ rw (named, kind)

-- ---- the type of a field, by what the type above it says of fields

module _ (words : List ℕ) (request t field : ℕ) where
  pub field_lacking :
      (found : ShapeFound)
      → ShapeAt words (shape_of (items_of words) request t) found
      → ((first end : ℕ) → found ≡ Known first end → ⊥)
      → 0 ≡ number_for (field_type (items_of words) request t field)
  field_lacking (Known first end) there other = absurd (other first end refl)
  field_lacking Leaf there other = rw (number_for, field_type, there)
  field_lacking NotStrict there other = rw (number_for, field_type, there)

  pub field_held :
      {first end : ℕ}
      → AttributesAt words (shape_of (items_of words) request t) first end
      → value_named (between words first end) field ≡ field_type (items_of words) request t field
  field_held {first} {end} there = named_attribute (between words first end) field there.ascend ∙ rw (field_type, there.those)

-- ---- a node with a type

pub given_stays : {fate : Fate} {number : ℕ} → 0 < number → number ≤ 1026 → fate ≡ stays (number - 1) → FateGiven fate (Stays number)
given_stays {fate} {number} there small e = (number - 1, e, omega arith, small)

-- ---- numbers of types

number_none : (o : Option ℕ) → number_for o ≡ 0 → o ≡ none
number_none none e = refl
number_none (some t) e = absurd (omega (arith, e))

number_some : (o : Option ℕ) → (number_for o ≡ 0 → ⊥) → o ≡ some (number_for o - 1)
number_some none e = absurd (e refl)
number_some (some t) e = ap some (omega arith)

module _ (items : List Item) (small : Small items) (request t step : ℕ) (children : Bool) where
  -- a field that the type lacks, and one that it has
  module _ (field : kind_of step ≡ 0) {number : ℕ} (given : number ≡ number_for (field_type items request t (id_of step))) where
    pub field_dropped : number ≡ 0 → fate_below items request t step children ≡ dropped
    field_dropped e = rw (field, number_none (field_type items request t (id_of step)) (sym given ∙ e))

    module _ (there : number ≡ 0 → ⊥) where
      field_there : field_type items request t (id_of step) ≡ some (number - 1)
      field_there = number_some (field_type items request t (id_of step)) (λ e. there (given ∙ e)) ∙ rw given

      pub field_number : number ≤ 1026
      field_number = omega (arith, field_small items small request t (id_of step) (number - 1) field_there)

      pub field_fate : fate_below items request t step children ≡ of_shape (shape_of items request (number - 1)) (number - 1) children
      field_fate = rw (field, field_there)

  -- a root that the schema lacks, and one that it has
  module _ (root : kind_of step ≡ 0 → ⊥) {number : ℕ} (given : number ≡ number_for (root_type items request step)) where
    pub root_missing : number ≡ 0 → fate_below items request t step children ≡ wrong 9
    root_missing e = rw (ne_eqb (kind_of step) 0 root, number_none (root_type items request step) (sym given ∙ e))

    module _ (there : number ≡ 0 → ⊥) where
      root_there : root_type items request step ≡ some (number - 1)
      root_there = number_some (root_type items request step) (λ e. there (given ∙ e)) ∙ rw given

      pub root_number : number ≤ 1026
      root_number = omega (arith, root_small items small request step (number - 1) root_there)

      pub root_fate : fate_below items request t step children ≡ of_shape (shape_of items request (number - 1)) (number - 1) children
      root_fate = rw (ne_eqb (kind_of step) 0 root, root_there)

-- a row below one that stays, by its step and whether it has field children
pub row_fate :
    (items : List Item) (request above : ℕ) (row : Row) (rows : List Row) {step : ℕ} {children : Bool}
    → (above ≡ 0 → ⊥)
    → step ≡ row.step
    → children ≡ has_fields row rows
    → fate items request (type_from above) row rows ≡ fate_below items request (above - 1) step children
row_fate items request zero row rows {step} {children} there is-step are-children = absurd (there refl)
row_fate items request (suc t) row rows {step} {children} there is-step are-children =
    let same : t ≡ suc t - 1 = omega arith in
    ap (λ (u : ℕ). fate_below items request u row.step (has_fields row rows)) same
    ∙ ap (λ (s : ℕ). fate_below items request (suc t - 1) s (has_fields row rows)) (sym is-step)
    ∙ ap (λ (c : Bool). fate_below items request (suc t - 1) step c) (sym are-children)
