-- Document 01, 'Schema and typing': a manifest typed by a schema, in one walk over its rows.
use Rattle.std.specs.Prelude.{ℕ, suc, ◌+◌, ◌-◌, Bool, true, false, cond, ◌&&◌, List, [], ◌∷◌, ◌++◌, ltb, eqb, take, get_or}
use Rattle.std.proofs.Math.Option.{Option, none, some}
use Rattle.rules.specs.Numbers.{Answer, accepted, refused}
use Rattle.rules.specs.Tries.{Row, ids, fields, kind_of, id_of, principal_of, action_of, resource_of, is_entry}
use Rattle.rules.specs.Listing.{row_in_front, ◌>>=◌}
use Rattle.rules.specs.Walks.{Rule}
use Rattle.rules.specs.Schema.{Item, attributes_of, record_type, entity_type, entity_line, literal_line, context_line}
use Rattle.rules.specs.Paths.{kind_at, element_at, attributes_at, attribute_type}

-- A node's type is the number of a type of the schema, or one of two more: the entity types of the entry's principal and resource,
-- which no type of the schema need name.
abbrev pub of_principal : ℕ
of_principal = 1024

abbrev pub of_resource : ℕ
of_resource = 1025

-- 'The schema gives attributes of an entity type, the type of a literal, the context type of an action': its lines from that one on.
unfoldable pub from_line : ℕ → ℕ → List Item → List Item
from_line tag key [] = []
from_line tag key (it ∷ items) =
    let rest : List Item = from_line tag key items in
    cond (eqb it.tag tag && eqb it.key key) (it ∷ items) rest

abbrev pub type_named : ℕ → ℕ → List Item → Option ℕ
type_named tag key items = elim (from_line tag key items) [ [] ↦ none | it ∷ more ↦ some it.value ]

-- 'Each root gets its type': '(root a asks for its literal type, root c for its context type)'. None is 'a literal or action not in the
-- schema'. The kinds of roots are 1 to 5 in the order p a r c e.
abbrev pub root_type : List Item → ℕ → ℕ → Option ℕ
root_type items request step =
    cond (eqb (kind_of step) 1) (some of_principal)
    (cond (eqb (kind_of step) 2) (type_named literal_line (action_of request) items)
    (cond (eqb (kind_of step) 3) (some of_resource)
    (cond (eqb (kind_of step) 4) (type_named context_line (action_of request) items) (type_named literal_line (id_of step) items))))

-- What a type says of the fields of a node: which it has, that there are none, or nothing, for it is 'not strict'.
pub data Shape : Type 0 where
  known : List Item → Shape
  leaf : Shape
  not_strict : Shape

-- 'an entity type with several names, or an unknown one': several names are a number past all ids
abbrev pub entity_shape : List Item → ℕ → Shape
entity_shape items name =
    cond (ltb name ids) (elim (from_line entity_line name items) [ [] ↦ not_strict | it ∷ more ↦ known (attributes_of more) ]) not_strict

-- 'never, true, false, primitive, set or extension'; records and actions; entities; any-entity
abbrev pub type_shape : List Item → ℕ → Shape
type_shape items t =
    cond (ltb (kind_at items t) record_type) leaf
    (cond (ltb (kind_at items t) entity_type) (known (attributes_at items t))
    (cond (eqb (kind_at items t) entity_type) (entity_shape items (element_at items t)) not_strict))

abbrev pub shape_of : List Item → ℕ → ℕ → Shape
shape_of items request t =
    cond (eqb t of_principal) (entity_shape items (principal_of request))
    (cond (eqb t of_resource) (entity_shape items (resource_of request)) (type_shape items t))

-- the type of a field of a node of type t, if t has it
abbrev pub field_type : List Item → ℕ → ℕ → ℕ → Option ℕ
field_type items request t f =
    elim (shape_of items request t) [ known attributes ↦ attribute_type f attributes | leaf ↦ none | not_strict ↦ none ]

abbrev pub is_field : ℕ → Bool
is_field step = eqb (kind_of step) fields

-- Whether a node has field children, by the rows behind it: fields stand before roots, so where there is one the next row is one.
abbrev pub has_fields : Row → List Row → Bool
has_fields row [] = false
has_fields row (next ∷ rows) = eqb next.depth (suc row.depth) && is_field next.step

-- What becomes of a node: it stays and has a type, it is dropped, or its number is given.
pub data Fate : Type 0 where
  stays : ℕ → Fate
  dropped : Fate
  wrong : ℕ → Fate

-- 'At a node: any-entity, an entity type with several names, or an unknown one is 10. A never, true, false, primitive, set or
-- extension node with children is 11.'
abbrev pub of_shape : Shape → ℕ → Bool → Fate
of_shape (known attributes) t children = stays t
of_shape leaf t children = cond children (wrong 11) (stays t)
of_shape not_strict t children = wrong 10

-- A node with a step, below one of type t: 'A literal or action not in the schema is 9'; 'children the type lacks are dropped unseen',
-- with all below them. A root below depth 1 is typed as one at depth 1 is.
abbrev pub fate_below : List Item → ℕ → ℕ → ℕ → Bool → Fate
fate_below items request t step children =
    cond (is_field step)
    (elim (field_type items request t (id_of step)) [ none ↦ dropped | some u ↦ of_shape (shape_of items request u) u children ])
    (elim (root_type items request step) [ none ↦ wrong 9 | some u ↦ of_shape (shape_of items request u) u children ])

-- the same by the row and the rows behind it; below one that is dropped a node is dropped too
abbrev pub fate : List Item → ℕ → Option ℕ → Row → List Row → Fate
fate items request none row rows = dropped
fate items request (some t) row rows = fate_below items request t row.step (has_fields row rows)

abbrev pub with_type : ℕ → Row → Row
with_type t row = record { depth = row.depth; step = row.step; mark = row.mark; type = some t }

-- The rows from one on, 'the first refusal in listing order': under a request type, with the type of the last row at each depth (none
-- where it is dropped; the entry stands there with 0, since it stays) and the number of nodes so far.
unfoldable pub typed_from : List Item → ℕ → List (Option ℕ) → ℕ → List Row → Answer (List Row)
typed_from items request above place [] = accepted []
typed_from items request above place (row ∷ rows) =
    cond (is_entry row) (row_in_front row (typed_from items row.step (some 0 ∷ []) place rows))
    (elim (fate items request (get_or above (row.depth - 1) none) row rows) [
      | stays t ↦ row_in_front (with_type t row) (typed_from items request (take row.depth above ++ (some t ∷ [])) (suc place) rows)
      | dropped ↦ typed_from items request (take row.depth above ++ (none ∷ [])) (suc place) rows
      | wrong number ↦ refused number place
    ])

-- a manifest typed: the rows that stay
abbrev pub typed : List Item → List Row → Answer (List Row)
typed items rows = typed_from items 0 [] 0 rows

-- Which positions stay, and with which type, said of a place by itself. The type that a step leads to from type t: 'each root gets its
-- type', and a field the one that t gives it, if t has it.
abbrev pub step_type : List Item → ℕ → ℕ → ℕ → Option ℕ
step_type items request t step = cond (is_field step) (field_type items request t (id_of step)) (root_type items request step)

-- the type that steps lead to, one after the other
unfoldable pub type_after : List Item → ℕ → ℕ → List ℕ → Option ℕ
type_after items request t [] = some t
type_after items request t (step ∷ steps) = step_type items request t step >>= (λ u. type_after items request u steps)

-- the type of a place, which is a request type and then the steps of a position; the entry stands with 0
abbrev pub way_type : List Item → List ℕ → Option ℕ
way_type items [] = none
way_type items (request ∷ steps) = type_after items request 0 steps

-- 'children the type lacks are dropped unseen': whether the schema knows each field on the way of a place
abbrev pub known_way : List Item → List ℕ → Bool
known_way items place = elim (way_type items place) [ none ↦ false | some t ↦ true ]

-- The same as a walk over rows (Walks): each row keeps its type. The walk has come to so many entries, the request type of the last,
-- and the rows that stay.
pub record TypedTo : Type 0 where
  pub entries : ℕ
  pub request : ℕ
  pub rows : List Row

abbrev pub typed_to : ℕ → ℕ → List Row → TypedTo
typed_to entries request rows = record { entries = entries; request = request; rows = rows }

abbrev pub type_row : List Item → Rule ℕ TypedTo
type_row items place row rows w =
    cond (is_entry row) (accepted (some 0, typed_to (w.state.entries + 1) row.step (w.state.rows ++ (row ∷ []))))
    (elim (fate items w.state.request (get_or w.kept (row.depth - 1) none) row rows) [
      | stays t ↦ accepted (some t, typed_to w.state.entries w.state.request (w.state.rows ++ (with_type t row ∷ [])))
      | dropped ↦ accepted (none, w.state)
      | wrong number ↦ refused number (place - w.state.entries)
    ])
