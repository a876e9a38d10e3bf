-- Document 01, 'Paths and analysis steps': access paths, paths wrapped in literals, and the tries that they give.
-- A trie here is a run of nodes, without an entry in front.
use Rattle.std.specs.Prelude.{ℕ, zero, suc, ◌+◌, Bool, true, false, cond, not, ◌&&◌, List, [], ◌∷◌, ◌++◌, map, eqb, length}
use Rattle.std.proofs.Math.Option.{Option, none, some}
use Rattle.rules.specs.Tries.{Row, union}
use Rattle.rules.specs.Listing.{read, ◌>>=◌}
use Rattle.rules.specs.Schema.{Item, from_type, attributes_of, set_type, record_type}

-- `AccessPath`: 'a path is a root and fields', as the list of its steps.
abbrev pub Path : Type 0
Path = List ℕ

-- `WrappedAccessPaths`. The fields of a record literal stand last first, as on the stack.
mutual
  pub data Paths : Type 0 where
    Empty : Paths
    AccessPath : Path → Paths
    Union : Paths → Paths → Paths
    RecordLiteral : Fields → Paths
    SetLiteral : Paths → Paths

  pub data Fields : Type 0 where
    no_field : Fields
    field : ℕ → Paths → Fields → Fields

-- The paths in it. Their order does not matter, since they go into a trie.
unfoldable mutual
  pub paths_in : Paths → List Path
  paths_in Empty = []
  paths_in (AccessPath path) = path ∷ []
  paths_in (Union left right) = paths_in right ++ paths_in left
  paths_in (RecordLiteral fields) = paths_in_fields fields
  paths_in (SetLiteral elements) = paths_in elements

  pub paths_in_fields : Fields → List Path
  paths_in_fields no_field = []
  paths_in_fields (field name paths fields) = paths_in paths ++ paths_in_fields fields

-- 'Path nodes: each Empty, path, union, record and set counts one.'
unfoldable mutual
  pub nodes_of : Paths → ℕ
  nodes_of Empty = 1
  nodes_of (AccessPath path) = 1
  nodes_of (Union left right) = suc (nodes_of right + nodes_of left)
  nodes_of (RecordLiteral fields) = suc (nodes_of_fields fields)
  nodes_of (SetLiteral elements) = suc (nodes_of elements)

  pub nodes_of_fields : Fields → ℕ
  nodes_of_fields no_field = 0
  nodes_of_fields (field name paths fields) = nodes_of paths + nodes_of_fields fields

-- The paths of a record literal's field, if it has that field.
unfoldable pub field_of : ℕ → Fields → Option Paths
field_of f no_field = none
field_of f (field name paths fields) = let rest : Option Paths = field_of f fields in cond (eqb name f) (some paths) rest

-- 'On a record literal with f, the result is that field; without f, the literal unchanged.'
abbrev pub field_or : Option Paths → Paths → Paths
field_or none literal = literal
field_or (some paths) literal = paths

-- `get_or_has_attr`: 'each path gains f .. On a set literal: refusal 7. Empty stays Empty; a union does both sides.' None is that refusal.
unfoldable pub get_or_has_attr : ℕ → Paths → Option Paths
get_or_has_attr f Empty = some Empty
get_or_has_attr f (AccessPath path) = some (AccessPath (path ++ (f ∷ [])))
get_or_has_attr f (Union left right) = do
  r ← get_or_has_attr f right
  l ← get_or_has_attr f left
  some (Union l r)
get_or_has_attr f (RecordLiteral fields) = some (field_or (field_of f fields) (RecordLiteral fields))
get_or_has_attr f (SetLiteral elements) = none

-- The leaf that a path takes: its mark, and the nodes below it, their depth counted from it: its fields, or its ancestors trie.
pub record Leaf : Type 0 where
  pub mark : Bool
  pub below : List Row

-- `AccessTrie::new`: 'an empty leaf (no fields, marks or ancestors)'
abbrev pub empty_leaf : Leaf
empty_leaf = record { mark = false; below = [] }

abbrev pub is_empty_leaf : Leaf → Bool
is_empty_leaf leaf = not leaf.mark && eqb (length leaf.below) 0

-- nodes so many steps deeper
unfoldable pub deeper : ℕ → List Row → List Row
deeper n [] = []
deeper n (row ∷ rows) = record { depth = n + row.depth; step = row.step; mark = row.mark; type = row.type } ∷ deeper n rows

-- 'the chain of nodes': one a step, from a depth on, the last with the leaf's mark
unfoldable pub chain : ℕ → Bool → Path → List Row
chain depth mark [] = []
chain depth mark (step ∷ []) = read depth step mark ∷ []
chain depth mark (step ∷ next ∷ steps) = read depth step false ∷ chain (suc depth) mark (next ∷ steps)

-- `to_root_access_trie_with_leaf`: 'an empty path with an empty leaf gives the empty trie, without the root'
unfoldable pub to_root_access_trie_with_leaf : Path → Leaf → List Row
to_root_access_trie_with_leaf path leaf =
    cond (eqb (length path) 1 && is_empty_leaf leaf) [] (chain 1 leaf.mark path ++ deeper (length path) leaf.below)

-- `add_access_path`
abbrev pub add_access_path : List Row → Path → Leaf → List Row
add_access_path trie path leaf = union trie (to_root_access_trie_with_leaf path leaf)

-- tries that are added to one, one after the other
unfoldable pub union_all : List Row → List (List Row) → List Row
union_all trie [] = trie
union_all trie (more ∷ tries) = union_all (union trie more) tries

-- `add_wrapped_access_paths`, over the paths in it: the trie of each with the leaf is added
abbrev pub path_tries : List Path → Leaf → List (List Row)
path_tries paths leaf = map (λ path. to_root_access_trie_with_leaf path leaf) paths

abbrev pub add_paths : List Row → List Path → Leaf → List Row
add_paths trie paths leaf = union_all trie (path_tries paths leaf)

-- `to_ancestor_access_trie`: 'each leaf marked'
abbrev pub to_ancestor_access_trie : Paths → List Row
to_ancestor_access_trie paths = add_paths [] (paths_in paths) (record { mark = true; below = [] })

-- A type of the schema: its kind, what it refers to, and its attributes. Only records and actions among the types have any.
abbrev pub kind_at : List Item → ℕ → ℕ
kind_at items t = elim (from_type t items) [ none ↦ 0 | some [] ↦ 0 | some (it ∷ more) ↦ it.tag ]

abbrev pub element_at : List Item → ℕ → ℕ
element_at items t = elim (from_type t items) [ none ↦ 0 | some [] ↦ 0 | some (it ∷ more) ↦ it.value ]

abbrev pub attributes_at : List Item → ℕ → List Item
attributes_at items t = elim (from_type t items) [ none ↦ [] | some [] ↦ [] | some (it ∷ more) ↦ attributes_of more ]

-- 'record and action types give one child an attribute, recursively'
unfoldable pub children_of : (ℕ → List Row) → List Item → List Row
children_of fields_of_type [] = []
children_of fields_of_type (it ∷ more) = read 1 it.key false ∷ (deeper 1 (fields_of_type it.value) ++ children_of fields_of_type more)

-- The nodes below a node of type t, where t is one of the types below n. 'A type refers only to lower-numbered types, so a walk over it
-- ends': n falls at each call and is there for that alone. At n = t + 1 the attributes of t are written out, each with the types below t;
-- at a larger n nothing is done but to go on with n - 1; so any n above t gives the same nodes.
unfoldable pub type_below : ℕ → List Item → ℕ → List Row
type_below zero items t = []
type_below (suc n) items t = cond (eqb t n) (children_of (type_below n items) (attributes_at items t)) (type_below n items t)

-- `type_to_access_trie`: the leaf of a path that takes type t
abbrev pub type_to_access_trie : List Item → ℕ → Leaf
type_to_access_trie items t = record { mark = false; below = type_below (suc t) items t }

-- A path and the type that it takes.
pub record Taken : Type 0 where
  pub path : Path
  pub type : ℕ

-- the type that attributes give a field, if any
unfoldable pub attribute_type : ℕ → List Item → Option ℕ
attribute_type f [] = none
attribute_type f (it ∷ more) = let rest : Option ℕ = attribute_type f more in cond (eqb it.key f) (some it.value) rest

abbrev pub is_there : Option Paths → Bool
is_there none = false
is_there (some paths) = true

-- 'every attribute of it'
unfoldable pub has_all : Fields → List Item → Bool
has_all fields [] = true
has_all fields (it ∷ more) = is_there (field_of it.key fields) && has_all fields more

-- `full_type_required`: which path takes which type. 'A record literal needs a record type and every attribute of it (extra fields
-- ignored), a set literal a set type with an element type; otherwise refusal 8.' None is that refusal.
unfoldable mutual
  pub full_type_required : List Item → Paths → ℕ → Option (List Taken)
  full_type_required items Empty t = some []
  full_type_required items (AccessPath path) t = some (record { path = path; type = t } ∷ [])
  full_type_required items (Union left right) t = do
    r ← full_type_required items right t
    l ← full_type_required items left t
    some (r ++ l)
  full_type_required items (RecordLiteral fields) t =
      cond (eqb (kind_at items t) record_type && has_all fields (attributes_at items t))
      (fields_required items fields (attributes_at items t)) none
  full_type_required items (SetLiteral elements) t =
      cond (eqb (kind_at items t) set_type) (full_type_required items elements (element_at items t)) none

  pub fields_required : List Item → Fields → List Item → Option (List Taken)
  fields_required items no_field attributes = some []
  fields_required items (field name paths fields) attributes =
      elim (attribute_type name attributes) [
        | none ↦ fields_required items fields attributes
        | some t ↦
            full_type_required items paths t >>= (λ first. fields_required items fields attributes >>= (λ more. some (first ++ more)))
      ]

-- 'A path takes the trie of t as leaf'
abbrev pub taken_tries : List Item → List Taken → List (List Row)
taken_tries items taken = map (λ one. to_root_access_trie_with_leaf one.path (type_to_access_trie items one.type)) taken

abbrev pub add_taken : List Item → List Row → List Taken → List Row
add_taken items trie taken = union_all trie (taken_tries items taken)
