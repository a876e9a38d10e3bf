-- The words of proofs/TypeLaws.antt.
use Rattle.std.specs.Prelude.{ℕ, suc, ◌+◌, ◌≤◌, ◌<◌, ◌≡◌, Bool, true, cond, ◌&&◌, leb, eqb, length}
use Rattle.std.proofs.Math.Option.{some}
use mathlib.Core.List.{List, [], ◌∷◌, ◌++◌}
use Rattle.rules.specs.Facts.{larger}
use Rattle.rules.specs.Tries.{Row}
use Rattle.rules.specs.Schema.{Item, set_type, record_type, action_type, last_type, attribute_line, Known, from_type, attributes_of}
use Rattle.rules.specs.Paths.{Path, Leaf, is_empty_leaf}

-- the depth of the deepest, and 0 where there is none
unfoldable pub deepest : List Row → ℕ
deepest [] = 0
deepest (row ∷ rows) = larger row.depth (deepest rows)

-- whether a path and its leaf give the empty trie
abbrev pub is_no_trie : Path → Leaf → Bool
is_no_trie path leaf = eqb (length path) 1 && is_empty_leaf leaf

-- how many types there are among items
unfoldable pub types_in : List Item → ℕ
types_in [] = 0
types_in (it ∷ items) = let rest : ℕ = types_in items in cond (leb it.tag last_type) (suc rest) rest

-- what is so wherever a lawful schema has come to: among the types their lines are their number, and there are at most 1,024
pub record Sound (known : Known) : Type 0 where
  pub counted : known.section ≡ 0 → known.lines ≡ known.types
  pub few : known.types ≤ 1024

-- what a type's line that fits says
pub record TypeFits (known : Known) (it : Item) : Type 0 where
  pub section : known.section ≡ 0
  pub key : it.key ≡ known.types
  pub room : known.types < 1024
  pub element : it.tag ≡ set_type → it.value < it.key

-- a type's line stands where as many types stand before it as its number says
pub record Placed (known : Known) (items : List Item) (t : ℕ) : Type 0 where
  pub front : List Item
  pub it : Item
  pub more : List Item
  pub split : items ≡ front ++ (it ∷ more)
  pub kind : it.tag ≤ last_type
  pub before : t ≡ known.types + types_in front

-- Where type t stands in a schema: its line, and the lines before and after it.
pub record TypeAt (items : List Item) (t : ℕ) : Type 0 where
  pub front : List Item
  pub it : Item
  pub more : List Item
  pub split : items ≡ front ++ (it ∷ more)
  pub before : types_in front ≡ t
  pub kind : it.tag ≤ last_type
  pub number : it.key ≡ t
  pub from : from_type t items ≡ some (it ∷ more)

-- attributes with strictly ascending fields, the first at least `least`
unfoldable pub Ascends : ℕ → List Item → Type 0
Ascends least [] = Unit
Ascends least (a ∷ more) = (least ≤ a.key) × Ascends (a.key + 1) more

-- lines that are attributes, each of a type below t
unfoldable pub AttributesBelow : ℕ → List Item → Type 0
AttributesBelow t [] = Unit
AttributesBelow t (a ∷ more) = (a.tag ≡ attribute_line) × (a.value < t) × AttributesBelow t more

-- what is so of the line of type t and the attributes that follow it
pub record TypeLines (t : ℕ) (it : Item) (more : List Item) : Type 0 where
  pub kind : it.tag ≤ last_type
  pub number : it.key ≡ t
  pub small : t < 1024
  pub element : it.tag ≡ set_type → it.value < t
  pub below : AttributesBelow t (attributes_of more)
  pub ascends : Ascends 0 (attributes_of more)
  pub few : length (attributes_of more) ≤ 64
  pub plain : (it.tag ≡ record_type → ⊥) → (it.tag ≡ action_type → ⊥) → attributes_of more ≡ []

-- the attributes that lawful lines begin with
pub record Attributes (known : Known) (items : List Item) : Type 0 where
  pub below : AttributesBelow known.bound (attributes_of items)
  pub ascends : Ascends known.field (attributes_of items)
  pub few : length (attributes_of items) ≤ known.room

-- the length of the longest path
unfoldable pub longest : List Path → ℕ
longest [] = 0
longest (path ∷ paths) = larger (length path) (longest paths)

-- a leaf that is marked, with nothing below it
abbrev pub marked_leaf : Leaf
marked_leaf = record { mark = true; below = [] }
