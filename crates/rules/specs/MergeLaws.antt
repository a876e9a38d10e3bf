-- The words of proofs/MergeLaws.antt.
use Rattle.std.specs.Prelude.{ℕ, suc, ◌+◌, ◌≤◌, ◌<◌, ◌≡◌, ◌≢◌, Bool, true, false, ◌&&◌}
use mathlib.Core.List.{List, [], ◌∷◌}
use Rattle.std.proofs.Math.Option.{Option, none, some}
use Rattle.rules.specs.Listing.{◌>>=◌}
use Rattle.rules.specs.Values.{Value, record_of, Attributes, attribute, Entity, record_in, merged_values, merged_attributes, merged_entities, values_in, values_in_attributes}
use Rattle.rules.specs.ValueRows.{Past, AscendingIn, Ascending}
use Rattle.rules.specs.ValueRowLaws.{Every}

-- whether there is a value
abbrev pub there : {A : Type 0} → Option A → Bool
there none = false
there (some a) = true

-- the two ways to group them, and the three pairs
abbrev pub Three : {A : Type 0} → (A → A → Option A) → A → A → A → Type 0
Three merge a b c =
    ((merge a b >>= (λ m. merge m c)) ≡ (merge b c >>= (λ m. merge a m)))
    × (there (merge a b >>= (λ m. merge m c)) ≡ (there (merge a b) && (there (merge a c) && there (merge b c))))

pub data Kind : Value → Type 0 where
  leaf : {v : Value} → record_in v ≡ none → Kind v
  fields : (a : Attributes) → Kind (record_of a)

abbrev pub FieldsBelow : ℕ → Type 0
FieldsBelow n =
    (a b c : Attributes)
    → values_in_attributes a + values_in_attributes b + values_in_attributes c < n
    → Ascending a
    → Ascending b
    → Ascending c
    → Three merged_attributes a b c

abbrev pub front : ℕ → Option Value → Attributes → Attributes
front f none a = a
front f (some v) a = attribute f v a

abbrev pub merged_field : Option Value → Option Value → Option (Option Value)
merged_field none w = some w
merged_field (some v) none = some (some v)
merged_field (some v) (some w) = merged_values v w >>= (λ m. some (some m))

abbrev pub fronted : ℕ → Option (Option Value) → Option Attributes → Option Attributes
fronted f field rest = field >>= (λ v. rest >>= (λ r. some (front f v r)))

-- how many values a field holds, if it is there
abbrev pub field_size : Option Value → ℕ
field_size none = 0
field_size (some v) = 1 + values_in v

pub data Split (f : ℕ) : Attributes → Type 0 where
  at_name : (v : Option Value) (a : Attributes) → Past f a → Ascending a → Every AscendingIn v → Split f (front f v a)

-- ids that ascend strictly, the first at least `least`
unfoldable pub IdsFrom : ℕ → List ℕ → Type 0
IdsFrom least [] = Unit
IdsFrom least (x ∷ xs) = (least ≤ x) × IdsFrom (suc x) xs

-- an entity as a checked answer gives it
pub record GoodEntity (e : Entity) : Type 0 where
  pub ids_ascend : IdsFrom 0 e.parents
  pub fields_ascend : Ascending e.attributes

abbrev pub entity : List ℕ → Attributes → Entity
entity parents attributes = record { parents = parents; attributes = attributes }

-- what two entities merge to: their one set of parents, and the merge of their attributes
pub record MergedFrom (a b m : Entity) : Type 0 where
  pub same_as_first : m.parents ≡ a.parents
  pub same_as_second : m.parents ≡ b.parents
  pub both_attributes : merged_attributes a.attributes b.attributes ≡ some m.attributes

-- they merge
abbrev pub Merges : Entity → Entity → Type 0
Merges a b = merged_entities a b ≢ none

unfoldable pub merged_all : Entity → List Entity → Option Entity
merged_all a [] = some a
merged_all a (b ∷ more) = merged_entities a b >>= (λ ab. merged_all ab more)

-- what they come to, if there are any
unfoldable pub merged_of : List Entity → Option Entity
merged_of [] = none
merged_of (a ∷ more) = merged_all a more

-- whether each of them merges with c
unfoldable pub each_merges : List Entity → Entity → Bool
each_merges [] c = true
each_merges (w ∷ ws) c = there (merged_entities w c) && each_merges ws c

abbrev pub AddsNothing : Entity → Entity → Type 0
AddsNothing m w = merged_entities m w ≡ some m
