-- Document 01, 'Loading': values, their equality, and merging.
use Rattle.std.specs.Prelude.{ℕ, ◌+◌, Bool, cond, List, [], ◌∷◌, ◌++◌, eqb, ltb}
use Rattle.std.proofs.Math.Option.{Option, none, some}
use Rattle.rules.specs.Tries.{same_list}
use Rattle.rules.specs.Listing.{◌>>=◌}

-- A value is plain, of an extension type, an entity's id, a set or a record. Sets and records stand in their one order
-- (docs/FORMS.md, 'Value'), so that equal values are equal as they stand.
mutual
  pub data Value : Type 0 where
    plain : ℕ → Value
    extension : ℕ → Value
    entity_id : ℕ → Value
    set_of : Elements → Value
    record_of : Attributes → Value

  pub data Elements : Type 0 where
    no_element : Elements
    element : Value → Elements → Elements

  pub data Attributes : Type 0 where
    no_attribute : Attributes
    attribute : ℕ → Value → Attributes → Attributes

-- The fields of a record.
abbrev pub record_in : Value → Option Attributes
record_in (plain n) = none
record_in (extension n) = none
record_in (entity_id n) = none
record_in (set_of elements) = none
record_in (record_of members) = some members

-- The value of a field, if it is there: 'an absent attribute is skipped'.
unfoldable pub attribute_in : ℕ → Attributes → Option Value
attribute_in f no_attribute = none
attribute_in f (attribute g value rest) = let more : Option Value = attribute_in f rest in cond (eqb f g) (some value) more

-- A value written out, so that two are equal exactly where they are written alike: 'other values must be equal', 'sets as sets'.
unfoldable mutual
  pub spelled : Value → List ℕ
  spelled (plain n) = 0 ∷ n ∷ []
  spelled (extension n) = 1 ∷ n ∷ []
  spelled (entity_id n) = 2 ∷ n ∷ []
  spelled (set_of elements) = 3 ∷ spelled_elements elements
  spelled (record_of members) = 4 ∷ spelled_attributes members

  pub spelled_elements : Elements → List ℕ
  spelled_elements no_element = 0 ∷ []
  spelled_elements (element value rest) = 1 ∷ (spelled value ++ spelled_elements rest)

  pub spelled_attributes : Attributes → List ℕ
  spelled_attributes no_attribute = 0 ∷ []
  spelled_attributes (attribute f value rest) = 1 ∷ f ∷ (spelled value ++ spelled_attributes rest)

abbrev pub same_value : Value → Value → Bool
same_value v w = same_list (spelled v) (spelled w)

abbrev pub if_same : Value → Value → Option Value
if_same v w = cond (same_value v w) (some v) none

-- a field in front of others, if both are there
abbrev pub with_attribute : ℕ → Option Value → Option Attributes → Option Attributes
with_attribute f value rest = value >>= (λ v. rest >>= (λ r. some (attribute f v r)))

-- a field put among others in order, merged with the one of its name by `with`
unfoldable pub put_attribute : ℕ → Value → (Value → Option Value) → Attributes → Option Attributes
put_attribute f value with no_attribute = some (attribute f value no_attribute)
put_attribute f value with (attribute g other rest) =
    let more : Option Attributes = put_attribute f value with rest in
    cond (ltb f g) (some (attribute f value (attribute g other rest)))
    (cond (eqb f g) (with_attribute g (with other) (some rest)) (with_attribute g (some other) more))

-- `merge_values`: 'records merge recursively, other values must be equal'; None is 13.
unfoldable mutual
  pub merged_values : Value → Value → Option Value
  merged_values v (plain n) = if_same v (plain n)
  merged_values v (extension n) = if_same v (extension n)
  merged_values v (entity_id n) = if_same v (entity_id n)
  merged_values v (set_of elements) = if_same v (set_of elements)
  merged_values v (record_of b) = record_in v >>= (λ a. merged_attributes a b >>= (λ both. some (record_of both)))

  pub merged_attributes : Attributes → Attributes → Option Attributes
  merged_attributes a no_attribute = some a
  merged_attributes a (attribute f value rest) = put_attribute f value (λ other. merged_values other value) a >>= (λ more. merged_attributes more rest)

-- 'Loaded values: each attribute, record field and set element at any depth'
unfoldable mutual
  pub values_in : Value → ℕ
  values_in (plain n) = 0
  values_in (extension n) = 0
  values_in (entity_id n) = 0
  values_in (set_of elements) = values_in_elements elements
  values_in (record_of members) = values_in_attributes members

  pub values_in_elements : Elements → ℕ
  values_in_elements no_element = 0
  values_in_elements (element value rest) = 1 + values_in value + values_in_elements rest

  pub values_in_attributes : Attributes → ℕ
  values_in_attributes no_attribute = 0
  values_in_attributes (attribute f value rest) = 1 + values_in value + values_in_attributes rest

-- An entity as it is answered: 'parents must be equal', as sets, in ascending order.
pub record Entity : Type 0 where
  pub parents : List ℕ
  pub attributes : Attributes

-- `merge_entities`
abbrev pub merged_entities : Entity → Entity → Option Entity
merged_entities a b =
    cond (same_list a.parents b.parents)
    (merged_attributes a.attributes b.attributes >>= (λ both. some (record { parents = a.parents; attributes = both })))
    none
