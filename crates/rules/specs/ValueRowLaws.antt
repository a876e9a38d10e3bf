-- The words of proofs/ValueRowLaws.antt.
use Rattle.std.specs.Prelude.{ℕ, suc, ◌≤◌, ◌<◌, ◌≡◌, List, [], ◌∷◌, ◌++◌}
use Rattle.std.proofs.Math.Option.{Option, none, some}
use Rattle.rules.specs.TrieLaws.{Before}
use Rattle.rules.specs.Listing.{◌>>=◌}
use Rattle.rules.specs.Values.{Value, plain, extension, entity_id, set_of, record_of, Elements, Attributes, merged_values, merged_attributes}
use Rattle.rules.specs.ValueRows.{ValueRow, value_row, set_kind, record_kind, value_rows, element_rows, attribute_rows, placed_row, merge_rows, Past, AscendingIn, Ascending}

-- the row x comes before those rows
abbrev pub Comes : ValueRow → List ValueRow → Type 0
Comes x [] = Unit
Comes x (y ∷ b) = Before (placed_row x) (placed_row y)

-- rows that begin shallower than d
abbrev pub Shallow : ℕ → List ValueRow → Type 0
Shallow d [] = Unit
Shallow d (x ∷ a) = x.depth < d

-- rows that are all as deep as d or deeper
unfoldable pub Deep : ℕ → List ValueRow → Type 0
Deep d [] = Unit
Deep d (x ∷ a) = (d ≤ x.depth) × Deep d a

abbrev pub kind_of_value : Value → ℕ
kind_of_value (plain n) = 0
kind_of_value (extension n) = 1
kind_of_value (entity_id n) = 2
kind_of_value (set_of elements) = set_kind
kind_of_value (record_of members) = record_kind

abbrev pub number_of_value : Value → ℕ
number_of_value (plain n) = n
number_of_value (extension n) = n
number_of_value (entity_id n) = n
number_of_value (set_of elements) = 0
number_of_value (record_of members) = 0

abbrev pub rows_inside : ℕ → Value → List ValueRow
rows_inside d (plain n) = []
rows_inside d (extension n) = []
rows_inside d (entity_id n) = []
rows_inside d (set_of elements) = element_rows d 0 elements
rows_inside d (record_of members) = attribute_rows d members

abbrev pub own_row : ℕ → ℕ → Value → ValueRow
own_row d k v = value_row d k (kind_of_value v) (number_of_value v)

-- a value by its kind
pub data Shape : ℕ → Value → Type 0 where
  a_plain : (n : ℕ) → Shape 0 (plain n)
  an_extension : (n : ℕ) → Shape 1 (extension n)
  an_entity : (n : ℕ) → Shape 2 (entity_id n)
  a_set : (elements : Elements) → Shape 3 (set_of elements)
  a_record : (members : Attributes) → Shape 4 (record_of members)

abbrev pub first_of : List ℕ → ℕ
first_of [] = 0
first_of (n ∷ l) = n

abbrev pub rest_of : List ValueRow → List ValueRow
rest_of [] = []
rest_of (x ∷ a) = a

-- the rows of what was merged, if it was, in front of what the rest of the pass gives
abbrev pub rows_follow : {A : Type 0} → Option A → (A → List ValueRow) → Option (List ValueRow) → Option (List ValueRow)
rows_follow merge rows_for rest = merge >>= (λ m. rest >>= (λ rows. some (rows_for m ++ rows)))

abbrev pub ValueLaw : Value → Type 0
ValueLaw v =
    (w : Value) (d k : ℕ) (a b : List ValueRow)
    → AscendingIn v
    → AscendingIn w
    → Shallow (suc d) a
    → Shallow (suc d) b
    → merge_rows none (value_rows d k v ++ a) (value_rows d k w ++ b) ≡ rows_follow (merged_values v w) (value_rows d k) (merge_rows none a b)

abbrev pub FieldsLaw : Attributes → Type 0
FieldsLaw p =
    (q : Attributes) (d : ℕ) (a b : List ValueRow)
    → Ascending p
    → Ascending q
    → Shallow d a
    → Shallow d b
    → merge_rows none (attribute_rows d p ++ a) (attribute_rows d q ++ b)
    ≡ rows_follow (merged_attributes p q) (attribute_rows d) (merge_rows none a b)

abbrev pub ahead : ℕ → ℕ → Value → Option (List ValueRow) → Option (List ValueRow)
ahead d f v o = o >>= (λ rows. some (value_rows d f v ++ rows))

abbrev pub ValueSwap : Value → Type 0
ValueSwap v = (w : Value) → AscendingIn v → AscendingIn w → merged_values v w ≡ merged_values w v

abbrev pub FieldsSwap : Attributes → Type 0
FieldsSwap p = (q : Attributes) → Ascending p → Ascending q → merged_attributes p q ≡ merged_attributes q p

abbrev pub Every : {A : Type 0} → (A → Type 0) → Option A → Type 0
Every P none = Unit
Every P (some a) = P a

pub record Kept (p q m : Attributes) : Type 0 where
  pub ascends : Ascending m
  pub past : (k : ℕ) → Past k p → Past k q → Past k m

abbrev pub ValueKept : Value → Type 0
ValueKept v = (w : Value) → AscendingIn v → AscendingIn w → Every AscendingIn (merged_values v w)

abbrev pub FieldsKept : Attributes → Type 0
FieldsKept p = (q : Attributes) → Ascending p → Ascending q → Every (Kept p q) (merged_attributes p q)

abbrev pub Under : Option (List ValueRow) → List ValueRow → Option ℕ → List ValueRow → List ValueRow → Type 0
Under whole out inside a b = whole ≡ (merge_rows inside a b >>= (λ rows. some (out ++ rows)))
