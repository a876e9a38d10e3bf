-- The merge of two record values is one pass over their two runs of rows.
use Rattle.std.specs.Prelude.{ℕ, suc, ◌≤◌, ◌<◌, ◌≡◌, refl, ◌↔◌, true, false, cond, List, [], ◌∷◌, ◌++◌, eqb}
use Rattle.std.proofs.Common.{arith, le_refl, sym, ap, ◌∙◌, append_assoc, append-nil, eqb-true, lt-ltb, le-ltb, eq-eqb, ne_eqb}
use Rattle.std.proofs.lemmas.Bool.{false≢true}
use Rattle.std.proofs.Math.Bool.{and-eq-true_iff}
use Rattle.std.proofs.Math.Option.{Option, none, some}
use Rattle.rules.specs.Facts.{by_test, compared}
use Rattle.rules.specs.Tries.{Next, first, second, same, next, same_list}
use Rattle.rules.proofs.TrieLaws.{Before, deeper, smaller, Says, next_says, says_next}
use Rattle.rules.proofs.PlaceLaws.{same-list}
use Rattle.rules.specs.Listing.{◌>>=◌}
use Rattle.rules.specs.Values.{
  Value,
  plain,
  extension,
  entity_id,
  set_of,
  record_of,
  Elements,
  no_element,
  element,
  Attributes,
  no_attribute,
  attribute,
  record_in,
  spelled,
  spelled_elements,
  spelled_attributes,
  same_value,
  if_same,
  with_attribute,
  put_attribute,
  merged_values,
  merged_attributes,
}
use Rattle.rules.specs.ValueRows.{
  ValueRow,
  value_row,
  set_kind,
  record_kind,
  value_rows,
  element_rows,
  attribute_rows,
  placed_row,
  inside_at,
  inside_after,
  onto_rows,
  alone_row,
  agree_rows,
  both_rows,
  merge_right,
  merge_onto,
  merge_rows,
  Past,
  AscendingIn,
  Ascending,
}
pub use Rattle.rules.specs.ValueRowLaws.{Comes, Shallow, kind_of_value, number_of_value, rows_inside, own_row, Shape, a_plain, an_extension, an_entity, a_set, a_record, first_of, rest_of, rows_follow, ValueLaw, FieldsLaw, ahead, ValueSwap, FieldsSwap, Every, Kept, ValueKept, FieldsKept, Under}
unfoldable pub use Rattle.rules.specs.ValueRowLaws.{Deep}

-- What may be missing.

pub bind_some : {A : Type 0} (o : Option A) → (o >>= (λ a. some a)) ≡ o
bind_some none = refl
bind_some (some a) = refl

-- a row in front of a run that is in front of what may be missing
onto_run :
    (x : ValueRow) (p : List ValueRow) (o : Option (List ValueRow))
    → onto_rows x (o >>= (λ rows. some (p ++ rows))) ≡ (o >>= (λ rows. some (x ∷ (p ++ rows))))
onto_run x p none = refl
onto_run x p (some rows) = refl

-- a row that one side alone has is taken, or is none
pub alone_taken :
    (inside : Option ℕ) (x : ValueRow) (rest : Option (List ValueRow))
    → inside_at inside x ≡ none
    → alone_row inside x rest ≡ onto_rows x rest
alone_taken inside x rest e = rw (e, alone_row)

pub alone_none :
    (inside : Option ℕ) (x : ValueRow) (rest : Option (List ValueRow)) (s : ℕ)
    → inside_at inside x ≡ some s
    → alone_row inside x rest ≡ none
alone_none inside x rest s e = rw (e, alone_row)

-- Which row comes first.

-- the pass takes it alone
pub turn_left :
    (inside : Option ℕ) (x : ValueRow) (a b : List ValueRow)
    → Comes x b
    → merge_rows inside (x ∷ a) b ≡ alone_row inside x (merge_rows none a b)
unfolding merge_rows merge_onto
turn_left inside x a [] h = refl
turn_left inside x a (y ∷ b) h = rw (says_next (placed_row x) (placed_row y) first h, merge_rows, merge_onto)

pub turn_right :
    (inside : Option ℕ) (y : ValueRow) (a b : List ValueRow)
    → Comes y a
    → merge_rows inside a (y ∷ b) ≡ alone_row inside y (merge_rows none a b)
unfolding merge_rows merge_onto merge_right
turn_right inside y [] b h = refl
turn_right inside y (x ∷ a) b h = rw (says_next (placed_row x) (placed_row y) second h, merge_rows, merge_onto)

-- or takes the two in one
pub turn_both :
    (inside : Option ℕ) (x y : ValueRow) (a b : List ValueRow)
    → x.depth ≡ y.depth
    → x.key ≡ y.key
    → merge_rows inside (x ∷ a) (y ∷ b) ≡ both_rows x y (merge_rows (inside_after inside x) a b)
unfolding merge_rows merge_onto
turn_both inside x y a b d k =
    rw (says_next (placed_row x) (placed_row y) same (record { depths = d; steps = k }), merge_rows, merge_onto)

pub turn_end : (inside : Option ℕ) → merge_rows inside [] [] ≡ some []
unfolding merge_rows merge_right
turn_end inside = refl

-- Runs.

pub deep_append : (d : ℕ) (p q : List ValueRow) → Deep d p → Deep d q → Deep d (p ++ q)
unfolding Deep
deep_append d [] q hp hq = hq
deep_append d (x ∷ p) q hp hq = (hp.0, deep_append d p q hp.1 hq)

-- each row of a run comes before those rows
pub AllCome : List ValueRow → List ValueRow → Type 0
AllCome [] b = Unit
AllCome (x ∷ a) b = Comes x b × AllCome a b

comes_deeper : (d : ℕ) (x : ValueRow) (b : List ValueRow) → d ≤ x.depth → Shallow d b → Comes x b
comes_deeper d x [] h k = tt
comes_deeper d x (y ∷ b) h k = deeper (omega arith)

deep_come : (d : ℕ) (a b : List ValueRow) → Deep d a → Shallow d b → AllCome a b
unfolding Deep AllCome
deep_come d [] b h k = tt
deep_come d (x ∷ a) b h k = (comes_deeper d x b h.0 k, deep_come d a b h.1 k)

-- a run that comes before all of the other side is taken as it is
pub run_left :
    (p a b : List ValueRow) → AllCome p b → merge_rows none (p ++ a) b ≡ (merge_rows none a b >>= (λ rows. some (p ++ rows)))
unfolding AllCome
run_left [] a b h = sym (bind_some (merge_rows none a b))
run_left (x ∷ p) a b h =
    turn_left none x (p ++ a) b h.0
    ∙ ap (onto_rows x) (run_left p a b h.1)
    ∙ onto_run x p (merge_rows none a b)

pub run_right :
    (p a b : List ValueRow) → AllCome p a → merge_rows none a (p ++ b) ≡ (merge_rows none a b >>= (λ rows. some (p ++ rows)))
unfolding AllCome
run_right [] a b h = sym (bind_some (merge_rows none a b))
run_right (y ∷ p) a b h =
    turn_right none y a (p ++ b) h.0
    ∙ ap (onto_rows y) (run_right p a b h.1)
    ∙ onto_run y p (merge_rows none a b)

-- Merging fields, turn by turn: two ascending lists of fields are merged by looking at the two next names.

pub past_trans : (f g : ℕ) (a : Attributes) → f < g → Past g a → Past f a
unfolding Past
past_trans f g no_attribute h p = tt
past_trans f g (attribute k v a) h p = (omega arith, past_trans f g a h p.1)

-- a field that comes before all of the other side stays in front
pub fields_left :
    (f : ℕ) (v : Value) (a b : Attributes) → Past f b → merged_attributes (attribute f v a) b ≡ with_attribute f (some v) (merged_attributes a b)
unfolding Past merged_attributes put_attribute
fields_left f v a no_attribute h = refl
fields_left f v a (attribute g w b) h =
    let less : f < g = h.0 in
    rw (le-ltb g f (omega arith), ne_eqb g f (λ e. omega arith))
    (go (put_attribute g w (λ other. merged_values other w) a) (λ more. fields_left f v more b h.1))
  where
    go :
        (o : Option Attributes)
        → ((more : Attributes) → merged_attributes (attribute f v more) b ≡ with_attribute f (some v) (merged_attributes more b))
        → (with_attribute f (some v) o >>= (λ more. merged_attributes more b)) ≡ with_attribute f (some v) (o >>= (λ more. merged_attributes more b))
    go none rest = refl
    go (some more) rest = rest more

pub fields_right :
    (f g : ℕ) (v w : Value) (a b : Attributes)
    → g < f
    → Past g b
    → merged_attributes (attribute f v a) (attribute g w b) ≡ with_attribute g (some w) (merged_attributes (attribute f v a) b)
unfolding merged_attributes put_attribute
fields_right f g v w a b less h = rw lt-ltb (fields_left g w (attribute f v a) b h)

pub fields_both :
    (f : ℕ) (v w : Value) (a b : Attributes)
    → Past f b
    → merged_attributes (attribute f v a) (attribute f w b) ≡ with_attribute f (merged_values v w) (merged_attributes a b)
unfolding merged_attributes put_attribute
fields_both f v w a b h = rw (le-ltb f f (le_refl f), eq-eqb f f refl) (go (merged_values v w))
  where
    go :
        (o : Option Value)
        → (with_attribute f o (some a) >>= (λ more. merged_attributes more b)) ≡ with_attribute f o (merged_attributes a b)
    go none = refl
    go (some u) = fields_left f u a b h

pub fields_no_left : (b : Attributes) → Ascending b → merged_attributes no_attribute b ≡ some b
unfolding Ascending merged_attributes put_attribute
fields_no_left no_attribute h = refl
fields_no_left (attribute g w b) h = fields_left g w no_attribute b h.1 ∙ rw (fields_no_left b h.2)

pub fields_no_right : (a : Attributes) → merged_attributes a no_attribute ≡ some a
unfolding merged_attributes
fields_no_right a = refl

-- A value's kind, its number, and its rows inside.

pub rows-of : (d k : ℕ) (v : Value) → value_rows d k v ≡ own_row d k v ∷ rows_inside (suc d) v
unfolding value_rows
rows-of d k (plain n) = refl
rows-of d k (extension n) = refl
rows-of d k (entity_id n) = refl
rows-of d k (set_of elements) = refl
rows-of d k (record_of members) = refl

shape : (v : Value) → Shape (kind_of_value v) v
shape (plain n) = a_plain n
shape (extension n) = an_extension n
shape (entity_id n) = an_entity n
shape (set_of elements) = a_set elements
shape (record_of members) = a_record members

-- Values that are written alike are equal.

first_written : (v : Value) (x : List ℕ) → first_of (spelled v ++ x) ≡ kind_of_value v
unfolding spelled
first_written (plain n) x = refl
first_written (extension n) x = refl
first_written (entity_id n) x = refl
first_written (set_of elements) x = refl
first_written (record_of members) x = refl

zero_one : ◌≡◌ {A = ℕ} 0 1 → ⊥
zero_one h = omega arith

kind_written : (v w : Value) (x y : List ℕ) → spelled v ++ x ≡ spelled w ++ y → kind_of_value v ≡ kind_of_value w
kind_written v w x y h = sym (first_written v x) ∙ ap first_of h ∙ first_written w y

-- with what follows them
mutual
  unfolding spelled

  written_known : (v w : Value) (x y : List ℕ) → spelled v ++ x ≡ spelled w ++ y → (v ≡ w) × (x ≡ y)
  written_known (plain n) w x y h = go w (rw (← kind_written (plain n) w x y h) at (shape w)) h
    where
      go : (w : Value) → Shape 0 w → 0 ∷ n ∷ x ≡ spelled w ++ y → (plain n ≡ w) × (x ≡ y)
      go w (a_plain m) h = (cc, cc)
  written_known (extension n) w x y h = go w (rw (← kind_written (extension n) w x y h) at (shape w)) h
    where
      go : (w : Value) → Shape 1 w → 1 ∷ n ∷ x ≡ spelled w ++ y → (extension n ≡ w) × (x ≡ y)
      go w (an_extension m) h = (cc, cc)
  written_known (entity_id n) w x y h = go w (rw (← kind_written (entity_id n) w x y h) at (shape w)) h
    where
      go : (w : Value) → Shape 2 w → 2 ∷ n ∷ x ≡ spelled w ++ y → (entity_id n ≡ w) × (x ≡ y)
      go w (an_entity m) h = (cc, cc)
  written_known (set_of a) w x y h = go w (rw (← kind_written (set_of a) w x y h) at (shape w)) h (λ b x y h. elements_known a b x y h)
    where
      go :
          (w : Value)
          → Shape 3 w
          → 3 ∷ (spelled_elements a ++ x) ≡ spelled w ++ y
          → ((b : Elements) (x y : List ℕ) → spelled_elements a ++ x ≡ spelled_elements b ++ y → (a ≡ b) × (x ≡ y))
          → (set_of a ≡ w) × (x ≡ y)
      go w (a_set b) h inside = let e = inside b x y (cc) in (ap set_of e.0, e.1)
  written_known (record_of a) w x y h = go w (rw (← kind_written (record_of a) w x y h) at (shape w)) h (λ b x y h. fields_known a b x y h)
    where
      go :
          (w : Value)
          → Shape 4 w
          → 4 ∷ (spelled_attributes a ++ x) ≡ spelled w ++ y
          → ((b : Attributes) (x y : List ℕ) → spelled_attributes a ++ x ≡ spelled_attributes b ++ y → (a ≡ b) × (x ≡ y))
          → (record_of a ≡ w) × (x ≡ y)
      go w (a_record b) h inside = let e = inside b x y (cc) in (ap record_of e.0, e.1)

  elements_known : (a b : Elements) (x y : List ℕ) → spelled_elements a ++ x ≡ spelled_elements b ++ y → (a ≡ b) × (x ≡ y)
  elements_known no_element no_element x y h = (refl, cc)
  elements_known no_element (element w b) x y h = absurd (zero_one (ap first_of h))
  elements_known (element v a) no_element x y h = absurd (zero_one (sym (ap first_of h)))
  elements_known (element v a) (element w b) x y h =
      let e = written_known v w (spelled_elements a ++ x) (spelled_elements b ++ y) (simp (← append_assoc) (cc)) in
      let f = elements_known a b x y e.1 in
      (cc, f.1)

  fields_known : (a b : Attributes) (x y : List ℕ) → spelled_attributes a ++ x ≡ spelled_attributes b ++ y → (a ≡ b) × (x ≡ y)
  fields_known no_attribute no_attribute x y h = (refl, cc)
  fields_known no_attribute (attribute g w b) x y h = absurd (zero_one (ap first_of h))
  fields_known (attribute f v a) no_attribute x y h = absurd (zero_one (sym (ap first_of h)))
  fields_known (attribute f v a) (attribute g w b) x y h =
      let e = written_known v w (spelled_attributes a ++ x) (spelled_attributes b ++ y) (simp (← append_assoc) (cc)) in
      let i = fields_known a b x y e.1 in
      let n : f ≡ g = cc in
      (cc, i.1)

-- two values are the same exactly where they are equal
pub same-value : (v w : Value) → (same_value v w ≡ true) ↔ (v ≡ w)
same-value v w = (
  λ e. (written_known v w [] [] (ap (λ l. l ++ []) ((same-list (spelled v) (spelled w)).0 e))).0,
  λ e. (same-list (spelled v) (spelled w)).1 (ap spelled e),
)

-- Rows of values: how deep they are, and what they begin with.

mutual
  unfolding value_rows Deep

  pub deep_value : (e d k : ℕ) (v : Value) → e ≤ d → Deep e (value_rows d k v)
  deep_value e d k (plain n) h = (h, tt)
  deep_value e d k (extension n) h = (h, tt)
  deep_value e d k (entity_id n) h = (h, tt)
  deep_value e d k (set_of a) h = (h, deep_elements e (suc d) 0 a (omega arith))
  deep_value e d k (record_of a) h = (h, deep_fields e (suc d) a (omega arith))

  pub deep_elements : (e d i : ℕ) (a : Elements) → e ≤ d → Deep e (element_rows d i a)
  deep_elements e d i no_element h = tt
  deep_elements e d i (element v a) h =
      deep_append e (value_rows d i v) (element_rows d (suc i) a) (deep_value e d i v h) (deep_elements e d (suc i) a h)

  pub deep_fields : (e d : ℕ) (a : Attributes) → e ≤ d → Deep e (attribute_rows d a)
  deep_fields e d no_attribute h = tt
  deep_fields e d (attribute f v a) h = deep_append e (value_rows d f v) (attribute_rows d a) (deep_value e d f v h) (deep_fields e d a h)

pub deep_inside : (d : ℕ) (v : Value) → Deep d (rows_inside d v)
unfolding Deep
deep_inside d (plain n) = tt
deep_inside d (extension n) = tt
deep_inside d (entity_id n) = tt
deep_inside d (set_of a) = deep_elements d d 0 a (le_refl d)
deep_inside d (record_of a) = deep_fields d d a (le_refl d)

pub shallow_suc : (d : ℕ) (a : List ValueRow) → Shallow d a → Shallow (suc d) a
shallow_suc d [] h = tt
shallow_suc d (x ∷ a) h = omega arith

shallow_value : (d k : ℕ) (v : Value) (a : List ValueRow) → Shallow (suc d) (value_rows d k v ++ a)
shallow_value d k v a = rw rows-of (le_refl (suc d))

pub shallow_elements : (d i : ℕ) (e : Elements) (a : List ValueRow) → Shallow d a → Shallow (suc d) (element_rows d i e ++ a)
unfolding value_rows
shallow_elements d i no_element a h = shallow_suc d a h
shallow_elements d i (element v e) a h = rw append_assoc (shallow_value d i v (element_rows d (suc i) e ++ a))

pub shallow_fields : (d : ℕ) (e : Attributes) (a : List ValueRow) → Shallow d a → Shallow (suc d) (attribute_rows d e ++ a)
unfolding value_rows
shallow_fields d no_attribute a h = shallow_suc d a h
shallow_fields d (attribute f v e) a h = rw append_assoc (shallow_value d f v (attribute_rows d e ++ a))

-- no rows that begin shallower than d begin with a value at d
not_shallow : (d k : ℕ) (v : Value) (a b : List ValueRow) → Shallow d a → a ≡ value_rows d k v ++ b → ⊥
not_shallow d k v a b h e = let below : d < d = rw (e, rows-of) at h in omega arith

row_first : List ValueRow → ValueRow
row_first [] = value_row 0 0 0 0
row_first (x ∷ a) = x

first_row : (d k : ℕ) (v : Value) (x : List ValueRow) → row_first (value_rows d k v ++ x) ≡ own_row d k v
unfolding row_first
first_row d k v x = rw rows-of

heads_known :
    (d k l : ℕ) (v w : Value) (x y : List ValueRow) → value_rows d k v ++ x ≡ value_rows d l w ++ y → own_row d k v ≡ own_row d l w
heads_known d k l v w x y h = sym (first_row d k v x) ∙ ap row_first h ∙ first_row d l w y

kind_rows : (d k : ℕ) (v w : Value) (x y : List ValueRow) → value_rows d k v ++ x ≡ value_rows d k w ++ y → kind_of_value v ≡ kind_of_value w
kind_rows d k v w x y h = ap (λ (r : ValueRow). r.kind) (heads_known d k k v w x y h)

number_rows : (d k : ℕ) (v w : Value) (x y : List ValueRow) → value_rows d k v ++ x ≡ value_rows d k w ++ y → number_of_value v ≡ number_of_value w
number_rows d k v w x y h = ap (λ (r : ValueRow). r.number) (heads_known d k k v w x y h)

key_rows : (d k l : ℕ) (v w : Value) (x y : List ValueRow) → value_rows d k v ++ x ≡ value_rows d l w ++ y → k ≡ l
key_rows d k l v w x y h = ap (λ (r : ValueRow). r.key) (heads_known d k l v w x y h)

-- Values whose rows are alike are equal, with the shallower rows that follow.

mutual
  unfolding value_rows

  rows_known :
      (v w : Value) (d k : ℕ) (x y : List ValueRow)
      → Shallow (suc d) x
      → Shallow (suc d) y
      → value_rows d k v ++ x ≡ value_rows d k w ++ y
      → (v ≡ w) × (x ≡ y)
  rows_known (plain n) w d k x y sx sy h = go w (rw (← kind_rows d k (plain n) w x y h) at (shape w)) h
    where
      go : (w : Value) → Shape 0 w → value_row d k 0 n ∷ x ≡ value_rows d k w ++ y → (plain n ≡ w) × (x ≡ y)
      go w (a_plain m) h = (ap plain (number_rows d k (plain n) (plain m) x y h), ap rest_of h)
  rows_known (extension n) w d k x y sx sy h = go w (rw (← kind_rows d k (extension n) w x y h) at (shape w)) h
    where
      go : (w : Value) → Shape 1 w → value_row d k 1 n ∷ x ≡ value_rows d k w ++ y → (extension n ≡ w) × (x ≡ y)
      go w (an_extension m) h = (ap extension (number_rows d k (extension n) (extension m) x y h), ap rest_of h)
  rows_known (entity_id n) w d k x y sx sy h = go w (rw (← kind_rows d k (entity_id n) w x y h) at (shape w)) h
    where
      go : (w : Value) → Shape 2 w → value_row d k 2 n ∷ x ≡ value_rows d k w ++ y → (entity_id n ≡ w) × (x ≡ y)
      go w (an_entity m) h = (ap entity_id (number_rows d k (entity_id n) (entity_id m) x y h), ap rest_of h)
  rows_known (set_of a) w d k x y sx sy h =
      go w (rw (← kind_rows d k (set_of a) w x y h) at (shape w)) h (λ b h. element_rows_known a b (suc d) 0 x y sx sy h)
    where
      go :
          (w : Value)
          → Shape 3 w
          → value_row d k set_kind 0 ∷ (element_rows (suc d) 0 a ++ x) ≡ value_rows d k w ++ y
          → ((b : Elements) → element_rows (suc d) 0 a ++ x ≡ element_rows (suc d) 0 b ++ y → (a ≡ b) × (x ≡ y))
          → (set_of a ≡ w) × (x ≡ y)
      go w (a_set b) h inside = let e = inside b (ap rest_of h) in (ap set_of e.0, e.1)
  rows_known (record_of a) w d k x y sx sy h =
      go w (rw (← kind_rows d k (record_of a) w x y h) at (shape w)) h (λ b h. field_rows_known a b (suc d) x y sx sy h)
    where
      go :
          (w : Value)
          → Shape 4 w
          → value_row d k record_kind 0 ∷ (attribute_rows (suc d) a ++ x) ≡ value_rows d k w ++ y
          → ((b : Attributes) → attribute_rows (suc d) a ++ x ≡ attribute_rows (suc d) b ++ y → (a ≡ b) × (x ≡ y))
          → (record_of a ≡ w) × (x ≡ y)
      go w (a_record b) h inside = let e = inside b (ap rest_of h) in (ap record_of e.0, e.1)

  element_rows_known :
      (a b : Elements) (d i : ℕ) (x y : List ValueRow)
      → Shallow d x
      → Shallow d y
      → element_rows d i a ++ x ≡ element_rows d i b ++ y
      → (a ≡ b) × (x ≡ y)
  element_rows_known no_element no_element d i x y sx sy h = (refl, h)
  element_rows_known no_element (element w b) d i x y sx sy h =
      absurd (not_shallow d i w x (element_rows d (suc i) b ++ y) sx (simp append_assoc at h))
  element_rows_known (element v a) no_element d i x y sx sy h =
      absurd (not_shallow d i v y (element_rows d (suc i) a ++ x) sy (simp append_assoc at (sym h)))
  element_rows_known (element v a) (element w b) d i x y sx sy h =
      let e = rows_known v w d i (element_rows d (suc i) a ++ x) (element_rows d (suc i) b ++ y)
      (shallow_elements d (suc i) a x sx) (shallow_elements d (suc i) b y sy) (simp append_assoc at h) in
      let f = element_rows_known a b d (suc i) x y sx sy e.1 in
      (cc, f.1)

  field_rows_known :
      (a b : Attributes) (d : ℕ) (x y : List ValueRow)
      → Shallow d x
      → Shallow d y
      → attribute_rows d a ++ x ≡ attribute_rows d b ++ y
      → (a ≡ b) × (x ≡ y)
  field_rows_known no_attribute no_attribute d x y sx sy h = (refl, h)
  field_rows_known no_attribute (attribute g w b) d x y sx sy h =
      absurd (not_shallow d g w x (attribute_rows d b ++ y) sx (simp append_assoc at h))
  field_rows_known (attribute f v a) no_attribute d x y sx sy h =
      absurd (not_shallow d f v y (attribute_rows d a ++ x) sy (simp append_assoc at (sym h)))
  field_rows_known (attribute f v a) (attribute g w b) d x y sx sy h =
      let names : f ≡ g = key_rows d f g v w (attribute_rows d a ++ x) (attribute_rows d b ++ y) (simp append_assoc at h) in
      let e = rows_known v w d g (attribute_rows d a ++ x) (attribute_rows d b ++ y)
      (shallow_fields d a x sx) (shallow_fields d b y sy) (rw names at (simp append_assoc at h)) in
      let i = field_rows_known a b d x y sx sy e.1 in
      (cc, i.1)

pub same_value_rows : (v w : Value) (d k : ℕ) → value_rows d k v ≡ value_rows d k w → v ≡ w
same_value_rows v w d k h = (rows_known v w d k [] [] tt tt (ap (λ l. l ++ []) h)).0

-- Inside a set.

row_equal : (x y : ValueRow) → x.depth ≡ y.depth → x.key ≡ y.key → x.kind ≡ y.kind → x.number ≡ y.number → x ≡ y
row_equal x y d k t n = λ i. record { depth = d i; key = k i; kind = t i; number = n i }

-- a row deeper than the set stays inside, and one no deeper ends it
inside_deeper : (s : ℕ) (x : ValueRow) → s < x.depth → inside_at (some s) x ≡ some s
inside_deeper s x h = rw lt-ltb

inside_ended : (s : ℕ) (x : ValueRow) → x.depth ≤ s → inside_at (some s) x ≡ none
inside_ended s x h = rw le-ltb

alone_inside : (s : ℕ) (x : ValueRow) (rest : Option (List ValueRow)) → s < x.depth → alone_row (some s) x rest ≡ none
alone_inside s x rest h = alone_none (some s) x rest s (inside_deeper s x h)

alone_ended :
    (s : ℕ) (x : ValueRow) (rest : Option (List ValueRow)) → x.depth ≤ s → alone_row (some s) x rest ≡ alone_row none x rest
alone_ended s x rest h = alone_taken (some s) x rest (inside_ended s x h)

-- by the three answers of `next`
pub by_next :
    {P : Type 0} (x y : ValueRow)
    → (Before (placed_row x) (placed_row y) → P)
    → (Before (placed_row y) (placed_row x) → P)
    → (x.depth ≡ y.depth → x.key ≡ y.key → P)
    → P
by_next {P} x y left right both-then = go (next (placed_row x) (placed_row y)) (next_says (placed_row x) (placed_row y))
  where
    go : (n : Next) → Says (placed_row x) (placed_row y) n → P
    go first h = left h
    go second h = right h
    go same h = both-then h.depths h.steps

-- rows no deeper than the set end it
pub set_ended :
    (s : ℕ) (a b : List ValueRow) → Shallow (suc s) a → Shallow (suc s) b → merge_rows (some s) a b ≡ merge_rows none a b
set_ended s [] [] ha hb = turn_end (some s) ∙ sym (turn_end none)
set_ended s [] (y ∷ b) ha hb =
    turn_right (some s) y [] b tt
    ∙ alone_ended s y (merge_rows none [] b) (omega arith)
    ∙ sym (turn_right none y [] b tt)
set_ended s (x ∷ a) [] ha hb =
    turn_left (some s) x a [] tt
    ∙ alone_ended s x (merge_rows none a []) (omega arith)
    ∙ sym (turn_left none x a [] tt)
set_ended s (x ∷ a) (y ∷ b) ha hb =
    by_next x y
    (λ h.
    turn_left (some s) x a (y ∷ b) h
    ∙ alone_ended s x (merge_rows none a (y ∷ b)) (omega arith)
    ∙ sym (turn_left none x a (y ∷ b) h))
    (λ h.
    turn_right (some s) y (x ∷ a) b h
    ∙ alone_ended s y (merge_rows none (x ∷ a) b) (omega arith)
    ∙ sym (turn_right none y (x ∷ a) b h))
    (λ d k.
    turn_both (some s) x y a b d k ∙ rw (inside_ended s x (omega arith)) (sym (turn_both none x y a b d k)))

-- two runs that are equal are passed
pub set_same :
    (s : ℕ) (p a b : List ValueRow)
    → Deep (suc s) p
    → Shallow (suc s) a
    → Shallow (suc s) b
    → merge_rows (some s) (p ++ a) (p ++ b) ≡ (merge_rows none a b >>= (λ rows. some (p ++ rows)))
unfolding Deep
set_same s [] a b hp ha hb = set_ended s a b ha hb ∙ sym (bind_some (merge_rows none a b))
set_same s (x ∷ p) a b hp ha hb =
    turn_both (some s) x x (p ++ a) (p ++ b) refl refl
    ∙ rw (eq-eqb x.kind x.kind refl, eq-eqb x.number x.number refl, lt-ltb s x.depth hp.0)
    (ap (onto_rows x) (set_same s p a b hp.1 ha hb) ∙ onto_run x p (merge_rows none a b))

-- two runs that differ are not
pub set_other :
    (s : ℕ) (p q a b : List ValueRow)
    → Deep (suc s) p
    → Deep (suc s) q
    → Shallow (suc s) a
    → Shallow (suc s) b
    → (p ≡ q → ⊥)
    → merge_rows (some s) (p ++ a) (q ++ b) ≡ none
unfolding Deep
set_other s [] [] a b hp hq ha hb other = absurd (other refl)
set_other s [] (y ∷ q) a b hp hq ha hb other =
    turn_right (some s) y a (q ++ b) (comes_deeper (suc s) y a hq.0 ha)
    ∙ alone_inside s y (merge_rows none a (q ++ b)) hq.0
set_other s (x ∷ p) [] a b hp hq ha hb other =
    turn_left (some s) x (p ++ a) b (comes_deeper (suc s) x b hp.0 hb)
    ∙ alone_inside s x (merge_rows none (p ++ a) b) hp.0
set_other s (x ∷ p) (y ∷ q) a b hp hq ha hb other =
    by_next x y
    (λ h. turn_left (some s) x (p ++ a) (y ∷ (q ++ b)) h ∙ alone_inside s x (merge_rows none (p ++ a) (y ∷ (q ++ b))) hp.0)
    (λ h. turn_right (some s) y (x ∷ (p ++ a)) (q ++ b) h ∙ alone_inside s y (merge_rows none (x ∷ (p ++ a)) (q ++ b)) hq.0)
    (λ d k.
    turn_both (some s) x y (p ++ a) (q ++ b) d k
    ∙ by_test (agree_rows x y)
    (λ e.
    let (kinds, numbers) = (and-eq-true_iff (eqb x.kind y.kind) _).0 e in
    let rows_differ : p ≡ q → ⊥ = λ f. other (cc (row_equal x y d k (eqb-true _ _ kinds) (eqb-true _ _ numbers), f)) in
    rw (e, lt-ltb s x.depth hp.0) (ap (onto_rows x) (set_other s p q a b hp.1 hq.1 ha hb rows_differ)))
    (λ e. rw e))

-- Values.

-- the turn at two values of one key
value_turn :
    (v w : Value) (d k : ℕ) (a b : List ValueRow)
    → merge_rows none (value_rows d k v ++ a) (value_rows d k w ++ b)
    ≡ both_rows (own_row d k v) (own_row d k w)
    (merge_rows (inside_after none (own_row d k v)) (rows_inside (suc d) v ++ a) (rows_inside (suc d) w ++ b))
value_turn v w d k a b =
    rw (rows-of d k v, rows-of d k w)
    (turn_both none (own_row d k v) (own_row d k w) (rows_inside (suc d) v ++ a) (rows_inside (suc d) w ++ b) refl refl)

-- a value that is no record, met by the same
equal_pass :
    (v : Value) (d k : ℕ) (a b : List ValueRow)
    → record_in v ≡ none
    → Shallow (suc d) a
    → Shallow (suc d) b
    → merge_rows none (value_rows d k v ++ a) (value_rows d k v ++ b) ≡ (merge_rows none a b >>= (λ rows. some (value_rows d k v ++ rows)))
unfolding value_rows
equal_pass (plain n) d k a b leaf ha hb =
    value_turn (plain n) (plain n) d k a b ∙ rw (eq-eqb n n refl)
equal_pass (extension n) d k a b leaf ha hb =
    value_turn (extension n) (extension n) d k a b ∙ rw (eq-eqb n n refl)
equal_pass (entity_id n) d k a b leaf ha hb =
    value_turn (entity_id n) (entity_id n) d k a b ∙ rw (eq-eqb n n refl)
equal_pass (set_of e) d k a b leaf ha hb =
    value_turn (set_of e) (set_of e) d k a b
    ∙ ap (onto_rows (value_row d k set_kind 0)) (set_same d (element_rows (suc d) 0 e) a b (deep_elements (suc d) (suc d) 0 e (le_refl (suc d))) ha hb)
    ∙ onto_run (value_row d k set_kind 0) (element_rows (suc d) 0 e) (merge_rows none a b)
equal_pass (record_of e) d k a b leaf ha hb = let z : ◌≡◌ {A = ℕ} 0 1 = cc in absurd (zero_one z)

-- and by another
other_pass :
    (v w : Value) (d k : ℕ) (a b : List ValueRow)
    → record_in v ≡ none
    → Shallow (suc d) a
    → Shallow (suc d) b
    → (v ≡ w → ⊥)
    → merge_rows none (value_rows d k v ++ a) (value_rows d k w ++ b) ≡ none
other_pass v w d k a b leaf ha hb other =
    value_turn v w d k a b
    ∙ by_test (agree_rows (own_row d k v) (own_row d k w))
    (λ e.
    let (kinds, numbers) = (and-eq-true_iff (eqb (kind_of_value v) (kind_of_value w)) _).0 e in
    rw e (ap (onto_rows (own_row d k v))
    (go v w leaf other (rw (← eqb-true (kind_of_value v) (kind_of_value w) kinds) at (shape w)) (eqb-true (number_of_value v) (number_of_value w) numbers))))
    (λ e. rw e)
  where
    go :
        (v w : Value)
        → record_in v ≡ none
        → (v ≡ w → ⊥)
        → Shape (kind_of_value v) w
        → number_of_value v ≡ number_of_value w
        → merge_rows (inside_after none (own_row d k v)) (rows_inside (suc d) v ++ a) (rows_inside (suc d) w ++ b) ≡ none
    go (plain n) w leaf other (a_plain m) e = absurd (other (ap plain e))
    go (extension n) w leaf other (an_extension m) e = absurd (other (ap extension e))
    go (entity_id n) w leaf other (an_entity m) e = absurd (other (ap entity_id e))
    go (set_of x) w leaf other (a_set y) e =
        set_other d (element_rows (suc d) 0 x) (element_rows (suc d) 0 y) a b
        (deep_elements (suc d) (suc d) 0 x (le_refl (suc d)))
        (deep_elements (suc d) (suc d) 0 y (le_refl (suc d)))
        ha
        hb
        (λ h. other (ap set_of (element_rows_known x y (suc d) 0 [] [] tt tt (ap (λ l. l ++ []) h)).0))
    go (record_of x) w leaf other (a_record y) e = let z : ◌≡◌ {A = ℕ} 0 1 = cc in absurd (zero_one z)

-- values that are no records merge if they are the same
pub merged_leaf : (v w : Value) → record_in v ≡ none → merged_values v w ≡ if_same v w
unfolding merged_values
merged_leaf v (plain n) leaf = refl
merged_leaf v (extension n) leaf = refl
merged_leaf v (entity_id n) leaf = refl
merged_leaf v (set_of e) leaf = refl
merged_leaf v (record_of e) leaf =
    by_test (same_value v (record_of e))
    (λ t. let z : ◌≡◌ {A = ℕ} 0 1 = cc ((same-value v (record_of e)).0 t) in absurd (zero_one z))
    (λ t. rw (t, leaf))

leaf_law :
    (v w : Value) (d k : ℕ) (a b : List ValueRow)
    → record_in v ≡ none
    → Shallow (suc d) a
    → Shallow (suc d) b
    → merge_rows none (value_rows d k v ++ a) (value_rows d k w ++ b) ≡ rows_follow (merged_values v w) (value_rows d k) (merge_rows none a b)
leaf_law v w d k a b leaf ha hb =
    by_test (same_value v w)
    (λ t. rw (merged_leaf v w leaf, t) (rw (← (same-value v w).0 t) (equal_pass v d k a b leaf ha hb)))
    (λ t.
    rw (merged_leaf v w leaf, t)
    (other_pass v w d k a b leaf ha hb (λ e. false≢true (sym t ∙ (same-value v w).1 e))))

-- Fields.

-- a value that comes before all of the other side is taken as it is
inside_come : (d : ℕ) (v : Value) (b : List ValueRow) → Shallow (suc d) b → AllCome (rows_inside (suc d) v) b
inside_come d v b h = deep_come (suc d) (rows_inside (suc d) v) b (deep_inside (suc d) v) h

value_comes : (d k : ℕ) (v : Value) (b : List ValueRow) → Comes (own_row d k v) b → Shallow (suc d) b → AllCome (value_rows d k v) b
unfolding AllCome
value_comes d k v b c h = rw rows-of (c, inside_come d v b h)

value_left :
    (d f g : ℕ) (v w : Value) (a b : List ValueRow)
    → f < g
    → merge_rows none (value_rows d f v ++ a) (value_rows d g w ++ b)
    ≡ (merge_rows none a (value_rows d g w ++ b) >>= (λ rows. some (value_rows d f v ++ rows)))
value_left d f g v w a b less =
    run_left (value_rows d f v) a (value_rows d g w ++ b)
    (value_comes d f v (value_rows d g w ++ b) (rw rows-of (smaller refl less)) (shallow_value d g w b))

value_right :
    (d f g : ℕ) (v w : Value) (a b : List ValueRow)
    → g < f
    → merge_rows none (value_rows d f v ++ a) (value_rows d g w ++ b)
    ≡ (merge_rows none (value_rows d f v ++ a) b >>= (λ rows. some (value_rows d g w ++ rows)))
value_right d f g v w a b less =
    run_right (value_rows d g w) (value_rows d f v ++ a) b
    (value_comes d g w (value_rows d f v ++ a) (rw rows-of (smaller refl less)) (shallow_value d f v a))

-- one side has no field left
no_left_law : FieldsLaw no_attribute
unfolding value_rows
no_left_law q d a b hp hq ha hb =
    run_right (attribute_rows d q) a b (deep_come d (attribute_rows d q) a (deep_fields d d q (le_refl d)) ha)
    ∙ rw (fields_no_left q hq)

no_right_law :
    (p : Attributes) (d : ℕ) (a b : List ValueRow)
    → Shallow d b
    → merge_rows none (attribute_rows d p ++ a) (attribute_rows d no_attribute ++ b)
    ≡ rows_follow (merged_attributes p no_attribute) (attribute_rows d) (merge_rows none a b)
unfolding value_rows
no_right_law p d a b hb =
    run_left (attribute_rows d p) a b (deep_come d (attribute_rows d p) b (deep_fields d d p (le_refl d)) hb)
    ∙ rw (fields_no_right p)

-- a field in front, on either side of the equation
field_follows :
    (d f : ℕ) (o : Option Value) (m : Option Attributes) (t : Option (List ValueRow))
    → (o >>= (λ v. rows_follow m (attribute_rows d) t >>= (λ rows. some (value_rows d f v ++ rows))))
    ≡ rows_follow (with_attribute f o m) (attribute_rows d) t
unfolding value_rows
field_follows d f none m t = refl
field_follows d f (some v) none t = refl
field_follows d f (some v) (some m) none = refl
field_follows d f (some v) (some m) (some rows) = rw append_assoc

-- the first field's rows, and then the other fields'
rows_field :
    (d f : ℕ) (v : Value) (p : Attributes) (a : List ValueRow)
    → attribute_rows d (attribute f v p) ++ a ≡ value_rows d f v ++ (attribute_rows d p ++ a)
unfolding value_rows
rows_field d f v p a = append_assoc (value_rows d f v) (attribute_rows d p) a

-- both sides have the next field
both_law :
    (f : ℕ) (v w : Value) (p q : Attributes) (d : ℕ) (a b : List ValueRow)
    → ValueLaw v
    → FieldsLaw p
    → Ascending (attribute f v p)
    → Ascending (attribute f w q)
    → Shallow d a
    → Shallow d b
    → merge_rows none (value_rows d f v ++ (attribute_rows d p ++ a)) (value_rows d f w ++ (attribute_rows d q ++ b))
    ≡ rows_follow (merged_attributes (attribute f v p) (attribute f w q)) (attribute_rows d) (merge_rows none a b)
unfolding Ascending
both_law f v w p q d a b on_value on-fields hp hq ha hb =
    on_value w d f (attribute_rows d p ++ a) (attribute_rows d q ++ b) hp.0 hq.0 (shallow_fields d p a ha) (shallow_fields d q b hb)
    ∙ ap (rows_follow (merged_values v w) (value_rows d f)) (on-fields q d a b hp.2 hq.2 ha hb)
    ∙ field_follows d f (merged_values v w) (merged_attributes p q) (merge_rows none a b)
    ∙ rw (fields_both f v w p q hq.1)

field_law : (f : ℕ) (v : Value) (p : Attributes) → ValueLaw v → FieldsLaw p → FieldsLaw (attribute f v p)
unfolding Ascending Past
field_law f v p on_value on-fields no_attribute d a b hp hq ha hb = no_right_law (attribute f v p) d a b hb
field_law f v p on_value on-fields (attribute g w q) d a b hp hq ha hb =
    rw (rows_field d f v p a, rows_field d g w q b)
    (compared f g
    (λ less.
    value_left d f g v w (attribute_rows d p ++ a) (attribute_rows d q ++ b) less
    ∙ ap (ahead d f v) (rw (rows_field d g w q b) at (on-fields (attribute g w q) d a b hp.2 hq ha hb))
    ∙ field_follows d f (some v) (merged_attributes p (attribute g w q)) (merge_rows none a b)
    ∙ rw (fields_left f v p (attribute g w q) (less, past_trans f g q less hq.1)))
    (λ not-less.
    compared g f
    (λ less.
    value_right d f g v w (attribute_rows d p ++ a) (attribute_rows d q ++ b) less
    ∙ ap (ahead d g w) (rw (rows_field d f v p a) at (field_law f v p on_value on-fields q d a b hp hq.2 ha hb))
    ∙ field_follows d g (some w) (merged_attributes (attribute f v p) q) (merge_rows none a b)
    ∙ rw (fields_right f g v w p q less hq.1))
    (λ not_more.
    let names : g ≡ f = omega arith in
    rw names (both_law f v w p q d a b on_value on-fields hp (rw names at hq) ha hb))))

-- a record met by any value
record_law : (p : Attributes) → FieldsLaw p → ValueLaw (record_of p)
unfolding value_rows spelled same_list merged_values AscendingIn
record_law p on-fields (plain n) d k a b hv hw ha hb = value_turn (record_of p) (plain n) d k a b
record_law p on-fields (extension n) d k a b hv hw ha hb = value_turn (record_of p) (extension n) d k a b
record_law p on-fields (entity_id n) d k a b hv hw ha hb = value_turn (record_of p) (entity_id n) d k a b
record_law p on-fields (set_of e) d k a b hv hw ha hb = value_turn (record_of p) (set_of e) d k a b
record_law p on-fields (record_of q) d k a b hv hw ha hb =
    value_turn (record_of p) (record_of q) d k a b
    ∙ ap (onto_rows (value_row d k record_kind 0)) (on-fields q (suc d) a b hv hw ha hb)
    ∙ go (merged_attributes p q) (merge_rows none a b)
  where
    go :
        (o : Option Attributes) (t : Option (List ValueRow))
        → onto_rows (value_row d k record_kind 0) (rows_follow o (attribute_rows (suc d)) t) ≡ rows_follow (o >>= (λ m. some (record_of m))) (value_rows d k) t
    go none t = refl
    go (some m) none = refl
    go (some m) (some rows) = refl

mutual
  value_law : (v : Value) → ValueLaw v
  value_law (plain n) = λ w d k a b _ _ ha hb. leaf_law (plain n) w d k a b refl ha hb
  value_law (extension n) = λ w d k a b _ _ ha hb. leaf_law (extension n) w d k a b refl ha hb
  value_law (entity_id n) = λ w d k a b _ _ ha hb. leaf_law (entity_id n) w d k a b refl ha hb
  value_law (set_of e) = λ w d k a b _ _ ha hb. leaf_law (set_of e) w d k a b refl ha hb
  value_law (record_of p) = record_law p (fields_law p)

  fields_law : (p : Attributes) → FieldsLaw p
  fields_law no_attribute = no_left_law
  fields_law (attribute f v p) = field_law f v p (value_law v) (fields_law p)

-- The merge is one pass: the pass over the rows of two records gives none where they do not merge, and otherwise the rows of what
-- they merge to.
pub one_pass :
    (d : ℕ) (a b : Attributes)
    → Ascending a
    → Ascending b
    → merge_rows none (attribute_rows d a) (attribute_rows d b) ≡ (merged_attributes a b >>= (λ m. some (attribute_rows d m)))
one_pass d a b ha hb =
    let law : merge_rows none (attribute_rows d a ++ []) (attribute_rows d b ++ []) ≡ rows_follow (merged_attributes a b) (attribute_rows d) (some []) =
    rw (turn_end none) at (fields_law a b d [] [] ha hb tt tt) in
    simp append-nil at law

-- as two statements: they merge exactly where the pass gives rows, and then those are the rows of the merge
pub one_pass_some :
    (d : ℕ) (a b m : Attributes)
    → Ascending a
    → Ascending b
    → merged_attributes a b ≡ some m
    → merge_rows none (attribute_rows d a) (attribute_rows d b) ≡ some (attribute_rows d m)
one_pass_some d a b m ha hb e = one_pass d a b ha hb ∙ rw e

pub one_pass_none :
    (d : ℕ) (a b : Attributes)
    → Ascending a
    → Ascending b
    → (merge_rows none (attribute_rows d a) (attribute_rows d b) ≡ none) ↔ (merged_attributes a b ≡ none)
one_pass_none d a b ha hb = rw (one_pass d a b ha hb) (go (merged_attributes a b))
  where
    go : (o : Option Attributes) → ((o >>= (λ m. some (attribute_rows d m))) ≡ none) ↔ (o ≡ none)
    go none = (λ e. refl, λ e. refl)
    go (some m) = (
      λ e. let z : ◌≡◌ {A = ℕ} 0 1 = cc in absurd (zero_one z),
      λ e. let z : ◌≡◌ {A = ℕ} 0 1 = cc in absurd (zero_one z),
    )

-- Sets: two values' rows are equal exactly where they are written alike, and inside a set the pass gives rows exactly then.

pub rows_written : (v w : Value) (d k : ℕ) → (value_rows d k v ≡ value_rows d k w) ↔ (spelled v ≡ spelled w)
rows_written v w d k = (
  λ e. ap spelled (same_value_rows v w d k e),
  λ e. ap (value_rows d k) ((same-value v w).0 ((same-list (spelled v) (spelled w)).1 e)),
)

pub set_pass :
    (s : ℕ) (v w : Value) (d k : ℕ) (a b : List ValueRow)
    → s < d
    → Shallow (suc s) a
    → Shallow (suc s) b
    → merge_rows (some s) (value_rows d k v ++ a) (value_rows d k w ++ b)
    ≡ cond (same_value v w) (merge_rows none a b >>= (λ rows. some (value_rows d k v ++ rows))) none
set_pass s v w d k a b less ha hb =
    by_test (same_value v w)
    (λ t. rw t (rw (← (same-value v w).0 t) (set_same s (value_rows d k v) a b (deep_value (suc s) d k v less) ha hb)))
    (λ t.
    rw t
    (set_other s (value_rows d k v) (value_rows d k w) a b (deep_value (suc s) d k v less) (deep_value (suc s) d k w less) ha hb
    (λ e. false≢true (sym t ∙ (same-value v w).1 (same_value_rows v w d k e)))))

pub set_elements_pass :
    (s : ℕ) (x y : Elements) (a b : List ValueRow)
    → Shallow (suc s) a
    → Shallow (suc s) b
    → merge_rows (some s) (element_rows (suc s) 0 x ++ a) (element_rows (suc s) 0 y ++ b)
    ≡ cond (same_value (set_of x) (set_of y)) (merge_rows none a b >>= (λ rows. some (element_rows (suc s) 0 x ++ rows))) none
set_elements_pass s x y a b ha hb =
    by_test (same_value (set_of x) (set_of y))
    (λ t.
    let e : x ≡ y = cc ((same-value (set_of x) (set_of y)).0 t) in
    rw t (rw (← e) (set_same s (element_rows (suc s) 0 x) a b (deep_elements (suc s) (suc s) 0 x (le_refl (suc s))) ha hb)))
    (λ t.
    rw t
    (set_other s (element_rows (suc s) 0 x) (element_rows (suc s) 0 y) a b
    (deep_elements (suc s) (suc s) 0 x (le_refl (suc s)))
    (deep_elements (suc s) (suc s) 0 y (le_refl (suc s)))
    ha
    hb
    (λ e.
    let inside : x ≡ y = (element_rows_known x y (suc s) 0 [] [] tt tt (ap (λ l. l ++ []) e)).0 in
    false≢true (sym t ∙ (same-value (set_of x) (set_of y)).1 (ap set_of inside)))))

-- Merging with itself, and in the other order.

same_self : (v : Value) → if_same v v ≡ some v
same_self v = rw ((same-value v v).1 refl)

mutual
  unfolding merged_values AscendingIn

  pub merged_self : (v : Value) → AscendingIn v → merged_values v v ≡ some v
  merged_self (plain n) h = same_self (plain n)
  merged_self (extension n) h = same_self (extension n)
  merged_self (entity_id n) h = same_self (entity_id n)
  merged_self (set_of e) h = same_self (set_of e)
  merged_self (record_of a) h = rw (fields_self a h)

  pub fields_self : (a : Attributes) → Ascending a → merged_attributes a a ≡ some a
  fields_self no_attribute h = refl
  fields_self (attribute f v a) h = fields_both f v v a a h.1 ∙ rw (merged_self v h.0, fields_self a h.2)

-- a value that is no record on the right
merged_leaf_right : (v w : Value) → record_in w ≡ none → merged_values v w ≡ if_same v w
unfolding merged_values
merged_leaf_right v (plain n) leaf = refl
merged_leaf_right v (extension n) leaf = refl
merged_leaf_right v (entity_id n) leaf = refl
merged_leaf_right v (set_of e) leaf = refl
merged_leaf_right v (record_of e) leaf = let z : ◌≡◌ {A = ℕ} 0 1 = cc in absurd (zero_one z)

leaf_swap : (v w : Value) → record_in v ≡ none → merged_values v w ≡ merged_values w v
leaf_swap v w leaf =
    by_test (same_value v w)
    (λ t. rw ((same-value v w).0 t))
    (λ t.
    let turned : same_value w v ≡ false =
    by_test (same_value w v) (λ u. absurd (false≢true (sym t ∙ (same-value v w).1 (sym ((same-value w v).0 u))))) (λ u. u) in
    rw (merged_leaf v w leaf, merged_leaf_right w v leaf, t, turned))

field_swap : (f : ℕ) (v : Value) (p : Attributes) → ValueSwap v → FieldsSwap p → FieldsSwap (attribute f v p)
unfolding Ascending Past
field_swap f v p on_value on-fields no_attribute hp hq = fields_no_right (attribute f v p) ∙ sym (fields_no_left (attribute f v p) hp)
field_swap f v p on_value on-fields (attribute g w q) hp hq =
    compared f g
    (λ less.
    fields_left f v p (attribute g w q) (less, past_trans f g q less hq.1)
    ∙ ap (with_attribute f (some v)) (on-fields (attribute g w q) hp.2 hq)
    ∙ sym (fields_right g f w v q p less hp.1))
    (λ not-less.
    compared g f
    (λ less.
    fields_right f g v w p q less hq.1
    ∙ ap (with_attribute g (some w)) (field_swap f v p on_value on-fields q hp hq.2)
    ∙ sym (fields_left g w q (attribute f v p) (less, past_trans g f p less hp.1)))
    (λ not_more.
    let names : g ≡ f = omega arith in
    rw names
    (fields_both f v w p q (rw names at hq.1)
    ∙ rw (on_value w hp.0 hq.0, on-fields q hp.2 hq.2)
    (sym (fields_both f w v q p hp.1)))))

record_swap : (p : Attributes) → FieldsSwap p → ValueSwap (record_of p)
unfolding merged_values AscendingIn
record_swap p on-fields (plain n) hv hw = sym (leaf_swap (plain n) (record_of p) refl)
record_swap p on-fields (extension n) hv hw = sym (leaf_swap (extension n) (record_of p) refl)
record_swap p on-fields (entity_id n) hv hw = sym (leaf_swap (entity_id n) (record_of p) refl)
record_swap p on-fields (set_of e) hv hw = sym (leaf_swap (set_of e) (record_of p) refl)
record_swap p on-fields (record_of q) hv hw = rw (on-fields q hv hw)

mutual
  pub merged_swap : (v : Value) → ValueSwap v
  merged_swap (plain n) = λ w _ _. leaf_swap (plain n) w refl
  merged_swap (extension n) = λ w _ _. leaf_swap (extension n) w refl
  merged_swap (entity_id n) = λ w _ _. leaf_swap (entity_id n) w refl
  merged_swap (set_of e) = λ w _ _. leaf_swap (set_of e) w refl
  merged_swap (record_of p) = record_swap p (fields_swap p)

  pub fields_swap : (p : Attributes) → FieldsSwap p
  fields_swap no_attribute = λ q hp hq. fields_no_left q hq ∙ sym (fields_no_right q)
  fields_swap (attribute f v p) = field_swap f v p (merged_swap v) (fields_swap p)

pub swapped : (a b : Attributes) → Ascending a → Ascending b → merged_attributes a b ≡ merged_attributes b a
swapped a b ha hb = fields_swap a b ha hb

-- What is merged ascends, so that it can be merged again.

same_kept : (v w : Value) → AscendingIn v → Every AscendingIn (if_same v w)
same_kept v w h = by_test (same_value v w) (λ t. rw t h) (λ t. rw t tt)

leaf_kept : (v : Value) → record_in v ≡ none → ValueKept v
leaf_kept v leaf w hv hw = rw (merged_leaf v w leaf) (same_kept v w hv)

record_kept : (p : Attributes) → FieldsKept p → ValueKept (record_of p)
unfolding merged_values AscendingIn
record_kept p on-fields (plain n) hv hw = same_kept (record_of p) (plain n) hv
record_kept p on-fields (extension n) hv hw = same_kept (record_of p) (extension n) hv
record_kept p on-fields (entity_id n) hv hw = same_kept (record_of p) (entity_id n) hv
record_kept p on-fields (set_of e) hv hw = same_kept (record_of p) (set_of e) hv
record_kept p on-fields (record_of q) hv hw = go (merged_attributes p q) (on-fields q hv hw)
  where
    go : (o : Option Attributes) → Every (Kept p q) o → Every AscendingIn (o >>= (λ m. some (record_of m)))
    go none h = tt
    go (some m) h = h.ascends

no_left_kept : FieldsKept no_attribute
no_left_kept q hp hq = rw (fields_no_left q hq) (record { ascends = hq; past = λ k _ h. h })

field_kept : (f : ℕ) (v : Value) (p : Attributes) → ValueKept v → FieldsKept p → FieldsKept (attribute f v p)
unfolding Ascending Past
field_kept f v p on_value on-fields no_attribute hp hq =
    rw (fields_no_right (attribute f v p)) (record { ascends = hp; past = λ k h _. h })
field_kept f v p on_value on-fields (attribute g w q) hp hq =
    compared f g
    (λ less.
    rw (fields_left f v p (attribute g w q) (less, past_trans f g q less hq.1))
    (left less (merged_attributes p (attribute g w q)) (on-fields (attribute g w q) hp.2 hq)))
    (λ not-less.
    compared g f
    (λ less.
    rw (fields_right f g v w p q less hq.1)
    (right less (merged_attributes (attribute f v p) q) (field_kept f v p on_value on-fields q hp hq.2)))
    (λ not_more.
    let names : g ≡ f = omega arith in
    rw names
    (rw (fields_both f v w p q (rw names at hq.1))
    (in_both (rw names at hq.1) (merged_values v w) (merged_attributes p q) (on_value w hp.0 hq.0) (on-fields q hp.2 hq.2)))))
  where
    left :
        f < g
        → (o : Option Attributes)
        → Every (Kept p (attribute g w q)) o
        → Every (Kept (attribute f v p) (attribute g w q)) (with_attribute f (some v) o)
    left less none h = tt
    left less (some m) h =
        record {
          ascends = (hp.0, h.past f hp.1 (less, past_trans f g q less hq.1), h.ascends);
          past = λ k a b. (a.0, h.past k a.1 b);
        }

    right :
        g < f
        → (o : Option Attributes)
        → Every (Kept (attribute f v p) q) o
        → Every (Kept (attribute f v p) (attribute g w q)) (with_attribute g (some w) o)
    right less none h = tt
    right less (some m) h =
        record {
          ascends = (hq.0, h.past g (less, past_trans g f p less hp.1) hq.1, h.ascends);
          past = λ k a b. (b.0, h.past k a b.1);
        }

    in_both :
        Past f q
        → (u : Option Value) (o : Option Attributes)
        → Every AscendingIn u
        → Every (Kept p q) o
        → Every (Kept (attribute f v p) (attribute f w q)) (with_attribute f u o)
    in_both after none o hu h = tt
    in_both after (some u) none hu h = tt
    in_both after (some u) (some m) hu h =
        record {
          ascends = (hu, h.past f hp.1 after, h.ascends);
          past = λ k a b. (a.0, h.past k a.1 b.1);
        }

mutual
  value_kept : (v : Value) → ValueKept v
  value_kept (plain n) = leaf_kept (plain n) refl
  value_kept (extension n) = leaf_kept (extension n) refl
  value_kept (entity_id n) = leaf_kept (entity_id n) refl
  value_kept (set_of e) = leaf_kept (set_of e) refl
  value_kept (record_of p) = record_kept p (fields_kept p)

  fields_kept : (p : Attributes) → FieldsKept p
  fields_kept no_attribute = no_left_kept
  fields_kept (attribute f v p) = field_kept f v p (value_kept v) (fields_kept p)

pub merged_ascends : (a b m : Attributes) → Ascending a → Ascending b → merged_attributes a b ≡ some m → Ascending m
merged_ascends a b m ha hb e = let kept : Kept a b m = rw e at (fields_kept a b ha hb) in kept.ascends

-- A pass under way, for the code's loop: the rows `out` are written, the pass is inside that set, a and b are left.

module _ (whole : Option (List ValueRow)) (out : List ValueRow) (inside : Option ℕ) where
  -- one row more is written, or the answer is none
  pub written_on :
      (x : ValueRow) (o : Option (List ValueRow))
      → (onto_rows x o >>= (λ rows. some (out ++ rows))) ≡ (o >>= (λ rows. some ((out ++ (x ∷ [])) ++ rows)))
  written_on x none = refl
  written_on x (some rows) = rw append_assoc

  pub under_left :
      (x : ValueRow) (a b : List ValueRow)
      → Under whole out inside (x ∷ a) b
      → Comes x b
      → inside_at inside x ≡ none
      → Under whole (out ++ (x ∷ [])) none a b
  under_left x a b h c e =
      h ∙ rw (turn_left inside x a b c, alone_taken inside x (merge_rows none a b) e) (written_on x (merge_rows none a b))

  pub under_left_none :
      (x : ValueRow) (a b : List ValueRow) (s : ℕ)
      → Under whole out inside (x ∷ a) b
      → Comes x b
      → inside_at inside x ≡ some s
      → whole ≡ none
  under_left_none x a b s h c e = h ∙ rw (turn_left inside x a b c, alone_none inside x (merge_rows none a b) s e)

  pub under_right :
      (y : ValueRow) (a b : List ValueRow)
      → Under whole out inside a (y ∷ b)
      → Comes y a
      → inside_at inside y ≡ none
      → Under whole (out ++ (y ∷ [])) none a b
  under_right y a b h c e =
      h ∙ rw (turn_right inside y a b c, alone_taken inside y (merge_rows none a b) e) (written_on y (merge_rows none a b))

  pub under_right_none :
      (y : ValueRow) (a b : List ValueRow) (s : ℕ)
      → Under whole out inside a (y ∷ b)
      → Comes y a
      → inside_at inside y ≡ some s
      → whole ≡ none
  under_right_none y a b s h c e = h ∙ rw (turn_right inside y a b c, alone_none inside y (merge_rows none a b) s e)

  pub under_both :
      (x y : ValueRow) (a b : List ValueRow)
      → Under whole out inside (x ∷ a) (y ∷ b)
      → x.depth ≡ y.depth
      → x.key ≡ y.key
      → agree_rows x y ≡ true
      → Under whole (out ++ (x ∷ [])) (inside_after inside x) a b
  under_both x y a b h d k e =
      h ∙ rw (turn_both inside x y a b d k, e) (written_on x (merge_rows (inside_after inside x) a b))

  pub under_both_none :
      (x y : ValueRow) (a b : List ValueRow)
      → Under whole out inside (x ∷ a) (y ∷ b)
      → x.depth ≡ y.depth
      → x.key ≡ y.key
      → agree_rows x y ≡ false
      → whole ≡ none
  under_both_none x y a b h d k e = h ∙ rw (turn_both inside x y a b d k, e)

  pub under_end : Under whole out inside [] [] → whole ≡ some out
  under_end h = h ∙ rw (turn_end inside, append-nil)

pub under_begun : (a b : List ValueRow) → Under (merge_rows none a b) [] none a b
under_begun a b = sym (bind_some (merge_rows none a b))
