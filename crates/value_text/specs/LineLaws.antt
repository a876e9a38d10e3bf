-- Laws of the fields of a line, read one after the other. No contract cites this file.
use Rattle.std.specs.Prelude.{ℕ, ◌+◌, ◌-◌, ◌^◌, ◌≤◌, ◌<◌, true, false, List, [], ◌∷◌, ◌≡◌, refl, length, take, drop, Option as Maybe, Some, None}
use Rattle.std.proofs.Math.Nat.{sub-zero}
use Rattle.std.proofs.Common.{arith, sym, ap, ◌∙◌, length-drop, take_all}
use Rattle.std.proofs.Math.Option.{Option, none, some}
use Rattle.rules.specs.Facts.{by_test, by_option}
use Rattle.rules.specs.Text.{fields_of, decimal_of, TAB}
use Rattle.rules.proofs.TextLaws.{parted_some, parted_first, parted_free, free_decimal, decimal_read, decimal_written, joined_by, joined_parted}
use Rattle.rules.specs.Listing.{◌>>=◌, is_letter, place_in}
use Rattle.rules.specs.ValueRows.{value_row}
use Rattle.rules.specs.ValueTexts.{kind_letters, value_row_of, asked_of}
use Rattle.text.specs.Answers.{number_of, number_at, field_at}
use Rattle.text.proofs.Laws.{value_most, number_ends, number_unended}
use Rattle.text.proofs.FieldLaws.{Ends, fields_last}
use Rattle.values.specs.ValueWords.{value_row_in, value_word}
use Rattle.value_text.specs.Fields.{lettered, first_by, only_by, row_fields}
use Rattle.value_text.specs.Asking.{asked_fields}

-- ---- the first field

-- where the others give nothing without a field, a way to read the first may fail as well
then_none : {A : Type 0} (o : Option ℕ) (then : ℕ → Option A) → ((n : ℕ) → then n ≡ none) → (o >>= then) ≡ none
then_none none then h = refl
then_none (some n) then h = h n

module _ {A : Type 0} (line : List ℕ) (at : ℕ) (then : ℕ → List (List ℕ) → Option A) where
  module _ {r : Maybe (ℕ × ℕ)} (ensured : r ≡ number_at TAB line at) where
    -- a decimal that a tab ends: the others stand behind the tab
    pub number_first : {n end : ℕ} → r ≡ Some (n, end) →
        (n ≤ 65535) × (at ≤ end) × (end < length line)
        × (first_by decimal_of then (fields_of (drop at line)) ≡ then n (fields_of (drop (end + 1) line)))
    number_first {n} {end} e =
        let (small, within, size, left) = number_ends TAB line at ensured e in
        (small, omega arith, within, rw (left, parted_first {b = TAB} (free_decimal TAB n (omega arith)), decimal_read n small))

    -- no decimal that a tab ends
    pub number_none : ((n : ℕ) → then n [] ≡ none) → r ≡ None → none ≡ first_by decimal_of then (fields_of (drop at line))
    number_none alone bad = go (fields_of (drop at line)) refl
      where
        go : (fields : List (List ℕ)) → fields_of (drop at line) ≡ fields → none ≡ first_by decimal_of then (fields_of (drop at line))
        go [] q = rw q
        go (field ∷ []) q = rw q (sym (then_none (decimal_of field) (λ n. then n []) alone))
        go (field ∷ next ∷ more) q = rw (q, number_unended TAB line at ensured bad field next more q)

-- a first field by any way to read it, by where a scan for its tab ended
module _ {A : Type 0} (line : List ℕ) (at : ℕ) (reads : List ℕ → Option ℕ) (then : ℕ → List (List ℕ) → Option A) where
  module _ {end : ℕ} (ends : Ends line at end) where
    pub field_first : {n : ℕ} → reads (take (end - at) (drop at line)) ≡ some n →
        first_by reads then (fields_of (drop at line)) ≡ then n (fields_of (drop (end + 1) line))
    field_first e = rw (ends.2, e)

    pub field_none : reads (take (end - at) (drop at line)) ≡ none → none ≡ first_by reads then (fields_of (drop at line))
    field_none e = rw (ends.2, e)

  -- it is the last
  pub field_alone : {r : Maybe ℕ} → r ≡ field_at line at → r ≡ None → ((n : ℕ) → then n [] ≡ none) → none ≡ first_by reads then (fields_of (drop at line))
  field_alone {r} ensured e alone =
      rw (fields_last line at r ensured e) (sym (then_none (reads (take (length line - at) (drop at line))) (λ n. then n []) alone))

-- the only field that is left
pub only_left : {A : Type 0} (rest : List ℕ) (then : ℕ → Option A) → only_by decimal_of then (fields_of rest) ≡ (decimal_of rest >>= then)
unfolding joined_by
only_left rest then =
    by_option (decimal_of rest)
    (λ bad. rw bad (go bad (fields_of rest) refl))
    (λ n e. rw (parted_free {b = TAB} {xs = rest} (rw (decimal_written rest n e).0 (free_decimal TAB n (omega arith)))))
  where
    go : decimal_of rest ≡ none → (fields : List (List ℕ)) → fields_of rest ≡ fields → only_by decimal_of then (fields_of rest) ≡ none
    go bad [] q = rw q
    go bad (field ∷ []) q =
        let whole : field ≡ rest = sym (ap (joined_by TAB) q) ∙ joined_parted TAB rest in
        rw (q, whole, bad)
    go bad (field ∷ next ∷ more) q = rw q

-- what a line ends with, read as a decimal
module _ {A : Type 0} (line : List ℕ) (at : ℕ) (then : ℕ → Option A) (r : Maybe ℕ)
    (ensured : number_of r ≡ decimal_of (take (length line - at) (drop at line))) where
  last_read : only_by decimal_of then (fields_of (drop at line)) ≡ (number_of r >>= then)
  last_read =
      let all : take (length line - at) (drop at line) ≡ drop at line = take_all (length line - at) (drop at line) (omega (arith, length-drop at line)) in
      only_left (drop at line) then ∙ rw (ensured, all)

  pub last_value : {n : ℕ} → r ≡ Some n → (n ≤ 65535) × (only_by decimal_of then (fields_of (drop at line)) ≡ then n)
  last_value {n} e = (value_most _ r n ensured e, last_read ∙ ap (λ (d : Maybe ℕ). number_of d >>= then) e)

  pub last_none : r ≡ None → none ≡ only_by decimal_of then (fields_of (drop at line))
  last_none e = sym (last_read ∙ ap (λ (d : Maybe ℕ). number_of d >>= then) e)

-- a first field that a tab ends, by whether it is a letter
module _ (line : List ℕ) (letter : ℕ) {end : ℕ} (ends : Ends line 0 end) where
  pub letter_behind : is_letter letter (take end line) ≡ true → some (fields_of (drop (end + 1) line)) ≡ lettered letter (fields_of line)
  letter_behind is = rw (ends.2, sub-zero, (parted_some TAB (drop (end + 1) line)).2, is)

  pub letter_other : is_letter letter (take end line) ≡ false → none ≡ lettered letter (fields_of line)
  letter_other not-it = rw (ends.2, sub-zero, (parted_some TAB (drop (end + 1) line)).2, not-it)

-- ---- a row

-- the row of a line, by the fields behind its letter
pub row_behind : (fields : List (List ℕ)) → value_row_of fields ≡ (lettered 86 fields >>= row_fields)
unfolding value_row_of
row_behind [] = refl
row_behind (word ∷ []) = refl
row_behind (word ∷ d ∷ fields) = by_test (is_letter 86 word) (λ v. rw v (go d fields v)) (λ v. rw v (other d fields v))
  where
    go : (d : List ℕ) (fields : List (List ℕ)) → is_letter 86 word ≡ true → value_row_of (word ∷ d ∷ fields) ≡ row_fields (d ∷ fields)
    go d [] v = sym (then_none (decimal_of d) _ (λ _. refl))
    go d (k ∷ []) v = sym (then_none (decimal_of d) _ (λ _. then_none (decimal_of k) _ (λ _. refl)))
    go d (k ∷ t ∷ []) v =
        sym (then_none (decimal_of d) _ (λ _. then_none (decimal_of k) _ (λ _. then_none (place_in kind_letters t) _ (λ _. refl))))
    go d (k ∷ t ∷ n ∷ []) v = rw v
    go d (k ∷ t ∷ n ∷ o ∷ more) v =
        sym (then_none (decimal_of d) _ (λ _. then_none (decimal_of k) _ (λ _. then_none (place_in kind_letters t) _ (λ _. refl))))

    other : (d : List ℕ) (fields : List (List ℕ)) → is_letter 86 word ≡ false → value_row_of (word ∷ d ∷ fields) ≡ none
    other d [] v = refl
    other d (k ∷ []) v = refl
    other d (k ∷ t ∷ []) v = refl
    other d (k ∷ t ∷ n ∷ []) v = rw v
    other d (k ∷ t ∷ n ∷ o ∷ more) v = refl

-- ---- the first line of a request

pub asked_behind : (fields : List (List ℕ)) → asked_of fields ≡ (lettered 81 fields >>= asked_fields)
unfolding asked_of
asked_behind [] = refl
asked_behind (word ∷ []) = refl
asked_behind (word ∷ a ∷ fields) = by_test (is_letter 81 word) (λ q. rw q (go a fields q)) (λ q. rw q (other a fields q))
  where
    go : (a : List ℕ) (fields : List (List ℕ)) → is_letter 81 word ≡ true → asked_of (word ∷ a ∷ fields) ≡ asked_fields (a ∷ fields)
    go a [] q = sym (then_none (decimal_of a) _ (λ _. refl))
    go a (b ∷ []) q = sym (then_none (decimal_of a) _ (λ _. then_none (decimal_of b) _ (λ _. refl)))
    go a (b ∷ c ∷ []) q =
        sym (then_none (decimal_of a) _ (λ _. then_none (decimal_of b) _ (λ _. then_none (decimal_of c) _ (λ _. refl))))
    go a (b ∷ c ∷ d ∷ []) q =
        sym
        (then_none (decimal_of a) _ (λ _.
        then_none (decimal_of b) _ (λ _. then_none (decimal_of c) _ (λ _. then_none (decimal_of d) _ (λ _. refl)))))
    go a (b ∷ c ∷ d ∷ e ∷ []) q = rw q
    go a (b ∷ c ∷ d ∷ e ∷ f ∷ more) q =
        sym
        (then_none (decimal_of a) _ (λ _.
        then_none (decimal_of b) _ (λ _. then_none (decimal_of c) _ (λ _. then_none (decimal_of d) _ (λ _. refl)))))

    other : (a : List ℕ) (fields : List (List ℕ)) → is_letter 81 word ≡ false → asked_of (word ∷ a ∷ fields) ≡ none
    other a [] q = refl
    other a (b ∷ []) q = refl
    other a (b ∷ c ∷ []) q = refl
    other a (b ∷ c ∷ d ∷ []) q = refl
    other a (b ∷ c ∷ d ∷ e ∷ []) q = rw q
    other a (b ∷ c ∷ d ∷ e ∷ f ∷ more) q = refl

-- ---- a row's word

-- the row whose word is made of its parts
pub row_again : (depth key kind number : ℕ) → key < 2 ^ 16 → kind < 8 → number < 2 ^ 16 →
    value_row_in (value_word (value_row depth key kind number)) ≡ value_row depth key kind number
row_again depth key kind number k t n =
    let w = value_word (value_row depth key kind number) in
    let d : (value_row_in w).depth ≡ depth = omega arith in
    let a : (value_row_in w).key ≡ key = omega arith in
    let b : (value_row_in w).kind ≡ kind = omega arith in
    let c : (value_row_in w).number ≡ number = omega arith in
    cc
