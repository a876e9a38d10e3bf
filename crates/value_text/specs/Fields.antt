-- What the fields of a line are read as, one after the other, for the contracts of `line`.
use Rattle.std.specs.Prelude.{ℕ, cond, List, [], ◌∷◌, drop, Option as Maybe, Some, None}
use Rattle.std.proofs.Math.Option.{Option, none, some}
use Rattle.rules.specs.Text.{fields_of, decimal_of}
use Rattle.rules.specs.Listing.{◌>>=◌, is_letter, place_in}
use Rattle.rules.specs.ValueRows.{ValueRow, value_row}
use Rattle.rules.specs.ValueRowTests.{is_value_row}
use Rattle.rules.specs.ValueTexts.{kind_letters}
use Rattle.values.specs.ValueWords.{value_row_in}
use Rattle.values.specs.declared.row.ValueRow.{ValueRow as RowWord}

-- what a line was read as
abbrev pub row_read : Maybe RowWord → Option ValueRow
row_read (Some row) = some (value_row_in row.word)
row_read None = none

-- the fields behind the first, where that is a letter and not the only one
abbrev pub lettered : ℕ → List (List ℕ) → Option (List (List ℕ))
lettered letter [] = none
lettered letter (word ∷ []) = none
lettered letter (word ∷ field ∷ fields) = cond (is_letter letter word) (some (field ∷ fields)) none

abbrev pub behind_read : List ℕ → Maybe ℕ → Option (List (List ℕ))
behind_read line (Some at) = some (fields_of (drop at line))
behind_read line None = none

-- a row that is of its form
abbrev pub of_form : ValueRow → Option ValueRow
of_form x = cond (is_value_row x) (some x) none

-- The first field by a way to read it, and the others by what that gives; the only field by a way to read it.
abbrev pub first_by : {A : Type 0} → (List ℕ → Option ℕ) → (ℕ → List (List ℕ) → Option A) → List (List ℕ) → Option A
first_by reads then [] = none
first_by reads then (field ∷ fields) = reads field >>= (λ n. then n fields)

abbrev pub only_by : {A : Type 0} → (List ℕ → Option ℕ) → (ℕ → Option A) → List (List ℕ) → Option A
only_by reads then [] = none
only_by reads then (field ∷ []) = reads field >>= then
only_by reads then (field ∷ next ∷ fields) = none

-- the fields of a row behind its letter, from the number on, from the kind on, from the key on, and all of them
abbrev pub number_fields : ℕ → ℕ → ℕ → List (List ℕ) → Option ValueRow
number_fields depth key kind = only_by decimal_of (λ number. of_form (value_row depth key kind number))

abbrev pub kind_fields : ℕ → ℕ → List (List ℕ) → Option ValueRow
kind_fields depth key = first_by (place_in kind_letters) (λ kind. number_fields depth key kind)

abbrev pub key_fields : ℕ → List (List ℕ) → Option ValueRow
key_fields depth = first_by decimal_of (λ key. kind_fields depth key)

abbrev pub row_fields : List (List ℕ) → Option ValueRow
row_fields = first_by decimal_of key_fields
