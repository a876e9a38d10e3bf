-- What taking a row keeps, and where elements are out of order, for the contracts of `rows`.
use Rattle.std.specs.Prelude.{ℕ, ◌+◌, ◌≤◌, ◌<◌, ◌≡◌, true, false, cond, List, length, take, set, Option as Maybe, Some, None}
use Rattle.std.proofs.Math.Option.{Option, none, some}
use Rattle.rules.specs.Text.{fields_of}
use Rattle.rules.specs.ValueRows.{ValueRow}
use Rattle.rules.specs.ValueRowTests.{Level, inside_value, in_turn, levels_after}
use Rattle.rules.specs.ValueTexts.{value_row_of, field_level, may_come, unordered, least_of}
use Rattle.values.specs.ValueWords.{value_row_in, value_rows_of}
use Rattle.values.specs.Lawful.{levels_in, row_at, rows_behind}

-- a line's row was taken: its word is stored, and the levels after it are kept
pub record ValueLinePassed (line words : List ℕ) (at : ℕ) (words' levels levels' : List ℕ) (open' : ℕ) : Type 0 where
  pub word : ℕ
  pub read : value_row_of (fields_of line) ≡ some (value_row_in word)
  pub may : may_come (levels_in levels) (value_row_in word) ≡ true
  pub written : words' ≡ set words at word
  pub after : levels_in (take open' levels') ≡ levels_after 1 (levels_in levels) (value_row_in word)
  pub few : open' ≤ length levels + 1

-- a line's row may not come, or there is none
abbrev pub RefusedRow : List Level → Option ValueRow → Type 0
RefusedRow levels none = Unit
RefusedRow levels (some x) = may_come levels x ≡ false

abbrev pub ValueLineTaken : List ℕ → List ℕ → ℕ → List ℕ → List ℕ → List ℕ → Maybe ℕ → Type 0
ValueLineTaken line words at words' levels levels' (Some open') = ValueLinePassed line words at words' levels levels' open'
ValueLineTaken line words at words' levels levels' None = RefusedRow (levels_in levels) (value_row_of (fields_of line))

-- the place of the next element, where the one at a place is not before it
abbrev pub next_unless : List ℕ → ℕ → Level → Maybe ℕ
next_unless words at here =
    cond (in_turn here (row_at words at) (rows_behind words at)) None
    (Some (at + 1 + length (inside_value (row_at words at).depth (rows_behind words at))))

-- a place of a row, if there is one, counted from a place on
abbrev pub place_found : ℕ → Maybe ℕ → Option ℕ
place_found from None = none
place_found from (Some n) = some (from + n)

-- the least of the places of elements that are not above the one before them, wherever the first row stands
pub record Misplaced (words : List ℕ) (r : Maybe ℕ) : Type 0 where
  pub within : (n : ℕ) → r ≡ Some n → n < length words
  pub least : (from : ℕ) → least_of (unordered field_level from (value_rows_of words)) ≡ place_found from r
