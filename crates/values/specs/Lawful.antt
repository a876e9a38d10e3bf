-- What the test of a lent run of value rows keeps and answers, in words.
use Rattle.std.specs.Prelude.{ℕ, ◌+◌, ◌-◌, ◌/◌, ◌%◌, ◌≤◌, ◌≡◌, Bool, ◌&&◌, List, map, eqb, length, take, drop, get_or}
use Rattle.rules.specs.ValueRows.{ValueRow}
use Rattle.rules.specs.ValueRowTests.{
  Level,
  level,
  is_value_row,
  inside_value,
  beyond_value,
  ahead_of,
  fits_level,
  in_turn,
  comes,
  levels_after,
}
use Rattle.values.specs.ValueWords.{value_row_in, value_rows_of}

-- From a place on, the rows deeper than a depth end at a place: those before it are inside the value, and the others beyond it.
pub record PastInside (words : List ℕ) (at depth end : ℕ) : Type 0 where
  pub from : at ≤ end
  pub within : end ≤ length words
  pub inside : inside_value depth (value_rows_of (drop at words)) ≡ value_rows_of (take (end - at) (drop at words))
  pub beyond : beyond_value depth (value_rows_of (drop at words)) ≡ value_rows_of (drop end words)

-- the row at a place, and those behind it
abbrev pub row_at : List ℕ → ℕ → ValueRow
row_at words at = value_row_in (get_or words at 0)

abbrev pub rows_behind : List ℕ → ℕ → List ValueRow
rows_behind words at = value_rows_of (drop (at + 1) words)

-- the element at a place comes before the next one of its set, if there is one
abbrev pub is_ahead_at : List ℕ → ℕ → Bool
is_ahead_at words at = ahead_of (row_at words at) (rows_behind words at) (beyond_value (row_at words at).depth (rows_behind words at))

-- A level is a word: twice the least key, and one more if it is of a set.
abbrev pub level_in : ℕ → Level
level_in w = level (eqb (w % 2) 1) (w / 2)

abbrev pub levels_in : List ℕ → List Level
levels_in words = map level_in words

-- the row at a place may come at a level
abbrev pub fits_at : List ℕ → ℕ → Level → Bool
fits_at words at here = fits_level here (row_at words at) && in_turn here (row_at words at) (rows_behind words at)

-- the row at a place may come at the levels from depth 1 on
abbrev pub comes_at : List ℕ → ℕ → List Level → Bool
comes_at words at levels = is_value_row (row_at words at) && comes 1 levels (row_at words at) (rows_behind words at)

-- After a row so many levels are open: those above it, its own, and one below it if it is a set or a record.
pub record Opened (levels : List ℕ) (x : ValueRow) (levels' : List ℕ) (count : ℕ) : Type 0 where
  pub after : levels_in (take count levels') ≡ levels_after 1 (levels_in levels) x
  pub few : count ≤ x.depth + 1
