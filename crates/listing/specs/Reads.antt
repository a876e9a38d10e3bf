-- What reading a listing keeps from line to line, for the contracts of `reading`.
use Rattle.std.specs.Prelude.{ℕ, ◌+◌, ◌≤◌, ◌<◌, List, [], ◌∷◌, ◌++◌, map, ◌≡◌, length, take, Result, Ok, Err}
use Rattle.std.proofs.Math.Option.{Option, none, some}
use Rattle.rules.specs.Numbers.{Answer, accepted, refused}
use Rattle.rules.specs.Text.{lines_of}
use Rattle.rules.specs.Tries.{Row, Form}
use Rattle.rules.specs.Listing.{Sofar, refusal, start, past, rows_from}
use Rattle.rows.specs.Words.{word_of}
use Rattle.rows.specs.declared.Limits.{Limits}
use Rattle.listing.specs.declared.reading.Sofar.{Sofar as Kept}
use Rattle.words.specs.declared.Refusal.{Refusal}
use Rattle.words.specs.Runs.{stored}

-- the form of a state with these limits
abbrev pub form_for : Limits → Form
form_for limits = record { single = limits.single; entries = limits.entries; nodes = limits.nodes }

-- where reading has come to: the place of the last row is the front of the path
abbrev pub sofar_in : Kept → List ℕ → Sofar
sofar_in kept path = record { place = take kept.len path; entries = kept.entries; nodes = kept.nodes }

-- the number that refuses a row that was judged, if it is refused
abbrev pub refused_by : Result Unit ℕ → Option ℕ
refused_by (Ok judged) = none
refused_by (Err number) = some number

-- what is kept has room in the path and among the rows
pub record RowRoom (limits : Limits) (kept : Kept) (path rows : List ℕ) : Type 0 where
  pub path_length : length path ≡ 25
  pub in_path : kept.len ≤ 25
  pub few_entries : kept.entries ≤ limits.entries
  pub few_nodes : kept.nodes ≤ limits.nodes
  pub in_rows : limits.entries + limits.nodes < length rows

-- a row was taken: its word is stored behind the others, and reading has come past it
pub record RowPassed (limits : Limits) (kept : Kept) (row : Row) (path rows path' rows' : List ℕ) (next : Kept) : Type 0 where
  pub unrefused : refusal (form_for limits) (sofar_in kept path) row ≡ none
  pub comes_past : sofar_in next path' ≡ past (sofar_in kept path) row
  pub stored_row : stored (next.entries + next.nodes) rows' ≡ stored (kept.entries + kept.nodes) rows ++ (word_of row ∷ [])
  pub room : RowRoom limits next path' rows'

-- what taking a row answers
abbrev pub RowTaken : Limits → Kept → Row → List ℕ → List ℕ → List ℕ → List ℕ → Result Kept ℕ → Type 0
RowTaken limits kept row path rows path' rows' (Ok next) = RowPassed limits kept row path rows path' rows' next
RowTaken limits kept row path rows path' rows' (Err number) = refusal (form_for limits) (sofar_in kept path) row ≡ some number

-- what a text gives, line after line
abbrev pub rows_by : Limits → List ℕ → Answer (List Row)
rows_by limits text = rows_from (form_for limits) start 0 (lines_of text)

-- the words of the rows that a text gives
abbrev pub row_words : Answer (List Row) → Answer (List ℕ)
row_words (accepted rows) = accepted (map word_of rows)
row_words (refused number place) = refused number place

-- what was read into rows: the words that are stored, or a refusal
abbrev pub rows_got : Result ℕ Refusal → List ℕ → Answer (List ℕ)
rows_got (Ok count) rows = accepted (stored count rows)
rows_got (Err why) rows = refused why.number why.place

abbrev pub row_count : Result ℕ Refusal → ℕ
row_count (Ok count) = count
row_count (Err why) = 0
