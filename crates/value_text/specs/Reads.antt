-- What reading a value's lines gives, for the contracts of `reading`.
use Rattle.std.specs.Prelude.{ℕ, List, Result, Ok, Err}
use Rattle.rules.specs.Numbers.{Answer, accepted, refused, and_then}
use Rattle.rules.specs.Lines.{fold_lines}
use Rattle.rules.specs.ValueRows.{ValueRow}
use Rattle.rules.specs.ValueTexts.{no_rows, value_line}
use Rattle.words.specs.Runs.{stored}
use Rattle.words.specs.declared.Refusal.{Refusal}
use Rattle.values.specs.ValueWords.{value_rows_of}

-- the rows of lines, in whatever order their elements are
abbrev pub rows_given : ℕ → List (List ℕ) → Answer (List ValueRow)
rows_given place lines = and_then (fold_lines value_line place lines no_rows) (λ all. accepted all.state.rows)

-- what was read into words: the rows of the words that are stored, or a refusal
abbrev pub rows_got : Result ℕ Refusal → List ℕ → Answer (List ValueRow)
rows_got (Ok count) words = accepted (value_rows_of (stored count words))
rows_got (Err refusal) words = refused refusal.number refusal.place

abbrev pub row_count : Result ℕ Refusal → ℕ
row_count (Ok count) = count
row_count (Err refusal) = 0
