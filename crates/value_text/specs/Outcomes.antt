-- What reading a value's text answers and leaves.
use Rattle.std.specs.Prelude.{ℕ, cond, List, ◌∷◌, map, leb, length}
use Rattle.std.proofs.lemmas.List.Edits.{sets}
use Rattle.rules.specs.Numbers.{Answer, accepted, refused}
use Rattle.rules.specs.Text.{lines_of}
use Rattle.rules.specs.ValueRows.{ValueRow}
use Rattle.rules.specs.ValueTexts.{value_from_lines}
use Rattle.words.specs.Runs.{Outcome, refusing}
use Rattle.words.specs.Replies.{Done}
use Rattle.values.specs.ValueWords.{value_word}

-- docs/FORMS.md, 'Lent buffers': 1 count of rows + 8,192 rows
abbrev pub value_words : ℕ
value_words = 8193

-- reading: 31, then what the text gives by line, the first line of a number
abbrev pub storing_rows : List ℕ → Answer (List ValueRow) → Outcome
storing_rows out (accepted rows) = record { reply = Done; buffer = sets out 0 (length rows ∷ map value_word rows) }
storing_rows out (refused number place) = refusing number place out

unfoldable pub read_value_in : ℕ → List ℕ → List ℕ → Outcome
read_value_in place text out = cond (leb value_words (length out)) (storing_rows out (value_from_lines place (lines_of text))) (refusing 31 0 out)
