-- What typing answers and leaves (docs/FORMS.md, 'Judging').
use Rattle.std.specs.Prelude.{ℕ, ◌<◌, cond, ◌&&◌, List, map, ◌≡◌, leb, length}
use Rattle.rules.specs.Numbers.{Answer, accepted, refused}
use Rattle.rules.specs.Tries.{Row, manifest}
use Rattle.rules.specs.Typing.{typed}
use Rattle.words.specs.Runs.{Outcome, refusing, stored}
use Rattle.rows.specs.Words.{word_of}
use Rattle.rows.specs.States.{rows_in, lawful_state, storing}
use Rattle.schema.specs.Items.{items_in, schema_words, lawful_schema}
use Rattle.words.specs.declared.Refusal.{Refusal}
use Rattle.std.specs.Prelude.{Result, Ok, Err}

-- typing: 31, then 1 at 0 for a schema or a manifest that is not lawful, then by node 9, 10, 11
unfoldable pub typed_in : List ℕ → List ℕ → List ℕ → Outcome
typed_in schema state out =
    cond (leb schema_words (length schema) && (leb 4161 (length state) && leb 4161 (length out)))
    (cond (lawful_schema schema && lawful_state manifest state) (storing out (typed (items_in schema) (rows_in state))) (refusing 1 0 out))
    (refusing 31 0 out)

-- what was typed into words: those of the rows that stay, from place 1 on, or a refusal
pub record TypedRows (answer : Answer (List Row)) (out : List ℕ) (count : ℕ) : Type 0 where
  pub rows : List Row
  pub answered : answer ≡ accepted rows
  pub words_stored : stored count out ≡ map word_of rows
  pub inside : count < length out

abbrev pub TypedInto : Answer (List Row) → List ℕ → Result ℕ Refusal → Type 0
TypedInto answer out (Ok count) = TypedRows answer out count
TypedInto answer out (Err why) = answer ≡ refused why.number why.place
