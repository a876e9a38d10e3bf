-- What reading a schema's text answers and leaves.
use Rattle.std.specs.Prelude.{ℕ, cond, List, ◌∷◌, map, leb, length}
use Rattle.std.proofs.lemmas.List.Edits.{sets}
use Rattle.rules.specs.Numbers.{Answer, accepted, refused}
use Rattle.rules.specs.Schema.{Item, read_schema}
use Rattle.words.specs.Runs.{Outcome, refusing}
use Rattle.words.specs.Replies.{Done}
use Rattle.schema.specs.Items.{item_word, schema_words}

-- reading: 31, then what the text gives by line
abbrev pub storing_items : List ℕ → Answer (List Item) → Outcome
storing_items out (accepted items) = record { reply = Done; buffer = sets out 0 (length items ∷ map item_word items) }
storing_items out (refused number place) = refusing number place out

unfoldable pub read_schema_in : List ℕ → List ℕ → Outcome
read_schema_in text out = cond (leb schema_words (length out)) (storing_items out (read_schema text)) (refusing 31 0 out)
