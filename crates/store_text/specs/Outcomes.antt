-- What reading a store's text gives, answers and leaves.
use Rattle.std.specs.Prelude.{ℕ, ◌≤◌, ◌≡◌, cond, List, ◌∷◌, leb, length, Result, Ok, Err}
use Rattle.std.proofs.lemmas.List.Edits.{sets}
use Rattle.rules.specs.Numbers.{Answer, accepted, refused, and_then}
use Rattle.rules.specs.ValueTexts.{EntityRead, store_in_order, read_store}
use Rattle.words.specs.Runs.{Outcome, refusing, stored}
use Rattle.words.specs.Replies.{Done}
use Rattle.words.specs.declared.Refusal.{Refusal}
use Rattle.store_text.specs.Words.{store_words}
use Rattle.store_text.specs.Entities.{HoldsEntities}

-- every line has passed: the words that are stored are those of entities, whose order is left to judge
pub record TextJudged (text words : List ℕ) (count : ℕ) : Type 0 where
  pub es : List EntityRead
  pub holds : HoldsEntities (stored count words) es
  pub given : read_store text ≡ store_in_order es
  pub most : count ≤ 16384

abbrev pub LinesGot : List ℕ → List ℕ → Result ℕ Refusal → Type 0
LinesGot text words (Ok count) = TextJudged text words count
LinesGot text words (Err refusal) = read_store text ≡ refused refusal.number refusal.place

-- what was read into words: those that are stored, or a refusal
abbrev pub store_got : Result ℕ Refusal → List ℕ → Answer (List ℕ)
store_got (Ok count) words = accepted (stored count words)
store_got (Err refusal) words = refused refusal.number refusal.place

abbrev pub store_given : List ℕ → Answer (List ℕ)
store_given text = and_then (read_store text) (λ es. accepted (store_words es))

abbrev pub line_count : Result ℕ Refusal → ℕ
line_count (Ok count) = count
line_count (Err refusal) = 0

-- docs/FORMS.md, 'Lent buffers': 1 count of lines + 16,384 lines; and the longest text
abbrev pub store_length : ℕ
store_length = 16385

abbrev pub text_length : ℕ
text_length = 65536

-- reading: 31, 15 for a longer text, then what the text gives by line
abbrev pub storing_store : List ℕ → Answer (List EntityRead) → Outcome
storing_store out (accepted es) = record { reply = Done; buffer = sets out 0 (length (store_words es) ∷ store_words es) }
storing_store out (refused number place) = refusing number place out

unfoldable pub read_store_in : List ℕ → List ℕ → Outcome
read_store_in text out =
    cond (leb store_length (length out)) (cond (leb (length text) text_length) (storing_store out (read_store text)) (refusing 15 0 out)) (refusing 31 0 out)
