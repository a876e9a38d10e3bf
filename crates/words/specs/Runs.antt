-- What a step of writing leaves, what a lent state's words are (docs/FORMS.md, 'Lent buffers'), and what an operation on it answers and leaves.
use Rattle.std.specs.Prelude.{ℕ, ◌+◌, ◌≡◌, List, length, take, drop, get_or}
use Rattle.std.proofs.lemmas.List.Edits.{sets}
use Rattle.words.specs.Replies.{Reply, Refused}

-- the words or bytes xs were written from the place `at` on, and at' is the place after them
pub record Wrote {A : Type 0} (out : List A) (at : ℕ) (xs out' : List A) (at' : ℕ) : Type 0 where
  pub after : at' ≡ at + length xs
  pub text : out' ≡ sets out at xs

-- so many words are stored, from place 1 on
abbrev pub stored : ℕ → List ℕ → List ℕ
stored count words = take count (drop 1 words)

-- a state's words: as many as its first word counts
abbrev pub words_in : List ℕ → List ℕ
words_in state = stored (get_or state 0 0) state

-- What an operation answers, and what the lent buffer then holds.
pub record Outcome : Type 0 where
  pub reply : Reply
  pub buffer : List ℕ

abbrev pub refusing : ℕ → ℕ → List ℕ → Outcome
refusing number place out = record { reply = Refused number place; buffer = out }
