-- What a call of a load answers, and what the lent buffers then hold; and what lent answers, and sets of ancestor ids, give.
use Rattle.std.specs.Prelude.{ℕ, ◌≡◌, List, take, drop, get_or}
use Rattle.rules.specs.Numbers.{Answer, accepted, refused}
use Rattle.rules.specs.Loading.{LoadAnswer, done, refused_at}
use Rattle.answers.specs.Answers.{ReadItem, ItemOf, lent_from}
use Rattle.answers.specs.declared.Lending.{Lending}
use Rattle.load_state.specs.LoadReplies.{LoadReply, Refused, Counted}

-- of a call that changes one buffer
pub record LoadOutcome : Type 0 where
  pub reply : LoadReply
  pub buffer : List ℕ

abbrev pub refusing_call : ℕ → ℕ → List ℕ → LoadOutcome
refusing_call number place buffer = record { reply = Refused number place; buffer = buffer }

abbrev pub counting_call : ℕ → ℕ → List ℕ → LoadOutcome
counting_call expected got buffer = record { reply = Counted expected got; buffer = buffer }

-- of a call that changes the state and writes what it hands out
pub record HandedOut : Type 0 where
  pub reply : LoadReply
  pub state : List ℕ
  pub out : List ℕ

abbrev pub refusing_out : ℕ → ℕ → List ℕ → List ℕ → HandedOut
refusing_out number place state out = record { reply = Refused number place; state = state; out = out }

abbrev pub counting_out : ℕ → ℕ → List ℕ → List ℕ → HandedOut
counting_out expected got state out = record { reply = Counted expected got; state = state; out = out }

-- a call answers and leaves what it is to
abbrev pub AnsweredAs : LoadOutcome → LoadReply → List ℕ → Type 0
AnsweredAs outcome reply buffer = (reply ≡ outcome.reply) × (buffer ≡ outcome.buffer)

abbrev pub HandedAs : HandedOut → LoadReply → List ℕ → List ℕ → Type 0
HandedAs outcome reply state out = (reply ≡ outcome.reply) × (state ≡ outcome.state) × (out ≡ outcome.out)

-- 'Answers in' and 'Ancestors answers in': a count, and words behind it
abbrev pub lent_words : ℕ
lent_words = 24577

abbrev pub behind_count : List ℕ → List ℕ
behind_count lent = take 24576 (drop 1 lent)

-- what they give: 1 at the first that is not of its form
abbrev pub given : {A : Type 0} → Answer (ReadItem (List A)) → LoadAnswer (List A)
given (accepted all) = done all.item
given (refused number place) = refused_at number place

abbrev pub given_in : (lent : Lending) → List ℕ → LoadAnswer (List (ItemOf lent))
given_in lent words = given (lent_from lent 0 (get_or words 0 0) (behind_count words))

-- how many words so many of them take
abbrev pub size_of_all : {A : Type 0} → Answer (ReadItem (List A)) → ℕ
size_of_all (accepted all) = all.size
size_of_all (refused number place) = 0

abbrev pub words_of : Lending → ℕ → List ℕ → ℕ
words_of lent count words = size_of_all (lent_from lent 0 count words)
