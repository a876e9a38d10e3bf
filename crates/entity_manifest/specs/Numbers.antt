-- What the C names answer: a refusal's number, or 0; and beside it the refusal's place, or what the operation says.
use Rattle.std.specs.Prelude.{ℕ, ◌≡◌, Bool, cond, List, Option as Maybe, Some, None, Result, Ok, Err}
use Rattle.words.specs.Runs.{Outcome}
use Rattle.words.specs.Replies.{Reply}
use Rattle.words.specs.declared.Refusal.{Refusal}

-- version 0.3: the first number times 65,536, and the second
abbrev pub version : ℕ
version = 3

abbrev pub reply_number : Reply → ℕ
reply_number (Ok done) = 0
reply_number (Err refusal) = refusal.number

abbrev pub reply_place : Reply → ℕ
reply_place (Ok done) = 0
reply_place (Err refusal) = refusal.place

-- what an operation answers and leaves, told: its number, the value beside it, and the lent buffer
pub record ToldAs (outcome : Outcome) (number value : ℕ) (buffer : List ℕ) : Type 0 where
  pub as_number : number ≡ reply_number outcome.reply
  pub beside : value ≡ reply_place outcome.reply
  pub left : buffer ≡ outcome.buffer

-- a reply that is told tells the outcome
pub told :
    {outcome : Outcome} {reply : Reply} {buffer : List ℕ} {number value : ℕ}
    → (reply ≡ outcome.reply) × (buffer ≡ outcome.buffer)
    → (number ≡ reply_number reply) × (value ≡ reply_place reply)
    → ToldAs outcome number value buffer
told said spoken = record { as_number = rw said.0 at spoken.0; beside = rw said.0 at spoken.1; left = said.1 }

-- of writing the count of bytes
abbrev pub written_number : Result ℕ Refusal → ℕ
written_number (Ok bytes) = 0
written_number (Err refusal) = refusal.number

abbrev pub written_value : Result ℕ Refusal → ℕ
written_value (Ok bytes) = bytes
written_value (Err refusal) = refusal.place

-- of a place 0 where it is missing, 1 where it is there, 2 where it is there and marked
abbrev pub held_number : Result (Maybe Bool) Refusal → ℕ
held_number (Ok held) = 0
held_number (Err refusal) = refusal.number

abbrev pub held_value : Result (Maybe Bool) Refusal → ℕ
held_value (Ok None) = 0
held_value (Ok (Some mark)) = cond mark 2 1
held_value (Err refusal) = refusal.place
