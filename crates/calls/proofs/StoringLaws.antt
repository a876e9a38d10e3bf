-- Laws of a call on a lent state that stores rows in it. No contract cites this file.
use Rattle.std.specs.Prelude.{ℕ, ◌≡◌, refl, true, List}
use Rattle.std.proofs.Common.{ap, ◌∙◌}
use Rattle.rules.specs.Numbers.{Answer, accepted, refused}
use Rattle.rules.specs.Tries.{Row, lawful}
use Rattle.rules.specs.Building.{after}
use Rattle.words.specs.Runs.{Outcome}
use Rattle.rows.specs.States.{form_of, storing, Lent}
use Rattle.rows.specs.declared.Kind.{Kind}
use Rattle.rows.specs.LentLaws.{stored_lent}
use Rattle.calls.specs.Calls.{reply_of}

-- a call on a lent state of a kind that stores what an answer gives
module _
    (kind : Kind) (state : List ℕ) (rows : List Row) (lent : Lent kind state rows)
    (outcome : Outcome) (answer : Answer (List Row))
    (called : outcome ≡ storing state answer)
    (kept : (more : List Row) → answer ≡ accepted more → lawful (form_of kind) more ≡ true) where
  -- answers as the answer does
  pub called_reply : outcome.reply ≡ reply_of answer
  called_reply = ap (λ (o : Outcome). o.reply) called ∙ go answer
    where
      go : (answer : Answer (List Row)) → (storing state answer).reply ≡ reply_of answer
      go (accepted more) = refl
      go (refused number place) = refl

  -- and leaves a lent state with what it accepts, or as it was
  pub called_lent : Lent kind outcome.buffer (after rows answer)
  called_lent = rw called (go answer kept)
    where
      go :
          (answer : Answer (List Row))
          → ((more : List Row) → answer ≡ accepted more → lawful (form_of kind) more ≡ true)
          → Lent kind (storing state answer).buffer (after rows answer)
      go (accepted more) kept = stored_lent kind state more lent.long (kept more refl)
      go (refused number place) kept = lent
