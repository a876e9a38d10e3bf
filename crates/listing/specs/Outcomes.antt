-- What each operation of `listing` answers, and what the lent buffer then holds.
use Rattle.std.specs.Prelude.{ℕ, cond, ◌&&◌, List, leb, length}
use Rattle.std.proofs.lemmas.List.Edits.{sets}
use Rattle.rules.specs.Listing.{listing, read_listing}
use Rattle.words.specs.Runs.{Outcome, refusing}
use Rattle.rows.specs.States.{form_of, words_of, rows_in, lawful_state, storing}
use Rattle.rows.specs.declared.Kind.{Kind}
use Rattle.rows.specs.declared.Kind.TheVariants.{Contribution, Manifest}
use Rattle.words.specs.Replies.{Refused}
use Rattle.std.specs.Prelude.{Result, Ok}
use Rattle.words.specs.declared.Refusal.{Refusal}

-- reading: 31, then what the text gives by line
unfoldable pub read_listing_in : Kind → List ℕ → List ℕ → Outcome
read_listing_in kind text out = cond (leb (words_of kind) (length out)) (storing out (read_listing (form_of kind) text)) (refusing 31 0 out)

-- the one length of a text that is written
abbrev pub bytes_of : Kind → ℕ
bytes_of Contribution = 15380
bytes_of Manifest = 62720

-- What writing answers, and what the lent text then holds.
pub record TextOutcome : Type 0 where
  pub reply : Result ℕ Refusal
  pub buffer : List ℕ

-- writing: 31, then 1 at 0; otherwise the listing from the start of the text on, what follows it as it was
unfoldable pub write_in : Kind → List ℕ → List ℕ → TextOutcome
write_in kind state out =
    cond (leb (words_of kind) (length state) && leb (bytes_of kind) (length out))
    (cond (lawful_state (form_of kind) state)
    (record { reply = Ok (length (listing (rows_in state))); buffer = sets out 0 (listing (rows_in state)) })
    (record { reply = Refused 1 0; buffer = out }))
    (record { reply = Refused 31 0; buffer = out })
