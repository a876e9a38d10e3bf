-- Laws of how long a listing is, and of what writing answers. No contract cites this file.
use Rattle.std.specs.Prelude.{ℕ, ◌+◌, ◌*◌, ◌≤◌, ◌<◌, true, false, List, [], ◌≡◌}
use Rattle.std.proofs.Common.{arith, sym, ap}
use borrow.Author.Tests.{le-leb, lt-leb}
use Rattle.std.proofs.Math.ListN.{length}
use Rattle.rules.specs.Tries.{entries_in, nodes_in}
use Rattle.rules.proofs.TrieLaws.{ordered_true}
use Rattle.rules.specs.Listing.{listing}
use Rattle.rows.specs.States.{form_of, words_of, rows_in, lawful_state}
use Rattle.rows.specs.StateLaws.{rows_ordered, Within, limits_kept}
use Rattle.rows.specs.declared.Kind.{Kind}
use Rattle.rows.specs.declared.Kind.TheVariants.{Contribution, Manifest}
use Rattle.listing.specs.Outcomes.{TextOutcome, bytes_of, write_in}
use Rattle.listing_lines.specs.WriteLaws.{listing_short}
use Rattle.words.specs.Runs.{Wrote}
use Rattle.words.specs.Replies.{Refused}
use Rattle.std.specs.Prelude.{Ok}

-- the listing of a lawful state fits the text of its kind
pub listing_fits : (kind : Kind) (state : List ℕ) → lawful_state (form_of kind) state ≡ true → length (listing (rows_in state)) ≤ bytes_of kind
listing_fits kind state h = within kind (limits_kept kind state h)
  where
    short : length (listing (rows_in state)) ≤ 20 * entries_in (rows_in state) + 15 * nodes_in (rows_in state)
    short = listing_short [] (rows_in state) (ordered_true [] (rows_in state) (rows_ordered (form_of kind) state h))

    within : (kind : Kind) → Within (form_of kind) (rows_in state) → length (listing (rows_in state)) ≤ bytes_of kind
    within Contribution few = omega (arith, short)
    within Manifest few = omega (arith, short)

-- ---- writing, by what was tested

module _ (kind : Kind) (state out : List ℕ) where
  pub write_short_state : length state < words_of kind → write_in kind state out ≡ record { reply = Refused 31 0; buffer = out }
  unfolding write_in
  write_short_state h = rw (lt-leb (words_of kind) (length state) h)

  module _ (long-state : words_of kind ≤ length state) where
    pub write_short_out : length out < bytes_of kind → write_in kind state out ≡ record { reply = Refused 31 0; buffer = out }
    unfolding write_in
    write_short_out h = rw (le-leb (words_of kind) (length state) long-state, lt-leb (bytes_of kind) (length out) h)

    module _ (long-out : bytes_of kind ≤ length out) where
      pub write_unlawful : lawful_state (form_of kind) state ≡ false → write_in kind state out ≡ record { reply = Refused 1 0; buffer = out }
      unfolding write_in
      write_unlawful e = rw (le-leb (words_of kind) (length state) long-state, le-leb (bytes_of kind) (length out) long-out, e)

      -- what all rows leave in the text and answer
      pub write_lawful :
          lawful_state (form_of kind) state ≡ true
          → {out' : List ℕ} {end : ℕ}
          → Wrote out 0 (listing (rows_in state)) out' end
          → write_in kind state out ≡ record { reply = Ok end; buffer = out' }
      unfolding write_in
      write_lawful e {end} w =
          let all : end ≡ length (listing (rows_in state)) = omega (arith, w.after) in
          rw (le-leb (words_of kind) (length state) long-state, le-leb (bytes_of kind) (length out) long-out, e, w.text, all)

-- what an outcome says, part by part
pub text_parts : {defined given : TextOutcome} → defined ≡ given → (given.reply ≡ defined.reply) × (given.buffer ≡ defined.buffer)
text_parts e = (ap (λ (o : TextOutcome). o.reply) (sym e), ap (λ (o : TextOutcome). o.buffer) (sym e))
