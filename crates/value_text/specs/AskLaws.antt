-- Laws of reading a request's text. No contract cites this file.
use Rattle.std.specs.Prelude.{ℕ, ◌+◌, ◌≤◌, ◌<◌, List, ◌≡◌, refl, length, take, drop, Ok}
use Rattle.std.proofs.Math.Nat.{sub-zero}
use Rattle.std.proofs.Common.{arith, sym, ap, ◌∙◌, le-leb}
use Rattle.std.proofs.Math.Option.{none, some}
use Rattle.std.proofs.lemmas.Bool.{lt-leb}
use Rattle.rules.specs.Numbers.{Answer, accepted, refused, and_then}
use Rattle.rules.specs.Text.{lines_of, fields_of, LF}
use Rattle.rules.proofs.TextLaws.{parted_some}
use Rattle.rules.specs.ValueRows.{ValueRow}
use Rattle.rules.specs.ValueTexts.{Asked, RequestRead, asked_of, request_read, or_one, value_from_lines, read_request}
use Rattle.text.specs.Answers.{line_at}
use Rattle.text.specs.declared.Line.{Line}
use Rattle.text.specs.declared.Line.TheVariants.{Whole}
use Rattle.text.proofs.Laws.{whole_line, cut_line}
use Rattle.words.specs.Replies.{Done, Refused, refusal}
use Rattle.words.specs.declared.Refusal.{Refusal}
use Rattle.value_text.specs.Outcomes.{storing_rows, read_value_in}
use Rattle.value_text.specs.Asking.{RequestOutcome, refusing_request, request_in, storing_request, read_request_in}

-- what an outcome says, part by part
pub by_parts : {defined given : RequestOutcome} → defined ≡ given → (given.reply ≡ defined.reply) × (given.buffer ≡ defined.buffer)
by_parts e = (ap (λ (o : RequestOutcome). o.reply) (sym e), ap (λ (o : RequestOutcome). o.buffer) (sym e))

module _ (text out : List ℕ) where
  pub request_short : length out < 8193 → read_request_in text out ≡ refusing_request 31 0 out
  unfolding read_request_in
  request_short h = rw (lt-leb 8193 (length out) h)

  module _ (long : 8193 ≤ length out) where
    by_text : (answer : Answer RequestRead) → read_request text ≡ answer → read_request_in text out ≡ storing_request out answer
    unfolding read_request_in
    by_text answer e = rw (le-leb 8193 (length out) long, e)

    -- no line that an LF ends
    pub request_cut : {r : Line} → r ≡ line_at text 0 → ((end : ℕ) → r ≡ Whole end → ⊥) → read_request_in text out ≡ refusing_request 1 0 out
    request_cut {r} ensured unended = by_text (refused 1 0) (rw (cut_line text 0 r ensured unended))

    module _ {end : ℕ} {r : Line} (ensured : r ≡ line_at text 0) (e : r ≡ Whole end) where
      -- the first line, and the others behind it
      request_line : read_request text
          ≡ and_then (or_one 0 (asked_of (fields_of (take end text))))
          (λ asked. and_then (value_from_lines 1 (lines_of (drop (end + 1) text))) (λ rows. accepted (request_read asked rows)))
      request_line =
          let first = rw sub-zero at (whole_line text 0 end r ensured e).first in
          rw (first, (parted_some LF (drop (end + 1) text)).2)

      pub request_bad : asked_of (fields_of (take end text)) ≡ none → read_request_in text out ≡ refusing_request 1 0 out
      request_bad bad = by_text (refused 1 0) (request_line ∙ rw bad)

      module _ {asked : Asked} (read : asked_of (fields_of (take end text)) ≡ some asked) where
        -- the context decides
        by_context : (answer : Answer (List ValueRow)) → value_from_lines 1 (lines_of (drop (end + 1) text)) ≡ answer →
            (read_value_in 1 (drop (end + 1) text) out ≡ storing_rows out answer)
            × (read_request_in text out ≡ storing_request out (and_then answer (λ rows. accepted (request_read asked rows))))
        unfolding read_value_in
        by_context answer q = (rw (le-leb 8193 (length out) long, q), by_text (and_then answer (λ rows. accepted (request_read asked rows))) (request_line ∙ rw (read, q)))

        pub request_done : (read_value_in 1 (drop (end + 1) text) out).reply ≡ Done →
            read_request_in text out
            ≡ record { reply = Ok (request_in asked); buffer = (read_value_in 1 (drop (end + 1) text) out).buffer }
        request_done done = go (value_from_lines 1 (lines_of (drop (end + 1) text))) refl
          where
            go : (answer : Answer (List ValueRow)) → value_from_lines 1 (lines_of (drop (end + 1) text)) ≡ answer →
                read_request_in text out
                ≡ record { reply = Ok (request_in asked); buffer = (read_value_in 1 (drop (end + 1) text) out).buffer }
            go (accepted rows) q = (by_context (accepted rows) q).1 ∙ rw (by_context (accepted rows) q).0
            go (refused number place) q =
                let other : Refused number place ≡ Done = rw (by_context (refused number place) q).0 at done in
                absurd (let z : ◌≡◌ {A = ℕ} 0 1 = cc in omega arith)

        pub request_refused : {number place : ℕ} → (read_value_in 1 (drop (end + 1) text) out).reply ≡ Refused number place →
            read_request_in text out ≡ refusing_request number place (read_value_in 1 (drop (end + 1) text) out).buffer
        request_refused {number} {place} stopped = go (value_from_lines 1 (lines_of (drop (end + 1) text))) refl
          where
            go : (answer : Answer (List ValueRow)) → value_from_lines 1 (lines_of (drop (end + 1) text)) ≡ answer →
                read_request_in text out ≡ refusing_request number place (read_value_in 1 (drop (end + 1) text) out).buffer
            go (accepted rows) q =
                let other : Done ≡ Refused number place = rw (by_context (accepted rows) q).0 at stopped in
                absurd (let z : ◌≡◌ {A = ℕ} 0 1 = cc in omega arith)
            go (refused n p) q =
                let same : Refused n p ≡ Refused number place = rw (by_context (refused n p) q).0 at stopped in
                let why : refusal n p ≡ refusal number place = cc in
                (by_context (refused n p) q).1
                ∙ rw ((by_context (refused n p) q).0, ap (λ (r : Refusal). r.number) why, ap (λ (r : Refusal). r.place) why)
