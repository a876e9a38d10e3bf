-- Laws of what one operation hands to the next: listings that are read and step texts that are analysed leave lent states. No contract cites
-- this file.
use Rattle.std.proofs.Math.Dec.{ltb}
use Rattle.std.proofs.Math.Bool.{Bool}
use Rattle.std.specs.Prelude.{true, ℕ, ◌^◌, ◌≤◌, ◌<◌, ◌≡◌, List, length}
use Rattle.rows.specs.LentLaws.{done_lent}
use Rattle.std.proofs.Common.{arith, sym, ap, ◌∙◌, le-leb, lt-ltb, le-ltb}
use Rattle.std.proofs.lemmas.Bool.{lt-leb}
use Rattle.rules.specs.Numbers.{accepted, Answer}
use Rattle.rules.specs.Facts.{by_test, compared}
use Rattle.rules.specs.Tries.{Row}
use Rattle.rules.specs.Listing.{read_listing}
use Rattle.rules.proofs.ListingLaws.{read_written}
use Rattle.rules.specs.Steps.{analyse}
use Rattle.rules.proofs.AnalysisLaws.{analyse_lawful}
use Rattle.words.specs.Runs.{Outcome, refusing}
use Rattle.words.specs.Replies.{Done, Refused}
use Rattle.rows.specs.States.{form_of, words_of, Lent, storing}
use Rattle.rows.specs.declared.Kind.{Kind}
use Rattle.rows.specs.declared.Kind.TheVariants.{Contribution}
use Rattle.listing.specs.Outcomes.{read_listing_in}
use Rattle.schema.specs.Items.{schema_words, lawful_schema, items_in}
use Rattle.analysis.specs.Outcomes.{analyse_in}
use Rattle.analysis.specs.AnswerLaws.{short_schema, short_out, unlawful_schema, unlawful_else, all_lawful}
use Rattle.calls.proofs.SchemaReadLaws.{items_good}

-- a refusal is not Done
pub never_done : {A : Type 0} {outcome : Outcome} (number : ℕ) (out : List ℕ) → outcome ≡ refusing number 0 out → outcome.reply ≡ Done → A
never_done {outcome = outcome} number out e done =
    let same : Refused number 0 ≡ Done = sym (ap (λ (o : Outcome). o.reply) e) ∙ done in
    absurd (let z : ◌≡◌ {A = ℕ} 0 1 = cc in omega arith)

-- A listing that is read with Done leaves a lent state of its kind, with the rows that `rules` gives.
pub listing_read :
    (kind : Kind) (text out : List ℕ)
    → (read_listing_in kind text out).reply ≡ Done
    → (rows : List Row) × (read_listing (form_of kind) text ≡ accepted rows) × Lent kind (read_listing_in kind text out).buffer rows
unfolding read_listing_in
listing_read kind text out done =
    compared (length out) (words_of kind)
    (λ short. never_done {outcome = read_listing_in kind text out} 31 out (rw (lt-leb (words_of kind) (length out) short)) done)
    (λ long.
    rw (le-leb (words_of kind) (length out) long)
    (done_lent kind out (read_listing (form_of kind) text) long
    (λ rows e. (read_written (form_of kind) text rows e).1)
    (rw (le-leb (words_of kind) (length out) long) at done)))

module _ (schema : List ℕ) (request : ℕ) (text out : List ℕ) where
  -- what an analysis was tested for
  abbrev pub Tested : Type 0
  Tested = (schema_words ≤ length schema) × (1026 ≤ length out) × (lawful_schema schema ≡ true) × (request < 2 ^ 48)

  -- one that is Done passed
  pub done_tested : (analyse_in schema request text out).reply ≡ Done → Tested
  unfolding analyse_in
  done_tested done =
      compared (length schema) schema_words
      (λ short. never_done 31 out (short_schema schema 1026 known out answer short) done)
      (λ long.
      compared (length out) 1026
      (λ short. never_done 31 out (short_out schema 1026 known out answer long short) done)
      (λ room.
      by_test (lawful_schema schema)
      (λ lawful.
      compared request (2 ^ 48)
      (λ small. (long, room, lawful, small))
      (λ large. never_done 1 out (unlawful_else schema 1026 known out answer long room lawful (le-ltb request (2 ^ 48) large)) done))
      (λ not-lawful. never_done 1 out (unlawful_schema schema 1026 known out answer long room not-lawful) done)))
    where
      known : Bool
      known = ltb request (2 ^ 48)

      answer : Answer (List Row)
      answer = analyse (items_in schema) request text

  -- and one that passes stores what `rules` gives
  pub tested_stores : Tested → analyse_in schema request text out ≡ storing out (analyse (items_in schema) request text)
  unfolding analyse_in
  tested_stores (long, room, lawful, small) =
      all_lawful schema 1026 (ltb request (2 ^ 48)) out (analyse (items_in schema) request text) long room lawful (lt-ltb request (2 ^ 48) small)

  -- An analysis that is Done leaves a lent contribution, with the rows that `rules` gives.
  pub steps_analysed :
      (analyse_in schema request text out).reply ≡ Done
      → (rows : List Row) × (analyse (items_in schema) request text ≡ accepted rows) × Lent Contribution (analyse_in schema request text out).buffer rows
  steps_analysed done =
      let (long, room, lawful, small) = done_tested done in
      let called = tested_stores (long, room, lawful, small) in
      rw called
      (done_lent Contribution out (analyse (items_in schema) request text) room
      (λ rows e. analyse_lawful (items_in schema) (items_good schema lawful) request small text rows e)
      (sym (ap (λ (o : Outcome). o.reply) called) ∙ done))

-- A listing that `rules` accepts is read with Done where there is room.
pub listing_done :
    (kind : Kind) (text out : List ℕ) (rows : List Row)
    → words_of kind ≤ length out
    → read_listing (form_of kind) text ≡ accepted rows
    → (read_listing_in kind text out).reply ≡ Done
unfolding read_listing_in
listing_done kind text out rows long e = rw (le-leb (words_of kind) (length out) long, e)
