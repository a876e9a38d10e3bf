-- Laws of policy texts that are added to a lent manifest, one call after the other (Calls). Demand3InCalls states what follows. No contract
-- cites this file.
use Rattle.rows.specs.LentLaws.{lent_lawful}
use Rattle.std.specs.Prelude.{ℕ, ◌≡◌, refl, true, leb, length}
use Rattle.std.proofs.Common.{sym, ◌∙◌}
use Rattle.std.proofs.Math.Path.{ap}
use mathlib.Core.List.{List, [], ◌∷◌}
use borrow.Author.Tests.{le-leb}
use Rattle.rules.specs.Numbers.{Answer, accepted, and_then}
use Rattle.rules.specs.Facts.{both_true, accepted_same, then_accepted}
use Rattle.rules.specs.Tries.{Row, manifest, lawful}
use Rattle.rules.specs.Building.{after}
use Rattle.rules.proofs.BuildingLaws.{build_lawful}
use Rattle.rules.specs.Policies.{add_policy, add_policies}
use Rattle.rules.proofs.Demand3Policies.{policy_added_exactly, policy_lawful}
use Rattle.words.specs.Runs.{Outcome}
use Rattle.rows.specs.States.{storing, Lent}
use Rattle.rows.specs.declared.Kind.TheVariants.{Manifest}
use Rattle.schema.specs.Items.{schema_words, lawful_schema, items_in}
use Rattle.analysis.specs.Outcomes.{add_policy_in}
use Rattle.calls.specs.Calls.{left_by, replies_by, AllDone, reply_of}
use Rattle.calls.proofs.StoringLaws.{called_reply, called_lent}
use Rattle.calls.proofs.BuildsInLaws.{reply_done}
use Rattle.calls.proofs.SchemaReadLaws.{items_good}

module _ (schema : List ℕ) (good : lawful_schema schema ≡ true) where
  schema_long : leb schema_words (length schema) ≡ true
  unfolding lawful_schema
  schema_long = (both_true (leb schema_words (length schema)) _ good).0

  abbrev adding : List ℕ → List ℕ → Outcome
  adding m text = add_policy_in schema text m

  -- ---- one call

  module _ (m text : List ℕ) (rows : List Row) (lent : Lent Manifest m rows) where
    text_added : add_policy_in schema text m ≡ storing m (add_policy (items_in schema) rows text)
    unfolding add_policy_in
    text_added = rw (schema_long, le-leb 4161 (length m) lent.long, good, lent.lawful-state, lent.has_rows)

    text_kept : (more : List Row) → add_policy (items_in schema) rows text ≡ accepted more → lawful manifest more ≡ true
    text_kept more e =
        let (cs, given, (all, built)) = (policy_added_exactly (items_in schema) rows text more).0 e in
        rw built
        (build_lawful cs rows (lent_lawful Manifest m rows lent) (policy_lawful (items_in schema) (items_good schema good) text cs given))

    -- it answers what adding the text to the rows answers
    text_reply : (add_policy_in schema text m).reply ≡ reply_of (add_policy (items_in schema) rows text)
    text_reply = called_reply Manifest m rows lent (add_policy_in schema text m) (add_policy (items_in schema) rows text) text_added text_kept

    -- and then the buffer has what is there after that
    text_lent : Lent Manifest (add_policy_in schema text m).buffer (after rows (add_policy (items_in schema) rows text))
    text_lent = called_lent Manifest m rows lent (add_policy_in schema text m) (add_policy (items_in schema) rows text) text_added text_kept

    text_left :
        {more : List Row}
        → add_policy (items_in schema) rows text ≡ accepted more
        → Lent Manifest (add_policy_in schema text m).buffer more
    text_left e = rw e at text_lent

  -- ---- a sequence of calls

  -- where the texts are accepted on rows, every reply is Done and the buffer has what they come to
  pub texts_left :
      (texts : List (List ℕ)) (m : List ℕ) (rows : List Row) {more : List Row}
      → Lent Manifest m rows
      → add_policies (items_in schema) rows texts ≡ accepted more
      → AllDone (replies_by adding m texts) × Lent Manifest (left_by adding m texts) more
  unfolding add_policies left_by replies_by AllDone
  texts_left [] m rows {more} lent e = (tt, rw (accepted_same rows more e) at lent)
  texts_left (text ∷ texts) m rows lent e =
      let (between, one, rest) = then_accepted (add_policy (items_in schema) rows text) (λ rows. add_policies (items_in schema) rows texts) e in
      let (done, left) = texts_left texts (add_policy_in schema text m).buffer between (text_left m text rows lent one) rest in
      ((text_reply m text rows lent ∙ ap reply_of one, done), left)

  -- and where every reply is Done, they are accepted
  pub texts_done :
      (texts : List (List ℕ)) (m : List ℕ) (rows : List Row)
      → Lent Manifest m rows
      → AllDone (replies_by adding m texts)
      → (more : List Row) × (add_policies (items_in schema) rows texts ≡ accepted more)
  unfolding add_policies replies_by AllDone
  texts_done [] m rows lent done = (rows, refl)
  texts_done (text ∷ texts) m rows lent (one, done) =
      let (between, e) = (reply_done (add_policy (items_in schema) rows text)).0 (sym (text_reply m text rows lent) ∙ one) in
      let (more, rest) = texts_done texts (add_policy_in schema text m).buffer between (text_left m text rows lent e) done in
      (more, ap (λ (answer : Answer (List Row)). and_then answer (λ rows. add_policies (items_in schema) rows texts)) e ∙ rest)
