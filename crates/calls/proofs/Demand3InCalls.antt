-- Demand 3 on calls: what operations that are called one after the other on lent buffers answer and leave, in the words of `rules`. Only the
-- statements need be read; the other files beside this one have the proofs.
--
-- What each call promises is said in its own crate: `empty_in` and `add_in` (manifest), `write_in` and `read_listing_in` (listing), `read_schema_in`
-- (schema), `analyse_in` and `add_policy_in` (analysis). Calls says what a sequence of them leaves and answers: `built_in` and
-- `build_replies` for contributions, `policies_in` and `policy_replies` for policy texts, each from an empty manifest made in a buffer.
-- `Lent kind state rows`: the state is long enough for its kind, lawful, and has these rows. `rows_in` are the rows that a buffer holds,
-- `build [] cs` is the manifest of Demand3; `ExactlyThose cs rows` (Demand3Listed): the rows have the places and marks of the accepted ones of
-- cs, and no others.
use Rattle.std.specs.Prelude.{ℕ, ◌≤◌, ◌<◌, ◌≡◌, ◌↔◌, true, length, take, get_or}
use Rattle.std.proofs.Common.{sym, ap, ◌∙◌}
use mathlib.Core.List.{List, [], map, Memᴰ as Member}
use Rattle.std.proofs.lemmas.List.Edits.{sets}
use Rattle.rules.specs.Numbers.{accepted}
use Rattle.rules.specs.Tries.{Row, Has, Marked, manifest}
use Rattle.rules.specs.Building.{add, build, Contributions}
use Rattle.rules.specs.Listing.{listing, read_listing}
use Rattle.rules.specs.Schema.{Item, read_schema}
use Rattle.rules.specs.Steps.{analyse}
use Rattle.rules.specs.Policies.{add_policies}
use Rattle.rules.proofs.Demand3.{order_free, exactly_those}
use Rattle.rules.specs.Demand3Listed.{ExactlyThose}
use Rattle.rules.proofs.Demand3Listed.{listed_exactly, listed_exactly_of}
use Rattle.rules.proofs.Demand3Policies.{ContributionOf, policies_order_free, policies_exactly_those}
use Rattle.words.specs.Replies.{Done}
use Rattle.rows.specs.States.{form_of, rows_in, Lent}
use Rattle.rows.specs.declared.Kind.{Kind}
use Rattle.rows.specs.declared.Kind.TheVariants.{Contribution, Manifest}
use Rattle.listing.specs.Outcomes.{TextOutcome, write_in, read_listing_in}
use Rattle.std.specs.Prelude.{Ok}
use Rattle.schema.specs.Items.{lawful_schema, items_in}
use Rattle.schema_text.specs.Outcomes.{read_schema_in}
use Rattle.manifest.specs.Outcomes.{empty_in}
use Rattle.analysis.specs.Outcomes.{analyse_in}
use Rattle.calls.specs.Calls.{AllDone, built_in, build_replies, policies_in, policy_replies, written_by, reply_of, AllLent, StepJob, StepsAsked, AllRoomy, contributions_in, analyses_in}
use Rattle.calls.proofs.BuildsInLaws.{reply_done, emptied, lent_contributions, built_lent, kth_answers, done_exactly, lent_written, bytes_back}
use Rattle.calls.proofs.SchemaReadLaws.{schema_read, items_good}
use Rattle.calls.proofs.HandedLaws.{listing_read, steps_analysed, listing_done}
use Rattle.calls.proofs.JobLaws.{jobs_lent, same_done, same_contributions}
use Rattle.calls.proofs.PoliciesInLaws.{texts_left, texts_done}

-- 1. Contributions added to a manifest in a buffer.

module _ (out : List ℕ) (cs : List (List ℕ)) (long : 4161 ≤ length out) (lent : AllLent cs) where
  -- After any sequence of adds the buffer is a lawful manifest, and its rows are those of the build.
  pub built_in_lent : Lent Manifest (built_in out cs) (build [] (map rows_in cs))
  built_in_lent = built_lent cs (empty_in out).buffer [] (emptied out long).1 lent

  -- It has the places of the accepted contributions and marks theirs, and no others.
  pub exactly_those_in_calls : ExactlyThose (map rows_in cs) (rows_in (built_in out cs))
  exactly_those_in_calls = rw built_in_lent.has_rows (exactly_those (map rows_in cs) (lent_contributions cs lent))

  -- The k-th call answers what adding to the build of those before it answers, number and place too.
  pub kth_reply :
      (k : ℕ)
      → k < length cs
      → get_or (build_replies out cs) k Done ≡ reply_of (add (build [] (map rows_in (take k cs))) (rows_in (get_or cs k [])))
  kth_reply k h = kth_answers cs (empty_in out).buffer [] k (emptied out long).1 lent h

  -- It is Done exactly if that contribution is accepted.
  pub kth_is_done :
      (k : ℕ)
      → k < length cs
      → (get_or (build_replies out cs) k Done ≡ Done)
      ↔ ((rows : List Row) × (add (build [] (map rows_in (take k cs))) (rows_in (get_or cs k [])) ≡ accepted rows))
  kth_is_done k h = rw (kth_reply k h) (reply_done (add (build [] (map rows_in (take k cs))) (rows_in (get_or cs k []))))

  -- Writing answers the length of the build's listing and leaves the listing in the text, byte for byte, what follows it as it was.
  pub written_is_listing :
      (text : List ℕ)
      → 62720 ≤ length text
      → write_in Manifest (built_in out cs) text
      ≡ record { reply = Ok (length (listing (build [] (map rows_in cs)))); buffer = sets text 0 (listing (build [] (map rows_in cs))) }
  written_is_listing text room = lent_written (built_in out cs) _ built_in_lent text room

-- Where all of some lent contributions are Done, the same ones in any order, with any repeats, in any buffer are all Done too, and writing
-- answers the same and leaves the same bytes. The same ones: buffers that hold the same rows.
pub order_free_in_calls :
    (out out' : List ℕ) (cs ds : List (List ℕ))
    → 4161 ≤ length out
    → 4161 ≤ length out'
    → AllLent cs
    → AllLent ds
    → ((c : List Row) → Member c (map rows_in cs) ↔ Member c (map rows_in ds))
    → AllDone (build_replies out cs)
    → AllDone (build_replies out' ds)
    × ((text : List ℕ) → 62720 ≤ length text → write_in Manifest (built_in out' ds) text ≡ write_in Manifest (built_in out cs) text)
order_free_in_calls out out' cs ds long long' lent lent' same done =
    let all = (done_exactly cs (empty_in out).buffer [] (emptied out long).1 lent).0 done in
    let (every, listed) = order_free (map rows_in cs) (map rows_in ds) (lent_contributions cs lent) all same in (
      (done_exactly ds (empty_in out').buffer [] (emptied out' long').1 lent').1 every,
      λ text room. rw (written_is_listing out' ds long' lent' text room, written_is_listing out cs long lent text room, listed),
    )

-- 2. What one operation hands to the next is lawful, and is what `rules` gives.

-- A step text that is analysed with Done: a lent contribution, which may be added.
pub analysed_is_lent :
    (schema : List ℕ) (request : ℕ) (text out : List ℕ)
    → (analyse_in schema request text out).reply ≡ Done
    → (rows : List Row) × (analyse (items_in schema) request text ≡ accepted rows) × Lent Contribution (analyse_in schema request text out).buffer rows
analysed_is_lent = steps_analysed

-- Where all of some jobs, each a step text for a request type, are analysed and all their contributions added, the same jobs in any order,
-- with any repeats, in any buffers that are long enough are all analysed and added too, and writing answers the same and leaves the same bytes.
pub order_free_analysed :
    (schema m m' : List ℕ) (jobs others : List StepJob)
    → 4161 ≤ length m
    → 4161 ≤ length m'
    → ((request : ℕ) (steps : List ℕ) → StepsAsked request steps jobs ↔ StepsAsked request steps others)
    → AllRoomy others
    → AllDone (analyses_in schema jobs)
    → AllDone (build_replies m (contributions_in schema jobs))
    → AllDone (analyses_in schema others)
    × AllDone (build_replies m' (contributions_in schema others))
    × ((text : List ℕ)
    → 62720 ≤ length text
    → write_in Manifest (built_in m' (contributions_in schema others)) text ≡ write_in Manifest (built_in m (contributions_in schema jobs)) text)
order_free_analysed schema m m' jobs others long long' same roomy done added =
    let again = same_done schema jobs others same roomy done in
    let (every, written) =
    order_free_in_calls m m' (contributions_in schema jobs) (contributions_in schema others) long long' (jobs_lent schema jobs done)
    (jobs_lent schema others again)
    (same_contributions schema jobs others same roomy done)
    added in
    (again, every, written)

-- A listing of either kind that is read with Done: a lent state of that kind.
pub listing_is_lent :
    (kind : Kind) (text out : List ℕ)
    → (read_listing_in kind text out).reply ≡ Done
    → (rows : List Row) × (read_listing (form_of kind) text ≡ accepted rows) × Lent kind (read_listing_in kind text out).buffer rows
listing_is_lent = listing_read

-- A schema's text that is read with Done: a lawful schema, which analyses and policy texts may take.
pub schema_is_lawful :
    (text out : List ℕ)
    → (read_schema_in text out).reply ≡ Done
    → (items : List Item) × (read_schema text ≡ accepted items)
    × ((lawful_schema (read_schema_in text out).buffer ≡ true) × (items_in (read_schema_in text out).buffer ≡ items))
schema_is_lawful = schema_read

-- 3. Policy texts added to a manifest in a buffer, under a lawful schema.

module _ (schema : List ℕ) (good : lawful_schema schema ≡ true) where
  module _ (out : List ℕ) (texts : List (List ℕ)) (long : 4161 ≤ length out) where
    -- Every reply is Done exactly if all the texts are accepted one after the other.
    pub policies_are_done : AllDone (policy_replies schema out texts) ↔ ((rows : List Row) × (add_policies (items_in schema) [] texts ≡ accepted rows))
    policies_are_done = (
      λ done. texts_done schema good texts (empty_in out).buffer [] (emptied out long).1 done,
      λ (rows, e). (texts_left schema good texts (empty_in out).buffer [] (emptied out long).1 e).0,
    )

    -- Then the buffer is a lawful manifest, and its rows are what the texts come to.
    pub policies_are_lent :
        (rows : List Row) → add_policies (items_in schema) [] texts ≡ accepted rows → Lent Manifest (policies_in schema out texts) rows
    policies_are_lent rows e = (texts_left schema good texts (empty_in out).buffer [] (emptied out long).1 e).1

    -- It has a place exactly if some contribution of the texts has it, and marks it likewise.
    pub policies_exactly_those_in_calls :
        AllDone (policy_replies schema out texts)
        → (place : List ℕ)
        → (Has [] (rows_in (policies_in schema out texts)) place ↔ ((c : List Row) × ContributionOf (items_in schema) texts c × Has [] c place))
        × (Marked [] (rows_in (policies_in schema out texts)) place ↔ ((c : List Row) × ContributionOf (items_in schema) texts c × Marked [] c place))
    policies_exactly_those_in_calls done place =
        let (rows, e) = policies_are_done.0 done in
        rw (policies_are_lent rows e).has_rows (policies_exactly_those (items_in schema) (items_good schema good) texts rows e place)

  -- Where all of some texts are Done, the same ones in any order, with any repeats, in any buffer are all Done too, and writing answers the
  -- same and leaves the same bytes.
  pub policies_order_free_in_calls :
      (out out' : List ℕ) (texts others : List (List ℕ))
      → 4161 ≤ length out
      → 4161 ≤ length out'
      → ((text : List ℕ) → Member text texts ↔ Member text others)
      → AllDone (policy_replies schema out texts)
      → AllDone (policy_replies schema out' others)
      × ((text : List ℕ) → 62720 ≤ length text → write_in Manifest (policies_in schema out' others) text ≡ write_in Manifest (policies_in schema out texts) text)
  policies_order_free_in_calls out out' texts others long long' same done =
      let (rows, e) = (policies_are_done out texts long).0 done in
      let (again, f, listed) = policies_order_free (items_in schema) (items_good schema good) texts others rows e same in (
        (policies_are_done out' others long').1 (again, f),
        λ text room.
            lent_written (policies_in schema out' others) again (policies_are_lent out' others long' again f) text room
            ∙ (ap (λ (bytes : List ℕ). record { reply = Ok (length bytes); buffer = sets text 0 bytes }) listed
            ∙ sym (lent_written (policies_in schema out texts) rows (policies_are_lent out texts long rows e) text room)),
      )

-- 4. The listing of a manifest that was built, read again, has the entries, positions and marks of the accepted contributions, and no others.

-- On rows: reading accepts, and what is read has exactly those.
pub listed_exactly_of_rows :
    (cs : List (List Row)) → Contributions cs → (rows : List Row) × (read_listing manifest (listing (build [] cs)) ≡ accepted rows) × ExactlyThose cs rows
listed_exactly_of_rows = listed_exactly

-- On calls: as many bytes as writing answers, read into a buffer.
pub listed_exactly_in_calls :
    (out : List ℕ) (cs : List (List ℕ)) (text again : List ℕ) (n : ℕ)
    → 4161 ≤ length out
    → AllLent cs
    → 62720 ≤ length text
    → 4161 ≤ length again
    → (write_in Manifest (built_in out cs) text).reply ≡ Ok n
    → ((read_listing_in Manifest (take n (written_by (built_in out cs) text)) again).reply ≡ Done)
    × ExactlyThose (map rows_in cs) (rows_in (read_listing_in Manifest (take n (written_by (built_in out cs) text)) again).buffer)
listed_exactly_in_calls out cs text again n long lent room long' e =
    let held = built_in_lent out cs long lent in
    let size : Ok (length (listing (build [] (map rows_in cs)))) ≡ Ok n = sym (ap (λ (o : TextOutcome). o.reply) (written_is_listing out cs long lent text room)) ∙ e in
    let all : length (listing (build [] (map rows_in cs))) ≡ n = cc in
    let bytes : take n (written_by (built_in out cs) text) ≡ listing (build [] (map rows_in cs)) = rw (sym all) (bytes_back (built_in out cs) _ held text room) in
    rw bytes (read_exactly (listed_exactly (map rows_in cs) (lent_contributions cs lent)))
  where
    read_exactly :
        (rows : List Row) × (read_listing manifest (listing (build [] (map rows_in cs))) ≡ accepted rows) × ExactlyThose (map rows_in cs) rows
        → ((read_listing_in Manifest (listing (build [] (map rows_in cs))) again).reply ≡ Done)
        × ExactlyThose (map rows_in cs) (rows_in (read_listing_in Manifest (listing (build [] (map rows_in cs))) again).buffer)
    read_exactly (rows, accepts, exactly) =
        let done = listing_done Manifest (listing (build [] (map rows_in cs))) again rows long' accepts in
        let (others, f, held) = listing_read Manifest (listing (build [] (map rows_in cs))) again done in
        (done, rw held.has_rows (listed_exactly_of (map rows_in cs) (lent_contributions cs lent) others f))
