-- Laws of contributions that are added to a lent manifest, one call after the other (Calls), and of writing it. Demand3InCalls states what
-- follows. No contract cites this file.
use Rattle.rows.specs.LentLaws.{stored_lent, lent_lawful}
use Rattle.std.specs.Prelude.{ℕ, zero, suc, ◌≤◌, ◌<◌, ◌≡◌, refl, ◌↔◌, true, List, [], ◌∷◌, map, length, take, get_or}
use Rattle.std.proofs.Common.{arith, sym, ap, ◌∙◌}
use borrow.Author.Tests.{le-leb}
use Rattle.std.proofs.lemmas.List.Edits.{sets}
use Rattle.rules.specs.Numbers.{Answer, accepted, refused}
use Rattle.rules.specs.Tries.{Row, manifest, lawful}
use Rattle.rules.specs.Building.{add, after, build, keep, accepted_of, Contributions}
use Rattle.rules.proofs.BuildingLaws.{lawful_empty, after_lawful, accepted_most}
use Rattle.rules.specs.Listing.{listing}
use Rattle.words.specs.RunLaws.{taken_back}
use Rattle.words.specs.Replies.{Done}
use Rattle.rows.specs.States.{rows_in, storing, Lent}
use Rattle.rows.specs.declared.Kind.TheVariants.{Contribution, Manifest}
use Rattle.listing.specs.Outcomes.{write_in}
use Rattle.listing.specs.WriteLaws.{listing_fits}
use Rattle.std.specs.Prelude.{Ok}
use Rattle.manifest.specs.Outcomes.{empty_in, add_in}
use Rattle.manifest.specs.UniteLaws.{unite_lawful}
use Rattle.calls.specs.Calls.{left_by, replies_by, AllDone, reply_of, AllLent}
use Rattle.calls.proofs.StoringLaws.{called_reply, called_lent}

-- ---- replies

-- a reply is Done exactly if the answer accepts
pub reply_done : (answer : Answer (List Row)) → (reply_of answer ≡ Done) ↔ ((rows : List Row) × (answer ≡ accepted rows))
reply_done (accepted rows) = (λ e. (rows, refl), λ h. refl)
reply_done (refused number place) = (
  λ e. absurd (let z : ◌≡◌ {A = ℕ} 0 1 = cc in omega arith),
  λ h. absurd (let e : refused number place ≡ accepted h.0 = h.1 in let z : ◌≡◌ {A = ℕ} 0 1 = cc in omega arith),
)

-- where a contribution's reply is Done and the others are accepted, all are, and the other way round
done_first :
    (answer : Answer (List Row)) (c : List Row) (cs ds : List (List Row))
    → length ds ≤ length cs
    → ((reply_of answer ≡ Done) × (ds ≡ cs)) ↔ (keep answer c ds ≡ c ∷ cs)
done_first (accepted rows) c cs ds few = (λ h. ap (λ (l : List (List Row)). c ∷ l) h.1, λ e. (refl, cc))
done_first (refused number place) c cs ds few = (
  λ h. absurd (let e : reply_of (refused number place) ≡ Done = h.0 in let z : ◌≡◌ {A = ℕ} 0 1 = cc in omega arith),
  λ e. absurd (omega (arith, ap length e)),
)

-- ---- an empty manifest, and one call

pub emptied : (out : List ℕ) → 4161 ≤ length out → ((empty_in out).reply ≡ Done) × Lent Manifest (empty_in out).buffer []
unfolding empty_in
emptied out long = rw (le-leb 4161 (length out) long) (refl, stored_lent Manifest out [] long lawful_empty)

module _ (m c : List ℕ) (rows : List Row) (lent-m : Lent Manifest m rows) (lent-c : Lent Contribution c (rows_in c)) where
  added : add_in m c ≡ storing m (add rows (rows_in c))
  added = rw lent-m.has_rows at (unite_lawful Contribution m c lent-m.long lent-c.long lent-m.lawful-state lent-c.lawful-state)

  kept : (more : List Row) → add rows (rows_in c) ≡ accepted more → lawful manifest more ≡ true
  kept more e = rw e at (after_lawful rows (rows_in c) (lent_lawful Manifest m rows lent-m) (lent_lawful Contribution c (rows_in c) lent-c))

  -- a call of add answers what adding on rows answers
  add_reply : (add_in m c).reply ≡ reply_of (add rows (rows_in c))
  add_reply = called_reply Manifest m rows lent-m (add_in m c) (add rows (rows_in c)) added kept

  -- and then the buffer has what is there after adding on rows
  add_lent : Lent Manifest (add_in m c).buffer (after rows (add rows (rows_in c)))
  add_lent = called_lent Manifest m rows lent-m (add_in m c) (add rows (rows_in c)) added kept

-- ---- a sequence of calls

-- lent contributions are contributions
pub lent_contributions : (cs : List (List ℕ)) → AllLent cs → Contributions (map rows_in cs)
unfolding AllLent Contributions
lent_contributions [] lent = tt
lent_contributions (c ∷ cs) (one, lent) = (lent_lawful Contribution c (rows_in c) one, lent_contributions cs lent)

pub built_lent :
    (cs : List (List ℕ)) (m : List ℕ) (rows : List Row)
    → Lent Manifest m rows
    → AllLent cs
    → Lent Manifest (left_by add_in m cs) (build rows (map rows_in cs))
unfolding left_by build AllLent
built_lent [] m rows lent-m lent = lent-m
built_lent (c ∷ cs) m rows lent-m (one, lent) = built_lent cs _ _ (add_lent m c rows lent-m one) lent

-- the k-th call answers what adding to the build of those before it answers
pub kth_answers :
    (cs : List (List ℕ)) (m : List ℕ) (rows : List Row) (k : ℕ)
    → Lent Manifest m rows
    → AllLent cs
    → k < length cs
    → get_or (replies_by add_in m cs) k Done ≡ reply_of (add (build rows (map rows_in (take k cs))) (rows_in (get_or cs k [])))
unfolding replies_by build AllLent
kth_answers [] m rows k lent-m lent h = absurd (omega arith)
kth_answers (c ∷ cs) m rows zero lent-m (one, lent) h = add_reply m c rows lent-m one
kth_answers (c ∷ cs) m rows (suc k) lent-m (one, lent) h = kth_answers cs _ _ k (add_lent m c rows lent-m one) lent (omega arith)

-- every reply is Done exactly if all are accepted
pub done_exactly :
    (cs : List (List ℕ)) (m : List ℕ) (rows : List Row)
    → Lent Manifest m rows
    → AllLent cs
    → AllDone (replies_by add_in m cs) ↔ (accepted_of rows (map rows_in cs) ≡ map rows_in cs)
unfolding replies_by AllDone accepted_of AllLent
done_exactly [] m rows lent-m lent = (λ done. refl, λ all. tt)
done_exactly (c ∷ cs) m rows lent-m (one, lent) =
    let first = done_first (add rows (rows_in c)) (rows_in c) (map rows_in cs) _ (accepted_few cs) in
    let rest = done_exactly cs _ _ (add_lent m c rows lent-m one) lent in (
      λ (done, others). first.0 (sym (add_reply m c rows lent-m one) ∙ done, rest.0 others),
      λ all. let (done, others) = first.1 all in (add_reply m c rows lent-m one ∙ done, rest.1 others),
    )
  where
    accepted_few : (cs : List (List ℕ)) → length (accepted_of (after rows (add rows (rows_in c))) (map rows_in cs)) ≤ length (map rows_in cs)
    accepted_few cs = accepted_most (map rows_in cs) (after rows (add rows (rows_in c)))

-- ---- writing

module _ (m : List ℕ) (rows : List Row) (lent : Lent Manifest m rows) (text : List ℕ) (long : 62720 ≤ length text) where
  pub lent_written : write_in Manifest m text ≡ record { reply = Ok (length (listing rows)); buffer = sets text 0 (listing rows) }
  unfolding write_in
  lent_written = rw (le-leb 4161 (length m) lent.long, le-leb 62720 (length text) long, lent.lawful-state, lent.has_rows)

  -- what is written is read back from the front of the text
  pub bytes_back : take (length (listing rows)) (write_in Manifest m text).buffer ≡ listing rows
  bytes_back =
      let fits : length (listing rows) ≤ 62720 = rw lent.has_rows at (listing_fits Manifest m lent.lawful-state) in
      rw lent_written (taken_back text (listing rows) (omega arith))
