-- Laws of lent sets of ancestor ids, of which the first are kept. No contract cites this file.
use Rattle.std.specs.Prelude.{Ok, Err, ℕ, zero, suc, ◌+◌, ◌≤◌, min, ◌≡◌, refl, List, [], ◌∷◌, ltb, length, take, drop, get_or}
use Rattle.std.proofs.Common.{arith, ap, ◌∙◌, length-take}
use Rattle.std.proofs.Math.Option.{Option}
use Rattle.rules.specs.Facts.{by_test}
use Rattle.rules.specs.Numbers.{Answer, accepted, refused}
use Rattle.rules.specs.Loading.{done, refused_at, summed, Load}
use Rattle.rules.specs.LoadCalls.{ended}
use Rattle.answers.specs.Answers.{ReadItem, read_item, read_from, checked_as, AllRead, item_at, lent_from, lent_items}
use Rattle.answers.specs.AnswerLaws.{reads_next}
use Rattle.answers.specs.LentLaws.{split, wrong_read, all_within, all_summed}
use Rattle.answers.specs.declared.Lending.TheVariants.{Sets}
use Rattle.load_state.specs.Outcomes.{refusing_call, size_of_all, words_of}
use Rattle.load_state.specs.WorkedLaws.{items_counted, sum_few}
use Rattle.load_state.specs.LoadReplies.{Done}
use Rattle.load_ends.specs.Ends.{sets_stored, taking_sets}

-- ---- what a look at all says

pub all_read : {A : Type 0} (answer : Answer (ReadItem (List A))) → AllRead answer → (all : ReadItem (List A)) × (answer ≡ accepted all)
all_read (accepted all) h = (all, refl)
all_read (refused number place) h = absurd h

-- how many words they take
pub fine_sized : {A : Type 0} (answer : Answer (ReadItem (List A))) {size : ℕ} → checked_as answer ≡ Ok size → size_of_all answer ≡ size
fine_sized (accepted all) e = cc
fine_sized (refused number place) e = let z : ◌≡◌ {A = ℕ} 0 1 = cc in absurd (omega arith)

-- none of those that are read is wrong
pub never_wrong : {A : Type 0} (answer : Answer (ReadItem (List A))) {place : ℕ} → checked_as answer ≡ Err place → AllRead answer → ⊥
never_wrong (accepted all) e h = let z : ◌≡◌ {A = ℕ} 0 1 = cc in omega arith
never_wrong (refused number place) e h = h

-- ---- the first of them

front_read :
    {A : Type 0} (one : List ℕ → Option (ReadItem A)) (place k count : ℕ) (words : List ℕ) {all : ReadItem (List A)}
    → k ≤ count
    → read_from one place count words ≡ accepted all
    → (size : ℕ) × (read_from one place k words ≡ accepted (read_item (take k all.item) size))
unfolding read_from
front_read one place zero count words few e = (0, refl)
front_read one place (suc k) zero words few e = absurd (omega arith)
front_read one place (suc k) (suc count) words few e =
    let parts = split one place count words e in
    let (size, rest) = front_read one (place + 1) k count (drop parts.next.size words) (omega arith) parts.fine in
    let both = parts.next.size + size in
    (both, reads_next one place k words parts.stands ∙ rw rest (ap (λ r. accepted (read_item (take (suc k) r.item) both)) parts.whole))

front_summed :
    {A : Type 0} (size : A → ℕ) (place sum k : ℕ) (items : List A) {total : ℕ}
    → summed size place sum items ≡ done total
    → (t : ℕ) × (summed size place sum (take k items) ≡ done t)
unfolding summed
front_summed size place sum zero items e = (sum, refl)
front_summed size place sum (suc k) [] {total} e = (total, e)
front_summed size place sum (suc k) (x ∷ items) e =
    by_test (ltb 8192 (sum + size x))
    (λ t. let z : ◌≡◌ {A = ℕ} 0 1 = cc (rw t at e) in absurd (omega arith))
    (λ t. rw t (front_summed size (suc place) (sum + size x) k items (rw t at e)))

module _ (words : List ℕ) (count asked : ℕ) (read : AllRead (lent_from Sets 0 count words)) where
  -- as many are kept as rows were asked, or all
  pub kept_counted : min count asked ≡ length (take asked (lent_items Sets count words))
  kept_counted = omega (arith, length-take asked (lent_items Sets count words), items_counted Sets count words read)

  pub kept_read : AllRead (lent_from Sets 0 (min count asked) words)
  kept_read =
      let (all, e) = all_read (lent_from Sets 0 count words) read in
      let (size, front) = front_read (item_at Sets) 0 (min count asked) count words (omega arith) e in
      rw front tt

  -- and take no more words than there is room for
  pub kept_few :
      (sum total : ℕ)
      → asked ≤ 4096
      → sum ≤ 8192
      → summed length 0 sum (lent_items Sets count words) ≡ done total
      → (words_of Sets (min count asked) words ≤ 12288) × (words_of Sets (min count asked) words ≤ length words)
  kept_few sum total few small sums =
      let (all, e) = all_read (lent_from Sets 0 count words) read in
      let (size, front) = front_read (item_at Sets) 0 (min count asked) count words (omega arith) e in
      let (t, kept) = front_summed length 0 sum (min count asked) all.item (rw e at sums) in
      rw front (
        omega (
          arith,
          all_summed Sets 0 (min count asked) words front 0 sum t kept,
          sum_few length 0 sum (take (min count asked) all.item) t small kept,
        ),
        all_within Sets 0 (min count asked) words front,
      )

-- ---- what taking them comes to

module _ (state words : List ℕ) (count : ℕ) (load : Load) (turn : get_or state 0 0 ≡ 4) where
  pub sets_wrong :
      {place : ℕ} → checked_as (lent_from Sets 0 count words) ≡ Err place → taking_sets state words count load ≡ refusing_call 1 place state
  sets_wrong e = rw (wrong_read (item_at Sets) 0 count words e)

  pub sets_over :
      {place : ℕ}
      → AllRead (lent_from Sets 0 count words)
      → summed length 0 load.sum (lent_items Sets count words) ≡ refused_at 15 place
      → taking_sets state words count load ≡ refusing_call 15 place state
  sets_over read over = let (all, e) = all_read (lent_from Sets 0 count words) read in rw (e, turn, rw e at over)

  pub sets_kept :
      {total : ℕ}
      → AllRead (lent_from Sets 0 count words)
      → summed length 0 load.sum (lent_items Sets count words) ≡ done total
      → let kept = length (take (length load.asked) (lent_items Sets count words)) in
      taking_sets state words count load ≡ record { reply = Done kept load.batches load.rows; buffer = sets_stored state words ended kept }
  sets_kept read sums = let (all, e) = all_read (lent_from Sets 0 count words) read in rw (e, turn, rw e at sums)
