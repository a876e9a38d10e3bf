-- Laws of the load that a state tells of. No contract cites this file.
use Rattle.std.specs.Prelude.{ℕ, zero, suc, ◌+◌, ◌-◌, ◌^◌, ◌≤◌, ◌<◌, ◌≡◌, refl, true, ◌&&◌, List, [], ◌∷◌, ◌++◌, leb, ltb, eqb, length, take, drop, get_or}
use Rattle.std.proofs.Common.{zero-add, arith, sym, ap, ◌∙◌, append-nil, length-take, length-drop, drop-drop, get_or-take, get_or-drop, ltb-true, ltb-false, eqb-true, eq-eqb, ne_eqb}
use Rattle.std.proofs.Math.Bool.{and-eq-true_iff}
use Rattle.std.proofs.Math.Option.{Option, none, some}
use Rattle.std.proofs.lemmas.Bool.{eqb-false}
use Rattle.rules.specs.Facts.{by_test, both_true}
use Rattle.rules.specs.Numbers.{Answer, accepted, refused}
use Rattle.rules.specs.Tries.{Row, ordered, count, entries_in, nodes_in}
use Rattle.rules.specs.Values.{Entity}
use Rattle.rules.specs.Loading.{LoadAnswer, done, refused_at, counted, ◌then◌, Request, EntityRequest, Load, load_begun, batch_of, initial_entities, summed, size_of_answer}
use Rattle.rules.specs.LoadCalls.{after_answers}
use Rattle.rules.proofs.TrieLaws.{Ordered, ordered_true}
use Rattle.rules.proofs.TripLaws.{entry_ordered}
use Rattle.rows.specs.Words.{row_in, step_in}
use Rattle.rows.specs.States.{rows_of, good_rows, lawful_entry, all_words}
use Rattle.row_walk.specs.Batches.{BatchWritten}
use Rattle.row_walk.specs.Initial.{request_with}
use Rattle.row_walk.specs.SmallLaws.{SmallRows, batch_small, initial_small}
use Rattle.row_walk.specs.declared.initial.Request.{Request as Asked}
use Rattle.std.specs.Prelude.{Option as Maybe, Some, None}
use Rattle.std.specs.Result.{is_ok}
use Rattle.answers.specs.Answers.{HasScratch, ItemOf, item_at, ReadItem, AllRead, read_items, lent_from, lent_items, PlacedAt, checked_as}
use Rattle.answers.specs.LentLaws.{all_counted}
use Rattle.answers.specs.declared.Lending.{Lending}
use Rattle.answers.specs.declared.Lending.TheVariants.{Answers, Sets}
use Rattle.batches.specs.Hearings.{heard_before, asked_before, AllStand}
use Rattle.batches.specs.Takes.{LoadAt}
use Rattle.batches.specs.Replays.{first_load, NoLoad, ReplayedTo}
use Rattle.batches.specs.HearingLaws.{placed_heard as stand-heard}
use Rattle.batches.specs.ReplayLaws.{after_sum, begun_first, first_waits}
use Rattle.load_state.specs.LoadStates.{is_request, entry_in, answer_words, set_words, good_head, good_entry, good_context, good_lent, good_parts}
use Rattle.load_state.specs.Transcripts.{node_words, nodes_from, worked_by, WorkedTo}

-- ---- the answers at their places

pub items_counted :
    (lent : Lending) (count : ℕ) (words : List ℕ) → AllRead (lent_from lent 0 count words) → length (lent_items lent count words) ≡ count
items_counted lent count words = go (lent_from lent 0 count words) refl
  where
    go :
        (answer : Answer (ReadItem (List (ItemOf lent))))
        → lent_from lent 0 count words ≡ answer
        → AllRead answer
        → length (read_items answer) ≡ count
    go (accepted all) e h = all_counted (item_at lent) 0 count words e
    go (refused number place) e h = absurd h

module _ (count : ℕ) (words places places' : List ℕ) where
  pub placed_heard :
      AllRead (lent_from Answers 0 count words)
      → PlacedAt Answers words (lent_items Answers count words) places 0 places'
      → count ≤ length places'
      → (heard_before words places' count ≡ lent_items Answers count words) × AllStand words (take count places')
  placed_heard all placed fits =
      let (stand, heard) =
      stand-heard words places' (lent_items Answers count words) (λ k d less. rw (zero-add k) at (placed.stands k d less))
      (omega (arith, items_counted Answers count words all)) in
      (rw (items_counted Answers count words all) at heard, rw (items_counted Answers count words all) at stand)

-- ---- the first batch

module _ (asked : Asked) (context : List ℕ) (nodes : List Row) where
  abbrev pub first_found : Option (List EntityRequest)
  first_found = batch_of (initial_entities (request_with asked context) 0 0 nodes)

  pub no_first :
      (answers : List (Option Entity)) (rows rows' : List ℕ) (r : Maybe ℕ)
      → BatchWritten rows 0 rows' first_found r
      → r ≡ None
      → NoLoad (worked_by (request_with asked context) nodes answers)
  no_first answers rows rows' r h e = go first_found (rw e at h)
    where
      go :
          (o : Option (List EntityRequest))
          → BatchWritten rows 0 rows' o None
          → NoLoad
          (elim o [ none ↦ refused_at 14 0 | some found ↦ done (first_load found) ]
          then
          (λ load. after_answers (length answers) nodes load answers))
      go none h = tt
      go (some found) h = absurd h

  -- the rows of the first batch, read back, are those of the load that begins
  pub record FirstRead (words places rows : List ℕ) (first : ℕ) (s : List ℕ) : Type 0 where
    pub begun : load_begun (request_with asked context) nodes ≡ done (first_load (asked_before rows first))
    pub at : LoadAt words rows places 0 first s nodes (first_load (asked_before rows first))

  module _
      (small : (asked.principal < 65536) × (asked.resource < 65536))
      (words places rows rows' : List ℕ) (first : ℕ) (s : List ℕ)
      (order : ordered s nodes ≡ true)
      (few : length nodes ≤ length rows)
    where
      pub first_read : (r : Maybe ℕ) → BatchWritten rows 0 rows' first_found r → r ≡ Some first → FirstRead words places rows' first s
      first_read r h told = go first_found refl (rw told at h)
        where
          go :
              (o : Option (List EntityRequest))
              → first_found ≡ o
              → BatchWritten rows 0 rows' o (Some first)
              → FirstRead words places rows' first s
          go none e wrote = absurd wrote
          go (some found) e wrote =
              let request = request_with asked context in
              let ids_small : SmallRows found = batch_small _ found e (initial_small asked context 0 0 nodes small.0 small.1) in
              let (again, here) = first_waits request nodes s order found e words rows places rows' first ids_small wrote few in
              record { begun = begun_first request nodes s order found e ∙ rw again; at = rw again here }

-- ---- the sum

-- a sum that is not refused is within the limit
pub sum_few :
    {A : Type 0} (size : A → ℕ) (place sum : ℕ) (items : List A) (total : ℕ)
    → sum ≤ 8192
    → summed size place sum items ≡ done total
    → total ≤ 8192
unfolding summed
sum_few size place sum [] total few e = let same : sum ≡ total = cc in omega arith
sum_few size place sum (x ∷ items) total few e =
    by_test (ltb 8192 (sum + size x))
    (λ t. let z : ◌≡◌ {A = ℕ} 0 1 = cc (rw t at e) in absurd (omega arith))
    (λ t. sum_few size (suc place) (sum + size x) items total (ltb-false 8192 (sum + size x) t) (rw t at e))

module _ (request : Request) (nodes : List Row) (answers : List (Option Entity)) where
  worked_summed : {load : Load} → worked_by request nodes answers ≡ done load → summed size_of_answer 0 0 answers ≡ done load.sum
  worked_summed {load} = go (batch_of (initial_entities request 0 0 nodes))
    where
      go :
          (o : Option (List EntityRequest))
          → (elim o [ none ↦ refused_at 14 0 | some found ↦ done (first_load found) ]
          then
          (λ load. after_answers (length answers) nodes load answers))
          ≡ done load
          → summed size_of_answer 0 0 answers ≡ done load.sum
      go none e = let z : ◌≡◌ {A = ℕ} 0 1 = cc in absurd (omega arith)
      go (some found) e = after_sum nodes (length answers) (first_load found) load answers e

  -- answers that are too much are none of a load's
  pub worked_over : {place : ℕ} → summed size_of_answer 0 0 answers ≡ refused_at 15 place → NoLoad (worked_by request nodes answers)
  worked_over {place} over = go (worked_by request nodes answers) refl
    where
      go : (o : LoadAnswer Load) → worked_by request nodes answers ≡ o → NoLoad o
      go (done load) e =
          let sums : summed size_of_answer 0 0 answers ≡ done load.sum = worked_summed e in
          let z : ◌≡◌ {A = ℕ} 0 1 = cc in
          absurd (omega arith)
      go (refused_at number place) e = tt
      go (counted expected got) e = tt

-- ---- the load after all answers

module _
    (asked : Asked) (context : List ℕ) (nodes : List Row) (words places rows rows' : List ℕ) (first : ℕ) (s : List ℕ)
    (begun : FirstRead asked context nodes words places rows first s)
    (count : ℕ)
    (heard : heard_before words places count ≡ lent_items Answers count words)
    (as_many : length (lent_items Answers count words) ≡ count)
    (stand : AllStand words (take count places))
  where
    worked_is :
        after_answers count nodes (first_load (asked_before rows first)) (heard_before words places count)
        ≡ worked_by (request_with asked context) nodes (lent_items Answers count words)
    worked_is = rw (begun.begun, heard, as_many)

    pub worked_none :
        (r : Maybe (ℕ × ℕ))
        → ReplayedTo
        (after_answers count nodes (first_load (asked_before rows first)) (heard_before words places count))
        words rows' places count nodes r
        → r ≡ None
        → NoLoad (worked_by (request_with asked context) nodes (lent_items Answers count words))
    worked_none r h told = rw (worked_is, told) at h

    pub worked_come :
        (end batches sum : ℕ) (r : Maybe (ℕ × ℕ))
        → ReplayedTo
        (after_answers count nodes (first_load (asked_before rows first)) (heard_before words places count))
        words rows' places count nodes r
        → r ≡ Some (end, batches)
        → summed size_of_answer 0 0 (lent_items Answers count words) ≡ done sum
        → WorkedTo (worked_by (request_with asked context) nodes (lent_items Answers count words)) words rows' places count nodes (Some (record { asked = count; end = end; batches = batches; sum = sum }))
    worked_come end batches sum r h told sums = go (worked_by (request_with asked context) nodes (lent_items Answers count words)) refl (rw (worked_is, told) at h)
      where
        go :
            (o : LoadAnswer Load)
            → worked_by (request_with asked context) nodes (lent_items Answers count words) ≡ o
            → ReplayedTo o words rows' places count nodes (Some (end, batches))
            → WorkedTo o words rows' places count nodes (Some (record { asked = count; end = end; batches = batches; sum = sum }))
        go (done load) e h =
            let all : summed size_of_answer 0 0 (lent_items Answers count words) ≡ done load.sum = worked_summed (request_with asked context) nodes (lent_items Answers count words) e in
            record {
              all_asked = refl;
              trips = h.0;
              total = cc;
              few = sum_few size_of_answer 0 0 (lent_items Answers count words) sum (omega arith) sums;
              sums = sums;
              stand = stand;
              heard = heard;
              s = h.1.0;
              at = h.1.1;
            }
        go (refused_at number place) e h = absurd h
        go (counted expected got) e h = absurd h

-- ---- what good parts say

pub request_ids :
    (triple principal resource : ℕ) → is_request triple principal resource ≡ true → (principal < 65536) × (resource < 65536)
request_ids triple principal resource h =
    let rest = ((and-eq-true_iff (ltb triple (65536 ^ 3)) (ltb principal 65536 && ltb resource 65536)).0 h).1 in
    let (one, two) = (and-eq-true_iff (ltb principal 65536) (ltb resource 65536)).0 rest in
    (ltb-true principal 65536 one, ltb-true resource 65536 two)

-- scratch for answers serves for sets too
pub has_scratch : (lent : Lending) (words levels : List ℕ) → length words ≤ length levels → HasScratch lent words levels
has_scratch Answers words levels h = h
has_scratch Sets words levels h = tt

-- the nodes of an entry are in order behind its own row, and no entry is among them
entry-nodes :
    (words : List ℕ)
    → lawful_entry words ≡ true
    → (ordered (step_in (get_or words 0 0) ∷ []) (rows_of (drop 1 words)) ≡ true) × (entries_in (rows_of (drop 1 words)) ≡ 0)
unfolding lawful_entry ordered Ordered count
entry-nodes [] h = (refl, refl)
entry-nodes (w ∷ words) h =
    let (good, rest) = both_true (good_rows (w ∷ words)) _ h in
    let (formed, order) = both_true (all_words (w ∷ words)) (ordered [] (rows_of (w ∷ words))) good in
    let in_order = ordered_true [] (rows_of (w ∷ words)) order in
    let top : (row_in w).depth ≡ 0 = omega (arith, in_order.1.near) in
    let same : row_in w ∷ (rows_of words ++ []) ≡ row_in w ∷ rows_of words = rw append-nil in
    let one = eqb-true (entries_in (rows_of (w ∷ words))) 1 (both_true (leb (nodes_in (rows_of (w ∷ words))) 4096) _ rest).1 in (
      entry_ordered [] (row_in w) (rows_of words) [] top (ap (ordered []) same ∙ order),
      omega (arith, rw (eq-eqb (row_in w).depth 0 top) at one),
    )

is_fine_read : {A : Type 0} (answer : Answer (ReadItem (List A))) → is_ok (checked_as answer) ≡ true → AllRead answer
is_fine_read (accepted all) e = tt
is_fine_read (refused number place) e = let z : ◌≡◌ {A = ℕ} 0 1 = cc in absurd (omega arith)

pub record GoodParts (state : List ℕ) : Type 0 where
  pub turn : 0 < get_or state 0 0
  pub small : (get_or state 2 0 < 65536) × (get_or state 3 0 < 65536)
  pub few_rows : get_or state 5 0 ≤ 4097
  pub order : ordered (get_or state 1 0 ∷ []) (rows_of (node_words state)) ≡ true
  pub no_entry : entries_in (rows_of (node_words state)) ≡ 0
  pub numbers_few : get_or state 4 0 + get_or state 5 0 < 4098
  pub few_values : get_or state 6 0 ≤ 8192
  pub few_answers : get_or state 7 0 ≤ 4096
  pub read : AllRead (lent_from Answers 0 (get_or state 7 0) (answer_words state))
  pub few_sets : get_or state 8 0 ≤ 4096
  pub sets_read : AllRead (lent_from Sets 0 (get_or state 8 0) (set_words state))

good-entry :
    (state : List ℕ)
    → good_entry state ≡ true
    → (get_or state 5 0 ≤ 4097)
    × ((ordered (get_or state 1 0 ∷ []) (rows_of (node_words state)) ≡ true) × (entries_in (rows_of (node_words state)) ≡ 0))
    × (get_or state 4 0 + get_or state 5 0 < 4098)
unfolding good_entry ordered count
good-entry state h =
    by_test (eqb (get_or state 5 0) 0)
    (λ t.
    let zero-rows = eqb-true (get_or state 5 0) 0 t in
    let first = eqb-true (get_or state 4 0) 0 (rw t at h) in
    (omega arith, (rw zero-rows, rw zero-rows), omega (arith, first, zero-rows)))
    (λ t.
    let (few, rest) = both_true (ltb (get_or state 5 0) 4098) _ (rw t at h) in
    let (lawful, more) = both_true (lawful_entry (entry_in state)) _ rest in
    let (own, numbers) = both_true (eqb (step_in (get_or state 9 0)) (get_or state 1 0)) _ more in
    let some_rows : 0 < get_or state 5 0 = omega (arith, eqb-false (get_or state 5 0) 0 t) in
    let first_row : get_or (entry_in state) 0 0 ≡ get_or state 9 0 =
    get_or-take (get_or state 5 0) (drop 9 state) 0 0 some_rows ∙ get_or-drop 9 state 0 0 in
    let type : step_in (get_or (entry_in state) 0 0) ≡ get_or state 1 0 =
    ap step_in first_row ∙ eqb-true (step_in (get_or state 9 0)) (get_or state 1 0) own in (
      omega (arith, ltb-true (get_or state 5 0) 4098 few),
      rw type at (entry-nodes (entry_in state) lawful),
      ltb-true (get_or state 4 0 + get_or state 5 0) 4098 numbers,
    ))

pub good-parts : (state : List ℕ) → good_parts state ≡ true → GoodParts state
unfolding good_parts good_head good_context good_lent
good-parts state h =
    let (head, behind) = both_true (good_head state) _ h in
    let (entry, more) = both_true (good_entry state) _ behind in
    let (context, lent) = both_true (good_context state) _ more in
    let (answered, sets) = both_true (good_lent Answers (get_or state 7 0) (answer_words state)) _ lent in
    let (turns, numbers) = both_true (ltb 0 (get_or state 0 0) && ltb (get_or state 0 0) 6) _ head in
    let (values-few, values) = both_true (ltb (get_or state 6 0) 8193) _ context in
    let (answers-few, fine) = both_true (ltb (get_or state 7 0) 4097) _ answered in
    let (sets-few, sets-fine) = both_true (ltb (get_or state 8 0) 4097) _ sets in
    let (rows_few, nodes, numbers_few) = good-entry state entry in
    record {
      turn = ltb-true 0 (get_or state 0 0) (both_true (ltb 0 (get_or state 0 0)) (ltb (get_or state 0 0) 6) turns).0;
      small = request_ids (get_or state 1 0) (get_or state 2 0) (get_or state 3 0) numbers;
      few_rows = rows_few;
      order = nodes.0;
      no_entry = nodes.1;
      numbers_few = numbers_few;
      few_values = omega (arith, ltb-true (get_or state 6 0) 8193 values-few);
      few_answers = omega (arith, ltb-true (get_or state 7 0) 4097 answers-few);
      read = is_fine_read (lent_from Answers 0 (get_or state 7 0) (answer_words state)) fine;
      few_sets = omega (arith, ltb-true (get_or state 8 0) 4097 sets-few);
      sets_read = is_fine_read (lent_from Sets 0 (get_or state 8 0) (set_words state)) sets-fine;
    }

-- the nodes' part of a state
behind_first : (n : ℕ) (words : List ℕ) → take n (drop 1 words) ≡ drop 1 (take (suc n) words)
behind_first zero [] = refl
behind_first (suc n) [] = refl
behind_first n (w ∷ words) = refl

pub nodes_part :
    (state : List ℕ) (count : ℕ)
    → take (9 + count - nodes_from count) (drop (nodes_from count) state) ≡ drop 1 (take count (drop 9 state))
nodes_part state zero = refl
nodes_part state (suc n) =
    let size : 9 + suc n - 10 ≡ n = omega arith in
    let behind_own : nodes_from (suc n) ≡ 10 = rw (ne_eqb (suc n) 0 (λ z. omega arith)) in
    ap (λ from. take (9 + suc n - from) (drop from state)) behind_own
    ∙ ap (λ k. take k (drop 10 state)) size
    ∙ ap (take n) (sym (drop-drop 1 9 state))
    ∙ behind_first n (drop 9 state)

pub from_within : (count : ℕ) → (nodes_from count ≤ 10) × (nodes_from count ≤ 9 + count)
from_within count =
    by_test (eqb count 0)
    (λ t. rw t (omega arith, omega arith))
    (λ t. let some_rows = eqb-false count 0 t in rw t (omega arith, omega (arith, some_rows)))

pub nodes_few : (state : List ℕ) → get_or state 5 0 ≤ 4097 → length (node_words state) ≤ 4096
nodes_few state few = omega (arith, length-drop 1 (entry_in state), length-take (get_or state 5 0) (drop 9 state))
