-- Laws of a load's replay: what a batch leads to, and what the loop over batches keeps. No contract cites this file.
use Prim.Native.Nat.{ℕ, zero, suc, ◌+◌, ◌-◌, ◌≤◌, ◌<◌}
use native.Mathlib.Omega.{arith}
use Rattle.std.proofs.Math.Nat.{sub-zero}
use Rattle.std.proofs.Math.Path.{◌≡◌, refl}
use Rattle.std.proofs.Common.{sym, ap, ◌∙◌, length-append, take-append-drop, length-take-le, take_at, drop_at}
use Rattle.std.specs.Prelude.{Bool, true, false, cond, ltb, eqb, take, drop, get_or}
use mathlib.Core.List.{List, [], ◌∷◌, ◌++◌, append_assoc, flatten, map, map-append}
use Rattle.std.proofs.Math.Option.{Option, none, some}
use Rattle.std.proofs.Math.ListN.{length}
use Rattle.std.proofs.lemmas.List.{length-map}
use Rattle.std.proofs.Math.Seq.{take_all}
use Rattle.std.proofs.lemmas.List.Edits.{sets-eq}
use borrow.Author.Tests.{eqb-true, eqb-false, eq-eqb, ne_eqb}
use Rattle.rules.specs.Facts.{by_test}
use Rattle.rules.specs.Tries.{Row, ordered}
use Rattle.rules.specs.Values.{Entity}
use Rattle.rules.specs.Loading.{
  LoadAnswer,
  done,
  refused_at,
  counted,
  ◌then◌,
  Request,
  EntityRequest,
  Load,
  AnswersTaken,
  batch_of,
  initial_entities,
  after_batches,
  load_begun,
  batch_answered,
  take_answers,
  trips_for,
  summed,
  size_of_answer,
}
use Rattle.rules.specs.LoadCalls.{after_answers}
use Rattle.rules.proofs.CourseLaws.{after_none}
use Rattle.rules.proofs.LoadLaws.{rows_fit, going_begun, going_answered}
use Rattle.rules.proofs.SliceLaws.{answers_to, LoadOf, batch_slice, load_slice}
use Rattle.rules.proofs.TripLaws.{GoingLoad}
use Rattle.rules.proofs.TakeLaws.{taken_by, found_or, all_taken_by, slices_after}
use Rattle.rules.specs.WalkRows.{remaining_rows}
use Rattle.values.specs.ValueWords.{value_rows_of, row_asked, request_word}
use Rattle.answers.specs.Answers.{head_in}
use Rattle.words.specs.Runs.{Wrote}
use Rattle.words.specs.Replies.{Refused}
use Rattle.words.specs.RunLaws.{wrote_length}
use Rattle.words.specs.SeqLaws.{take-sets}
use Rattle.row_walk.specs.SmallLaws.{SmallRows, remaining_small, batch_small, rows_again}
use Rattle.merging.specs.MergeEntityLaws.{entity_of}
use Rattle.batches.specs.Hearings.{heard_at, asked_before, heard_before, asked_in, heard_in, AnswerStands, AllStand, merges_with}
use Rattle.batches.specs.HearingLaws.{standing_absent, standing_present}
use Rattle.batches.specs.Takes.{TakenInto, LoadAt}
use Rattle.batches.specs.TakeWordLaws.{taken_present}
use Rattle.batches.specs.TakingLaws.{stand_split, front_split, part_split, part_length, load_lengths, taken_up_to, load_takes}
use Rattle.batches.specs.Replays.{first_load, NoLoad, ReplayedTo}
use Rattle.std.specs.Prelude.{Some, Ok}

-- Sums: where all answers are summed, those of each batch are.
module _ {A : Type 0} (size : A → ℕ) where
  -- the place is told of a refusal only
  summed_place :
      (p q sum : ℕ) (answers : List A) {total : ℕ} → summed size p sum answers ≡ done total → summed size q sum answers ≡ done total
  unfolding summed
  summed_place p q sum [] e = e
  summed_place p q sum (answer ∷ answers) e =
      by_test (ltb 8192 (sum + size answer))
      (λ t. let z : ◌≡◌ {A = ℕ} 0 1 = cc (rw t at e) in absurd (omega arith))
      (λ t. rw t (summed_place (suc p) (suc q) (sum + size answer) answers (rw t at e)))

  pub summed_split :
      (p sum : ℕ) (answers others : List A) {total : ℕ}
      → summed size p sum (answers ++ others) ≡ done total
      → (part : ℕ) × (summed size p sum answers ≡ done part) × (summed size p part others ≡ done total)
  unfolding summed
  summed_split p sum [] others e = (sum, refl, e)
  summed_split p sum (answer ∷ answers) others e =
      by_test (ltb 8192 (sum + size answer))
      (λ t. let z : ◌≡◌ {A = ℕ} 0 1 = cc (rw t at e) in absurd (omega arith))
      (λ t.
      let (part, first, rest) = summed_split (suc p) (sum + size answer) answers others (rw t at e) in
      (part, rw t first, summed_place (suc p) p part others rest))

  pub summed_join :
      (p sum : ℕ) (answers others : List A) {part total : ℕ}
      → summed size p sum answers ≡ done part
      → summed size p part others ≡ done total
      → summed size p sum (answers ++ others) ≡ done total
  unfolding summed
  summed_join p sum [] others {part} e f = let same : sum ≡ part = cc in rw same f
  summed_join p sum (answer ∷ answers) others {part} e f =
      by_test (ltb 8192 (sum + size answer))
      (λ t. let z : ◌≡◌ {A = ℕ} 0 1 = cc (rw t at e) in absurd (omega arith))
      (λ t. rw t (summed_join (suc p) (sum + size answer) answers others (rw t at e) (summed_place p (suc p) part others f)))

-- Answers by batches, over lists.
module _ (nodes : List Row) where
  -- the load's sum is that of the answers
  batch_summed :
      (load next : Load) (answers : List (Option Entity))
      → batch_answered nodes load answers ≡ done next
      → summed size_of_answer 0 load.sum answers ≡ done next.sum
  batch_summed load next answers e =
      go (eqb (length answers) (length load.waiting)) (summed size_of_answer 0 load.sum answers)
      (take_answers nodes 0 load.waiting answers (record { slice = load.slice; next = [] })) e
    where
      go :
          (same : Bool) (o : LoadAnswer ℕ) (taken : LoadAnswer AnswersTaken)
          → cond same
          (o then
          (λ sum.
          taken then
          (λ gained.
          done (record {
            waiting = gained.next;
            asked = load.asked ++ load.waiting;
            slice = gained.slice;
            sum = sum;
            batches = trips_for load.waiting + load.batches;
            rows = load.rows + length load.waiting;
          }))))
          (counted (length load.waiting) (length answers))
          ≡ done next
          → o ≡ done next.sum
      go true (done sum) (done gained) e = let same : sum ≡ next.sum = cc in rw same
      go true (done sum) (refused_at number place) e = let z : ◌≡◌ {A = ℕ} 0 1 = cc in absurd (omega arith)
      go true (done sum) (counted expected got) e = let z : ◌≡◌ {A = ℕ} 0 1 = cc in absurd (omega arith)
      go true (refused_at number place) taken e = let z : ◌≡◌ {A = ℕ} 0 1 = cc in absurd (omega arith)
      go true (counted expected got) taken e = let z : ◌≡◌ {A = ℕ} 0 1 = cc in absurd (omega arith)
      go false o taken e = let z : ◌≡◌ {A = ℕ} 0 1 = cc in absurd (omega arith)

  pub after_sum :
      (left : ℕ) (load last : Load) (answers : List (Option Entity))
      → after_answers left nodes load answers ≡ done last
      → summed size_of_answer 0 load.sum answers ≡ done last.sum
  unfolding after_answers summed
  after_sum zero load last [] e = let same : load ≡ last = cc in rw same
  after_sum (suc left) load last [] e = let same : load ≡ last = cc in rw same
  after_sum zero load last (answer ∷ answers) e =
      let z : ◌≡◌ {A = ℕ} 0 1 = cc (rw (ne_eqb (length (answer ∷ answers)) 0 (λ z. omega arith)) at e) in absurd (omega arith)
  after_sum (suc left) load last (answer ∷ answers) e =
      let n : ℕ = length load.waiting in
      go (batch_answered nodes load (take n (answer ∷ answers))) refl
      (λ next is. after_sum left next last (drop n (answer ∷ answers)) is)
      (rw (ne_eqb (length (answer ∷ answers)) 0 (λ z. omega arith)) at e)
    where
      go :
          (o : LoadAnswer Load)
          → batch_answered nodes load (take (length load.waiting) (answer ∷ answers)) ≡ o
          → ((next : Load)
          → after_answers left nodes next (drop (length load.waiting) (answer ∷ answers)) ≡ done last
          → summed size_of_answer 0 next.sum (drop (length load.waiting) (answer ∷ answers)) ≡ done last.sum)
          → (o then (λ next. after_answers left nodes next (drop (length load.waiting) (answer ∷ answers)))) ≡ done last
          → summed size_of_answer 0 load.sum (answer ∷ answers) ≡ done last.sum
      go (done next) is more e =
          let n : ℕ = length load.waiting in
          rw (take-append-drop n (answer ∷ answers)) at
          (summed_join size_of_answer 0 load.sum (take n (answer ∷ answers)) (drop n (answer ∷ answers))
          (batch_summed load next (take n (answer ∷ answers)) is) (more next e))
      go (refused_at number place) is more e = let z : ◌≡◌ {A = ℕ} 0 1 = cc in absurd (omega arith)
      go (counted expected got) is more e = let z : ◌≡◌ {A = ℕ} 0 1 = cc in absurd (omega arith)

  -- answers are left and no row waits
  pub after_stuck :
      (left : ℕ) (load : Load) (answers : List (Option Entity))
      → load.waiting ≡ []
      → 0 < length answers
      → NoLoad (after_answers left nodes load answers)
  unfolding after_answers summed take_answers
  after_stuck zero load answers e some_left = rw (ne_eqb (length answers) 0 (λ z. omega arith)) tt
  after_stuck (suc left) load answers e some_left =
      rw (ne_eqb (length answers) 0 (λ z. omega arith), e)
      (after_stuck left
      (record {
        waiting = [];
        asked = load.asked ++ [];
        slice = load.slice;
        sum = load.sum;
        batches = 0 + load.batches;
        rows = load.rows + 0;
      })
      answers refl some_left)

  -- answers are left that are too few
  pub after_short :
      (left : ℕ) (load : Load) (answers : List (Option Entity))
      → 0 < length answers
      → length answers < length load.waiting
      → NoLoad (after_answers left nodes load answers)
  unfolding after_answers
  after_short zero load answers some_left few = rw (ne_eqb (length answers) 0 (λ z. omega arith)) tt
  after_short (suc left) load answers some_left few =
      rw (
        ne_eqb (length answers) 0 (λ z. omega arith),
        take_all (length load.waiting) answers (omega arith),
        ne_eqb (length answers) (length load.waiting) (λ z. omega arith),
      )
      tt

  -- one batch
  pub after_batch :
      (left : ℕ) (load : Load) (answers : List (Option Entity))
      → 0 < length answers
      → 0 < left
      → after_answers left nodes load answers
      ≡ (batch_answered nodes load (take (length load.waiting) answers)
      then
      (λ next. after_answers (left - 1) nodes next (drop (length load.waiting) answers)))
  unfolding after_answers
  after_batch zero load answers some_left h = absurd (omega arith)
  after_batch (suc left) load answers some_left h =
      let one : suc left - 1 ≡ left = omega arith in
      rw (one, ne_eqb (length answers) 0 (λ z. omega arith))

-- The ids of what is found are small, so a batch is read back from its words.

taken_small :
    (nodes : List Row) (asked : List EntityRequest) (before : List (Option Entity)) (place : ℕ) (row : EntityRequest)
    (words : List ℕ) (at : ℕ) (found : List EntityRequest)
    → AnswerStands words at
    → taken_by nodes asked before place row (heard_at words at) ≡ done found
    → SmallRows found
unfolding SmallRows
taken_small nodes asked before place row words at found s e =
    by_test (eqb (get_or words at 0) 0)
    (λ t.
    let nothing : done [] ≡ done found = rw (standing_absent words at s (eqb-true (get_or words at 0) 0 t)) at e in
    let same : [] ≡ found = cc in
    rw (← same) tt)
    (λ t.
    let head = head_in (get_or words at 0) in
    let there = standing_present words at s (eqb-false (get_or words at 0) 0 t) in
    let run = take head.rows (drop (at + 1 + head.parents) words) in
    let by-run =
    taken_present nodes asked before place row (heard_at words at) (entity_of (take head.parents (drop (at + 1) words)) run)
    (value_rows_of run) there.is refl in
    go (merges_with (answers_to row.id asked before) (heard_at words at))
    (batch_of (remaining_rows nodes row.node (value_rows_of run)))
    (λ rows is. batch_small (remaining_rows nodes row.node (value_rows_of run)) rows is (remaining_small nodes row.node run))
    (sym by-run ∙ e))
  where
    go :
        (merges : Bool) (o : Option (List EntityRequest))
        → ((rows : List EntityRequest) → o ≡ some rows → SmallRows rows)
        → found_or place merges o ≡ done found
        → SmallRows found
    go merges none small e = let z : ◌≡◌ {A = ℕ} 0 1 = cc in absurd (omega arith)
    go true (some rows) small e = let same : rows ≡ found = cc in rw (← same) (small rows refl)
    go false (some rows) small e = let z : ◌≡◌ {A = ℕ} 0 1 = cc in absurd (omega arith)

small_append : (a b : List EntityRequest) → SmallRows a → SmallRows b → SmallRows (a ++ b)
unfolding SmallRows
small_append [] b h k = k
small_append (row ∷ a) b h k = (h.0, small_append a b h.1 k)

all_small :
    (nodes : List Row) (asked : List EntityRequest) (before : List (Option Entity)) (place : ℕ) (rows : List EntityRequest)
    (words places : List ℕ) (found : List EntityRequest)
    → AllStand words places
    → all_taken_by nodes asked before place rows (map (heard_at words) places) ≡ done found
    → SmallRows found
unfolding all_taken_by AllStand SmallRows
all_small nodes asked before place [] words places found h e = let same : [] ≡ found = cc in rw (← same) tt
all_small nodes asked before place (row ∷ rows) words [] found h e = let same : [] ≡ found = cc in rw (← same) tt
all_small nodes asked before place (row ∷ rows) words (at ∷ places) found h e =
    go (taken_by nodes asked before place row (heard_at words at))
    (all_taken_by nodes (asked ++ (row ∷ [])) (before ++ (heard_at words at ∷ [])) (suc place) rows (map (heard_at words) places))
    (λ first is. taken_small nodes asked before place row words at first h.0 is)
    (λ rest is. all_small nodes (asked ++ (row ∷ [])) (before ++ (heard_at words at ∷ [])) (suc place) rows words places rest h.1 is)
    e
  where
    go :
        (one more : LoadAnswer (List EntityRequest))
        → ((first : List EntityRequest) → one ≡ done first → SmallRows first)
        → ((rest : List EntityRequest) → more ≡ done rest → SmallRows rest)
        → (one then (λ first. more then (λ rest. done (first ++ rest)))) ≡ done found
        → SmallRows found
    go (done first) (done rest) small others e =
        let same : first ++ rest ≡ found = cc in rw (← same) (small_append first rest (small first refl) (others rest refl))
    go (done first) (refused_at number place) small others e = let z : ◌≡◌ {A = ℕ} 0 1 = cc in absurd (omega arith)
    go (done first) (counted expected got) small others e = let z : ◌≡◌ {A = ℕ} 0 1 = cc in absurd (omega arith)
    go (refused_at number place) more small others e = let z : ◌≡◌ {A = ℕ} 0 1 = cc in absurd (omega arith)
    go (counted expected got) more small others e = let z : ◌≡◌ {A = ℕ} 0 1 = cc in absurd (omega arith)

-- rows that were written, read from there
pub written_rows :
    (rows : List ℕ) (to : ℕ) (found : List EntityRequest) (rows' : List ℕ) (end : ℕ)
    → SmallRows found
    → Wrote rows to (map request_word found) rows' end
    → end ≤ length rows
    → asked_in rows' to end ≡ found
written_rows rows to found rows' end small wrote fits =
    let xs = map request_word found in
    let count : end - to ≡ length xs = omega (arith, wrote.after) in
    let stands : rows' ≡ take to rows ++ (xs ++ drop (to + length xs) rows) =
    wrote.text ∙ sets-eq xs rows to (omega (arith, wrote.after)) ∙ append_assoc (take to rows) xs (drop (to + length xs) rows) in
    let behind : drop to rows' ≡ xs ++ drop (to + length xs) rows =
    rw stands (drop_at (take to rows) (xs ++ drop (to + length xs) rows) to (length-take-le to rows (omega (arith, wrote.after)))) in
    rw (count, behind, take_at xs (drop (to + length xs) rows) (length xs) refl) (rows_again found small)

-- One batch answered, where its sum is done.
module _
    (nodes : List Row) (words rows places : List ℕ) (from to : ℕ) (s : List ℕ) (load : Load)
    (at : LoadAt words rows places from to s nodes load)
    (stand : AllStand words (take to places))
    (inside : to ≤ length places)
    (sum : ℕ)
    (sums : summed size_of_answer 0 load.sum (heard_in words places from to) ≡ done sum)
  where
    -- the load after it
    abbrev pub load_after : List EntityRequest → Load
    load_after found = record {
      waiting = found;
      asked = load.asked ++ load.waiting;
      slice = slices_after load.waiting (heard_in words places from to) load.slice;
      sum = sum;
      batches = trips_for load.waiting + load.batches;
      rows = load.rows + length load.waiting;
    }

    pub batch_comes :
        batch_answered nodes load (heard_in words places from to)
        ≡ (taken_up_to nodes words rows places from to to then (λ found. done (load_after found)))
    batch_comes =
        let count : length (heard_in words places from to) ≡ length load.waiting =
        length-map (take (to - from) (drop from places)) (heard_at words)
        ∙ part_length places from to at.ahead inside
        ∙ sym (load_lengths nodes words rows places from to s load at).1 in
        rw (
          eq-eqb (length (heard_in words places from to)) (length load.waiting) count,
          sums,
          load_takes nodes words rows places from to s load at stand to at.ahead (omega arith),
        )
        (go (taken_up_to nodes words rows places from to to))
      where
        go :
            (o : LoadAnswer (List EntityRequest))
            → ((o then
            (λ found.
            done (record { slice = slices_after load.waiting (heard_in words places from to) load.slice; next = found }))) then
            (λ (gained : AnswersTaken).
            done (record {
              waiting = gained.next;
              asked = load.asked ++ load.waiting;
              slice = gained.slice;
              sum = sum;
              batches = trips_for load.waiting + load.batches;
              rows = load.rows + length load.waiting;
            })))
            ≡ (o then (λ found. done (load_after found)))
        go (done found) = refl
        go (refused_at number place) = refl
        go (counted expected got) = refl

    -- what was found stands behind the rows that waited
    module _
        (found : List EntityRequest) (rows' : List ℕ) (end : ℕ)
        (taken : taken_up_to nodes words rows places from to to ≡ done found)
        (wrote : Wrote rows to (map request_word found) rows' end)
        (few : length nodes ≤ length rows)
      where
        answered : batch_answered nodes load (heard_in words places from to) ≡ done (load_after found)
        answered = batch_comes ∙ rw taken

        going : GoingLoad s nodes (load_after found)
        going = going_answered s nodes at.order load (heard_in words places from to) (load_after found) at.going answered

        asked_all : load.asked ++ load.waiting ≡ asked_before rows' to
        asked_all =
            let same : take to rows' ≡ take to rows = rw wrote.text (take-sets to rows to (map request_word found) (omega arith)) in
            rw (at.asked_are, at.waiting_are, same, front_split rows from to at.ahead)
            (sym (map-append row_asked (take from rows) (take (to - from) (drop from rows))))

        heard_all : heard_before words places from ++ heard_in words places from to ≡ heard_before words places to
        heard_all =
            sym (map-append (heard_at words) (take from places) (take (to - from) (drop from places)))
            ∙ ap (map (heard_at words)) (sym (front_split places from to at.ahead))

        room : end ≤ length rows
        room =
            let (asked, waiting) = load_lengths nodes words rows places from to s load at in
            omega (
              arith,
              rows_fit s nodes (load_after found) going,
              length-append load.asked load.waiting,
              asked,
              waiting,
              wrote.after,
              length-map found request_word,
              at.ahead,
            )

        pub load_next : LoadAt words rows' places to end s nodes (load_after found)
        load_next =
            let places-stand =
            stand_split words (take from places) (take (to - from) (drop from places))
            (rw (front_split places from to at.ahead) at stand) in
            let small =
            all_small nodes (asked_before rows from) (heard_before words places from) 0 (asked_in rows from to) words
            (take (to - from) (drop from places)) found places-stand.1 taken in
            record {
              ahead = omega (arith, wrote.after);
              fits = omega (arith, room, wrote_length wrote);
              order = at.order;
              asked_are = asked_all;
              waiting_are = sym (written_rows rows to found rows' end small wrote room);
              load_of =
                  rw heard_all at
                  (batch_slice nodes (heard_before words places from) (heard_in words places from to) load (load_after found) at.load_of
                  answered);
              going = going;
            }

pub trips_some : (waiting : List EntityRequest) → 0 < length waiting → trips_for waiting ≡ 1
trips_some [] h = absurd (omega arith)
trips_some (row ∷ waiting) h = refl

none_waits : (waiting : List EntityRequest) → length waiting ≡ 0 → waiting ≡ []
none_waits [] h = refl
none_waits (row ∷ waiting) h = absurd (omega arith)

-- What the loop over batches keeps: the load so far, and that the answers that are left lead from it where all lead.
module _ (nodes : List Row) (words places : List ℕ) (count : ℕ) (whole : LoadAnswer Load) where
  pub record Replaying (rows : List ℕ) (asked end batches : ℕ) : Type 0 where
    pub s : List ℕ
    pub load : Load
    pub at : LoadAt words rows places asked end s nodes load
    pub within : asked ≤ count
    pub left : ℕ
    pub enough : count ≤ asked + left
    pub leads : whole ≡ after_answers left nodes load (heard_in words places asked count)
    pub total : ℕ
    pub sums : summed size_of_answer 0 load.sum (heard_in words places asked count) ≡ done total
    pub trips : load.batches ≡ batches

  module _ (inside : count ≤ length places) (rows : List ℕ) (asked end batches : ℕ) (h : Replaying rows asked end batches) where
    left_count : length (heard_in words places asked count) ≡ count - asked
    left_count =
        length-map (take (count - asked) (drop asked places)) (heard_at words) ∙ part_length places asked count h.within inside

    waits : length h.load.waiting ≡ end - asked
    waits = (load_lengths nodes words rows places asked end h.s h.load h.at).1

    -- no more batches than nodes
    pub replaying_few : batches ≤ length nodes
    replaying_few =
        omega (
          arith,
          h.trips,
          h.at.going.fewer,
          h.at.going.row_count,
          rows_fit h.s nodes h.load h.at.going,
        )

    pub replaying_stuck : end ≡ asked → asked < count → NoLoad whole
    replaying_stuck same less =
        rw h.leads
        (after_stuck nodes h.left h.load (heard_in words places asked count) (none_waits h.load.waiting (omega (arith, waits)))
        (omega (arith, left_count)))

    pub replaying_short : count < end → asked < count → NoLoad whole
    replaying_short short less =
        rw h.leads
        (after_short nodes h.left h.load (heard_in words places asked count) (omega (arith, left_count))
        (omega (arith, left_count, waits)))

    pub replaying_all : count ≤ asked → ReplayedTo whole words rows places count nodes (Some (end, batches))
    replaying_all last =
        let same : asked ≡ count = omega (arith, h.within) in
        let none_left : heard_in words places asked count ≡ [] = no_answer (heard_in words places asked count) (omega (arith, left_count)) in
        rw (h.leads, none_left, after_none nodes h.left h.load)
        (sym h.trips, (h.s, rw same at h.at))
      where
        no_answer : (answers : List (Option Entity)) → length answers ≡ 0 → answers ≡ []
        no_answer [] e = refl
        no_answer (answer ∷ answers) e = absurd (omega arith)

    module _
        (stand : AllStand words (take count places)) (some-wait : (end ≡ asked) → ⊥) (long : end ≤ count)
      where
        pub batch_stands : AllStand words (take end places)
        batch_stands =
            (stand_split words (take end places) (take (count - end) (drop end places)) (rw (front_split places end count long) at stand)).0

        heard_parts : heard_in words places asked count ≡ heard_in words places asked end ++ heard_in words places end count
        heard_parts =
            ap (map (heard_at words)) (part_split places asked end count h.at.ahead long)
            ∙ map-append (heard_at words) (take (end - asked) (drop asked places)) (take (count - end) (drop end places))

        batch_count : length (heard_in words places asked end) ≡ length h.load.waiting
        batch_count =
            length-map (take (end - asked) (drop asked places)) (heard_at words)
            ∙ part_length places asked end h.at.ahead (omega arith)
            ∙ sym waits

        batch_sum :
            (part : ℕ)
            × (summed size_of_answer 0 h.load.sum (heard_in words places asked end) ≡ done part)
            × (summed size_of_answer 0 part (heard_in words places end count) ≡ done h.total)
        batch_sum =
            summed_split size_of_answer 0 h.load.sum (heard_in words places asked end) (heard_in words places end count)
            (rw heard_parts at h.sums)

        abbrev next : List EntityRequest → Load
        next = load_after nodes words rows places asked end h.s h.load h.at batch_stands (omega arith) batch_sum.0 batch_sum.1

        leads_on :
            whole
            ≡ ((taken_up_to nodes words rows places asked end end then (λ found. done (next found))) then
            (λ load. after_answers (h.left - 1) nodes load (heard_in words places end count)))
        leads_on =
            let more : asked < end = omega (arith, h.at.ahead, some-wait) in
            let n : ℕ = length h.load.waiting in
            let front : take n (heard_in words places asked count) ≡ heard_in words places asked end =
            rw heard_parts (take_at (heard_in words places asked end) (heard_in words places end count) n batch_count) in
            let behind : drop n (heard_in words places asked count) ≡ heard_in words places end count =
            rw heard_parts (drop_at (heard_in words places asked end) (heard_in words places end count) n batch_count) in
            let comes =
            batch_comes nodes words rows places asked end h.s h.load h.at batch_stands (omega arith) batch_sum.0
            batch_sum.1 in
            h.leads
            ∙ after_batch nodes h.left h.load (heard_in words places asked count) (omega (arith, left_count))
            (omega (arith, h.enough))
            ∙ rw (front, behind, comes)

        pub replaying_refused :
            (rows' : List ℕ) (number place : ℕ)
            → TakenInto (taken_up_to nodes words rows places asked end end) rows end rows' (Refused number place)
            → NoLoad whole
        replaying_refused rows' number place = go (taken_up_to nodes words rows places asked end end) leads_on
          where
            go :
                (o : LoadAnswer (List EntityRequest))
                → whole
                ≡ ((o then (λ found. done (next found))) then
                (λ load. after_answers (h.left - 1) nodes load (heard_in words places end count)))
                → TakenInto o rows end rows' (Refused number place)
                → NoLoad whole
            go (done found) e k = absurd k
            go (refused_at n p) e k = rw e tt
            go (counted expected got) e k = absurd k

        pub replaying_next :
            length nodes ≤ length rows
            → (rows' : List ℕ) (end' : ℕ)
            → TakenInto (taken_up_to nodes words rows places asked end end) rows end rows' (Ok end')
            → Replaying rows' end end' (batches + 1)
        replaying_next few rows' end' = go (taken_up_to nodes words rows places asked end end) refl leads_on
          where
            go :
                (o : LoadAnswer (List EntityRequest))
                → taken_up_to nodes words rows places asked end end ≡ o
                → whole
                ≡ ((o then (λ found. done (next found))) then
                (λ load. after_answers (h.left - 1) nodes load (heard_in words places end count)))
                → TakenInto o rows end rows' (Ok end')
                → Replaying rows' end end' (batches + 1)
            go (done found) taken e k =
                record {
                  s = h.s;
                  load = next found;
                  at =
                      load_next nodes words rows places asked end h.s h.load h.at batch_stands (omega arith) batch_sum.0
                      batch_sum.1 found rows' end' taken k few;
                  within = long;
                  left = h.left - 1;
                  enough = omega (arith, h.enough, h.at.ahead, some-wait);
                  leads = e;
                  total = h.total;
                  sums = batch_sum.2;
                  trips = omega (arith, trips_some h.load.waiting (omega (arith, waits, h.at.ahead, some-wait)), h.trips);
                }
            go (refused_at n p) taken e k = absurd k
            go (counted expected got) taken e k = absurd k

-- the first batch waits
pub replaying_first :
    (nodes : List Row) (words rows places : List ℕ) (count first : ℕ) (s : List ℕ) (total : ℕ)
    → LoadAt words rows places 0 first s nodes (first_load (asked_before rows first))
    → summed size_of_answer 0 0 (heard_before words places count) ≡ done total
    → Replaying nodes words places count
    (after_answers count nodes (first_load (asked_before rows first)) (heard_before words places count)) rows 0 first 0
replaying_first nodes words rows places count first s total at sums =
    record {
      s = s;
      load = first_load (asked_before rows first);
      at = at;
      within = omega arith;
      left = count;
      enough = omega arith;
      leads = rw (sub-zero count);
      total = total;
      sums = rw (sub-zero count) sums;
      trips = refl;
    }

-- The first batch, written at the start of the rows, waits.
module _
    (request : Request) (nodes : List Row) (s : List ℕ) (order : ordered s nodes ≡ true) (found : List EntityRequest)
    (batch : batch_of (initial_entities request 0 0 nodes) ≡ some found)
  where
    pub begun_first : load_begun request nodes ≡ done (first_load found)
    begun_first = rw (load_begun, batch)

    first_of : LoadOf [] (first_load found)
    unfolding after_batches flatten
    first_of = load_slice request nodes [] (first_load found) begun_first

    pub first_waits :
        (words rows places rows' : List ℕ) (first : ℕ)
        → SmallRows found
        → Wrote rows 0 (map request_word found) rows' first
        → length nodes ≤ length rows
        → (asked_before rows' first ≡ found) × LoadAt words rows' places 0 first s nodes (first_load found)
    first_waits words rows places rows' first small wrote few =
        let going = going_begun s nodes order request (first_load found) begun_first in
        let fits : first ≤ length rows =
        omega (arith, rows_fit s nodes (first_load found) going, wrote.after, length-map found request_word) in
        let waits : asked_in rows' 0 first ≡ found = written_rows rows 0 found rows' first small wrote fits in (
          rw (sub-zero first) at waits,
          record {
            ahead = omega arith;
            fits = omega (arith, wrote_length wrote);
            order = order;
            asked_are = refl;
            waiting_are = sym waits;
            load_of = first_of;
            going = going;
          },
        )
