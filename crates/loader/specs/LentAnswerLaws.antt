-- Laws of answers that are lent, by the tests that they are put to. No contract cites this file.
use Rattle.std.specs.Prelude.{Ok, Err, ℕ, zero, suc, ◌+◌, ◌-◌, ◌≤◌, ◌≡◌, true, false, ◌&&◌, leb, length, drop, get_or}
use Rattle.std.proofs.Common.{add-zero, arith, ◌∙◌, length-append, length-drop, length-take-le}
use Rattle.std.proofs.Math.Path.{refl, sym, ap}
use mathlib.Core.List.{List, [], ◌∷◌, ◌++◌, append-nil}
use Rattle.std.proofs.Math.Option.{Option}
use Rattle.std.proofs.Math.ListN.{take}
use borrow.Author.Tests.{eq-eqb, ne_eqb}
use Rattle.rules.specs.Numbers.{Answer, accepted, refused}
use Rattle.rules.specs.Values.{Entity}
use Rattle.rules.specs.Loading.{LoadAnswer, done, refused_at, counted, ◌then◌, EntityRequest, Load, batch_answered, summed, size_of_answer}
use Rattle.rules.specs.LoadCalls.{Transcript, transcript, answers_awaited, turn_for, called, counts_at, take_batch}
use Rattle.rows.specs.States.{rows_of}
use Rattle.answers.specs.Answers.{ReadItem, read_item, item_at, read_from, AllRead, lent_from, lent_items, checked_as}
use Rattle.answers.specs.LentLaws.{joined, all_joined, all_counted, all_summed, all_within, wrong_read, fine_all}
use Rattle.answers.specs.declared.Lending.TheVariants.{Answers}
use Rattle.load_state.specs.LoadStates.{load_words, answer_words}
use Rattle.load_state.specs.Transcripts.{transcript_in, node_words, lent_load, CameTo, LentTo}
use Rattle.load_state.specs.WorkedLaws.{items_counted}
use Rattle.load_state.specs.TurnLaws.{lent_came, lent_told, told_parts}
use Rattle.load_state.specs.CameLaws.{came_waiting, came_ahead}
use Rattle.load_state.specs.Outcomes.{AnsweredAs, lent_words, behind_count, given, given_in, words_of}
use Rattle.load_state.specs.LoadReplies.{Refused, Counted}
use Rattle.std.specs.Prelude.{Some}
use Rattle.loader.specs.Calls.{taken_into, taken_from, storing_answers, answer_in}
use Rattle.loader.specs.AnswerLaws.{Whole, all_whole}

take-take : (n m : ℕ) (l : List ℕ) → n ≤ m → take n (take m l) ≡ take n l
take-take zero m l h = refl
take-take (suc n) zero l h = absurd (omega arith)
take-take (suc n) (suc m) [] h = refl
take-take (suc n) (suc m) (x ∷ l) h = ap (λ r. x ∷ r) (take-take n m l (omega arith))

-- what answers lead to that are lent to a state
abbrev pub answered_by : List ℕ → List ℕ → LoadAnswer Load
answered_by state lent =
    lent_load state then (λ load. given_in Answers lent then (λ given. batch_answered (rows_of (node_words state)) load given))

module _ (state lent rows places : List ℕ) (asked end batches sum : ℕ)
    (lends : LentTo (lent_load state) (answer_words state) rows places (get_or state 7 0) (rows_of (node_words state)) (Some (record { asked = asked; end = end; batches = batches; sum = sum })))
  where
    abbrev came : (load : Load) × (lent_load state ≡ done load)
        × CameTo (answer_words state) rows places (get_or state 7 0) (rows_of (node_words state)) load asked end batches sum
    came =
        lent_came (answer_words state) rows places (get_or state 7 0) (rows_of (node_words state)) (lent_load state) (Some (record { asked = asked; end = end; batches = batches; sum = sum }))
        _ lends refl

    pub batch_wrong :
        (place : ℕ)
        → checked_as (lent_from Answers 0 (get_or lent 0 0) (behind_count lent)) ≡ Err place
        → AnsweredAs (taken_from state lent (answered_by state lent)) (Refused 1 place) state
    batch_wrong place wrong =
        let (load, e, at) = came in
        rw (e, wrong_read (item_at Answers) 0 (get_or lent 0 0) (behind_count lent) wrong) (refl, refl)

    module _ (size : ℕ) (fine : checked_as (lent_from Answers 0 (get_or lent 0 0) (behind_count lent)) ≡ Ok size) where
      whole : Whole (get_or lent 0 0) (behind_count lent)
      whole = all_whole (get_or lent 0 0) (behind_count lent) (fine_all (lent_from Answers 0 (get_or lent 0 0) (behind_count lent)) fine)

      size_is : whole.all.size ≡ size
      size_is = let same : checked_as (accepted whole.all) ≡ Ok size = rw whole.fine at fine in cc

      pub lent_read : AllRead (lent_from Answers 0 (get_or lent 0 0) (behind_count lent))
      lent_read = fine_all (lent_from Answers 0 (get_or lent 0 0) (behind_count lent)) fine

      given_count : length whole.all.item ≡ get_or lent 0 0
      given_count = all_counted (item_at Answers) 0 (get_or lent 0 0) (behind_count lent) whole.fine

      pub batch_counted :
          (get_or lent 0 0 ≡ end - asked → ⊥)
          → AnsweredAs (taken_from state lent (answered_by state lent)) (Counted (end - asked) (get_or lent 0 0)) state
      batch_counted other =
          let (load, e, at) = came in
          let waits = came_waiting at in
          rw (
            e,
            whole.fine,
            ne_eqb (length whole.all.item) (length load.waiting) (λ same. other (omega (arith, given_count, waits))),
            given_count,
            waits,
          )
          (refl, refl)

      module _ (right : get_or lent 0 0 ≡ end - asked) where
        pub batch_over :
            (place : ℕ)
            → summed size_of_answer 0 sum (lent_items Answers (get_or lent 0 0) (behind_count lent)) ≡ refused_at 15 place
            → AnsweredAs (taken_from state lent (answered_by state lent)) (Refused 15 place) state
        batch_over place over =
            let (load, e, at) = came in
            let same : length whole.all.item ≡ length load.waiting = omega (arith, given_count, came_waiting at) in
            let sums : summed size_of_answer 0 load.sum whole.all.item ≡ refused_at 15 place =
            rw (sym at.total, sym whole.items) over in
            rw (e, whole.fine, eq-eqb (length whole.all.item) (length load.waiting) same, sums) (refl, refl)

        -- the words that the answers take
        module _ (long : 24577 ≤ length lent) where
          abbrev fresh : List ℕ
          fresh = take size (drop 1 lent)

          pub size_within : size ≤ 24576
          size_within =
              omega (
                arith,
                size_is,
                all_within Answers 0 (get_or lent 0 0) (behind_count lent) whole.fine,
                length-take-le 24576 (drop 1 lent) (omega (arith, length-drop 1 lent)),
              )

          fresh_are : take size (behind_count lent) ≡ fresh
          fresh_are = take-take size 24576 (drop 1 lent) size_within

          pub fresh_length : length fresh ≡ size
          fresh_length = length-take-le size (drop 1 lent) (omega (arith, size_within, length-drop 1 lent))

          fresh_whole : lent_from Answers 0 (end - asked) fresh ≡ accepted whole.all
          unfolding read_from
          fresh_whole =
              let copy = all_joined Answers 0 [] 0 (get_or lent 0 0) (behind_count lent) whole.fine in
              let same : joined whole.all (read_item [] 0) ≡ whole.all = rw (append-nil whole.all.item, add-zero) in
              let front : fresh ≡ take whole.all.size (behind_count lent) =
              sym fresh_are ∙ ap (λ n. take n (behind_count lent)) (sym size_is) in
              ap (λ n. lent_from Answers 0 n fresh) (sym right)
              ∙ ap (lent_from Answers 0 (get_or lent 0 0)) front
              ∙ (rw (add-zero (get_or lent 0 0), append-nil (take whole.all.size (behind_count lent))) at copy)
              ∙ ap accepted same

          pub fresh_read : AllRead (lent_from Answers 0 (end - asked) fresh)
          fresh_read = rw fresh_whole tt

          pub fresh_size : words_of Answers (end - asked) fresh ≡ length fresh
          fresh_size = rw fresh_whole (size_is ∙ sym fresh_length)

          pub fresh_items : lent_items Answers (end - asked) fresh ≡ lent_items Answers (get_or lent 0 0) (behind_count lent)
          fresh_items = rw (fresh_whole, whole.items)

          pub batch_taken :
              taken_from state lent (answered_by state lent)
              ≡ taken_into state fresh end (asked + sum)
              (lent_load state then (λ load. batch_answered (rows_of (node_words state)) load (lent_items Answers (end - asked) fresh)))
          batch_taken =
              let (load, e, at) = came in
              let parts = told_parts state load (lent_told state load e).0 in
              let was = all_whole (get_or state 7 0) (answer_words state) parts.read in
              let used : was.all.size ≡ asked + sum =
              omega (
                arith,
                all_summed Answers 0 (get_or state 7 0) (answer_words state) was.fine 0 0 sum (rw was.items at at.sums),
                at.all_asked,
              ) in
              let all : get_or state 7 0 + get_or lent 0 0 ≡ end = omega (arith, at.all_asked, right, came_ahead at) in
              rw (e, fresh_items, whole.fine, was.size, used, all, size_is, fresh_are)

-- the counts after a batch: nothing more was handed out
counts_next :
    (next : Load) (waiting : List EntityRequest)
    → next.waiting ≡ waiting
    → counts_at (turn_for next) next ≡ record { batches = next.batches; rows = next.rows }
counts_next next [] e = rw e
counts_next next (row ∷ waiting) e = rw e

-- answer, by its tests
module _ (state lent : List ℕ) where
  pub answer_short :
      (leb load_words (length state) && leb lent_words (length lent)) ≡ false → AnsweredAs (answer_in state lent) (Refused 31 0) state
  unfolding answer_in
  answer_short e = rw e (refl, refl)

  module _ (long : (leb load_words (length state) && leb lent_words (length lent)) ≡ true) where
    pub answer_unlawful : lent_load state ≡ refused_at 1 0 → AnsweredAs (answer_in state lent) (Refused 1 0) state
    unfolding answer_in
    answer_unlawful e = rw (long, e) (refl, refl)

    module _ (load : Load) (lends : lent_load state ≡ done load) where
      pub answer_late : (get_or state 0 0 ≡ 2 → ⊥) → AnsweredAs (answer_in state lent) (Refused 16 0) state
      unfolding answer_in
      answer_late late = rw (long, lends, ne_eqb (get_or state 0 0) 2 late) (refl, refl)

      abbrev waited : Transcript
      waited = transcript answers_awaited (transcript_in state).request (transcript_in state).first (transcript_in state).nodes (transcript_in state).answers (transcript_in state).sets

      -- what is told and stored of a load that is led to
      stored_next :
          (given : List (Option Entity))
          → length given ≡ get_or lent 0 0
          → (answer : LoadAnswer Load)
          → storing_answers state lent
          (answer then
          (λ next.
          done
          (called
          (transcript (turn_for next) (transcript_in state).request (transcript_in state).first (transcript_in state).nodes ((transcript_in state).answers ++ given) [])
          next.waiting
          (counts_at (turn_for next) next))))
          ≡ taken_from state lent answer
      stored_next given right (done next) =
          let parts = told_parts state load (lent_told state load lends).0 in
          let count : length ((transcript_in state).answers ++ given) ≡ get_or state 7 0 + get_or lent 0 0 =
          omega (
            arith,
            length-append (transcript_in state).answers given,
            items_counted Answers (get_or state 7 0) (answer_words state) parts.read,
            right,
          ) in
          rw (counts_next next next.waiting refl, count)
      stored_next given right (refused_at number place) = refl
      stored_next given right (counted expected got) = refl

      pub answer_awaited : get_or state 0 0 ≡ 2 → answer_in state lent ≡ taken_from state lent (answered_by state lent)
      unfolding answer_in
      answer_awaited turn =
          rw (long, lends, ne_eqb (get_or state 0 0) 1 (λ e. omega arith), eq-eqb (get_or state 0 0) 2 turn)
          (go (lent_from Answers 0 (get_or lent 0 0) (behind_count lent)) refl)
        where
          go :
              (o : Answer (ReadItem (List (Option Entity))))
              → lent_from Answers 0 (get_or lent 0 0) (behind_count lent) ≡ o
              → storing_answers state lent (given o then take_batch waited load)
              ≡ taken_from state lent (given o then (λ items. batch_answered (rows_of (node_words state)) load items))
          go (accepted all) e =
              stored_next all.item (all_counted (item_at Answers) 0 (get_or lent 0 0) (behind_count lent) e)
              (batch_answered (rows_of (node_words state)) load all.item)
          go (refused number place) e = refl
