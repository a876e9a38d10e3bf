-- Laws of a state's turn, and of the load of a lent state. No contract cites this file.
use Rattle.std.specs.Prelude.{ℕ, ◌≤◌, ◌<◌, refl, true, false, cond, ◌&&◌, List, ltb, leb, eqb, length, get_or}
use Rattle.std.proofs.Common.{arith, sym, ap, ◌∙◌, eq-eqb, ne_eqb, ltb-true}
use Rattle.std.proofs.Math.Path.{◌≡◌}
use Rattle.std.proofs.lemmas.Bool.{eqb-false}
use Rattle.rules.specs.Facts.{by_test, both_true}
use Rattle.rules.specs.Tries.{Row}
use Rattle.rules.specs.Loading.{LoadAnswer, done, refused_at, counted, Load, summed}
use Rattle.rules.specs.LoadCalls.{Transcript, is_summed, turn_fits, is_of_load, worked_out}
use Rattle.rules.proofs.SliceLaws.{done_same}
use Rattle.batches.specs.Replays.{NoLoad}
use Rattle.load_state.specs.LoadStates.{good_parts}
use Rattle.load_state.specs.Transcripts.{turn_in, transcript_in, load_in, CameTo, WorkedTo, lent_load, LentTo}
use Rattle.load_state.specs.WorkedLaws.{GoodParts, good-parts}
use Rattle.load_state.specs.declared.working.Worked.{Worked}
use Rattle.std.specs.Prelude.{Option as Maybe, Some, None}

-- ---- whether a turn fits

module _ (turn : ℕ) (load : Load) (sets : List (List ℕ)) where
  pub waits_fits :
      0 < turn → turn < 3 → turn_fits (turn_in turn) load sets ≡ (ltb 0 (length load.waiting) && eqb (length sets) 0)
  waits_fits some_turn early =
      by_test (eqb turn 1)
      (λ t. rw t)
      (λ t. rw (t, eq-eqb turn 2 (omega (arith, eqb-false turn 1 t))))

  pub asks_fits : 3 ≤ turn → turn < 5 → turn_fits (turn_in turn) load sets ≡ (eqb (length load.waiting) 0 && eqb (length sets) 0)
  asks_fits late early =
      by_test (eqb turn 3)
      (λ t. rw (ne_eqb turn 1 (λ e. omega arith), ne_eqb turn 2 (λ e. omega arith), t))
      (λ t.
      rw (
        ne_eqb turn 1 (λ e. omega arith),
        ne_eqb turn 2 (λ e. omega arith),
        t,
        eq-eqb turn 4 (omega (arith, eqb-false turn 3 t)),
      ))

  pub ended_fits :
      5 ≤ turn
      → turn_fits (turn_in turn) load sets
      ≡ (eqb (length load.waiting) 0
      && (leb (length sets) (length load.asked) && is_summed (summed length 0 load.sum sets)))
  ended_fits late =
      rw (
        ne_eqb turn 1 (λ e. omega arith),
        ne_eqb turn 2 (λ e. omega arith),
        ne_eqb turn 3 (λ e. omega arith),
        ne_eqb turn 4 (λ e. omega arith),
      )

-- ---- the load of a lent state

-- a load whose turn fits, or 1
abbrev fitting : Transcript → LoadAnswer Load → LoadAnswer Load
fitting t (done load) = cond (turn_fits t.turn load t.sets) (done load) (refused_at 1 0)
fitting t (refused_at number place) = refused_at 1 0
fitting t (counted expected got) = refused_at 1 0

lent_is : (state : List ℕ) → lent_load state ≡ fitting (transcript_in state) (load_in state)
unfolding load_in lent_load
lent_is state = by_test (good_parts state) (λ t. rw t (go (worked_out (transcript_in state)))) (λ t. rw t)
  where
    go : (o : LoadAnswer Load) → cond (is_of_load (transcript_in state) o) o (refused_at 1 0) ≡ fitting (transcript_in state) o
    go (done load) = refl
    go (refused_at number place) = refl
    go (counted expected got) = refl

module _ (words rows places : List ℕ) (count : ℕ) (nodes : List Row) (answer : LoadAnswer Load) (r : Maybe Worked) where
  -- a load that was worked out
  pub worked_load :
      (worked : Worked)
      → WorkedTo answer words rows places count nodes r
      → r ≡ Some worked
      → (load : Load) × (answer ≡ done load) × CameTo words rows places count nodes load worked.asked worked.end worked.batches worked.sum
  worked_load worked h told = go answer refl (rw told at h)
    where
      go :
          (o : LoadAnswer Load)
          → answer ≡ o
          → WorkedTo o words rows places count nodes (Some worked)
          → (load : Load) × (answer ≡ done load) × CameTo words rows places count nodes load worked.asked worked.end worked.batches worked.sum
      go (done load) e h = (load, e, h)
      go (refused_at number place) e h = absurd h
      go (counted expected got) e h = absurd h

  pub lent_unlawful : LentTo answer words rows places count nodes r → r ≡ None → answer ≡ refused_at 1 0
  lent_unlawful h told = rw told at h

  pub worked_none_told : WorkedTo answer words rows places count nodes r → r ≡ None → NoLoad answer
  worked_none_told h told = rw told at h

pub lent_came :
    (words rows places : List ℕ) (count : ℕ) (nodes : List Row) (answer : LoadAnswer Load) (r : Maybe Worked) (worked : Worked)
    → LentTo answer words rows places count nodes r
    → r ≡ Some worked
    → (load : Load) × (answer ≡ done load) × CameTo words rows places count nodes load worked.asked worked.end worked.batches worked.sum
lent_came words rows places count nodes answer r worked h told =
    worked_load words rows places count nodes answer (Some worked) worked (rw told at h) refl

module _ (state : List ℕ) where
  pub lent_none : NoLoad (load_in state) → lent_load state ≡ refused_at 1 0
  lent_none h = lent_is state ∙ go (load_in state) h
    where
      go : (o : LoadAnswer Load) → NoLoad o → fitting (transcript_in state) o ≡ refused_at 1 0
      go (done load) h = absurd h
      go (refused_at number place) h = refl
      go (counted expected got) h = refl

  pub lent_fits :
      (load : Load) → load_in state ≡ done load → turn_fits (transcript_in state).turn load (transcript_in state).sets ≡ true → lent_load state ≡ done load
  lent_fits load e fits = lent_is state ∙ rw (e, fits)

  pub lent_misfits :
      (load : Load) → load_in state ≡ done load → turn_fits (transcript_in state).turn load (transcript_in state).sets ≡ false → lent_load state ≡ refused_at 1 0
  lent_misfits load e misfits = lent_is state ∙ rw (e, misfits)

  -- a lent load is the one that the state tells of, and its turn fits
  pub lent_told :
      (load : Load) → lent_load state ≡ done load → (load_in state ≡ done load) × (turn_fits (transcript_in state).turn load (transcript_in state).sets ≡ true)
  lent_told load e = go (load_in state) refl (sym (lent_is state) ∙ e)
    where
      go :
          (o : LoadAnswer Load)
          → load_in state ≡ o
          → fitting (transcript_in state) o ≡ done load
          → (load_in state ≡ done load) × (turn_fits (transcript_in state).turn load (transcript_in state).sets ≡ true)
      go (done other) told h =
          by_test (turn_fits (transcript_in state).turn other (transcript_in state).sets)
          (λ t. let same : other ≡ load = done_same (rw t at h) in (told ∙ ap done same, rw (← same) t))
          (λ t. let z : ◌≡◌ {A = ℕ} 0 1 = cc (rw t at h) in absurd (omega arith))
      go (refused_at number place) told h = let z : ◌≡◌ {A = ℕ} 0 1 = cc in absurd (omega arith)
      go (counted expected got) told h = let z : ◌≡◌ {A = ℕ} 0 1 = cc in absurd (omega arith)

  -- a state that tells of a load has good parts
  pub told_parts : (load : Load) → load_in state ≡ done load → GoodParts state
  unfolding load_in
  told_parts load e =
      by_test (good_parts state)
      (λ t. good-parts state t)
      (λ t. let z : ◌≡◌ {A = ℕ} 0 1 = cc (rw t at e) in absurd (omega arith))

  -- rows wait where a batch waits, or its answers do
  pub turn_waits : (load : Load) → lent_load state ≡ done load → 0 < get_or state 0 0 → get_or state 0 0 < 3 → 0 < length load.waiting
  turn_waits load e some_turn early =
      ltb-true 0 (length load.waiting)
      (both_true (ltb 0 (length load.waiting)) _
      (sym (waits_fits (get_or state 0 0) load (transcript_in state).sets some_turn early) ∙ (lent_told load e).1)).0
