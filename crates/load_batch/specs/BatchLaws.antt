-- Laws of handing out a batch. No contract cites this file.
use Rattle.std.specs.Prelude.{ℕ, zero, suc, ◌+◌, ◌-◌, ◌^◌, ◌≤◌, ◌<◌, ◌≡◌, true, false, ◌&&◌, List, [], ◌∷◌, ◌++◌, map, leb, eqb, take, drop, get_or, set, length}
use Rattle.std.proofs.Common.{zero-add, add-one, arith, sym, ap, take-suc, length-take-le, eq-eqb, ne_eqb}
use Rattle.std.proofs.Math.Path.{refl}
use Rattle.std.proofs.lemmas.List.{map-append, length-map}
use Rattle.std.proofs.lemmas.Simd.{map-map}
use Rattle.std.proofs.lemmas.List.Edits.{sets}
use Rattle.rules.specs.Facts.{by_test}
use Rattle.rules.specs.Tries.{Row}
use Rattle.rules.specs.Trips.{EachOf, and_each, Primary, nodes_asked}
use Rattle.rules.specs.Loading.{done, refused_at, EntityRequest, Load, trips_for}
use Rattle.rules.specs.LoadCalls.{batch_waits, hand_batch}
use Rattle.words.specs.SeqLaws.{sets_snoc}
use Rattle.values.specs.ValueWords.{row_asked, request_word}
use Rattle.batches.specs.ReplayLaws.{trips_some}
use Rattle.load_state.specs.LoadStates.{load_words}
use Rattle.load_state.specs.Transcripts.{turn_in, transcript_in, lent_load, CameTo}
use Rattle.load_state.specs.TurnLaws.{turn_waits}
use Rattle.load_state.specs.CameLaws.{came_waiting, came_rows, came_ahead}
use Rattle.load_state.specs.Outcomes.{HandedAs}
use Rattle.load_state.specs.LoadReplies.{Done, Refused}
use Rattle.load_batch.specs.Handing.{batch_words, numbered, handing_batch, batch_in}

-- one more word of a copy that is changed on the way
pub changed_next :
    (f : ℕ → ℕ) (words out : List ℕ) (i : ℕ)
    → i < length words
    → set (sets out 0 (map f (take i words))) i (f (get_or words i 0)) ≡ sets out 0 (map f (take (i + 1) words))
changed_next f words out i h =
    rw (
      add-one,
      take-suc words i 0 h,
      map-append f (take i words) (get_or words i 0 ∷ []),
      sets_snoc out 0 (map f (take i words)) (f (get_or words i 0)),
      length-map (take i words) f,
      length-take-le i words (omega arith),
      zero-add i,
    )

-- the words of rows of an entry's nodes are small
each_small :
    (s : List ℕ) (nodes : List Row) (before : List EntityRequest) (ws : List ℕ)
    → length nodes ≤ 4096
    → EachOf (Primary s nodes) (nodes_asked before ++ nodes_asked (map row_asked ws))
    → (k : ℕ)
    → k < length ws
    → get_or ws k 0 < 2 ^ 32
each_small s nodes [] (w ∷ ws) few (and_each p h) zero less = omega (arith, p.is-node)
each_small s nodes [] (w ∷ ws) few (and_each p h) (suc k) less = each_small s nodes [] ws few h k (omega arith)
each_small s nodes (row ∷ before) ws few (and_each p h) k less = each_small s nodes before ws few h k less
each_small s nodes [] [] few h k less = absurd (omega arith)

module _ {words rows places : List ℕ} {count : ℕ} {nodes : List Row} {load : Load} {asked end batches sum : ℕ}
    (came : CameTo words rows places count nodes load asked end batches sum)
  where
    -- the rows that wait, as they stand
    waits : load.waiting ≡ map row_asked (take (end - asked) (drop asked rows))
    waits = rw came.all_asked came.at.waiting_are

    pub waiting_small : length nodes ≤ 4096 → (k : ℕ) → k < length (take (end - asked) (drop asked rows)) → get_or (take (end - asked) (drop asked rows)) k 0 < 2 ^ 32
    waiting_small few =
        each_small came.s nodes load.asked (take (end - asked) (drop asked rows)) few
        (rw (ap nodes_asked waits) at came.at.going.primary)

-- batch, by its tests
module _ (state out : List ℕ) where
  pub batch_short :
      (leb load_words (length state) && leb batch_words (length out)) ≡ false → HandedAs (batch_in state out) (Refused 31 0) state out
  unfolding batch_in
  batch_short e = rw e (refl, refl, refl)

  module _ (long : (leb load_words (length state) && leb batch_words (length out)) ≡ true) where
    pub batch_unlawful : lent_load state ≡ refused_at 1 0 → HandedAs (batch_in state out) (Refused 1 0) state out
    unfolding batch_in
    batch_unlawful e = rw (long, e) (refl, refl, refl)

    module _ (load : Load) (lent : lent_load state ≡ done load) where
      by_hand : batch_in state out ≡ handing_batch state out (hand_batch (transcript_in state) load)
      unfolding batch_in
      by_hand = rw (long, lent)

      pub batch_late : (get_or state 0 0 ≡ 1 → ⊥) → HandedAs (batch_in state out) (Refused 16 0) state out
      batch_late late =
          rw (by_hand, ne_eqb (get_or state 0 0) 1 late)
          (by_test (eqb (get_or state 0 0) 2)
          (λ t. rw t (refl, refl, refl))
          (λ t.
          by_test (eqb (get_or state 0 0) 3)
          (λ u. rw (t, u) (refl, refl, refl))
          (λ u. by_test (eqb (get_or state 0 0) 4) (λ v. rw (t, u, v) (refl, refl, refl)) (λ v. rw (t, u, v) (refl, refl, refl)))))

      module _
          {words rows places : List ℕ} {count : ℕ} {nodes : List Row} {asked end batches sum : ℕ}
          (came : CameTo words rows places count nodes load asked end batches sum) (turn : get_or state 0 0 ≡ 1)
        where
          one_turn : turn_in (get_or state 0 0) ≡ batch_waits
          one_turn = rw (eq-eqb (get_or state 0 0) 1 turn)

          pub batch_handed :
              (state' out' : List ℕ)
              → state' ≡ set state 0 2
              → out' ≡ sets out 0 (map (λ w. request_word (numbered (get_or state 4 0) (row_asked w))) (take (end - asked) (drop asked rows)))
              → HandedAs (batch_in state out) (Done (end - asked) (batches + 1) end) state' out'
          batch_handed state' out' stored written =
              let trip : load.batches + trips_for load.waiting ≡ batches + 1 =
              rw (trips_some load.waiting (turn_waits state load lent (omega arith) (omega arith))) (omega (arith, came.trips)) in
              let all : load.rows + length load.waiting ≡ end = omega (arith, came_rows came, came_waiting came, came_ahead came) in
              rw (by_hand, one_turn, trip, all, came_waiting came, stored, written, waits came)
              (refl, refl, ap (sets out 0) (sym (map-map _ row_asked (take (end - asked) (drop asked rows)))))
