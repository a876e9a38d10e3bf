-- Laws of what ancestors comes to. No contract cites this file.
use Rattle.std.specs.Prelude.{ℕ, suc, ◌+◌, ◌≤◌, ◌≡◌, refl, true, false, ◌&&◌, leb, eqb, length, take, get_or, set}
use Rattle.std.proofs.Common.{arith, sym, ap, ◌∙◌, length-take-le, eqb-true, ne_eqb}
use mathlib.Core.List.{List, [], ◌∷◌, flatten}
use Rattle.std.proofs.lemmas.List.{length-map}
use Rattle.rules.specs.Facts.{by_test, both_true}
use Rattle.rules.specs.Tries.{Row}
use Rattle.rules.specs.Loading.{LoadAnswer, done, refused_at, counted, Request, EntityRequest, Load, Loaded, ancestors_request, ancestors_requests}
use Rattle.rules.proofs.SliceLaws.{done_same, then_done}
use Rattle.rows.specs.Words.{row_in}
use Rattle.rows.specs.States.{rows_of}
use Rattle.ancestors.specs.Requests.{RequestsAnswered}
use Rattle.ancestors.specs.RoomLaws.{load_room}
use Rattle.words.specs.Replies.{Reply, refusal, Done as All-done, Refused as One-refused}
use Rattle.words.specs.declared.Refusal.{Refusal}
use Rattle.load_state.specs.Transcripts.{node_words, transcript_in, lent_load}
use Rattle.load_state.specs.Outcomes.{refusing_out, HandedAs}
use Rattle.load_state.specs.WorkedLaws.{nodes_few}
use Rattle.load_state.specs.TurnLaws.{asks_fits, lent_told}
use Rattle.load_state.specs.LoadReplies.{Done, Refused}
use Rattle.load_ends.specs.Ends.{ReadTo}
use Rattle.load_ancestors.specs.Asking.{asking_of, ancestors_in}
use Rattle.load_ends.specs.LoadedLaws.{read_parts, read_asked, read_rows, read_inside, rows_are}

-- ---- the requests of a load

-- there is one for each row
requests_many :
    (request : Request) (nodes : List Row) (slice : List Loaded) (place : ℕ) (rows : List EntityRequest) {lists : List (List ℕ)}
    → ancestors_requests request nodes slice place rows ≡ done lists
    → length lists ≡ length rows
unfolding ancestors_requests
requests_many request nodes slice place [] {lists} e = let none_asked : [] ≡ lists = cc in rw (← none_asked)
requests_many request nodes slice place (row ∷ rows) e =
    let (ids, first, rest) = then_done (ancestors_request request nodes slice place row) _ e in
    let (more, others, all) = then_done (ancestors_requests request nodes slice (suc place) rows) _ rest in
    let whole = done_same all in
    rw (← whole) (ap suc (requests_many request nodes slice (suc place) rows others))

module _ {state rows places : List ℕ} {asked batches sum : ℕ} (read : ReadTo state rows places asked batches sum) where
  none_waits : get_or state 0 0 ≡ 3 → read.load.waiting ≡ []
  none_waits turn =
      let fits = sym (asks_fits (get_or state 0 0) read.load _ (omega arith) (omega arith)) ∙ (lent_told state read.load read.told).1 in
      empty read.load.waiting (eqb-true _ 0 (both_true (eqb (length read.load.waiting) 0) _ fits).0)
    where
      empty : (l : List EntityRequest) → length l ≡ 0 → l ≡ []
      empty [] h = refl
      empty (row ∷ l) h = absurd (omega arith)

  -- and there is room for them
  pub asking_room :
      (request : Request) (lists : List (List ℕ))
      → get_or state 0 0 ≡ 3
      → ancestors_requests request (rows_of (node_words state)) read.load.slice 0 read.load.asked ≡ done lists
      → 1 + length (take asked rows) + length (flatten lists) ≤ 528385
  asking_room request lists turn is =
      let parts = read_parts read in
      let few : length (rows_of (node_words state)) ≤ 4096 = omega (arith, length-map (node_words state) row_in, nodes_few state parts.few_rows) in
      omega (
        arith,
        load_room request read.came.s (rows_of (node_words state)) read.load.slice read.load lists read.came.at.order parts.no_entry few
            read.came.at.going (none_waits turn) is,
        read_asked read,
        length-take-le asked rows (read_inside read),
      )

  -- ---- what the call answers and leaves

  module _ (turn : get_or state 0 0 ≡ 3) (out out' : List ℕ) (reply : Reply)
      (answered :
      RequestsAnswered
      (ancestors_requests (transcript_in state).request (transcript_in state).nodes read.load.slice 0 read.load.asked)
      (take asked rows) out out' reply)
    where
      abbrev wanted : LoadAnswer (List (List ℕ))
      wanted = ancestors_requests (transcript_in state).request (transcript_in state).nodes read.load.slice 0 read.load.asked

      pub ask_done :
          reply ≡ All-done
          → HandedAs (asking_of state out (lent_load state)) (Done asked batches asked) (set state 0 4) out'
      ask_done told = go wanted refl answered
        where
          go : (o : LoadAnswer (List (List ℕ))) → wanted ≡ o → RequestsAnswered o (take asked rows) out out' reply
              → HandedAs (asking_of state out (lent_load state)) (Done asked batches asked) (set state 0 4) out'
          go (done lists) e h =
              let many : length lists ≡ asked = requests_many _ _ _ 0 read.load.asked e ∙ read_asked read in
              let rows_many : length (take asked rows) ≡ length read.load.asked = length-take-le asked rows (read_inside read) ∙ sym (read_asked read) in
              rw (read.told, turn, e) (
                cc (many, read.came.trips, read_rows read),
                refl,
                rw (rows_many, rows_are read) at h.1,
              )
          go (refused_at number place) e h = let z : ◌≡◌ {A = ℕ} 0 1 = cc h.0 in absurd (omega arith)
          go (counted expected got) e h = absurd h

      pub ask_refused :
          {number place : ℕ}
          → reply ≡ One-refused number place
          → HandedAs (asking_of state out (lent_load state)) (Refused number place) state out'
      ask_refused {number} {place} told = go wanted refl answered
        where
          go : (o : LoadAnswer (List (List ℕ))) → wanted ≡ o → RequestsAnswered o (take asked rows) out out' reply
              → HandedAs (asking_of state out (lent_load state)) (Refused number place) state out'
          go (done lists) e h = let z : ◌≡◌ {A = ℕ} 0 1 = cc h.0 in absurd (omega arith)
          go (refused_at n p) e h =
              let same : refusal number place ≡ refusal n p = cc (told, h.0) in
              rw (read.told, turn, e) (ap (λ (r : Refusal). Refused r.number r.place) same, refl, h.1)
          go (counted expected got) e h = absurd h

-- ---- the tests before them

module _ (state out : List ℕ) where
  pub ask_short : (leb 36874 (length state) && leb 528385 (length out)) ≡ false → ancestors_in state out ≡ refusing_out 31 0 state out
  unfolding ancestors_in
  ask_short h = rw h

  pub ask_long : (leb 36874 (length state) && leb 528385 (length out)) ≡ true → ancestors_in state out ≡ asking_of state out (lent_load state)
  unfolding ancestors_in
  ask_long h = rw h

  pub ask_early : {load : Load} → lent_load state ≡ done load → (get_or state 0 0 ≡ 3 → ⊥) → asking_of state out (lent_load state) ≡ refusing_out 16 0 state out
  ask_early told other =
      let turn = get_or state 0 0 in
      by_test (eqb turn 1)
      (λ t. rw (told, t))
      (λ t.
      by_test (eqb turn 2)
      (λ u. rw (told, t, u))
      (λ u.
      by_test (eqb turn 4)
      (λ v. rw (told, t, u, ne_eqb turn 3 other, v))
      (λ v. rw (told, t, u, ne_eqb turn 3 other, v))))
