-- Laws of what the calls of a load report and keep: the entry that begin stores stays where it is. No contract cites this file.
use Prim.Native.Nat.{ℕ, ◌+◌, ◌^◌, ◌≤◌, ◌<◌}
use Rattle.std.proofs.Common.{arith, sym, ap, ◌∙◌, get_or-set_other, get_or-take, drop-set-lt, drop_at, length-take-le, leb-true}
use Rattle.std.specs.Prelude.{◌≡◌, Bool, true, false, cond, ◌&&◌, ltb, eqb, length, take, drop, get_or, set}
use Rattle.std.proofs.Math.Path.{refl}
use Rattle.std.proofs.Math.Bool.{and-eq-true_iff}
use mathlib.Core.List.{List, [], ◌∷◌, ◌++◌, map, append_assoc}
use Rattle.std.proofs.Math.Option.{Option, none, some}
use Rattle.std.proofs.Math.Dec.{leb}
use Rattle.std.proofs.lemmas.List.{length-map}
use Rattle.std.proofs.Math.Seq.{sets, length-sets, take-append_seam}
use Rattle.std.proofs.lemmas.List.Edits.{sets-eq}
use Rattle.rules.specs.Facts.{by_test, both_true}
use Rattle.rules.specs.Tries.{manifest, ordered, nodes_in}
use Rattle.rules.proofs.TrieLaws.{ordered_true}
use Rattle.rules.specs.Loading.{LoadAnswer, done, refused_at, counted, ◌then◌, EntityRequest, Load, Loaded, load_begun}
use Rattle.rules.specs.LoadCalls.{
  Entry,
  entry_for,
  turn_for,
  Transcript,
  worked_out,
  Counts,
  Called,
  out_of_turn,
  hand_batch,
  take_batch,
  ask_ancestors,
  take_ancestors,
  result_of,
}
use Rattle.rules.proofs.SliceLaws.{then_done}
use Rattle.rules.specs.Trips.{
  TripBound,
  primaries,
  batch_bound,
  trip_bound,
  CallOf,
  calls_batch,
  calls_answer,
  calls_ancestors,
  calls_ancestors_answer,
  calls_result,
  CountsWithin,
}
use Rattle.rules.proofs.TripLaws.{entry_in_order}
use Rattle.rules.proofs.TripTheorems.{reported_within}
use Rattle.words.specs.Runs.{words_in}
use Rattle.words.specs.RunLaws.{taken_back}
use Rattle.words.specs.SeqLaws.{word_kept, part_kept, take-sets}
use Rattle.rows.specs.Words.{word_of}
use Rattle.rows.specs.LentLaws.{packed}
use Rattle.rows.specs.StateLaws.{rows_lawful}
use Rattle.rows.specs.States.{lawful_state, rows_in, rows_of}
use Rattle.answers.specs.declared.Lending.TheVariants.{Answers, Sets}
use Rattle.load_state.specs.LoadStates.{load_words, context_words, is_request, request_of, turn_number, entry_in, answer_words, good_parts}
use Rattle.load_state.specs.Transcripts.{transcript_in, load_in, lent_load}
use Rattle.load_state.specs.TurnLaws.{lent_told, told_parts}
use Rattle.load_state.specs.Outcomes.{given_in, lent_words, behind_count, words_of}
use Rattle.load_state.specs.declared.LoadCounts.{LoadCounts}
use Rattle.load_state.specs.declared.LoadRefusal.{LoadRefusal}
use Rattle.load_state.specs.declared.LoadRefusal.TheVariants.{Refused as RefusedAt, Counted as CountedBy}
use Rattle.std.specs.Prelude.{Ok, Err}
use Rattle.load_state.specs.LoadReplies.{LoadReply, Done, Refused, Counted}
use Rattle.entries.specs.EntryLaws.{entry_few}
use Rattle.entries.specs.Bounds.{told, trip_bound_in}
use Rattle.entries.specs.BoundLaws.{bound_lawful}
use Rattle.std.specs.Prelude.{Ok}
use Rattle.load_begin.specs.Begins.{manifest_words, lawful_context, entry_words, begun_state, begun_with, begun_by, begin_in}
use Rattle.load_begin.specs.BeginLaws.{begin_short, begin_unlawful, begin_lawful, manifest_nodes}
use Rattle.load_batch.specs.Handing.{batch_words, handing_batch, batch_in}
use Rattle.loader.specs.Calls.{storing_answers, answer_in}
use Rattle.load_ancestors.specs.Asking.{requests_words, handing_requests, asking_of, ancestors_in}
use Rattle.load_ends.specs.Ends.{storing_sets, ancestors_answer_in, slice_room, handing_slice, result_in}
use Rattle.calls.specs.LoadsIn.{
  StateOf,
  begin_called,
  batch_called,
  answer_called,
  ancestors_called,
  ancestors_answer_called,
  bound_in,
  ReportsWithin,
  CallsWithin,
  SameTrips,
}

-- a call on a lent load
lent_within :
    (state : List ℕ) (load : Load)
    → lent_load state ≡ done load
    → {u : Transcript} {more : List (List EntityRequest)} {call : ℕ} {tells : Counts}
    → CallOf (transcript_in state) load u more call tells
    → CountsWithin (bound_in state) tells
unfolding load_in
lent_within state load e call =
    let told = (lent_told state load e).0 in
    reported_within (transcript_in state) load (told_parts state load told).order (worked-out told) call
  where
    worked-out : load_in state ≡ done load → worked_out (transcript_in state) ≡ done load
    worked-out h =
        by_test (good_parts state)
        (λ t. rw t at h)
        (λ t. let z : ◌≡◌ {A = ℕ} 0 1 = cc (rw t at h) in absurd (omega arith))

module _ (state out : List ℕ) where
  batch_reports : ReportsWithin (bound_in state) (batch_in state out).reply
  unfolding batch_in
  batch_reports =
      by_test (leb load_words (length state) && leb batch_words (length out)) (λ t. rw t (go _ refl)) (λ t. rw t tt)
    where
      go :
          (o : LoadAnswer (Called (List EntityRequest)))
          → (lent_load state then hand_batch (transcript_in state)) ≡ o
          → ReportsWithin (bound_in state) (handing_batch state out o).reply
      go (done c) e =
          let (load, lent, hands) = then_done (lent_load state) (hand_batch (transcript_in state)) e in
          lent_within state load lent (calls_batch c hands)
      go (refused_at number place) e = tt
      go (counted expected got) e = tt

  ancestors_reports : ReportsWithin (bound_in state) (ancestors_in state out).reply
  unfolding ancestors_in
  ancestors_reports =
      by_test (leb load_words (length state) && leb requests_words (length out)) (λ t. rw t (go (lent_load state) refl)) (λ t. rw t tt)
    where
      asked :
          (load : Load)
          → lent_load state ≡ done load
          → (o : LoadAnswer (Called (List (List ℕ))))
          → ask_ancestors (transcript_in state) load ≡ o
          → ReportsWithin (bound_in state) (handing_requests state out load.asked o).reply
      asked load lent (done c) e = lent_within state load lent (calls_ancestors c e)
      asked load lent (refused_at number place) e = tt
      asked load lent (counted expected got) e = tt

      go : (o : LoadAnswer Load) → lent_load state ≡ o → ReportsWithin (bound_in state) (asking_of state out o).reply
      go (done load) lent = asked load lent (ask_ancestors (transcript_in state) load) refl
      go (refused_at number place) lent = tt
      go (counted expected got) lent = tt

  result_reports : ReportsWithin (bound_in state) (result_in state out).reply
  unfolding result_in
  result_reports =
      by_test (leb load_words (length state) && leb slice_room (length out)) (λ t. rw t (go _ refl)) (λ t. rw t tt)
    where
      go :
          (o : LoadAnswer (Called (List Loaded)))
          → (lent_load state then result_of (transcript_in state)) ≡ o
          → ReportsWithin (bound_in state) (handing_slice out o).reply
      go (done c) e =
          let (load, lent, gives) = then_done (lent_load state) (result_of (transcript_in state)) e in
          lent_within state load lent (calls_result c gives)
      go (refused_at number place) e = tt
      go (counted expected got) e = tt

-- a call that takes what is lent, at its turn
given_done :
    {A B : Type 0} (state : List ℕ) (turn : ℕ) (given : LoadAnswer A) (takes : Load → A → LoadAnswer B) {c : B}
    → (lent_load state then (λ load. cond (eqb (get_or state 0 0) turn) (given then takes load) out_of_turn)) ≡ done c
    → (load : Load) × (lent_load state ≡ done load) × (a : A) × (takes load a ≡ done c)
given_done {A} {B} state turn given takes {c} e =
    let (load, told, rest) =
    then_done (lent_load state) (λ load. cond (eqb (get_or state 0 0) turn) (given then takes load) out_of_turn) e in
    go load told (eqb (get_or state 0 0) turn) rest
  where
    go :
        (load : Load)
        → lent_load state ≡ done load
        → (t : Bool)
        → cond t (given then takes load) out_of_turn ≡ done c
        → (load : Load) × (lent_load state ≡ done load) × (a : A) × (takes load a ≡ done c)
    go load told true e = let (a, first, rest) = then_done given (takes load) e in (load, told, a, rest)
    go load told false e = let z : ◌≡◌ {A = ℕ} 0 1 = cc in absurd (omega arith)

module _ (state lent : List ℕ) where
  abbrev answering : LoadAnswer (Called (List EntityRequest))
  answering =
      lent_load state then
      (λ load. cond (eqb (get_or state 0 0) 2) (given_in Answers lent then take_batch (transcript_in state) load) out_of_turn)

  abbrev answering_sets : LoadAnswer (Called ℕ)
  answering_sets =
      lent_load state then
      (λ load. cond (eqb (get_or state 0 0) 4) (given_in Sets lent then take_ancestors (transcript_in state) load) out_of_turn)

  answer_reports : ReportsWithin (bound_in state) (answer_in state lent).reply
  unfolding answer_in
  answer_reports =
      by_test (leb load_words (length state) && leb lent_words (length lent)) (λ t. rw t (go answering refl)) (λ t. rw t tt)
    where
      go : (o : LoadAnswer (Called (List EntityRequest))) → answering ≡ o → ReportsWithin (bound_in state) (storing_answers state lent o).reply
      go (done c) e =
          let (load, told, answers, takes) = given_done state 2 (given_in Answers lent) (take_batch (transcript_in state)) e in
          lent_within state load told (calls_answer answers c takes)
      go (refused_at number place) e = tt
      go (counted expected got) e = tt

  ancestors_answer_reports : ReportsWithin (bound_in state) (ancestors_answer_in state lent).reply
  unfolding ancestors_answer_in
  ancestors_answer_reports =
      by_test (leb load_words (length state) && leb lent_words (length lent)) (λ t. rw t (go answering_sets refl)) (λ t. rw t tt)
    where
      go : (o : LoadAnswer (Called ℕ)) → answering_sets ≡ o → ReportsWithin (bound_in state) (storing_sets state (behind_count lent) o).reply
      go (done c) e =
          let (load, told, sets, takes) = given_done state 4 (given_in Sets lent) (take_ancestors (transcript_in state)) e in
          lent_within state load told (calls_ancestors_answer sets c takes)
      go (refused_at number place) e = tt
      go (counted expected got) e = tt

-- What of a state its bound depends on: the words of its request type and of its entry. They stay where other words are stored.

record SameEntry (state now : List ℕ) : Type 0 where
  type : get_or now 1 0 ≡ get_or state 1 0
  count : get_or now 5 0 ≡ get_or state 5 0
  rows : take (get_or state 5 0) (drop 9 now) ≡ take (get_or state 5 0) (drop 9 state)

same_bound : (state now : List ℕ) → SameEntry state now → bound_in now ≡ bound_in state
same_bound state now same = rw (same.type, same.count, same.rows)

-- a turn stored, and the words of answers or sets with their count
turned : (state : List ℕ) (turn : ℕ) → SameEntry state (set state 0 turn)
turned state turn = record {
  type = get_or-set_other state 0 1 turn 0 (λ e. omega arith);
  count = get_or-set_other state 0 5 turn 0 (λ e. omega arith);
  rows = ap (take (get_or state 5 0)) (drop-set-lt 9 state 0 turn (omega arith));
}

lent_stored :
    (state : List ℕ) (turn at count from : ℕ) (words : List ℕ)
    → get_or state 5 0 ≤ 4097
    → 6 < at
    → at < 9
    → 4106 ≤ from
    → SameEntry state (sets (set (set state 0 turn) at count) from words)
lent_stored state turn at count from words few low high behind =
    let there = set (set state 0 turn) at count in
    let before = turned state turn in
    record {
      type = word_kept 1 there from words (omega arith) ∙ get_or-set_other (set state 0 turn) at 1 count 0 (λ e. omega arith) ∙ before.type;
      count = word_kept 5 there from words (omega arith) ∙ get_or-set_other (set state 0 turn) at 5 count 0 (λ e. omega arith) ∙ before.count;
      rows =
          part_kept (get_or state 5 0) 9 there from words (omega arith)
          ∙ ap (take (get_or state 5 0)) (drop-set-lt 9 (set state 0 turn) at count high)
          ∙ before.rows;
    }

few_rows : (state : List ℕ) (load : Load) → lent_load state ≡ done load → get_or state 5 0 ≤ 4097
few_rows state load e = (told_parts state load (lent_told state load e).0).few_rows

module _ (state out : List ℕ) where
  batch_keeps : bound_in (batch_in state out).state ≡ bound_in state
  unfolding batch_in
  batch_keeps =
      by_test (leb load_words (length state) && leb batch_words (length out)) (λ t. rw t (go (lent_load state then hand_batch (transcript_in state)))) (λ t. rw t)
    where
      go : (o : LoadAnswer (Called (List EntityRequest))) → bound_in (handing_batch state out o).state ≡ bound_in state
      go (done c) = same_bound state _ (turned state (turn_number c.left.turn))
      go (refused_at number place) = refl
      go (counted expected got) = refl

  ancestors_keeps : bound_in (ancestors_in state out).state ≡ bound_in state
  unfolding ancestors_in
  ancestors_keeps =
      by_test (leb load_words (length state) && leb requests_words (length out)) (λ t. rw t (go (lent_load state))) (λ t. rw t)
    where
      asked : (rows : List EntityRequest) (o : LoadAnswer (Called (List (List ℕ)))) → bound_in (handing_requests state out rows o).state ≡ bound_in state
      asked rows (done c) = same_bound state _ (turned state (turn_number c.left.turn))
      asked rows (refused_at number place) = refl
      asked rows (counted expected got) = refl

      go : (o : LoadAnswer Load) → bound_in (asking_of state out o).state ≡ bound_in state
      go (done load) = asked load.asked (ask_ancestors (transcript_in state) load)
      go (refused_at number place) = refl
      go (counted expected got) = refl

module _ (state lent : List ℕ) where
  answer_keeps : bound_in (answer_in state lent).buffer ≡ bound_in state
  unfolding answer_in
  answer_keeps =
      by_test (leb load_words (length state) && leb lent_words (length lent)) (λ t. rw t (go (answering state lent) refl)) (λ t. rw t)
    where
      go :
          (o : LoadAnswer (Called (List EntityRequest)))
          → answering state lent ≡ o
          → bound_in (storing_answers state lent o).buffer ≡ bound_in state
      go (done c) e =
          let (load, told, _, _) = given_done state 2 (given_in Answers lent) (take_batch (transcript_in state)) e in
          same_bound state _
          (lent_stored state (turn_number c.left.turn) 7 (length c.left.answers)
          (12298 + words_of Answers (get_or state 7 0) (answer_words state))
          (take (words_of Answers (get_or lent 0 0) (behind_count lent)) (behind_count lent))
          (few_rows state load told) (omega arith) (omega arith) (omega arith))
      go (refused_at number place) e = refl
      go (counted expected got) e = refl

  ancestors_answer_keeps : bound_in (ancestors_answer_in state lent).buffer ≡ bound_in state
  unfolding ancestors_answer_in
  ancestors_answer_keeps =
      by_test (leb load_words (length state) && leb lent_words (length lent)) (λ t. rw t (go (answering_sets state lent) refl)) (λ t. rw t)
    where
      go : (o : LoadAnswer (Called ℕ)) → answering_sets state lent ≡ o → bound_in (storing_sets state (behind_count lent) o).buffer ≡ bound_in state
      go (done c) e =
          let (load, told, _, _) = given_done state 4 (given_in Sets lent) (take_ancestors (transcript_in state)) e in
          same_bound state _
          (lent_stored state (turn_number c.left.turn) 8 c.out 24586 (take (words_of Sets c.out (behind_count lent)) (behind_count lent))
          (few_rows state load told) (omega arith) (omega arith) (omega arith))
      go (refused_at number place) e = refl
      go (counted expected got) e = refl

-- What begin stores is the entry of the request type.

module _ (state : List ℕ) (turn triple principal resource first : ℕ) (entry context : List ℕ) (room : 36874 ≤ length state) (few : length entry ≤ 4097) where
  abbrev head : List ℕ
  head = turn ∷ triple ∷ principal ∷ resource ∷ first ∷ length entry ∷ length context ∷ 0 ∷ 0 ∷ []

  abbrev now : List ℕ
  now = begun_state state turn triple principal resource first entry context

  front : take 9 now ≡ head
  front =
      take-sets 9 (sets (sets state 0 head) 9 entry) 4106 context (omega arith)
      ∙ take-sets 9 (sets state 0 head) 9 entry (omega arith)
      ∙ taken_back state head (omega arith)

  stored_type : get_or now 1 0 ≡ triple
  stored_type = sym (get_or-take 9 now 1 0 (omega arith)) ∙ ap (λ words. get_or words 1 0) front

  stored_count : get_or now 5 0 ≡ length entry
  stored_count = sym (get_or-take 9 now 5 0 (omega arith)) ∙ ap (λ words. get_or words 5 0) front

  stored_entry : entry_in now ≡ entry
  stored_entry =
      let before = sets state 0 head in
      let size : length before ≡ length state = length-sets state 0 head in
      let laid : sets before 9 entry ≡ take 9 before ++ entry ++ drop (9 + length entry) before = sets-eq entry before 9 (omega arith) in
      let behind : drop 9 (sets before 9 entry) ≡ entry ++ drop (9 + length entry) before =
      ap (drop 9) (laid ∙ append_assoc (take 9 before) entry (drop (9 + length entry) before))
      ∙ drop_at (take 9 before) (entry ++ drop (9 + length entry) before) 9 (length-take-le 9 before (omega arith)) in
      ap (λ n. take n (drop 9 now)) stored_count
      ∙ part_kept (length entry) 9 (sets before 9 entry) 4106 context (omega arith)
      ∙ ap (take (length entry)) behind
      ∙ take-append_seam entry (drop (9 + length entry) before)

module _ (lent : List ℕ) (triple principal resource : ℕ) (context state : List ℕ) where
  begun_bound :
      (order : ordered [] (rows_in lent) ≡ true)
      → nodes_in (rows_in lent) ≤ 4096
      → 36874 ≤ length state
      → (o : Option Entry)
      → entry_for triple 0 (rows_in lent) ≡ o
      → (count batches rows : ℕ)
      → (begun_by triple principal resource context state o).reply ≡ Done count batches rows
      → SameTrips (bound_in (begun_by triple principal resource context state o).buffer) (trip_bound (rows_in lent) triple)
  unfolding trip_bound primaries batch_bound
  begun_bound order few room none found count batches rows e =
      let entry = stored_entry state 5 triple principal resource 0 [] context room (omega arith) in
      rw (found, trip_bound, entry) (record { rows = refl; batches = refl })
  begun_bound order few room (some entry) found count batches rows e =
      go (load_begun (request_of triple principal resource context) entry.nodes) e
    where
      words : List ℕ
      words = entry_words triple entry.nodes

      go :
          (o : LoadAnswer Load)
          → (begun_with triple principal resource context state entry.first entry.nodes o).reply ≡ Done count batches rows
          → SameTrips (bound_in (begun_with triple principal resource context state entry.first entry.nodes o).buffer) (trip_bound (rows_in lent) triple)
      go (done load) e =
          let size : length (entry_words triple entry.nodes) ≤ 4097 =
          omega (arith, few, entry_few triple 0 (rows_in lent) entry found, length-map entry.nodes word_of) in
          let kept = stored_entry state (turn_number (turn_for load)) triple principal resource entry.first (entry_words triple entry.nodes) context room size in
          let type = stored_type state (turn_number (turn_for load)) triple principal resource entry.first (entry_words triple entry.nodes) context room size in
          let nodes : rows_of (map word_of entry.nodes) ≡ entry.nodes =
          (packed (triple ∷ []) entry.nodes (ordered_true (triple ∷ []) entry.nodes (entry_in_order triple (rows_in lent) entry order found))).0 in
          rw (found, trip_bound, type, kept, nodes) (record { rows = refl; batches = refl })
      go (refused_at number place) e = let z : ◌≡◌ {A = ℕ} 0 1 = cc in absurd (omega arith)
      go (counted expected got) e = let z : ◌≡◌ {A = ℕ} 0 1 = cc in absurd (omega arith)

-- begin that is done had lawful buffers, long enough
begin_bound :
    (lent : List ℕ) (triple principal resource : ℕ) (context state : List ℕ) (count batches rows : ℕ)
    → (begin_in lent triple principal resource context state).reply ≡ Done count batches rows
    → SameTrips (bound_in (begin_in lent triple principal resource context state).buffer) (trip_bound (rows_in lent) triple)
    × (trip_bound_in lent triple ≡ Ok (told (trip_bound (rows_in lent) triple)))
begin_bound lent triple principal resource context state count batches rows e =
    by_test (leb manifest_words (length lent) && (leb context_words (length context) && leb load_words (length state))) long short
  where
    short :
        (leb manifest_words (length lent) && (leb context_words (length context) && leb load_words (length state))) ≡ false
        → SameTrips (bound_in (begin_in lent triple principal resource context state).buffer) (trip_bound (rows_in lent) triple)
        × (trip_bound_in lent triple ≡ Ok (told (trip_bound (rows_in lent) triple)))
    short t =
        let refused = (begin_short lent triple principal resource context state t).0 in
        let z : ◌≡◌ {A = ℕ} 0 1 = cc in
        absurd (omega arith)

    long :
        (leb manifest_words (length lent) && (leb context_words (length context) && leb load_words (length state))) ≡ true
        → SameTrips (bound_in (begin_in lent triple principal resource context state).buffer) (trip_bound (rows_in lent) triple)
        × (trip_bound_in lent triple ≡ Ok (told (trip_bound (rows_in lent) triple)))
    long t =
        by_test (lawful_state manifest lent && (is_request triple principal resource && lawful_context context))
        (λ u.
        let is = begin_lawful lent triple principal resource context state t u in
        let (lawful, request) = both_true (lawful_state manifest lent) _ u in
        let (large, others) = both_true (leb manifest_words (length lent)) _ t in
        let room = leb-true load_words (length state) (both_true (leb context_words (length context)) (leb load_words (length state)) others).1 in
        let order = (both_true (ordered [] (rows_in lent)) _ (rows_lawful manifest lent lawful)).0 in
        let type = (both_true (ltb triple (2 ^ 48)) _ (both_true (is_request triple principal resource) _ request).0).0 in (
          rw is
              (begun_bound lent triple principal resource (words_in context) state order (manifest_nodes lent lawful) room
              (entry_for triple 0 (rows_in lent)) refl count batches rows (rw is at e)),
          bound_lawful lent triple (leb-true manifest_words (length lent) large)
              ((and-eq-true_iff (lawful_state manifest lent) (ltb triple (2 ^ 48))).1 (lawful, type)),
        ))
        (λ u.
        let refused = (begin_unlawful lent triple principal resource context state t u).0 in
        let z : ◌≡◌ {A = ℕ} 0 1 = cc in
        absurd (omega arith))

-- the bound of a load's state is the manifest's
pub state_bound :
    {manifest : List ℕ} {type : ℕ} {state : List ℕ}
    → StateOf manifest type state
    → SameTrips (bound_in state) (trip_bound (rows_in manifest) type) × (trip_bound_in manifest type ≡ Ok (told (trip_bound (rows_in manifest) type)))
state_bound (begin_called principal resource context state count batches rows e) = begin_bound _ _ principal resource context state count batches rows e
state_bound (batch_called {state} out h) = rw (batch_keeps state out) (state_bound h)
state_bound (answer_called {state} answers h) = rw (answer_keeps state answers) (state_bound h)
state_bound (ancestors_called {state} out h) = rw (ancestors_keeps state out) (state_bound h)
state_bound (ancestors_answer_called {state} sets h) = rw (ancestors_answer_keeps state sets) (state_bound h)

within_same : {a b : TripBound} → SameTrips a b → (reply : LoadReply) → ReportsWithin a reply → ReportsWithin b reply
within_same same (Ok counts) h = (omega (arith, h.0, same.batches), omega (arith, h.1, same.rows))
within_same same (Err (RefusedAt refusal)) h = tt
within_same same (Err (CountedBy expected got)) h = tt

pub within_state : (state : List ℕ) → CallsWithin state (bound_in state)
within_state state = record {
  batch = λ out. batch_reports state out;
  answer = λ answers. answer_reports state answers;
  ancestors = λ out. ancestors_reports state out;
  ancestors_answer = λ sets. ancestors_answer_reports state sets;
  result = λ out. result_reports state out;
}

pub within_begun : {a b : TripBound} {state : List ℕ} → SameTrips a b → CallsWithin state a → CallsWithin state b
within_begun {state = state} same h = record {
  batch = λ out. within_same same (batch_in state out).reply (h.batch out);
  answer = λ answers. within_same same (answer_in state answers).reply (h.answer answers);
  ancestors = λ out. within_same same (ancestors_in state out).reply (h.ancestors out);
  ancestors_answer = λ sets. within_same same (ancestors_answer_in state sets).reply (h.ancestors_answer sets);
  result = λ out. within_same same (result_in state out).reply (h.result out);
}
