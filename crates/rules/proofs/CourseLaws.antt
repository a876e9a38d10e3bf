-- Laws of the course of a load (Trips): where it stands after each call, and what it has asked for by then. No contract cites this file.
use Prim.Native.Nat.{ℕ, zero, suc, ◌+◌, ◌≤◌, ◌<◌}
use native.Mathlib.Omega.{arith}
use Rattle.std.proofs.Common.{add-zero, sym, ap, subst, ◌∙◌, inl, inr, ⊎_elim, length-append}
use Rattle.std.proofs.Math.Path.{◌≡◌, refl}
use Rattle.std.specs.Prelude.{◌⊎◌, true, eqb, take}
use mathlib.Core.List.{List, [], ◌∷◌, ◌++◌, append-nil, append_assoc}
use Rattle.std.proofs.Math.Option.{Option, none, some}
use Rattle.std.proofs.Math.ListN.{length, drop, length-take, drop_of_length-le}
use Rattle.std.proofs.Math.Seq.{take_all, take-append-le, drop-append-le}
use borrow.Author.Tests.{eqb-true, ne_eqb}
use Rattle.rules.specs.Facts.{by_test}
use Rattle.rules.specs.Tries.{Row, ordered}
use Rattle.rules.specs.Values.{Entity}
use Rattle.rules.specs.Loading.{
  LoadAnswer,
  done,
  refused_at,
  counted,
  ◌then◌,
  Request,
  EntityRequest,
  Load,
  Loaded,
  load_begun,
  batch_of,
  initial_entities,
  in_context,
  at_roots,
  batch_answered,
  trips_for,
  summed,
  ancestors_requests,
  with_ancestors,
}
use Rattle.rules.specs.LoadCalls.{
  Entry,
  entry_for,
  Turn,
  batch_waits,
  answers_awaited,
  ancestors_to_ask,
  ancestors_awaited,
  ended,
  Transcript,
  transcript,
  after_answers,
  worked_out,
  turn_for,
  Counts,
  counts_at,
  Called,
  called,
  out_of_turn,
  begin_load,
  hand_batch,
  take_batch,
  ask_ancestors,
  take_ancestors,
  result_of,
}
use Rattle.rules.proofs.SliceLaws.{done_same, then_done}
use Rattle.rules.specs.Trips.{
  CallOf,
  calls_batch,
  calls_answer,
  calls_ancestors,
  calls_ancestors_answer,
  calls_result,
  Course,
  begun,
  goes_on,
  rows_handed,
  nodes_asked,
  Distinct,
  EachOf,
  Primary,
  BoundedTrips,
  TripBound,
  batch_bound,
  bound_of,
  no_trips,
  trip_bound,
  primaries,
  WithinBound,
  CountsWithin,
}
use Rattle.rules.proofs.TripLaws.{
  GoingLoad,
  is_answered,
  going_bounded,
  no_batches,
  entry_in_order,
  each_left,
  pairs_left,
  nodes_append,
}
use Rattle.rules.proofs.LoadLaws.{going_begun, going_answered}
pub use Rattle.rules.specs.CourseLaws.{HandedSo, Stands, Fresh}

-- Which turn a call that is done was made at, and what came of it.

not_done : {A P : Type 0} {c : A} → refused_at 16 0 ≡ done c → P
not_done e = let z : ◌≡◌ {A = ℕ} 0 1 = cc in absurd (omega arith)

module _ (t : Transcript) (load : Load) where
  -- what each call leaves and reports where it is done
  abbrev handed_out : Called (List EntityRequest)
  handed_out =
      called (transcript answers_awaited t.request t.first t.nodes t.answers []) load.waiting (counts_at answers_awaited load)

  abbrev answered_with : List (Option Entity) → Load → Called (List EntityRequest)
  answered_with answers next =
      called
      (transcript (turn_for next) t.request t.first t.nodes (t.answers ++ answers) [])
      next.waiting
      (counts_at (turn_for next) next)

  hand_done : (c : Called (List EntityRequest)) → hand_batch t load ≡ done c → (t.turn ≡ batch_waits) × (c ≡ handed_out)
  hand_done c e = go t.turn refl e
    where
      go :
          (turn : Turn)
          → t.turn ≡ turn
          → ◌≡◌ {A = LoadAnswer (Called (List EntityRequest))}
          (elim turn [
            | batch_waits ↦ done handed_out
            | answers_awaited ↦ out_of_turn
            | ancestors_to_ask ↦ out_of_turn
            | ancestors_awaited ↦ out_of_turn
            | ended ↦ out_of_turn
          ])
          (done c)
          → (t.turn ≡ batch_waits) × (c ≡ handed_out)
      go batch_waits q e = (q, cc)
      go answers_awaited q e = not_done e
      go ancestors_to_ask q e = not_done e
      go ancestors_awaited q e = not_done e
      go ended q e = not_done e

  take_done :
      (answers : List (Option Entity)) (c : Called (List EntityRequest))
      → take_batch t load answers ≡ done c
      → (t.turn ≡ answers_awaited)
      × (next : Load)
      × (batch_answered t.nodes load answers ≡ done next)
      × (c ≡ answered_with answers next)
  take_done answers c e = go t.turn refl e
    where
      go :
          (turn : Turn)
          → t.turn ≡ turn
          → ◌≡◌ {A = LoadAnswer (Called (List EntityRequest))}
          (elim turn [
            | batch_waits ↦ out_of_turn
            | answers_awaited ↦ batch_answered t.nodes load answers then (λ next. done (answered_with answers next))
            | ancestors_to_ask ↦ out_of_turn
            | ancestors_awaited ↦ out_of_turn
            | ended ↦ out_of_turn
          ])
          (done c)
          → (t.turn ≡ answers_awaited)
          × (next : Load)
          × (batch_answered t.nodes load answers ≡ done next)
          × (c ≡ answered_with answers next)
      go batch_waits q e = not_done e
      go answers_awaited q e =
          let (next, first, rest) = then_done (batch_answered t.nodes load answers) (λ next. done (answered_with answers next)) e in
          (q, next, first, cc)
      go ancestors_to_ask q e = not_done e
      go ancestors_awaited q e = not_done e
      go ended q e = not_done e

  ask_done :
      (c : Called (List (List ℕ)))
      → ask_ancestors t load ≡ done c
      → (t.turn ≡ ancestors_to_ask)
      × (c.left ≡ transcript ancestors_awaited t.request t.first t.nodes t.answers [])
      × (c.counts ≡ counts_at ancestors_awaited load)
  ask_done c e = go t.turn refl e
    where
      left : Transcript
      left = transcript ancestors_awaited t.request t.first t.nodes t.answers []

      requests : LoadAnswer (List (List ℕ))
      requests = ancestors_requests t.request t.nodes load.slice 0 load.asked

      go :
          (turn : Turn)
          → t.turn ≡ turn
          → ◌≡◌ {A = LoadAnswer (Called (List (List ℕ)))}
          (elim turn [
            | batch_waits ↦ out_of_turn
            | answers_awaited ↦ out_of_turn
            | ancestors_to_ask ↦ requests then (λ asked. done (called left asked (counts_at ancestors_awaited load)))
            | ancestors_awaited ↦ out_of_turn
            | ended ↦ out_of_turn
          ])
          (done c)
          → (t.turn ≡ ancestors_to_ask) × (c.left ≡ left) × (c.counts ≡ counts_at ancestors_awaited load)
      go batch_waits q e = not_done e
      go answers_awaited q e = not_done e
      go ancestors_to_ask q e =
          let (asked, first, rest) = then_done requests (λ asked. done (called left asked (counts_at ancestors_awaited load))) e in
          let same : c ≡ called left asked (counts_at ancestors_awaited load) = cc in
          (q, ap (λ (c : Called (List (List ℕ))). c.left) same, ap (λ (c : Called (List (List ℕ))). c.counts) same)
      go ancestors_awaited q e = not_done e
      go ended q e = not_done e

  sets_done :
      (sets : List (List ℕ)) (c : Called ℕ)
      → take_ancestors t load sets ≡ done c
      → (t.turn ≡ ancestors_awaited)
      × (c.left ≡ transcript ended t.request t.first t.nodes t.answers (take (length load.asked) sets))
      × (c.counts ≡ counts_at ended load)
  sets_done sets c e = go t.turn refl e
    where
      kept : List (List ℕ)
      kept = take (length load.asked) sets

      there : Called ℕ
      there = called (transcript ended t.request t.first t.nodes t.answers kept) (length kept) (counts_at ended load)

      go :
          (turn : Turn)
          → t.turn ≡ turn
          → ◌≡◌ {A = LoadAnswer (Called ℕ)}
          (elim turn [
            | batch_waits ↦ out_of_turn
            | answers_awaited ↦ out_of_turn
            | ancestors_to_ask ↦ out_of_turn
            | ancestors_awaited ↦ summed length 0 load.sum sets then (λ sum. done there)
            | ended ↦ out_of_turn
          ])
          (done c)
          → (t.turn ≡ ancestors_awaited) × (c.left ≡ there.left) × (c.counts ≡ counts_at ended load)
      go batch_waits q e = not_done e
      go answers_awaited q e = not_done e
      go ancestors_to_ask q e = not_done e
      go ancestors_awaited q e =
          let (sum, first, rest) = then_done (summed length 0 load.sum sets) (λ sum. done there) e in
          let same : c ≡ there = cc in
          (q, ap (λ (c : Called ℕ). c.left) same, ap (λ (c : Called ℕ). c.counts) same)
      go ended q e = not_done e

  result_done :
      (c : Called (List Loaded))
      → result_of t load ≡ done c
      → (t.turn ≡ ended) × (c.left ≡ t) × (c.counts ≡ counts_at ended load)
  result_done c e = go t.turn refl e
    where
      there : Called (List Loaded)
      there = called t (with_ancestors load.asked t.sets load.slice) (counts_at ended load)

      go :
          (turn : Turn)
          → t.turn ≡ turn
          → ◌≡◌ {A = LoadAnswer (Called (List Loaded))}
          (elim turn [
            | batch_waits ↦ out_of_turn
            | answers_awaited ↦ out_of_turn
            | ancestors_to_ask ↦ out_of_turn
            | ancestors_awaited ↦ out_of_turn
            | ended ↦ done there
          ])
          (done c)
          → (t.turn ≡ ended) × (c.left ≡ t) × (c.counts ≡ counts_at ended load)
      go batch_waits q e = not_done e
      go answers_awaited q e = not_done e
      go ancestors_to_ask q e = not_done e
      go ancestors_awaited q e = not_done e
      go ended q e =
          let same : c ≡ there = cc in
          (q, ap (λ (c : Called (List Loaded)). c.left) same, ap (λ (c : Called (List Loaded)). c.counts) same)

-- A load worked out again, with one batch more answered, is the load with that batch answered.

module _ (nodes : List Row) where
  pub after_none : (left : ℕ) (load : Load) → after_answers left nodes load [] ≡ done load
  unfolding after_answers
  after_none zero load = refl
  after_none (suc left) load = refl

  -- answers that are taken are as many as rows wait
  batch_count :
      (load next : Load) (answers : List (Option Entity))
      → batch_answered nodes load answers ≡ done next
      → length answers ≡ length load.waiting
  batch_count load next answers e = by_test (eqb (length answers) (length load.waiting)) (λ t. eqb-true _ _ t) (λ t. go (rw t at e))
    where
      go : counted (length load.waiting) (length answers) ≡ done next → length answers ≡ length load.waiting
      go e = let z : ◌≡◌ {A = ℕ} 0 1 = cc in absurd (omega arith)

  after_last :
      (left : ℕ) (load next : Load) (answers : List (Option Entity))
      → 0 < length load.waiting
      → batch_answered nodes load answers ≡ done next
      → after_answers (suc left) nodes load answers ≡ done next
  unfolding after_answers
  after_last left load next answers some-wait e =
      let size = batch_count load next answers e in
      let none_left : drop (length load.waiting) answers ≡ [] = drop_of_length-le answers {i = length load.waiting} (omega (arith, size)) in
      rw (
        ne_eqb (length answers) 0 (λ z. omega (arith, size)),
        take_all (length load.waiting) answers (omega (arith, size)),
        e,
        none_left,
        after_none left next,
      )

  after_only :
      (left more : ℕ) (load last next : Load) (new : List (Option Entity))
      → after_answers left nodes load [] ≡ done last
      → 0 < length last.waiting
      → batch_answered nodes last new ≡ done next
      → after_answers (left + suc more) nodes load new ≡ done next
  after_only left more load last next new e some-wait f =
      let same : load ≡ last = done_same (sym (after_none left load) ∙ e) in
      let enough : left + suc more ≡ suc (left + more) = omega arith in
      rw (enough, same) (after_last (left + more) last next new some-wait f)

  after_more :
      (left more : ℕ) (load last next : Load) (old new : List (Option Entity))
      → after_answers left nodes load old ≡ done last
      → 0 < length last.waiting
      → batch_answered nodes last new ≡ done next
      → after_answers (left + suc more) nodes load (old ++ new) ≡ done next
  unfolding after_answers
  after_more zero more load last next [] new e some-wait f = after_only zero more load last next new e some-wait f
  after_more zero more load last next (answer ∷ old) new e some-wait f =
      let z : ◌≡◌ {A = ℕ} 0 1 = cc (rw (ne_eqb (length (answer ∷ old)) 0 (λ z. omega arith)) at e) in absurd (omega arith)
  after_more (suc left) more load last next [] new e some-wait f = after_only (suc left) more load last next new e some-wait f
  after_more (suc left) more load last next (answer ∷ old) new e some-wait f =
      let n : ℕ = length load.waiting in
      let (mid, first, rest) =
      then_done (batch_answered nodes load (take n (answer ∷ old)))
      (λ next. after_answers left nodes next (drop n (answer ∷ old)))
      (rw (ne_eqb (length (answer ∷ old)) 0 (λ z. omega arith)) at e) in
      let fits : n ≤ length (answer ∷ old) = omega (arith, batch_count load mid (take n (answer ∷ old)) first, length-take n (answer ∷ old)) in
      let enough : suc left + suc more ≡ suc (left + suc more) = omega arith in
      rw (
        enough,
        ne_eqb (length ((answer ∷ old) ++ new)) 0 (λ z. omega arith),
        take-append-le n (answer ∷ old) new fits,
        first,
        drop-append-le n (answer ∷ old) new fits,
      )
      (after_more left more mid last next (drop n (answer ∷ old)) new rest some-wait f)

-- Where a load stands: the load that its transcript works out to, and, turn by turn, what was handed out and how many ancestors calls
-- were made, of all that it makes: one with an entry, none without.

record StandsAt
    (all : ℕ) (request : Request) (nodes : List Row) (t : Transcript) (handed : List (List EntityRequest)) (calls : ℕ) (told : Counts)
    : Type 0
  where
    load : Load
    asks-for : t.request ≡ request
    of_nodes : t.nodes ≡ nodes
    works_out : worked_out t ≡ done load
    going : ordered (request.type ∷ []) nodes ≡ true → GoingLoad (request.type ∷ []) nodes load
    row_count : load.rows ≡ length load.asked
    stands : Stands all t.turn load handed calls
    told_batches : told.batches ≡ length handed
    told_rows : told.rows ≡ length (rows_handed handed)

-- what is handed out next comes behind
handed_more : (handed : List (List EntityRequest)) (rows : List EntityRequest) → rows_handed (handed ++ (rows ∷ [])) ≡ rows_handed handed ++ rows
unfolding rows_handed
handed_more [] rows = append-nil rows
handed_more (batch ∷ handed) rows = ap (λ rest. batch ++ rest) (handed_more handed rows) ∙ sym (append_assoc batch (rows_handed handed) rows)

trips_some : (rows : List EntityRequest) → 0 < length rows → trips_for rows ≡ 1
trips_some [] h = absurd (omega arith)
trips_some (row ∷ rows) h = refl

fresh : (request : Request) (nodes : List Row) (load : Load) → load_begun request nodes ≡ done load → Fresh load
fresh request nodes load e = go (batch_of (initial_entities request 0 0 nodes)) e
  where
    go :
        (o : Option (List EntityRequest))
        → ◌≡◌ {A = LoadAnswer Load}
        (elim o [
          | none ↦ refused_at 14 0
          | some rows ↦ done (record { waiting = rows; asked = []; slice = []; sum = 0; batches = 0; rows = 0 })
        ])
        (done load)
        → Fresh load
    go none e = let z : ◌≡◌ {A = ℕ} 0 1 = cc in absurd (omega arith)
    go (some rows) e =
        let same : record { waiting = rows; asked = []; slice = []; sum = 0; batches = 0; rows = 0 } ≡ load = done_same e in
        record {
          no_row = ap (λ (l : Load). l.asked) (sym same);
          no-rows = ap (λ (l : Load). l.rows) (sym same);
          no_batch = ap (λ (l : Load). l.batches) (sym same);
        }

-- at the turn that a load's rows ask for
stands_next :
    (load : Load) (handed : List (List EntityRequest))
    → HandedSo load.asked load.batches handed
    → Stands 1 (turn_for load) load handed 0
stands_next load handed h = go load.waiting refl
  where
    go :
        (waiting : List EntityRequest)
        → load.waiting ≡ waiting
        → Stands 1 (elim waiting [ [] ↦ ancestors_to_ask | row ∷ rows ↦ batch_waits ]) load handed 0
    go [] e = (e, h, refl, refl)
    go (row ∷ rows) e = (rw e (omega arith), h, refl, refl)

counts_next :
    (load : Load) → counts_at (turn_for load) load ≡ record { batches = load.batches; rows = load.rows }
counts_next load = go load.waiting
  where
    go :
        (waiting : List EntityRequest)
        → counts_at (elim waiting [ [] ↦ ancestors_to_ask | row ∷ rows ↦ batch_waits ]) load ≡ record { batches = load.batches; rows = load.rows }
    go [] = refl
    go (row ∷ rows) = refl

-- begin
first_stands :
    (request : Request) (nodes : List Row) (first : ℕ) (load : Load)
    → load_begun request nodes ≡ done load
    → StandsAt 1 request nodes (transcript (turn_for load) request first nodes [] []) [] 0 (record { batches = 0; rows = 0 })
unfolding rows_handed
first_stands request nodes first load e =
    let new : Fresh load = fresh request nodes load e in
    record {
      load = load;
      asks-for = refl;
      of_nodes = refl;
      works_out = rw e (after_none nodes 0 load);
      going = λ order. going_begun (request.type ∷ []) nodes order request load e;
      row_count = rw (new.no_row, new.no-rows);
      stands = stands_next load [] (sym new.no_row, sym new.no_batch);
      told_batches = refl;
      told_rows = refl;
    }

-- without an entry there are no nodes, and no row waits
ended_stands : (request : Request) → StandsAt 0 request [] (transcript ended request 0 [] [] []) [] 0 (record { batches = 0; rows = 0 })
unfolding rows_handed in_context at_roots batch_of after_answers
ended_stands request = record {
  load = record { waiting = []; asked = []; slice = []; sum = 0; batches = 0; rows = 0 };
  asks-for = refl;
  of_nodes = refl;
  works_out = refl;
  going = λ order. going_begun (request.type ∷ []) [] order request _ refl;
  row_count = refl;
  stands = (refl, (refl, refl), refl, omega arith);
  told_batches = refl;
  told_rows = refl;
}

-- the nodes of an entry, and how many ancestors calls a load with it makes
abbrev entry_nodes : Option Entry → List Row
entry_nodes none = []
entry_nodes (some entry) = entry.nodes

abbrev calls_for : Option Entry → ℕ
calls_for none = 0
calls_for (some entry) = 1

begun_stands :
    (manifest : List Row) (request : Request) (t : Transcript)
    → begin_load manifest request ≡ done t
    → StandsAt
    (calls_for (entry_for request.type 0 manifest)) request (entry_nodes (entry_for request.type 0 manifest)) t [] 0
    (record { batches = 0; rows = 0 })
begun_stands manifest request t e = go (entry_for request.type 0 manifest) e
  where
    go :
        (o : Option Entry)
        → ◌≡◌ {A = LoadAnswer Transcript}
        (elim o [
          | none ↦ done (transcript ended request 0 [] [] [])
          | some entry ↦
              load_begun request entry.nodes then (λ load. done (transcript (turn_for load) request entry.first entry.nodes [] []))
        ])
        (done t)
        → StandsAt (calls_for o) request (entry_nodes o) t [] 0 (record { batches = 0; rows = 0 })
    go none e =
        subst (λ t. StandsAt 0 request [] t [] 0 (record { batches = 0; rows = 0 })) (done_same e) (ended_stands request)
    go (some entry) e =
        let (load, first, rest) =
        then_done (load_begun request entry.nodes)
        (λ load. done (transcript (turn_for load) request entry.first entry.nodes [] [])) e in
        subst (λ t. StandsAt 1 request entry.nodes t [] 0 (record { batches = 0; rows = 0 })) (done_same rest)
        (first_stands request entry.nodes entry.first load first)

module _ (all : ℕ) (request : Request) (nodes : List Row) (t : Transcript) (handed : List (List EntityRequest)) (calls : ℕ) (told : Counts) where
  -- a call that hands nothing out and brings the load on by no answer
  stays :
      (h : StandsAt all request nodes t handed calls told) (turn : Turn) (sets : List (List ℕ)) (made : ℕ)
      → Stands all turn h.load handed made
      → HandedSo h.load.asked h.load.batches handed
      → StandsAt all request nodes (transcript turn t.request t.first t.nodes t.answers sets) handed made
      (record { batches = h.load.batches; rows = h.load.rows })
  stays h turn sets made now (rows, batches) = record {
    load = h.load;
    asks-for = h.asks-for;
    of_nodes = h.of_nodes;
    works_out = h.works_out;
    going = h.going;
    row_count = h.row_count;
    stands = now;
    told_batches = sym batches;
    told_rows = h.row_count ∙ ap length (sym rows);
  }

  module _ (load : Load) (h : StandsAt all request nodes t handed calls told) (worked : worked_out t ≡ done load) where
    same_load : h.load ≡ load
    same_load = done_same (sym h.works_out ∙ worked)

    hand_stands :
        (c : Called (List EntityRequest))
        → hand_batch t load ≡ done c
        → StandsAt all request nodes c.left (handed ++ (c.out ∷ [])) (calls + 0) c.counts
    hand_stands c e =
        let (turn, is) = hand_done t load c e in
        let (waits, so, none_made, one) = rw (turn, same_load) at h.stands in
        let rows : rows_handed (handed ++ (load.waiting ∷ [])) ≡ load.asked ++ load.waiting =
        handed_more handed load.waiting ∙ ap (λ asked. asked ++ load.waiting) so.0 in
        let batches : length (handed ++ (load.waiting ∷ [])) ≡ suc load.batches =
        omega (arith, so.1, length-append handed (load.waiting ∷ [])) in
        rw is (record {
          load = load;
          asks-for = h.asks-for;
          of_nodes = h.of_nodes;
          works_out = worked;
          going = rw same_load at h.going;
          row_count = rw same_load at h.row_count;
          stands = (waits, (rows, batches), omega arith, one);
          told_batches = omega (arith, batches, trips_some load.waiting waits);
          told_rows = omega (arith, ap length rows, length-append load.asked load.waiting, rw same_load at h.row_count);
        })

    -- a batch answered: the transcript with its answers works out to the load with that batch answered
    next_stands :
        (answers : List (Option Entity)) (next : Load)
        → t.turn ≡ answers_awaited
        → batch_answered t.nodes load answers ≡ done next
        → StandsAt all request nodes (answered_with t load answers next).left handed calls (answered_with t load answers next).counts
    next_stands answers next turn e =
        let (waits, so, none_made, one) = rw (turn, same_load) at h.stands in
        let now = is_answered t.nodes load answers next e in
        let same : HandedSo next.asked next.batches handed =
        (so.0 ∙ sym now.has_asked, omega (arith, so.1, now.trips, trips_some load.waiting waits)) in
        rw (counts_next next) (record {
          load = next;
          asks-for = h.asks-for;
          of_nodes = h.of_nodes;
          works_out = works_out_next waits answers next e;
          going =
              λ order.
              going_answered (request.type ∷ []) nodes order load answers next (rw same_load at (h.going order)) (rw h.of_nodes at e);
          row_count =
              omega (
                arith,
                rw same_load at h.row_count,
                now.row_count,
                ap length now.has_asked,
                length-append load.asked load.waiting,
              );
          stands = rw (none_made, one) (stands_next next handed same);
          told_batches = sym same.1;
          told_rows =
              omega (
                arith,
                rw same_load at h.row_count,
                now.row_count,
                ap length so.0,
                length-append load.asked load.waiting,
              );
        })
      where
        works_out_next :
            0 < length load.waiting
            → (answers : List (Option Entity)) (next : Load)
            → batch_answered t.nodes load answers ≡ done next
            → worked_out (transcript (turn_for next) t.request t.first t.nodes (t.answers ++ answers) []) ≡ done next
        works_out_next waits answers next e =
            let (first, is, rest) =
            then_done (load_begun t.request t.nodes)
            (λ load. after_answers (length t.answers) t.nodes load t.answers) worked in
            let count = batch_count t.nodes load next answers e in
            go first is rest (length answers) refl (omega (arith, count))
          where
            go :
                (first : Load)
                → load_begun t.request t.nodes ≡ done first
                → after_answers (length t.answers) t.nodes first t.answers ≡ done load
                → (n : ℕ)
                → length answers ≡ n
                → 0 < n
                → worked_out (transcript (turn_for next) t.request t.first t.nodes (t.answers ++ answers) []) ≡ done next
            go first is rest zero size some-n = absurd (omega arith)
            go first is rest (suc n) size some-n =
                rw (is, length-append t.answers answers, size)
                (after_more t.nodes (length t.answers) n first load next t.answers answers rest waits e)

    -- the ancestors call, its answers, and the result
    called_stands :
        {u : Transcript} {more : List (List EntityRequest)} {call : ℕ} {tells : Counts}
        → CallOf t load u more call tells
        → StandsAt all request nodes u (handed ++ more) (calls + call) tells
    called_stands (calls_batch c e) = hand_stands c e
    called_stands (calls_answer answers c e) =
        let (turn, next, taken, is) = take_done t load answers c e in
        let left : StandsAt all request nodes (answered_with t load answers next).left (handed ++ []) (calls + 0) (answered_with t load answers next).counts =
        rw (append-nil handed, add-zero calls) (next_stands answers next turn taken) in
        let P : Called (List EntityRequest) → Type 0 = λ d. StandsAt all request nodes d.left (handed ++ []) (calls + 0) d.counts in
        subst P (sym is) left
    called_stands (calls_ancestors c e) =
        let (turn, left, counts) = ask_done t load c e in
        let (none_wait, so, none_made, one) = rw turn at h.stands in
        rw (left, counts, append-nil handed, none_made, ← same_load) (stays h ancestors_awaited [] 1 (none_wait, so, refl, one) so)
    called_stands (calls_ancestors_answer sets c e) =
        let (turn, left, counts) = sets_done t load sets c e in
        let (none_wait, so, made, one) = rw turn at h.stands in
        rw (left, counts, append-nil handed, made, ← same_load)
        (stays h ended (take (length h.load.asked) sets) 1 (none_wait, so, sym one, omega (arith, one)) so)
    called_stands (calls_result c e) =
        let (turn, left, counts) = result_done t load c e in
        let (none_wait, so, made, few) = rw turn at h.stands in
        rw (left, counts, append-nil handed, add-zero calls, ← same_load) (stays h t.turn t.sets calls h.stands so)

-- The whole course.
course_stands :
    {manifest : List Row} {request : Request} {t : Transcript} {handed : List (List EntityRequest)} {calls : ℕ} {told : Counts}
    → Course manifest request t handed calls told
    → StandsAt
    (calls_for (entry_for request.type 0 manifest)) request (entry_nodes (entry_for request.type 0 manifest)) t handed calls told
course_stands (begun t e) = begun_stands _ _ t e
course_stands {manifest} {request} (goes_on {t} {u} {load} {handed} {more} {calls} {call} {told} course worked called) =
    called_stands (calls_for (entry_for request.type 0 manifest)) request (entry_nodes (entry_for request.type 0 manifest)) t handed calls told
    load (course_stands course) worked called

-- what has been handed out by now, whatever the turn
so_far :
    (all : ℕ) (turn : Turn) (load : Load) (handed : List (List EntityRequest)) (calls : ℕ)
    → Stands all turn load handed calls
    → ((rows_handed handed ≡ load.asked) ⊎ (rows_handed handed ≡ load.asked ++ load.waiting))
    × (length handed ≤ load.batches + trips_for load.waiting)
    × (calls ≤ all)
so_far all batch_waits load handed calls (waits, so, none_made, one) = (inl so.0, omega (arith, so.1), omega arith)
so_far all answers_awaited load handed calls (waits, so, none_made, one) =
    (inr so.0, omega (arith, so.1, trips_some load.waiting waits), omega arith)
so_far all ancestors_to_ask load handed calls (waits, so, none_made, one) = (inl so.0, omega (arith, so.1), omega arith)
so_far all ancestors_awaited load handed calls (waits, so, made, one) = (inl so.0, omega (arith, so.1), omega arith)
so_far all ended load handed calls (waits, so, made, few) = (inl so.0, omega (arith, so.1), omega arith)

all_made :
    (all : ℕ) (turn : Turn) (load : Load) (handed : List (List EntityRequest)) (calls : ℕ)
    → Stands all turn load handed calls
    → turn ≡ ended
    → calls ≡ all
all_made all turn load handed calls h e = let (none_wait, so, made, few) = rw e at h in made

-- the bound, by the nodes
bound_by :
    (type : ℕ) (manifest : List Row)
    → trip_bound manifest type
    ≡ record {
      rows = primaries (type ∷ []) (entry_nodes (entry_for type 0 manifest));
      batches = batch_bound (type ∷ []) (entry_nodes (entry_for type 0 manifest));
      ancestors = calls_for (entry_for type 0 manifest);
    }
unfolding trip_bound primaries batch_bound
bound_by type manifest = go (entry_for type 0 manifest)
  where
    go :
        (o : Option Entry)
        → ◌≡◌ {A = TripBound}
        (elim o [ none ↦ no_trips | some entry ↦ bound_of type entry.nodes ])
        (record { rows = primaries (type ∷ []) (entry_nodes o); batches = batch_bound (type ∷ []) (entry_nodes o); ancestors = calls_for o })
    go none = refl
    go (some entry) = refl

batches_within :
    (s : List ℕ) (nodes : List Row) (load : Load)
    → BoundedTrips s nodes load
    → load.batches + trips_for load.waiting ≤ batch_bound s nodes
unfolding batch_bound
batches_within s [] load b = let (no_batch, no_row, none_wait) = no_batches b in rw none_wait (omega (arith, no_batch))
batches_within s (row ∷ rows) load b = b.all_batches

nodes_in_order :
    (type : ℕ) (manifest : List Row) (o : Option Entry)
    → ordered [] manifest ≡ true
    → entry_for type 0 manifest ≡ o
    → ordered (type ∷ []) (entry_nodes o) ≡ true
unfolding ordered
nodes_in_order type manifest none order e = refl
nodes_in_order type manifest (some entry) order e = entry_in_order type manifest entry order e

-- What the theorems cite.
module _
    {manifest : List Row} {request : Request} {t : Transcript} {handed : List (List EntityRequest)} {calls : ℕ} {told : Counts}
    (course : Course manifest request t handed calls told)
  where
    abbrev entry : Option Entry
    entry = entry_for request.type 0 manifest

    at_last : StandsAt (calls_for entry) request (entry_nodes entry) t handed calls told
    at_last = course_stands course

    pub course_told : (told.batches ≡ length handed) × (told.rows ≡ length (rows_handed handed))
    course_told = (at_last.told_batches, at_last.told_rows)

    -- once it has ended, all ancestors calls were made
    pub course_ended : t.turn ≡ ended → calls ≡ (trip_bound manifest request.type).ancestors
    course_ended e =
        all_made (calls_for entry) t.turn at_last.load handed calls at_last.stands e
        ∙ ap (λ (b : TripBound). b.ancestors) (sym (bound_by request.type manifest))

    module _ (order : ordered [] manifest ≡ true) where
      bounds : BoundedTrips (request.type ∷ []) (entry_nodes entry) at_last.load
      bounds =
          going_bounded (request.type ∷ []) (entry_nodes entry) at_last.load
          (at_last.going (nodes_in_order request.type manifest entry order refl))

      pub course_bound : WithinBound (trip_bound manifest request.type) handed calls
      course_bound =
          let (rows, batches, few) = so_far (calls_for entry) t.turn at_last.load handed calls at_last.stands in
          rw (bound_by request.type manifest) (record {
            rows =
                ⊎_elim
                (λ e. omega (arith, ap length e, bounds.all_rows, at_last.row_count))
                (λ e.
                omega (
                  arith,
                  ap length e,
                  length-append at_last.load.asked at_last.load.waiting,
                  bounds.all_rows,
                  at_last.row_count,
                ))
                rows;
            batches = omega (arith, batches, batches_within (request.type ∷ []) (entry_nodes entry) at_last.load bounds);
            ancestors = few;
          })

      -- the rows handed out are of different nodes, all of them primary ones
      pub course_nodes :
          Distinct (nodes_asked (rows_handed handed))
          × EachOf (Primary (request.type ∷ []) (entry_nodes entry)) (nodes_asked (rows_handed handed))
      course_nodes =
          let (rows, batches, few) = so_far (calls_for entry) t.turn at_last.load handed calls at_last.stands in
          let asked = at_last.load.asked in
          let waiting = at_last.load.waiting in
          let once = rw (nodes_append asked waiting) at bounds.once in
          let primary = rw (nodes_append asked waiting) at bounds.primary in
          ⊎_elim
          (λ e. rw e (pairs_left (nodes_asked asked) (nodes_asked waiting) once, each_left (nodes_asked asked) (nodes_asked waiting) primary))
          (λ e. rw e (bounds.once, bounds.primary))
          rows

-- Any transcript: what a call on it reports.

module _ (s : List ℕ) (nodes : List Row) (order : ordered s nodes ≡ true) where
  -- a load that goes on does so after more answers
  going_answers :
      (left : ℕ) (load last : Load) (answers : List (Option Entity))
      → GoingLoad s nodes load
      → after_answers left nodes load answers ≡ done last
      → GoingLoad s nodes last
  unfolding after_answers
  going_answers zero load last [] g e = rw (done_same e) at g
  going_answers zero load last (answer ∷ answers) g e =
      let z : ◌≡◌ {A = ℕ} 0 1 = cc (rw (ne_eqb (length (answer ∷ answers)) 0 (λ z. omega arith)) at e) in absurd (omega arith)
  going_answers (suc left) load last [] g e = rw (done_same e) at g
  going_answers (suc left) load last (answer ∷ answers) g e =
      let n : ℕ = length load.waiting in
      let (next, first, rest) =
      then_done (batch_answered nodes load (take n (answer ∷ answers)))
      (λ next. after_answers left nodes next (drop n (answer ∷ answers)))
      (rw (ne_eqb (length (answer ∷ answers)) 0 (λ z. omega arith)) at e) in
      going_answers left next last (drop n (answer ∷ answers)) (going_answered s nodes order load (take n (answer ∷ answers)) next g first) rest

-- the counts of a load that goes on
counts_within :
    (type : ℕ) (nodes : List Row) (turn : Turn) (load : Load)
    → GoingLoad (type ∷ []) nodes load
    → CountsWithin (bound_of type nodes) (counts_at turn load)
counts_within type nodes turn load g = go turn
  where
    b : BoundedTrips (type ∷ []) nodes load
    b = going_bounded (type ∷ []) nodes load g

    few : load.batches + trips_for load.waiting ≤ batch_bound (type ∷ []) nodes
    few = batches_within (type ∷ []) nodes load b

    now : CountsWithin (bound_of type nodes) (record { batches = load.batches; rows = load.rows })
    now = (omega (arith, few), omega (arith, b.all_rows))

    go : (turn : Turn) → CountsWithin (bound_of type nodes) (counts_at turn load)
    go batch_waits = now
    go answers_awaited = (few, b.all_rows)
    go ancestors_to_ask = now
    go ancestors_awaited = now
    go ended = now

module _ (t : Transcript) (load : Load) (order : ordered (t.request.type ∷ []) t.nodes ≡ true) (worked : worked_out t ≡ done load) where
  worked_going : GoingLoad (t.request.type ∷ []) t.nodes load
  worked_going =
      let (first, is, rest) =
      then_done (load_begun t.request t.nodes)
      (λ load. after_answers (length t.answers) t.nodes load t.answers) worked in
      going_answers (t.request.type ∷ []) t.nodes order (length t.answers) first load t.answers
      (going_begun (t.request.type ∷ []) t.nodes order t.request first is) rest

  pub call_within :
      {u : Transcript} {more : List (List EntityRequest)} {call : ℕ} {tells : Counts}
      → CallOf t load u more call tells
      → CountsWithin (bound_of t.request.type t.nodes) tells
  call_within (calls_batch c e) =
      let P : Called (List EntityRequest) → Type 0 = λ d. CountsWithin (bound_of t.request.type t.nodes) d.counts in
      subst P (sym (hand_done t load c e).1) (counts_within t.request.type t.nodes answers_awaited load worked_going)
  call_within (calls_answer answers c e) =
      let (turn, next, taken, is) = take_done t load answers c e in
      let P : Called (List EntityRequest) → Type 0 = λ d. CountsWithin (bound_of t.request.type t.nodes) d.counts in
      subst P (sym is)
      (counts_within t.request.type t.nodes (turn_for next) next
      (going_answered (t.request.type ∷ []) t.nodes order load answers next worked_going taken))
  call_within (calls_ancestors c e) =
      rw (ask_done t load c e).2 (counts_within t.request.type t.nodes ancestors_awaited load worked_going)
  call_within (calls_ancestors_answer sets c e) =
      rw (sets_done t load sets c e).2 (counts_within t.request.type t.nodes ended load worked_going)
  call_within (calls_result c e) =
      rw (result_done t load c e).2 (counts_within t.request.type t.nodes ended load worked_going)
