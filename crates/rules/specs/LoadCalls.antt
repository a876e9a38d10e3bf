-- Document 01, 'Port order': 'the loader trait becomes calls that hand out a batch and take answers'. What is kept between calls is the
-- transcript of the load: what was asked for, and the answers as they were given. Each call works the load out from it again.
use Rattle.std.specs.Prelude.{ℕ, zero, suc, ◌+◌, Bool, true, false, cond, ◌&&◌, List, [], ◌∷◌, ◌++◌, eqb, ltb, leb, length, take, drop}
use Rattle.std.proofs.Math.Option.{Option, none, some}
use Rattle.rules.specs.Tries.{Row, is_entry}
use Rattle.rules.specs.Values.{Entity}
use Rattle.rules.specs.Loading.{
  LoadAnswer,
  done,
  refused_at,
  counted,
  ◌then◌,
  Request,
  EntityRequest,
  Load,
  Loaded,
  load_begun,
  batch_answered,
  trips_for,
  summed,
  ancestors_requests,
  with_ancestors,
}

-- The entry of a request type: the number of its first node among all nodes of the manifest, and its nodes.
pub record Entry : Type 0 where
  pub first : ℕ
  pub nodes : List Row

-- the nodes up to the next entry
unfoldable pub nodes_ahead : List Row → List Row
nodes_ahead [] = []
nodes_ahead (row ∷ rows) = let more : List Row = row ∷ nodes_ahead rows in cond (is_entry row) [] more

-- the entry, if there is one, after so many nodes
unfoldable pub entry_for : ℕ → ℕ → List Row → Option Entry
entry_for request nodes [] = none
entry_for request nodes (row ∷ rows) =
    let next : Option Entry = entry_for request nodes rows in
    let more : Option Entry = entry_for request (suc nodes) rows in
    let here : Option Entry = some (record { first = nodes; nodes = nodes_ahead rows }) in
    cond (is_entry row) (cond (eqb row.step request) here next) more

-- Which call may come next: a batch waits, answers are awaited, ancestors are to be asked for, their answers are awaited, or the load
-- has ended.
pub data Turn : Type 0 where
  batch_waits answers_awaited ancestors_to_ask ancestors_awaited ended : Turn

-- 'Answers: one per row, an entity or absent', over all batches; and the answered ancestors, one set a request.
pub record Transcript : Type 0 where
  pub turn : Turn
  pub request : Request
  pub first : ℕ
  pub nodes : List Row
  pub answers : List (Option Entity)
  pub sets : List (List ℕ)

abbrev pub transcript : Turn → Request → ℕ → List Row → List (Option Entity) → List (List ℕ) → Transcript
transcript turn request first nodes answers sets =
    record { turn = turn; request = request; first = first; nodes = nodes; answers = answers; sets = sets }

-- The load after answers, batch by batch: as many as rows wait, again and again. Answers that are left over where no row waits, or that are
-- too few for a batch, are none of a load's; there are no more batches than answers.
unfoldable pub after_answers : ℕ → List Row → Load → List (Option Entity) → LoadAnswer Load
after_answers zero nodes load answers = cond (eqb (length answers) 0) (done load) (counted 0 (length answers))
after_answers (suc left) nodes load answers =
    let batch : List (Option Entity) = take (length load.waiting) answers in
    let more : List (Option Entity) = drop (length load.waiting) answers in
    cond (eqb (length answers) 0) (done load) (batch_answered nodes load batch then (λ next. after_answers left nodes next more))

-- the load that a transcript tells of
abbrev pub worked_out : Transcript → LoadAnswer Load
worked_out t =
    load_begun t.request t.nodes then (λ load. after_answers (length t.answers) t.nodes load t.answers)

-- 'When a batch is empty' ancestors are asked for
abbrev pub turn_for : Load → Turn
turn_for load = elim load.waiting [ [] ↦ ancestors_to_ask | row ∷ rows ↦ batch_waits ]

-- Rows wait exactly where a batch waits or its answers are awaited; there are sets only at the end, no more than requests, and they
-- were summed.
abbrev pub is_summed : LoadAnswer ℕ → Bool
is_summed (done sum) = true
is_summed (refused_at number place) = false
is_summed (counted expected got) = false

abbrev pub turn_fits : Turn → Load → List (List ℕ) → Bool
turn_fits batch_waits load sets = ltb 0 (length load.waiting) && eqb (length sets) 0
turn_fits answers_awaited load sets = ltb 0 (length load.waiting) && eqb (length sets) 0
turn_fits ancestors_to_ask load sets = eqb (length load.waiting) 0 && eqb (length sets) 0
turn_fits ancestors_awaited load sets = eqb (length load.waiting) 0 && eqb (length sets) 0
turn_fits ended load sets =
    eqb (length load.waiting) 0 && (leb (length sets) (length load.asked) && is_summed (summed length 0 load.sum sets))

-- A transcript tells of a load where working it out is not refused and its turn fits.
abbrev pub is_of_load : Transcript → LoadAnswer Load → Bool
is_of_load t (done load) = turn_fits t.turn load t.sets
is_of_load t (refused_at number place) = false
is_of_load t (counted expected got) = false

abbrev pub lawful_transcript : Transcript → Bool
lawful_transcript t = is_of_load t (worked_out t)

-- 'A load reports the batches asked and the rows asked': a batch counts once it is handed out.
pub record Counts : Type 0 where
  pub batches : ℕ
  pub rows : ℕ

abbrev pub counts_at : Turn → Load → Counts
counts_at batch_waits load = record { batches = load.batches; rows = load.rows }
counts_at answers_awaited load = record { batches = load.batches + trips_for load.waiting; rows = load.rows + length load.waiting }
counts_at ancestors_to_ask load = record { batches = load.batches; rows = load.rows }
counts_at ancestors_awaited load = record { batches = load.batches; rows = load.rows }
counts_at ended load = record { batches = load.batches; rows = load.rows }

-- What a call that is not refused leaves and hands out.
pub record Called (Out : Type 0) : Type 0 where
  pub left : Transcript
  pub out : Out
  pub counts : Counts

abbrev pub called : {Out : Type 0} → Transcript → Out → Counts → Called Out
called left out counts = record { left = left; out = out; counts = counts }

abbrev pub out_of_turn : {A : Type 0} → LoadAnswer A
out_of_turn = refused_at 16 0

-- begin: 'No entry: an empty slice, no trip.' Otherwise the first batch waits, or there is none.
abbrev pub begin_load : List Row → Request → LoadAnswer Transcript
begin_load manifest request =
    elim (entry_for request.type 0 manifest) [
      | none ↦ done (transcript ended request 0 [] [] [])
      | some entry ↦
          load_begun request entry.nodes then (λ load. done (transcript (turn_for load) request entry.first entry.nodes [] []))
    ]

-- batch: the rows that wait, each an entity and its node's number among all nodes of the manifest
abbrev pub hand_batch : Transcript → Load → LoadAnswer (Called (List EntityRequest))
hand_batch t load =
    elim t.turn [
      | batch_waits ↦
          done (called (transcript answers_awaited t.request t.first t.nodes t.answers []) load.waiting (counts_at answers_awaited load))
      | answers_awaited ↦ out_of_turn
      | ancestors_to_ask ↦ out_of_turn
      | ancestors_awaited ↦ out_of_turn
      | ended ↦ out_of_turn
    ]

-- answer: '16, 1, 12, 15, then by row 14, 13'; what the answers' own form is refused for comes before this
abbrev pub take_batch : Transcript → Load → List (Option Entity) → LoadAnswer (Called (List EntityRequest))
take_batch t load answers =
    elim t.turn [
      | batch_waits ↦ out_of_turn
      | answers_awaited ↦
          batch_answered t.nodes load answers then
          (λ next.
          done
          (called
          (transcript (turn_for next) t.request t.first t.nodes (t.answers ++ answers) [])
          next.waiting
          (counts_at (turn_for next) next)))
      | ancestors_to_ask ↦ out_of_turn
      | ancestors_awaited ↦ out_of_turn
      | ended ↦ out_of_turn
    ]

-- ancestors: 'one ancestors request per row ever asked, in asking order'
abbrev pub ask_ancestors : Transcript → Load → LoadAnswer (Called (List (List ℕ)))
ask_ancestors t load =
    elim t.turn [
      | batch_waits ↦ out_of_turn
      | answers_awaited ↦ out_of_turn
      | ancestors_to_ask ↦
          ancestors_requests t.request t.nodes load.slice 0 load.asked then
          (λ requests.
          done
          (called
          (transcript ancestors_awaited t.request t.first t.nodes t.answers [])
          requests
          (counts_at ancestors_awaited load)))
      | ancestors_awaited ↦ out_of_turn
      | ended ↦ out_of_turn
    ]

-- ancestors' answers: 15 by set, 'the answered ancestor ids are summed over the load'; 'surplus answers are passed over'
abbrev pub take_ancestors : Transcript → Load → List (List ℕ) → LoadAnswer (Called ℕ)
take_ancestors t load sets =
    elim t.turn [
      | batch_waits ↦ out_of_turn
      | answers_awaited ↦ out_of_turn
      | ancestors_to_ask ↦ out_of_turn
      | ancestors_awaited ↦
          summed length 0 load.sum sets then
          (λ sum.
          let kept : List (List ℕ) = take (length load.asked) sets in
          done (called (transcript ended t.request t.first t.nodes t.answers kept) (length kept) (counts_at ended load)))
      | ended ↦ out_of_turn
    ]

-- result: the slice with the answered ancestors, as often as it is asked for
abbrev pub result_of : Transcript → Load → LoadAnswer (Called (List Loaded))
result_of t load =
    elim t.turn [
      | batch_waits ↦ out_of_turn
      | answers_awaited ↦ out_of_turn
      | ancestors_to_ask ↦ out_of_turn
      | ancestors_awaited ↦ out_of_turn
      | ended ↦ done (called t (with_ancestors load.asked t.sets load.slice) (counts_at ended load))
    ]
