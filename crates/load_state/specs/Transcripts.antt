-- The transcript that a lent state of a load holds, and the load that it tells of.
use Rattle.std.specs.Prelude.{ℕ, ◌≤◌, ◌≡◌, Bool, cond, ◌&&◌, List, [], eqb, take, drop, get_or}
use Rattle.std.proofs.Math.Option.{Option}
use Rattle.rules.specs.Tries.{Row}
use Rattle.rules.specs.Values.{Entity}
use Rattle.rules.specs.Loading.{LoadAnswer, done, refused_at, counted, Request, Load, summed, size_of_answer}
use Rattle.rules.specs.LoadCalls.{
  Turn,
  batch_waits,
  answers_awaited,
  ancestors_to_ask,
  ancestors_awaited,
  ended,
  Transcript,
  transcript,
  worked_out,
  lawful_transcript,
}
use Rattle.rows.specs.States.{rows_of}
use Rattle.answers.specs.Answers.{lent_items}
use Rattle.answers.specs.declared.Lending.TheVariants.{Answers, Sets}
use Rattle.batches.specs.Hearings.{heard_before, AllStand}
use Rattle.batches.specs.Takes.{LoadAt}
use Rattle.batches.specs.Replays.{NoLoad}
use Rattle.load_state.specs.LoadStates.{request_of, entry_in, context_in, answer_words, set_words, good_parts}
use Rattle.load_state.specs.declared.working.Worked.{Worked}
use Rattle.std.specs.Prelude.{Option as Maybe, Some, None}

abbrev pub turn_in : ℕ → Turn
turn_in number =
    cond (eqb number 1) batch_waits
    (cond (eqb number 2) answers_awaited (cond (eqb number 3) ancestors_to_ask (cond (eqb number 4) ancestors_awaited ended)))

-- the words of an entry's nodes, and where they begin: behind the entry's own row, if there is one
abbrev pub node_words : List ℕ → List ℕ
node_words state = drop 1 (entry_in state)

abbrev pub nodes_from : ℕ → ℕ
nodes_from count = cond (eqb count 0) 9 10

abbrev pub transcript_in : List ℕ → Transcript
transcript_in state = record {
  turn = turn_in (get_or state 0 0);
  request = request_of (get_or state 1 0) (get_or state 2 0) (get_or state 3 0) (context_in state);
  first = get_or state 4 0;
  nodes = rows_of (node_words state);
  answers = lent_items Answers (get_or state 7 0) (answer_words state);
  sets = lent_items Sets (get_or state 8 0) (set_words state);
}

-- a state of a load: its parts are of their form, and its transcript tells of a load
abbrev pub lawful_load : List ℕ → Bool
lawful_load state = good_parts state && lawful_transcript (transcript_in state)

-- the load of a request with so many answers
abbrev pub worked_by : Request → List Row → List (Option Entity) → LoadAnswer Load
worked_by request nodes answers = worked_out (transcript ended request 0 nodes answers [])

-- the load that a state tells of, or 1
unfoldable pub load_in : List ℕ → LoadAnswer Load
load_in state = cond (good_parts state) (worked_out (transcript_in state)) (refused_at 1 0)

-- A load that was come to: its rows, those answered and those that wait, with the places of its answers, its batches and its sum.
pub record CameTo (words rows places : List ℕ) (count : ℕ) (nodes : List Row) (load : Load) (asked end batches sum : ℕ) : Type 0 where
  pub all_asked : asked ≡ count
  pub trips : batches ≡ load.batches
  pub total : sum ≡ load.sum
  pub few : sum ≤ 8192
  pub sums : summed size_of_answer 0 0 (lent_items Answers count words) ≡ done sum
  pub stand : AllStand words (take count places)
  pub heard : heard_before words places count ≡ lent_items Answers count words
  pub s : List ℕ
  pub at : LoadAt words rows places count end s nodes load

-- the load that answers lead to, or there is none
abbrev pub WorkedTo : LoadAnswer Load → List ℕ → List ℕ → List ℕ → ℕ → List Row → Maybe Worked → Type 0
WorkedTo answer words rows places count nodes None = NoLoad answer
WorkedTo (done load) words rows places count nodes (Some worked) =
    CameTo words rows places count nodes load worked.asked worked.end worked.batches worked.sum
WorkedTo (refused_at number place) words rows places count nodes (Some worked) = ⊥
WorkedTo (counted expected got) words rows places count nodes (Some worked) = ⊥

-- the load of a lent state, or 1 at 0 where the state is not lawful
unfoldable pub lent_load : List ℕ → LoadAnswer Load
lent_load state = cond (lawful_load state) (worked_out (transcript_in state)) (refused_at 1 0)

abbrev pub LentTo : LoadAnswer Load → List ℕ → List ℕ → List ℕ → ℕ → List Row → Maybe Worked → Type 0
LentTo answer words rows places count nodes None = answer ≡ refused_at 1 0
LentTo answer words rows places count nodes (Some worked) = WorkedTo answer words rows places count nodes (Some worked)
