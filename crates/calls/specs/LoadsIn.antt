-- The calls of a load on lent buffers, one after the other: the states that they leave, and what they report.
use Rattle.std.specs.Prelude.{ℕ, ◌≡◌, List, get_or}
use Rattle.rules.specs.Trips.{TripBound, bound_of, CountsWithin}
use Rattle.rows.specs.States.{rows_of}
use Rattle.load_state.specs.Transcripts.{node_words}
use Rattle.load_state.specs.declared.LoadCounts.{LoadCounts}
use Rattle.load_state.specs.declared.LoadRefusal.{LoadRefusal}
use Rattle.load_state.specs.declared.LoadRefusal.TheVariants.{Refused as RefusedAt, Counted as CountedBy}
use Rattle.std.specs.Prelude.{Ok, Err}
use Rattle.load_state.specs.LoadReplies.{LoadReply, Done, Refused, Counted}
use Rattle.load_begin.specs.Begins.{begin_in}
use Rattle.load_batch.specs.Handing.{batch_in}
use Rattle.loader.specs.Calls.{answer_in}
use Rattle.load_ancestors.specs.Asking.{ancestors_in}
use Rattle.load_ends.specs.Ends.{ancestors_answer_in, result_in}

-- The states of a load for a request type of a lent manifest: what begin leaves where it is not refused, and what any call leaves, whatever
-- it is lent and whether it is refused or not.
pub data StateOf (manifest : List ℕ) (type : ℕ) : List ℕ → Type 0 where
  begin_called :
      (principal resource : ℕ) (context state : List ℕ) (count batches rows : ℕ)
      → (begin_in manifest type principal resource context state).reply ≡ Done count batches rows
      → StateOf manifest type (begin_in manifest type principal resource context state).buffer
  batch_called : {state : List ℕ} (out : List ℕ) → StateOf manifest type state → StateOf manifest type (batch_in state out).state
  answer_called : {state : List ℕ} (answers : List ℕ) → StateOf manifest type state → StateOf manifest type (answer_in state answers).buffer
  ancestors_called : {state : List ℕ} (out : List ℕ) → StateOf manifest type state → StateOf manifest type (ancestors_in state out).state
  ancestors_answer_called :
      {state : List ℕ} (sets : List ℕ) → StateOf manifest type state → StateOf manifest type (ancestors_answer_in state sets).buffer

-- the bound of the entry that a load's state holds, by its request type and its nodes
abbrev pub bound_in : List ℕ → TripBound
bound_in state = bound_of (get_or state 1 0) (rows_of (node_words state))

-- a reply that is no refusal reports batches and rows within a bound
abbrev pub ReportsWithin : TripBound → LoadReply → Type 0
ReportsWithin bound (Ok counts) = CountsWithin bound (record { batches = counts.batches; rows = counts.rows })
ReportsWithin bound (Err (RefusedAt refusal)) = Unit
ReportsWithin bound (Err (CountedBy expected got)) = Unit

-- No call on a state, whatever it is lent, reports more than a bound.
pub record CallsWithin (state : List ℕ) (bound : TripBound) : Type 0 where
  pub batch : (out : List ℕ) → ReportsWithin bound (batch_in state out).reply
  pub answer : (answers : List ℕ) → ReportsWithin bound (answer_in state answers).reply
  pub ancestors : (out : List ℕ) → ReportsWithin bound (ancestors_in state out).reply
  pub ancestors_answer : (sets : List ℕ) → ReportsWithin bound (ancestors_answer_in state sets).reply
  pub result : (out : List ℕ) → ReportsWithin bound (result_in state out).reply

-- the two numbers that calls report
pub record SameTrips (a b : TripBound) : Type 0 where
  pub rows : a.rows ≡ b.rows
  pub batches : a.batches ≡ b.batches
