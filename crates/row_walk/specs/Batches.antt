-- A batch as words, and what writing it leaves.
use Rattle.std.specs.Prelude.{ℕ, suc, ◌≡◌, List, [], ◌∷◌, map, length, take, drop}
use Rattle.std.specs.Prelude.{Option as Maybe, Some, None}
use Rattle.std.proofs.Math.Option.{Option, none, some}
use Rattle.rules.specs.Loading.{EntityRequest, Event, yielded, ancestor, bad}
use Rattle.rules.specs.WalkRows.{walk_rows}
use Rattle.rows.specs.States.{rows_of}
use Rattle.values.specs.ValueWords.{value_rows_of, request_word}
use Rattle.words.specs.Runs.{Wrote}

-- what the rows below a depth meet, from a row on, looked up among the words of values
abbrev pub met_below : List ℕ → ℕ → ℕ → List ℕ → List Event
met_below nodes depth from values = walk_rows depth (some (value_rows_of values) ∷ []) from (rows_of (drop from nodes))

-- how many rows are met
unfoldable pub yields : List Event → ℕ
yields [] = 0
yields (yielded row ∷ events) = suc (yields events)
yields (ancestor e ∷ events) = yields events
yields (bad ∷ events) = yields events

-- The rows of a batch are written from a place on, and the place after them is answered; where there is no batch (14), nothing is, and what
-- stands before that place stays.
abbrev pub BatchWritten : List ℕ → ℕ → List ℕ → Option (List EntityRequest) → Maybe ℕ → Type 0
BatchWritten out to out' (some rows) (Some end) = Wrote out to (map request_word rows) out' end
BatchWritten out to out' (some rows) None = ⊥
BatchWritten out to out' none (Some end) = ⊥
BatchWritten out to out' none None = (take to out' ≡ take to out) × (length out' ≡ length out)
