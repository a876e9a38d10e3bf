use Prim.Native.Nat.{ℕ, ◌-◌}
use mathlib.Core.List.{List}
use Rattle.rules.specs.Loading.{LoadAnswer, Load}
use Rattle.rules.specs.LoadCalls.{after_answers}
use Rattle.batches.specs.Hearings.{asked_before, heard_before}
use Rattle.batches.specs.Replays.{first_load}
use mathlib.Core.Path.{◌≡◌}
use lib.ListN.{length}
use Rattle.rows.specs.States.{rows_of}
use Rattle.batches.specs.ReplayLaws.{Replaying}
use Rattle.batches.proofs.replaying.replay.Given as goal

-- where all answers lead
abbrev pub whole : List ℕ → List ℕ → List ℕ → List ℕ → ℕ → ℕ → LoadAnswer Load
whole nodes words rows places first count =
    after_answers count (rows_of nodes) (first_load (asked_before rows first)) (heard_before words places count)

abbrev pub invariant-loop-asked : goal.invariant-loop-asked
invariant-loop-asked l =
    Replaying (rows_of l.nodes) l.words l.places l.count (whole l.nodes l.words l.initial.rows l.places l.first l.count) l.rows l.asked l.end l.batches
    × ((length l.rows ≡ length l.initial.rows) × (length l.scratch ≡ length l.initial.scratch))

abbrev pub decreases-loop-asked : goal.decreases-loop-asked
decreases-loop-asked l = l.count - l.asked
