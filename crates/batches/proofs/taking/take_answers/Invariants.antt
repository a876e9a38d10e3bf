use mathlib.Core.Path.{◌≡◌}
use lib.ListN.{length}
use Rattle.rows.specs.States.{rows_of}
use Rattle.batches.specs.TakingLaws.{TakenSoFar}
use Rattle.batches.proofs.taking.take_answers.Given as goal

abbrev pub invariant-loop-i : goal.invariant-loop-i
invariant-loop-i l =
    TakenSoFar (rows_of l.nodes) l.words l.initial.rows l.places l.from l.to l.i l.rows l.end × (length l.scratch ≡ length l.initial.scratch)
