use mathlib.Core.Path.{◌≡◌}
use lib.ListN.{length}
use Rattle.rows.specs.States.{rows_of}
use Rattle.row_walk.specs.Initial.{request_with as request_of}
use Rattle.ancestors.specs.SliceWords.{slice_in}
use Rattle.ancestors.specs.RequestLaws.{RequestsJudged}
use Rattle.ancestors.proofs.requests.judge_requests.Given as goal

abbrev pub invariant-loop-i : goal.invariant-loop-i
invariant-loop-i l =
    (length l.rows ≡ length l.initial.rows) × (length l.found ≡ length l.initial.found)
    × RequestsJudged (request_of l.request l.context) (rows_of l.nodes) (slice_in l.slice) l.asked l.i
