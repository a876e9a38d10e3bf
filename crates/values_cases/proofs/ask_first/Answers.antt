-- `values_cases::ask_first` is safe: a node finds at most one row.
use Rattle.std.proofs.Common.{rules}
use lib.ListN.{drop, length-drop, length-map}
use Rattle.rows.specs.Words.{row_in}
use Rattle.rows.specs.States.{rows_of}
use Rattle.row_walk.specs.YieldLaws.{below_length}
use Rattle.row_walk.specs.InitialLaws.{initial_yields}
use Rattle.values_cases.proofs.ask_first.Goals as goal

pub initial_entities_to_load-batch-requires-clause-nodes_in_bounds :
    goal.initial_entities_to_load-batch-requires-clause-nodes_in_bounds
initial_entities_to_load-batch-requires-clause-nodes_in_bounds c =
    let left = drop c.from-from.result c.deref.result.now in
    let found = initial_yields c.request.result c.deref-2.result.now c.from-depth.result c.from-from.result (rows_of left) in
    let room = below_length c.from-depth.result (rows_of left) in
    search (rules, found, room, length-map left row_in, length-drop c.from-from.result c.deref.result.now)
