-- `values_cases::ask_walk` is safe: a node finds at most one row.
use Rattle.std.proofs.Common.{rules}
use lib.ListN.{length-map}
use Rattle.rows.specs.Words.{row_in}
use Rattle.rows.specs.States.{rows_of}
use Rattle.values.specs.ValueWords.{value_rows_of}
use Rattle.row_walk.specs.YieldLaws.{remaining_yields}
use Rattle.values_cases.proofs.ask_walk.Goals as goal

pub find_remaining_entities-batch-requires-clause-values_in_bounds :
    goal.find_remaining_entities-batch-requires-clause-values_in_bounds
find_remaining_entities-batch-requires-clause-values_in_bounds c =
    let nodes = c.deref.result.now in
    let found = remaining_yields (rows_of nodes) c.from-node.result (value_rows_of c.deref-2.result.now) in
    search (rules, found, length-map nodes row_in)
