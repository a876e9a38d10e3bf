-- `row_walk::initial::initial_entities_to_load` meets its contract: the context's rows, and then the roots'.
use native.Mathlib.Omega.{arith}
use Prim.Native.Nat.{◌+◌, ◌≤◌}
use mathlib.Core.List.{[]}
use mathlib.Core.Path.{◌≡◌, ◌∙◌}
use lib.ListN.{length, drop}
use Rattle.rules.specs.Loading.{at_roots, batch_of}
use Rattle.rules.specs.WalkRows.{in_context_rows}
use Rattle.rows.specs.States.{rows_of}
use Rattle.values.specs.ValueWords.{value_rows_of}
use Rattle.row_walk.specs.Batches.{yields, BatchWritten}
use Rattle.row_walk.specs.Initial.{request_with}
use Rattle.row_walk.specs.YieldLaws.{yields_append}
use Rattle.row_walk.specs.InitialLaws.{written_bad, written_end, written_both, initial_rows}
use Rattle.std.specs.Prelude.{Some, None}
use Rattle.row_walk.proofs.initial.initial_entities_to_load.Goals as goal
use Rattle.row_walk.proofs.initial.initial_entities_to_load.Goals.{In_ok-end, Start}

room : (s : Start) → s.args.to + (yields (in_context_rows (value_rows_of s.args.context.now) s.args.depth s.args.from (rows_of (drop s.args.from s.args.nodes.now))) + yields (at_roots (request_with s.args.request []) s.args.depth s.args.from (rows_of (drop s.args.from s.args.nodes.now)))) ≤ length s.args.out.now
room s =
    rw (initial_rows s.args.request s.args.context.now s.args.depth s.args.from (rows_of (drop s.args.from s.args.nodes.now)), yields_append (in_context_rows (value_rows_of s.args.context.now) s.args.depth s.args.from (rows_of (drop s.args.from s.args.nodes.now))) (at_roots (request_with s.args.request []) s.args.depth s.args.from (rows_of (drop s.args.from s.args.nodes.now)))) at s.requires.nodes_in_bounds

pub find_remaining_entities_context-requires : goal.find_remaining_entities_context-requires
find_remaining_entities_context-requires c = record { nodes_len_bound = c.requires.nodes_len_bound.0; nodes_in_bounds = omega (arith, room (goal.at.find_remaining_entities_context-requires c).Start) }

pub shape_of-out-in_err-end : goal.shape_of-out-in_err-end
shape_of-out-in_err-end c = c.find_remaining_entities_context.auto.out

pub returns-in_err-end : goal.returns-in_err-end
returns-in_err-end c =
    let stopped : BatchWritten c.args.out.now c.args.to c.find_remaining_entities_context.new.out (batch_of (in_context_rows (value_rows_of c.args.context.now) c.args.depth c.args.from (rows_of (drop c.args.from c.args.nodes.now)))) None =
    rw c.in_err-end.was at c.find_remaining_entities_context.ensures in
    rw (c.from_residual.ensures, initial_rows c.args.request c.args.context.now c.args.depth c.args.from (rows_of (drop c.args.from c.args.nodes.now)))
    (written_bad (in_context_rows (value_rows_of c.args.context.now) c.args.depth c.args.from (rows_of (drop c.args.from c.args.nodes.now))) (at_roots (request_with c.args.request []) c.args.depth c.args.from (rows_of (drop c.args.from c.args.nodes.now))) c.args.out.now c.args.to c.find_remaining_entities_context.new.out stopped)

-- the context's rows are written
written : (c : In_ok-end) →
    BatchWritten c.args.out.now c.args.to c.find_remaining_entities_context.new.out (batch_of (in_context_rows (value_rows_of c.args.context.now) c.args.depth c.args.from (rows_of (drop c.args.from c.args.nodes.now)))) (Some c.in_ok-end.end)
written c = rw c.in_ok-end.was at c.find_remaining_entities_context.ensures

after : (c : In_ok-end) →
    (c.in_ok-end.end ≡ c.args.to + yields (in_context_rows (value_rows_of c.args.context.now) c.args.depth c.args.from (rows_of (drop c.args.from c.args.nodes.now)))) × (length c.find_remaining_entities_context.new.out ≡ length c.args.out.now)
after c =
    written_end (in_context_rows (value_rows_of c.args.context.now) c.args.depth c.args.from (rows_of (drop c.args.from c.args.nodes.now))) (at_roots (request_with c.args.request []) c.args.depth c.args.from (rows_of (drop c.args.from c.args.nodes.now))) c.args.out.now c.args.to c.find_remaining_entities_context.new.out c.in_ok-end.end (written c)

pub ask_roots-requires : goal.ask_roots-requires
ask_roots-requires c = record { nodes_len_bound = c.requires.nodes_len_bound; nodes_in_bounds = omega (arith, room (goal.at.ask_roots-requires c).Start, after (goal.at.ask_roots-requires c).In_ok-end) }

pub shape_of-out : goal.shape_of-out
shape_of-out c = c.ask_roots.auto.out ∙ (after (goal.at.shape_of-out c).In_ok-end).1

pub returns : goal.returns
returns c =
    rw (initial_rows c.args.request c.args.context.now c.args.depth c.args.from (rows_of (drop c.args.from c.args.nodes.now)))
    (written_both (in_context_rows (value_rows_of c.args.context.now) c.args.depth c.args.from (rows_of (drop c.args.from c.args.nodes.now))) (at_roots (request_with c.args.request []) c.args.depth c.args.from (rows_of (drop c.args.from c.args.nodes.now))) c.args.out.now c.args.to c.find_remaining_entities_context.new.out
    c.in_ok-end.end c.ask_roots.new.out c.ask_roots.result (written (goal.at.returns c).In_ok-end) c.ask_roots.ensures)
