-- `ancestors::initial::take_initial` meets its contract: what the context root's children meet, and then the other roots.
use native.Mathlib.Omega.{arith}
use Prim.Native.Nat.{◌+◌, ◌≤◌}
use mathlib.Core.List.{[]}
use lib.ListN.{length, drop}
use Rattle.rules.specs.Loading.{at_roots}
use Rattle.rows.specs.States.{rows_of}
use Rattle.row_walk.specs.Initial.{request_with}
use Rattle.row_walk.specs.Batches.{yields}
use Rattle.std.proofs.lemmas.Result.{err_from_is_err_and}
use Rattle.ancestors.specs.TakingLaws.{takes_set, takes_end}
use Rattle.ancestors.specs.InitialLaws.{initial_room, initial_refused, initial_then, roots_takes}
use Rattle.ancestors.proofs.initial.take_initial.Goals as goal
use Rattle.ancestors.proofs.initial.take_initial.Goals.{After-ask_roots-arg-1}

pub take_remaining-requires : goal.take_remaining-requires
take_remaining-requires c =
    (c.requires.set, c.requires.nodes_len_bound.0, omega (arith, c.requires.nodes_in_bounds, initial_room _ _ _ c.args.request c.args.context.now _ c.context_root-root.ensures))

pub returns-in_err-taken : goal.returns-in_err-taken
returns-in_err-taken c =
    let (_, is, same) = err_from_is_err_and c.from_residual.result c.from_residual.ensures.1 in
    rw (is, same)
    (initial_refused _ _ _ c.args.request c.args.context.now _ c.context_root-root.ensures _ c.take_remaining.ensures c.in_err-taken.was)

-- there is room for the roots behind what is found in the context
room : (c : After-ask_roots-arg-1) →
    c.in_ok-taken.taken.end + yields (at_roots (request_with c.args.request []) c.args.depth c.args.from (rows_of (drop c.args.from c.args.nodes.now)))
    ≤ length c.take_remaining.new.out
room c =
    omega (
      arith,
      c.requires.nodes_in_bounds,
      initial_room _ _ _ c.args.request c.args.context.now _ c.context_root-root.ensures,
      takes_end _ c.args.set c.args.out.now c.args.to c.take_remaining.ensures c.in_ok-taken.was (omega (arith, c.requires.nodes_in_bounds)),
      c.take_remaining.auto.out,
    )

pub ask_roots-end-requires : goal.ask_roots-end-requires
ask_roots-end-requires c = record { nodes_len_bound = c.requires.nodes_len_bound; nodes_in_bounds = room (goal.at.ask_roots-end-requires c).After-ask_roots-arg-1 }

pub returns : goal.returns
returns c =
    initial_then _ _ _ c.args.request c.args.context.now _ c.context_root-root.ensures _ c.take_remaining.ensures c.in_ok-taken.was
    (roots_takes (request_with c.args.request []) c.args.depth c.args.from (rows_of (drop c.args.from c.args.nodes.now)) _ _ _ _ _
    c.requires.nodes_len_bound.1 c.requires.nodes_len_bound.2 (takes_set c.take_remaining.ensures c.in_ok-taken.was) (room (goal.at.returns c).After-ask_roots-arg-1) c.ask_roots-end.ensures)
