-- `ancestors::rounds::compute_ancestors_request` meets its contract: what is met first behind the row's node, and then the rounds.
use native.Mathlib.Omega.{arith}
use mathlib.Core.Path.{sym}
use Rattle.row_walk.specs.Initial.{request_with as request_of}
use Rattle.std.proofs.lemmas.Result.{err_from_is_err_and}
use Rattle.ancestors.specs.SliceWords.{slice_in}
use Rattle.ancestors.specs.TakingLaws.{takes_set, takes_within}
use Rattle.ancestors.specs.RoundLaws.{request_past, first_few, request_refused, request_waits, request_then}
use Rattle.ancestors.proofs.rounds.compute_ancestors_request.Goals as goal

pub returns-then-nodes-node : goal.returns-then-nodes-node
returns-then-nodes-node c =
    rw (sym c.from-node.ensures.1)
    (request_past c.args.nodes.now (slice_in c.args.slice.now) (request_of c.args.request c.args.context.now) (record { id = c.from-node.result.id; node = c.from-node.result.node }) _ c.new-set.ensures c.if-nodes-node.true)

pub take_initial-requires : goal.take_initial-requires
take_initial-requires c =
    let few = first_few c.args.nodes.now (slice_in c.args.slice.now) (request_of c.args.request c.args.context.now) (record { id = c.from-node.result.id; node = c.from-node.result.node }) _ c.new-set.ensures c.if-nodes-node.false _ c.depth.ensures in
    record { set = c.new-set.ensures.is_set; nodes_len_bound = c.requires.nodes_len_bound; nodes_in_bounds = omega (arith, few, c.requires.nodes_in_bounds.0) }

pub returns-in_err-taken : goal.returns-in_err-taken
returns-in_err-taken c =
    let (_, is, same) = err_from_is_err_and c.from_residual.result c.from_residual.ensures.1 in
    rw (is, same, sym c.from-node.ensures.1)
    (request_refused c.args.nodes.now (slice_in c.args.slice.now) (request_of c.args.request c.args.context.now) (record { id = c.from-node.result.id; node = c.from-node.result.node }) _ c.new-set.ensures c.if-nodes-node.false _ c.depth.ensures
    c.args.rows.now c.take_initial.ensures c.in_err-taken.was)

pub take_batches-requires : goal.take_batches-requires
take_batches-requires c =
    let waits = request_waits c.args.nodes.now (slice_in c.args.slice.now) (request_of c.args.request c.args.context.now) (record { id = c.from-node.result.id; node = c.from-node.result.node }) _ c.new-set.ensures c.if-nodes-node.false _ c.depth.ensures
    c.args.rows.now c.take_initial.ensures c.in_ok-taken.was in
    record { set = (takes_set c.take_initial.ensures c.in_ok-taken.was, takes_within c.take_initial.ensures c.in_ok-taken.was, c.requires.nodes_len_bound.0); nodes_in_bounds = (omega (arith, c.requires.nodes_in_bounds.0, c.take_initial.auto.out), c.requires.nodes_in_bounds.1); waits = waits }

pub returns : goal.returns
returns c =
    rw (sym c.from-node.ensures.1)
    (request_then c.args.nodes.now (slice_in c.args.slice.now) (request_of c.args.request c.args.context.now) (record { id = c.from-node.result.id; node = c.from-node.result.node }) _ c.new-set.ensures c.if-nodes-node.false _ c.depth.ensures
    c.args.rows.now c.take_initial.ensures c.in_ok-taken.was c.take_batches.ensures)
