-- `ancestors::requests::compute_ancestors_requests` meets its contract: all are judged, and where none is refused all are written.
use native.Mathlib.Omega.{arith}
use mathlib.Core.Path.{refl}
use Rattle.std.proofs.lemmas.Result.{err_from_is_err_and}
use Rattle.ancestors.specs.Requests.{all_requests}
use Rattle.ancestors.specs.RequestLaws.{may_write, answered_done, answered_refused}
use Rattle.ancestors.proofs.requests.compute_ancestors_requests.Goals as goal

pub returns-in_err-judge_requests : goal.returns-in_err-judge_requests
returns-in_err-judge_requests c =
    let answer = all_requests c.args.request c.args.context.now c.args.nodes.now c.args.slice.now c.args.asked.now in
    let (_, is, same) = err_from_is_err_and c.from_residual.result c.from_residual.ensures.1 in
    rw (is, same) (answered_refused answer c.args.asked.now c.args.out.now _ (rw c.in_err-judge_requests.was at c.judge_requests.ensures) refl)

pub write_requests-requires : goal.write_requests-requires
write_requests-requires c =
    record { nodes_len_bound = (omega (arith, c.requires.nodes_len_bound.0), c.requires.nodes_len_bound.1, c.requires.nodes_len_bound.2); nodes_in_bounds = (omega (arith, c.requires.nodes_len_bound.0, c.judge_requests.auto), omega (arith, c.requires.nodes_len_bound.0, c.judge_requests.auto)); may_write = may_write _ _ _ (rw c.in_ok-judge_requests.was at c.judge_requests.ensures) c.requires.room_for }

pub returns : goal.returns
returns c =
    answered_done _ _ _ _ (rw c.in_ok-judge_requests.was at c.judge_requests.ensures) c.write_requests.ensures
