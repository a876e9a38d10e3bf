-- `ancestors::rounds::take_rows` meets its contract: the rows up to a place are taken, and the others say what the whole comes to.
use native.Mathlib.Omega.{arith}
use mathlib.Core.Path.{refl, ◌∙◌}
use Rattle.std.proofs.lemmas.Result.{err_from_is_err_and}
use Rattle.ancestors.specs.RoundLaws.{rows_last, rows_room, rows_refused, rows_next}
use Rattle.ancestors.proofs.rounds.take_rows.Goals as goal

pub loop-word-init : goal.loop-word-init
loop-word-init c = record { is_set = c.requires.set.0; same = refl; room = omega (arith, c.requires.rows_in_bounds); sofar = λ place. refl }

pub take_row-requires : goal.take_row-requires
take_row-requires c =
    record { set = (c.loop-word.invariant.is_set, c.requires.set.1); row_in_bounds = rows_room _ _ c.loop-word.invariant c.loop-word-test.true }

pub shape_of-out-in_err-taken : goal.shape_of-out-in_err-taken
shape_of-out-in_err-taken c = c.take_row.auto.out ∙ c.loop-word.invariant.same

pub returns-in_err-taken : goal.returns-in_err-taken
returns-in_err-taken c =
    let (_, is, same) = err_from_is_err_and c.from_residual.result c.from_residual.ensures.1 in
    rw (is, same) (rows_refused _ _ c.loop-word.invariant c.loop-word-test.true c.take_row.ensures c.in_err-taken.was)

pub loop-word-preserved : goal.loop-word-preserved
loop-word-preserved c =
    rows_next _ _ c.loop-word.invariant c.loop-word-test.true c.take_row.ensures c.in_ok-taken.was
    c.take_row.auto.out

pub shape_of-out : goal.shape_of-out
shape_of-out c = c.loop-word.invariant.same

pub returns : goal.returns
returns c = rows_last _ _ c.loop-word.invariant c.loop-word-test.false
