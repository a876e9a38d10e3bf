-- `policy_runs::take_line` meets its contract: by what the line is, the end of the contribution or a step.
use mathlib.Core.Path.{◌≡◌, refl, sym, ap, ◌∙◌}
use mathlib.Core.Option.{none, some}
use Rattle.std.proofs.lemmas.Result.{err_from_is_err_and}
use Rattle.rules.specs.Policies.{request_in}
use Rattle.schema.specs.Items.{items_of}
use Rattle.text.specs.Answers.{number_of}
use Rattle.step_runs.specs.StepRunLaws.{held_none}
use Rattle.policy_runs.specs.PolicyRunLaws.{opened_took, opened_stopped, step_unbegun, step_took, step_stop}
use Rattle.policy_runs.proofs.take_line.Goals as goal
use Rattle.policy_runs.proofs.take_line.Goals.{In-None, In-Some}

-- what the line is
opens : (c : In-Some) → request_in c.args.line.now ≡ some c.in-Some.request
opens c = sym c.requires.opens ∙ ap number_of c.in-Some.is

other : (c : In-None) → request_in c.args.line.now ≡ none
other c = sym c.requires.opens ∙ ap number_of c.in-None.is

pub returns-in_err-close-in-Some : goal.returns-in_err-close-in-Some
returns-in_err-close-in-Some c =
    let a = c.args in
    let handed = err_from_is_err_and c.from_residual.result c.from_residual.ensures.1 in
    rw (handed.1, handed.2)
    (λ results held.
    opened_stopped (items_of a.types.now.words.now) a.line.now a.rows.now a.reading results (opens (goal.at.returns-in_err-close-in-Some c).In-Some) a.number
    ((rw c.in_err-close-in-Some.was at c.close.ensures) a.code.now results held))

pub returns-in_ok-close-in-Some : goal.returns-in_ok-close-in-Some
returns-in_ok-close-in-Some c =
    let a = c.args in
    λ results held.
    opened_took (items_of a.types.now.words.now) a.line.now a.rows.now a.reading results (opens (goal.at.returns-in_ok-close-in-Some c).In-Some)
    ((rw c.in_ok-close-in-Some.was at c.close.ensures) a.code.now results held) refl (held_none a.code.now a.tries.now c.new.result c.new.ensures)
