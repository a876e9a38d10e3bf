-- `step_runs::answer_steps` meets its contract: what the text gives, and the contribution where one result is left.
use mathlib.Core.Path.{refl, ◌∙◌}
use Rattle.std.proofs.lemmas.Result.{err_from_is_err_and}
use Rattle.schema.specs.Items.{items_of}
use Rattle.step_runs.specs.StepRuns.{Finished}
use Rattle.step_runs.specs.ContributionLaws.{answered_stop, answered_many, answered_one}
use Rattle.step_runs.specs.StepRunLaws.{only_trie}
use Rattle.step_runs.proofs.answer_steps.Goals as goal
use Rattle.step_runs.proofs.answer_steps.Goals.{In_ok-ran}

-- the text was run to its end
finished :
    (c : In_ok-ran) → Finished (items_of c.args.types.now.words.now) c.args.text.now c.run.new.code c.run.new.tries c.in_ok-ran.ran.stack c.in_ok-ran.ran.lines
finished c = rw c.in_ok-ran.was at c.run.ensures

pub returns-in_err-ran : goal.returns-in_err-ran
returns-in_err-ran c =
    let handed = err_from_is_err_and c.from_residual.result c.from_residual.ensures.1 in
    rw (handed.1, handed.2)
    (answered_stop (items_of c.args.types.now.words.now) c.args.request c.args.text.now c.args.out.now _ _ _ _ c.in_err-ran.field-0.0 (rw c.in_err-ran.was at c.run.ensures) c.run.auto.code c.run.auto.tries)

pub returns-then-ran-ne1 : goal.returns-then-ran-ne1
returns-then-ran-ne1 c =
    rw c.at.ensures (answered_many (finished (goal.at.returns-then-ran-ne1 c).In_ok-ran) c.args.request c.args.out.now c.if-ran-ne1.true, tt)

pub write_contribution-requires : goal.write_contribution-requires
write_contribution-requires c = (only_trie (finished (goal.at.write_contribution-requires c).In_ok-ran).held c.if-ran-ne1.false, c.requires.request_bound)

pub returns : goal.returns
returns c =
    (answered_one (finished (goal.at.returns c).In_ok-ran) c.if-ran-ne1.false c.args.request c.args.out.now c.write_contribution.ensures, tt)
