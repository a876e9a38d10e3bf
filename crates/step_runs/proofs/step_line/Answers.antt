-- `step_runs::step_line` meets its contract: where there is room, the step of the line on the stack.
use mathlib.Core.Logic.{inl, inr}
use mathlib.Core.Path.{◌∙◌}
use Rattle.step_runs.specs.StepRunLaws.{held_full, read_good, line_took}
use Rattle.step_runs.proofs.step_line.Goals as goal

pub returns-then-stack-lt-CODE_ROOM : goal.returns-then-stack-lt-CODE_ROOM
returns-then-stack-lt-CODE_ROOM c =
    elim c.then-stack-lt-CODE_ROOM.either [ inl little ↦ held_full c.requires.held (inl little) | inr (large, little) ↦ held_full c.requires.held (inr little) ]

pub apply-requires-clause-step_bound : goal.apply-requires-clause-step_bound
apply-requires-clause-step_bound c = (
  c.parse-step.ensures.result_bound,
  (
    c.parse-step.auto.names ∙ c.requires.names-length,
    λ read e. read_good read c.parse-step.new.names _ (rw e at c.parse-step.ensures.names_after),
  ),
)

pub returns-in-Ok : goal.returns-in-Ok
returns-in-Ok c =
    λ results held.
    line_took c.args.types.now.words.now c.args.line.now c.args.types.now.good.good-items c.parse-step.ensures.names_after held
    ((rw c.in-Ok.is at c.apply.ensures) results held)
