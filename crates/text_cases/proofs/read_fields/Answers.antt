-- `text_cases::read_fields` is safe: each tab that is found lies between the last place and the end.
use Rattle.std.proofs.Common.{◌≤◌, ◌<◌, length, arith}
use Rattle.text.proofs.Laws.{more_within}
use Rattle.text_cases.proofs.read_fields.Goals as goal
use Rattle.text_cases.proofs.read_fields.Goals.{In-Some}

-- the tab that was found stands in the input
within : (c : In-Some) → (c.loop-end.at ≤ c.in-Some.end) × (c.in-Some.end < length c.args.input.now)
within c = more_within _ _ _ _ c.field_end.ensures c.in-Some.is

pub overflow_add-at : goal.overflow_add-at
overflow_add-at c = omega (arith, within (goal.at.overflow_add-at c).In-Some)

pub loop-end-smaller : goal.loop-end-smaller
loop-end-smaller c = omega (arith, within (goal.at.loop-end-smaller c).In-Some)

pub loop-end-preserved : goal.loop-end-preserved
loop-end-preserved c = omega (arith, within (goal.at.loop-end-preserved c).In-Some)
