-- `text_cases::read_lines` is safe: each LF that is found lies between the last place and the end.
use Rattle.std.proofs.Common.{◌≤◌, ◌<◌, length, arith}
use Rattle.text.proofs.Laws.{whole_within}
use Rattle.text_cases.proofs.read_lines.Goals as goal
use Rattle.text_cases.proofs.read_lines.Goals.{In-Whole}

-- the LF that was found stands in the input
within : (c : In-Whole) → (c.loop-at.at ≤ c.in-Whole.end) × (c.in-Whole.end < length c.args.input.now)
within c = whole_within _ _ _ _ c.at.ensures c.in-Whole.is

pub overflow_add-at : goal.overflow_add-at
overflow_add-at c = omega (arith, within (goal.at.overflow_add-at c).In-Whole)

pub loop-at-smaller : goal.loop-at-smaller
loop-at-smaller c = omega (arith, within (goal.at.loop-at-smaller c).In-Whole)

pub loop-at-preserved : goal.loop-at-preserved
loop-at-preserved c = omega (arith, within (goal.at.loop-at-preserved c).In-Whole)
