use Rattle.std.proofs.Common.{◌-◌, ◌≤◌, length}
use Rattle.text_cases.proofs.read_fields.Given as goal

abbrev pub invariant-loop-end : goal.invariant-loop-end
invariant-loop-end l = l.at ≤ length l.input

abbrev pub decreases-loop-end : goal.decreases-loop-end
decreases-loop-end l = length l.input - l.at
