-- `step_lines::step_with` meets its contract: a number that was read is an id.
use native.Mathlib.Omega.{arith}
use Rattle.text.proofs.Laws.{value_most}
use Rattle.step_lines.proofs.step_with.Goals as goal

pub overflow_add-result : goal.overflow_add-result
overflow_add-result c = omega (arith, value_most _ _ _ c.read_decimal.ensures c.in_ok-number.was)
