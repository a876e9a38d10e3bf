-- `slices::entity::rows_end` meets its contract: the head says how many rows there are.
use native.Mathlib.Omega.{arith}
use mathlib.Core.Path.{ap}
use Rattle.answers.specs.declared.Head.{Head}
use Rattle.slices.proofs.entity.rows_end.Goals as goal

pub overflow_add-result : goal.overflow_add-result
overflow_add-result c =
    omega (
      arith,
      ap (λ (h : Head). h.rows) c.from-head.ensures,
      c.rows_start.ensures,
      c.requires.fits,
      c.before.before.before.before.before,
    )

pub returns : goal.returns
returns c = omega (arith, ap (λ (h : Head). h.rows) c.from-head.ensures, c.rows_start.ensures)
