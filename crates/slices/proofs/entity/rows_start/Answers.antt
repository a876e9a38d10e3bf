-- `slices::entity::rows_start` meets its contract: the head says how many parents there are.
use native.Mathlib.Omega.{arith}
use mathlib.Core.Path.{ap}
use Rattle.answers.specs.declared.Head.{Head}
use Rattle.slices.proofs.entity.rows_start.Goals as goal

pub overflow_add-result-2 : goal.overflow_add-result-2
overflow_add-result-2 c =
    omega (
      arith,
      ap (λ (h : Head). h.parents) c.from-head.ensures,
      c.requires.fits,
      c.before.before.before.before,
    )

pub returns : goal.returns
returns c = omega (arith, ap (λ (h : Head). h.parents) c.from-head.ensures)
