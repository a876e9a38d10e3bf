use mathlib.Core.Path.{◌≡◌}
use lib.ListN.{length}
use Rattle.value_text.specs.RowLaws.{Ordering}
use Rattle.value_text.proofs.rows.first_misplaced.Given as goal

abbrev pub invariant-loop-i : goal.invariant-loop-i
invariant-loop-i l = (length l.levels ≡ length l.initial.levels) × Ordering l.words l.levels l.least l.i
