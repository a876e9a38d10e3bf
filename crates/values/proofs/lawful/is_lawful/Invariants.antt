use mathlib.Core.Path.{◌≡◌}
use lib.ListN.{length}
use Rattle.values.specs.LawfulLaws.{RowsPassed}
use Rattle.values.proofs.lawful.is_lawful.Given as goal

abbrev pub invariant-loop-i : goal.invariant-loop-i
invariant-loop-i l = (length l.levels ≡ length l.initial.levels) × RowsPassed l.words l.levels l.len l.i
