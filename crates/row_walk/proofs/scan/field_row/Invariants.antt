use lib.ListN.{drop}
use mathlib.Core.Path.{◌≡◌}
use Rattle.rules.specs.WalkRows.{field_row}
use Rattle.values.specs.ValueWords.{value_rows_of}
use Rattle.row_walk.proofs.scan.field_row.Given as goal

abbrev pub invariant-loop-i : goal.invariant-loop-i
invariant-loop-i l =
    field_row l.depth l.f (value_rows_of (drop l.from l.values)) ≡ field_row l.depth l.f (value_rows_of (drop l.i l.values))
