use lib.ListN.{drop}
use mathlib.Core.Bool.{Bool}
use Rattle.values.specs.ValueWords.{value_rows_of}
use Rattle.row_walk.specs.ScanLaws.{IdsHeld}
use Rattle.row_walk.proofs.scan.holds_ids.Given as goal

abbrev pub invariant-loop-i : goal.invariant-loop-i
invariant-loop-i l =
    (held : Bool) → IdsHeld held l.depth (value_rows_of (drop l.i l.values)) → IdsHeld held l.depth (value_rows_of (drop l.from l.values))
