use lib.ListN.{drop}
use mathlib.Core.Path.{◌≡◌}
use Rattle.rules.specs.Loading.{has_child}
use Rattle.rows.specs.States.{rows_of}
use Rattle.row_walk.specs.RowWalks.{child_test}
use Rattle.row_walk.proofs.scan.has_child.Given as goal

abbrev pub invariant-loop-i : goal.invariant-loop-i
invariant-loop-i l =
    has_child (child_test l.fields) l.depth (rows_of (drop l.from l.nodes)) ≡ has_child (child_test l.fields) l.depth (rows_of (drop l.i l.nodes))
