use Prim.Native.Nat.{◌+◌}
use mathlib.Core.Path.{◌≡◌}
use lib.ListN.{drop}
use Rattle.rows.specs.Sizes.{Counted}
use Rattle.union.proofs.row_size.Given as goal

abbrev pub invariant-loop-word : goal.invariant-loop-word
invariant-loop-word l =
    (l.size.entries + l.size.nodes ≡ l.word-index) × Counted l.rows (drop l.word-index l.rows) l.size.entries l.size.nodes
