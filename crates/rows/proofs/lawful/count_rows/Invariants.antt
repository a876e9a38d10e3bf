use Prim.Native.Nat.{◌≤◌}
use mathlib.Core.Path.{◌≡◌}
use lib.ListN.{length, take}
use Rattle.rows.proofs.LawfulLaws.{RowsPassed}
use Rattle.rows.proofs.lawful.count_rows.Given as goal

abbrev pub invariant-loop-word : goal.invariant-loop-word
invariant-loop-word l =
    (l.len ≤ 25) × (length l.path ≡ 25) × RowsPassed l.words (take l.len l.path) l.word-index l.size.entries l.size.nodes
