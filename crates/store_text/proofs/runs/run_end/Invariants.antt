use Prim.Native.Nat.{◌+◌, ◌≤◌}
use mathlib.Core.Path.{◌≡◌}
use lib.ListN.{length, drop}
use Rattle.store_text.specs.Runs.{part_number, run_of}
use Rattle.store_text.proofs.runs.run_end.Given as goal

abbrev pub invariant-loop-i : goal.invariant-loop-i
invariant-loop-i l = (l.i ≤ length l.words) × (l.at + run_of (part_number l.part) (drop l.at l.words) ≡ l.i + run_of (part_number l.part) (drop l.i l.words))
