use Prim.Native.Nat.{◌≤◌}
use lib.ListN.{length}
use Rattle.path_tries.specs.NodeLaws.{Lowered}
use Rattle.path_tries.proofs.write_deeper.Given as goal

abbrev pub invariant-loop-i : goal.invariant-loop-i
invariant-loop-i l = (l.i ≤ length l.rows) × Lowered l.initial.out l.rows l.out l.by l.to l.i
