use Prim.Native.Nat.{◌+◌, ◌≤◌}
use lib.ListN.{length}
use Rattle.path_tries.specs.NodeLaws.{Chained}
use Rattle.path_tries.proofs.write_chain.Given as goal

abbrev pub invariant-loop-i : goal.invariant-loop-i
invariant-loop-i l = (l.i + 1 ≤ length l.path) × Chained l.initial.out l.path l.out l.marked l.i
