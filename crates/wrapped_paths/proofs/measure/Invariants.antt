use Prim.Native.Nat.{◌-◌}
use lib.ListN.{length}
use Rattle.wrapped_paths.specs.CodeLaws.{Measuring}
use Rattle.wrapped_paths.proofs.measure.Given as goal

abbrev pub invariant-loop-left : goal.invariant-loop-left
invariant-loop-left l = Measuring l.code l.at l.count l.from l.left l.nodes

abbrev pub decreases-loop-left : goal.decreases-loop-left
decreases-loop-left l = length l.code - l.from
