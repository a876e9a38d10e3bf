use Prim.Native.Nat.{◌-◌}
use lib.ListN.{length}
use Rattle.row_walk.specs.BatchLaws.{Gathering}
use Rattle.row_walk.proofs.batch.batch_below.Given as goal

abbrev pub invariant-loop-meeting : goal.invariant-loop-meeting
invariant-loop-meeting l = Gathering l.nodes l.values l.depth l.from l.initial.out l.to l.out l.kept l.len l.i l.at

abbrev pub decreases-loop-meeting : goal.decreases-loop-meeting
decreases-loop-meeting l = length l.nodes - l.i
