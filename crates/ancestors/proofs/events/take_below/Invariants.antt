use Prim.Native.Nat.{◌-◌}
use lib.ListN.{length}
use Rattle.ancestors.specs.TakingLaws.{TakingBelow}
use Rattle.ancestors.proofs.events.take_below.Given as goal

abbrev pub invariant-loop-meeting : goal.invariant-loop-meeting
invariant-loop-meeting l =
    TakingBelow l.nodes l.values l.depth l.from l.initial.more l.initial.out l.to l.out l.kept l.len l.more l.i l.at

abbrev pub decreases-loop-meeting : goal.decreases-loop-meeting
decreases-loop-meeting l = length l.nodes - l.i
