use Rattle.ancestors.specs.TakingLaws.{Putting}
use Rattle.ancestors.proofs.events.put_all.Given as goal

abbrev pub invariant-loop-i : goal.invariant-loop-i
invariant-loop-i l = Putting l.initial.more l.values l.from l.depth l.more l.i
