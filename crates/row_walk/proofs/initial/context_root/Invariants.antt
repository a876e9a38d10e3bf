use Rattle.row_walk.specs.InitialLaws.{NoContext}
use Rattle.row_walk.proofs.initial.context_root.Given as goal

abbrev pub invariant-loop-i : goal.invariant-loop-i
invariant-loop-i l = NoContext l.nodes l.depth l.from l.i
