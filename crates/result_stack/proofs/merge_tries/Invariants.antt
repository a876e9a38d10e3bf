use Rattle.result_stack.specs.StackLaws.{MergingTries}
use Rattle.result_stack.proofs.merge_tries.Given as goal

abbrev pub invariant-loop-i : goal.invariant-loop-i
invariant-loop-i l = MergingTries l.tries l.at l.count l.merged l.end l.i
