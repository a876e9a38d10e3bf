use Rattle.words.specs.RunLaws.{Copying}
use Rattle.wrap_steps.proofs.copy_names.Given as goal

abbrev pub invariant-loop-i : goal.invariant-loop-i
invariant-loop-i l = Copying l.names l.initial.out l.to l.out l.i
