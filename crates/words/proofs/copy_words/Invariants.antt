use Rattle.words.specs.RunLaws.{Copying}
use Rattle.words.proofs.copy_words.Given as goal

abbrev pub invariant-loop-i : goal.invariant-loop-i
invariant-loop-i g l = Copying l.words l.initial.out l.to l.out l.i
