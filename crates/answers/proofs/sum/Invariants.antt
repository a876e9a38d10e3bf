use Rattle.answers.specs.AnswerLaws.{SumTo}
use Rattle.answers.proofs.sum.Given as goal

abbrev pub invariant-loop-k : goal.invariant-loop-k
invariant-loop-k l = SumTo l.lent l.words l.count l.sum l.k l.at l.total
