use Rattle.answers.specs.AnswerLaws.{IdsTo}
use Rattle.answers.proofs.is_id_set.Given as goal

abbrev pub invariant-loop-id : goal.invariant-loop-id
invariant-loop-id l = IdsTo l.words l.id-index l.least
