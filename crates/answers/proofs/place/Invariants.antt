use Rattle.answers.specs.AnswerLaws.{PlacesTo}
use Rattle.answers.proofs.place.Given as goal

abbrev pub invariant-loop-k : goal.invariant-loop-k
invariant-loop-k l = PlacesTo l.lent l.words l.count l.to l.initial.places l.k l.at l.places
