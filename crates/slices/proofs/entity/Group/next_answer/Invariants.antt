use Rattle.slices.specs.Keys.{places_of}
use Rattle.slices.specs.HeardLaws.{Passed}
use Rattle.slices.proofs.entity.Group.next_answer.Given as goal

abbrev pub invariant-loop-k : goal.invariant-loop-k
invariant-loop-k l = Passed l.self.words.now l.self.keys.now (places_of l.self.places.now l.self.keys.now) l.self.entity l.from l.k
