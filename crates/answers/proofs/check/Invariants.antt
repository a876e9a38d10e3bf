use mathlib.Core.Path.{◌≡◌}
use lib.ListN.{length}
use Rattle.answers.specs.AnswerLaws.{CheckedTo}
use Rattle.answers.proofs.check.Given as goal

abbrev pub invariant-loop-k : goal.invariant-loop-k
invariant-loop-k l = (length l.levels ≡ length l.initial.levels) × CheckedTo l.lent l.words l.count l.k l.at
