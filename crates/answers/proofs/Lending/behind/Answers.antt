-- `answers::Lending::behind` meets its contract: an answer's head has two counts, a set's is its count.
use native.Mathlib.Omega.{arith}
use Rattle.answers.proofs.Lending.behind.Goals as goal

pub overflow_add-result : goal.overflow_add-result
overflow_add-result c = rw c.from-head.ensures (omega (arith, c.ranges.word))

pub returns-in-Answers : goal.returns-in-Answers
returns-in-Answers c = rw (c.in-Answers.is, c.from-head.ensures)
