-- `store_text::answering::copy_ids` meets its contract: the ids of the first i words are copied.
use native.Mathlib.Omega.{arith}
use Rattle.store_text.specs.AnswerLaws.{ids_next}
use Rattle.store_text.proofs.answering.copy_ids.Goals as goal
use Rattle.store_text.proofs.answering.copy_ids.Goals.{After-loop-i, At-loop-i}

pub loop-i-preserved : goal.loop-i-preserved
loop-i-preserved c =
    let a = c.args in (
      omega (arith, c.loop-i-test.true),
      rw c.loop-i.invariant.1 (ids_next a.words.now a.out.now a.to c.loop-i.i c.loop-i-test.true),
    )
