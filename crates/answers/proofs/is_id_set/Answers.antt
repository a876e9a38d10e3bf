-- `answers::is_id_set` meets its contract: the words that are passed are ids that ascend, the last below `least`.
use native.Mathlib.Omega.{arith}
use mathlib.Core.Path.{refl, sym}
use Rattle.answers.specs.AnswerLaws.{ids_all, ids_low, ids_over, ids_next}
use Rattle.answers.proofs.is_id_set.Goals as goal

pub loop-id-init : goal.loop-id-init
loop-id-init c = record { inside = omega arith; left = refl }

pub returns-then-id-least : goal.returns-then-id-least
returns-then-id-least c =
    sym (ids_low c.loop-id.invariant c.loop-id-test.true c.if-id-least.true)

pub returns-then-id-ge-IDS : goal.returns-then-id-ge-IDS
returns-then-id-ge-IDS c =
    sym (ids_over c.loop-id.invariant c.loop-id-test.true c.if-id-least.false c.if-id-ge-IDS.true)

pub loop-id-preserved : goal.loop-id-preserved
loop-id-preserved c =
    ids_next c.loop-id.invariant c.loop-id-test.true c.if-id-least.false c.if-id-ge-IDS.false

pub returns : goal.returns
returns c = sym (ids_all c.loop-id.invariant c.loop-id-test.false)
