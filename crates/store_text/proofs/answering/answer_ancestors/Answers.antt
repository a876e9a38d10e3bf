-- `store_text::answering::answer_ancestors` meets its contract: the ids are judged by the ancestors of the entity that was found.
use mathlib.Core.List.{List}
use Rattle.rules.specs.ValueTexts.{EntityRead}
use Rattle.store_text.specs.Entities.{HoldsEntities}
use Rattle.store_text.specs.Answering.{EntityFoundAt}
use Rattle.store_text.specs.AnswerLaws.{ancestor_ids, set_written, set_absent}
use Rattle.store_text.proofs.answering.answer_ancestors.Goals as goal
use Rattle.store_text.proofs.answering.answer_ancestors.Goals.{In-Some}

-- the entity at a place has the id
stands : (c : In-Some) (es : List EntityRead) →
    let a = c.args in
    HoldsEntities a.words.now es → EntityFoundAt a.words.now a.id c.in-Some.at es
stands c es holds = rw c.in-Some.is at (c.find_entity.ensures.there es holds)

pub returns-in_default : goal.returns-in_default
returns-in_default c = λ es holds asks.
    let a = c.args in
    rw (rw c.in_default.is at (c.find_entity.ensures.there es holds)) (set_absent a.asked.now a.out.now a.to)

pub returns : goal.returns
returns c = λ es holds asks.
    let there = stands (goal.at.returns c).In-Some es holds in
    let ids = ancestor_ids c.run_end-start.ensures.0 c.run_end-end.ensures.0 there.e there.more there.here in
    rw (there.found, ← ids)
    (set_written (c.write_among-behind.ensures.1 (rw ids there.here.kept.ancestors_ascend) asks))
