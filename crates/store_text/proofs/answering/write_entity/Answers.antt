-- `store_text::answering::write_entity` meets its contract: the runs of an entity's words are its parents, its ancestors and its rows.
use mathlib.Core.Path.{refl}
use Rattle.store_text.specs.AnswerLaws.{entity_full, entity_written}
use Rattle.store_text.specs.OrderLaws.{Parts}
use Rattle.store_text.proofs.answering.write_entity.Goals as goal
use Rattle.store_text.proofs.answering.write_entity.Goals.{After-run_end-end}

-- where the parts of the entity end
parts : (c : After-run_end-end) →
    Parts c.args.words.now c.args.at c.run_end-ancestors.result c.run_end-rows.result c.run_end-end.result
parts c = record {
  more = c.requires.0;
  parents = c.run_end-ancestors.ensures.0;
  ancestors = c.run_end-rows.ensures.0;
  rows = c.run_end-end.ensures.0;
}

pub returns-then-out-to : goal.returns-then-out-to
returns-then-out-to c =
    λ e more here. (entity_full (parts (goal.at.returns-then-out-to c).After-run_end-end) c.args.out.now c.args.to c.if-out-to.true e more here, refl)

pub returns : goal.returns
returns c =
    entity_written (parts (goal.at.returns c).After-run_end-end) c.copy_ids-behind.ensures c.copy_words.ensures
