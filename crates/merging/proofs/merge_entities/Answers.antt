-- `merging::merge_entities` meets its contract: by the parents, and then what `merge_values` ensures.
use mathlib.Core.Path.{sym, ◌∙◌}
use Rattle.merging.specs.MergeLaws.{entities_apart, entities_same}
use Rattle.merging.proofs.merge_entities.Goals as goal

pub returns-then-ne : goal.returns-then-ne
returns-then-ne c =
    let a = c.args in
    entities_apart a.left_parents.now a.left.now a.right_parents.now a.right.now a.out.now a.to (sym c.ne.ensures ∙ c.if-ne.true)

pub returns : goal.returns
returns c =
    let a = c.args in
    rw (entities_same a.left_parents.now a.left.now a.right_parents.now a.right.now (sym c.ne.ensures ∙ c.if-ne.false)) c.merge_values.ensures
