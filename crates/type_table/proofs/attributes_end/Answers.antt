-- `type_table::attributes_end` meets its contract: the attributes before the place are passed.
use native.Mathlib.Omega.{arith}
use mathlib.Core.Bool.{true}
use mathlib.Core.Path.{◌≡◌, sym, ◌∙◌}
use Rattle.type_table.specs.Tables.{attribute_at}
use Rattle.type_table.specs.TypeTableLaws.{passing_none, passing_all, passing_next, attribute_inside}
use Rattle.type_table.proofs.attributes_end.Goals as goal
use Rattle.type_table.proofs.attributes_end.Goals.{In-loop-at}

-- the next word is an attribute
here : (c : In-loop-at) → attribute_at c.args.words.now c.loop-at.at ≡ true
here c = sym c.is_attribute.ensures ∙ c.loop-at-test.true

pub loop-at-init : goal.loop-at-init
loop-at-init c = passing_none _ _ c.requires

pub overflow_add-at : goal.overflow_add-at
overflow_add-at c = omega (arith, attribute_inside _ _ (here (goal.at.overflow_add-at c).In-loop-at))

pub loop-at-smaller : goal.loop-at-smaller
loop-at-smaller c = omega (arith, attribute_inside _ _ (here (goal.at.loop-at-smaller c).In-loop-at))

pub loop-at-preserved : goal.loop-at-preserved
loop-at-preserved c = passing_next c.loop-at.invariant (here (goal.at.loop-at-preserved c).In-loop-at)

pub returns : goal.returns
returns c = let passed = passing_all c.loop-at.invariant (sym c.is_attribute.ensures ∙ c.loop-at-test.false) in
    c.loop-at.invariant.count ∙ rw passed
