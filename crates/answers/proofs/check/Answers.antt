-- `answers::check` meets its contract: the first k are of their form, and the next stands at `at`.
use Prim.Native.Nat.{◌+◌}
use native.Mathlib.Omega.{arith}
use mathlib.Core.Path.{refl, sym, ◌∙◌}
use Rattle.answers.specs.AnswerLaws.{CheckedTo, checked_none, checked_all, checked_wrong, checked_next, scratch_part}
use Rattle.answers.proofs.check.Goals as goal
use Rattle.answers.proofs.check.Goals.{In-Some}

pub loop-k-init : goal.loop-k-init
loop-k-init c = (refl, checked_none _ _ _)

pub front-requires : goal.front-requires
front-requires c =
    scratch_part c.args.lent c.args.words.now c.args.levels.now _ c.loop-k.at c.requires c.loop-k.invariant.0

pub shape_of-levels-in_default : goal.shape_of-levels-in_default
shape_of-levels-in_default c = c.front.auto.levels ∙ c.loop-k.invariant.0

pub returns-in_default : goal.returns-in_default
returns-in_default c =
    sym (checked_wrong c.loop-k.invariant.1 c.loop-k-test.true (sym c.front.ensures ∙ c.in_default.is))

-- the next is of its form, and those behind it decide
onward :
    (c : In-Some) →
    let args = c.args in
    CheckedTo args.lent args.words.now args.count (c.loop-k.k + 1) (c.loop-k.at + c.in-Some.size)
onward c =
    checked_next c.loop-k.invariant.1 c.loop-k-test.true (sym c.front.ensures ∙ c.in-Some.is)

pub overflow_add-at : goal.overflow_add-at
overflow_add-at c =
    let next = onward (goal.at.overflow_add-at c).In-Some in
    omega (arith, next.inside, c.well_formed)

pub loop-k-preserved : goal.loop-k-preserved
loop-k-preserved c =
    (c.front.auto.levels ∙ c.loop-k.invariant.0, onward (goal.at.loop-k-preserved c).In-Some)

pub shape_of-levels : goal.shape_of-levels
shape_of-levels c = c.loop-k.invariant.0

pub returns : goal.returns
returns c = sym (checked_all c.loop-k.invariant.1 c.loop-k-test.false)
