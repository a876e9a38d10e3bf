-- `answers::sum` meets its contract: the first k are summed, and the next stands at `at`.
use native.Mathlib.Omega.{arith}
use mathlib.Core.Path.{refl}
use Rattle.answers.specs.AnswerLaws.{NextItem, passed_none, passed_next, sum_all, sum_over, sum_next}
use Rattle.answers.proofs.sum.Goals as goal
use Rattle.answers.proofs.sum.Goals.{In-loop-k}

pub loop-k-init : goal.loop-k-init
loop-k-init c =
    record {
      passed = passed_none c.args.lent c.args.words.now c.args.count c.requires.0;
      low = c.requires.1;
      left = refl;
    }

next :
    (c : In-loop-k) →
    let args = c.args in
    NextItem args.lent args.words.now args.count c.loop-k.k c.loop-k.at
next c = passed_next _ _ _ _ _ c.loop-k.invariant.passed c.loop-k-test.true

pub offset_bounds-words-at : goal.offset_bounds-words-at
offset_bounds-words-at c = omega (arith, (next (goal.at.offset_bounds-words-at c).In-loop-k).inside, c.well_formed)

pub bounds-words-at : goal.bounds-words-at
bounds-words-at c = (next (goal.at.bounds-words-at c).In-loop-k).inside

pub overflow_add-total : goal.overflow_add-total
overflow_add-total c = omega (arith, (next (goal.at.overflow_add-total c).In-loop-k).within, c.loop-k.invariant.low, c.behind-behind.ensures, c.well_formed)

pub returns-then-total-gt-VALUES : goal.returns-then-total-gt-VALUES
returns-then-total-gt-VALUES c =
    sum_over c.loop-k.invariant (next (goal.at.returns-then-total-gt-VALUES c).In-loop-k) (rw c.behind-behind.ensures at c.if-total-gt-VALUES.true)

pub overflow_add-at : goal.overflow_add-at
overflow_add-at c = omega (arith, (next (goal.at.overflow_add-at c).In-loop-k).within, c.behind-behind.ensures, c.well_formed)

pub overflow_add-at-in-loop-k : goal.overflow_add-at-in-loop-k
overflow_add-at-in-loop-k c = omega (arith, (next (goal.at.overflow_add-at-in-loop-k c).In-loop-k).within, c.behind-behind.ensures, c.well_formed)

pub loop-k-preserved : goal.loop-k-preserved
loop-k-preserved c =
    rw c.behind-behind.ensures (sum_next c.loop-k.invariant (next (goal.at.loop-k-preserved c).In-loop-k) (rw c.behind-behind.ensures at c.if-total-gt-VALUES.false))

pub returns : goal.returns
returns c = sum_all c.loop-k.invariant c.loop-k-test.false
