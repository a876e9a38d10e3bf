-- `answers::place` meets its contract: the places of the first k are stored, and the next stands at `at`.
use native.Mathlib.Omega.{arith}
use mathlib.Core.Path.{refl}
use Rattle.answers.specs.AnswerLaws.{NextItem, passed_none, passed_next, places_all, places_next}
use Rattle.answers.proofs.place.Goals as goal
use Rattle.answers.proofs.place.Goals.{In-loop-k}

pub loop-k-init : goal.loop-k-init
loop-k-init c =
    record {
      passed = passed_none c.args.lent c.args.words.now c.args.count c.requires.0;
      long = refl;
      stands = λ j d h. absurd (omega arith);
      before = refl;
    }

next :
    (c : In-loop-k) →
    let args = c.args in
    NextItem args.lent args.words.now args.count c.loop-k.k c.loop-k.at
next c = passed_next _ _ _ _ _ c.loop-k.invariant.passed c.loop-k-test.true

pub overflow_add-places : goal.overflow_add-places
overflow_add-places c = omega (arith, c.requires.1, c.well_formed)

pub offset_bounds-places-to : goal.offset_bounds-places-to
offset_bounds-places-to c = omega (arith, c.requires.1, c.well_formed)

pub bounds-places-to : goal.bounds-places-to
bounds-places-to c = omega (arith, c.requires.1, c.loop-k.invariant.long)

pub offset_bounds-words-at : goal.offset_bounds-words-at
offset_bounds-words-at c = omega (arith, (next (goal.at.offset_bounds-words-at c).In-loop-k).inside, c.well_formed)

pub bounds-words-at : goal.bounds-words-at
bounds-words-at c = (next (goal.at.bounds-words-at c).In-loop-k).inside

pub overflow_add-at : goal.overflow_add-at
overflow_add-at c = omega (arith, (next (goal.at.overflow_add-at c).In-loop-k).within, c.behind.ensures, c.well_formed)

pub overflow_add-at-in-loop-k : goal.overflow_add-at-in-loop-k
overflow_add-at-in-loop-k c = omega (arith, (next (goal.at.overflow_add-at-in-loop-k c).In-loop-k).within, c.behind.ensures, c.well_formed)

pub loop-k-preserved : goal.loop-k-preserved
loop-k-preserved c =
    rw c.behind.ensures (places_next c.loop-k.invariant c.requires.1 c.loop-k-test.true (next (goal.at.loop-k-preserved c).In-loop-k))

pub shape_of-places : goal.shape_of-places
shape_of-places c = c.loop-k.invariant.long

pub returns : goal.returns
returns c = places_all c.loop-k.invariant c.loop-k-test.false
