-- `slices::entity::Group::next_answer` meets its contract: the rows passed have no answer for the entity.
use native.Mathlib.Omega.{arith}
use mathlib.Core.Path.{sym, ◌∙◌}
use Rattle.slices.specs.HeardLaws.{passed_none, passed_all, passed_next, passed_found}
use Rattle.slices.proofs.entity.Group.next_answer.Goals as goal

pub loop-k-init : goal.loop-k-init
loop-k-init c = passed_none c.requires.1

pub place_of-place-requires : goal.place_of-place-requires
place_of-place-requires c = omega (arith, c.loop-k-test.true, c.requires.0.as_many)

pub offset_bounds-self-place : goal.offset_bounds-self-place
offset_bounds-self-place c = omega (arith, c.requires.0.inside c.loop-k.k c.loop-k-test.true, c.place_of-place.ensures, c.well_formed)

pub bounds-self-place : goal.bounds-self-place
bounds-self-place c = rw c.place_of-place.ensures (c.requires.0.inside c.loop-k.k c.loop-k-test.true)

pub returns-then-asks_for : goal.returns-then-asks_for
returns-then-asks_for c =
    passed_found c.loop-k.invariant c.requires.0 c.loop-k-test.true
    (rw c.place_of-place.ensures at (sym c.asks_for.ensures ∙ c.if-asks_for.true))

pub loop-k-preserved : goal.loop-k-preserved
loop-k-preserved c =
    passed_next c.loop-k.invariant c.requires.0 c.loop-k-test.true
    (rw c.place_of-place.ensures at (sym c.asks_for.ensures ∙ c.if-asks_for.false))

pub returns : goal.returns
returns c = passed_all c.loop-k.invariant c.loop-k-test.false
