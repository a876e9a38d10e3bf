-- `full_types::has_all` meets its contract: the attributes that are passed are named.
use Prim.Native.Nat.{◌/◌, ◌^◌}
use mathlib.Core.Path.{ap}
use lib.ListN.{get_or}
use Rattle.rules.specs.Schema.{Item}
use Rattle.wrapped_paths.specs.Code.{IsPlace}
use Rattle.full_types.specs.FullLaws.{checking_none, checking_all, checking_not, checking_next, place_none, place_some}
use Rattle.full_types.proofs.has_all.Goals as goal
use Rattle.full_types.proofs.has_all.Goals.{After-name_place}

-- whether the next attribute is among the names
place :
    (c : After-name_place) →
    let args = c.args in
    IsPlace args.names.now (get_or args.attributes.now c.loop-attribute.attribute-index 0 / 2 ^ 40) c.name_place.result
place c = rw (← ap (λ (it : Item). it.key) c.from.ensures) c.name_place.ensures

pub loop-attribute-init : goal.loop-attribute-init
loop-attribute-init c = checking_none _ _

pub returns-then-is_none : goal.returns-then-is_none
returns-then-is_none c = checking_not c.loop-attribute.invariant c.loop-attribute-test.true (place_none _ _ c.name_place.result (place (goal.at.returns-then-is_none c).After-name_place) c.if-is_none.ensures)

pub loop-attribute-preserved : goal.loop-attribute-preserved
loop-attribute-preserved c = checking_next c.loop-attribute.invariant c.loop-attribute-test.true (place_some _ _ c.name_place.result (place (goal.at.loop-attribute-preserved c).After-name_place) c.if-is_none.ensures)

pub returns : goal.returns
returns c = checking_all c.loop-attribute.invariant c.loop-attribute-test.false
