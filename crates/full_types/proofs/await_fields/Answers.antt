-- `full_types::await_fields` meets its contract: the types of the names from the i-th on wait.
use native.Mathlib.Omega.{arith}
use Rattle.full_types.specs.RequiredLaws.{fielding_none, fielding_all, fielding_room, fielding_next}
use Prim.Native.Nat.{◌<◌}
use lib.ListN.{length}
use Rattle.full_types.proofs.await_fields.Goals as goal
use Rattle.full_types.proofs.await_fields.Goals.{In-loop-i}

-- there is room for the next
room : (c : In-loop-i) → c.loop-i.more < length c.loop-i.waiting
room c = fielding_room c.loop-i.invariant c.loop-i-test.true c.requires.1

pub loop-i-init : goal.loop-i-init
loop-i-init c = fielding_none _ _ _ _ c.requires.1

pub offset_bounds-names-i : goal.offset_bounds-names-i
offset_bounds-names-i c = omega (arith, c.loop-i.invariant.inside)

pub bounds-names-i : goal.bounds-names-i
bounds-names-i c = omega (arith, c.loop-i.invariant.inside, c.loop-i-test.true)

pub field_type-requires : goal.field_type-requires
field_type-requires c = c.requires.0

pub offset_bounds-waiting-more : goal.offset_bounds-waiting-more
offset_bounds-waiting-more c = omega (arith, room (goal.at.offset_bounds-waiting-more c).In-loop-i, c.loop-i.invariant.same_length)

pub bounds-waiting-more : goal.bounds-waiting-more
bounds-waiting-more c = room (goal.at.bounds-waiting-more c).In-loop-i

pub overflow_add-more : goal.overflow_add-more
overflow_add-more c = omega (arith, room (goal.at.overflow_add-more c).In-loop-i, c.loop-i.invariant.same_length)

pub loop-i-smaller : goal.loop-i-smaller
loop-i-smaller c = omega (arith, c.loop-i-test.true)

pub loop-i-preserved : goal.loop-i-preserved
loop-i-preserved c =
    fielding_next c.loop-i.invariant c.loop-i-test.true c.requires.1 (rw c.from.ensures at c.field_type.ensures)

pub shape_of-waiting : goal.shape_of-waiting
shape_of-waiting c = c.loop-i.invariant.same_length

pub returns : goal.returns
returns c = fielding_all c.loop-i.invariant c.loop-i-test.false
