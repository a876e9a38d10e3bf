-- `merging::merge_values` meets its contract: i and j rows are passed, and what the pass gave for them is written.
use Prim.Native.Nat.{◌<◌}
use native.Mathlib.Omega.{arith}
use lib.ListN.{length}
use Rattle.words.specs.RunLaws.{wrote_length}
use Rattle.merging.specs.Merges.{RowsTaken}
use Rattle.merging.specs.MergeLaws.{passing_begun, passing_more, passing_room, passing_apart, passing_ended}
use Rattle.merging.proofs.merge_values.Goals as goal
use Rattle.merging.proofs.merge_values.Goals.{In_ok-turn}

-- the turn takes a row
takes :
    (c : In_ok-turn)
    → let args = c.args in
    RowsTaken args.left.now args.right.now c.loop-i.i c.loop-i.j c.loop-i.inside c.in_ok-turn.turn.word c.in_ok-turn.turn.left c.in_ok-turn.turn.right c.in_ok-turn.turn.inside
takes c = rw c.in_ok-turn.was at c.next_turn.ensures

-- there is room for it
room :
    (c : In_ok-turn)
    → c.loop-i.at < length c.loop-i.out
room c =
    passing_room c.loop-i.invariant c.loop-i-test.true c.requires

pub loop-i-init : goal.loop-i-init
loop-i-init c = passing_begun _ _ _ _

pub overflow_add-i : goal.overflow_add-i
overflow_add-i c = omega (arith, c.loop-i.invariant.in_left, c.loop-i.invariant.in_right, c.requires)

pub overflow_add-left : goal.overflow_add-left
overflow_add-left c = omega (arith, c.requires)

pub next_turn-requires : goal.next_turn-requires
next_turn-requires c = (c.loop-i.invariant.in_left, c.loop-i.invariant.in_right, c.loop-i-test.true)

pub shape_of-out-in_err-turn : goal.shape_of-out-in_err-turn
shape_of-out-in_err-turn c = wrote_length c.loop-i.invariant.wrote

pub returns-in_err-turn : goal.returns-in_err-turn
returns-in_err-turn c = rw c.from_residual.ensures (passing_apart c.loop-i.invariant (rw c.in_err-turn.was at c.next_turn.ensures))

pub offset_bounds-out-at : goal.offset_bounds-out-at
offset_bounds-out-at c = omega (arith, room (goal.at.offset_bounds-out-at c).In_ok-turn)

pub bounds-out-at : goal.bounds-out-at
bounds-out-at c = room (goal.at.bounds-out-at c).In_ok-turn

pub overflow_add-at : goal.overflow_add-at
overflow_add-at c = omega (arith, room (goal.at.overflow_add-at c).In_ok-turn)

pub loop-i-smaller : goal.loop-i-smaller
loop-i-smaller c = omega (arith, (takes (goal.at.loop-i-smaller c).In_ok-turn).more, (takes (goal.at.loop-i-smaller c).In_ok-turn).in_left, (takes (goal.at.loop-i-smaller c).In_ok-turn).in_right, c.loop-i-test.true)

pub loop-i-preserved : goal.loop-i-preserved
loop-i-preserved c = passing_more c.loop-i.invariant (takes (goal.at.loop-i-preserved c).In_ok-turn)

pub shape_of-out : goal.shape_of-out
shape_of-out c = wrote_length c.loop-i.invariant.wrote

pub returns : goal.returns
returns c = passing_ended c.loop-i.invariant (omega (arith, c.loop-i-test.false))
