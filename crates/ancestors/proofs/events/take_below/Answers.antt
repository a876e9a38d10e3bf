-- `ancestors::events::take_below` meets its contract: what is met so far is taken, and the rest is that of the walk.
use native.Mathlib.Omega.{arith}
use Prim.Native.Nat.{◌+◌, ◌<◌}
use mathlib.Core.Path.{refl, sym}
use lib.ListN.{length}
use Rattle.std.proofs.lemmas.Result.{err_from_is_err_and}
use Rattle.row_walk.specs.Meetings.{MeetsAt}
use Rattle.ancestors.specs.TakingLaws.{was_put, not_put, TakingBelow, taking_none, below_bad, below_end, below_room, below_row, below_full, below_ids}
use Rattle.ancestors.proofs.events.take_below.Goals as goal
use Rattle.ancestors.proofs.events.take_below.Goals.{In-Row, In-Some, Joined-meeting, in-Ids+in_ok-more-in-Ids, in-Row}

pub loop-meeting-init : goal.loop-meeting-init
loop-meeting-init c =
    record { within = c.requires.1; counts = omega arith; depths = refl; taking = taking_none _ _ _ _ c.requires.0 c.requires.3 }

pub slice_bounds-next_event-end : goal.slice_bounds-next_event-end
slice_bounds-next_event-end c = sym c.loop-meeting.invariant.depths

pub next_event-requires : goal.next_event-requires
next_event-requires c = (c.loop-meeting.invariant.counts, omega arith)

-- something is met
met : (c : In-Some) →
    MeetsAt c.args.nodes.now c.args.values.now c.args.depth c.loop-meeting.kept c.loop-meeting.len c.loop-meeting.i c.next_event.new.kept c.in-Some.meeting
met c = rw c.in-Some.is at c.next_event.ensures

-- the row that is found is at one of the nodes, its id is small, and there is room for it
inside : (c : In-Row) →
    (c.in-Some.meeting.node < length c.args.nodes.now)
    × (c.in-Row.id < 65536)
    × (c.loop-meeting.at < length c.loop-meeting.out)
inside c = below_room c.loop-meeting.invariant (rw c.in-Some.is at c.next_event.ensures) c.next_event.auto.kept c.in-Row.is

pub word-requires : goal.word-requires
word-requires c = (omega (arith, inside (goal.at.word-requires c).In-Row), omega (arith, inside (goal.at.word-requires c).In-Row))

pub offset_bounds-out-at : goal.offset_bounds-out-at
offset_bounds-out-at c = omega (arith, inside (goal.at.offset_bounds-out-at c).In-Row, c.loop-meeting.invariant.taking.same)

pub bounds-out-at : goal.bounds-out-at
bounds-out-at c = omega (arith, inside (goal.at.bounds-out-at c).In-Row)

pub overflow_add-at : goal.overflow_add-at
overflow_add-at c = omega (arith, inside (goal.at.overflow_add-at c).In-Row, c.loop-meeting.invariant.taking.same)

pub put_all-requires : goal.put_all-requires
put_all-requires c = c.loop-meeting.invariant.taking.is_set

pub shape_of-out-in_err-more-in-Ids : goal.shape_of-out-in_err-more-in-Ids
shape_of-out-in_err-more-in-Ids c = c.loop-meeting.invariant.taking.same

pub returns-in_err-more-in-Ids : goal.returns-in_err-more-in-Ids
returns-in_err-more-in-Ids c =
    let (none, number) = not_put c.ok_or.ensures.value c.in_err-more-in-Ids.was in
    let (_, is, same) = err_from_is_err_and c.from_residual.result c.from_residual.ensures.1 in
    rw (is, same, number)
    (below_full c.loop-meeting.invariant (rw c.in-Some.is at c.next_event.ensures) c.next_event.auto.kept c.in-Ids.is
    c.put_all.ensures none)

pub shape_of-out-in-Bad : goal.shape_of-out-in-Bad
shape_of-out-in-Bad c = c.loop-meeting.invariant.taking.same

pub returns-in-Bad : goal.returns-in-Bad
returns-in-Bad c = below_bad c.loop-meeting.invariant (rw c.in-Some.is at c.next_event.ensures) c.next_event.auto.kept c.in-Bad.is

-- after a turn the rest is that from behind the node on
again : (c : Joined-meeting) →
    TakingBelow c.args.nodes.now c.args.values.now c.args.depth c.args.from c.args.set c.args.out.now c.args.to
    c.match-meeting.out c.next_event.new.kept c.in-Some.meeting.len c.match-meeting.more (c.in-Some.meeting.node + 1) c.match-meeting.at
again c =
    elim c.match-meeting.branch [ in-Row w ↦ rw (w.out-is, w.more-is, w.at-is, w.word.ensures) (below_row c.loop-meeting.invariant (rw c.in-Some.is at c.next_event.ensures) c.next_event.auto.kept w.in-Row.is) | in-Ids+in_ok-more-in-Ids w ↦ rw (w.out-is, w.more-is, w.at-is) (below_ids c.loop-meeting.invariant (rw c.in-Some.is at c.next_event.ensures) c.next_event.auto.kept w.in-Ids.is w.put_all.ensures (was_put w.ok_or.ensures.ok_part w.in_ok-more-in-Ids.was)) ]

pub overflow_add-i : goal.overflow_add-i
overflow_add-i c = omega (arith, (again (goal.at.overflow_add-i c).Joined-meeting).within)

pub loop-meeting-smaller : goal.loop-meeting-smaller
loop-meeting-smaller c = omega (arith, (again (goal.at.loop-meeting-smaller c).Joined-meeting).within, (met (goal.at.loop-meeting-smaller c).In-Some).onward)

pub loop-meeting-preserved : goal.loop-meeting-preserved
loop-meeting-preserved c = again (goal.at.loop-meeting-preserved c).Joined-meeting

pub shape_of-out : goal.shape_of-out
shape_of-out c = c.loop-meeting.invariant.taking.same

pub returns : goal.returns
returns c = below_end c.loop-meeting.invariant (rw c.in_default.is at c.next_event.ensures)
