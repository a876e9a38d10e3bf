-- `row_walk::batch::batch_below` meets its contract: the rows that are found so far are written, and the rest is that of the walk.
use native.Mathlib.Omega.{arith}
use Prim.Native.Nat.{◌+◌, ◌<◌}
use mathlib.Core.Path.{refl, sym}
use lib.ListN.{length}
use Rattle.row_walk.specs.Meetings.{MeetsAt}
use Rattle.row_walk.specs.BatchLaws.{Gathering, gathered_none, gathering_length, gathering_bad, gathering_end, row_inside, gathering_row, gathering_ids}
use Rattle.row_walk.proofs.batch.batch_below.Goals as goal
use Rattle.row_walk.proofs.batch.batch_below.Goals.{In-Row, In-Some, Joined-meeting, in-Row, in-Ids}

pub loop-meeting-init : goal.loop-meeting-init
loop-meeting-init c =
    record { within = c.requires.from_in_bounds.0; counts = omega arith; depths = refl; room = c.requires.values_in_bounds; gathered = gathered_none _ _ _ }

pub slice_bounds-next_event-end : goal.slice_bounds-next_event-end
slice_bounds-next_event-end c = sym c.loop-meeting.invariant.depths

pub next_event-requires : goal.next_event-requires
next_event-requires c = (c.loop-meeting.invariant.counts, omega arith)

-- something is met
met : (c : In-Some) →
    MeetsAt c.args.nodes.now c.args.values.now c.args.depth c.loop-meeting.kept c.loop-meeting.len c.loop-meeting.i c.next_event.new.kept c.in-Some.meeting
met c = rw c.in-Some.is at c.next_event.ensures

-- the row that is found is at a node, its id is small, and there is room for it
inside : (c : In-Row) →
    (c.in-Some.meeting.node < length c.args.nodes.now) × (c.in-Row.id < 65536) × (c.loop-meeting.at < length c.args.out.now)
inside c = row_inside c.loop-meeting.invariant (rw c.in-Some.is at c.next_event.ensures) c.next_event.auto.kept c.in-Row.is

pub word-requires : goal.word-requires
word-requires c = (omega (arith, inside (goal.at.word-requires c).In-Row), omega (arith, inside (goal.at.word-requires c).In-Row))

pub offset_bounds-out-at : goal.offset_bounds-out-at
offset_bounds-out-at c = omega (arith, inside (goal.at.offset_bounds-out-at c).In-Row)

pub bounds-out-at : goal.bounds-out-at
bounds-out-at c = omega (arith, inside (goal.at.bounds-out-at c).In-Row, gathering_length c.loop-meeting.invariant)

pub overflow_add-at : goal.overflow_add-at
overflow_add-at c = omega (arith, inside (goal.at.overflow_add-at c).In-Row)

pub shape_of-out-in-Bad : goal.shape_of-out-in-Bad
shape_of-out-in-Bad c = gathering_length c.loop-meeting.invariant

pub returns-in-Bad : goal.returns-in-Bad
returns-in-Bad c = gathering_bad c.loop-meeting.invariant (rw c.in-Some.is at c.next_event.ensures) c.next_event.auto.kept c.in-Bad.is

-- after a turn the rest is that from behind the node on
again : (c : Joined-meeting) →
    Gathering c.args.nodes.now c.args.values.now c.args.depth c.args.from c.args.out.now c.args.to
    c.match-meeting.out c.next_event.new.kept c.in-Some.meeting.len (c.in-Some.meeting.node + 1) c.match-meeting.at
again c =
    elim c.match-meeting.branch [ in-Row w ↦ rw (w.out-is, w.at-is, w.word.ensures) (gathering_row c.loop-meeting.invariant (rw c.in-Some.is at c.next_event.ensures) c.next_event.auto.kept w.in-Row.is) | in-Ids w ↦ rw (w.out-is, w.at-is) (gathering_ids c.loop-meeting.invariant (rw c.in-Some.is at c.next_event.ensures) c.next_event.auto.kept w.in-Ids.is) ]

pub overflow_add-i : goal.overflow_add-i
overflow_add-i c = omega (arith, (again (goal.at.overflow_add-i c).Joined-meeting).within)

pub loop-meeting-smaller : goal.loop-meeting-smaller
loop-meeting-smaller c = omega (arith, (again (goal.at.loop-meeting-smaller c).Joined-meeting).within, (met (goal.at.loop-meeting-smaller c).In-Some).onward)

pub loop-meeting-preserved : goal.loop-meeting-preserved
loop-meeting-preserved c = again (goal.at.loop-meeting-preserved c).Joined-meeting

pub shape_of-out : goal.shape_of-out
shape_of-out c = gathering_length c.loop-meeting.invariant

pub returns : goal.returns
returns c = gathering_end c.loop-meeting.invariant (rw c.in_default.is at c.next_event.ensures)
