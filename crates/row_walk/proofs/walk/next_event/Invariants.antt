use Rattle.row_walk.specs.MeetingLaws.{NothingMet}
use Rattle.row_walk.proofs.walk.next_event.Given as goal

abbrev pub invariant-loop-node : goal.invariant-loop-node
invariant-loop-node l = NothingMet l.nodes l.values l.depth l.initial.kept l.len l.from l.kept l.count l.node
