use Rattle.schema.specs.Items.{items_of}
use Rattle.full_types.specs.RequiredLaws.{Fielding}
use Rattle.full_types.proofs.await_fields.Given as goal

abbrev pub invariant-loop-i : goal.invariant-loop-i
invariant-loop-i l = Fielding (items_of l.attributes) l.names l.initial.waiting l.left l.waiting l.more l.i

abbrev pub decreases-loop-i : goal.decreases-loop-i
decreases-loop-i l = l.i
