use Rattle.full_types.specs.FullLaws.{Checking}
use Rattle.full_types.proofs.has_all.Given as goal

abbrev pub invariant-loop-attribute : goal.invariant-loop-attribute
invariant-loop-attribute l = Checking l.attributes l.names l.attribute-index
