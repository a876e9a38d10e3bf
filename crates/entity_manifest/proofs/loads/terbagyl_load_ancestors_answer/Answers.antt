-- `entity_manifest::loads::terbagyl_load_ancestors_answer` meets its contract: what the call answers is told as a number and three values.
use Rattle.entity_manifest.specs.LoadNumbers.{call_told}
use Rattle.entity_manifest.proofs.loads.terbagyl_load_ancestors_answer.Goals as goal

pub returns : goal.returns
returns c = call_told c.load_ancestors_answer.ensures c.tell_load.ensures
