-- `entity_manifest::loads::terbagyl_load_begin` meets its contract: what the call answers is told as a number and three values.
use Rattle.entity_manifest.specs.LoadNumbers.{call_told}
use Rattle.entity_manifest.proofs.loads.terbagyl_load_begin.Goals as goal

pub returns : goal.returns
returns c = call_told c.load_begin.ensures c.tell_load.ensures
