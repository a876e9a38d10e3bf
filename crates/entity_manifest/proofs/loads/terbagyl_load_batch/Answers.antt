-- `entity_manifest::loads::terbagyl_load_batch` meets its contract: what the call answers is told as a number and three values.
use Rattle.entity_manifest.specs.LoadNumbers.{hand_told}
use Rattle.entity_manifest.proofs.loads.terbagyl_load_batch.Goals as goal

pub returns : goal.returns
returns c = hand_told c.load_batch.ensures c.tell_load.ensures
