-- `entity_manifest::c::terbagyl_add_policy` meets its contract: what the front answers is told as a number and a value.
use Rattle.entity_manifest.specs.Numbers.{told}
use Rattle.entity_manifest.proofs.c.terbagyl_add_policy.Goals as goal

pub returns : goal.returns
returns c = told c.add_policy.ensures c.tell.ensures
