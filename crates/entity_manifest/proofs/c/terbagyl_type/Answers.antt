-- `entity_manifest::c::terbagyl_type` meets its contract: what the front answers is told as a number and a value.
use Rattle.entity_manifest.specs.Numbers.{told}
use Rattle.entity_manifest.proofs.c.terbagyl_type.Goals as goal

pub returns : goal.returns
returns c = told c.to_typed.ensures c.tell.ensures
