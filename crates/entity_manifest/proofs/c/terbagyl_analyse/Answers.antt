-- `entity_manifest::c::terbagyl_analyse` meets its contract: what the front answers is told as a number and a value.
use Rattle.entity_manifest.specs.Numbers.{told}
use Rattle.entity_manifest.proofs.c.terbagyl_analyse.Goals as goal

pub returns : goal.returns
returns c = told c.analyse.ensures c.tell.ensures
