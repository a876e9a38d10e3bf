-- `entity_manifest::c::terbagyl_unite_manifests` meets its contract: what the front answers is told as a number and a value.
use Rattle.entity_manifest.specs.Numbers.{told}
use Rattle.entity_manifest.proofs.c.terbagyl_unite_manifests.Goals as goal

pub returns : goal.returns
returns c = told c.unite_manifests.ensures c.tell.ensures
