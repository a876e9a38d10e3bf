-- `entity_manifest::c::terbagyl_union_contributions` meets its contract: what the front answers is told as a number and a value.
use Rattle.entity_manifest.specs.Numbers.{told}
use Rattle.entity_manifest.proofs.c.terbagyl_union_contributions.Goals as goal

pub returns : goal.returns
returns c = told c.union.ensures c.tell.ensures
