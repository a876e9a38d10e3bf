-- `entity_manifest::c::terbagyl_read_contribution` meets its contract: what the front answers is told as a number and a value.
use Rattle.entity_manifest.specs.Numbers.{told}
use Rattle.entity_manifest.proofs.c.terbagyl_read_contribution.Goals as goal

pub returns : goal.returns
returns c = told c.read_listing.ensures c.tell.ensures
