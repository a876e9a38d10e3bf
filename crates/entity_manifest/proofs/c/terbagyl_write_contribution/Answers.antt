-- `entity_manifest::c::terbagyl_write_contribution` meets its contract: what the front answers is told as a number and a value.

use Rattle.entity_manifest.proofs.c.terbagyl_write_contribution.Goals as goal

pub returns : goal.returns
returns c =
    rw (← c.write_listing.ensures.0) (c.tell_written.ensures.0, (c.tell_written.ensures.1, c.write_listing.ensures.1))
