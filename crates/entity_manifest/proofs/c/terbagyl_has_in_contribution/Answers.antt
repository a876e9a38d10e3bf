-- `entity_manifest::c::terbagyl_has_in_contribution` meets its contract: what the front answers is told as a number and a value.

use Rattle.entity_manifest.proofs.c.terbagyl_has_in_contribution.Goals as goal

pub returns : goal.returns
returns c =
    rw (← c.has.ensures) c.tell_held.ensures
