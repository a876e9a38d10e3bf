-- `entity_manifest::loads::terbagyl_trip_bound` meets its contract: the bound is told as a number and three values.

use Rattle.entity_manifest.proofs.loads.terbagyl_trip_bound.Goals as goal

pub returns : goal.returns
returns c =
    rw (← c.trip_bound.ensures, ← c.bound_reply.ensures) c.tell_load.ensures
