-- `entity_manifest::loads::bound_reply` meets its contract, by the bound's variants.
use Rattle.entity_manifest.proofs.loads.bound_reply.Goals as goal

pub returns-in-Ok : goal.returns-in-Ok
returns-in-Ok c = rw c.in-Ok.is

pub returns-in-Err : goal.returns-in-Err
returns-in-Err c = rw c.in-Err.is
