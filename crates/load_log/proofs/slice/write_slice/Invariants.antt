-- `load_log::slice::write_slice` is safe: no entity passes the end of the slice.
use Prim.Native.Nat.{◌≤◌}
use lib.ListN.{length}
use Rattle.load_log.proofs.slice.write_slice.Given as goal

abbrev pub invariant-loop : goal.invariant-loop
invariant-loop l = l.at ≤ length l.slice
