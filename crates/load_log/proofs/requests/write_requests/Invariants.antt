-- `load_log::requests::write_requests` is safe: no ids pass the end of the requests.
use Prim.Native.Nat.{◌≤◌}
use lib.ListN.{length}
use Rattle.load_log.proofs.requests.write_requests.Given as goal

abbrev pub invariant-loop-i : goal.invariant-loop-i
invariant-loop-i l = l.from ≤ length l.requests
