-- K10 on calls: what the calls of a load report on lent buffers, whatever these hold. Only the statements need be read; TripsInLaws has
-- the proofs.
--
-- What each call promises is said in its own crate: `begin_in` (load_begin), `batch_in` (load_batch), `answer_in` (loader), `ancestors_in`
-- (load_ancestors), `ancestors_answer_in` and `result_in` (load_ends), and `trip_bound_in` (entries) for the bound. LoadsIn says which states a
-- load can have (`StateOf`), and what it means that no call on a state reports more than a bound (`CallsWithin`).
use Rattle.std.specs.Prelude.{ℕ, ◌≡◌, List}
use Rattle.rules.specs.Trips.{trip_bound}
use Rattle.rows.specs.States.{rows_in}
use Rattle.entries.specs.Bounds.{told, trip_bound_in}
use Rattle.std.specs.Prelude.{Ok}
use Rattle.calls.specs.LoadsIn.{StateOf, bound_in, CallsWithin}
use Rattle.calls.proofs.TripsInLaws.{state_bound, within_state, within_begun}

-- 1. Whatever a lent state holds, a forged one too: no call on it reports more than the bound of the entry that it holds.
pub any_state_within : (state : List ℕ) → CallsWithin state (bound_in state)
any_state_within state = within_state state

-- 2. Of a load that began with a manifest, after any calls: `trip_bound` answers the bound of the manifest and the request type, and no
-- call reports more.
pub calls_within :
    (manifest : List ℕ) (type : ℕ) (state : List ℕ)
    → StateOf manifest type state
    → (trip_bound_in manifest type ≡ Ok (told (trip_bound (rows_in manifest) type)))
    × CallsWithin state (trip_bound (rows_in manifest) type)
calls_within manifest type state h =
    let (same, tells) = state_bound h in
    (tells, within_begun same (within_state state))
