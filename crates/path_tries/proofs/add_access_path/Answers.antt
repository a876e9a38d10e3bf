-- `path_tries::add_access_path` meets its contract: either buffer is long enough.
use native.Mathlib.Omega.{arith}
use Rattle.path_tries.proofs.add_access_path.Goals as goal

pub add_by-requires-2 : goal.add_by-requires-2
add_by-requires-2 c =
    record { state = c.requires.state; below_in_bounds = (omega (arith, c.requires.state.1.short, c.requires.below_len_bound.0), c.requires.below_len_bound.1) }
