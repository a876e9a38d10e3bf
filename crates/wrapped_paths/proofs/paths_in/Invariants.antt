use Prim.Native.Nat.{◌-◌}
use mathlib.Core.Path.{◌≡◌}
use lib.ListN.{length}
use Rattle.wrapped_paths.specs.CodeLaws.{Searching}
use Rattle.wrapped_paths.proofs.paths_in.Given as goal

abbrev pub invariant-loop-left : goal.invariant-loop-left
invariant-loop-left l = (length l.places ≡ 256) × Searching l.code l.at l.places l.from l.left l.found

abbrev pub decreases-loop-left : goal.decreases-loop-left
decreases-loop-left l = length l.code - l.from
