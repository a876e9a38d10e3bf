use Prim.Native.Nat.{◌-◌}
use mathlib.Core.Path.{◌≡◌}
use lib.ListN.{length}
use Rattle.wrapped_paths.specs.AttrLaws.{Extending}
use Rattle.wrapped_paths.proofs.get_or_has_attr.Given as goal

abbrev pub invariant-loop-left : goal.invariant-loop-left
invariant-loop-left l = (length l.out ≡ length l.initial.out) × ((length l.places ≡ 256) × Extending l.code l.at l.name l.out l.places l.from l.to l.left l.grown)

abbrev pub decreases-loop-left : goal.decreases-loop-left
decreases-loop-left l = length l.code - l.from
