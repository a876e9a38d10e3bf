use Prim.Native.Nat.{◌-◌}
use mathlib.Core.Path.{◌≡◌}
use lib.ListN.{length}
use Rattle.slices.specs.GroupLaws.{sorted_keys}
use Rattle.slices.specs.BuildLaws.{GroupsTo}
use Rattle.slices.proofs.build_slice.Given as goal

abbrev pub invariant-loop-from : goal.invariant-loop-from
invariant-loop-from l =
    (l.sorted ≡ sorted_keys l.rows) × (l.len ≡ length l.rows)
    × GroupsTo l.words l.rows l.places l.sets l.set_places l.initial.out l.to l.initial.scratch l.out l.scratch l.from l.end l.count

abbrev pub decreases-loop-from : goal.decreases-loop-from
decreases-loop-from l =
    l.len - l.from
