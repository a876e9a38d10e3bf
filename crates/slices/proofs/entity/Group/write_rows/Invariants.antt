use Prim.Native.Nat.{◌-◌}
use lib.ListN.{length}
use Rattle.slices.specs.Keys.{places_of}
use Rattle.slices.specs.WriteLaws.{MergedTo}
use Rattle.slices.proofs.entity.Group.write_rows.Given as goal

abbrev pub invariant-loop-next : goal.invariant-loop-next
invariant-loop-next l =
    MergedTo l.self.words.now l.self.keys.now (places_of l.self.places.now l.self.keys.now) l.self.entity l.initial.out l.from l.initial.scratch l.out l.scratch l.size l.k

abbrev pub decreases-loop-next : goal.decreases-loop-next
decreases-loop-next l = length l.self.keys.now - l.k
