use Rattle.ancestors.specs.SliceWords.{slice_in}
use Rattle.ancestors.specs.RoundLaws.{Rounds}
use Prim.Native.Nat.{◌-◌}
use Rattle.ancestors.proofs.rounds.take_batches.Given as goal

abbrev pub invariant-loop : goal.invariant-loop
invariant-loop l =
    Rounds l.nodes (slice_in l.slice) l.initial.more l.initial.rows l.count l.initial.found l.rows l.found l.more l.len (24 - l.counter)
