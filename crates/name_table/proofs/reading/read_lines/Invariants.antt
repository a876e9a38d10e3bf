use Prim.Native.Nat.{◌-◌}
use lib.ListN.{length}
use Rattle.name_table.specs.ReadLaws.{NamesReading}
use Rattle.name_table.proofs.reading.read_lines.Given as goal

abbrev pub invariant-loop-at : goal.invariant-loop-at
invariant-loop-at l = NamesReading l.text l.words l.least l.count l.at

abbrev pub decreases-loop-at : goal.decreases-loop-at
decreases-loop-at l = length l.text - l.at
