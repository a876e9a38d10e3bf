use Prim.Native.Nat.{◌-◌}
use lib.ListN.{length}
use Rattle.store_text.specs.ReadLaws.{ReadingStore}
use Rattle.store_text.proofs.reading.read_lines.Given as goal

abbrev pub invariant-loop-at : goal.invariant-loop-at
invariant-loop-at l = ReadingStore l.text l.words l.levels l.standing.last l.standing.next l.standing.levels l.count l.at

abbrev pub decreases-loop-at : goal.decreases-loop-at
decreases-loop-at l = length l.text - l.at
