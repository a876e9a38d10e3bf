use Prim.Native.Nat.{◌-◌}
use lib.ListN.{length}
use Rattle.value_text.specs.ReadLaws.{ReadingRows}
use Rattle.value_text.proofs.reading.read_rows.Given as goal

abbrev pub invariant-loop-at : goal.invariant-loop-at
invariant-loop-at l = ReadingRows l.text l.from l.place l.words l.levels l.len l.count l.at

abbrev pub decreases-loop-at : goal.decreases-loop-at
decreases-loop-at l = length l.text - l.at
