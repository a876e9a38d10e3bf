use Prim.Native.Nat.{◌≤◌}
use mathlib.Core.Path.{◌≡◌}
use mathlib.Core.List.{map}
use lib.ListN.{length, take}
use lib.Seq.{sets}
use Rattle.values.specs.ValueWords.{row_asked, request_word}
use Rattle.load_batch.specs.Handing.{numbered}
use Rattle.load_batch.proofs.batch.write_batch.Given as goal

abbrev pub invariant-loop-i : goal.invariant-loop-i
invariant-loop-i l =
    (l.i ≤ length l.rows)
    × (length l.out ≡ length l.initial.out)
    × (l.out ≡ sets l.initial.out 0 (map (λ w. request_word (numbered l.first (row_asked w))) (take l.i l.rows)))
