use Prim.Native.Nat.{◌+◌, ◌-◌, ◌≤◌}
use mathlib.Core.List.{map}
use mathlib.Core.Path.{◌≡◌}
use lib.ListN.{length}
use Rattle.rules.proofs.MergeLaws.{IdsFrom}
use Rattle.store_text.specs.Answering.{id_in}
use Rattle.store_text.specs.AnswerLaws.{AmongMerged}
use Rattle.store_text.proofs.answering.write_among.Given as goal

abbrev pub invariant-loop-i : goal.invariant-loop-i
invariant-loop-i l =
    (l.to ≤ l.next)
    × (l.next ≤ l.to + l.i)
    × (l.i ≤ length l.asked)
    × (l.j ≤ length l.ancestors)
    × (length l.out ≡ length l.initial.out)
    × (IdsFrom 0 (map id_in l.ancestors) → IdsFrom 0 l.asked → AmongMerged (map id_in l.ancestors) l.asked l.initial.out l.to l.out l.next l.i l.j)

abbrev pub decreases-loop-i : goal.decreases-loop-i
decreases-loop-i l = length l.asked - l.i + (length l.ancestors - l.j)
