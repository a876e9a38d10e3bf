use Prim.Native.Nat.{◌-◌}
use mathlib.Core.Path.{◌≡◌}
use lib.ListN.{length}
use Rattle.step_runs.specs.StepRunLaws.{Running}
use Rattle.step_runs.proofs.run.Given as goal

abbrev pub invariant-loop-at : goal.invariant-loop-at
invariant-loop-at l =
    Running l.types.words.now l.text l.code l.tries l.stack l.at l.lines
    × (((length l.code ≡ length l.initial.code) × ((length l.tries ≡ length l.initial.tries) × (length l.paths ≡ length l.initial.paths))) × ((length l.names ≡ 32) × (length l.trie ≡ 1026)))

abbrev pub decreases-loop-at : goal.decreases-loop-at
decreases-loop-at l = length l.text - l.at
