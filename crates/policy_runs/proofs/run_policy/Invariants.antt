use Prim.Native.Nat.{◌-◌}
use mathlib.Core.Path.{◌≡◌}
use lib.ListN.{length}
use Rattle.policy_runs.specs.PolicyRunLaws.{RunningPolicy}
use Rattle.policy_runs.proofs.run_policy.Given as goal

abbrev pub invariant-loop-at : goal.invariant-loop-at
invariant-loop-at l =
    RunningPolicy l.types.words.now l.text l.initial.rows l.rows l.code l.tries l.reading l.at l.lines
    × (((length l.rows ≡ length l.initial.rows) × ((length l.code ≡ length l.initial.code) × ((length l.tries ≡ length l.initial.tries) × (length l.paths ≡ length l.initial.paths))))
    × (((length l.names ≡ 32) × (length l.trie ≡ 1026)) × ((length l.contribution ≡ 1026) × (length l.united ≡ 4161))))

abbrev pub decreases-loop-at : goal.decreases-loop-at
decreases-loop-at l = length l.text - l.at
