use Rattle.full_types.specs.FullLaws.{LookingTaken}
use Rattle.full_types.proofs.is_any_too_deep.Given as goal

abbrev pub invariant-loop-word : goal.invariant-loop-word
invariant-loop-word l = LookingTaken l.code l.table l.pairs l.word-index
