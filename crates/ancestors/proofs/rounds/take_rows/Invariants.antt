use Rattle.rows.specs.States.{rows_of}
use Rattle.ancestors.specs.SliceWords.{slice_in}
use Rattle.ancestors.specs.RoundLaws.{TakingRows}
use Rattle.ancestors.proofs.rounds.take_rows.Given as goal

abbrev pub invariant-loop-word : goal.invariant-loop-word
invariant-loop-word l = TakingRows (rows_of l.nodes) (slice_in l.slice) l.rows l.initial.more l.initial.out l.more l.out l.at l.word-index
