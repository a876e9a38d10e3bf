use Rattle.analysis.proofs.+answer_large.Given as goal

-- no text fills the large runs, so that it never calls itself, and any measure will do
abbrev pub decreases-answer_large : goal.decreases-answer_large
decreases-answer_large l = 0
