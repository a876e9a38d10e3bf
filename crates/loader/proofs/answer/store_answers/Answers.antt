-- `loader::answer::store_answers` meets its contract: two stores, and a run that is copied.
use native.Mathlib.Omega.{arith}
use mathlib.Core.Path.{◌∙◌}
use lib.ListN.{length-set}
use Rattle.words.specs.RunLaws.{wrote_length}
use Rattle.loader.proofs.answer.store_answers.Goals as goal

pub bounds-state-7 : goal.bounds-state-7
bounds-state-7 c = simp length-set (omega (arith, c.requires.0))

pub shape_of-state : goal.shape_of-state
shape_of-state c = wrote_length c.copy_words.ensures ∙ simp length-set
