-- `load_ends::sets::store_sets` meets its contract: two stores, and a run that is copied.
use native.Mathlib.Omega.{arith}
use mathlib.Core.Path.{◌∙◌}
use lib.ListN.{length-set}
use Rattle.words.specs.RunLaws.{wrote_length}
use Rattle.load_ends.proofs.sets.store_sets.Goals as goal

pub bounds-state-8 : goal.bounds-state-8
bounds-state-8 c = simp length-set (omega (arith, c.requires.0))

pub copy_words-requires : goal.copy_words-requires
copy_words-requires c = simp length-set (omega (arith, c.requires.0, c.requires.1))

pub shape_of-state : goal.shape_of-state
shape_of-state c = wrote_length c.copy_words.ensures ∙ simp length-set
