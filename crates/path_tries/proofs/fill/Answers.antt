-- `path_tries::fill` meets its contract: an empty trie holds the run then.
use mathlib.Core.Path.{◌∙◌}
use native.Mathlib.Omega.{arith}
use lib.ListN.{length-set}
use Rattle.path_tries.specs.NodeLaws.{filled, filled_over}
use Rattle.path_tries.proofs.fill.Goals as goal

pub returns-then-run-gt1024 : goal.returns-then-run-gt1024
returns-then-run-gt1024 c = filled_over _ _ c.requires.0 c.requires.1.0 c.requires.1.1 c.if-run-gt1024.true

pub bounds-trie-0 : goal.bounds-trie-0
bounds-trie-0 c = omega (arith, c.requires.0.state_length)

pub copy_words-requires : goal.copy_words-requires
copy_words-requires c = rw length-set (omega (arith, c.if-run-gt1024.false, c.requires.0.state_length))

pub shape_of-trie : goal.shape_of-trie
shape_of-trie c = c.copy_words.auto.out ∙ simp length-set

pub returns : goal.returns
returns c = rw c.copy_words.ensures.text (filled _ _ c.requires.0 c.requires.1.0 c.requires.1.1 (omega (arith, c.if-run-gt1024.false)))
