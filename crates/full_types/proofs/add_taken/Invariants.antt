use lib.ListN.{length}
use mathlib.Core.Path.{◌≡◌}
use Rattle.schema.specs.Items.{items_of}
use Rattle.full_types.specs.FullLaws.{AddingTaken}
use Rattle.full_types.proofs.add_taken.Given as goal

abbrev pub invariant-loop-word : goal.invariant-loop-word
invariant-loop-word l = (length l.path ≡ 24) × AddingTaken (items_of l.types.words.now) l.code l.pairs l.initial.trie l.word-index l.trie
