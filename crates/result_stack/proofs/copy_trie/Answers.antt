-- `result_stack::copy_trie` meets its contract: as many words as the trie has are trie_copied.
use Prim.Native.Nat.{◌-◌}
use native.Mathlib.Omega.{arith}
use lib.ListN.{drop, length-take}
use Rattle.result_stack.specs.StackLaws.{at_few, trie_copied}
use Rattle.result_stack.proofs.copy_trie.Goals as goal

pub copy_words-requires : goal.copy_words-requires
copy_words-requires c =
    omega (
      arith,
      length-take (c.trie_end-end.result - c.args.at) (drop c.args.at c.args.tries.now),
      at_few c.requires.0,
      c.requires.1,
      c.trie_end-end.ensures,
    )

pub returns : goal.returns
returns c =
    trie_copied c.requires.0 c.requires.1 c.trie_end-end.ensures.0 c.copy_words.ensures
