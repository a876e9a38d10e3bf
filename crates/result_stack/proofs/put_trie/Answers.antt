-- `result_stack::put_trie` meets its contract: its count and its rows are the first words of a state.
use Prim.Native.Nat.{◌+◌}
use mathlib.Core.Path.{◌≡◌, sym}
use native.Mathlib.Omega.{arith}
use lib.ListN.{length, take, get_or}
use lib.Seq.{length-take-le}
use Rattle.result_stack.specs.StackLaws.{placed_many, state_words}
use Rattle.result_stack.proofs.put_trie.Goals as goal
use Rattle.result_stack.proofs.put_trie.Goals.{Start}

-- its words
many : (c : Start) → length (take (get_or c.args.trie.now 0 0 + 1) c.args.trie.now) ≡ get_or c.args.trie.now 0 0 + 1
many c = length-take-le (get_or c.args.trie.now 0 0 + 1) c.args.trie.now (omega (arith, c.requires.0.state_length, c.requires.0.few_rows))

pub overflow_sub-start : goal.overflow_sub-start
overflow_sub-start c = omega (arith, c.requires.1.0)

pub slice_bounds-copy_words-end : goal.slice_bounds-copy_words-end
slice_bounds-copy_words-end c = sym (many (goal.at.slice_bounds-copy_words-end c).Start)

pub copy_words-requires : goal.copy_words-requires
copy_words-requires c = omega (arith, many (goal.at.copy_words-requires c).Start, c.requires.1)

pub returns : goal.returns
returns c =
    let words = take (get_or c.args.trie.now 0 0 + 1) c.args.trie.now in
    rw (state_words c.requires.0) at (placed_many words c.args.tries.now c.args.end (get_or c.args.trie.now 0 0 + 1) (many (goal.at.returns c).Start) (omega (arith, c.requires.1.0)) c.requires.1.1 c.copy_words.ensures)
