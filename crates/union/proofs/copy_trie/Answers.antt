-- `union::copy_trie` meets its contract: the node is copied, and then all below it.
use Rattle.union.specs.MergeLaws.{node_copied}
use Rattle.union.proofs.copy_trie.Goals as goal

pub returns : goal.returns
returns c = node_copied c.requires.0 (rw c.depth.ensures at c.copy_below.ensures)
