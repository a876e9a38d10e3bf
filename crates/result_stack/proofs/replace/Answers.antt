-- `result_stack::replace` meets its contract: paths and a trie are put before two places.
use mathlib.Core.Path.{refl}
use Rattle.result_stack.proofs.replace.Goals as goal

pub returns : goal.returns
returns c = record { paths = c.put_before.ensures; rows = c.put_trie.ensures; many = refl }
