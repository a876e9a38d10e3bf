use Rattle.std.proofs.Common.{◌-◌, length}
use Rattle.type_table.specs.TypeTableLaws.{TrieWriting}
use Rattle.type_table.proofs.+type_to_access_trie.Given as goal

-- the types that it calls itself for are lower
abbrev pub decreases-type_to_access_trie : goal.decreases-type_to_access_trie
decreases-type_to_access_trie l = l.t

abbrev pub invariant-loop-item : goal.invariant-loop-item
invariant-loop-item l = TrieWriting l.words l.initial.at l.depth l.initial.out l.to l.at l.out l.next

abbrev pub decreases-loop-item : goal.decreases-loop-item
decreases-loop-item l = length l.words - l.at
