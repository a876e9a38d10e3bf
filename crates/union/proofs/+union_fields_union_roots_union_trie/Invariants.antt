-- `union::union_fields`, `union_roots` and `union_trie` meet their contracts: what each stores is the next part of the union, and the steps left fall.
use Rattle.std.proofs.Common.{◌+◌, ◌*◌, ◌-◌, length}
use Rattle.union.specs.Merge.{Merged}
use Rattle.union.proofs.+union_fields_union_roots_union_trie.Given as goal

abbrev pub decreases-union_fields : goal.decreases-union_fields
decreases-union_fields l = 2 * l.left + 1

abbrev pub decreases-union_roots : goal.decreases-union_roots
decreases-union_roots l = 2 * l.left + 1

abbrev pub decreases-union_trie : goal.decreases-union_trie
decreases-union_trie l = 2 * l.left

abbrev pub invariant-union_fields-loop-out : goal.invariant-union_fields-loop-out
invariant-union_fields-loop-out l = Merged l.a l.b l.initial.out l.initial.at.a l.initial.at.b l.initial.at.out l.out l.at.a l.at.b l.at.out

abbrev pub decreases-union_fields-loop-out : goal.decreases-union_fields-loop-out
decreases-union_fields-loop-out l = length l.a + length l.b - (l.at.a + l.at.b)

abbrev pub invariant-union_roots-loop-out : goal.invariant-union_roots-loop-out
invariant-union_roots-loop-out l = Merged l.a l.b l.initial.out l.initial.at.a l.initial.at.b l.initial.at.out l.out l.at.a l.at.b l.at.out

abbrev pub decreases-union_roots-loop-out : goal.decreases-union_roots-loop-out
decreases-union_roots-loop-out l = length l.a + length l.b - (l.at.a + l.at.b)
