-- `path_tries::add_by` meets its contract: the path with its leaf is merged.
use mathlib.Core.Path.{sym}
use lib.Seq.{length-take-le}
use Rattle.path_tries.proofs.add_by.Goals as goal

pub slice_bounds-union_into-end : goal.slice_bounds-union_into-end
slice_bounds-union_into-end c = c.to_root_access_trie_with_leaf-end.ensures.inside

pub slice_bounds-union_into-end-2 : goal.slice_bounds-union_into-end-2
slice_bounds-union_into-end-2 c = sym (length-take-le _ _ c.to_root_access_trie_with_leaf-end.ensures.inside)

pub union_into-requires : goal.union_into-requires
union_into-requires c =
    (c.requires.state.0, c.to_root_access_trie_with_leaf-end.ensures.nodes)

pub returns : goal.returns
returns c =
    rw c.to_root_access_trie_with_leaf-end.ensures.packs at c.union_into.ensures
