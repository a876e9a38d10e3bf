-- `full_types::add_typed_by` meets its contract: the words of the type's trie are the leaf.
use Prim.Native.Nat.{◌≤◌}
use native.Mathlib.Omega.{arith}
use mathlib.Core.Bool.{true, false}
use mathlib.Core.Path.{◌≡◌, sym}
use lib.ListN.{take, length}
use lib.Seq.{length-take-le}
use Rattle.rules.specs.Paths.{type_to_access_trie}
use Rattle.schema.specs.Items.{items_of}
use Rattle.path_tries.specs.Nodes.{all_below, leaf_of}
use Rattle.full_types.specs.FullLaws.{leaf_end, leaf_inside, leaf_below, leaf_is}
use Rattle.type_table.specs.TypeTableLaws.{good_all, known_type}
use Rattle.full_types.proofs.add_typed_by.Goals as goal
use Rattle.full_types.proofs.add_typed_by.Goals.{After-type_to_access_trie-end}

-- the type's rows stand in front of the buffer
inside : (c : After-type_to_access_trie-end) → c.type_to_access_trie-end.result ≤ length c.type_to_access_trie-end.new.out
inside c =
    leaf_inside c.args.types.now.words.now (good_all _ (known_type c.args.types.now c.requires.typed.known).types.good-items) c.args.t (length c.args.path.now) c.requires.typed.near c.requires.room c.type_to_access_trie-end.ensures

few : (c : After-type_to_access_trie-end) → c.type_to_access_trie-end.result ≤ 1024
few c =
    omega (arith, leaf_end c.args.types.now.words.now (good_all _ (known_type c.args.types.now c.requires.typed.known).types.good-items) c.args.t (length c.args.path.now) c.requires.typed.near c.requires.room c.type_to_access_trie-end.ensures, c.requires.few_words)

below : (c : After-type_to_access_trie-end) → all_below (length c.args.path.now) (take c.type_to_access_trie-end.result c.type_to_access_trie-end.new.out) ≡ true
below c =
    leaf_below c.args.types.now.words.now (good_all _ (known_type c.args.types.now c.requires.typed.known).types.good-items) c.args.t (length c.args.path.now) c.requires.typed.near c.requires.room c.type_to_access_trie-end.ensures

leaf :
    (c : After-type_to_access_trie-end) → leaf_of false (take c.type_to_access_trie-end.result c.type_to_access_trie-end.new.out) ≡ type_to_access_trie (items_of c.args.types.now.words.now) c.args.t
leaf c =
    leaf_is c.args.types.now.words.now (good_all _ (known_type c.args.types.now c.requires.typed.known).types.good-items) c.args.t (length c.args.path.now) c.requires.typed.near c.requires.room c.type_to_access_trie-end.ensures

pub type_to_access_trie-end-requires : goal.type_to_access_trie-end-requires
type_to_access_trie-end-requires c =
    record { words_value = ((known_type c.args.types.now c.requires.typed.known).types.good-items, (known_type c.args.types.now c.requires.typed.known).types.tabled); t_bound = (known_type c.args.types.now c.requires.typed.known).known; t_in_bounds = (omega (arith, c.requires.room), omega (arith, c.requires.typed.near)) }

pub slice_bounds-add_access_path-end : goal.slice_bounds-add_access_path-end
slice_bounds-add_access_path-end c = inside (goal.at.slice_bounds-add_access_path-end c).After-type_to_access_trie-end

pub slice_bounds-add_access_path-end-2 : goal.slice_bounds-add_access_path-end-2
slice_bounds-add_access_path-end-2 c = sym (length-take-le _ _ (inside (goal.at.slice_bounds-add_access_path-end-2 c).After-type_to_access_trie-end))

pub add_access_path-requires : goal.add_access_path-requires
add_access_path-requires c =
    record { state = (c.requires.typed.state, c.requires.typed.is_path); below_len_bound = (rw (length-take-le _ _ (inside (goal.at.add_access_path-requires c).After-type_to_access_trie-end)) (few (goal.at.add_access_path-requires c).After-type_to_access_trie-end), below (goal.at.add_access_path-requires c).After-type_to_access_trie-end) }

pub returns : goal.returns
returns c = rw (← leaf (goal.at.returns c).After-type_to_access_trie-end) c.add_access_path.ensures
