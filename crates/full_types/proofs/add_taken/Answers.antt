-- `full_types::add_taken` meets its contract: adding the pairs that are left gives the trie of all.
use Prim.Native.Nat.{◌+◌, ◌≤◌, ◌<◌}
use lib.ListN.{get_or, length}
use Rattle.rules.specs.Paths.{add_access_path, type_to_access_trie}
use Rattle.rows.specs.States.{rows_in}
use Rattle.wrapped_paths.specs.Code.{steps_at, path_at, AllWithin}
use Rattle.path_tries.specs.Nodes.{Became}
use mathlib.Core.Path.{refl, sym, ◌∙◌}
use lib.Seq.{length-take-le}
use Rattle.rules.proofs.StepLaws.{IsPath}
use Rattle.schema.specs.Items.{items_of}
use Rattle.full_types.specs.Pairs.{pair_place, pair_type}
use Rattle.full_types.specs.FullLaws.{adding_none, pairs_added, pairs_over, pairs_next, pair_at, taken_path, taken_near}
use Rattle.full_types.proofs.add_taken.Goals as goal
use Rattle.full_types.proofs.add_taken.Goals.{After-add_typed, In-loop-word}

-- the next pair is one
pair :
    (c : In-loop-word) →
    let args = c.args in
    let next = get_or args.pairs.now c.loop-word.word-index 0 in
    (pair_place next + 1 + steps_at args.code.now (pair_place next) ≤ length args.code.now) × (pair_type next < args.types.now.count)
pair c =
    pair_at c.args.code.now c.args.types.now.count c.args.pairs.now c.loop-word.word-index c.requires.all_pairs c.loop-word-test.true

-- and its path is one
is_path :
    (c : In-loop-word) →
    let args = c.args in
    IsPath (path_at args.code.now (pair_place (get_or args.pairs.now c.loop-word.word-index 0)))
is_path c =
    taken_path c.args.code.now c.args.pairs.now c.loop-word.word-index c.requires.all_paths c.loop-word-test.true

-- it is added to the trie
added :
    (c : After-add_typed) →
    let args = c.args in
    let next = get_or args.pairs.now c.loop-word.word-index 0 in
    Became
    (add_access_path (rows_in c.loop-word.trie) (path_at args.code.now (pair_place next)) (type_to_access_trie (items_of args.types.now.words.now) (pair_type next)))
    c.add_typed.new.trie
    c.add_typed.result
added c = rw (c.read_path-steps.ensures.1, c.of-pair.ensures.0, c.of-pair.ensures.1) at c.add_typed.ensures

pub loop-word-init : goal.loop-word-init
loop-word-init c = (refl, adding_none _ _ _ _ c.requires.state)

pub slice_bounds-read_path-end : goal.slice_bounds-read_path-end
slice_bounds-read_path-end c = sym c.loop-word.invariant.0

pub read_path-steps-requires : goal.read_path-steps-requires
unfolding AllWithin
read_path-steps-requires c = rw c.of-pair.ensures.0 (((pair (goal.at.read_path-steps-requires c).In-loop-word).0, tt), (is_path (goal.at.read_path-steps-requires c).In-loop-word, c.loop-word.invariant.0))

pub slice_bounds-path-end : goal.slice_bounds-path-end
slice_bounds-path-end c = c.read_path-steps.ensures.0

pub slice_bounds-add_typed-end : goal.slice_bounds-add_typed-end
slice_bounds-add_typed-end c = sym (length-take-le _ _ c.read_path-steps.ensures.0)

pub add_typed-requires : goal.add_typed-requires
add_typed-requires c =
    record {
      known = rw c.of-pair.ensures.1 (pair (goal.at.add_typed-requires c).In-loop-word).1;
      state = c.loop-word.invariant.1.state;
      is_path = rw (c.read_path-steps.ensures.1, c.of-pair.ensures.0) (is_path (goal.at.add_typed-requires c).In-loop-word);
      near = rw (c.read_path-steps.ensures.1, c.of-pair.ensures.0, c.of-pair.ensures.1) (taken_near c.args.types.now.words.now c.args.code.now c.args.pairs.now c.loop-word.word-index c.requires.none_deep c.loop-word-test.true);
    }

pub shape_of-trie-then-not-add_typed : goal.shape_of-trie-then-not-add_typed
shape_of-trie-then-not-add_typed c = (added (goal.at.shape_of-trie-then-not-add_typed c).After-add_typed).still.state_length ∙ sym c.requires.state.state_length

pub returns-then-not-add_typed : goal.returns-then-not-add_typed
returns-then-not-add_typed c = pairs_over c.loop-word.invariant.1 c.loop-word-test.true (added (goal.at.returns-then-not-add_typed c).After-add_typed) (c.if-not-add_typed.true)

pub loop-word-preserved : goal.loop-word-preserved
loop-word-preserved c = (
  c.read_path-steps.auto.path ∙ c.loop-word.invariant.0,
  pairs_next c.loop-word.invariant.1 c.loop-word-test.true (added (goal.at.loop-word-preserved c).After-add_typed) (c.if-not-add_typed.false),
)

pub shape_of-trie : goal.shape_of-trie
shape_of-trie c = c.loop-word.invariant.1.state.state_length ∙ sym c.requires.state.state_length

pub returns : goal.returns
returns c = pairs_added c.loop-word.invariant.1 c.loop-word-test.false
