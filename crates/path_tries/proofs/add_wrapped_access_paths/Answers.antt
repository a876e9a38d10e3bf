-- `path_tries::add_wrapped_access_paths` meets its contract: the paths that are left to be added lead to what all of them give.
use native.Mathlib.Omega.{arith}
use mathlib.Core.Path.{refl, sym, ◌∙◌}
use lib.Seq.{length-take-le}
use lib.ListN.{get_or}
use Rattle.rules.specs.Paths.{add_access_path}
use Rattle.rows.specs.States.{rows_in}
use Rattle.path_tries.specs.Nodes.{Became, leaf_of}
use Rattle.wrapped_paths.specs.Code.{AllWithin, path_at}
use Rattle.path_tries.specs.NodeLaws.{adding_within, adding_path, adding_fit, adding_next, adding_over, adding_all}
use Rattle.path_tries.proofs.add_wrapped_access_paths.Goals as goal
use Rattle.path_tries.proofs.add_wrapped_access_paths.Goals.{After-add_access_path}

-- what a path was added to
became :
    (c : After-add_access_path)
    → let a = c.args in
    Became
    (add_access_path (rows_in c.loop-place.trie) (path_at a.code.now (get_or a.places.now c.loop-place.place-index 0)) (leaf_of a.marked a.below.now))
    c.add_access_path.new.trie
    c.add_access_path.result
became c = rw c.read_path-steps.ensures.1 at c.add_access_path.ensures

pub loop-place-init : goal.loop-place-init
loop-place-init c =
    (omega arith, (refl, record { still = c.requires.paths_to_add.state; within = c.requires.paths_to_add.within; good = c.requires.paths_to_add.all_paths; fit = c.requires.below_len_bound.1; left = refl }))

pub slice_bounds-read_path-end : goal.slice_bounds-read_path-end
slice_bounds-read_path-end c = sym c.loop-place.invariant.1.0

pub read_path-steps-requires : goal.read_path-steps-requires
unfolding AllWithin
read_path-steps-requires c =
    ((adding_within c.loop-place.invariant.1.1 c.loop-place-test.true, tt), (adding_path c.loop-place.invariant.1.1 c.loop-place-test.true, c.loop-place.invariant.1.0))

pub slice_bounds-path-end : goal.slice_bounds-path-end
slice_bounds-path-end c = c.read_path-steps.ensures.0

pub slice_bounds-add_access_path-end : goal.slice_bounds-add_access_path-end
slice_bounds-add_access_path-end c = sym (length-take-le _ _ c.read_path-steps.ensures.0)

pub add_access_path-requires : goal.add_access_path-requires
add_access_path-requires c =
    rw c.read_path-steps.ensures.1
    record { state = (c.loop-place.invariant.1.1.still, adding_path c.loop-place.invariant.1.1 c.loop-place-test.true); below_len_bound = (c.requires.below_len_bound.0, adding_fit c.loop-place.invariant.1.1 c.loop-place-test.true) }

pub returns-then-not-add_access_path : goal.returns-then-not-add_access_path
returns-then-not-add_access_path c =
    adding_over c.loop-place.invariant.1.1 c.loop-place-test.true
    (rw (c.if-not-add_access_path.true) at (became (goal.at.returns-then-not-add_access_path c).After-add_access_path))

pub loop-place-preserved : goal.loop-place-preserved
loop-place-preserved c = (
  omega arith,
  (
    c.read_path-steps.auto.path ∙ c.loop-place.invariant.1.0,
    adding_next c.loop-place.invariant.1.1 c.loop-place-test.true
        (rw (c.if-not-add_access_path.false) at (became (goal.at.loop-place-preserved c).After-add_access_path)),
  ),
)

pub returns : goal.returns
returns c = adding_all c.loop-place.invariant.1.1 (omega arith)
