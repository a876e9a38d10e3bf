-- `ancestors::slice::find_loaded` meets its contract: the entities that are passed are others.
use native.Mathlib.Omega.{arith}
use Prim.Native.Nat.{◌≤◌, ◌<◌}
use mathlib.Core.Path.{refl, ap}
use lib.ListN.{length}
use Rattle.answers.specs.declared.Head.{Head}
use Rattle.ancestors.specs.SliceWordLaws.{found_nothing, past_entity, found_here, passing_next}
use Rattle.ancestors.proofs.slice.find_loaded.Goals as goal
use Rattle.ancestors.proofs.slice.find_loaded.Goals.{After-min-end}

pub loop-at-init : goal.loop-at-init
loop-at-init c = (omega arith, record { most = length c.args.slice.now; enough = omega arith; sofar = refl })

pub overflow_add-at-in-loop-at : goal.overflow_add-at-in-loop-at
overflow_add-at-in-loop-at c = omega (arith, ap (λ (h : Head). h.parents) c.from-head.ensures, c.well_formed.0.1)

pub overflow_add-start : goal.overflow_add-start
overflow_add-start c =
    omega (
      arith,
      ap (λ (h : Head). h.rows) c.from-head.ensures,
      c.min-start.ensures,
      c.well_formed.0.1,
      c.shared_slice_known-in-loop-at-1.given c.loop-at.at,
    )

pub returns-then-head-id : goal.returns-then-head-id
returns-then-head-id c =
    found_here c.loop-at.invariant.1 c.loop-at-test.true _ _ (rw c.from-head.ensures at c.min-start.ensures)
    (rw c.from-head.ensures at c.min-end.ensures) _ refl (rw c.from-head.ensures at c.if-head-id.true)

-- the place after the entity
past :
    (c : After-min-end) →
    (c.loop-at.at < c.min-end.result) × (c.min-end.result ≤ length c.args.slice.now) × (c.min-start.result ≤ c.min-end.result)
past c =
    past_entity c.loop-at.invariant.1 c.loop-at-test.true _ _ (rw c.from-head.ensures at c.min-start.ensures)
    (rw c.from-head.ensures at c.min-end.ensures)

pub offset_bounds-slice-start : goal.offset_bounds-slice-start
offset_bounds-slice-start c = omega (arith, past (goal.at.offset_bounds-slice-start c).After-min-end, c.well_formed.0.1)

pub slice_bounds-result-count : goal.slice_bounds-result-count
slice_bounds-result-count c = omega (arith, past (goal.at.slice_bounds-result-count c).After-min-end)

pub slice_bounds-result-start : goal.slice_bounds-result-start
slice_bounds-result-start c = omega (arith, past (goal.at.slice_bounds-result-start c).After-min-end)

pub slice_bounds-result-end : goal.slice_bounds-result-end
slice_bounds-result-end c = omega (arith, past (goal.at.slice_bounds-result-end c).After-min-end)

pub loop-at-smaller : goal.loop-at-smaller
loop-at-smaller c = omega (arith, past (goal.at.loop-at-smaller c).After-min-end)

pub loop-at-preserved : goal.loop-at-preserved
loop-at-preserved c = (
  (past (goal.at.loop-at-preserved c).After-min-end).1,
  passing_next c.loop-at.invariant.1 c.loop-at-test.true _ _ (rw c.from-head.ensures at c.min-start.ensures)
      (rw c.from-head.ensures at c.min-end.ensures) (rw c.from-head.ensures at c.if-head-id.false),
)

pub returns : goal.returns
returns c = found_nothing c.loop-at.invariant.1 c.loop-at-test.false
