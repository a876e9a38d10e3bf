-- `row_walk::walk::visit` meets its contract: one row of the walk.
use native.Mathlib.Omega.{arith}
use Prim.Native.Nat.{◌-◌, ◌<◌}
use mathlib.Core.Path.{◌≡◌}
use lib.ListN.{get_or}
use Rattle.rows.specs.Words.{depth_in}
use Rattle.row_walk.specs.MeetingLaws.{visited}
use Rattle.row_walk.proofs.walk.visit.Goals as goal
use Rattle.row_walk.proofs.walk.visit.Goals.{After-kept_by}

-- the store lies within
place_within : (c : After-kept_by) → c.min-to.result < 32
place_within c =
    omega (arith, c.min-to.ensures, c.depth.ensures)

pub offset_bounds-kept-to : goal.offset_bounds-kept-to
offset_bounds-kept-to c = omega (arith, place_within (goal.at.offset_bounds-kept-to c).After-kept_by)

pub bounds-kept-to : goal.bounds-kept-to
bounds-kept-to c = omega (arith, place_within (goal.at.bounds-kept-to c).After-kept_by)

pub overflow_add-result : goal.overflow_add-result
overflow_add-result c = omega (arith, place_within (goal.at.overflow_add-result c).After-kept_by)

pub returns : goal.returns
returns c =
    let below : c.depth.result - c.args.depth ≡ depth_in (get_or c.args.nodes.now c.args.node 0) - c.args.depth = rw c.depth.ensures in
    rw (c.min-to.ensures, c.kept_by.ensures)
    (visited c.args.nodes.now c.args.values.now c.args.depth c.args.kept.now c.args.len c.args.node c.requires.node_in_bounds.0
    (c.depth.result - c.args.depth) c.kept_at-above.result c.find_remaining_entities_value-rule.result
    c.requires.node_in_bounds.1 c.requires.len_in_bounds.0 c.requires.len_in_bounds.1 below c.kept_at-above.ensures c.find_remaining_entities_value-rule.ensures)
