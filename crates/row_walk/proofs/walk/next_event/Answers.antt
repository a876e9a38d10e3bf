-- `row_walk::walk::next_event` meets its contract: at the rows that are passed nothing is met.
use native.Mathlib.Omega.{arith}
use mathlib.Core.Path.{◌≡◌, refl, ◌∙◌}
use lib.ListN.{length}
use Rattle.row_walk.specs.MeetingLaws.{meets_last, meets_above, meets_met, nothing_more}
use Rattle.row_walk.proofs.walk.next_event.Goals as goal
use Rattle.row_walk.proofs.walk.next_event.Goals.{After-visit-visited}

pub loop-node-init : goal.loop-node-init
loop-node-init c =
    record { rest = refl; onward = omega arith; counts = c.requires.0; same = refl }

pub shape_of-kept-then-depth : goal.shape_of-kept-then-depth
shape_of-kept-then-depth c = c.loop-node.invariant.same

pub returns-then-depth : goal.returns-then-depth
returns-then-depth c = meets_above c.loop-node.invariant c.loop-node-test.true (omega arith)

pub visit-visited-requires : goal.visit-visited-requires
visit-visited-requires c = record { node_in_bounds = (c.loop-node-test.true, omega arith); len_in_bounds = (omega arith, omega (arith, c.requires.1)) }

-- what is kept has the length that it had
same_after : (c : After-visit-visited) → length c.visit-visited.new.kept ≡ length c.args.kept.now
same_after c = c.visit-visited.auto.kept ∙ c.loop-node.invariant.same

pub shape_of-kept-in-Met : goal.shape_of-kept-in-Met
shape_of-kept-in-Met c = same_after (goal.at.shape_of-kept-in-Met c).After-visit-visited

pub returns-in-Met : goal.returns-in-Met
returns-in-Met c = meets_met c.loop-node.invariant c.visit-visited.ensures c.loop-node-test.true c.in-Met.is

pub loop-node-preserved : goal.loop-node-preserved
loop-node-preserved c = nothing_more c.loop-node.invariant c.visit-visited.ensures c.loop-node-test.true c.in-Kept.is c.visit-visited.auto.kept

pub shape_of-kept : goal.shape_of-kept
shape_of-kept c = c.loop-node.invariant.same

pub returns : goal.returns
returns c = meets_last c.loop-node.invariant c.loop-node-test.false
