-- `ancestors::events::take_remaining` meets its contract: the node's children are the rows below its depth behind it.
use native.Mathlib.Omega.{arith}
use Rattle.values.specs.ValueWords.{value_rows_of}
use Rattle.row_walk.specs.BatchLaws.{remaining_below}
use Rattle.ancestors.specs.TakingLaws.{remaining_past_takes}
use Rattle.ancestors.proofs.events.take_remaining.Goals as goal

pub returns-then-nodes-node : goal.returns-then-nodes-node
returns-then-nodes-node c =
    remaining_past_takes c.args.nodes.now c.args.node _ c.args.set c.args.out.now c.args.to c.if-nodes-node.true
    c.requires.0 (omega (arith, c.requires.2))

pub take_below-requires : goal.take_below-requires
take_below-requires c =
    let events = remaining_below c.args.nodes.now c.args.node (value_rows_of c.args.values.now) c.if-nodes-node.false in
    (c.requires.0, omega arith, c.requires.1, rw (c.depth.ensures, ← events) c.requires.2)

pub returns : goal.returns
returns c =
    rw (remaining_below c.args.nodes.now c.args.node (value_rows_of c.args.values.now) c.if-nodes-node.false, ← c.depth.ensures)
    c.take_below.ensures
