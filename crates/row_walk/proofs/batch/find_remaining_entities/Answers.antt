-- `row_walk::batch::find_remaining_entities` meets its contract: the node's children are the rows below its depth behind it.
use native.Mathlib.Omega.{arith}
use Rattle.values.specs.ValueWords.{value_rows_of}
use Rattle.row_walk.specs.BatchLaws.{remaining_none, remaining_below}
use Rattle.row_walk.proofs.batch.find_remaining_entities.Goals as goal

pub returns-then-nodes-node : goal.returns-then-nodes-node
returns-then-nodes-node c =
    remaining_none c.args.nodes.now c.args.node _ c.args.out.now c.args.to c.if-nodes-node.true

pub batch_below-requires : goal.batch_below-requires
batch_below-requires c =
    let events = remaining_below c.args.nodes.now c.args.node (value_rows_of c.args.values.now) c.if-nodes-node.false in
    record { from_in_bounds = (omega arith, c.requires.nodes_len_bound); values_in_bounds = rw (c.depth.ensures, ← events) c.requires.values_in_bounds }

pub shape_of-out : goal.shape_of-out
shape_of-out c = c.batch_below.auto.out

pub returns : goal.returns
returns c =
    rw (remaining_below c.args.nodes.now c.args.node _ c.if-nodes-node.false, ← c.depth.ensures) c.batch_below.ensures
