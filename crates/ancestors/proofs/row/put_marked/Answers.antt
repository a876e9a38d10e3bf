-- `ancestors::row::put_marked` meets its contract: the id is put where the node is there and marked.
use mathlib.Core.Path.{sym, ◌∙◌}
use Rattle.rows.specs.States.{rows_of}
use Rattle.ancestors.specs.RowLaws.{mark_there, mark_past, puts_mark, puts_none}
use Rattle.ancestors.proofs.row.put_marked.Goals as goal

pub returns-then-is_marked : goal.returns-then-is_marked
returns-then-is_marked c =
    let marked = mark_there c.args.nodes.now c.args.node c.if-node-nodes.true ∙ sym c.is_marked.ensures ∙ c.if-is_marked.true in
    puts_mark (rows_of c.args.nodes.now) c.args.node c.args.set c.args.id marked c.put.ensures

pub returns-else-is_marked : goal.returns-else-is_marked
returns-else-is_marked c =
    let unmarked = mark_there c.args.nodes.now c.args.node c.if-node-nodes.true ∙ sym c.is_marked.ensures ∙ c.if-is_marked.false in
    puts_none (rows_of c.args.nodes.now) c.args.node c.args.set c.args.id unmarked c.requires

pub returns-else-node-nodes : goal.returns-else-node-nodes
returns-else-node-nodes c =
    puts_none (rows_of c.args.nodes.now) c.args.node c.args.set c.args.id
    (mark_past c.args.nodes.now c.args.node c.if-node-nodes.false) c.requires
