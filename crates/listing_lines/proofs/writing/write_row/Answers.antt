-- `listing_lines::writing::write_row` meets its contract: the line of an entry at depth 0, otherwise that of a node.
use native.Mathlib.Omega.{arith}
use mathlib.Core.Path.{◌≡◌}
use Rattle.rules.specs.Listing.{read}
use Rattle.rows.specs.Words.{row_in}
use Rattle.listing_lines.specs.Lines.{line_for}
use Rattle.listing_lines.specs.WriteLaws.{node_line, node_word_kind}
use Rattle.listing_lines.proofs.writing.write_row.Goals as goal
use Rattle.listing_lines.proofs.writing.write_row.Goals.{After-is_marked, Then-depth-eq0}

node_row :
    (c : After-is_marked) →
    line_for (row_in c.args.row.word) ≡ line_for (read c.depth-depth.result c.step-step.result c.is_marked.result)
node_row c = node_line _ c.depth-depth.ensures c.step-step.ensures c.is_marked.ensures

pub write_node-requires : goal.write_node-requires
write_node-requires c = (
  omega (arith, c.if-depth-eq0.false),
  node_word_kind _ c.depth-depth.ensures c.step-step.ensures c.requires.0 c.if-depth-eq0.false,
  rw (node_row (goal.at.write_node-requires c).After-is_marked) at c.requires.1,
)
