-- `ancestors::requests::has_ancestors_trie` meets its contract.
use Prim.Native.Nat.{◌+◌}
use mathlib.Core.Path.{sym, ap, ◌∙◌}
use mathlib.Core.Bool.{false}
use lib.ListN.{drop}
use Rattle.rules.specs.Loading.{has_child}
use Rattle.rows.specs.States.{rows_of}
use Rattle.row_walk.specs.RowWalks.{child_test}
use Rattle.ancestors.specs.Requests.{roots_below}
use Rattle.ancestors.specs.RequestLaws.{roots_past, roots_there}
use Rattle.ancestors.proofs.requests.has_ancestors_trie.Goals as goal

pub returns-then-nodes-node : goal.returns-then-nodes-node
returns-then-nodes-node c =
    rw (sym c.from-node.ensures.1) (sym (roots_past c.args.nodes.now _ c.if-nodes-node.true))

pub returns : goal.returns
returns c =
    c.has_child.ensures
    ∙ ap (λ d. has_child (child_test false) d (rows_of (drop (c.from-node.result.node + 1) c.args.nodes.now))) c.depth.ensures
    ∙ sym (roots_there c.args.nodes.now c.from-node.result.node c.if-nodes-node.false)
    ∙ ap (λ n. roots_below (drop n (rows_of c.args.nodes.now))) c.from-node.ensures.1
