-- `full_types::add_typed` meets its contract: either buffer is long enough, or no trie would be.
use native.Mathlib.Omega.{arith}
use Rattle.full_types.specs.FullLaws.{pairs_too_many, too_many_sized, few_sized}
use Rattle.type_table.specs.TypeTableLaws.{tabled_inside}
use Rattle.full_types.proofs.add_typed.Goals as goal

pub size_at-nodes-requires : goal.size_at-nodes-requires
size_at-nodes-requires c =
    tabled_inside c.args.types.now.words.now c.args.types.now.table.now c.args.types.now.good.good-items c.args.types.now.good.tabled c.requires.known

pub returns-then-nodes-gt-CONTRIBUTION_NODES : goal.returns-then-nodes-gt-CONTRIBUTION_NODES
returns-then-nodes-gt-CONTRIBUTION_NODES c =
    let sized = c.args.types.now.good.tabled.1 c.args.t c.requires.known in
    pairs_too_many c.args.types.now.words.now c.args.trie.now c.args.path.now c.args.t c.requires.state
    (too_many_sized sized (rw c.size_at-nodes.ensures.1.1 at c.if-nodes-gt-CONTRIBUTION_NODES.true))

pub add_typed_by-requires : goal.add_typed_by-requires
add_typed_by-requires c =
    let sized = c.args.types.now.good.tabled.1 c.args.t c.requires.known in
    record { typed = c.requires; room = few_sized sized (omega arith) (rw c.size_at-nodes.ensures.1.1 at c.if-nodes.true); few_words = omega arith }

pub add_typed_by-requires-2 : goal.add_typed_by-requires-2
add_typed_by-requires-2 c =
    let sized = c.args.types.now.good.tabled.1 c.args.t c.requires.known in
    record { typed = c.requires; room = few_sized sized (omega arith) (rw c.size_at-nodes.ensures.1.1 at c.if-nodes-gt-CONTRIBUTION_NODES.false); few_words = omega arith }
