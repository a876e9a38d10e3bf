-- `path_tries::to_root_access_trie_with_leaf` meets its contract: what is written is the chain of the path and what is below it.
use mathlib.Core.Path.{sym, ◌∙◌}
use Rattle.path_tries.specs.NodeLaws.{no_trie_test, no_run, leaf_room, run_within, run_written, run_packs}
use Rattle.path_tries.proofs.to_root_access_trie_with_leaf.Goals as goal

pub returns-then-is_no_trie : goal.returns-then-is_no_trie
returns-then-is_no_trie c =
    let s = c.args in
    no_run s.path.now s.below.now s.out.now s.marked (no_trie_test s.path.now s.below.now s.marked ∙ sym c.is_no_trie.ensures ∙ c.if-is_no_trie.true)

pub write_deeper-requires : goal.write_deeper-requires
write_deeper-requires c =
    let s = c.args in
    (c.requires.below_value, leaf_room s.path.now s.below.now s.marked c.requires.path.1 c.write_chain-leaf.ensures)

pub returns : goal.returns
returns c =
    let s = c.args in
    let some-there = no_trie_test s.path.now s.below.now s.marked ∙ sym c.is_no_trie.ensures ∙ c.if-is_no_trie.false in
    run_packs s.path.now s.below.now s.marked c.requires.path.0 c.requires.below_value some-there
    (run_within s.path.now s.below.now s.marked c.requires.path.1 c.write_chain-leaf.ensures c.write_deeper.ensures)
    (run_written s.path.now s.below.now s.marked c.requires.path.1 c.write_chain-leaf.ensures c.write_deeper.ensures)
