-- `in_steps::with_ancestors_required` meets its contract: the right paths, marked, are what stands below each left one.
use Prim.Native.Nat.{◌+◌, ◌-◌}
use native.Mathlib.Nat.{add-sub_cancel}
use native.Mathlib.Omega.{arith}
use mathlib.Core.Path.{sym, ◌∙◌}
use Rattle.std.proofs.Common.{eqb-true}
use Rattle.std.proofs.lemmas.Bool.{eqb-false}
use lib.ListN.{length, drop, get_or, length-take}
use Rattle.wrapped_paths.specs.Code.{paths_at}
use Rattle.result_stack.specs.StackLaws.{zero_state}
use Rattle.in_steps.specs.AncestorLaws.{paths_many, paths_none, ancestors_none, ancestors_over, ancestors_fit, ancestors_done}
use Rattle.in_steps.proofs.with_ancestors_required.Goals as goal

pub returns-then-is_empty : goal.returns-then-is_empty
returns-then-is_empty c =
    ancestors_none (paths_at c.args.code.now c.args.left.now) (paths_at c.args.code.now c.args.right.now) c.requires.paths_to_add.state (paths_none c.args.code.now c.args.left.now (eqb-true _ 0 (sym c.is_empty.ensures ∙ c.if-is_empty.true)))

pub to_ancestor_access_trie-requires : goal.to_ancestor_access_trie-requires
to_ancestor_access_trie-requires c =
    let (within, all_paths) = c.requires.all_within in
    record { state = zero_state; within = within; all_paths = all_paths }

pub returns-then-not-to_ancestor_access_trie : goal.returns-then-not-to_ancestor_access_trie
returns-then-not-to_ancestor_access_trie c =
    ancestors_over (paths_at c.args.code.now c.args.left.now) (paths_at c.args.code.now c.args.right.now) c.to_ancestor_access_trie.ensures c.requires.paths_to_add.state (omega (arith, paths_many c.args.code.now c.args.left.now, eqb-false (length c.args.left.now) 0 (sym c.is_empty.ensures ∙ c.if-is_empty.false))) (c.if-not-to_ancestor_access_trie.true)

pub add_wrapped_access_paths-requires : goal.add_wrapped_access_paths-requires
add_wrapped_access_paths-requires c =
    record { paths_to_add = c.requires.paths_to_add; below_len_bound = (omega (arith, length-take (get_or c.to_ancestor_access_trie.new.trie 0 0 + 1 - 1) (drop 1 c.to_ancestor_access_trie.new.trie), c.to_ancestor_access_trie.ensures.still.few_rows), rw add-sub_cancel (ancestors_fit (paths_at c.args.code.now c.args.left.now) (paths_at c.args.code.now c.args.right.now) c.to_ancestor_access_trie.ensures (c.if-not-to_ancestor_access_trie.false) c.requires.right_value)) }

pub returns : goal.returns
returns c =
    ancestors_done (paths_at c.args.code.now c.args.left.now) (paths_at c.args.code.now c.args.right.now) c.to_ancestor_access_trie.ensures c.args.trie.now (c.if-not-to_ancestor_access_trie.false) (simp add-sub_cancel at c.add_wrapped_access_paths.ensures)
