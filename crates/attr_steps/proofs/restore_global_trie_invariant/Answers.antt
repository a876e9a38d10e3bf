-- `attr_steps::restore_global_trie_invariant` meets its contract: the leaf is empty.
use native.Mathlib.Omega.{arith}
use Rattle.wrapped_paths.specs.Code.{paths_at}
use Rattle.result_stack.specs.JudgingLaws.{fit_none}
use Rattle.attr_steps.proofs.restore_global_trie_invariant.Goals as goal

pub add_wrapped_access_paths-requires : goal.add_wrapped_access_paths-requires
add_wrapped_access_paths-requires c =
    record { paths_to_add = c.requires; below_len_bound = (omega arith, fit_none (paths_at c.args.code.now c.args.places.now)) }
