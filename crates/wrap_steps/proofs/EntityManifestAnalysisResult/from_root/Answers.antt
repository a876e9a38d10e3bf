-- `wrap_steps::EntityManifestAnalysisResult::from_root` meets its contract: a path that is its root is pushed, and its trie is empty.
use native.Mathlib.Omega.{arith}
use mathlib.Core.Path.{refl}
use mathlib.Core.List.{[], ◌∷◌}
use Rattle.rules.specs.Paths.{AccessPath, nodes_of, to_root_access_trie_with_leaf}
use Rattle.wrapped_paths.specs.Code.{code}
use Rattle.wrap_steps.proofs.EntityManifestAnalysisResult.from_root.Goals as goal

pub overflow_cast-kind : goal.overflow_cast-kind
overflow_cast-kind c = omega arith

pub overflow_cast-id : goal.overflow_cast-id
overflow_cast-id c = omega arith

pub returns : goal.returns
unfolding code nodes_of to_root_access_trie_with_leaf
returns c results held = c.push.ensures (AccessPath (c.args.root ∷ [])) results (rw c.word.ensures) refl held
