-- `result_stack::trie_end` meets its contract: a trie is as long as its first word says.
use mathlib.Core.Path.{refl}
use native.Mathlib.Omega.{arith}
use Rattle.result_stack.specs.StackLaws.{at_within}
use Rattle.result_stack.proofs.trie_end.Goals as goal

pub overflow_add-result : goal.overflow_add-result
overflow_add-result c = omega (arith, at_within c.requires)

pub offset_bounds-tries-at : goal.offset_bounds-tries-at
offset_bounds-tries-at c = omega (arith, at_within c.requires)

pub bounds-tries-at : goal.bounds-tries-at
bounds-tries-at c = omega (arith, at_within c.requires)

pub overflow_add-result-2 : goal.overflow_add-result-2
overflow_add-result-2 c = omega (arith, at_within c.requires)

pub returns : goal.returns
returns c = (refl, at_within c.requires)
