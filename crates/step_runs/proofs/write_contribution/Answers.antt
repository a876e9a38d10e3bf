-- `step_runs::write_contribution` meets its contract: the count, the entry's word and the trie's words are stored one after the other.
use Prim.Native.Nat.{◌+◌, ◌≤◌}
use native.Mathlib.Omega.{arith}
use lib.ListN.{length, get_or, length-set}
use Rattle.step_runs.specs.StepRunLaws.{contribution_within, trie_fits, trie_written}
use Rattle.step_runs.proofs.write_contribution.Goals as goal
use Rattle.step_runs.proofs.write_contribution.Goals.{Start}

-- the trie stands in the words
within : (c : Start) → (get_or c.args.tries.now c.args.at 0 ≤ 1024) × (c.args.at + 1 + get_or c.args.tries.now c.args.at 0 ≤ length c.args.tries.now)
within c = contribution_within c.args.tries.now c.args.at c.requires.0

pub offset_bounds-tries-at : goal.offset_bounds-tries-at
offset_bounds-tries-at c = omega (arith, within (goal.at.offset_bounds-tries-at c).Start, c.well_formed.1.0)

pub bounds-tries-at : goal.bounds-tries-at
bounds-tries-at c = omega (arith, within (goal.at.bounds-tries-at c).Start)

pub overflow_add-out : goal.overflow_add-out
overflow_add-out c = omega (arith, within (goal.at.overflow_add-out c).Start)

pub bounds-out-1 : goal.bounds-out-1
bounds-out-1 c = rw length-set (omega arith)

pub overflow_add-first : goal.overflow_add-first
overflow_add-first c = omega (arith, within (goal.at.overflow_add-first c).Start, c.well_formed.1.0)

pub overflow_add-end : goal.overflow_add-end
overflow_add-end c = omega (arith, within (goal.at.overflow_add-end c).Start, c.well_formed.1.0)

pub offset_bounds-tries-first : goal.offset_bounds-tries-first
offset_bounds-tries-first c = omega (arith, within (goal.at.offset_bounds-tries-first c).Start, c.well_formed.1.0)

pub slice_bounds-copy_words-end : goal.slice_bounds-copy_words-end
slice_bounds-copy_words-end c = omega (arith, within (goal.at.slice_bounds-copy_words-end c).Start)

pub copy_words-requires : goal.copy_words-requires
copy_words-requires c = trie_fits c.args.tries.now c.args.at c.args.out.now _ _ c.requires.0 c.requires.1.1

pub shape_of-out : goal.shape_of-out
shape_of-out c = rw (length-set, length-set) at c.copy_words.auto.out

pub returns : goal.returns
returns c = trie_written c.args.tries.now c.args.at c.args.out.now c.args.request c.entry.ensures c.copy_words.ensures
