-- `result_stack::merge_tries` meets its contract: the tries passed are merged, and those ahead are left to be merged.
use Prim.Native.Nat.{◌+◌, ◌-◌}
use mathlib.Core.Path.{◌≡◌, sym, ◌∙◌}
use native.Mathlib.Omega.{arith}
use lib.ListN.{take, drop, get_or, set, length-set}
use lib.Seq.{get_or-set_same}
use Rattle.rules.specs.Tries.{union}
use Rattle.rows.specs.States.{rows_of, rows_in}
use Rattle.path_tries.specs.Nodes.{Became}
use Rattle.result_stack.specs.StackLaws.{at_within, going_first, going_at, going_nodes, going_next, going_over, merging_done}
use Rattle.result_stack.proofs.merge_tries.Goals as goal
use Rattle.result_stack.proofs.merge_tries.Goals.{After-trie_end-end, After-union_into}

-- the part that is merged has as many words as the trie's first word says
many :
    (c : After-trie_end-end) → c.trie_end-end.result - (c.loop-i.end + 1)
    ≡ get_or c.args.tries.now c.loop-i.end 0
many c = omega (arith, c.trie_end-end.ensures.0)

-- what it was merged into
united : (c : After-union_into) → (c.trie_end-end.result - (c.loop-i.end + 1) ≡ get_or c.args.tries.now c.loop-i.end 0) → Became
    (union
    (rows_in c.loop-i.merged)
    (rows_of
    (take
    (get_or
    c.args.tries.now
    c.loop-i.end
    0)
    (drop
    (c.loop-i.end + 1)
    c.args.tries.now))))
    c.union_into.new.trie
    c.union_into.result
united c many-here = rw many-here at c.union_into.ensures

pub bounds-merged-0 : goal.bounds-merged-0
bounds-merged-0 c = omega (arith, c.requires.1)

pub loop-i-init : goal.loop-i-init
loop-i-init c =
    going_first c.args.tries.now c.args.at c.args.count (set c.args.merged.now 0 0) c.requires.0 (length-set c.args.merged.now 0 0 ∙ c.requires.1) (get_or-set_same c.args.merged.now 0 0 0 (omega (arith, c.requires.1)))

pub overflow_add-first : goal.overflow_add-first
overflow_add-first c = omega (arith, at_within (going_at c.loop-i.invariant c.loop-i-test.true))

pub trie_end-end-requires : goal.trie_end-end-requires
trie_end-end-requires c = going_at c.loop-i.invariant c.loop-i-test.true

pub slice_bounds-union_into-count : goal.slice_bounds-union_into-count
slice_bounds-union_into-count c = omega (arith, c.trie_end-end.ensures)

pub slice_bounds-union_into-start : goal.slice_bounds-union_into-start
slice_bounds-union_into-start c = omega (arith, c.trie_end-end.ensures)

pub slice_bounds-union_into-end : goal.slice_bounds-union_into-end
slice_bounds-union_into-end c = omega (arith, c.trie_end-end.ensures)

pub union_into-requires : goal.union_into-requires
union_into-requires c =
    (c.loop-i.invariant.is, rw (many (goal.at.union_into-requires c).After-trie_end-end) (going_nodes c.loop-i.invariant c.loop-i-test.true))

pub shape_of-merged-then-not-union_into : goal.shape_of-merged-then-not-union_into
shape_of-merged-then-not-union_into c = c.union_into.auto.trie ∙ (c.loop-i.invariant.is.state_length ∙ sym c.requires.1)

pub returns-then-not-union_into : goal.returns-then-not-union_into
returns-then-not-union_into c =
    going_over c.loop-i.invariant c.loop-i-test.true c.args.tries.now (rw (c.if-not-union_into.true) at (united (goal.at.returns-then-not-union_into c).After-union_into (many (goal.at.returns-then-not-union_into c).After-trie_end-end)))

pub loop-i-preserved : goal.loop-i-preserved
loop-i-preserved c =
    going_next c.loop-i.invariant c.loop-i-test.true c.trie_end-end.ensures.0 (rw (c.if-not-union_into.false) at (united (goal.at.loop-i-preserved c).After-union_into (many (goal.at.loop-i-preserved c).After-trie_end-end)))

pub put_trie-requires : goal.put_trie-requires
put_trie-requires c =
    (c.loop-i.invariant.is, (omega (arith, c.loop-i.invariant.room, c.requires.0.some_trie, c.loop-i-test.false), c.loop-i.invariant.inside))

pub shape_of-merged : goal.shape_of-merged
shape_of-merged c = c.loop-i.invariant.is.state_length ∙ sym c.requires.1

pub returns : goal.returns
returns c =
    merging_done c.loop-i.invariant c.loop-i-test.false c.put_trie.ensures
