-- `union::judged_size` meets its contract: a sum within the limits decides as the size does.
use native.Mathlib.Omega.{arith}
use Rattle.union.specs.UnionLaws.{decided_by_size, decided_by_sum}
use Rattle.union.proofs.judged_size.Goals as goal

pub returns-then-limits-entries : goal.returns-then-limits-entries
returns-then-limits-entries c = decided_by_size _ _ c.requires.0 c.requires.1 _ c.union_size.ensures

pub returns-then-limits-nodes : goal.returns-then-limits-nodes
returns-then-limits-nodes c = decided_by_size _ _ c.requires.0 c.requires.1 _ c.union_size-then-limits-nodes.ensures

pub returns : goal.returns
returns c = decided_by_sum _ _ c.requires.0 c.requires.1 _ c.row_size-left.ensures.counted c.row_size-right.ensures.counted (omega (arith, c.if-limits-entries.false)) (omega (arith, c.if-limits-nodes.false))
