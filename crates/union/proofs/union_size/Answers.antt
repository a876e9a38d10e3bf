-- `union::union_size` meets its contract: the rows that are passed are counted, and at the end none is left.
use native.Mathlib.Omega.{arith}
use Rattle.union.specs.MergeLaws.{left_ended, size_none, size_next}
use Rattle.union.proofs.union_size.Goals as goal

pub loop-next-init : goal.loop-next-init
loop-next-init c = (omega arith, omega arith, omega arith, size_none _ _)

pub loop-next-preserved : goal.loop-next-preserved
loop-next-preserved c =
    let turn = c.next_row-next.ensures in
    (turn.in_a, turn.in_b, omega (arith, c.loop-next.invariant.2, turn.more, c.with-size.ensures.each), size_next c.loop-next.invariant.3 turn c.with-size.ensures.counted)

pub returns : goal.returns
returns c =
    rw (left_ended _ _ c.loop-next.i c.loop-next.j c.requires.0 c.requires.1 (omega (arith, c.next_key.ensures, c.loop-next-test.false))) at c.loop-next.invariant.3
