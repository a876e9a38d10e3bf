-- `merging::next_order` meets its contract: the run that has not ended, or the order of the two rows.
use native.Mathlib.Omega.{arith}
use Rattle.merging.specs.MergeLaws.{chosen_left, chosen_right, chosen_row}
use Rattle.merging.proofs.next_order.Goals as goal

pub returns-then-left-i : goal.returns-then-left-i
returns-then-left-i c = let args = c.args in chosen_right args.left.now args.right.now args.i args.j c.if-left-i.true (omega (arith, c.if-left-i.true, c.requires))

pub returns-then-right-j : goal.returns-then-right-j
returns-then-right-j c = let args = c.args in chosen_left args.left.now args.right.now args.i args.j c.if-left-i.false c.if-right-j.true

pub returns : goal.returns
returns c = let args = c.args in rw c.row_order.ensures (chosen_row args.left.now args.right.now args.i args.j c.if-left-i.false c.if-right-j.false)
