-- `merging::next_turn` meets its contract: by the side that has the next row.
use Rattle.merging.specs.Merges.{Chosen}
use Rattle.merging.specs.MergeLaws.{turned_left, turned_right, turned_both, turned_apart}
use Rattle.std.specs.declared.cmp.Ordering.TheVariants.{Less, Equal, Greater}
use Rattle.merging.proofs.next_turn.Goals as goal
use Rattle.merging.proofs.next_turn.Goals.{In-Equal, In-Less, In-Greater}

-- the side that was answered has the next row
on-left : (c : In-Less) → let args = c.args in Chosen args.left.now args.right.now args.i args.j Less
on-left c = rw c.in-Less.is at c.next_order.ensures

on-right : (c : In-Greater) → let args = c.args in Chosen args.left.now args.right.now args.i args.j Greater
on-right c = rw c.in-Greater.is at c.next_order.ensures

on_both : (c : In-Equal) → let args = c.args in Chosen args.left.now args.right.now args.i args.j Equal
on_both c = rw c.in-Equal.is at c.next_order.ensures

pub bounds-left-i : goal.bounds-left-i
bounds-left-i c = (on-left (goal.at.bounds-left-i c).In-Less).0

pub bounds-right-j : goal.bounds-right-j
bounds-right-j c = (on-right (goal.at.bounds-right-j c).In-Greater).0

pub bounds-left-i-in-Equal : goal.bounds-left-i-in-Equal
bounds-left-i-in-Equal c = (on_both (goal.at.bounds-left-i-in-Equal c).In-Equal).0

pub bounds-right-j-in-Equal : goal.bounds-right-j-in-Equal
bounds-right-j-in-Equal c = (on_both (goal.at.bounds-right-j-in-Equal c).In-Equal).1

pub returns-then-word-right : goal.returns-then-word-right
returns-then-word-right c = let args = c.args in turned_apart args.left.now args.right.now args.i args.j args.inside c.requires.0 c.requires.1 (on_both (goal.at.returns-then-word-right c).In-Equal) c.if-word-right.true

pub returns-in-Less : goal.returns-in-Less
returns-in-Less c = let args = c.args in rw c.take_alone.ensures (turned_left args.left.now args.right.now args.i args.j args.inside c.requires.0 c.requires.1 (on-left (goal.at.returns-in-Less c).In-Less))

pub returns-in-Greater : goal.returns-in-Greater
returns-in-Greater c = let args = c.args in rw c.take_alone-in-Greater.ensures (turned_right args.left.now args.right.now args.i args.j args.inside c.requires.0 c.requires.1 (on-right (goal.at.returns-in-Greater c).In-Greater))

pub returns-else-word-right : goal.returns-else-word-right
returns-else-word-right c = let args = c.args in turned_both args.left.now args.right.now args.i args.j args.inside c.requires.0 c.requires.1 c.inside_after.result (on_both (goal.at.returns-else-word-right c).In-Equal) c.if-word-right.false c.inside_after.ensures
