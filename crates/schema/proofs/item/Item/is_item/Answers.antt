-- `schema::item::Item::is_item` meets its contract: each arm of the match is a case of `is_item`.
use native.Mathlib.Omega.{arith}
use borrow.Author.Tests.{le-leb, lt-leb, ne_eqb}
use Rattle.schema.specs.Items.{is_item}
use Rattle.schema.proofs.item.Item.is_item.Goals as goal

pub returns-then-self-gt65535 : goal.returns-then-self-gt65535
unfolding is_item
returns-then-self-gt65535 c = rw (lt-leb c.args.self.key 65535 c.if-self-gt65535.true)

pub returns-in-9 : goal.returns-in-9
unfolding is_item
returns-in-9 c =
    rw (le-leb c.args.self.key 65535 c.if-self-gt65535.false, c.in-9.is)

pub returns-in-0-to-11 : goal.returns-in-0-to-11
unfolding is_item
returns-in-0-to-11 c =
    rw (le-leb c.args.self.key 65535 c.if-self-gt65535.false, ne_eqb c.args.self.tag 9 (omega arith), ne_eqb c.args.self.tag 6 (omega arith), le-leb c.args.self.tag 11 (omega arith))

pub returns-in_default : goal.returns-in_default
unfolding is_item
returns-in_default c =
    rw (le-leb c.args.self.key 65535 c.if-self-gt65535.false, ne_eqb c.args.self.tag 9 (omega arith), ne_eqb c.args.self.tag 6 (omega arith), lt-leb c.args.self.tag 11 (omega arith), lt-leb c.args.self.tag 14 (omega arith))

pub returns-in-6 : goal.returns-in-6
unfolding is_item
returns-in-6 c =
    rw (le-leb c.args.self.key 65535 c.if-self-gt65535.false, c.in-6.in-6-own.keys1)

pub returns-in-6-2 : goal.returns-in-6-2
unfolding is_item
returns-in-6-2 c =
    rw (le-leb c.args.self.key 65535 c.if-self-gt65535.false, ne_eqb c.args.self.tag 9 (omega arith), ne_eqb c.args.self.tag 6 (omega arith), lt-leb c.args.self.tag 11 (omega arith), le-leb c.args.self.tag 14 (omega arith))
