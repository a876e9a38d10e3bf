-- `schema::known::Known::value_fits` meets its contract: each branch is a case of `value_fits`.
use borrow.Author.Tests.{le-leb, lt-leb, eq-eqb, ne_eqb}
use Rattle.schema.proofs.known.Known.value_fits.Goals as goal

pub returns-then-item-eq-SET : goal.returns-then-item-eq-SET
returns-then-item-eq-SET c = rw (eq-eqb c.args.item.tag 6 c.if-item-eq-SET.true)

pub returns-then-item-le-ATTRIBUTE_LINE : goal.returns-then-item-le-ATTRIBUTE_LINE
returns-then-item-le-ATTRIBUTE_LINE c =
    rw (ne_eqb c.args.item.tag 6 c.if-item-eq-SET.false, le-leb c.args.item.tag 12 c.if-item-le-ATTRIBUTE_LINE.true)

pub returns : goal.returns
returns c =
    rw (ne_eqb c.args.item.tag 6 c.if-item-eq-SET.false, lt-leb c.args.item.tag 12 c.if-item-le-ATTRIBUTE_LINE.false)
