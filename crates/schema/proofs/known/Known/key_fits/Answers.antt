-- `schema::known::Known::key_fits` meets its contract: each branch is a case of `key_fits`.
use borrow.Author.Tests.{le-leb, lt-leb}
use Rattle.schema.proofs.known.Known.key_fits.Goals as goal

pub returns-then-item-le-LAST : goal.returns-then-item-le-LAST
returns-then-item-le-LAST c = rw (le-leb c.args.item.tag 10 c.if-item-le-LAST.true)

pub returns : goal.returns
returns c = rw (lt-leb c.args.item.tag 10 c.if-item-le-LAST.false)
