-- `type_table::is_attribute` meets its contract: the tag of the word is asked.
use lib.ListN.{length}
use borrow.Author.Tests.{lt-ltb, le-ltb}
use mathlib.Core.Path.{ap}
use Rattle.rules.specs.Schema.{Item}
use Rattle.type_table.specs.Tables.{attribute_at}
use Rattle.type_table.proofs.is_attribute.Goals as goal

pub returns-then-words-at : goal.returns-then-words-at
unfolding attribute_at
returns-then-words-at c = rw (le-ltb c.args.at (length c.args.words.now) c.if-words-at.true)

pub returns : goal.returns
unfolding attribute_at
returns c = rw (lt-ltb c.args.at (length c.args.words.now) c.if-words-at.false, ap (λ (it : Item). it.tag) c.from.ensures)
