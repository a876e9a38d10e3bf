-- `batches::merges::agrees_if_asked` meets its contract: the answers are compared where the row asks for the entity.
use mathlib.Core.Path.{sym}
use borrow.Author.Tests.{eq-eqb, ne_eqb}
use Rattle.batches.proofs.merges.agrees_if_asked.Goals as goal

pub returns-then-from-id : goal.returns-then-from-id
returns-then-from-id c =
    rw (sym c.from.ensures.0, eq-eqb c.from.result.id c.args.id c.if-from-id.true)
    c.agree.ensures

pub returns : goal.returns
returns c =
    rw (sym c.from.ensures.0, ne_eqb c.from.result.id c.args.id c.if-from-id.false)
