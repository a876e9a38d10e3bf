-- `slices::entity::asks_for` meets its contract: the two tests.
use mathlib.Core.Path.{sym}
use borrow.Author.Tests.{eq-eqb, ne_eqb}
use Rattle.slices.proofs.entity.asks_for.Goals as goal

pub returns-then-from-entity : goal.returns-then-from-entity
returns-then-from-entity c =
    rw (sym c.from.ensures.0, eq-eqb c.from.result.id c.args.entity c.if-from-entity.true)

pub returns : goal.returns
returns c =
    rw (sym c.from.ensures.0, ne_eqb c.from.result.id c.args.entity c.if-from-entity.false)
