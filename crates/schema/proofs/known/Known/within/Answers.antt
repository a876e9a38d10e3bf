-- `schema::known::Known::within` meets its contract: each branch is a case of `within`.
use borrow.Author.Tests.{eq-eqb, ne_eqb}
use Rattle.schema.proofs.known.Known.within.Goals as goal

pub returns-then-self-section : goal.returns-then-self-section
returns-then-self-section c =
    let a = c.args in
    rw (eq-eqb a.self.section a.section c.if-self-section.true)

pub returns : goal.returns
returns c =
    let (_, (lines, (least, (_, (room, (field, bound)))))) = c.default.ensures in
    rw (ne_eqb c.args.self.section c.args.section c.if-self-section.false, lines, least, room, field, bound)
