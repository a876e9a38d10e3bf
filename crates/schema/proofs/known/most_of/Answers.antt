-- `schema::known::most_of` meets its contract: each branch is a case of `most_of`.
use borrow.Author.Tests.{ne_eqb}
use Rattle.schema.proofs.known.most_of.Goals as goal

pub returns-then-section-eq2 : goal.returns-then-section-eq2
returns-then-section-eq2 c = rw c.if-section-eq2.true

pub returns-else-section-eq2 : goal.returns-else-section-eq2
returns-else-section-eq2 c = rw (ne_eqb c.args.section 2 c.if-section-eq2.false)
