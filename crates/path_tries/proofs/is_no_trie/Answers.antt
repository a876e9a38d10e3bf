-- `path_tries::is_no_trie` meets its contract, by its tests.
use borrow.Author.Tests.{eq-eqb, ne_eqb}
use Rattle.path_tries.proofs.is_no_trie.Goals as goal

pub returns-then-steps-ne1 : goal.returns-then-steps-ne1
returns-then-steps-ne1 c = rw (ne_eqb c.args.steps 1 c.if-steps-ne1.true)

pub returns-then-marked : goal.returns-then-marked
returns-then-marked c = rw (eq-eqb c.args.steps 1 c.if-steps-ne1.false, c.if-marked.true)

pub returns : goal.returns
returns c = rw (eq-eqb c.args.steps 1 c.if-steps-ne1.false, c.if-marked.false)
