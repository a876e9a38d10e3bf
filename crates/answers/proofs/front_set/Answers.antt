-- `answers::front_set` meets its contract: test by test.
use native.Mathlib.Omega.{arith}
use mathlib.Core.Path.{sym, ap, ◌∙◌}
use mathlib.Core.Bool.{true, false}
use Rattle.answers.specs.Answers.{front_of}
use Rattle.answers.specs.AnswerLaws.{nothing_at, front_set_long, front_set_ids}
use Rattle.answers.specs.declared.Lending.TheVariants.{Sets}
use Rattle.answers.proofs.front_set.Goals as goal

pub returns-then-words-eq0 : goal.returns-then-words-eq0
returns-then-words-eq0 c = sym (ap front_of (nothing_at Sets c.args.words.now c.if-words-eq0.true))

pub returns-then-words-count : goal.returns-then-words-count
returns-then-words-count c = sym (front_set_long c.args.words.now (omega arith) c.if-words-count.true)

pub returns-then-not-is_id_set : goal.returns-then-not-is_id_set
returns-then-not-is_id_set c =
    let bad = sym c.is_id_set.ensures ∙ c.if-not-is_id_set.true in
    sym (front_set_ids c.args.words.now false c.if-words-count.false bad)

pub returns : goal.returns
returns c =
    let good = sym c.is_id_set.ensures ∙ c.if-not-is_id_set.false in
    sym (front_set_ids c.args.words.now true c.if-words-count.false good)
