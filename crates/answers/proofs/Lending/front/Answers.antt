-- `answers::Lending::front` meets its contract: what lent words hold decides.
use mathlib.Core.Path.{◌≡◌, sym, subst}
use Rattle.answers.specs.Answers.{front_of, item_at}
use Rattle.answers.specs.declared.Lending.{Lending}
use Rattle.answers.proofs.Lending.front.Goals as goal

pub front_answer-requires : goal.front_answer-requires
front_answer-requires c = rw c.in-Answers.is at c.requires

pub returns-in-Answers : goal.returns-in-Answers
returns-in-Answers c =
    subst (λ (lent : Lending). c.front_answer.result ≡ front_of (item_at lent c.args.words.now)) (sym c.in-Answers.is)
    c.front_answer.ensures

pub returns-in-Sets : goal.returns-in-Sets
returns-in-Sets c =
    subst (λ (lent : Lending). c.front_set.result ≡ front_of (item_at lent c.args.words.now)) (sym c.in-Sets.is) c.front_set.ensures
