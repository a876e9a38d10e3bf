-- `row_walk::initial::entity_named` meets its contract: by the root's kind.
use mathlib.Core.Path.{◌≡◌, sym, ◌∙◌}
use borrow.Author.Tests.{eq-eqb, ne_eqb}
use Rattle.rules.specs.Tries.{kind_of}
use Rattle.row_walk.proofs.initial.entity_named.Goals as goal
use Rattle.row_walk.proofs.initial.entity_named.Goals.{After-from-parts}

-- the root's kind
kind-of : (c : After-from-parts) → c.from-parts.result.kind ≡ kind_of c.args.step
kind-of c = c.from-parts.ensures.0

pub returns-then-parts-eq1 : goal.returns-then-parts-eq1
returns-then-parts-eq1 c = rw (eq-eqb (kind_of c.args.step) 1 (sym (kind-of (goal.at.returns-then-parts-eq1 c).After-from-parts) ∙ c.if-parts-eq1.true))

pub returns-then-parts-eq2 : goal.returns-then-parts-eq2
returns-then-parts-eq2 c =
    rw (ne_eqb (kind_of c.args.step) 1 (λ e. c.if-parts-eq1.false (kind-of (goal.at.returns-then-parts-eq2 c).After-from-parts ∙ e)), eq-eqb (kind_of c.args.step) 2 (sym (kind-of (goal.at.returns-then-parts-eq2 c).After-from-parts) ∙ c.if-parts-eq2.true)) c.from.ensures.1

pub returns-then-parts-eq3 : goal.returns-then-parts-eq3
returns-then-parts-eq3 c =
    rw (
      ne_eqb (kind_of c.args.step) 1 (λ e. c.if-parts-eq1.false (kind-of (goal.at.returns-then-parts-eq3 c).After-from-parts ∙ e)),
      ne_eqb (kind_of c.args.step) 2 (λ e. c.if-parts-eq2.false (kind-of (goal.at.returns-then-parts-eq3 c).After-from-parts ∙ e)),
      eq-eqb (kind_of c.args.step) 3 (sym (kind-of (goal.at.returns-then-parts-eq3 c).After-from-parts) ∙ c.if-parts-eq3.true),
    )

pub returns : goal.returns
returns c =
    rw (
      ne_eqb (kind_of c.args.step) 1 (λ e. c.if-parts-eq1.false (kind-of (goal.at.returns c).After-from-parts ∙ e)),
      ne_eqb (kind_of c.args.step) 2 (λ e. c.if-parts-eq2.false (kind-of (goal.at.returns c).After-from-parts ∙ e)),
      ne_eqb (kind_of c.args.step) 3 (λ e. c.if-parts-eq3.false (kind-of (goal.at.returns c).After-from-parts ∙ e)),
    )
    c.from-parts.ensures.1
