-- `text::number_at` meets its contract: a field is a 0 and what is behind it, or its digits up to the byte that ends it.
use native.Mathlib.Omega.{arith}
use borrow.Author.Tests.{ltb-true, ltb-false, lt-ltb, le-ltb}
use mathlib.Core.List.{◌∷◌}
use mathlib.Core.Logic.{⊎_elim}
use mathlib.Core.Path.{◌≡◌, sym, ap, ◌∙◌}
use lib.ListN.{length}
use Rattle.rules.specs.Text.{decimal_of}
use Rattle.text.specs.Answers.{number_at}
use Rattle.text.proofs.Laws.{number_past, number_passed, number_undigit, number-to, ending_before}
use Rattle.text.proofs.number_at.Goals as goal
use Rattle.text.proofs.number_at.Goals.{After-digits}

pub returns-then-s-at : goal.returns-then-s-at
returns-then-s-at c = let a = c.args in sym (number_past decimal_of a.b a.at a.s.now c.if-s-at.true)

pub returns-then-first-eq48 : goal.returns-then-first-eq48
returns-then-first-eq48 c =
    let a = c.args in
    c.zero.ensures
    ∙ sym (number_passed decimal_of a.b a.at a.s.now c.if-s-at.false (λ e. omega (arith, c.requires))
    (λ field. decimal_of (48 ∷ field)) λ part. rw c.if-first-eq48.true)

pub returns-then-first-lt48 : goal.returns-then-first-lt48
returns-then-first-lt48 c =
    let a = c.args in
    sym
    (number_undigit a.b a.s.now c.requires a.at c.if-s-at.false
    (λ low high. ⊎_elim (λ w. omega arith) (λ w. omega (arith, ltb-true)) c.then-first-lt48.either))

-- what the field is, by its digits
by_digits : (c : After-digits) → let a = c.args in number_at a.b a.s.now a.at ≡ ending_before (length a.s.now) c.digits.result
by_digits c =
    let a = c.args in
    number-to a.b a.s.now c.requires a.at c.if-s-at.false (omega (arith, c.if-first-lt48.false, c.if-first-eq48.false)) (omega (arith, ltb-false))
    ∙ ap (ending_before (length a.s.now)) (sym c.digits.ensures)

pub returns-in_err-value : goal.returns-in_err-value
returns-in_err-value c =
    rw c.from_residual.ensures (sym (by_digits (goal.at.returns-in_err-value c).After-digits ∙ rw c.in_err-value.was))

pub returns-then-s-end : goal.returns-then-s-end
returns-then-s-end c =
    sym (by_digits (goal.at.returns-then-s-end c).After-digits ∙ rw (c.in_ok-value.was, le-ltb c.in_ok-value.end (length c.args.s.now) c.if-s-end.true))

pub returns : goal.returns
returns c =
    sym (by_digits (goal.at.returns c).After-digits ∙ rw (c.in_ok-value.was, lt-ltb c.in_ok-value.end (length c.args.s.now) c.if-s-end.false))
