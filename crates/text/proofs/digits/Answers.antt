-- `text::digits` meets its contract. The loop's invariant: the bytes from `at` on come to what those from `i` on come to after `value`.
use native.Mathlib.Omega.{arith}
use borrow.Author.Tests.{ltb-true, ltb-false}
use mathlib.Core.Logic.{⊎_elim}
use mathlib.Core.Path.{◌≡◌, sym, ◌∙◌}
use lib.ListN.{length}
use Rattle.text.proofs.Laws.{to_past, to_found, to_bad, to_more}
use Rattle.text.proofs.digits.Goals as goal

pub returns-then-digit-b : goal.returns-then-digit-b
returns-then-digit-b c = sym (c.loop-i.invariant.1 ∙ to_found _ _ _ _ c.loop-i-test.true c.if-digit-b.true)

pub returns-then-digit-lt48 : goal.returns-then-digit-lt48
returns-then-digit-lt48 c =
    sym
    (c.loop-i.invariant.1
    ∙ to_bad _ _ _ _ c.loop-i-test.true c.if-digit-b.false
    (λ low high fits. ⊎_elim (λ w. omega arith) (λ w. omega (arith, ltb-true)) c.then-digit-lt48.either))

pub returns-then-value-gt-MOST : goal.returns-then-value-gt-MOST
returns-then-value-gt-MOST c =
    sym
    (c.loop-i.invariant.1
    ∙ to_bad _ _ _ _ c.loop-i-test.true c.if-digit-b.false (λ low high fits. omega arith))

pub loop-i-preserved : goal.loop-i-preserved
loop-i-preserved c = (
  omega arith,
  c.loop-i.invariant.1
      ∙ to_more _ _ _ _ c.loop-i-test.true c.if-digit-b.false (omega arith) (omega (arith, ltb-false)) (omega arith),
)

pub returns : goal.returns
returns c =
    let end : c.loop-i.i ≡ length c.args.s.now = omega arith in
    sym (c.loop-i.invariant.1 ∙ to_past _ _ _ _ c.loop-i-test.false ∙ rw end)
