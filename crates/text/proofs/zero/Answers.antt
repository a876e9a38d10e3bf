-- `text::zero` meets its contract: behind a 0 a field ends, or it is no decimal.
use mathlib.Core.List.{◌∷◌}
use mathlib.Core.Path.{refl, sym}
use native.Mathlib.Omega.{arith}
use Rattle.rules.specs.Text.{decimal_up_to, decimal_of, number_from}
use Rattle.rules.proofs.TextLaws.{decimal_up_to_zero}
use Rattle.text.proofs.Laws.{number_past, number_found, number_bad}
use Rattle.text.proofs.zero.Goals as goal

pub returns-then-s-at : goal.returns-then-s-at
returns-then-s-at c = let a = c.args in sym (number_past (λ field. decimal_of (48 ∷ field)) a.b a.at a.s.now c.if-s-at.true)

pub returns-then-s-at-2 : goal.returns-then-s-at-2
unfolding decimal_up_to number_from
returns-then-s-at-2 c =
    let a = c.args in
    sym (number_found (λ field. decimal_of (48 ∷ field)) a.b a.at a.s.now c.if-s-at.false c.if-s-at-2.true)

pub returns : goal.returns
returns c =
    let a = c.args in
    sym (number_bad (λ field. decimal_of (48 ∷ field)) a.b a.at a.s.now c.if-s-at.false c.if-s-at-2.false λ part.
    decimal_up_to_zero 65535 _ (omega arith) refl)
