-- `text::read_decimal` meets its contract: a field without an extra zero is a decimal where it is all digits.
use Prim.Native.Nat.{◌≤◌}
use native.Mathlib.Omega.{arith}
use borrow.Author.Tests.{eq-eqb, ne_eqb}
use mathlib.Core.Bool.{true, false}
use lib.Dec.{eqb}
use mathlib.Core.Path.{◌≡◌, sym, ap, ◌∙◌}
use lib.ListN.{length}
use Rattle.rules.specs.Text.{decimal_of}
use Rattle.rules.proofs.TextLaws.{decimal_up_to_empty, decimal_up_to_zero}
use Rattle.text.proofs.Laws.{ending_at, decimal_to, to_within}
use Rattle.text.proofs.read_decimal.Goals as goal
use Rattle.text.proofs.read_decimal.Goals.{After-digits, In_ok-value}

pub returns-then-n-eq0 : goal.returns-then-n-eq0
returns-then-n-eq0 c = sym (decimal_up_to_empty 65535 c.args.field.now c.if-n-eq0.true)

pub returns-then-field-eq48 : goal.returns-then-field-eq48
returns-then-field-eq48 c = sym (decimal_up_to_zero 65535 c.args.field.now (omega arith) c.if-field-eq48.true)

-- what the field writes, by its digits
by_digits : (c : After-digits) → decimal_of c.args.field.now ≡ ending_at (length c.args.field.now) c.digits.result
by_digits c =
    decimal_to 9 c.args.field.now (omega arith) (omega arith) (λ more. grind arith)
    ∙ ap (ending_at (length c.args.field.now)) (sym c.digits.ensures)

pub returns-in_err-value : goal.returns-in_err-value
returns-in_err-value c =
    rw c.from_residual.ensures (sym (by_digits (goal.at.returns-in_err-value c).After-digits ∙ rw c.in_err-value.was))

-- its digits end in it
within : (c : In_ok-value) → c.in_ok-value.end ≤ length c.args.field.now
within c =
    to_within 9 0 0 c.args.field.now (omega arith) (sym c.digits.ensures ∙ c.in_ok-value.was)

pub returns-then-end-n : goal.returns-then-end-n
returns-then-end-n c =
    let more : eqb c.in_ok-value.end (length c.args.field.now) ≡ false = ne_eqb c.in_ok-value.end (length c.args.field.now) (λ e. omega arith) in
    sym (by_digits (goal.at.returns-then-end-n c).After-digits ∙ rw (c.in_ok-value.was, more))

pub returns : goal.returns
returns c =
    let all : eqb c.in_ok-value.end (length c.args.field.now) ≡ true = eq-eqb c.in_ok-value.end (length c.args.field.now) (omega (arith, within (goal.at.returns c).In_ok-value)) in
    sym (by_digits (goal.at.returns c).After-digits ∙ rw (c.in_ok-value.was, all))
