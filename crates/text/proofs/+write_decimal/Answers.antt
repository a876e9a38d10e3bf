-- `text::write_decimal` meets its contract: the call writes the decimal of its tenth.
use Rattle.std.proofs.Common.{ℕ, ◌+◌, ◌≤◌, ◌^◌, ◌/◌, ◌%◌, ◌<◌, ◌≡◌, ap, ◌∙◌, arith, [], ◌∷◌, ◌++◌, length, length-append}
use Rattle.rules.specs.Text.{decimal}
use Rattle.rules.proofs.TextLaws.{decimal_in_digit, decimal_in_tenth}
use Rattle.words.specs.SeqLaws.{sets_snoc}
use Rattle.text.proofs.+write_decimal.Goals as goal

-- below 10 the decimal is the digit that is written
digit : (n : ℕ) → n < 10 → decimal n ≡ (48 + n) ∷ []
digit n h = decimal_in_digit 19 n h

-- from 10 on it is what the call writes, with the digit that is written after it
tenth : (n : ℕ) → 10 ≤ n → n < 2 ^ 64 → decimal n ≡ decimal (n / 10) ++ ((48 + n % 10) ∷ [])
tenth n low fits = decimal_in_tenth 19 n low (omega arith)

-- and has one byte more
tenth_length : (n : ℕ) → 10 ≤ n → n < 2 ^ 64 → length (decimal n) ≡ length (decimal (n / 10)) + 1
tenth_length n low fits = ap length (tenth n low fits) ∙ simp length-append

pub bounds-out-at : goal.bounds-out-at
bounds-out-at t c = omega (arith, ap length (digit c.args.n c.if-n-lt10.true))

pub returns-then-n-lt10 : goal.returns-then-n-lt10
returns-then-n-lt10 t c =
    let one = digit c.args.n c.if-n-lt10.true in
    (omega (arith, ap length one), rw one)

pub write_decimal-next-requires : goal.write_decimal-next-requires
write_decimal-next-requires t c = (omega arith, omega (arith, tenth_length c.args.n c.if-n-lt10.false (omega arith)))

pub bounds-out-next : goal.bounds-out-next
bounds-out-next t c = omega (arith, tenth_length c.args.n c.if-n-lt10.false (omega arith))

pub overflow_add-result-2 : goal.overflow_add-result-2
overflow_add-result-2 t c = omega (arith, tenth_length c.args.n c.if-n-lt10.false (omega arith))

pub returns : goal.returns
returns t c = (
  omega (arith, tenth_length c.args.n c.if-n-lt10.false (omega arith)),
  rw (tenth c.args.n c.if-n-lt10.false (omega arith), sets_snoc, c.write_decimal-next.ensures.1, c.write_decimal-next.ensures.0),
)
