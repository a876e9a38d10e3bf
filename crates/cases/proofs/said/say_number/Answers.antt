-- `cases::say_number` stays within its digits: a number of 64 bits has at most 20.
use mathlib.Core.Path.{sym}
use lib.Seq.{length-take-le}
use Rattle.std.proofs.Common.{arith}
use Rattle.rules.proofs.TextLaws.{length_decimal_in}
use Rattle.cases.proofs.said.say_number.Goals as goal

pub write_decimal-end-requires : goal.write_decimal-end-requires
write_decimal-end-requires c = omega (arith, length_decimal_in 19 19 c.args.n (omega arith))

pub slice_bounds-digits-end : goal.slice_bounds-digits-end
slice_bounds-digits-end c = omega (arith, c.write_decimal-end.ensures.0, length_decimal_in 19 19 c.args.n (omega arith))

pub slice_bounds-extend_from_slice-end : goal.slice_bounds-extend_from_slice-end
slice_bounds-extend_from_slice-end c =
    sym (length-take-le _ _ (omega (arith, c.write_decimal-end.ensures.0, c.write_decimal-end.auto.out, length_decimal_in 19 19 c.args.n (omega arith))))
