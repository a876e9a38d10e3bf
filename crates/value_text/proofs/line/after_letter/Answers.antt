-- `value_text::line::after_letter` meets its contract: the fields behind the first are those behind its tab.
use native.Mathlib.Omega.{arith}
use mathlib.Core.Path.{sym, ◌∙◌}
use lib.Seq.{length-take-le}
use Rattle.text.proofs.FieldLaws.{Ends, field_ends}
use Rattle.value_text.specs.LineLaws.{letter_behind, letter_other}
use Rattle.value_text.proofs.line.after_letter.Goals as goal
use Rattle.value_text.proofs.line.after_letter.Goals.{In_ok-end}

-- where the first field ends
word-ends : (c : In_ok-end) → Ends c.args.line.now 0 c.in_ok-end.end
word-ends c = field_ends c.args.line.now 0 _ _ c.field_end.ensures c.in_ok-end.was

pub slice_bounds-is_letter-end : goal.slice_bounds-is_letter-end
slice_bounds-is_letter-end c = sym (length-take-le _ _ (omega (arith, word-ends (goal.at.slice_bounds-is_letter-end c).In_ok-end)))

pub returns-then-not-is_letter : goal.returns-then-not-is_letter
returns-then-not-is_letter c =
    let a = c.args in
    letter_other a.line.now a.letter (word-ends (goal.at.returns-then-not-is_letter c).In_ok-end) (sym c.is_letter.ensures ∙ c.if-not-is_letter.true)

pub overflow_add-result : goal.overflow_add-result
overflow_add-result c = omega (arith, word-ends (goal.at.overflow_add-result c).In_ok-end)

pub returns : goal.returns
returns c =
    let a = c.args in
    letter_behind a.line.now a.letter (word-ends (goal.at.returns c).In_ok-end) (sym c.is_letter.ensures ∙ c.if-not-is_letter.false)
