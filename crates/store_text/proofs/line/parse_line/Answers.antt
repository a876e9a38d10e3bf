-- `store_text::line::parse_line` meets its contract: a line of two fields is an id's, one of more a row's.
use Prim.Native.Nat.{◌+◌, ◌-◌}
use native.Mathlib.Nat.{sub-zero}
use native.Mathlib.Omega.{arith}
use mathlib.Core.List.{[], ◌∷◌}
use mathlib.Core.Path.{◌≡◌, refl, sym, ap, ◌∙◌}
use lib.ListN.{length, take, drop}
use lib.Seq.{length-take-le}
use Rattle.rules.specs.Text.{fields_of, TAB}
use Rattle.rules.proofs.TextLaws.{parted_some}
use Rattle.rules.specs.ValueTexts.{store_line_of}
use Rattle.text.specs.Answers.{number_of}
use Rattle.text.proofs.FieldLaws.{no_field, some_field, Ends, field_ends, fields_last, fields_whole}
use Rattle.store_text.proofs.line.parse_line.Goals as goal
use Rattle.store_text.proofs.line.parse_line.Goals.{Else-is_some, In_ok-end}

-- where the first field ends
word-ends : (c : In_ok-end) → Ends c.args.line.now 0 c.in_ok-end.end
word-ends c = field_ends c.args.line.now 0 _ _ c.field_end.ensures c.in_ok-end.was

-- a line of two fields
two_fields : (c : Else-is_some) → (Ends c.args.line.now 0 c.in_ok-end.end) →
    fields_of c.args.line.now ≡ take c.in_ok-end.end c.args.line.now ∷ take (length c.args.line.now - (c.in_ok-end.end + 1)) (drop (c.in_ok-end.end + 1) c.args.line.now) ∷ []
two_fields c word-ends-here =
    rw (word-ends-here.2, sub-zero, fields_last c.args.line.now (c.in_ok-end.end + 1) _ c.field_end-2.ensures (no_field _ (sym c.is_some.ensures ∙ c.if-is_some.false)))

pub returns-in_err-end : goal.returns-in_err-end
unfolding store_line_of
returns-in_err-end c = rw (c.from_residual.ensures, fields_whole c.args.line.now _ c.field_end.ensures c.in_err-end.was) refl

pub overflow_add-second : goal.overflow_add-second
overflow_add-second c = omega (arith, word-ends (goal.at.overflow_add-second c).In_ok-end)

pub returns-then-is_some : goal.returns-then-is_some
unfolding store_line_of
returns-then-is_some c =
    let (end, ends) = some_field c.field_end-2.result (sym c.is_some.ensures ∙ c.if-is_some.true) in
    let second = field_ends c.args.line.now (c.in_ok-end.end + 1) end _ c.field_end-2.ensures ends in
    c.row_line.ensures ∙ rw ((word-ends (goal.at.returns-then-is_some c).In_ok-end).2, second.2, (parted_some TAB (drop (end + 1) c.args.line.now)).2)

pub slice_bounds-read_decimal-count : goal.slice_bounds-read_decimal-count
slice_bounds-read_decimal-count c = omega (arith, word-ends (goal.at.slice_bounds-read_decimal-count c).In_ok-end)

pub slice_bounds-read_decimal-start : goal.slice_bounds-read_decimal-start
slice_bounds-read_decimal-start c = omega (arith, word-ends (goal.at.slice_bounds-read_decimal-start c).In_ok-end)

pub returns-in_err-id : goal.returns-in_err-id
unfolding store_line_of
returns-in_err-id c =
    rw (c.from_residual-in_err-id.ensures, two_fields (goal.at.returns-in_err-id c).Else-is_some (word-ends (goal.at.returns-in_err-id c).In_ok-end), sym c.read_decimal.ensures ∙ ap number_of c.in_err-id.was) refl

pub slice_bounds-id_line-end : goal.slice_bounds-id_line-end
slice_bounds-id_line-end c =
    sym (length-take-le _ _ (omega (arith, word-ends (goal.at.slice_bounds-id_line-end c).In_ok-end)))

pub returns : goal.returns
unfolding store_line_of
returns c =
    c.id_line.ensures
    ∙ sym (rw (two_fields (goal.at.returns c).Else-is_some (word-ends (goal.at.returns c).In_ok-end), sym c.read_decimal.ensures ∙ ap number_of c.in_ok-id.was))
