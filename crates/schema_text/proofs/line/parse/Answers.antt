-- `schema_text::line::parse` meets its contract: the parts that are passed on are the fields of the line, and from the third on all that is left.
use native.Mathlib.Omega.{arith}
use mathlib.Core.Path.{◌≡◌, sym, ap, ◌∙◌}
use Prim.Native.Nat.{◌+◌, ◌-◌}
use lib.ListN.{length, take, drop, length-drop}
use mathlib.Core.List.{[], ◌∷◌}
use Rattle.rules.specs.Text.{fields_of, TAB}
use Rattle.rules.proofs.TextLaws.{parted_some}
use Rattle.text.proofs.FieldLaws.{Ends, field_ends, fields_last, no_field, some_field}
use Rattle.rules.specs.Schema.{item_of}
use Rattle.schema_text.specs.LineLaws.{type_line}
use lib.Seq.{length-take-le, take_all}
use native.Mathlib.Nat.{sub-zero}
use Rattle.schema_text.proofs.line.parse.Goals as goal
use Rattle.schema_text.proofs.line.parse.Goals.{In_ok-word_end, In-Some, In_default}

-- what is known of each field that a tab ends
word-ends : (c : In_ok-word_end) → Ends c.args.line.now 0 c.in_ok-word_end.word_end
word-ends c = field_ends c.args.line.now 0 _ _ c.field_end.ensures c.in_ok-word_end.was

second-ends : (c : In-Some) → Ends c.args.line.now (c.in_ok-word_end.word_end + 1) c.in-Some.second_end
second-ends c = field_ends c.args.line.now _ _ _ c.field_end-2.ensures c.in-Some.is

pub returns-in_err-word_end : goal.returns-in_err-word_end
unfolding item_of
returns-in_err-word_end c = rw (c.from_residual.ensures, fields_last c.args.line.now 0 _ c.field_end.ensures c.in_err-word_end.was)

pub slice_bounds-word-end : goal.slice_bounds-word-end
slice_bounds-word-end c = sym (length-take-le _ _ (omega (arith, word-ends (goal.at.slice_bounds-word-end c).In_ok-word_end)))

pub overflow_add-second : goal.overflow_add-second
overflow_add-second c = omega (arith, word-ends (goal.at.overflow_add-second c).In_ok-word_end)

-- a line of two fields, and of more
two_fields : (c : In_default) → (Ends c.args.line.now 0 c.in_ok-word_end.word_end) →
    fields_of c.args.line.now ≡ take c.in_ok-word_end.word_end c.args.line.now ∷ take (length c.args.line.now - (c.in_ok-word_end.word_end + 1)) (drop (c.in_ok-word_end.word_end + 1) c.args.line.now) ∷ []
two_fields c word-ends-here =
    rw (word-ends-here.2, sub-zero, fields_last c.args.line.now (c.in_ok-word_end.word_end + 1) _ c.field_end-2.ensures c.in_default.is)

more_fields : (c : In-Some) → (Ends c.args.line.now 0 c.in_ok-word_end.word_end) →
    fields_of c.args.line.now ≡ take c.in_ok-word_end.word_end c.args.line.now ∷ take (c.in-Some.second_end - (c.in_ok-word_end.word_end + 1)) (drop (c.in_ok-word_end.word_end + 1) c.args.line.now) ∷ fields_of (drop (c.in-Some.second_end + 1) c.args.line.now)
more_fields c word-ends-here = rw (word-ends-here.2, (second-ends c).2, sub-zero)

pub slice_bounds-entity-count : goal.slice_bounds-entity-count
slice_bounds-entity-count c = omega (arith, word-ends (goal.at.slice_bounds-entity-count c).In_ok-word_end)

pub slice_bounds-entity-start : goal.slice_bounds-entity-start
slice_bounds-entity-start c = omega (arith, word-ends (goal.at.slice_bounds-entity-start c).In_ok-word_end)

pub returns-in_default : goal.returns-in_default
returns-in_default c = c.entity.ensures ∙ sym (ap item_of (two_fields (goal.at.returns-in_default c).In_default (word-ends (goal.at.returns-in_default c).In_ok-word_end)))

pub slice_bounds-left-end : goal.slice_bounds-left-end
slice_bounds-left-end c = omega (arith, second-ends (goal.at.slice_bounds-left-end c).In-Some)

pub overflow_add-third : goal.overflow_add-third
overflow_add-third c = omega (arith, second-ends (goal.at.overflow_add-third c).In-Some)

pub slice_bounds-right-count : goal.slice_bounds-right-count
slice_bounds-right-count c = omega (arith, second-ends (goal.at.slice_bounds-right-count c).In-Some)

pub slice_bounds-right-start : goal.slice_bounds-right-start
slice_bounds-right-start c = omega (arith, second-ends (goal.at.slice_bounds-right-start c).In-Some)

pub returns-then-is_letter : goal.returns-then-is_letter
returns-then-is_letter c =
    let third = c.in-Some.second_end + 1 in
    let all : take (length c.args.line.now - third) (drop third c.args.line.now) ≡ drop third c.args.line.now = take_all (length c.args.line.now - third) (drop third c.args.line.now) (omega (arith, length-drop third c.args.line.now)) in
    let rest = parted_some TAB (drop third c.args.line.now) in
    (rw (all, rest.2) at c.typed.ensures)
    ∙ sym (rw (more_fields (goal.at.returns-then-is_letter c).In-Some (word-ends (goal.at.returns-then-is_letter c).In_ok-word_end), rest.2) (type_line _ _ rest.0 rest.1 (sym c.is_letter.ensures ∙ c.if-is_letter.true)))

pub returns-then-is_some : goal.returns-then-is_some
unfolding item_of
returns-then-is_some c =
    let (end, found) = some_field _ (sym c.is_some.ensures ∙ c.if-is_some.true) in
    let rest = parted_some TAB (drop (end + 1) c.args.line.now) in
    rw (more_fields (goal.at.returns-then-is_some c).In-Some (word-ends (goal.at.returns-then-is_some c).In_ok-word_end), (field_ends c.args.line.now _ end _ c.field_end-3.ensures found).2, rest.2, sym c.is_letter.ensures ∙ c.if-is_letter.false)

pub returns : goal.returns
unfolding item_of
returns c =
    let alone = no_field _ (sym c.is_some.ensures ∙ c.if-is_some.false) in
    c.pair.ensures
    ∙ sym (rw (more_fields (goal.at.returns c).In-Some (word-ends (goal.at.returns c).In_ok-word_end), fields_last c.args.line.now _ _ c.field_end-3.ensures alone, sym c.is_letter.ensures ∙ c.if-is_letter.false))
