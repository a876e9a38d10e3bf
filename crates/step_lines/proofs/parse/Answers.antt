-- `step_lines::parse` meets its contract: the parts that are passed on are the fields of the line.
use Prim.Native.Nat.{◌+◌, ◌-◌}
use native.Mathlib.Omega.{arith}
use native.Mathlib.Nat.{sub-zero}
use mathlib.Core.Path.{◌≡◌, sym, ◌∙◌}
use lib.Seq.{length-take-le, take_all}
use lib.ListN.{length, take, drop, length-drop}
use Rattle.rules.specs.Steps.{is_text, step_from}
use Rattle.rules.specs.Text.{bytes}
use Rattle.text.proofs.FieldLaws.{Ends, field_ends, fields_last, no_field, some_field}
use Rattle.step_lines.specs.LineLaws.{text_same, one_field, rec_fields, many_fields}
use Rattle.step_lines.proofs.parse.Goals as goal
use Rattle.step_lines.proofs.parse.Goals.{After-eq, In-Some}

-- the first field, where a tab ends it, and whether it is `rec`
word-ends : (c : In-Some) → Ends c.args.line.now 0 c.in-Some.word_end
word-ends c = field_ends c.args.line.now 0 _ _ c.field_end.ensures c.in-Some.is

rec-said : (c : After-eq) → is_text (bytes "rec") (take c.in-Some.word_end c.args.line.now) ≡ c.eq.result
rec-said c = text_same _ c.eq.ensures c.as_slice.ensures

pub returns-in_default-clause-names_after : goal.returns-in_default-clause-names_after
returns-in_default-clause-names_after c =
    let alone = fields_last c.args.line.now 0 _ c.field_end.ensures c.in_default.is in
    c.bare_step.ensures.read _ c.requires ∙ sym (one_field c.args.line.now alone)

pub slice_bounds-word-end : goal.slice_bounds-word-end
slice_bounds-word-end c = sym (length-take-le _ _ (omega (arith, word-ends (goal.at.slice_bounds-word-end c).In-Some)))

pub overflow_add-second : goal.overflow_add-second
overflow_add-second c = omega (arith, word-ends (goal.at.overflow_add-second c).In-Some)

pub slice_bounds-rest-count : goal.slice_bounds-rest-count
slice_bounds-rest-count c = omega (arith, word-ends (goal.at.slice_bounds-rest-count c).In-Some)

pub slice_bounds-rest-start : goal.slice_bounds-rest-start
slice_bounds-rest-start c = omega (arith, word-ends (goal.at.slice_bounds-rest-start c).In-Some)

pub returns-then-eq-clause-names_after : goal.returns-then-eq-clause-names_after
returns-then-eq-clause-names_after c =
    let whole = rec_fields (take c.in-Some.word_end c.args.line.now) c.args.line.now (c.in-Some.word_end + 1) (rec-said (goal.at.returns-then-eq-clause-names_after c).After-eq ∙ c.if-eq.true) in
    let behind : take (length c.args.line.now - (c.in-Some.word_end + 1)) (drop (c.in-Some.word_end + 1) c.args.line.now) ≡ drop (c.in-Some.word_end + 1) c.args.line.now = take_all (length c.args.line.now - (c.in-Some.word_end + 1)) (drop (c.in-Some.word_end + 1) c.args.line.now) (omega (arith, length-drop (c.in-Some.word_end + 1) c.args.line.now)) in
    c.rec_step.ensures.names_after ∙ rw behind (sym (rw ((word-ends (goal.at.returns-then-eq-clause-names_after c).In-Some).2, sub-zero) whole))

pub returns-then-is_some-clause-names_after : goal.returns-then-is_some-clause-names_after
returns-then-is_some-clause-names_after c =
    let (end, found) = some_field _ (sym c.is_some.ensures ∙ c.if-is_some.true) in
    let second = field_ends c.args.line.now (c.in-Some.word_end + 1) _ _ c.field_end-2.ensures found in
    let whole = many_fields (take c.in-Some.word_end c.args.line.now) (take (end - (c.in-Some.word_end + 1)) (drop (c.in-Some.word_end + 1) c.args.line.now)) c.args.line.now (end + 1) (rec-said (goal.at.returns-then-is_some-clause-names_after c).After-eq ∙ c.if-eq.false) in
    sym (rw ((word-ends (goal.at.returns-then-is_some-clause-names_after c).In-Some).2, sub-zero, second.2) whole)

pub returns-clause-names_after : goal.returns-clause-names_after
unfolding step_from
returns-clause-names_after c =
    let alone = no_field _ (sym c.is_some.ensures ∙ c.if-is_some.false) in
    let second = fields_last c.args.line.now (c.in-Some.word_end + 1) _ c.field_end-2.ensures alone in
    c.step_with.ensures.read _ c.requires ∙ sym (rw ((word-ends (goal.at.returns-clause-names_after c).In-Some).2, sub-zero, second))
