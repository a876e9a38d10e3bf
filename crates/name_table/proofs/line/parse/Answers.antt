-- `name_table::line::parse` meets its contract: the parts that are passed on are the fields of the line.
use Prim.Native.Nat.{◌+◌, ◌-◌}
use native.Mathlib.Nat.{sub-zero}
use native.Mathlib.Omega.{arith}
use mathlib.Core.List.{[], ◌∷◌}
use mathlib.Core.Path.{◌≡◌, sym, ap, ◌∙◌}
use lib.ListN.{length, take, drop}
use lib.Seq.{length-take-le}
use Rattle.rules.specs.Text.{fields_of, TAB}
use Rattle.rules.proofs.TextLaws.{parted_some}
use Rattle.text.proofs.FieldLaws.{no_field, some_field, Ends, field_ends, fields_last, fields_whole}
use Rattle.rules.specs.Names.{named_of}
use Rattle.text.specs.Answers.{number_of}
use Rattle.name_table.specs.LineLaws.{not_named, name_parsed}
use Rattle.name_table.proofs.line.parse.Goals as goal
use Rattle.name_table.proofs.line.parse.Goals.{In_ok-kind_end, In_ok-id_end, Else-is_some}

-- where the first two fields end, and that the third is the last
kind-ends : (c : In_ok-kind_end) → Ends c.args.line.now 0 c.in_ok-kind_end.kind_end
kind-ends c = field_ends c.args.line.now 0 _ _ c.field_end.ensures c.in_ok-kind_end.was

id-ends : (c : In_ok-id_end) → Ends c.args.line.now (c.in_ok-kind_end.kind_end + 1) c.in_ok-id_end.id_end
id-ends c = field_ends c.args.line.now _ _ _ c.field_end-2.ensures c.in_ok-id_end.was

last-field : (c : Else-is_some) →
    let third = c.in_ok-id_end.id_end + 1 in
    fields_of (drop third c.args.line.now) ≡ take (length c.args.line.now - third) (drop third c.args.line.now) ∷ []
last-field c = fields_last c.args.line.now _ _ c.field_end-3.ensures (no_field _ (sym c.is_some.ensures ∙ c.if-is_some.false))

pub returns-in_err-kind_end : goal.returns-in_err-kind_end
unfolding named_of
returns-in_err-kind_end c = rw c.from_residual.ensures (λ end. rw (fields_whole c.args.line.now _ c.field_end.ensures c.in_err-kind_end.was))

pub overflow_add-second : goal.overflow_add-second
overflow_add-second c = omega (arith, kind-ends (goal.at.overflow_add-second c).In_ok-kind_end)

pub returns-in_err-id_end : goal.returns-in_err-id_end
unfolding named_of
returns-in_err-id_end c =
    rw c.from_residual-in_err-id_end.ensures
    (λ end. rw ((kind-ends (goal.at.returns-in_err-id_end c).In_ok-kind_end).2, sub-zero, fields_last c.args.line.now (c.in_ok-kind_end.kind_end + 1) _ c.field_end-2.ensures c.in_err-id_end.was))

pub overflow_add-third : goal.overflow_add-third
overflow_add-third c = omega (arith, id-ends (goal.at.overflow_add-third c).In_ok-id_end)

pub returns-then-is_some : goal.returns-then-is_some
unfolding named_of
returns-then-is_some c =
    let (end, ends) = some_field c.field_end-3.result (sym c.is_some.ensures ∙ c.if-is_some.true) in
    let third = field_ends c.args.line.now (c.in_ok-id_end.id_end + 1) end _ c.field_end-3.ensures ends in
    λ at. rw ((kind-ends (goal.at.returns-then-is_some c).In_ok-kind_end).2, (id-ends (goal.at.returns-then-is_some c).In_ok-id_end).2, third.2, (parted_some TAB (drop (end + 1) c.args.line.now)).2)

pub slice_bounds-key_from-end : goal.slice_bounds-key_from-end
slice_bounds-key_from-end c = sym (length-take-le _ _ (omega (arith, kind-ends (goal.at.slice_bounds-key_from-end c).In_ok-kind_end)))

pub slice_bounds-key_from-count : goal.slice_bounds-key_from-count
slice_bounds-key_from-count c = omega (arith, kind-ends (goal.at.slice_bounds-key_from-count c).In_ok-kind_end, id-ends (goal.at.slice_bounds-key_from-count c).In_ok-id_end)

pub slice_bounds-key_from-start : goal.slice_bounds-key_from-start
slice_bounds-key_from-start c = omega (arith, kind-ends (goal.at.slice_bounds-key_from-start c).In_ok-kind_end, id-ends (goal.at.slice_bounds-key_from-start c).In_ok-id_end)

pub slice_bounds-key_from-end-2 : goal.slice_bounds-key_from-end-2
slice_bounds-key_from-end-2 c = omega (arith, kind-ends (goal.at.slice_bounds-key_from-end-2 c).In_ok-kind_end, id-ends (goal.at.slice_bounds-key_from-end-2 c).In_ok-id_end)

pub slice_bounds-key_from-count-2 : goal.slice_bounds-key_from-count-2
slice_bounds-key_from-count-2 c = omega (arith, id-ends (goal.at.slice_bounds-key_from-count-2 c).In_ok-id_end)

pub slice_bounds-key_from-start-2 : goal.slice_bounds-key_from-start-2
slice_bounds-key_from-start-2 c = omega (arith, id-ends (goal.at.slice_bounds-key_from-start-2 c).In_ok-id_end)

pub returns-in_err-key : goal.returns-in_err-key
returns-in_err-key c =
    rw c.from_residual-in_err-key.ensures
    (not_named c.args.line.now _ _ (kind-ends (goal.at.returns-in_err-key c).In_ok-kind_end) (id-ends (goal.at.returns-in_err-key c).In_ok-id_end) (last-field (goal.at.returns-in_err-key c).Else-is_some) (sym (ap number_of c.in_err-key.was) ∙ c.key_from.ensures))

pub returns : goal.returns
returns c =
    name_parsed c.args.line.now _ _ (kind-ends (goal.at.returns c).In_ok-kind_end) (id-ends (goal.at.returns c).In_ok-id_end) (last-field (goal.at.returns c).Else-is_some) (sym (ap number_of c.in_ok-key.was) ∙ c.key_from.ensures)
