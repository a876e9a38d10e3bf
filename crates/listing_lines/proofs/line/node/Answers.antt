-- `listing_lines::line::node` meets its contract: the four fields are read as `node_of` reads them, so the kind and the id are those of a step.
use Prim.Native.Nat.{◌+◌}
use native.Mathlib.Omega.{arith}
use mathlib.Core.List.{[], ◌∷◌}
use mathlib.Core.Path.{sym, ap, ◌∙◌}
use Rattle.rules.specs.Text.{TAB, LF, bytes, decimal_of, decimal}
use Rattle.rules.proofs.TextLaws.{decimal_read}
use Rattle.rules.specs.Listing.{row_of, place_in, letters}
use Rattle.text.proofs.Laws.{NumberEnds, number_ends, number_unended}
use Rattle.text.specs.Answers.{number_of}
use Rattle.listing_lines.specs.LineLaws.{StepEnds, step_ends, kind_none_first, decimal_free, letter_free, row_number, row_step, row_ends, row_unread, row_unended, node_no_depth, node_no_kind, node_no_id, node_no_mark}
use Rattle.listing_lines.proofs.line.node.Goals as goal
use Rattle.listing_lines.proofs.line.node.Goals.{In_ok-depth, In_ok-id, In_ok-mark, In_ok-kind}

-- what is known of each field
depth-ends : (c : In_ok-depth) → NumberEnds TAB c.args.text.now
    c.args.at c.in_ok-depth.depth c.in_ok-depth.depth_end
depth-ends c =
    number_ends TAB c.args.text.now c.args.at
    c.number_at.ensures c.in_ok-depth.was

kind-ends : (c : In_ok-kind) → StepEnds c.args.text.now
    (c.in_ok-depth.depth_end + 1) c.in_ok-kind.kind
kind-ends c =
    step_ends c.args.text.now
    (c.in_ok-depth.depth_end + 1) _ (sym c.step_kind.ensures ∙ ap number_of c.in_ok-kind.was)

id-ends : (c : In_ok-id) → NumberEnds TAB
    c.args.text.now
    (c.in_ok-depth.depth_end + 1 + 2) c.in_ok-id.id c.in_ok-id.id_end
id-ends c =
    number_ends TAB c.args.text.now
    (c.in_ok-depth.depth_end + 1 + 2) c.number_at-2.ensures
    c.in_ok-id.was

mark-ends : (c : In_ok-mark) → NumberEnds LF
    c.args.text.now (c.in_ok-id.id_end + 1) c.in_ok-mark.mark c.in_ok-mark.end
mark-ends c =
    number_ends LF c.args.text.now (c.in_ok-id.id_end + 1) c.number_at-3.ensures c.in_ok-mark.was

pub returns-in_err-depth : goal.returns-in_err-depth
returns-in_err-depth c =
    let a = c.args in
    rw c.from_residual.ensures
    (sym (row_unread (bytes "N" ∷ []) a.text.now a.at decimal_of decimal_free
    (number_unended TAB a.text.now a.at c.number_at.ensures c.in_err-depth.was) node_no_depth))

pub overflow_add-step : goal.overflow_add-step
overflow_add-step c = omega (arith, depth-ends (goal.at.overflow_add-step c).In_ok-depth)

pub returns-in_err-kind : goal.returns-in_err-kind
returns-in_err-kind c =
    let a = c.args in
    let depth = depth-ends (goal.at.returns-in_err-kind c).In_ok-depth in
    rw c.from_residual-in_err-kind.ensures
    (sym
    (row_number (bytes "N" ∷ []) a.text.now a.at depth
    ∙ row_unread (bytes "N" ∷ decimal _ ∷ []) a.text.now (c.in_ok-depth.depth_end + 1) (place_in letters)
    letter_free (kind_none_first _ (sym c.step_kind.ensures ∙ ap number_of c.in_err-kind.was)) λ others.
    node_no_kind others _ depth.0))

pub overflow_add-step-2 : goal.overflow_add-step-2
overflow_add-step-2 c = omega (arith, kind-ends (goal.at.overflow_add-step-2 c).In_ok-kind)

pub returns-in_err-id : goal.returns-in_err-id
returns-in_err-id c =
    let a = c.args in
    let third = c.in_ok-depth.depth_end + 1 + 2 in
    let depth = depth-ends (goal.at.returns-in_err-id c).In_ok-depth in
    let kind = kind-ends (goal.at.returns-in_err-id c).In_ok-kind in
    rw c.from_residual-in_err-id.ensures
    (sym
    (row_number (bytes "N" ∷ []) a.text.now a.at depth
    ∙ row_step (bytes "N" ∷ decimal _ ∷ []) a.text.now _ kind
    ∙ row_unread (bytes "N" ∷ decimal _ ∷ _ ∷ []) a.text.now third decimal_of decimal_free
    (number_unended TAB a.text.now third c.number_at-2.ensures c.in_err-id.was) λ others.
    node_no_id others _ depth.0 _ _ kind.3))

pub overflow_add-id_end : goal.overflow_add-id_end
overflow_add-id_end c = omega (arith, id-ends (goal.at.overflow_add-id_end c).In_ok-id)

pub returns-in_err-mark : goal.returns-in_err-mark
returns-in_err-mark c =
    let a = c.args in
    let fourth = c.in_ok-id.id_end + 1 in
    let depth = depth-ends (goal.at.returns-in_err-mark c).In_ok-depth in
    let kind = kind-ends (goal.at.returns-in_err-mark c).In_ok-kind in
    let id = id-ends (goal.at.returns-in_err-mark c).In_ok-id in
    rw c.from_residual-in_err-mark.ensures
    (sym
    (row_number (bytes "N" ∷ []) a.text.now a.at depth
    ∙ row_step (bytes "N" ∷ decimal _ ∷ []) a.text.now _ kind
    ∙ row_number (bytes "N" ∷ decimal _ ∷ _ ∷ []) a.text.now _ id
    ∙ row_unended (bytes "N" ∷ decimal _ ∷ _ ∷ decimal _ ∷ []) a.text.now fourth
    (number_unended LF a.text.now fourth c.number_at-3.ensures c.in_err-mark.was) λ others.
    node_no_mark others _ depth.0 _ _ kind.3 _ id.0))

pub node_row-requires : goal.node_row-requires
node_row-requires c =
    ((kind-ends (goal.at.node_row-requires c).In_ok-kind).0, (id-ends (goal.at.node_row-requires c).In_ok-id).0)

pub returns : goal.returns
unfolding row_of
returns c =
    let a = c.args in
    let depth = depth-ends (goal.at.returns c).In_ok-depth in
    let kind = kind-ends (goal.at.returns c).In_ok-kind in
    let id = id-ends (goal.at.returns c).In_ok-id in
    let mark = mark-ends (goal.at.returns c).In_ok-mark in
    c.node_row.ensures
    ∙ sym
    (row_number (bytes "N" ∷ []) a.text.now a.at depth
    ∙ row_step (bytes "N" ∷ decimal _ ∷ []) a.text.now _ kind
    ∙ row_number (bytes "N" ∷ decimal _ ∷ _ ∷ []) a.text.now _ id
    ∙ row_ends (bytes "N" ∷ decimal _ ∷ _ ∷ decimal _ ∷ []) a.text.now _ mark
    ∙ rw (decimal_read _ depth.0, kind.3, decimal_read _ id.0, decimal_read _ mark.0))
