-- `listing_lines::line::entry` meets its contract: the three decimals, each an id, make the request type.
use Prim.Native.Nat.{◌+◌}
use native.Mathlib.Omega.{arith}
use mathlib.Core.List.{[], ◌∷◌}
use mathlib.Core.Path.{sym, ◌∙◌}
use Rattle.rules.specs.Text.{TAB, LF, bytes, decimal_of, decimal}
use Rattle.rules.proofs.TextLaws.{decimal_read}
use Rattle.rules.specs.Listing.{row_of}
use Rattle.text.proofs.Laws.{NumberEnds, number_ends, number_unended}
use Rattle.listing_lines.specs.LineLaws.{decimal_free, row_number, row_ends, row_unread, row_unended, entry_no_principal, entry_no_action, entry_no_resource}
use Rattle.listing_lines.proofs.line.entry.Goals as goal
use Rattle.listing_lines.proofs.line.entry.Goals.{In_ok-principal, In_ok-action, In_ok-resource}

-- what is known of each number
principal-ends : (c : In_ok-principal) → NumberEnds TAB c.args.text.now
    c.args.at c.in_ok-principal.principal c.in_ok-principal.principal_end
principal-ends c =
    number_ends TAB c.args.text.now c.args.at
    c.number_at.ensures c.in_ok-principal.was

action-ends : (c : In_ok-action) → NumberEnds TAB c.args.text.now
    (c.in_ok-principal.principal_end + 1) c.in_ok-action.action c.in_ok-action.action_end
action-ends c =
    number_ends TAB c.args.text.now
    (c.in_ok-principal.principal_end + 1) c.number_at-2.ensures c.in_ok-action.was

resource-ends : (c : In_ok-resource) → NumberEnds LF
    c.args.text.now
    (c.in_ok-action.action_end + 1) c.in_ok-resource.resource c.in_ok-resource.end
resource-ends c =
    number_ends LF c.args.text.now
    (c.in_ok-action.action_end + 1) c.number_at-3.ensures c.in_ok-resource.was

pub returns-in_err-principal : goal.returns-in_err-principal
returns-in_err-principal c =
    let a = c.args in
    rw c.from_residual.ensures
    (sym (row_unread (bytes "A" ∷ []) a.text.now a.at decimal_of decimal_free
    (number_unended TAB a.text.now a.at c.number_at.ensures c.in_err-principal.was) entry_no_principal))

pub overflow_add-principal_end : goal.overflow_add-principal_end
overflow_add-principal_end c = omega (arith, principal-ends (goal.at.overflow_add-principal_end c).In_ok-principal)

pub returns-in_err-action : goal.returns-in_err-action
returns-in_err-action c =
    let a = c.args in
    let second = c.in_ok-principal.principal_end + 1 in
    let principal = principal-ends (goal.at.returns-in_err-action c).In_ok-principal in
    rw c.from_residual-in_err-action.ensures
    (sym
    (row_number (bytes "A" ∷ []) a.text.now a.at principal
    ∙ row_unread (bytes "A" ∷ decimal _ ∷ []) a.text.now second decimal_of decimal_free
    (number_unended TAB a.text.now second c.number_at-2.ensures c.in_err-action.was) λ others.
    entry_no_action others _ principal.0))

pub overflow_add-action_end : goal.overflow_add-action_end
overflow_add-action_end c = omega (arith, action-ends (goal.at.overflow_add-action_end c).In_ok-action)

pub returns-in_err-resource : goal.returns-in_err-resource
returns-in_err-resource c =
    let a = c.args in
    let third = c.in_ok-action.action_end + 1 in
    let principal = principal-ends (goal.at.returns-in_err-resource c).In_ok-principal in
    let action = action-ends (goal.at.returns-in_err-resource c).In_ok-action in
    rw c.from_residual-in_err-resource.ensures
    (sym
    (row_number (bytes "A" ∷ []) a.text.now a.at principal
    ∙ row_number (bytes "A" ∷ decimal _ ∷ []) a.text.now _ action
    ∙ row_unended (bytes "A" ∷ decimal _ ∷ decimal _ ∷ []) a.text.now third
    (number_unended LF a.text.now third c.number_at-3.ensures c.in_err-resource.was) λ others.
    entry_no_resource others _ principal.0 _ action.0))

pub overflow_mul-result : goal.overflow_mul-result
overflow_mul-result c =
    omega (
      arith,
      principal-ends (goal.at.overflow_mul-result c).In_ok-principal,
      action-ends (goal.at.overflow_mul-result c).In_ok-action,
      resource-ends (goal.at.overflow_mul-result c).In_ok-resource,
    )

pub overflow_add-result : goal.overflow_add-result
overflow_add-result c =
    omega (
      arith,
      principal-ends (goal.at.overflow_add-result c).In_ok-principal,
      action-ends (goal.at.overflow_add-result c).In_ok-action,
      resource-ends (goal.at.overflow_add-result c).In_ok-resource,
    )

pub overflow_mul-result-2 : goal.overflow_mul-result-2
overflow_mul-result-2 c =
    omega (
      arith,
      principal-ends (goal.at.overflow_mul-result-2 c).In_ok-principal,
      action-ends (goal.at.overflow_mul-result-2 c).In_ok-action,
      resource-ends (goal.at.overflow_mul-result-2 c).In_ok-resource,
    )

pub overflow_add-result-2 : goal.overflow_add-result-2
overflow_add-result-2 c =
    omega (
      arith,
      principal-ends (goal.at.overflow_add-result-2 c).In_ok-principal,
      action-ends (goal.at.overflow_add-result-2 c).In_ok-action,
      resource-ends (goal.at.overflow_add-result-2 c).In_ok-resource,
    )

pub returns : goal.returns
unfolding row_of
returns c =
    let a = c.args in
    let principal = principal-ends (goal.at.returns c).In_ok-principal in
    let action = action-ends (goal.at.returns c).In_ok-action in
    let resource = resource-ends (goal.at.returns c).In_ok-resource in
    sym
    (row_number (bytes "A" ∷ []) a.text.now a.at principal
    ∙ row_number (bytes "A" ∷ decimal _ ∷ []) a.text.now _ action
    ∙ row_ends (bytes "A" ∷ decimal _ ∷ decimal _ ∷ []) a.text.now _ resource
    ∙ rw (decimal_read _ principal.0, decimal_read _ action.0, decimal_read _ resource.0))
