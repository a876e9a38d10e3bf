-- `value_text::request::request_at` meets its contract: the five decimals are read one after the other, as `asked_fields` reads them.
use Prim.Native.Nat.{◌+◌, ◌≤◌, ◌<◌}
use native.Mathlib.Omega.{arith}
use mathlib.Core.Option.{some}
use mathlib.Core.Path.{◌≡◌, refl, sym, ◌∙◌}
use lib.ListN.{length, drop}
use Rattle.rules.specs.Text.{fields_of}
use Rattle.rules.specs.Tries.{request_of}
use Rattle.value_text.specs.Asking.{asked, asked_fields, action_fields, resource_type_fields, principal_fields, resource_fields}
use Rattle.value_text.specs.LineLaws.{number_first, number_none, last_value, last_none}
use Rattle.value_text.proofs.request.request_at.Goals as goal
use Rattle.value_text.proofs.request.request_at.Goals.{In_ok-p, In_ok-a, In_ok-r, In_ok-principal, In_ok-resource}

-- what is known past each number: it is an id, where it ends, and the fields behind it
past-p : (c : In_ok-p) →
    let a = c.args in
    (c.in_ok-p.p ≤ 65535) × (a.at ≤ c.in_ok-p.p_end) × (c.in_ok-p.p_end < length a.line.now)
    × (asked_fields (fields_of (drop a.at a.line.now)) ≡ action_fields c.in_ok-p.p (fields_of (drop (c.in_ok-p.p_end + 1) a.line.now)))
past-p c =
    let a = c.args in
    number_first a.line.now a.at action_fields c.number_at.ensures c.in_ok-p.was

past-a : (c : In_ok-a) →
    (c.in_ok-a.a ≤ 65535) × (c.in_ok-p.p_end + 1 ≤ c.in_ok-a.a_end) × (c.in_ok-a.a_end < length c.args.line.now)
    × (action_fields c.in_ok-p.p (fields_of (drop (c.in_ok-p.p_end + 1) c.args.line.now))
    ≡ resource_type_fields c.in_ok-p.p c.in_ok-a.a (fields_of (drop (c.in_ok-a.a_end + 1) c.args.line.now)))
past-a c =
    number_first c.args.line.now (c.in_ok-p.p_end + 1)
    (resource_type_fields c.in_ok-p.p) c.number_at-2.ensures c.in_ok-a.was

past-r : (c : In_ok-r) →
    (c.in_ok-r.r ≤ 65535) × (c.in_ok-a.a_end + 1 ≤ c.in_ok-r.r_end) × (c.in_ok-r.r_end < length c.args.line.now)
    × (resource_type_fields c.in_ok-p.p c.in_ok-a.a (fields_of (drop (c.in_ok-a.a_end + 1) c.args.line.now))
    ≡ principal_fields c.in_ok-p.p c.in_ok-a.a c.in_ok-r.r (fields_of (drop (c.in_ok-r.r_end + 1) c.args.line.now)))
past-r c =
    number_first c.args.line.now (c.in_ok-a.a_end + 1)
    (principal_fields c.in_ok-p.p c.in_ok-a.a) c.number_at-3.ensures c.in_ok-r.was

past-principal : (c : In_ok-principal) → (let a = c.args in (c.in_ok-p.p ≤ 65535) × (a.at ≤ c.in_ok-p.p_end) × (c.in_ok-p.p_end < length a.line.now) × (asked_fields (fields_of (drop a.at a.line.now)) ≡ action_fields c.in_ok-p.p (fields_of (drop (c.in_ok-p.p_end + 1) a.line.now)))) → ((c.in_ok-a.a ≤ 65535) × (c.in_ok-p.p_end + 1 ≤ c.in_ok-a.a_end) × (c.in_ok-a.a_end < length c.args.line.now) × (action_fields c.in_ok-p.p (fields_of (drop (c.in_ok-p.p_end + 1) c.args.line.now)) ≡ resource_type_fields c.in_ok-p.p c.in_ok-a.a (fields_of (drop (c.in_ok-a.a_end + 1) c.args.line.now)))) → ((c.in_ok-r.r ≤ 65535) × (c.in_ok-a.a_end + 1 ≤ c.in_ok-r.r_end) × (c.in_ok-r.r_end < length c.args.line.now) × (resource_type_fields c.in_ok-p.p c.in_ok-a.a (fields_of (drop (c.in_ok-a.a_end + 1) c.args.line.now)) ≡ principal_fields c.in_ok-p.p c.in_ok-a.a c.in_ok-r.r (fields_of (drop (c.in_ok-r.r_end + 1) c.args.line.now)))) →
    let a = c.args in
    (c.in_ok-principal.principal ≤ 65535) × (c.in_ok-r.r_end + 1 ≤ c.in_ok-principal.principal_end) × (c.in_ok-principal.principal_end < length a.line.now)
    × (asked_fields (fields_of (drop a.at a.line.now))
    ≡ resource_fields c.in_ok-p.p c.in_ok-a.a c.in_ok-r.r c.in_ok-principal.principal
    (fields_of (drop (c.in_ok-principal.principal_end + 1) a.line.now)))
past-principal c past-p-here past-a-here past-r-here =
    let (small, from, within, read) =
    number_first c.args.line.now (c.in_ok-r.r_end + 1)
    (resource_fields c.in_ok-p.p c.in_ok-a.a c.in_ok-r.r) c.number_at-4.ensures
    c.in_ok-principal.was in
    (small, from, within, past-p-here.3 ∙ past-a-here.3 ∙ past-r-here.3 ∙ read)

past-resource : (c : In_ok-resource) → (let a = c.args in (c.in_ok-principal.principal ≤ 65535) × (c.in_ok-r.r_end + 1 ≤ c.in_ok-principal.principal_end) × (c.in_ok-principal.principal_end < length a.line.now) × (asked_fields (fields_of (drop a.at a.line.now)) ≡ resource_fields c.in_ok-p.p c.in_ok-a.a c.in_ok-r.r c.in_ok-principal.principal (fields_of (drop (c.in_ok-principal.principal_end + 1) a.line.now)))) →
    let a = c.args in
    asked_fields (fields_of (drop a.at a.line.now))
    ≡ some
    (asked (request_of c.in_ok-p.p c.in_ok-a.a c.in_ok-r.r) c.in_ok-principal.principal
    c.in_ok-resource.resource)
past-resource c past-principal-here =
    past-principal-here.3
    ∙ (last_value c.args.line.now (c.in_ok-principal.principal_end + 1)
    (λ resource.
    some
    (asked (request_of c.in_ok-p.p c.in_ok-a.a c.in_ok-r.r) c.in_ok-principal.principal
    resource))
    _ c.read_decimal.ensures c.in_ok-resource.was
    ).1

pub overflow_add-p_end : goal.overflow_add-p_end
overflow_add-p_end c = omega (arith, past-p (goal.at.overflow_add-p_end c).In_ok-p)

pub returns-in_err-a : goal.returns-in_err-a
returns-in_err-a c =
    rw c.from_residual-in_err-a.ensures
    (number_none c.args.line.now (c.in_ok-p.p_end + 1)
    (resource_type_fields c.in_ok-p.p) c.number_at-2.ensures (λ n. refl) c.in_err-a.was
    ∙ sym (past-p (goal.at.returns-in_err-a c).In_ok-p).3)

pub overflow_add-a_end : goal.overflow_add-a_end
overflow_add-a_end c = omega (arith, past-a (goal.at.overflow_add-a_end c).In_ok-a)

pub returns-in_err-r : goal.returns-in_err-r
returns-in_err-r c =
    rw c.from_residual-in_err-r.ensures
    (number_none c.args.line.now (c.in_ok-a.a_end + 1)
    (principal_fields c.in_ok-p.p c.in_ok-a.a) c.number_at-3.ensures (λ n. refl) c.in_err-r.was
    ∙ sym ((past-p (goal.at.returns-in_err-r c).In_ok-p).3 ∙ (past-a (goal.at.returns-in_err-r c).In_ok-a).3))

pub overflow_add-r_end : goal.overflow_add-r_end
overflow_add-r_end c = omega (arith, past-r (goal.at.overflow_add-r_end c).In_ok-r)

pub returns-in_err-principal : goal.returns-in_err-principal
returns-in_err-principal c =
    rw c.from_residual-in_err-principal.ensures
    (number_none c.args.line.now (c.in_ok-r.r_end + 1)
    (resource_fields c.in_ok-p.p c.in_ok-a.a c.in_ok-r.r) c.number_at-4.ensures
    (λ n. refl) c.in_err-principal.was
    ∙ sym ((past-p (goal.at.returns-in_err-principal c).In_ok-p).3 ∙ (past-a (goal.at.returns-in_err-principal c).In_ok-a).3 ∙ (past-r (goal.at.returns-in_err-principal c).In_ok-r).3))

pub overflow_add-principal_end : goal.overflow_add-principal_end
overflow_add-principal_end c = omega (arith, past-principal (goal.at.overflow_add-principal_end c).In_ok-principal (past-p (goal.at.overflow_add-principal_end c).In_ok-p) (past-a (goal.at.overflow_add-principal_end c).In_ok-a) (past-r (goal.at.overflow_add-principal_end c).In_ok-r))

pub slice_bounds-read_decimal-count : goal.slice_bounds-read_decimal-count
slice_bounds-read_decimal-count c = omega (arith, past-principal (goal.at.slice_bounds-read_decimal-count c).In_ok-principal (past-p (goal.at.slice_bounds-read_decimal-count c).In_ok-p) (past-a (goal.at.slice_bounds-read_decimal-count c).In_ok-a) (past-r (goal.at.slice_bounds-read_decimal-count c).In_ok-r))

pub slice_bounds-read_decimal-start : goal.slice_bounds-read_decimal-start
slice_bounds-read_decimal-start c = omega (arith, past-principal (goal.at.slice_bounds-read_decimal-start c).In_ok-principal (past-p (goal.at.slice_bounds-read_decimal-start c).In_ok-p) (past-a (goal.at.slice_bounds-read_decimal-start c).In_ok-a) (past-r (goal.at.slice_bounds-read_decimal-start c).In_ok-r))

pub returns-in_err-resource : goal.returns-in_err-resource
returns-in_err-resource c =
    rw c.from_residual-in_err-resource.ensures
    (last_none c.args.line.now (c.in_ok-principal.principal_end + 1)
    (λ resource.
    some
    (asked (request_of c.in_ok-p.p c.in_ok-a.a c.in_ok-r.r) c.in_ok-principal.principal
    resource))
    _ c.read_decimal.ensures c.in_err-resource.was
    ∙ sym (past-principal (goal.at.returns-in_err-resource c).In_ok-principal (past-p (goal.at.returns-in_err-resource c).In_ok-p) (past-a (goal.at.returns-in_err-resource c).In_ok-a) (past-r (goal.at.returns-in_err-resource c).In_ok-r)).3)

-- the request type fits a word
pub overflow_mul-result : goal.overflow_mul-result
overflow_mul-result c =
    omega (arith, past-p (goal.at.overflow_mul-result c).In_ok-p, past-a (goal.at.overflow_mul-result c).In_ok-a, past-r (goal.at.overflow_mul-result c).In_ok-r)

pub overflow_add-result : goal.overflow_add-result
overflow_add-result c =
    omega (arith, past-p (goal.at.overflow_add-result c).In_ok-p, past-a (goal.at.overflow_add-result c).In_ok-a, past-r (goal.at.overflow_add-result c).In_ok-r)

pub overflow_mul-result-2 : goal.overflow_mul-result-2
overflow_mul-result-2 c =
    omega (arith, past-p (goal.at.overflow_mul-result-2 c).In_ok-p, past-a (goal.at.overflow_mul-result-2 c).In_ok-a, past-r (goal.at.overflow_mul-result-2 c).In_ok-r)

pub overflow_add-result-2 : goal.overflow_add-result-2
overflow_add-result-2 c =
    omega (arith, past-p (goal.at.overflow_add-result-2 c).In_ok-p, past-a (goal.at.overflow_add-result-2 c).In_ok-a, past-r (goal.at.overflow_add-result-2 c).In_ok-r)

pub returns : goal.returns
returns c = sym (past-resource (goal.at.returns c).In_ok-resource (past-principal (goal.at.returns c).In_ok-principal (past-p (goal.at.returns c).In_ok-p) (past-a (goal.at.returns c).In_ok-a) (past-r (goal.at.returns c).In_ok-r)))
