-- `value_text::line::row_at` meets its contract: the four fields are read one after the other, as `row_fields` reads them.
use Prim.Native.Nat.{◌+◌, ◌-◌, ◌≤◌, ◌<◌}
use native.Mathlib.Omega.{arith}
use mathlib.Core.Option.{some}
use mathlib.Core.Path.{◌≡◌, refl, sym, ap, ◌∙◌}
use lib.ListN.{length, drop, take}
use Rattle.rules.specs.Text.{fields_of}
use Rattle.rules.specs.Listing.{place_in}
use Rattle.rules.specs.ValueRows.{value_row}
use Rattle.rules.specs.ValueTexts.{kind_letters}
use Rattle.text.proofs.FieldLaws.{Ends, field_ends, place_within}
use Rattle.text.specs.Answers.{number_of}
use Rattle.value_text.specs.Fields.{of_form, row_fields, key_fields, kind_fields, number_fields}
use Rattle.value_text.specs.LineLaws.{number_first, number_none, field_first, field_none, field_alone, last_value, last_none}
use Rattle.value_text.proofs.line.row_at.Goals as goal
use Rattle.value_text.proofs.line.row_at.Goals.{In_ok-letter_end, In_ok-depth, In_ok-key, In_ok-kind, In_ok-number}

-- what is known past each field: its value, where it ends, and the fields behind it
past-depth : (c : In_ok-depth) →
    let a = c.args in
    let line = a.line.now in
    (c.in_ok-depth.depth ≤ 65535) × (a.at ≤ c.in_ok-depth.depth_end) × (c.in_ok-depth.depth_end < length line) × (row_fields (fields_of (drop a.at line)) ≡ key_fields c.in_ok-depth.depth (fields_of (drop (c.in_ok-depth.depth_end + 1) line)))
past-depth c =
    let a = c.args in
    number_first a.line.now a.at key_fields c.number_at.ensures c.in_ok-depth.was

past-key : (c : In_ok-key) →
    let from = c.in_ok-depth.depth_end + 1 in
    (c.in_ok-key.key ≤ 65535) × (from ≤ c.in_ok-key.key_end) × (c.in_ok-key.key_end < length c.args.line.now) × (key_fields c.in_ok-depth.depth (fields_of (drop from c.args.line.now)) ≡ kind_fields c.in_ok-depth.depth c.in_ok-key.key (fields_of (drop (c.in_ok-key.key_end + 1) c.args.line.now)))
past-key c =
    number_first c.args.line.now (c.in_ok-depth.depth_end + 1)
    (kind_fields c.in_ok-depth.depth) c.number_at-2.ensures c.in_ok-key.was

past-letter : (c : In_ok-letter_end) →
    Ends c.args.line.now (c.in_ok-key.key_end + 1) c.in_ok-letter_end.letter_end
past-letter c =
    field_ends c.args.line.now (c.in_ok-key.key_end + 1) _ _
    c.field_end.ensures c.in_ok-letter_end.was

pub overflow_add-depth_end : goal.overflow_add-depth_end
overflow_add-depth_end c = omega (arith, past-depth (goal.at.overflow_add-depth_end c).In_ok-depth)

pub returns-in_err-key : goal.returns-in_err-key
returns-in_err-key c =
    rw c.from_residual-in_err-key.ensures
    (number_none c.args.line.now (c.in_ok-depth.depth_end + 1)
    (kind_fields c.in_ok-depth.depth) c.number_at-2.ensures (λ n. refl) c.in_err-key.was
    ∙ sym (past-depth (goal.at.returns-in_err-key c).In_ok-depth).3)

pub overflow_add-letter : goal.overflow_add-letter
overflow_add-letter c = omega (arith, past-key (goal.at.overflow_add-letter c).In_ok-key)

pub returns-in_err-letter_end : goal.returns-in_err-letter_end
returns-in_err-letter_end c =
    rw c.from_residual-in_err-letter_end.ensures
    (field_alone c.args.line.now (c.in_ok-key.key_end + 1) (place_in kind_letters)
    (number_fields c.in_ok-depth.depth c.in_ok-key.key) c.field_end.ensures c.in_err-letter_end.was (λ n. refl)
    ∙ sym ((past-depth (goal.at.returns-in_err-letter_end c).In_ok-depth).3 ∙ (past-key (goal.at.returns-in_err-letter_end c).In_ok-key).3))

pub slice_bounds-letter_place-end-2 : goal.slice_bounds-letter_place-end-2
slice_bounds-letter_place-end-2 c = omega (arith, past-letter (goal.at.slice_bounds-letter_place-end-2 c).In_ok-letter_end)

pub returns-in_err-kind : goal.returns-in_err-kind
returns-in_err-kind c =
    rw c.from_residual-in_err-kind.ensures
    (field_none c.args.line.now (c.in_ok-key.key_end + 1) (place_in kind_letters)
    (number_fields c.in_ok-depth.depth c.in_ok-key.key) (past-letter (goal.at.returns-in_err-kind c).In_ok-letter_end)
    (sym c.letter_place.ensures ∙ ap number_of c.in_err-kind.was)
    ∙ sym ((past-depth (goal.at.returns-in_err-kind c).In_ok-depth).3 ∙ (past-key (goal.at.returns-in_err-kind c).In_ok-key).3))

-- the kind, and all fields up to the last
kind-place : (c : In_ok-kind) →
    let from = c.in_ok-key.key_end + 1 in
    place_in kind_letters (take (c.in_ok-letter_end.letter_end - from) (drop from c.args.line.now)) ≡ some c.in_ok-kind.kind
kind-place c = sym c.letter_place.ensures ∙ ap number_of c.in_ok-kind.was

past-kind : (c : In_ok-kind) → (Ends c.args.line.now (c.in_ok-key.key_end + 1) c.in_ok-letter_end.letter_end) → (let a = c.args in let line = a.line.now in (c.in_ok-depth.depth ≤ 65535) × (a.at ≤ c.in_ok-depth.depth_end) × (c.in_ok-depth.depth_end < length line) × (row_fields (fields_of (drop a.at line)) ≡ key_fields c.in_ok-depth.depth (fields_of (drop (c.in_ok-depth.depth_end + 1) line)))) → (let from = c.in_ok-depth.depth_end + 1 in (c.in_ok-key.key ≤ 65535) × (from ≤ c.in_ok-key.key_end) × (c.in_ok-key.key_end < length c.args.line.now) × (key_fields c.in_ok-depth.depth (fields_of (drop from c.args.line.now)) ≡ kind_fields c.in_ok-depth.depth c.in_ok-key.key (fields_of (drop (c.in_ok-key.key_end + 1) c.args.line.now)))) →
    let a = c.args in
    row_fields (fields_of (drop a.at a.line.now))
    ≡ number_fields c.in_ok-depth.depth c.in_ok-key.key c.in_ok-kind.kind
    (fields_of (drop (c.in_ok-letter_end.letter_end + 1) a.line.now))
past-kind c past-letter-here past-depth-here past-key-here =
    past-depth-here.3
    ∙ past-key-here.3
    ∙ field_first c.args.line.now (c.in_ok-key.key_end + 1) (place_in kind_letters)
    (number_fields c.in_ok-depth.depth c.in_ok-key.key) past-letter-here (kind-place c)

pub overflow_add-letter_end : goal.overflow_add-letter_end
overflow_add-letter_end c = omega (arith, past-letter (goal.at.overflow_add-letter_end c).In_ok-letter_end)

pub slice_bounds-read_decimal-count : goal.slice_bounds-read_decimal-count
slice_bounds-read_decimal-count c = omega (arith, past-letter (goal.at.slice_bounds-read_decimal-count c).In_ok-letter_end)

pub slice_bounds-read_decimal-start : goal.slice_bounds-read_decimal-start
slice_bounds-read_decimal-start c = omega (arith, past-letter (goal.at.slice_bounds-read_decimal-start c).In_ok-letter_end)

pub returns-in_err-number : goal.returns-in_err-number
returns-in_err-number c =
    rw c.from_residual-in_err-number.ensures
    (last_none c.args.line.now (c.in_ok-letter_end.letter_end + 1)
    (λ number. of_form (value_row c.in_ok-depth.depth c.in_ok-key.key c.in_ok-kind.kind number)) _
    c.read_decimal.ensures c.in_err-number.was
    ∙ sym (past-kind (goal.at.returns-in_err-number c).In_ok-kind (past-letter (goal.at.returns-in_err-number c).In_ok-letter_end) (past-depth (goal.at.returns-in_err-number c).In_ok-depth) (past-key (goal.at.returns-in_err-number c).In_ok-key)))

-- the number, and all fields
past-number : (c : In_ok-number) → (let a = c.args in row_fields (fields_of (drop a.at a.line.now)) ≡ number_fields c.in_ok-depth.depth c.in_ok-key.key c.in_ok-kind.kind (fields_of (drop (c.in_ok-letter_end.letter_end + 1) a.line.now))) →
    let a = c.args in
    (c.in_ok-number.number ≤ 65535)
    × (row_fields (fields_of (drop a.at a.line.now))
    ≡ of_form (value_row c.in_ok-depth.depth c.in_ok-key.key c.in_ok-kind.kind c.in_ok-number.number))
past-number c past-kind-here =
    let (small, read) =
    last_value c.args.line.now (c.in_ok-letter_end.letter_end + 1)
    (λ number. of_form (value_row c.in_ok-depth.depth c.in_ok-key.key c.in_ok-kind.kind number)) _
    c.read_decimal.ensures c.in_ok-number.was in
    (small, past-kind-here ∙ read)

pub row_of-requires : goal.row_of-requires
row_of-requires c =
    ((past-depth (goal.at.row_of-requires c).In_ok-depth).0, (past-key (goal.at.row_of-requires c).In_ok-key).0, place_within kind_letters _ _ (kind-place (goal.at.row_of-requires c).In_ok-kind), (past-number (goal.at.row_of-requires c).In_ok-number (past-kind (goal.at.row_of-requires c).In_ok-kind (past-letter (goal.at.row_of-requires c).In_ok-letter_end) (past-depth (goal.at.row_of-requires c).In_ok-depth) (past-key (goal.at.row_of-requires c).In_ok-key))).0)

pub returns : goal.returns
returns c = c.row_of.ensures ∙ sym (past-number (goal.at.returns c).In_ok-number (past-kind (goal.at.returns c).In_ok-kind (past-letter (goal.at.returns c).In_ok-letter_end) (past-depth (goal.at.returns c).In_ok-depth) (past-key (goal.at.returns c).In_ok-key))).1
