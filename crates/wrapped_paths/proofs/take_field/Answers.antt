-- `wrapped_paths::take_field` meets its contract: the place of a name among the names is that of its field.
use Prim.Native.Nat.{ℕ, ◌+◌, ◌-◌, ◌≤◌}
use native.Mathlib.Omega.{arith}
use mathlib.Core.Path.{◌≡◌, ◌∙◌, refl}
use mathlib.Core.List.{List}
use lib.ListN.{length, take, drop, length-take, length-drop}
use Rattle.wrapped_paths.specs.AttrLaws.{LiteralAt, literal_length, literal_within, literal_standing, literal_end, literal_copy, front_standing, field_standing, stop_within, start_before, field_copy}
use Rattle.wrapped_paths.proofs.take_field.Goals as goal
use Rattle.wrapped_paths.proofs.take_field.Goals.{After-measure-field_end, In-Some, Start}

-- the literal that stands there
literal : (c : Start) → LiteralAt c.args.code.now c.requires.rest c.requires.fields c.args.at c.args.fields
literal c = record { as_many = c.requires.as_many; coded = c.requires.coded }

within : (c : Start) → c.args.at + 1 + c.args.fields ≤ length c.args.code.now
within c = omega (arith, literal_within (literal c), literal_length (literal c))

-- as many names stand there as it has fields
as_many : (code : List ℕ) (at fields : ℕ) → at + 1 + fields ≤ length code → length (take (at + 1 + fields - (at + 1)) (drop (at + 1) code)) ≡ fields
as_many code at fields h = simp (length-take, length-drop) (omega arith)

other : (c : In-Some) → (c.args.at + 1 + c.args.fields ≤ length c.args.code.now) → c.in-Some.place ≡ c.args.fields → ⊥
other c within-here = omega (arith, c.in-Some.ensures.1, as_many c.args.code.now c.args.at c.args.fields within-here)

-- the ends of the field
ends : (c : After-measure-field_end) → (c.in-Some.place ≡ c.args.fields → ⊥) → (LiteralAt c.args.code.now c.requires.rest c.requires.fields c.args.at c.args.fields) → (c.measure-field.result.end ≤ c.measure-field_end.result.end) × (c.measure-field_end.result.end ≤ length c.args.code.now)
ends c other-here literal-here =
    let l = literal-here in
    (start_before l c.measure-end.ensures c.args.name c.in-Some.ensures.0 other-here c.measure-field.ensures c.measure-field_end.ensures, stop_within l c.measure-end.ensures c.args.name c.in-Some.ensures.0 other-here c.measure-field.ensures c.measure-field_end.ensures)

pub overflow_add-names : goal.overflow_add-names
overflow_add-names c = omega (arith, within (goal.at.overflow_add-names c).Start)

pub overflow_add-first : goal.overflow_add-first
overflow_add-first c = omega (arith, within (goal.at.overflow_add-first c).Start)

pub measure-end-requires : goal.measure-end-requires
measure-end-requires c = literal_standing (literal (goal.at.measure-end-requires c).Start)

pub offset_bounds-code-names : goal.offset_bounds-code-names
offset_bounds-code-names c = omega (arith, within (goal.at.offset_bounds-code-names c).Start)

pub slice_bounds-name_place-end : goal.slice_bounds-name_place-end
slice_bounds-name_place-end c = omega (arith, within (goal.at.slice_bounds-name_place-end c).Start)

pub offset_bounds-code-at : goal.offset_bounds-code-at
offset_bounds-code-at c = omega (arith, within (goal.at.offset_bounds-code-at c).Start)

pub slice_bounds-copy_words-count : goal.slice_bounds-copy_words-count
slice_bounds-copy_words-count c = omega (arith, literal_end (literal (goal.at.slice_bounds-copy_words-count c).Start) c.measure-end.ensures)

pub slice_bounds-copy_words-start : goal.slice_bounds-copy_words-start
slice_bounds-copy_words-start c = omega (arith, literal_end (literal (goal.at.slice_bounds-copy_words-start c).Start) c.measure-end.ensures)

pub slice_bounds-copy_words-end : goal.slice_bounds-copy_words-end
slice_bounds-copy_words-end c = omega (arith, literal_end (literal (goal.at.slice_bounds-copy_words-end c).Start) c.measure-end.ensures, literal_within (literal (goal.at.slice_bounds-copy_words-end c).Start))

pub copy_words-requires : goal.copy_words-requires
copy_words-requires c = rw (literal_copy (literal (goal.at.copy_words-requires c).Start) c.measure-end.ensures c.args.name refl (c.in_default.ensures ∙ as_many c.args.code.now c.args.at c.args.fields (within (goal.at.copy_words-requires c).Start))) c.requires.room

pub shape_of-out-in_default : goal.shape_of-out-in_default
shape_of-out-in_default c = c.copy_words.auto.out

pub returns-in_default : goal.returns-in_default
returns-in_default c = λ fields rest many e. let a = c.args in let l : LiteralAt a.code.now rest fields a.at a.fields = record { as_many = many; coded = e } in record { next = literal_end l c.measure-end.ensures; wrote = rw (literal_copy l c.measure-end.ensures c.args.name refl (c.in_default.ensures ∙ as_many c.args.code.now c.args.at c.args.fields (within (goal.at.returns-in_default c).Start))) at c.copy_words.ensures }

pub measure-field-requires : goal.measure-field-requires
measure-field-requires c = front_standing (literal (goal.at.measure-field-requires c).Start) c.measure-end.ensures c.args.name c.in-Some.ensures.0 (other (goal.at.measure-field-requires c).In-Some (within (goal.at.measure-field-requires c).Start))

pub measure-field_end-requires : goal.measure-field_end-requires
measure-field_end-requires c = field_standing (literal (goal.at.measure-field_end-requires c).Start) c.measure-end.ensures c.args.name c.in-Some.ensures.0 (other (goal.at.measure-field_end-requires c).In-Some (within (goal.at.measure-field_end-requires c).Start)) c.measure-field.ensures

pub offset_bounds-code-field : goal.offset_bounds-code-field
offset_bounds-code-field c = omega (arith, ends (goal.at.offset_bounds-code-field c).After-measure-field_end (other (goal.at.offset_bounds-code-field c).In-Some (within (goal.at.offset_bounds-code-field c).Start)) (literal (goal.at.offset_bounds-code-field c).Start))

pub slice_bounds-copy_words-count-2 : goal.slice_bounds-copy_words-count-2
slice_bounds-copy_words-count-2 c = omega (arith, ends (goal.at.slice_bounds-copy_words-count-2 c).After-measure-field_end (other (goal.at.slice_bounds-copy_words-count-2 c).In-Some (within (goal.at.slice_bounds-copy_words-count-2 c).Start)) (literal (goal.at.slice_bounds-copy_words-count-2 c).Start))

pub slice_bounds-copy_words-start-2 : goal.slice_bounds-copy_words-start-2
slice_bounds-copy_words-start-2 c = omega (arith, ends (goal.at.slice_bounds-copy_words-start-2 c).After-measure-field_end (other (goal.at.slice_bounds-copy_words-start-2 c).In-Some (within (goal.at.slice_bounds-copy_words-start-2 c).Start)) (literal (goal.at.slice_bounds-copy_words-start-2 c).Start))

pub slice_bounds-copy_words-end-2 : goal.slice_bounds-copy_words-end-2
slice_bounds-copy_words-end-2 c = omega (arith, ends (goal.at.slice_bounds-copy_words-end-2 c).After-measure-field_end (other (goal.at.slice_bounds-copy_words-end-2 c).In-Some (within (goal.at.slice_bounds-copy_words-end-2 c).Start)) (literal (goal.at.slice_bounds-copy_words-end-2 c).Start))

pub copy_words-requires-2 : goal.copy_words-requires-2
copy_words-requires-2 c = rw (field_copy (literal (goal.at.copy_words-requires-2 c).Start) c.measure-end.ensures c.args.name c.in-Some.ensures.0 (other (goal.at.copy_words-requires-2 c).In-Some (within (goal.at.copy_words-requires-2 c).Start)) c.measure-field.ensures c.measure-field_end.ensures) c.requires.room

pub shape_of-out : goal.shape_of-out
shape_of-out c = c.copy_words-2.auto.out

pub returns : goal.returns
returns c = λ fields rest many e. let a = c.args in let l : LiteralAt a.code.now rest fields a.at a.fields = record { as_many = many; coded = e } in record { next = literal_end l c.measure-end.ensures; wrote = rw (field_copy l c.measure-end.ensures c.args.name c.in-Some.ensures.0 (other (goal.at.returns c).In-Some (within (goal.at.returns c).Start)) c.measure-field.ensures c.measure-field_end.ensures) at c.copy_words-2.ensures }
