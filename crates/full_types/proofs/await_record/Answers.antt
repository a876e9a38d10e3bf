-- `full_types::await_record` meets its contract: the attributes of the type stand behind its line, and the names behind the literal's head.
use Prim.Native.Nat.{◌+◌, ◌-◌, ◌%◌, ◌≤◌}
use native.Mathlib.Omega.{arith}
use mathlib.Core.Path.{◌≡◌, sym, ap, ◌∙◌}
use lib.ListN.{length, take, drop, get_or, length-take}
use Rattle.rules.specs.Schema.{Item}
use Rattle.rules.specs.Paths.{Fields, has_all, attributes_at}
use Rattle.schema.specs.Items.{items_of}
use Rattle.wrapped_paths.specs.Code.{names_in}
use Rattle.type_table.specs.TypeTableLaws.{TypeStands}
use Rattle.type_table.specs.TypeTableLaws.{known_type}
use Rattle.full_types.specs.RequiredLaws.{known_inside, known_stands, type_inside, type_cut, type_ascends, meeting_room, meeting_within, record_none, record_lacks, record_stacked}
use Rattle.full_types.proofs.await_record.Goals as goal
use Rattle.full_types.proofs.await_record.Goals.{After-attributes_end-end, After-has_all, After-from, After-size_at-place}

-- the type stands there
there : (c : After-size_at-place) → TypeStands c.args.types.now.words.now c.args.t c.size_at-place.result.place
there c = known_stands (known_type c.args.types.now c.requires.known) c.size_at-place.ensures.0

tag : (c : After-from) → c.from.result.tag ≡ get_or c.args.types.now.words.now c.size_at-place.result.place 0 % 16
tag c = ap (λ (it : Item). it.tag) c.from.ensures

-- its attributes are inside, and so are the names
inside : (c : After-attributes_end-end) → (TypeStands c.args.types.now.words.now c.args.t c.size_at-place.result.place) → c.attributes_end-end.result ≤ length c.args.types.now.words.now
inside c there-here = type_inside there-here c.attributes_end-end.ensures

room :
    (c : After-size_at-place) →
    let args = c.args in
    (args.left + args.fields ≤ length args.waiting.now) × (args.at + 1 + args.fields ≤ length args.code.now)
room c = (omega (arith, meeting_room c.requires), meeting_within c.requires)

-- whether all attributes are named
asked : (c : After-has_all) → (TypeStands c.args.types.now.words.now c.args.t c.size_at-place.result.place) → (fields : Fields) →
    let args = c.args in
    take (args.at + 1 + args.fields - (args.at + 1)) (drop (args.at + 1) args.code.now) ≡ names_in fields
    → c.has_all.result ≡ has_all fields (attributes_at (items_of args.types.now.words.now) args.t)
asked c there-here fields e =
    c.has_all.ensures fields e ∙ ap (has_all fields) (type_cut there-here c.attributes_end-end.ensures)

pub size_at-place-requires : goal.size_at-place-requires
size_at-place-requires c = known_inside (known_type c.args.types.now c.requires.known)

pub offset_bounds-types-place : goal.offset_bounds-types-place
offset_bounds-types-place c = omega (arith, (there (goal.at.offset_bounds-types-place c).After-size_at-place).inside)

pub bounds-types-place : goal.bounds-types-place
bounds-types-place c = (there (goal.at.bounds-types-place c).After-size_at-place).inside

pub returns-then-from-ne-RECORD : goal.returns-then-from-ne-RECORD
returns-then-from-ne-RECORD c =
    record_none (there (goal.at.returns-then-from-ne-RECORD c).After-size_at-place) c.args.code.now c.args.at c.args.fields c.args.waiting.now c.args.left
    (λ e. c.if-from-ne-RECORD.true (tag (goal.at.returns-then-from-ne-RECORD c).After-from ∙ e))

pub overflow_add-first : goal.overflow_add-first
overflow_add-first c = omega (arith, (there (goal.at.overflow_add-first c).After-size_at-place).inside)

pub attributes_end-end-requires : goal.attributes_end-end-requires
attributes_end-end-requires c = omega (arith, (there (goal.at.attributes_end-end-requires c).After-size_at-place).inside)

pub overflow_add-names : goal.overflow_add-names
overflow_add-names c = omega (arith, room (goal.at.overflow_add-names c).After-size_at-place)

pub overflow_add-from : goal.overflow_add-from
overflow_add-from c = omega (arith, room (goal.at.overflow_add-from c).After-size_at-place)

pub offset_bounds-types-first : goal.offset_bounds-types-first
offset_bounds-types-first c = omega (arith, (there (goal.at.offset_bounds-types-first c).After-size_at-place).inside)

pub slice_bounds-has_all-end : goal.slice_bounds-has_all-end
slice_bounds-has_all-end c = inside (goal.at.slice_bounds-has_all-end c).After-attributes_end-end (there (goal.at.slice_bounds-has_all-end c).After-size_at-place)

pub offset_bounds-code-names : goal.offset_bounds-code-names
offset_bounds-code-names c = omega (arith, room (goal.at.offset_bounds-code-names c).After-size_at-place)

pub slice_bounds-has_all-end-2 : goal.slice_bounds-has_all-end-2
slice_bounds-has_all-end-2 c = (room (goal.at.slice_bounds-has_all-end-2 c).After-size_at-place).1

pub returns-then-not-has_all : goal.returns-then-not-has_all
returns-then-not-has_all c =
    record_lacks (there (goal.at.returns-then-not-has_all c).After-size_at-place) c.args.code.now c.args.at c.args.fields c.args.waiting.now c.args.left c.requires.said
    (sym (tag (goal.at.returns-then-not-has_all c).After-from) ∙ c.if-from-ne-RECORD.false)
    (asked (goal.at.returns-then-not-has_all c).After-has_all (there (goal.at.returns-then-not-has_all c).After-size_at-place))
    (c.if-not-has_all.true)

pub offset_bounds-types-first-2 : goal.offset_bounds-types-first-2
offset_bounds-types-first-2 c = omega (arith, (there (goal.at.offset_bounds-types-first-2 c).After-size_at-place).inside)

pub slice_bounds-await_fields-end : goal.slice_bounds-await_fields-end
slice_bounds-await_fields-end c = inside (goal.at.slice_bounds-await_fields-end c).After-attributes_end-end (there (goal.at.slice_bounds-await_fields-end c).After-size_at-place)

pub offset_bounds-code-names-2 : goal.offset_bounds-code-names-2
offset_bounds-code-names-2 c = omega (arith, room (goal.at.offset_bounds-code-names-2 c).After-size_at-place)

pub slice_bounds-await_fields-end-2 : goal.slice_bounds-await_fields-end-2
slice_bounds-await_fields-end-2 c = (room (goal.at.slice_bounds-await_fields-end-2 c).After-size_at-place).1

pub await_fields-requires : goal.await_fields-requires
await_fields-requires c =
    let args = c.args in (
      type_ascends (there (goal.at.await_fields-requires c).After-size_at-place) c.attributes_end-end.ensures,
      omega (arith, (room (goal.at.await_fields-requires c).After-size_at-place).0, length-take (args.at + 1 + args.fields - (args.at + 1)) (drop (args.at + 1) args.code.now)),
    )

pub returns : goal.returns
returns c =
    record_stacked (there (goal.at.returns c).After-size_at-place) c.args.code.now c.args.at c.args.fields c.args.waiting.now c.args.left c.requires.said
    (sym (tag (goal.at.returns c).After-from) ∙ c.if-from-ne-RECORD.false)
    (asked (goal.at.returns c).After-has_all (there (goal.at.returns c).After-size_at-place))
    (take (c.attributes_end-end.result - (c.size_at-place.result.place + 1)) (drop (c.size_at-place.result.place + 1) c.args.types.now.words.now))
    (c.if-not-has_all.false)
    (type_cut (there (goal.at.returns c).After-size_at-place) c.attributes_end-end.ensures)
    c.await_fields.ensures
