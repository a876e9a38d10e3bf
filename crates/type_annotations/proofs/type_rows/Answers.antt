-- `type_annotations::type_rows` meets its contract: each row is a turn of the walk that types.
use Prim.Native.Nat.{◌+◌, ◌-◌, ◌≤◌, ◌<◌}
use native.Mathlib.Omega.{arith}
use mathlib.Core.Bool.{true}
use mathlib.Core.Path.{◌≡◌, refl, sym, ◌∙◌}
use borrow.Author.Tests.{ne_eqb}
use lib.ListN.{length, drop, get_or, length-set, length-map}
use Rattle.rules.specs.Typing.{fate}
use Rattle.rows.specs.Words.{is_word, row_in, depth_in, type_from}
use Rattle.rows.specs.WordLaws.{word_at, word_row, node_low}
use Rattle.rows.specs.States.{rows_of}
use Rattle.schema.specs.Items.{items_of}
use Rattle.node_types.specs.Shapes.{FateGiven}
use Rattle.type_annotations.specs.TypedLaws.{typing_none, typing_all, shallow, typing_entry, typing_stays, typing_dropped, typing_wrong}
use Rattle.type_annotations.proofs.type_rows.Goals as goal
use Rattle.type_annotations.proofs.type_rows.Goals.{After-depth-depth, After-fate_at, Else-depth-eq0, then-depth-eq0, else-depth-eq0+in-Stays, else-depth-eq0+in-Dropped}

whole : (c : After-depth-depth) → is_word ((get_or c.args.rows.now c.loop-i.i 0)) ≡ true
whole c = word_at c.args.rows.now c.loop-i.i c.requires.rows_value.0 c.loop-i-test.true

low : (c : After-depth-depth) → depth_in ((get_or c.args.rows.now c.loop-i.i 0)) ≤ 24
low c = shallow (items_of c.args.schema.now.types.words.now) c.args.rows.now c.loop-i.invariant.0 c.loop-i-test.true

-- there is room for another row
room : (c : After-depth-depth) → c.loop-i.count + 1 < length c.loop-i.out
room c = omega (arith, c.loop-i.invariant.0.few_kept, c.loop-i-test.true, c.requires.in_bounds, c.loop-i.invariant.1)

-- a node is no entry
node : (c : Else-depth-eq0) → depth_in ((get_or c.args.rows.now c.loop-i.i 0)) ≡ 0 → ⊥
node c e = c.if-depth-eq0.false (c.depth-depth.ensures ∙ e)

-- what becomes of it
given :
    (c : After-fate_at) →
    FateGiven
    (fate (items_of c.args.schema.now.types.words.now) c.loop-i.request (type_from (get_or c.loop-i.above (depth_in ((get_or c.args.rows.now c.loop-i.i 0)) - 1) 0)) (row_in ((get_or c.args.rows.now c.loop-i.i 0)))
    (rows_of (drop (c.loop-i.i + 1) c.args.rows.now)))
    c.fate_at.result
given c = rw c.depth-depth.ensures at c.fate_at.ensures

-- its depth is a place of the array
inside : (c : After-depth-depth) → depth_in ((get_or c.args.rows.now c.loop-i.i 0)) < length c.loop-i.above
inside c = omega (arith, low c, c.loop-i.invariant.2)

pub loop-i-init : goal.loop-i-init
loop-i-init c = (typing_none (items_of c.args.schema.now.types.words.now) c.args.rows.now _ c.args.out.now c.requires.rows_value.1, refl, refl)

pub overflow_add-entries : goal.overflow_add-entries
overflow_add-entries c = omega (arith, c.loop-i.invariant.0.few_entries)

pub overflow_add-count : goal.overflow_add-count
overflow_add-count c = omega (arith, room (goal.at.overflow_add-count c).After-depth-depth)

pub offset_bounds-out-count : goal.offset_bounds-out-count
offset_bounds-out-count c = omega (arith, room (goal.at.offset_bounds-out-count c).After-depth-depth)

pub bounds-out-count : goal.bounds-out-count
bounds-out-count c = room (goal.at.bounds-out-count c).After-depth-depth

pub offset_bounds-above-depth : goal.offset_bounds-above-depth
offset_bounds-above-depth c = omega (arith, low (goal.at.offset_bounds-above-depth c).After-depth-depth, c.depth-depth.ensures)

pub bounds-above-depth : goal.bounds-above-depth
bounds-above-depth c = omega (arith, low (goal.at.bounds-above-depth c).After-depth-depth, c.depth-depth.ensures)

pub overflow_sub-up : goal.overflow_sub-up
overflow_sub-up c = omega (arith, c.if-depth-eq0.false)

pub offset_bounds-above-up : goal.offset_bounds-above-up
offset_bounds-above-up c = omega (arith, low (goal.at.offset_bounds-above-up c).After-depth-depth, c.depth-depth.ensures)

pub bounds-above-up : goal.bounds-above-up
bounds-above-up c = omega (arith, low (goal.at.bounds-above-up c).After-depth-depth, c.depth-depth.ensures)

pub fate_at-requires : goal.fate_at-requires
fate_at-requires c = c.loop-i-test.true

pub overflow_add-count-in-Stays : goal.overflow_add-count-in-Stays
overflow_add-count-in-Stays c = omega (arith, room (goal.at.overflow_add-count-in-Stays c).After-depth-depth)

pub with_type-requires : goal.with_type-requires
with_type-requires c = (node_low ((get_or c.args.rows.now c.loop-i.i 0)) (whole (goal.at.with_type-requires c).After-depth-depth) (ne_eqb (depth_in ((get_or c.args.rows.now c.loop-i.i 0))) 0 (node (goal.at.with_type-requires c).Else-depth-eq0)), (rw c.in-Stays.is at c.fate_at.ensures).3)

pub offset_bounds-out-count-in-Stays : goal.offset_bounds-out-count-in-Stays
offset_bounds-out-count-in-Stays c = omega (arith, room (goal.at.offset_bounds-out-count-in-Stays c).After-depth-depth)

pub bounds-out-count-in-Stays : goal.bounds-out-count-in-Stays
bounds-out-count-in-Stays c = room (goal.at.bounds-out-count-in-Stays c).After-depth-depth

pub offset_bounds-above-depth-in-Stays : goal.offset_bounds-above-depth-in-Stays
offset_bounds-above-depth-in-Stays c = omega (arith, low (goal.at.offset_bounds-above-depth-in-Stays c).After-depth-depth, c.depth-depth.ensures)

pub bounds-above-depth-in-Stays : goal.bounds-above-depth-in-Stays
bounds-above-depth-in-Stays c = omega (arith, low (goal.at.bounds-above-depth-in-Stays c).After-depth-depth, c.depth-depth.ensures)

pub offset_bounds-above-depth-in-Dropped : goal.offset_bounds-above-depth-in-Dropped
offset_bounds-above-depth-in-Dropped c = omega (arith, low (goal.at.offset_bounds-above-depth-in-Dropped c).After-depth-depth, c.depth-depth.ensures)

pub bounds-above-depth-in-Dropped : goal.bounds-above-depth-in-Dropped
bounds-above-depth-in-Dropped c = omega (arith, low (goal.at.bounds-above-depth-in-Dropped c).After-depth-depth, c.depth-depth.ensures)

pub shape_of-out-in-Wrong : goal.shape_of-out-in-Wrong
shape_of-out-in-Wrong c = c.loop-i.invariant.1

pub returns-in-Wrong : goal.returns-in-Wrong
returns-in-Wrong c =
    typing_wrong (items_of c.args.schema.now.types.words.now) c.args.rows.now c.loop-i.invariant.0 c.loop-i-test.true (inside (goal.at.returns-in-Wrong c).After-depth-depth) (node (goal.at.returns-in-Wrong c).Else-depth-eq0) _
    (rw c.in-Wrong.is at (given (goal.at.returns-in-Wrong c).After-fate_at))

pub loop-i-preserved : goal.loop-i-preserved
loop-i-preserved c =
    let items = items_of c.args.schema.now.types.words.now in
    let at = goal.at.loop-i-preserved c in
    elim c.if-depth-eq0.branch [
      | then-depth-eq0 w ↦
          rw (w.out-is, w.above-is, w.request-is, w.entries-is, w.count-is) (
            rw (c.depth-depth.ensures, w.step-request.ensures)
                (typing_entry items c.args.rows.now c.loop-i.invariant.0 c.loop-i-test.true (inside at.After-depth-depth) (sym c.depth-depth.ensures ∙ w.if-depth-eq0.true) (word_row (get_or c.args.rows.now c.loop-i.i 0) (whole at.After-depth-depth)) (room at.After-depth-depth)),
            simp length-set c.loop-i.invariant.1,
            simp length-set c.loop-i.invariant.2,
          )
      | else-depth-eq0+in-Stays w ↦
          let became = rw c.depth-depth.ensures at w.fate_at.ensures in
          let (t, stays-so, number, small) = rw w.in-Stays.is at became in
          rw (w.out-is, w.above-is, w.request-is, w.entries-is, w.count-is) (
            rw (c.depth-depth.ensures, w.with_type.ensures, number)
                (typing_stays items c.args.rows.now c.loop-i.invariant.0 c.loop-i-test.true (inside at.After-depth-depth) (λ e. w.if-depth-eq0.false (c.depth-depth.ensures ∙ e)) t stays-so (room at.After-depth-depth)),
            simp length-set c.loop-i.invariant.1,
            simp length-set c.loop-i.invariant.2,
          )
      | else-depth-eq0+in-Dropped w ↦
          let became = rw c.depth-depth.ensures at w.fate_at.ensures in
          let dropped-so = rw w.in-Dropped.is at became in
          rw (w.out-is, w.above-is, w.request-is, w.entries-is, w.count-is) (
            rw c.depth-depth.ensures (typing_dropped items c.args.rows.now c.loop-i.invariant.0 c.loop-i-test.true (inside at.After-depth-depth) (λ e. w.if-depth-eq0.false (c.depth-depth.ensures ∙ e)) dropped-so),
            c.loop-i.invariant.1,
            simp length-set c.loop-i.invariant.2,
          )
    ]

pub shape_of-out : goal.shape_of-out
shape_of-out c = c.loop-i.invariant.1

pub returns : goal.returns
returns c =
    record {
      rows = c.loop-i.invariant.0.kept;
      answered = typing_all (items_of c.args.schema.now.types.words.now) c.args.rows.now c.loop-i.invariant.0 c.loop-i-test.false;
      words_stored = c.loop-i.invariant.0.words_kept;
      inside = omega (arith, c.loop-i.invariant.0.few_kept, c.loop-i.invariant.1, c.requires.in_bounds, c.loop-i.invariant.0.went.inside, length-map c.args.rows.now row_in);
    }
