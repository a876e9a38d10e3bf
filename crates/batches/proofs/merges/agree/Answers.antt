-- `batches::merges::agree` meets its contract: an absent answer merges with any, and two that are present where their words do.
use Prim.Native.Nat.{◌+◌, ◌-◌}
use native.Mathlib.Omega.{arith}
use native.Mathlib.Nat.{add-sub_cancel_left}
use lib.ListN.{drop, length-drop}
use lib.Seq.{length-take-le}
use Rattle.batches.specs.Hearings.{heard_at}
use Rattle.batches.specs.HearingLaws.{standing_within, standing_absent, standing_present, Present, agree_absent, agree_tested}
use Rattle.batches.proofs.merges.agree.Goals as goal
use Rattle.batches.proofs.merges.agree.Goals.{After-from-b}

pub offset_bounds-words-left : goal.offset_bounds-words-left
offset_bounds-words-left c = omega (arith, standing_within c.args.words.now c.args.left c.requires.0)

pub bounds-words-left : goal.bounds-words-left
bounds-words-left c = omega (arith, standing_within c.args.words.now c.args.left c.requires.0)

pub returns-then-first-eq0 : goal.returns-then-first-eq0
returns-then-first-eq0 c = rw (standing_absent c.args.words.now c.args.left c.requires.0 c.if-first-eq0.true)

pub offset_bounds-words-right : goal.offset_bounds-words-right
offset_bounds-words-right c = omega (arith, standing_within c.args.words.now c.args.right c.requires.1)

pub bounds-words-right : goal.bounds-words-right
bounds-words-right c = omega (arith, standing_within c.args.words.now c.args.right c.requires.1)

pub returns-then-second-eq0 : goal.returns-then-second-eq0
returns-then-second-eq0 c =
    let a = c.args in
    agree_absent (heard_at a.words.now a.left) (standing_absent a.words.now a.right c.requires.1 c.if-second-eq0.true)

-- both answers are present
left-present : (c : After-from-b) → Present c.args.words.now c.args.left c.from-a.result
left-present c =
    rw c.from-a.ensures (standing_present c.args.words.now c.args.left c.requires.0 c.if-first-eq0.false)

right-present : (c : After-from-b) → Present c.args.words.now c.args.right c.from-b.result
right-present c =
    rw c.from-b.ensures (standing_present c.args.words.now c.args.right c.requires.1 c.if-second-eq0.false)

pub overflow_add-a_parents : goal.overflow_add-a_parents
overflow_add-a_parents c = omega (arith, (left-present (goal.at.overflow_add-a_parents c).After-from-b).fits)

pub overflow_add-a_rows : goal.overflow_add-a_rows
overflow_add-a_rows c = omega (arith, (left-present (goal.at.overflow_add-a_rows c).After-from-b).fits)

pub overflow_add-a_end : goal.overflow_add-a_end
overflow_add-a_end c = omega (arith, (left-present (goal.at.overflow_add-a_end c).After-from-b).fits)

pub overflow_add-b_parents : goal.overflow_add-b_parents
overflow_add-b_parents c = omega (arith, (right-present (goal.at.overflow_add-b_parents c).After-from-b).fits)

pub overflow_add-b_rows : goal.overflow_add-b_rows
overflow_add-b_rows c = omega (arith, (right-present (goal.at.overflow_add-b_rows c).After-from-b).fits)

pub overflow_add-b_end : goal.overflow_add-b_end
overflow_add-b_end c = omega (arith, (right-present (goal.at.overflow_add-b_end c).After-from-b).fits)

pub offset_bounds-words-a_parents : goal.offset_bounds-words-a_parents
offset_bounds-words-a_parents c = omega (arith, (left-present (goal.at.offset_bounds-words-a_parents c).After-from-b).fits)

pub slice_bounds-merge_entities-end : goal.slice_bounds-merge_entities-end
slice_bounds-merge_entities-end c = omega (arith, (left-present (goal.at.slice_bounds-merge_entities-end c).After-from-b).fits)

pub offset_bounds-words-a_rows : goal.offset_bounds-words-a_rows
offset_bounds-words-a_rows c = omega (arith, (left-present (goal.at.offset_bounds-words-a_rows c).After-from-b).fits)

pub slice_bounds-merge_entities-end-2 : goal.slice_bounds-merge_entities-end-2
slice_bounds-merge_entities-end-2 c = omega (arith, (left-present (goal.at.slice_bounds-merge_entities-end-2 c).After-from-b).fits)

pub offset_bounds-words-b_parents : goal.offset_bounds-words-b_parents
offset_bounds-words-b_parents c = omega (arith, (right-present (goal.at.offset_bounds-words-b_parents c).After-from-b).fits)

pub slice_bounds-merge_entities-end-3 : goal.slice_bounds-merge_entities-end-3
slice_bounds-merge_entities-end-3 c = omega (arith, (right-present (goal.at.slice_bounds-merge_entities-end-3 c).After-from-b).fits)

pub offset_bounds-words-b_rows : goal.offset_bounds-words-b_rows
offset_bounds-words-b_rows c = omega (arith, (right-present (goal.at.offset_bounds-words-b_rows c).After-from-b).fits)

pub slice_bounds-merge_entities-end-4 : goal.slice_bounds-merge_entities-end-4
slice_bounds-merge_entities-end-4 c = omega (arith, (right-present (goal.at.slice_bounds-merge_entities-end-4 c).After-from-b).fits)

pub merge_entities-requires : goal.merge_entities-requires
merge_entities-requires c =
    let left = left-present (goal.at.merge_entities-requires c).After-from-b in
    let right = right-present (goal.at.merge_entities-requires c).After-from-b in
    let a = c.args in
    simp (add-sub_cancel_left, length-take-le c.from-a.result.rows (drop (a.left + 1 + c.from-a.result.parents) a.words.now) (simp length-drop (omega (arith, left.fits))), length-take-le c.from-b.result.rows (drop (a.right + 1 + c.from-b.result.parents) a.words.now) (simp length-drop (omega (arith, right.fits))))
    (omega (arith, left.fits, right.fits, c.requires.2))

pub returns : goal.returns
returns c =
    let a = c.args in
    let x = a.left + 1 in
    let y = a.right + 1 in
    rw c.is_some.ensures (agree_tested a.words.now a.left a.right c.from-a.result c.from-b.result (left-present (goal.at.returns c).After-from-b) (right-present (goal.at.returns c).After-from-b)
    (x + c.from-a.result.parents - x) (x + c.from-a.result.parents + c.from-a.result.rows - (x + c.from-a.result.parents)) (y + c.from-b.result.parents - y) (y + c.from-b.result.parents + c.from-b.result.rows - (y + c.from-b.result.parents))
    (add-sub_cancel_left x c.from-a.result.parents, add-sub_cancel_left (x + c.from-a.result.parents) c.from-a.result.rows, add-sub_cancel_left y c.from-b.result.parents, add-sub_cancel_left (y + c.from-b.result.parents) c.from-b.result.rows)
    _ _ _ c.merge_entities.ensures)
