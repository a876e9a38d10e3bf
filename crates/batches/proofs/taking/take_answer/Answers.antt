-- `batches::taking::take_answer` meets its contract: an absent answer gives nothing, and one that is there what its walk finds, if it merges.
use Prim.Native.Nat.{◌+◌, ◌-◌}
use native.Mathlib.Omega.{arith}
use native.Mathlib.Nat.{add-sub_cancel_left}
use mathlib.Core.Path.{◌≡◌, sym, ◌∙◌}
use mathlib.Core.List.{map}
use lib.ListN.{length, take, drop, get_or, length-map}
use lib.Seq.{length-take-le}
use Rattle.rules.specs.Loading.{batch_of}
use Rattle.rules.proofs.SliceLaws.{answers_to}
use Rattle.rules.specs.WalkRows.{remaining_rows}
use Rattle.rows.specs.Words.{row_in}
use Rattle.rows.specs.States.{rows_of}
use Rattle.values.specs.ValueWords.{value_rows_of, row_asked}
use Rattle.merging.specs.MergeEntityLaws.{entity_of}
use Rattle.row_walk.specs.Batches.{BatchWritten}
use Rattle.row_walk.specs.YieldLaws.{remaining_yields}
use Rattle.batches.specs.Hearings.{heard_at, merges_with}
use Rattle.batches.specs.HearingLaws.{standing_within, standing_absent, standing_present, Present}
use Rattle.batches.specs.TakeWordLaws.{batch_kept, taken_absent, taken_bad, taken_to, taken_apart}
use Rattle.batches.proofs.taking.take_answer.Goals as goal
use Rattle.batches.proofs.taking.take_answer.Goals.{After-find_remaining_entities, After-merges_with_earlier, After-from-head, In-Some}

pub offset_bounds-words-at : goal.offset_bounds-words-at
offset_bounds-words-at c = omega (arith, standing_within c.args.words.now (get_or c.args.places.now c.args.i 0) c.requires.all_stand.1)

pub bounds-words-at : goal.bounds-words-at
bounds-words-at c = omega (arith, standing_within c.args.words.now (get_or c.args.places.now c.args.i 0) c.requires.all_stand.1)

pub returns-then-word-eq0 : goal.returns-then-word-eq0
returns-then-word-eq0 c =
    let a = c.args in
    taken_absent (rows_of a.nodes.now) (map row_asked (take a.i a.rows.now)) (map (heard_at a.words.now) (take a.i a.places.now)) a.place (row_asked (get_or a.rows.now a.i 0)) (heard_at a.words.now (get_or a.places.now a.i 0)) a.rows.now a.end
    (standing_absent a.words.now (get_or a.places.now a.i 0) c.requires.all_stand.1 c.if-word-eq0.true)

-- the answer is there
present : (c : After-from-head) → Present c.args.words.now (get_or c.args.places.now c.args.i 0) c.from-head.result
present c =
    rw c.from-head.ensures (standing_present c.args.words.now (get_or c.args.places.now c.args.i 0) c.requires.all_stand.1 c.if-word-eq0.false)

pub overflow_add-from : goal.overflow_add-from
overflow_add-from c = omega (arith, (present (goal.at.overflow_add-from c).After-from-head).fits)

pub overflow_add-from-2 : goal.overflow_add-from-2
overflow_add-from-2 c = omega (arith, (present (goal.at.overflow_add-from-2 c).After-from-head).fits)

pub overflow_add-to : goal.overflow_add-to
overflow_add-to c = omega (arith, (present (goal.at.overflow_add-to c).After-from-head).fits)

pub offset_bounds-words-from : goal.offset_bounds-words-from
offset_bounds-words-from c = omega (arith, (present (goal.at.offset_bounds-words-from c).After-from-head).fits)

pub slice_bounds-find_remaining_entities-end : goal.slice_bounds-find_remaining_entities-end
slice_bounds-find_remaining_entities-end c = omega (arith, (present (goal.at.slice_bounds-find_remaining_entities-end c).After-from-head).fits)

pub find_remaining_entities-requires : goal.find_remaining_entities-requires
find_remaining_entities-requires c =
    let a = c.args in
    let at = get_or a.places.now a.i 0 in
    let from = at + 1 + c.from-head.result.parents in
    let run = value_rows_of (take (from + c.from-head.result.rows - from) (drop from a.words.now)) in
    record { nodes_len_bound = omega (arith, c.requires.nodes_len_bound.0); values_in_bounds = omega (arith, c.requires.i_lt_end.1.1, remaining_yields (rows_of a.nodes.now) c.from-asked.result.node run, length-map a.nodes.now row_in) }

-- what its walk finds, by the row that is asked
found :
    (c : After-find_remaining_entities) →
    let a = c.args in
    let from = get_or a.places.now a.i 0 + 1 + c.from-head.result.parents in
    let run = value_rows_of (take (from + c.from-head.result.rows - from) (drop from a.words.now)) in
    BatchWritten a.rows.now a.end c.find_remaining_entities.new.out
    (batch_of (remaining_rows (rows_of a.nodes.now) (row_asked (get_or a.rows.now a.i 0)).node run))
    c.find_remaining_entities.result
found c = rw (sym c.from-asked.ensures.1) c.find_remaining_entities.ensures

pub returns-in_default : goal.returns-in_default
returns-in_default c =
    let a = c.args in
    let at = get_or a.places.now a.i 0 in
    let there = present (goal.at.returns-in_default c).After-from-head in
    let from = at + 1 + c.from-head.result.parents in
    let run = value_rows_of (take (from + c.from-head.result.rows - from) (drop from a.words.now)) in
    taken_bad (rows_of a.nodes.now) (map row_asked (take a.i a.rows.now)) (map (heard_at a.words.now) (take a.i a.places.now)) a.place (row_asked (get_or a.rows.now a.i 0)) (heard_at a.words.now at)
    (entity_of (take c.from-head.result.parents (drop (at + 1) a.words.now)) (take c.from-head.result.rows (drop from a.words.now))) run there.is
    (rw (add-sub_cancel_left from c.from-head.result.rows)) a.rows.now _ a.end
    (rw c.in_default.is at (found (goal.at.returns-in_default c).After-find_remaining_entities))

-- the earlier rows are as they were
earlier : (c : In-Some) → (let a = c.args in let from = get_or a.places.now a.i 0 + 1 + c.from-head.result.parents in let run = value_rows_of (take (from + c.from-head.result.rows - from) (drop from a.words.now)) in BatchWritten a.rows.now a.end c.find_remaining_entities.new.out (batch_of (remaining_rows (rows_of a.nodes.now) (row_asked (get_or a.rows.now a.i 0)).node run)) c.find_remaining_entities.result) →
    let a = c.args in
    (take a.i c.find_remaining_entities.new.out ≡ take a.i a.rows.now) × (length c.find_remaining_entities.new.out ≡ length a.rows.now)
earlier c found-here =
    let a = c.args in
    let at = get_or a.places.now a.i 0 in
    let from = at + 1 + c.from-head.result.parents in
    let run = value_rows_of (take (from + c.from-head.result.rows - from) (drop from a.words.now)) in
    batch_kept a.rows.now _ a.end (batch_of (remaining_rows (rows_of a.nodes.now) (row_asked (get_or a.rows.now a.i 0)).node run)) c.find_remaining_entities.result a.i
    found-here c.in-Some.is (omega (arith, c.requires.i_lt_end.0))

pub slice_bounds-merges_with_earlier-end-2 : goal.slice_bounds-merges_with_earlier-end-2
slice_bounds-merges_with_earlier-end-2 c =
    let a = c.args in
    sym (length-take-le a.i _ (omega (arith, (earlier (goal.at.slice_bounds-merges_with_earlier-end-2 c).In-Some (found (goal.at.slice_bounds-merges_with_earlier-end-2 c).After-find_remaining_entities)).1, c.requires.i_lt_end.0, c.requires.i_lt_end.1.1)))

pub slice_bounds-merges_with_earlier-end-3 : goal.slice_bounds-merges_with_earlier-end-3
slice_bounds-merges_with_earlier-end-3 c =
    let a = c.args in
    sym (length-take-le a.i a.places.now (omega (arith, c.requires.i_lt_end.1.0)))

pub merges_with_earlier-requires : goal.merges_with_earlier-requires
merges_with_earlier-requires c =
    let a = c.args in
    record { rows_len = (length-take-le a.i _ (omega (arith, (earlier (goal.at.merges_with_earlier-requires c).In-Some (found (goal.at.merges_with_earlier-requires c).After-find_remaining_entities)).1, c.requires.i_lt_end.0, c.requires.i_lt_end.1.1)) ∙ sym (length-take-le a.i a.places.now (omega (arith, c.requires.i_lt_end.1.0))), (c.requires.all_stand.0, c.requires.all_stand.1)); words_in_bounds = omega (arith, c.requires.nodes_len_bound.1) }

-- whether it merges, by the row that is asked
merged : (c : After-merges_with_earlier) → (let a = c.args in (take a.i c.find_remaining_entities.new.out ≡ take a.i a.rows.now) × (length c.find_remaining_entities.new.out ≡ length a.rows.now)) →
    let a = c.args in
    merges_with (answers_to (row_asked (get_or a.rows.now a.i 0)).id (map row_asked (take a.i a.rows.now)) (map (heard_at a.words.now) (take a.i a.places.now)))
    (heard_at a.words.now (get_or a.places.now a.i 0))
    ≡ c.merges_with_earlier.result
merged c earlier-here = rw (sym c.from-asked.ensures.0, sym earlier-here.0) (sym c.merges_with_earlier.ensures)

pub returns-then-merges_with_earlier : goal.returns-then-merges_with_earlier
returns-then-merges_with_earlier c =
    let a = c.args in
    let at = get_or a.places.now a.i 0 in
    let there = present (goal.at.returns-then-merges_with_earlier c).After-from-head in
    let from = at + 1 + c.from-head.result.parents in
    let run = value_rows_of (take (from + c.from-head.result.rows - from) (drop from a.words.now)) in
    taken_to (rows_of a.nodes.now) (map row_asked (take a.i a.rows.now)) (map (heard_at a.words.now) (take a.i a.places.now)) a.place (row_asked (get_or a.rows.now a.i 0)) (heard_at a.words.now at)
    (entity_of (take c.from-head.result.parents (drop (at + 1) a.words.now)) (take c.from-head.result.rows (drop from a.words.now))) run there.is
    (rw (add-sub_cancel_left from c.from-head.result.rows)) a.rows.now _ a.end
    _ (rw c.in-Some.is at (found (goal.at.returns-then-merges_with_earlier c).After-find_remaining_entities))
    (merged (goal.at.returns-then-merges_with_earlier c).After-merges_with_earlier (earlier (goal.at.returns-then-merges_with_earlier c).In-Some (found (goal.at.returns-then-merges_with_earlier c).After-find_remaining_entities)) ∙ c.if-merges_with_earlier.true)

pub returns : goal.returns
returns c =
    let a = c.args in
    let at = get_or a.places.now a.i 0 in
    let there = present (goal.at.returns c).After-from-head in
    let from = at + 1 + c.from-head.result.parents in
    let run = value_rows_of (take (from + c.from-head.result.rows - from) (drop from a.words.now)) in
    taken_apart (rows_of a.nodes.now) (map row_asked (take a.i a.rows.now)) (map (heard_at a.words.now) (take a.i a.places.now)) a.place (row_asked (get_or a.rows.now a.i 0)) (heard_at a.words.now at)
    (entity_of (take c.from-head.result.parents (drop (at + 1) a.words.now)) (take c.from-head.result.rows (drop from a.words.now))) run there.is
    (rw (add-sub_cancel_left from c.from-head.result.rows)) a.rows.now _ a.end
    _ (rw c.in-Some.is at (found (goal.at.returns c).After-find_remaining_entities))
    (merged (goal.at.returns c).After-merges_with_earlier (earlier (goal.at.returns c).In-Some (found (goal.at.returns c).After-find_remaining_entities)) ∙ c.if-merges_with_earlier.false)
