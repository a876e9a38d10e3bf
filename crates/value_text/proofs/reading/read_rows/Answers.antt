-- `value_text::reading::read_rows` meets its contract: the lines that were passed came to the rows whose words are stored.
use Prim.Native.Nat.{ℕ, ◌≤◌, ◌<◌}
use native.Mathlib.Omega.{arith}
use mathlib.Core.Path.{◌≡◌, sym, ◌∙◌}
use lib.ListN.{length}
use Rattle.text.specs.declared.Line.TheVariants.{Whole}
use Rattle.text.proofs.Laws.{whole_within}
use Rattle.value_text.specs.ReadLaws.{rows_none, rows_all, rows_cut, rows_stopped, rows_full, rows_next}
use Rattle.value_text.proofs.reading.read_rows.Goals as goal
use Rattle.value_text.proofs.reading.read_rows.Goals.{At-loop-at, In-Whole}

-- the words and the levels have the length that they had
words_kept : (c : At-loop-at) → length c.loop-at.words ≡ length c.args.words.now
words_kept c = c.loop-at.invariant.words_length ∙ sym c.requires.2

levels-kept : (c : At-loop-at) → length c.loop-at.levels ≡ length c.args.levels.now
levels-kept c = c.loop-at.invariant.levels_length ∙ sym c.requires.3

-- the LF that was found stands in the text
within : (c : In-Whole) →
    (c.loop-at.at ≤ c.in-Whole.end) × (c.in-Whole.end < length c.args.text.now)
within c = whole_within _ _ _ _ c.at.ensures c.in-Whole.is

pub bounds-levels-0 : goal.bounds-levels-0
bounds-levels-0 c = omega (arith, c.requires.3)

pub loop-at-init : goal.loop-at-init
loop-at-init c =
    let a = c.args in
    rows_none a.text.now a.from a.place a.words.now a.levels.now c.requires.0 c.requires.1 c.requires.2 c.requires.3

pub overflow_add-refusal : goal.overflow_add-refusal
overflow_add-refusal c = omega (arith, c.loop-at.invariant.came.lines_passed, c.loop-at.invariant.came.inside)

pub shape_of-words-in_default : goal.shape_of-words-in_default
shape_of-words-in_default c = words_kept (goal.at.shape_of-words-in_default c).At-loop-at

pub shape_of-levels-in_default : goal.shape_of-levels-in_default
shape_of-levels-in_default c = levels-kept (goal.at.shape_of-levels-in_default c).At-loop-at

pub returns-in_default : goal.returns-in_default
returns-in_default c =
    let unended : (end : ℕ) → c.at.result ≡ Whole end → ⊥ = c.in_default.not-Whole in
    record { words_after = rows_cut c.loop-at.invariant c.at.ensures unended c.loop-at-test.true; result_bound = (omega arith, omega (arith, c.requires)) }

pub shape_of-words-then-count-eq-ROWS : goal.shape_of-words-then-count-eq-ROWS
shape_of-words-then-count-eq-ROWS c = words_kept (goal.at.shape_of-words-then-count-eq-ROWS c).At-loop-at

pub shape_of-levels-then-count-eq-ROWS : goal.shape_of-levels-then-count-eq-ROWS
shape_of-levels-then-count-eq-ROWS c = levels-kept (goal.at.shape_of-levels-then-count-eq-ROWS c).At-loop-at

pub returns-then-count-eq-ROWS : goal.returns-then-count-eq-ROWS
returns-then-count-eq-ROWS c =
    record { words_after = rows_full c.loop-at.invariant c.at.ensures c.in-Whole.is c.if-count-eq-ROWS.true; result_bound = (omega arith, omega (arith, c.requires)) }

pub slice_bounds-take_row-count : goal.slice_bounds-take_row-count
slice_bounds-take_row-count c = omega (arith, within (goal.at.slice_bounds-take_row-count c).In-Whole)

pub slice_bounds-take_row-start : goal.slice_bounds-take_row-start
slice_bounds-take_row-start c = omega (arith, within (goal.at.slice_bounds-take_row-start c).In-Whole)

pub slice_bounds-take_row-end : goal.slice_bounds-take_row-end
slice_bounds-take_row-end c = omega (arith, within (goal.at.slice_bounds-take_row-end c).In-Whole)

pub take_row-requires : goal.take_row-requires
take_row-requires c =
    (omega (arith, c.if-count-eq-ROWS.false, c.loop-at.invariant.most, c.loop-at.invariant.words_length), omega (arith, c.loop-at.invariant.few, c.loop-at.invariant.most, c.loop-at.invariant.levels_length))

pub shape_of-words-in_default-take_row : goal.shape_of-words-in_default-take_row
shape_of-words-in_default-take_row c =
    c.take_row.auto.words ∙ words_kept (goal.at.shape_of-words-in_default-take_row c).At-loop-at

pub shape_of-levels-in_default-take_row : goal.shape_of-levels-in_default-take_row
shape_of-levels-in_default-take_row c =
    c.take_row.auto.levels ∙ levels-kept (goal.at.shape_of-levels-in_default-take_row c).At-loop-at

pub returns-in_default-take_row : goal.returns-in_default-take_row
returns-in_default-take_row c =
    record { words_after = rows_stopped c.loop-at.invariant c.at.ensures c.in-Whole.is (rw c.in_default-take_row.is at c.take_row.ensures); result_bound = (omega arith, omega (arith, c.requires)) }

pub overflow_add-at : goal.overflow_add-at
overflow_add-at c = omega (arith, within (goal.at.overflow_add-at c).In-Whole)

pub loop-at-smaller : goal.loop-at-smaller
loop-at-smaller c = omega (arith, within (goal.at.loop-at-smaller c).In-Whole)

pub loop-at-preserved : goal.loop-at-preserved
loop-at-preserved c =
    rows_next c.loop-at.invariant c.at.ensures c.in-Whole.is c.if-count-eq-ROWS.false
    c.take_row.auto.levels (rw c.in-Some.is at c.take_row.ensures)

pub shape_of-words : goal.shape_of-words
shape_of-words c = words_kept (goal.at.shape_of-words c).At-loop-at

pub shape_of-levels : goal.shape_of-levels
shape_of-levels c = levels-kept (goal.at.shape_of-levels c).At-loop-at

pub returns : goal.returns
returns c = record { words_after = rows_all c.loop-at.invariant c.loop-at-test.false; result_bound = (omega (arith, c.loop-at.invariant.most), omega (arith, c.loop-at.invariant.came.lines_passed, c.loop-at.invariant.came.inside)) }
