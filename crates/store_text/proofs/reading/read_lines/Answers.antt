-- `store_text::reading::read_lines` meets its contract: the lines that were passed came to the entities whose words are stored.
use Prim.Native.Nat.{ℕ, ◌≤◌, ◌<◌}
use native.Mathlib.Omega.{arith}
use mathlib.Core.Path.{◌≡◌, sym, ◌∙◌}
use lib.ListN.{length}
use Rattle.text.specs.declared.Line.TheVariants.{Whole}
use Rattle.text.proofs.Laws.{whole_within}
use Rattle.store_text.specs.ReadLaws.{reading_none, reading_all, reading_cut, reading_stopped, reading_next}
use Rattle.store_text.proofs.reading.read_lines.Goals as goal
use Rattle.store_text.proofs.reading.read_lines.Goals.{At-loop-at, In-Whole}

-- the words and the levels have the length that they had
words_kept : (c : At-loop-at) → length c.loop-at.words ≡ length c.args.words.now
words_kept c = c.loop-at.invariant.words_length ∙ sym c.requires.1

levels-kept : (c : At-loop-at) → length c.loop-at.levels ≡ length c.args.levels.now
levels-kept c = c.loop-at.invariant.levels_length ∙ sym c.requires.2

-- the LF that was found stands in the text, and there is room for one more word
within : (c : In-Whole) →
    (c.loop-at.at ≤ c.in-Whole.end) × (c.in-Whole.end < length c.args.text.now)
within c = whole_within _ _ _ _ c.at.ensures c.in-Whole.is

room : (c : In-Whole) → c.loop-at.count < 16384
room c =
    omega (arith, c.loop-at.invariant.room, within c, c.requires.0)

pub loop-at-init : goal.loop-at-init
loop-at-init c =
    reading_none c.args.text.now c.args.words.now c.args.levels.now c.requires.1 c.requires.2

pub shape_of-words-in_default : goal.shape_of-words-in_default
shape_of-words-in_default c = words_kept (goal.at.shape_of-words-in_default c).At-loop-at

pub shape_of-levels-in_default : goal.shape_of-levels-in_default
shape_of-levels-in_default c = levels-kept (goal.at.shape_of-levels-in_default c).At-loop-at

pub returns-in_default : goal.returns-in_default
returns-in_default c =
    let unended : (end : ℕ) → c.at.result ≡ Whole end → ⊥ = c.in_default.not-Whole in
    reading_cut c.loop-at.invariant c.at.ensures unended c.loop-at-test.true

pub slice_bounds-take_line-count : goal.slice_bounds-take_line-count
slice_bounds-take_line-count c = omega (arith, within (goal.at.slice_bounds-take_line-count c).In-Whole)

pub slice_bounds-take_line-start : goal.slice_bounds-take_line-start
slice_bounds-take_line-start c = omega (arith, within (goal.at.slice_bounds-take_line-start c).In-Whole)

pub slice_bounds-take_line-end : goal.slice_bounds-take_line-end
slice_bounds-take_line-end c = omega (arith, within (goal.at.slice_bounds-take_line-end c).In-Whole)

pub take_line-requires : goal.take_line-requires
take_line-requires c =
    omega (arith, c.loop-at.invariant.few, room (goal.at.take_line-requires c).In-Whole, c.loop-at.invariant.levels_length)

pub shape_of-words-in_default-take_line : goal.shape_of-words-in_default-take_line
shape_of-words-in_default-take_line c = words_kept (goal.at.shape_of-words-in_default-take_line c).At-loop-at

pub shape_of-levels-in_default-take_line : goal.shape_of-levels-in_default-take_line
shape_of-levels-in_default-take_line c =
    c.take_line.auto.levels ∙ levels-kept (goal.at.shape_of-levels-in_default-take_line c).At-loop-at

pub returns-in_default-take_line : goal.returns-in_default-take_line
returns-in_default-take_line c =
    reading_stopped c.loop-at.invariant c.at.ensures c.in-Whole.is
    (rw c.in_default-take_line.is at c.take_line.ensures.levels_after)

pub overflow_add-count : goal.overflow_add-count
overflow_add-count c = omega (arith, room (goal.at.overflow_add-count c).In-Whole)

pub offset_bounds-words-count : goal.offset_bounds-words-count
offset_bounds-words-count c = omega (arith, room (goal.at.offset_bounds-words-count c).In-Whole)

pub bounds-words-count : goal.bounds-words-count
bounds-words-count c =
    omega (arith, room (goal.at.bounds-words-count c).In-Whole, c.loop-at.invariant.words_length)

pub overflow_add-at : goal.overflow_add-at
overflow_add-at c = omega (arith, within (goal.at.overflow_add-at c).In-Whole)

pub loop-at-smaller : goal.loop-at-smaller
loop-at-smaller c = omega (arith, within (goal.at.loop-at-smaller c).In-Whole)

pub loop-at-preserved : goal.loop-at-preserved
loop-at-preserved c =
    reading_next c.loop-at.invariant c.at.ensures c.in-Whole.is c.requires.0
    c.take_line.auto.levels (rw c.in-Some.is at c.take_line.ensures.result_bound)
    (rw c.in-Some.is at c.take_line.ensures.levels_after)

pub shape_of-words : goal.shape_of-words
shape_of-words c = words_kept (goal.at.shape_of-words c).At-loop-at

pub shape_of-levels : goal.shape_of-levels
shape_of-levels c = levels-kept (goal.at.shape_of-levels c).At-loop-at

pub returns : goal.returns
returns c = reading_all c.loop-at.invariant c.loop-at-test.false c.requires.0
