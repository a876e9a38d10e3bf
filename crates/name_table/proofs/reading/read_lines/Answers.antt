-- `name_table::reading::read_lines` meets its contract: the lines that were passed came to the names whose words are stored.
use Prim.Native.Nat.{ℕ, ◌+◌, ◌-◌, ◌≤◌, ◌<◌}
use native.Mathlib.Omega.{arith}
use mathlib.Core.Path.{◌≡◌, sym, ◌∙◌}
use lib.ListN.{length}
use Rattle.text.specs.declared.Line.TheVariants.{Whole}
use Rattle.text.proofs.Laws.{whole_within}
use Rattle.name_table.specs.ReadLaws.{reading_none, reading_all, reading_cut, reading_stopped, reading_next}
use Rattle.name_table.proofs.reading.read_lines.Goals as goal
use Rattle.name_table.proofs.reading.read_lines.Goals.{At-loop-at, In-Some, In-Whole}

-- the words have the length that they had
words_kept : (c : At-loop-at) → length c.loop-at.words ≡ length c.args.words.now
words_kept c = c.loop-at.invariant.words_length ∙ sym c.requires.1

-- the LF that was found stands in the text
within : (c : In-Whole) →
    (c.loop-at.at ≤ c.in-Whole.end) × (c.in-Whole.end < length c.args.text.now)
within c = whole_within _ _ _ _ c.at.ensures c.in-Whole.is

-- there is room for one more word, and a line that was taken has its bytes
few : (c : In-Whole) → c.loop-at.count ≤ 10922
few c =
    omega (arith, c.loop-at.invariant.room, within c, c.requires.0)

long : (c : In-Some) →
    c.loop-at.at + 5 ≤ c.in-Whole.end
long c = rw c.in-Some.is at c.take_line.ensures.long

pub loop-at-init : goal.loop-at-init
loop-at-init c = reading_none c.args.text.now c.args.words.now c.requires.1

pub shape_of-words-in_default : goal.shape_of-words-in_default
shape_of-words-in_default c = words_kept (goal.at.shape_of-words-in_default c).At-loop-at

pub returns-in_default : goal.returns-in_default
returns-in_default c =
    let unended : (end : ℕ) → c.at.result ≡ Whole end → ⊥ = c.in_default.not-Whole in
    record { words_after = reading_cut c.loop-at.invariant c.at.ensures unended c.loop-at-test.true; result_bound = omega arith }

pub overflow_add-next : goal.overflow_add-next
overflow_add-next c = omega (arith, few (goal.at.overflow_add-next c).In-Whole)

pub slice_bounds-take_line-count : goal.slice_bounds-take_line-count
slice_bounds-take_line-count c = omega arith

pub slice_bounds-take_line-start : goal.slice_bounds-take_line-start
slice_bounds-take_line-start c = omega arith

pub slice_bounds-take_line-end : goal.slice_bounds-take_line-end
slice_bounds-take_line-end c = omega (arith, few (goal.at.slice_bounds-take_line-end c).In-Whole, c.loop-at.invariant.words_length)

pub take_line-requires : goal.take_line-requires
take_line-requires c = ((within (goal.at.take_line-requires c).In-Whole).0, omega (arith, within (goal.at.take_line-requires c).In-Whole), c.requires.0)

pub shape_of-words-in_default-take_line : goal.shape_of-words-in_default-take_line
shape_of-words-in_default-take_line c = words_kept (goal.at.shape_of-words-in_default-take_line c).At-loop-at

pub returns-in_default-take_line : goal.returns-in_default-take_line
returns-in_default-take_line c =
    let one : c.loop-at.count + 1 - 1 ≡ c.loop-at.count = omega arith in
    record { words_after = reading_stopped c.loop-at.invariant c.at.ensures c.in-Whole.is (rw (c.in_default-take_line.is, one) at c.take_line.ensures.result_value); result_bound = omega arith }

pub offset_bounds-words-next : goal.offset_bounds-words-next
offset_bounds-words-next c = omega (arith, few (goal.at.offset_bounds-words-next c).In-Whole)

pub bounds-words-next : goal.bounds-words-next
bounds-words-next c =
    omega (arith, long (goal.at.bounds-words-next c).In-Some, within (goal.at.bounds-words-next c).In-Whole, c.loop-at.invariant.room, c.loop-at.invariant.words_length, c.requires.0)

pub overflow_add-least : goal.overflow_add-least
overflow_add-least c = omega (arith, c.key_of-least.ensures)

pub overflow_add-at : goal.overflow_add-at
overflow_add-at c = omega (arith, within (goal.at.overflow_add-at c).In-Whole)

pub loop-at-smaller : goal.loop-at-smaller
loop-at-smaller c = omega (arith, within (goal.at.loop-at-smaller c).In-Whole)

pub loop-at-preserved : goal.loop-at-preserved
loop-at-preserved c =
    let one : c.loop-at.count + 1 - 1 ≡ c.loop-at.count = omega arith in
    rw c.key_of-least.ensures (reading_next c.loop-at.invariant c.at.ensures c.in-Whole.is c.in-Some.word c.requires.0 (long (goal.at.loop-at-preserved c).In-Some)
    (rw (c.in-Some.is, one) at c.take_line.ensures.result_value))

pub shape_of-words : goal.shape_of-words
shape_of-words c = words_kept (goal.at.shape_of-words c).At-loop-at

pub returns : goal.returns
returns c = record { words_after = reading_all c.loop-at.invariant c.loop-at-test.false; result_bound = omega (arith, c.loop-at.invariant.room, c.loop-at.invariant.came.inside, c.requires.0) }
