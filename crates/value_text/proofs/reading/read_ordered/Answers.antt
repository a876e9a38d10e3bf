-- `value_text::reading::read_ordered` meets its contract: the order of elements is judged once every line has passed.
use Prim.Native.Nat.{◌+◌, ◌-◌, ◌≤◌, ◌<◌}
use native.Mathlib.Omega.{arith}
use mathlib.Core.Path.{◌≡◌, ◌∙◌}
use lib.ListN.{length, drop, length-drop}
use lib.Seq.{length-take-le}
use Rattle.std.proofs.lemmas.Result.{err_from_is_err_and}
use Rattle.rules.specs.Numbers.{accepted}
use Rattle.rules.specs.Text.{lines_of}
use Rattle.words.specs.Runs.{stored}
use Rattle.values.specs.ValueWords.{value_rows_of}
use Rattle.value_text.specs.Rows.{Misplaced}
use Rattle.value_text.specs.Reads.{rows_given}
use Rattle.value_text.specs.ReadLaws.{order_refused, order_passes, order_broken, order_kept}
use Rattle.value_text.proofs.reading.read_ordered.Goals as goal
use Rattle.value_text.proofs.reading.read_ordered.Goals.{After-first_misplaced, In_ok-count}

-- every line has passed: the rows that are stored, and how many there are
rows-read : (c : In_ok-count) →
    let a = c.args in
    accepted (value_rows_of (stored c.in_ok-count.count c.read_rows.new.words))
    ≡ rows_given a.place (lines_of (drop a.from a.text.now))
rows-read c = rw c.in_ok-count.was at c.read_rows.ensures.words_after

few_rows : (c : In_ok-count) →
    let a = c.args in
    (c.in_ok-count.count < 8193) × (a.place + c.in_ok-count.count ≤ length a.text.now)
few_rows c = rw c.in_ok-count.was at c.read_rows.ensures.result_bound

words_kept : (c : In_ok-count) → length c.read_rows.new.words ≡ 8193
words_kept c =
    c.read_rows.auto.words ∙ c.requires.2

stored_count : (c : In_ok-count) →
    length (stored c.in_ok-count.count c.read_rows.new.words) ≡ c.in_ok-count.count
stored_count c =
    length-take-le _ _
    (omega (arith, few_rows c, words_kept c, length-drop 1 c.read_rows.new.words))

pub slice_bounds-first_misplaced-end : goal.slice_bounds-first_misplaced-end
slice_bounds-first_misplaced-end c = omega (arith, few_rows (goal.at.slice_bounds-first_misplaced-end c).In_ok-count, words_kept (goal.at.slice_bounds-first_misplaced-end c).In_ok-count)

pub first_misplaced-requires : goal.first_misplaced-requires
first_misplaced-requires c =
    let a = c.args in
    let same : c.in_ok-count.count + 1 - 1 ≡ c.in_ok-count.count = omega arith in
    rw same (
      order_passes a.place (lines_of (drop a.from a.text.now)) (stored c.in_ok-count.count c.read_rows.new.words) (rows-read (goal.at.first_misplaced-requires c).In_ok-count),
      omega (arith, stored_count (goal.at.first_misplaced-requires c).In_ok-count, few_rows (goal.at.first_misplaced-requires c).In_ok-count, c.read_rows.auto.levels),
    )

-- what was found of their order
found : (c : After-first_misplaced) → Misplaced (stored c.in_ok-count.count c.read_rows.new.words) c.first_misplaced.result
found c =
    let same : c.in_ok-count.count + 1 - 1 ≡ c.in_ok-count.count = omega arith in
    rw same at c.first_misplaced.ensures

pub returns-in_err-count : goal.returns-in_err-count
returns-in_err-count c =
    let a = c.args in
    let handed = err_from_is_err_and c.from_residual.result c.from_residual.ensures.1 in
    rw (handed.1, handed.2)
    (record { words_after = order_refused a.place (lines_of (drop a.from a.text.now)) (rw c.in_err-count.was at c.read_rows.ensures.words_after); result_bound = omega arith })

pub returns-in-Some : goal.returns-in-Some
returns-in-Some c =
    let a = c.args in
    let out = rw c.in-Some.is at (found (goal.at.returns-in-Some c).After-first_misplaced) in
    record { words_after = order_broken a.place (lines_of (drop a.from a.text.now)) _ (rows-read (goal.at.returns-in-Some c).In_ok-count) out; result_bound = omega arith }

pub returns : goal.returns
returns c =
    let a = c.args in
    let in-order = rw c.in_default.is at (found (goal.at.returns c).After-first_misplaced) in
    record { words_after = order_kept a.place (lines_of (drop a.from a.text.now)) _ (rows-read (goal.at.returns c).In_ok-count) in-order; result_bound = (few_rows (goal.at.returns c).In_ok-count).0 }
