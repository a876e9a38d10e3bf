-- `store_text::reading::read_ordered` meets its contract: the order of elements is judged once every line has passed.
use Prim.Native.Nat.{◌+◌, ◌-◌}
use native.Mathlib.Omega.{arith}
use mathlib.Core.Path.{◌≡◌, ◌∙◌}
use lib.ListN.{length, length-drop}
use lib.Seq.{length-take-le}
use Rattle.std.proofs.lemmas.Result.{err_from_is_err_and}
use Rattle.words.specs.Runs.{stored}
use Rattle.store_text.specs.Entities.{OrderFound}
use Rattle.store_text.specs.Outcomes.{TextJudged}
use Rattle.store_text.specs.ReadLaws.{order_refused, order_broken, order_kept}
use Rattle.store_text.proofs.reading.read_ordered.Goals as goal
use Rattle.store_text.proofs.reading.read_ordered.Goals.{After-first_unordered, In_ok-count}

-- every line has passed: the words that are stored, and how many there are
passed : (c : In_ok-count) →
    TextJudged c.args.text.now c.read_lines.new.words c.in_ok-count.count
passed c = rw c.in_ok-count.was at c.read_lines.ensures

words_kept : (c : In_ok-count) → length c.read_lines.new.words ≡ 16385
words_kept c =
    c.read_lines.auto.words ∙ c.requires.1

stored_count : (c : In_ok-count) →
    length (stored c.in_ok-count.count c.read_lines.new.words) ≡ c.in_ok-count.count
stored_count c =
    length-take-le _ _
    (omega (arith, (passed c).most, words_kept c, length-drop 1 c.read_lines.new.words))

pub slice_bounds-first_unordered-end : goal.slice_bounds-first_unordered-end
slice_bounds-first_unordered-end c = omega (arith, (passed (goal.at.slice_bounds-first_unordered-end c).In_ok-count).most, words_kept (goal.at.slice_bounds-first_unordered-end c).In_ok-count)

pub first_unordered-requires : goal.first_unordered-requires
first_unordered-requires c =
    let same : c.in_ok-count.count + 1 - 1 ≡ c.in_ok-count.count = omega arith in
    rw same (
      ((passed (goal.at.first_unordered-requires c).In_ok-count).es, (passed (goal.at.first_unordered-requires c).In_ok-count).holds),
      omega (arith, stored_count (goal.at.first_unordered-requires c).In_ok-count, (passed (goal.at.first_unordered-requires c).In_ok-count).most, c.read_lines.auto.levels),
    )

-- what was found of their order
found : (c : After-first_unordered) → OrderFound (stored c.in_ok-count.count c.read_lines.new.words) c.first_unordered.result
found c =
    let same : c.in_ok-count.count + 1 - 1 ≡ c.in_ok-count.count = omega arith in
    rw same at c.first_unordered.ensures

pub returns-in_err-count : goal.returns-in_err-count
returns-in_err-count c =
    let handed = err_from_is_err_and c.from_residual.result c.from_residual.ensures.1 in
    rw (handed.1, handed.2)
    (record { words_after = order_refused c.args.text.now (rw c.in_err-count.was at c.read_lines.ensures); result_bound = omega arith })

pub returns-in-Some : goal.returns-in-Some
returns-in-Some c =
    let out = rw c.in-Some.is at (found (goal.at.returns-in-Some c).After-first_unordered) in
    record { words_after = order_broken (passed (goal.at.returns-in-Some c).In_ok-count) out; result_bound = omega arith }

pub returns : goal.returns
returns c =
    let in-order = rw c.in_default.is at (found (goal.at.returns c).After-first_unordered) in
    record { words_after = order_kept (passed (goal.at.returns c).In_ok-count) in-order; result_bound = (passed (goal.at.returns c).In_ok-count).most }
