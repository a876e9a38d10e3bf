-- `store_text::taking::take_attribute` meets its contract: the levels after the row are kept.
use native.Mathlib.Omega.{arith}
use Prim.Native.Nat.{◌≤◌, ◌<◌}
use mathlib.Core.Bool.{true}
use mathlib.Core.Path.{◌≡◌, sym, ◌∙◌}
use lib.ListN.{length, take}
use lib.Seq.{length-take-le}
use Rattle.rules.specs.ValueTexts.{may_come}
use Rattle.values.specs.ValueWords.{depth_from, value_row_in}
use Rattle.values.specs.ValueWordLaws.{word_again}
use Rattle.values.specs.Lawful.{levels_in}
use Rattle.values.specs.LawfulLaws.{after_taken}
use Rattle.value_text.specs.RowLaws.{may_depth}
use Rattle.store_text.proofs.taking.take_attribute.Goals as goal
use Rattle.store_text.proofs.taking.take_attribute.Goals.{Else-not-may_come}

-- past the test the row may come, and lies at one of the open levels
row-comes : (c : Else-not-may_come) →
    let a = c.args in
    may_come (levels_in (take a.before.levels a.levels.now)) (value_row_in a.row.word) ≡ true
row-comes c = sym c.may_come.ensures ∙ c.if-not-may_come.false

row-depth : (c : Else-not-may_come) →
    let a = c.args in
    (0 < depth_from a.row.word) × (depth_from a.row.word ≤ a.before.levels)
row-depth c =
    let a = c.args in
    let fits : a.before.levels ≤ length a.levels.now = omega (arith, c.requires) in
    rw (length-take-le a.before.levels a.levels.now fits) at (may_depth a.row.word (take a.before.levels a.levels.now) (row-comes c))

pub slice_bounds-may_come-end-2 : goal.slice_bounds-may_come-end-2
slice_bounds-may_come-end-2 c = sym (length-take-le _ _ (omega (arith, c.requires)))

pub returns-then-not-may_come : goal.returns-then-not-may_come
returns-then-not-may_come c = record { levels_after = rw (sym c.may_come.ensures ∙ c.if-not-may_come.true); result_bound = omega arith }

pub open_levels-requires : goal.open_levels-requires
open_levels-requires c =
    ((row-depth (goal.at.open_levels-requires c).Else-not-may_come).0, omega (arith, row-depth (goal.at.open_levels-requires c).Else-not-may_come, c.requires))

pub returns : goal.returns
returns c =
    let a = c.args in
    let (below, near) = row-depth (goal.at.returns c).Else-not-may_come in record { levels_after = rw (row-comes (goal.at.returns c).Else-not-may_come, word_again a.row.word, c.open_levels.ensures.after, after_taken a.levels.now a.before.levels a.row.word below near); result_bound = omega (arith, c.open_levels.ensures.few, near) }
