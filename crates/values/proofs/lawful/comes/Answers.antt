-- `values::lawful::comes` meets its contract: a row that is one, and lies at one of the levels, is judged by that level. Assumes nothing.
use native.Mathlib.Omega.{arith}
use mathlib.Core.Bool.{true}
use mathlib.Core.Path.{◌≡◌, sym, ◌∙◌}
use Rattle.rules.specs.ValueRowTests.{is_value_row}
use Rattle.values.specs.Lawful.{row_at}
use Rattle.values.specs.LawfulLaws.{comes_bad, comes_above, comes_deep, comes_fits}
use Rattle.values.proofs.lawful.comes.Goals as goal
use Rattle.values.proofs.lawful.comes.Goals.{Else-not-is_value_row}

pub returns-then-not-is_value_row : goal.returns-then-not-is_value_row
returns-then-not-is_value_row c =
    comes_bad c.args.words.now c.args.at c.args.levels.now
    (sym c.is_value_row.ensures ∙ c.if-not-is_value_row.true)

good-row : (c : Else-not-is_value_row) → is_value_row (row_at c.args.words.now c.args.at) ≡ true
good-row c = sym c.is_value_row.ensures ∙ c.if-not-is_value_row.false

pub returns-then-depth-eq0 : goal.returns-then-depth-eq0
returns-then-depth-eq0 c =
    comes_above c.args.words.now c.args.at c.args.levels.now (good-row (goal.at.returns-then-depth-eq0 c).Else-not-is_value_row) (omega arith)

pub returns-then-levels-level : goal.returns-then-levels-level
returns-then-levels-level c =
    comes_deep c.args.words.now c.args.at c.args.levels.now (good-row (goal.at.returns-then-levels-level c).Else-not-is_value_row) (omega arith) (omega arith)

pub returns : goal.returns
returns c =
    comes_fits c.args.words.now c.args.at c.args.levels.now (good-row (goal.at.returns c).Else-not-is_value_row) (omega arith) (omega arith)
    (rw c.depth-depth.ensures at c.fits.ensures)
