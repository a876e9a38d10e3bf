-- `value_text::rows::take_row` meets its contract: the line's row, where it may come, is stored, and the levels after it are kept.
use mathlib.Core.Bool.{true}
use mathlib.Core.Option.{some}
use mathlib.Core.Path.{◌≡◌, sym, ap, ◌∙◌}
use lib.ListN.{take}
use Rattle.rules.specs.Text.{fields_of}
use Rattle.rules.specs.ValueTexts.{value_row_of, may_come}
use Rattle.values.specs.ValueWords.{value_row_in}
use Rattle.values.specs.Lawful.{levels_in}
use Rattle.value_text.specs.Fields.{row_read}
use Rattle.value_text.specs.RowLaws.{row_passed}
use Rattle.value_text.proofs.rows.take_row.Goals as goal
use Rattle.value_text.proofs.rows.take_row.Goals.{Else-not-may_come, In_ok-row}

-- the row that the line was read as
row-read : (c : In_ok-row) →
    value_row_of (fields_of c.args.line.now) ≡ some (value_row_in c.in_ok-row.row.word)
row-read c = sym c.parse.ensures ∙ ap row_read c.in_ok-row.was

-- past the test it may come
row-comes : (c : Else-not-may_come) →
    let a = c.args in
    may_come (levels_in (take a.len a.levels.now)) (value_row_in c.in_ok-row.row.word) ≡ true
row-comes c = sym c.may_come.ensures ∙ c.if-not-may_come.false

pub returns : goal.returns
returns c =
    let a = c.args in
    row_passed a.line.now a.words.now a.levels.now a.at a.len _ c.requires.1 (row-comes (goal.at.returns c).Else-not-may_come) (row-read (goal.at.returns c).In_ok-row)
    c.open_levels.ensures
