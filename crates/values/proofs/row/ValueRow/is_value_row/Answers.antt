-- `values::row::ValueRow::is_value_row` meets its contract: by the kind, nothing more is asked, number 0, or it is no row.
use mathlib.Core.Path.{sym}
use native.Mathlib.Omega.{arith}
use Rattle.values.specs.ValueWordLaws.{plain_row, open_row, no_row}
use Rattle.values.proofs.row.ValueRow.is_value_row.Goals as goal

pub returns-then-kind-lt-SET : goal.returns-then-kind-lt-SET
returns-then-kind-lt-SET c = sym (plain_row c.args.self.word (omega (arith, c.if-kind-lt-SET.true, c.kind-kind.ensures)))

pub returns-then-kind-gt-RECORD : goal.returns-then-kind-gt-RECORD
returns-then-kind-gt-RECORD c = sym (no_row c.args.self.word (omega (arith, c.if-kind-gt-RECORD.true, c.kind-kind.ensures)))

pub returns : goal.returns
returns c =
    rw c.number.ensures
    (sym
    (open_row c.args.self.word (omega (arith, c.if-kind-lt-SET.false, c.kind-kind.ensures))
    (omega (arith, c.if-kind-gt-RECORD.false, c.kind-kind.ensures))))
