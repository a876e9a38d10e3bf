-- `text::field_end` meets its contract: the first of the fields from a place on ends where the scan ends.
use native.Mathlib.Omega.{arith}
use mathlib.Core.Path.{ap}
use Rattle.rules.specs.Text.{TAB}
use Rattle.std.specs.Prelude.{Some}
use Rattle.text.proofs.Laws.{parted_whole, parted_cut}
use Rattle.text.proofs.field_end.Goals as goal

pub returns-then-line-at : goal.returns-then-line-at
returns-then-line-at c =
    let a = c.args in
    rw (parted_whole TAB a.at a.line.now (omega arith))

pub returns-then-end-line : goal.returns-then-end-line
returns-then-end-line c =
    let a = c.args in
    let (next, more, e) = parted_cut TAB a.at a.line.now (omega arith) in
    rw e (ap Some c.scan-end.ensures.value)

pub returns-else-end-line : goal.returns-else-end-line
returns-else-end-line c =
    let a = c.args in
    rw (parted_whole TAB a.at a.line.now (omega arith))
