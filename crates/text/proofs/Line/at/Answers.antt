-- `text::Line::at` meets its contract: the first of the lines from a place on ends where the scan ends.
use native.Mathlib.Omega.{arith}
use mathlib.Core.Path.{ap}
use lib.ListN.{drop_of_length-le}
use Rattle.rules.specs.Text.{LF, parted}
use Rattle.text.specs.declared.Line.TheVariants.{Whole}
use Rattle.text.proofs.Laws.{drop-some, parted_whole, parted_cut}
use Rattle.text.proofs.Line.at.Goals as goal

pub returns-then-text-at : goal.returns-then-text-at
unfolding parted
returns-then-text-at c = rw (drop_of_length-le c.args.text.now c.if-text-at.true)

pub returns-then-end-text : goal.returns-then-end-text
returns-then-end-text c =
    let a = c.args in
    let (next, more, e) = parted_cut LF a.at a.text.now (omega arith) in
    rw e (ap Whole c.scan-end.ensures.value)

pub returns-else-end-text : goal.returns-else-end-text
returns-else-end-text c =
    let a = c.args in
    rw (parted_whole LF a.at a.text.now (omega arith), drop-some a.at a.text.now c.if-text-at.false)
