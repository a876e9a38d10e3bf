-- `values::lawful::open_levels` meets its contract: by the row's kind. Assumes nothing.
use native.Mathlib.Omega.{arith}
use lib.ListN.{length-set}
use Rattle.values.specs.LawfulLaws.{opened_own, opened_set, opened_record}
use Rattle.values.proofs.lawful.open_levels.Goals as goal

pub returns-then-kind-lt-SET : goal.returns-then-kind-lt-SET
returns-then-kind-lt-SET c =
    rw (c.depth-below.ensures, c.key.ensures)
    (opened_own c.args.levels.now c.args.row.word c.requires.0 c.requires.1 (omega arith))

pub bounds-levels-below : goal.bounds-levels-below
bounds-levels-below c = simp length-set (omega arith)

pub returns-then-kind-eq-SET : goal.returns-then-kind-eq-SET
returns-then-kind-eq-SET c =
    rw (c.depth-below.ensures, c.key.ensures)
    (opened_set c.args.levels.now c.args.row.word c.requires.0 c.requires.1 (omega arith))

pub bounds-levels-below-2 : goal.bounds-levels-below-2
bounds-levels-below-2 c = simp length-set (omega arith)

pub returns : goal.returns
returns c =
    rw (c.depth-below.ensures, c.key.ensures)
    (opened_record c.args.levels.now c.args.row.word c.requires.0 c.requires.1 (omega arith) (λ e. omega arith))
