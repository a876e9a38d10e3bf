-- `union::row_size` meets its contract: the rows that are passed are counted.
use Prim.Native.Nat.{◌+◌}
use native.Mathlib.Numerals.{add-one}
use native.Mathlib.Omega.{arith}
use lib.ListN.{drop}
use lib.Seq.{drop-cons}
use Rattle.union.proofs.row_size.Goals as goal

pub loop-word-preserved : goal.loop-word-preserved
loop-word-preserved c =
    let i = c.loop-word.word-index in
    let next = rw (drop-cons c.args.rows.now i 0 c.loop-word-test.true, ← add-one i) at c.loop-word.invariant.1 in
    (omega (arith, c.loop-word.invariant.0, c.with-size.ensures.each), c.with-size.ensures.counted c.args.rows.now (drop (i + 1) c.args.rows.now) next)
