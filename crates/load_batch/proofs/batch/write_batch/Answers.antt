-- `load_batch::batch::write_batch` meets its contract: the rows up to a place are written.
use Prim.Native.Nat.{◌+◌, ◌^◌, ◌<◌}
use native.Mathlib.Omega.{arith}
use mathlib.Core.Path.{◌≡◌, refl, ◌∙◌}
use lib.ListN.{get_or, length-set}
use lib.Seq.{take_all}
use Rattle.values.specs.ValueWords.{row_asked, request_word}
use Rattle.load_batch.specs.Handing.{numbered}
use Rattle.load_batch.specs.BatchLaws.{changed_next}
use Rattle.load_batch.proofs.batch.write_batch.Goals as goal
use Rattle.load_batch.proofs.batch.write_batch.Goals.{After-from-row}

pub loop-i-init : goal.loop-i-init
loop-i-init c = (omega arith, refl, refl)

-- the row's node is small, also where it is numbered among all nodes
small : (c : After-from-row) → c.from-row.result.node + c.args.first < 2 ^ 48
small c = omega (arith, c.from-row.ensures.1, c.requires.rows_in_bounds.1, c.requires.by_index c.loop-i.i c.loop-i-test.true)

pub overflow_add-asked : goal.overflow_add-asked
overflow_add-asked c = omega (arith, small (goal.at.overflow_add-asked c).After-from-row)

pub word-requires : goal.word-requires
word-requires c = (omega (arith, c.from-row.ensures.0), omega (arith, small (goal.at.word-requires c).After-from-row))

pub bounds-out-i : goal.bounds-out-i
bounds-out-i c = omega (arith, c.requires.rows_in_bounds.0, c.loop-i.invariant.1, c.loop-i-test.true)

pub loop-i-preserved : goal.loop-i-preserved
loop-i-preserved c =
    let a = c.args in
    let word : c.word.result ≡ request_word (numbered a.first (row_asked (get_or a.rows.now c.loop-i.i 0))) =
    omega (arith, c.word.ensures, c.from-row.ensures.0, c.from-row.ensures.1) in
    let more = changed_next (λ w. request_word (numbered a.first (row_asked w))) a.rows.now a.out.now c.loop-i.i c.loop-i-test.true in
    (omega (arith, c.loop-i-test.true), rw length-set c.loop-i.invariant.1, rw (c.loop-i.invariant.2, word) more)

pub shape_of-out : goal.shape_of-out
shape_of-out c = c.loop-i.invariant.1

pub returns : goal.returns
returns c =
    let all = take_all c.loop-i.i c.args.rows.now (omega (arith, c.loop-i-test.false)) in
    c.loop-i.invariant.2 ∙ rw all
