-- `path_tries::write_deeper` meets its contract: the rows that are left to be written lead to all of them.
use native.Mathlib.Omega.{arith}
use mathlib.Core.Path.{◌≡◌}
use lib.ListN.{length}
use Rattle.path_tries.specs.NodeLaws.{lowered_first, lowered_length, lowered_small, lowered_next, lowered_all}
use Rattle.path_tries.proofs.write_deeper.Goals as goal
use Rattle.path_tries.proofs.write_deeper.Goals.{At-loop-i}

-- the output keeps its length
kept : (c : At-loop-i) → length c.loop-i.out ≡ length c.args.out.now
kept c = lowered_length c.loop-i.invariant.1

pub loop-i-init : goal.loop-i-init
loop-i-init c = (omega arith, lowered_first _ _ _ _ c.requires.0)

pub overflow_add-out : goal.overflow_add-out
overflow_add-out c = omega (arith, lowered_small c.loop-i.invariant.1 c.loop-i-test.true)

pub bounds-out-to : goal.bounds-out-to
bounds-out-to c = omega (arith, kept (goal.at.bounds-out-to c).At-loop-i)

pub loop-i-preserved : goal.loop-i-preserved
loop-i-preserved c = (omega arith, lowered_next c.loop-i.invariant.1 c.loop-i-test.true)

pub shape_of-out : goal.shape_of-out
shape_of-out c = kept (goal.at.shape_of-out c).At-loop-i

pub returns : goal.returns
returns c = let end : c.loop-i.i ≡ length c.args.rows.now = omega arith in rw end at (lowered_all c.loop-i.invariant.1 (omega arith))
