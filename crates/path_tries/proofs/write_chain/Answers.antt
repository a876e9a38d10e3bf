-- `path_tries::write_chain` meets its contract: the nodes that are left to be written lead to the whole chain.
use Prim.Native.Nat.{◌-◌, ◌+◌}
use native.Mathlib.Omega.{arith}
use mathlib.Core.Path.{◌≡◌}
use lib.ListN.{length, length-set}
use Rattle.path_tries.specs.NodeLaws.{chained_first, chained_length, chained_next, chained_last, path_some, step_small}
use Rattle.path_tries.proofs.write_chain.Goals as goal
use Rattle.path_tries.proofs.write_chain.Goals.{At-loop-i}

-- the output keeps its length
kept : (c : At-loop-i) → length c.loop-i.out ≡ length c.args.out.now
kept c = chained_length c.loop-i.invariant.1

pub overflow_sub-last : goal.overflow_sub-last
overflow_sub-last c = omega (arith, path_some c.requires.0)

pub loop-i-init : goal.loop-i-init
loop-i-init c = (omega (arith, path_some c.requires.0), chained_first _ _ _)

pub node-requires : goal.node-requires
node-requires c = (omega (arith, c.requires.0.short), step_small c.requires.0 c.loop-i.i (omega arith))

pub bounds-out-i : goal.bounds-out-i
bounds-out-i c = omega (arith, kept (goal.at.bounds-out-i c).At-loop-i)

pub loop-i-preserved : goal.loop-i-preserved
loop-i-preserved c = (omega arith, rw c.node.ensures (chained_next c.loop-i.invariant.1 (omega arith)))

pub node-requires-2 : goal.node-requires-2
node-requires-2 c = (omega (arith, path_some c.requires.0, c.requires.0.short), step_small c.requires.0 _ (omega (arith, path_some c.requires.0)))

pub bounds-out-last : goal.bounds-out-last
bounds-out-last c = omega (arith, kept (goal.at.bounds-out-last c).At-loop-i, path_some c.requires.0)

pub shape_of-out : goal.shape_of-out
shape_of-out c = simp length-set (kept (goal.at.shape_of-out c).At-loop-i)

pub returns : goal.returns
returns c =
    let last : c.loop-i.i ≡ length c.args.path.now - 1 = omega arith in
    let steps : c.loop-i.i + 1 ≡ length c.args.path.now = omega arith in
    rw (c.node-2.ensures, ← last, ← steps) (chained_last c.loop-i.invariant.1 (omega arith))
