-- `values::lawful::past` meets its contract: the rows that are passed are deeper, so what is past the others is past them too.
use mathlib.Core.Path.{◌≡◌}
use lib.ListN.{length}
use native.Mathlib.Omega.{arith}
use Rattle.values.specs.LawfulLaws.{past_none, past_here, past_deeper}
use Rattle.values.proofs.lawful.past.Goals as goal

pub loop-i-init : goal.loop-i-init
loop-i-init c = (c.requires, λ end past. past)

pub returns-then-depth : goal.returns-then-depth
returns-then-depth c =
    c.loop-i.invariant.1 _ (past_here _ _ _ c.loop-i-test.true (omega arith))

pub loop-i-preserved : goal.loop-i-preserved
loop-i-preserved c =
    (omega arith, λ end past. c.loop-i.invariant.1 end (past_deeper _ _ _ c.loop-i-test.true (omega arith) past))

pub returns : goal.returns
returns c =
    let end : c.loop-i.i ≡ length c.args.words.now = omega arith in
    c.loop-i.invariant.1 _ (rw end (past_none _ _ _ (omega arith) (omega arith)))
