-- `ancestors::events::put_all` meets its contract: the ids of the rows that are passed are put.
use native.Mathlib.Omega.{arith}
use mathlib.Core.Path.{refl}
use Rattle.ancestors.specs.TakingLaws.{puts_last, puts_above, putting_deeper, puts_full, putting_more}
use Rattle.ancestors.proofs.events.put_all.Goals as goal
use Rattle.ancestors.proofs.events.put_all.Goals.{else-there-depth-2, then-there-depth-2+in_ok-more}

pub loop-i-init : goal.loop-i-init
loop-i-init c = record { is_set = c.requires; sofar = λ place next. refl }

pub returns-then-there-depth : goal.returns-then-there-depth
returns-then-there-depth c = puts_above c.loop-i.invariant c.loop-i-test.true (omega arith)

pub put-requires : goal.put-requires
put-requires c = c.loop-i.invariant.is_set

pub returns-in_err-more : goal.returns-in_err-more
returns-in_err-more c = rw c.from_residual.ensures (puts_full c.loop-i.invariant c.loop-i-test.true (omega arith) (rw c.number.ensures at c.put.ensures) c.in_err-more.was)

pub loop-i-preserved : goal.loop-i-preserved
loop-i-preserved c =
    elim c.if-there-depth-2.branch [ then-there-depth-2+in_ok-more w ↦ rw w.more-is (putting_more c.loop-i.invariant c.loop-i-test.true (omega arith) (rw w.number.ensures at w.put.ensures) w.in_ok-more.was) | else-there-depth-2 w ↦ rw w.more-is (putting_deeper c.loop-i.invariant c.loop-i-test.true (omega arith) (λ e. w.if-there-depth-2.false (omega arith))) ]

pub returns : goal.returns
returns c = puts_last c.loop-i.invariant c.loop-i-test.false
