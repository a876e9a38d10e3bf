-- `text::scan` meets its contract. The loop's invariant: what a scan from `at` finds is what a scan from `i` finds.
use native.Mathlib.Omega.{arith}
use mathlib.Core.Path.{ap}
use lib.ListN.{length}
use Rattle.text.proofs.Laws.{before_past, before_found, before_passed}
use Rattle.text.proofs.scan.Goals as goal

pub returns-then-s-i-clause-value : goal.returns-then-s-i-clause-value
returns-then-s-i-clause-value c =
    let a = c.args in
    omega (arith, ap length (before_found a.b c.loop-i.i a.s.now c.loop-i-test.true c.if-s-i.true))

pub loop-i-preserved : goal.loop-i-preserved
loop-i-preserved c =
    let a = c.args in
    omega (arith, ap length (before_passed a.b c.loop-i.i a.s.now c.loop-i-test.true c.if-s-i.false))

pub returns-clause-value : goal.returns-clause-value
returns-clause-value c =
    let a = c.args in
    omega (arith, ap length (before_past a.b c.loop-i.i a.s.now c.loop-i-test.false))
