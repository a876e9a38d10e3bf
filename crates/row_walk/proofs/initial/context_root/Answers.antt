-- `row_walk::initial::context_root` meets its contract: no row that is passed is the context root.
use native.Mathlib.Omega.{arith}
use mathlib.Core.Path.{refl, ap, ◌∙◌}
use Rattle.rules.specs.Tries.{kind_of}
use Rattle.row_walk.specs.InitialLaws.{context_none, context_above, context_here, context_other, context_deeper}
use Rattle.row_walk.proofs.initial.context_root.Goals as goal
use Rattle.row_walk.proofs.initial.context_root.Goals.{else-there-depth-2, then-there-depth-2+else-from-eq4}

pub loop-i-init : goal.loop-i-init
loop-i-init c = λ run. refl

pub returns-then-there-depth : goal.returns-then-there-depth
returns-then-there-depth c =
    context_above c.args.nodes.now c.args.depth c.args.from c.loop-i.i c.loop-i.invariant c.loop-i-test.true (omega arith)

pub returns-then-from-eq4 : goal.returns-then-from-eq4
returns-then-from-eq4 c =
    context_here c.args.nodes.now c.args.depth c.args.from c.loop-i.i c.loop-i.invariant c.loop-i-test.true (omega arith) (omega arith)
    (rw (← c.step.ensures, ← c.from.ensures.0) c.if-from-eq4.true)

pub loop-i-preserved : goal.loop-i-preserved
loop-i-preserved c =
    elim c.if-there-depth-2.branch [
      | then-there-depth-2+else-from-eq4 w ↦ context_other c.args.nodes.now c.args.depth c.args.from c.loop-i.i c.loop-i.invariant c.loop-i-test.true (omega arith)
          (λ e. w.if-from-eq4.false (w.from.ensures.0 ∙ ap kind_of w.step.ensures ∙ e))
      | else-there-depth-2 w ↦ context_deeper c.args.nodes.now c.args.depth c.args.from c.loop-i.i c.loop-i.invariant c.loop-i-test.true (omega arith) (λ e. omega arith)
    ]

pub returns : goal.returns
returns c =
    context_none c.args.nodes.now c.args.depth c.args.from c.loop-i.i c.loop-i.invariant c.loop-i-test.false
