-- `row_walk::scan::has_child` meets its contract: the rows that are passed are no such children.
use mathlib.Core.List.{◌∷◌}
use lib.ListN.{get_or, drop, drop_of_length-le}
use mathlib.Core.Path.{◌≡◌, refl, sym, ap, ◌∙◌}
use Prim.Native.Nat.{◌+◌}
use native.Mathlib.Omega.{arith}
use Rattle.rules.specs.Loading.{has_child}
use Rattle.rows.specs.Words.{row_in}
use Rattle.rows.specs.States.{rows_of}
use Rattle.row_walk.specs.RowWalks.{child_test}
use Rattle.row_walk.specs.ScanLaws.{rows_left, child_above, child_here, child_other, child_deeper}
use Rattle.row_walk.proofs.scan.has_child.Goals as goal
use Rattle.row_walk.proofs.scan.has_child.Goals.{After-depth-there, else-there-depth-2, then-there-depth-2+else-is_child}

pub loop-i-init : goal.loop-i-init
loop-i-init c = refl

-- the row at `i` is the next
next_row :
    (c : After-depth-there) →
    let args = c.args in
    let words = args.nodes.now in
    has_child (child_test args.fields) args.depth (rows_of (drop args.from words))
    ≡ has_child (child_test args.fields) args.depth (row_in (get_or words c.loop-i.i 0) ∷ rows_of (drop (c.loop-i.i + 1) words))
next_row c =
    let args = c.args in
    c.loop-i.invariant
    ∙ ap (has_child (child_test args.fields) args.depth) (rows_left row_in args.nodes.now _ c.loop-i-test.true)

pub returns-then-there-depth : goal.returns-then-there-depth
returns-then-there-depth c = sym (next_row (goal.at.returns-then-there-depth c).After-depth-there ∙ child_above _ _ _ _ (omega arith))

pub returns-then-is_child : goal.returns-then-is_child
returns-then-is_child c =
    sym (next_row (goal.at.returns-then-is_child c).After-depth-there ∙ child_here _ _ _ _ (omega arith) (omega arith) (rw (← c.step.ensures, ← c.is_child.ensures) c.if-is_child.true))

pub loop-i-preserved : goal.loop-i-preserved
loop-i-preserved c =
    next_row (goal.at.loop-i-preserved c).After-depth-there
    ∙ elim c.if-there-depth-2.branch [ then-there-depth-2+else-is_child w ↦ child_other _ _ _ _ (omega arith) (omega arith) (rw (← w.step.ensures, ← w.is_child.ensures) w.if-is_child.false) | else-there-depth-2 w ↦ child_deeper _ _ _ _ (omega arith) (λ e. omega arith) ]

pub returns : goal.returns
unfolding has_child
returns c = sym (c.loop-i.invariant ∙ rw (drop_of_length-le _ c.loop-i-test.false))
