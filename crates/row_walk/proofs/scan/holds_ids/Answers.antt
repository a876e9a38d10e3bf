-- `row_walk::scan::holds_ids` meets its contract: what holds of the rows that are left holds of all.
use mathlib.Core.List.{◌∷◌}
use lib.ListN.{get_or, drop, drop_of_length-le}
use mathlib.Core.Bool.{Bool, true, false}
use Prim.Native.Nat.{◌+◌}
use native.Mathlib.Omega.{arith}
use Rattle.values.specs.ValueWords.{value_row_in, value_rows_of}
use Rattle.row_walk.specs.ScanLaws.{rows_left, IdsHeld, held_end, held_above, held_other, held_deeper, held_entity}
use Rattle.row_walk.proofs.scan.holds_ids.Goals as goal
use Rattle.row_walk.proofs.scan.holds_ids.Goals.{After-depth-there, else-there-depth-2, then-there-depth-2+else-kind-ne-ENTITY}

pub loop-i-init : goal.loop-i-init
loop-i-init c = λ held h. h

-- what holds of the row at `i` and those behind it holds of all
next_row :
    (c : After-depth-there) →
    let args = c.args in
    let words = args.values.now in
    (held : Bool)
    → IdsHeld held args.depth (value_row_in (get_or words c.loop-i.i 0) ∷ value_rows_of (drop (c.loop-i.i + 1) words))
    → IdsHeld held args.depth (value_rows_of (drop args.from words))
next_row c held h =
    c.loop-i.invariant held
    (rw (rows_left value_row_in c.args.values.now _ c.loop-i-test.true) h)

pub returns-then-there-depth : goal.returns-then-there-depth
returns-then-there-depth c = next_row (goal.at.returns-then-there-depth c).After-depth-there true (held_above _ _ _ (omega arith))

pub returns-then-kind-ne-ENTITY : goal.returns-then-kind-ne-ENTITY
returns-then-kind-ne-ENTITY c = next_row (goal.at.returns-then-kind-ne-ENTITY c).After-depth-there false (held_other _ _ _ (omega arith) (λ e. c.if-kind-ne-ENTITY.true (omega arith)))

pub loop-i-preserved : goal.loop-i-preserved
loop-i-preserved c =
    λ held h.
    next_row (goal.at.loop-i-preserved c).After-depth-there held
    (elim c.if-there-depth-2.branch [ then-there-depth-2+else-kind-ne-ENTITY w ↦ held_entity _ _ _ held h (omega arith) (omega arith) | else-there-depth-2 w ↦ held_deeper _ _ _ held h (omega arith) ])

pub returns : goal.returns
returns c = c.loop-i.invariant true (rw (drop_of_length-le _ c.loop-i-test.false) (held_end _))
