-- `row_walk::scan::field_row` meets its contract: the rows that are passed are not the field's.
use mathlib.Core.List.{◌∷◌}
use lib.ListN.{get_or, drop, drop_of_length-le}
use mathlib.Core.Path.{◌≡◌, refl, sym, ap, ◌∙◌}
use Prim.Native.Nat.{◌+◌}
use native.Mathlib.Omega.{arith}
use lib.Seq.{drop-length}
use Rattle.rules.specs.WalkRows.{field_row}
use Rattle.rules.proofs.WalkRowLaws.{scan_above, scan_here, scan_deeper, scan_other}
use Rattle.values.specs.ValueWords.{value_row_in, value_rows_of}
use Rattle.row_walk.specs.ScanLaws.{rows_left}
use Rattle.row_walk.proofs.scan.field_row.Goals as goal
use Rattle.row_walk.proofs.scan.field_row.Goals.{After-depth-there, else-there-depth-2, then-there-depth-2+else-f-key}

pub loop-i-init : goal.loop-i-init
loop-i-init c = refl

-- the row at `i` is the next
next_row :
    (c : After-depth-there) →
    let args = c.args in
    let words = args.values.now in
    field_row args.depth args.f (value_rows_of (drop args.from words))
    ≡ field_row args.depth args.f (value_row_in (get_or words c.loop-i.i 0) ∷ value_rows_of (drop (c.loop-i.i + 1) words))
next_row c =
    let args = c.args in
    c.loop-i.invariant
    ∙ ap (field_row args.depth args.f) (rows_left value_row_in args.values.now _ c.loop-i-test.true)

pub returns-then-there-depth : goal.returns-then-there-depth
returns-then-there-depth c = record { values_value = rw (drop-length c.args.values.now) (sym (next_row (goal.at.returns-then-there-depth c).After-depth-there ∙ scan_above _ _ _ _ (omega arith))); upper_bound = omega arith }

pub returns-then-f-key : goal.returns-then-f-key
returns-then-f-key c =
    record { values_value = rows_left value_row_in _ _ c.loop-i-test.true ∙ sym (next_row (goal.at.returns-then-f-key c).After-depth-there ∙ scan_here _ _ _ _ (omega arith) (omega arith)); upper_bound = omega arith }

pub loop-i-preserved : goal.loop-i-preserved
loop-i-preserved c =
    next_row (goal.at.loop-i-preserved c).After-depth-there
    ∙ elim c.if-there-depth-2.branch [ then-there-depth-2+else-f-key w ↦ scan_other _ _ _ _ (omega arith) (λ e. w.if-f-key.false (omega arith)) | else-there-depth-2 w ↦ scan_deeper _ _ _ _ (omega arith) ]

pub returns : goal.returns
unfolding field_row
returns c = record { values_value = rw (drop-length c.args.values.now) (sym (c.loop-i.invariant ∙ rw (drop_of_length-le _ c.loop-i-test.false))); upper_bound = omega arith }
