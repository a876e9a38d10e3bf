-- `merging::row_order` meets its contract: by the depths, and then by the keys.
use mathlib.Core.Path.{◌≡◌, sym}
use native.Mathlib.Omega.{arith}
use Rattle.rules.specs.Tries.{first, second, same}
use Rattle.rules.proofs.TrieLaws.{deeper, smaller}
use Rattle.values.specs.ValueWords.{depth_from}
use Rattle.merging.specs.MergeLaws.{order_said}
use Rattle.merging.proofs.row_order.Goals as goal
use Rattle.merging.proofs.row_order.Goals.{Else-x_depth-y_depth}

-- past the tests of the depths these are equal
one-depth : (c : Else-x_depth-y_depth) → let args = c.args in depth_from args.x.word ≡ depth_from args.y.word
one-depth c =
    omega (arith, c.if-x_depth-y_depth.false, c.if-y_depth-x_depth.false, c.depth-y_depth.ensures, c.depth-x_depth.ensures)

pub returns-then-y_depth-x_depth : goal.returns-then-y_depth-x_depth
returns-then-y_depth-x_depth c = let args = c.args in order_said args.x.word args.y.word first (deeper (omega (arith, c.if-y_depth-x_depth.true, c.depth-y_depth.ensures, c.depth-x_depth.ensures)))

pub returns-then-x_depth-y_depth : goal.returns-then-x_depth-y_depth
returns-then-x_depth-y_depth c = let args = c.args in order_said args.x.word args.y.word second (deeper (omega (arith, c.if-x_depth-y_depth.true, c.depth-y_depth.ensures, c.depth-x_depth.ensures)))

pub returns-then-x_key-y_key : goal.returns-then-x_key-y_key
returns-then-x_key-y_key c = let args = c.args in order_said args.x.word args.y.word first (smaller (one-depth (goal.at.returns-then-x_key-y_key c).Else-x_depth-y_depth) (omega (arith, c.if-x_key-y_key.true, c.key-y_key.ensures, c.key-x_key.ensures)))

pub returns-then-y_key-x_key : goal.returns-then-y_key-x_key
returns-then-y_key-x_key c = let args = c.args in order_said args.x.word args.y.word second (smaller (sym (one-depth (goal.at.returns-then-y_key-x_key c).Else-x_depth-y_depth)) (omega (arith, c.if-y_key-x_key.true, c.key-y_key.ensures, c.key-x_key.ensures)))

pub returns : goal.returns
returns c = let args = c.args in order_said args.x.word args.y.word same (record { depths = one-depth (goal.at.returns c).Else-x_depth-y_depth; steps = omega (arith, c.if-y_key-x_key.false, c.if-x_key-y_key.false, c.key-y_key.ensures, c.key-x_key.ensures) })
