-- `merging::inside_at` meets its contract: a row no deeper than the set ends it.
use native.Mathlib.Omega.{arith}
use Rattle.merging.specs.MergeLaws.{inside_ended, inside_kept}
use Rattle.merging.proofs.inside_at.Goals as goal

pub returns-in_err-depth : goal.returns-in_err-depth
returns-in_err-depth c = rw (c.from_residual.ensures, c.in_err-depth.was)

pub returns-then-depth : goal.returns-then-depth
returns-then-depth c = inside_kept _ c.args.row.word c.in_ok-depth.was (omega (arith, c.depth.ensures))

pub returns-else-depth : goal.returns-else-depth
returns-else-depth c = inside_ended _ c.args.row.word c.in_ok-depth.was (omega (arith, c.depth.ensures))
