-- `row_walk::walk::kept_at` meets its contract: what is kept among those that count, or nothing.
use Rattle.std.specs.Prelude.{None}
use native.Mathlib.Omega.{arith}
use mathlib.Core.Path.{sym}
use lib.ListN.{take, get_or-eq_default}
use lib.Seq.{get_or-take, length-take-le}
use Rattle.row_walk.proofs.walk.kept_at.Goals as goal

pub returns-then-at-len : goal.returns-then-at-len
returns-then-at-len c = sym (get_or-take c.args.len c.args.kept.now c.args.at None c.if-at-len.true)

pub returns : goal.returns
returns c =
    sym (get_or-eq_default (take c.args.len c.args.kept.now) None (omega (arith, length-take-le c.args.len c.args.kept.now c.requires)))
