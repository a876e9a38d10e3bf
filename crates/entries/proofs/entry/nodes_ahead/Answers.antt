-- `entries::entry::nodes_ahead` meets its contract: all rows that were passed are nodes.
use native.Mathlib.Omega.{arith}
use mathlib.Core.Path.{◌≡◌, sym, ◌∙◌}
use lib.ListN.{length}
use lib.Seq.{take_all}
use Rattle.entries.specs.EntryLaws.{ahead_of, ahead_all}
use Rattle.entries.proofs.entry.nodes_ahead.Goals as goal

pub returns-then-depth-eq0 : goal.returns-then-depth-eq0
returns-then-depth-eq0 c =
    (ahead_of c.args.rows.now c.loop-i.i c.loop-i.invariant (omega arith) (sym c.depth.ensures ∙ c.if-depth-eq0.true), omega arith)

pub returns : goal.returns
returns c =
    let end : c.loop-i.i ≡ length c.args.rows.now = omega arith in
    (rw (take_all (length c.args.rows.now) c.args.rows.now (omega arith)) (ahead_all c.args.rows.now (rw end at c.loop-i.invariant)), omega arith)
