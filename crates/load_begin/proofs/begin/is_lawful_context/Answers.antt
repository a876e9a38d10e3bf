-- `load_begin::begin::is_lawful_context` meets its contract: its count is judged, and then its rows.
use native.Mathlib.Nat.{add-sub_cancel}
use borrow.Author.Tests.{lt-ltb, le-ltb}
use lib.ListN.{get_or}
use Rattle.load_begin.specs.Begins.{lawful_context}
use Rattle.load_begin.proofs.begin.is_lawful_context.Goals as goal

pub returns-then-count : goal.returns-then-count
unfolding lawful_context
returns-then-count c = rw (le-ltb (get_or c.args.context.now 0 0) 8193 c.if-count.true)

pub returns : goal.returns
unfolding lawful_context
returns c =
    rw (lt-ltb (get_or c.args.context.now 0 0) 8193 c.if-count.false) (rw add-sub_cancel at c.is_lawful.ensures)
