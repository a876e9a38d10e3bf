-- `load_state::parts::has_good_context` meets its contract: its count is judged, and then its rows.
use native.Mathlib.Nat.{add-sub_cancel_left}
use native.Mathlib.Omega.{arith}
use borrow.Author.Tests.{lt-ltb, le-ltb}
use lib.ListN.{get_or}
use Rattle.load_state.specs.LoadStates.{good_context}
use Rattle.load_state.proofs.parts.has_good_context.Goals as goal

pub returns-then-count-gt-VALUES : goal.returns-then-count-gt-VALUES
unfolding good_context
returns-then-count-gt-VALUES c = rw (le-ltb (get_or c.args.state.now 6 0) 8193 (omega (arith, c.if-count-gt-VALUES.true)))

pub returns : goal.returns
unfolding good_context
returns c =
    let count = get_or c.args.state.now 6 0 in
    rw (lt-ltb count 8193 (omega (arith, c.if-count-gt-VALUES.false))) (rw (add-sub_cancel_left 4106 count) at c.is_lawful.ensures)
