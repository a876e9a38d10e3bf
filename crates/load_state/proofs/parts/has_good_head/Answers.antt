-- `load_state::parts::has_good_head` meets its contract by its tests.
use native.Mathlib.Omega.{arith}
use borrow.Author.Tests.{lt-ltb, le-ltb}
use lib.ListN.{get_or}
use Rattle.load_state.specs.LoadStates.{good_head}
use Rattle.load_state.proofs.parts.has_good_head.Goals as goal

pub returns-then-turn-eq0 : goal.returns-then-turn-eq0
unfolding good_head
returns-then-turn-eq0 c = rw (le-ltb 0 (get_or c.args.state.now 0 0) (omega (arith, c.if-turn-eq0.true)))

pub returns-then-turn-gt5 : goal.returns-then-turn-gt5
unfolding good_head
returns-then-turn-gt5 c =
    let turn = get_or c.args.state.now 0 0 in
    rw (lt-ltb 0 turn (omega (arith, c.if-turn-gt5.true)), le-ltb turn 6 (omega (arith, c.if-turn-gt5.true)))

pub returns : goal.returns
unfolding good_head
returns c =
    let turn = get_or c.args.state.now 0 0 in
    rw (lt-ltb 0 turn (omega (arith, c.if-turn-eq0.false)), lt-ltb turn 6 (omega (arith, c.if-turn-gt5.false))) c.is_request.ensures
