-- `load_state::parts::has_good_lent` meets its contract: their count is judged, and then each of them.
use native.Mathlib.Omega.{arith}
use borrow.Author.Tests.{lt-ltb, le-ltb}
use Rattle.load_state.specs.LoadStates.{good_lent}
use Rattle.load_state.specs.WorkedLaws.{has_scratch}
use Rattle.load_state.proofs.parts.has_good_lent.Goals as goal

pub returns-then-count-gt-NODES : goal.returns-then-count-gt-NODES
unfolding good_lent
returns-then-count-gt-NODES c = rw (le-ltb c.args.count 4097 (omega (arith, c.if-count-gt-NODES.true)))

pub check-requires : goal.check-requires
check-requires c = has_scratch c.args.lent c.args.words.now c.args.levels.now c.requires

pub returns : goal.returns
unfolding good_lent
returns c =
    rw (lt-ltb c.args.count 4097 (omega (arith, c.if-count-gt-NODES.false)), ← c.check.ensures) c.is_ok.ensures.value
