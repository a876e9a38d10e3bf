-- `loader::answer::load_answer` meets its contract: each test that fails gives its refusal, and otherwise the answers are taken.
use Prim.Native.Nat.{ℕ}
use native.Mathlib.Omega.{arith}
use mathlib.Core.Path.{◌≡◌}
use mathlib.Core.Bool.{true, ◌&&◌}
use borrow.Author.Tests.{le-leb, lt-leb}
use lib.Dec.{leb}
use lib.ListN.{length, get_or, length-replicate}
use Rattle.rules.specs.Loading.{done, Load}
use Rattle.rows.specs.States.{rows_of}
use Rattle.load_state.specs.LoadStates.{answer_words}
use Rattle.load_state.specs.Transcripts.{node_words, lent_load, CameTo, LentTo}
use Rattle.load_state.specs.TurnLaws.{lent_came, lent_unlawful, turn_waits}
use Rattle.load_state.specs.CameLaws.{came_waiting}
use Rattle.std.specs.Prelude.{Some}
use Rattle.loader.specs.LentAnswerLaws.{answer_short, answer_unlawful, answer_late, answer_awaited}
use Rattle.loader.proofs.answer.load_answer.Goals as goal
use Rattle.loader.proofs.answer.load_answer.Goals.{Else-answers-lt-LENT_WORDS, Else-state-lt-WORDS, In-Some}

-- both buffers are long enough
long-state : (c : Else-state-lt-WORDS) → leb 36874 (length c.args.state.now) ≡ true
long-state c = le-leb 36874 (length c.args.state.now) (omega (arith, c.if-state-lt-WORDS.false))

long : (c : Else-answers-lt-LENT_WORDS) → (leb 36874 (length c.args.state.now) ≡ true) → (leb 36874 (length c.args.state.now) && leb 24577 (length c.args.answers.now)) ≡ true
long c long-state-here = rw (long-state-here, le-leb 24577 (length c.args.answers.now) (omega (arith, c.if-answers-lt-LENT_WORDS.false)))

-- the load of the state
lent :
    (c : In-Some) →
    LentTo (lent_load c.args.state.now) (answer_words c.args.state.now) c.read.new.self.rows c.read.new.self.places (get_or c.args.state.now 7 0) (rows_of (node_words c.args.state.now))
    (Some c.in-Some.load)
lent c = rw c.in-Some.is at c.read.ensures

came :
    (c : In-Some) →
    (load : Load)
    × (lent_load c.args.state.now ≡ done load)
    × CameTo (answer_words c.args.state.now) c.read.new.self.rows c.read.new.self.places (get_or c.args.state.now 7 0) (rows_of (node_words c.args.state.now)) load
    c.in-Some.load.asked c.in-Some.load.end c.in-Some.load.batches c.in-Some.load.sum
came c =
    lent_came (answer_words c.args.state.now) _ _ (get_or c.args.state.now 7 0) _ (lent_load c.args.state.now) c.read.result _ c.read.ensures c.in-Some.is

pub returns-then-state-lt-WORDS : goal.returns-then-state-lt-WORDS
returns-then-state-lt-WORDS c =
    let a = c.args in
    answer_short a.state.now a.answers.now (rw (lt-leb 36874 (length a.state.now) c.if-state-lt-WORDS.true))

pub returns-then-answers-lt-LENT_WORDS : goal.returns-then-answers-lt-LENT_WORDS
returns-then-answers-lt-LENT_WORDS c =
    let a = c.args in
    answer_short a.state.now a.answers.now (rw (long-state (goal.at.returns-then-answers-lt-LENT_WORDS c).Else-state-lt-WORDS, lt-leb 24577 (length a.answers.now) c.if-answers-lt-LENT_WORDS.true))

pub returns-in_default : goal.returns-in_default
returns-in_default c =
    let a = c.args in
    answer_unlawful a.state.now a.answers.now (long (goal.at.returns-in_default c).Else-answers-lt-LENT_WORDS (long-state (goal.at.returns-in_default c).Else-state-lt-WORDS))
    (lent_unlawful (answer_words a.state.now) _ _ _ _ _ c.read.result c.read.ensures c.in_default.is)

pub returns-then-state-ne2 : goal.returns-then-state-ne2
returns-then-state-ne2 c =
    let a = c.args in
    let (load, lends, at) = came (goal.at.returns-then-state-ne2 c).In-Some in
    answer_late a.state.now a.answers.now (long (goal.at.returns-then-state-ne2 c).Else-answers-lt-LENT_WORDS (long-state (goal.at.returns-then-state-ne2 c).Else-state-lt-WORDS)) load lends c.if-state-ne2.true

pub take_batch-requires : goal.take_batch-requires
take_batch-requires c =
    let (load, lends, at) = came (goal.at.take_batch-requires c).In-Some in
    let waits = turn_waits c.args.state.now load lends (omega arith) (omega arith) in record { in_bounds = omega (arith, c.if-state-lt-WORDS.false); lent_to = lent (goal.at.take_batch-requires c).In-Some; asked_lt_end = (omega (arith, waits, came_waiting at), omega (arith, c.if-answers-lt-LENT_WORDS.false)) }

pub returns : goal.returns
returns c =
    let a = c.args in
    let (load, lends, at) = came (goal.at.returns c).In-Some in
    rw (answer_awaited a.state.now a.answers.now (long (goal.at.returns c).Else-answers-lt-LENT_WORDS (long-state (goal.at.returns c).Else-state-lt-WORDS)) load lends c.if-state-ne2.false) c.take_batch.ensures
