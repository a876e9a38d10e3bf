-- `load_ends::sets::load_ancestors_answer` meets its contract: each test that fails gives its refusal, and the sets are taken.
use native.Mathlib.Omega.{arith}
use mathlib.Core.Path.{◌≡◌, refl, sym}
use mathlib.Core.Bool.{true, ◌&&◌}
use borrow.Author.Tests.{le-leb, lt-leb, eq-eqb, ne_eqb}
use lib.Dec.{leb}
use lib.ListN.{length, get_or}
use Rattle.load_state.specs.LoadStates.{answer_words}
use Rattle.load_state.specs.Transcripts.{lent_load}
use Rattle.load_state.specs.TurnLaws.{lent_unlawful}
use Rattle.load_ends.specs.Ends.{ReadTo}
use Rattle.load_ends.specs.AnswerCallLaws.{answer_short, answer_unlawful, answer_early, answer_taken}
use Rattle.load_ends.specs.LoadedLaws.{lent_read, read_few, read_asked, read_rows}
use Rattle.load_ends.proofs.sets.load_ancestors_answer.Goals as goal
use Rattle.load_ends.proofs.sets.load_ancestors_answer.Goals.{Else-sets-lt-LENT_WORDS, In-Some}

-- both buffers are long enough
long : (c : Else-sets-lt-LENT_WORDS) → let a = c.args in (leb 36874 (length a.state.now) && leb 24577 (length a.sets.now)) ≡ true
long c =
    let a = c.args in
    rw (le-leb 36874 (length a.state.now) (omega (arith, c.if-state-lt-WORDS.false)), le-leb 24577 (length a.sets.now) (omega (arith, c.if-sets-lt-LENT_WORDS.false)))

-- the load of the state
read :
    (c : In-Some) →
    ReadTo c.args.state.now c.read.new.self.rows c.read.new.self.places c.in-Some.load.asked c.in-Some.load.batches c.in-Some.load.sum
read c = lent_read c.args.state.now _ _ _ c.read.result c.read.ensures c.in-Some.is

pub returns-then-state-lt-WORDS : goal.returns-then-state-lt-WORDS
returns-then-state-lt-WORDS c =
    let a = c.args in
    rw (answer_short a.state.now a.sets.now (rw (lt-leb 36874 (length a.state.now) (omega (arith, c.if-state-lt-WORDS.true))))) (refl, refl)

pub returns-then-sets-lt-LENT_WORDS : goal.returns-then-sets-lt-LENT_WORDS
returns-then-sets-lt-LENT_WORDS c =
    let a = c.args in
    rw (answer_short a.state.now a.sets.now (rw (le-leb 36874 (length a.state.now) (omega (arith, c.if-state-lt-WORDS.false)), lt-leb 24577 (length a.sets.now) (omega (arith, c.if-sets-lt-LENT_WORDS.true))))) (refl, refl)

pub returns-in_default : goal.returns-in_default
returns-in_default c =
    let a = c.args in
    let state = a.state.now in
    rw (answer_unlawful state a.sets.now (long (goal.at.returns-in_default c).Else-sets-lt-LENT_WORDS) (lent_unlawful (answer_words state) _ _ (get_or state 7 0) _ (lent_load state) c.read.result c.read.ensures c.in_default.is)) (refl, refl)

pub returns-then-state-ne4 : goal.returns-then-state-ne4
returns-then-state-ne4 c =
    let a = c.args in
    let at = read (goal.at.returns-then-state-ne4 c).In-Some in
    rw (answer_early a.state.now a.sets.now (long (goal.at.returns-then-state-ne4 c).Else-sets-lt-LENT_WORDS) at.load at.told (ne_eqb (get_or a.state.now 0 0) 4 c.if-state-ne4.true)) (refl, refl)

pub take_sets-requires : goal.take_sets-requires
take_sets-requires c =
    let at = read (goal.at.take_sets-requires c).In-Some in
    record { in_bounds = (omega (arith, c.if-state-lt-WORDS.false), (read_few at, at.came.few)); state_value = omega (arith, c.if-state-ne4.false) }

pub returns : goal.returns
returns c =
    let a = c.args in
    let state = a.state.now in
    let at = read (goal.at.returns c).In-Some in
    rw (answer_taken state a.sets.now (long (goal.at.returns c).Else-sets-lt-LENT_WORDS) at.load at.told (eq-eqb (get_or state 0 0) 4 (omega (arith, c.if-state-ne4.false))))
    (c.take_sets.ensures at.load (read_asked at) (read_rows at) (sym at.came.trips) (sym at.came.total))
