-- `load_ends::result::load_result` meets its contract: each test that fails gives its refusal, and the slice is handed out.
use native.Mathlib.Omega.{arith}
use mathlib.Core.Path.{◌≡◌, refl}
use mathlib.Core.Bool.{true, ◌&&◌}
use borrow.Author.Tests.{le-leb, lt-leb}
use lib.Dec.{leb}
use lib.ListN.{length, get_or}
use Rattle.load_state.specs.LoadStates.{answer_words}
use Rattle.load_state.specs.Transcripts.{lent_load}
use Rattle.load_state.specs.TurnLaws.{lent_unlawful}
use Rattle.load_ends.specs.Ends.{ReadTo}
use Rattle.load_ends.specs.LoadedLaws.{lent_read, read_parts}
use Rattle.load_ends.specs.ResultLaws.{result_early, result_short, result_long}
use Rattle.load_ends.proofs.result.load_result.Goals as goal
use Rattle.load_ends.proofs.result.load_result.Goals.{Else-out-lt-SLICE_WORDS, In-Some}

-- both buffers are long enough
long : (c : Else-out-lt-SLICE_WORDS) → let a = c.args in (leb 36874 (length a.state.now) && leb 12289 (length a.out.now)) ≡ true
long c =
    let a = c.args in
    rw (le-leb 36874 (length a.state.now) (omega (arith, c.if-state-lt-WORDS.false)), le-leb 12289 (length a.out.now) (omega (arith, c.if-out-lt-SLICE_WORDS.false)))

-- the load of the state
read :
    (c : In-Some) →
    ReadTo c.args.state.now c.read.new.self.rows c.read.new.self.places c.in-Some.load.asked c.in-Some.load.batches c.in-Some.load.sum
read c = lent_read c.args.state.now _ _ _ c.read.result c.read.ensures c.in-Some.is

pub returns-then-state-lt-WORDS : goal.returns-then-state-lt-WORDS
returns-then-state-lt-WORDS c =
    let a = c.args in
    rw (result_short a.state.now a.out.now (rw (lt-leb 36874 (length a.state.now) (omega (arith, c.if-state-lt-WORDS.true))))) (refl, refl)

pub returns-then-out-lt-SLICE_WORDS : goal.returns-then-out-lt-SLICE_WORDS
returns-then-out-lt-SLICE_WORDS c =
    let a = c.args in
    rw (result_short a.state.now a.out.now (rw (le-leb 36874 (length a.state.now) (omega (arith, c.if-state-lt-WORDS.false)), lt-leb 12289 (length a.out.now) (omega (arith, c.if-out-lt-SLICE_WORDS.true))))) (refl, refl)

pub returns-in_default : goal.returns-in_default
returns-in_default c =
    let a = c.args in
    let state = a.state.now in
    let unlawful = lent_unlawful (answer_words state) _ _ (get_or state 7 0) _ (lent_load state) c.read.result c.read.ensures c.in_default.is in
    rw (result_long state a.out.now (long (goal.at.returns-in_default c).Else-out-lt-SLICE_WORDS), unlawful) (refl, refl)

pub returns-then-state-lt5 : goal.returns-then-state-lt5
returns-then-state-lt5 c =
    let a = c.args in
    let state = a.state.now in
    let at = read (goal.at.returns-then-state-lt5 c).In-Some in
    rw (result_long state a.out.now (long (goal.at.returns-then-state-lt5 c).Else-out-lt-SLICE_WORDS), at.told, result_early state at.load (read_parts at).turn (omega (arith, c.if-state-lt5.true))) (refl, refl)

pub write_result-requires : goal.write_result-requires
write_result-requires c = record { in_bounds = (omega (arith, c.if-state-lt-WORDS.false), omega (arith, c.if-state-lt5.false), omega (arith, c.if-out-lt-SLICE_WORDS.false)); read_to = read (goal.at.write_result-requires c).In-Some }

pub returns : goal.returns
returns c =
    let a = c.args in
    rw (result_long a.state.now a.out.now (long (goal.at.returns c).Else-out-lt-SLICE_WORDS)) c.write_result.ensures
