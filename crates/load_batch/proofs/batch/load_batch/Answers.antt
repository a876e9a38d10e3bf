-- `load_batch::batch::load_batch` meets its contract: each test that fails gives its refusal, and otherwise the rows that wait are written.
use Prim.Native.Nat.{◌-◌, ◌≤◌}
use native.Mathlib.Omega.{arith}
use mathlib.Core.Path.{◌≡◌, refl}
use mathlib.Core.Bool.{true, ◌&&◌}
use borrow.Author.Tests.{le-leb, lt-leb}
use lib.Dec.{leb}
use lib.ListN.{length, drop, get_or, length-take, length-map}
use Rattle.rules.specs.Loading.{done, Load}
use Rattle.rows.specs.Words.{row_in}
use Rattle.rows.specs.States.{rows_of}
use Rattle.load_state.specs.LoadStates.{answer_words}
use Rattle.load_state.specs.Transcripts.{node_words, lent_load, CameTo}
use Rattle.load_state.specs.WorkedLaws.{GoodParts, nodes_few}
use Rattle.load_state.specs.TurnLaws.{lent_came, lent_unlawful, lent_told, told_parts}
use Rattle.load_state.specs.CameLaws.{came_rows, came_ahead, came_few}
use Rattle.load_batch.specs.BatchLaws.{waiting_small, batch_short, batch_unlawful, batch_late, batch_handed}
use Rattle.load_batch.proofs.batch.load_batch.Goals as goal
use Rattle.load_batch.proofs.batch.load_batch.Goals.{Else-out-lt-BATCH_WORDS, Else-state-lt-WORDS, In-Some}

-- both buffers are long enough
long-state : (c : Else-state-lt-WORDS) → leb 36874 (length c.args.state.now) ≡ true
long-state c = le-leb 36874 (length c.args.state.now) (omega (arith, c.if-state-lt-WORDS.false))

long : (c : Else-out-lt-BATCH_WORDS) → (leb 36874 (length c.args.state.now) ≡ true) → (leb 36874 (length c.args.state.now) && leb 4096 (length c.args.out.now)) ≡ true
long c long-state-here = rw (long-state-here, le-leb 4096 (length c.args.out.now) (omega (arith, c.if-out-lt-BATCH_WORDS.false)))

-- the load of the state
came :
    (c : In-Some) →
    (load : Load)
    × (lent_load c.args.state.now ≡ done load)
    × CameTo (answer_words c.args.state.now) c.read.new.self.rows c.read.new.self.places (get_or c.args.state.now 7 0) (rows_of (node_words c.args.state.now)) load
    c.in-Some.load.asked c.in-Some.load.end c.in-Some.load.batches c.in-Some.load.sum
came c =
    lent_came (answer_words c.args.state.now) _ _ (get_or c.args.state.now 7 0) _ (lent_load c.args.state.now) c.read.result _ c.read.ensures c.in-Some.is

parts : (c : In-Some) → GoodParts c.args.state.now
parts c = let (load, lent, at) = came c in told_parts c.args.state.now load (lent_told c.args.state.now load lent).0

nodes : (c : In-Some) → length (rows_of (node_words c.args.state.now)) ≤ 4096
nodes c =
    omega (arith, nodes_few c.args.state.now (parts c).few_rows, length-map (node_words c.args.state.now) row_in)

-- its rows are within those of an entry
within : (c : In-Some) → (c.in-Some.load.asked ≤ c.in-Some.load.end) × (c.in-Some.load.end ≤ 4096)
within c = let (load, lent, at) = came c in (came_ahead at, omega (arith, came_few at, nodes c))

pub returns-then-state-lt-WORDS : goal.returns-then-state-lt-WORDS
returns-then-state-lt-WORDS c =
    let a = c.args in
    batch_short a.state.now a.out.now (rw (lt-leb 36874 (length a.state.now) c.if-state-lt-WORDS.true))

pub returns-then-out-lt-BATCH_WORDS : goal.returns-then-out-lt-BATCH_WORDS
returns-then-out-lt-BATCH_WORDS c =
    let a = c.args in
    batch_short a.state.now a.out.now (rw (long-state (goal.at.returns-then-out-lt-BATCH_WORDS c).Else-state-lt-WORDS, lt-leb 4096 (length a.out.now) c.if-out-lt-BATCH_WORDS.true))

pub returns-in_default : goal.returns-in_default
returns-in_default c =
    let a = c.args in
    batch_unlawful a.state.now a.out.now (long (goal.at.returns-in_default c).Else-out-lt-BATCH_WORDS (long-state (goal.at.returns-in_default c).Else-state-lt-WORDS))
    (lent_unlawful (answer_words a.state.now) _ _ _ _ _ c.read.result c.read.ensures c.in_default.is)

pub returns-then-state-ne1 : goal.returns-then-state-ne1
returns-then-state-ne1 c =
    let a = c.args in
    let (load, lent, at) = came (goal.at.returns-then-state-ne1 c).In-Some in
    batch_late a.state.now a.out.now (long (goal.at.returns-then-state-ne1 c).Else-out-lt-BATCH_WORDS (long-state (goal.at.returns-then-state-ne1 c).Else-state-lt-WORDS)) load lent c.if-state-ne1.true

pub offset_bounds-work-load : goal.offset_bounds-work-load
offset_bounds-work-load c = omega (arith, within (goal.at.offset_bounds-work-load c).In-Some)

pub slice_bounds-write_batch-count : goal.slice_bounds-write_batch-count
slice_bounds-write_batch-count c = omega (arith, within (goal.at.slice_bounds-write_batch-count c).In-Some)

pub slice_bounds-write_batch-start : goal.slice_bounds-write_batch-start
slice_bounds-write_batch-start c = omega (arith, within (goal.at.slice_bounds-write_batch-start c).In-Some)

pub slice_bounds-write_batch-end : goal.slice_bounds-write_batch-end
slice_bounds-write_batch-end c = omega (arith, within (goal.at.slice_bounds-write_batch-end c).In-Some)

pub write_batch-requires : goal.write_batch-requires
write_batch-requires c =
    let (load, lent, at) = came (goal.at.write_batch-requires c).In-Some in
    let rows = drop c.in-Some.load.asked c.read.new.self.rows in record { rows_in_bounds = (omega (arith, within (goal.at.write_batch-requires c).In-Some, length-take (c.in-Some.load.end - c.in-Some.load.asked) rows, c.if-out-lt-BATCH_WORDS.false), omega (arith, (parts (goal.at.write_batch-requires c).In-Some).numbers_few)); by_index = waiting_small at (nodes (goal.at.write_batch-requires c).In-Some) }

pub overflow_sub-result : goal.overflow_sub-result
overflow_sub-result c = omega (arith, within (goal.at.overflow_sub-result c).In-Some)

pub overflow_add-result : goal.overflow_add-result
overflow_add-result c =
    let (load, lent, at) = came (goal.at.overflow_add-result c).In-Some in
    omega (arith, within (goal.at.overflow_add-result c).In-Some, at.trips, at.at.going.fewer, came_rows at)

pub returns : goal.returns
returns c =
    let a = c.args in
    let (load, lent, at) = came (goal.at.returns c).In-Some in
    batch_handed a.state.now a.out.now (long (goal.at.returns c).Else-out-lt-BATCH_WORDS (long-state (goal.at.returns c).Else-state-lt-WORDS)) load lent at c.if-state-ne1.false _ _ refl c.write_batch.ensures
