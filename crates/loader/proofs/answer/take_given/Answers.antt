-- `loader::answer::take_given` meets its contract: all answers stand in words of their own, and those that are given lead on, or are refused.
use Prim.Native.Nat.{ℕ, ◌+◌, ◌-◌, ◌≤◌}
use native.Mathlib.Omega.{arith}
use mathlib.Core.Path.{◌≡◌, ap, ◌∙◌}
use lib.ListN.{length, take, drop, get_or, length-replicate}
use lib.Seq.{sets}
use Rattle.rows.specs.States.{rows_of}
use Rattle.batches.specs.Takes.{TakenInto}
use Rattle.batches.specs.TakingLaws.{taken_up_to}
use Rattle.load_state.specs.LoadStates.{answer_words}
use Rattle.load_state.specs.Transcripts.{node_words}
use Rattle.load_state.specs.WorkedLaws.{nodes_part, from_within, nodes_few}
use Rattle.load_state.specs.CameLaws.{came_rows, came_ahead, came_few}
use Rattle.loader.specs.AnswerLaws.{GivenTo, given_to, old_words, copied_whole, words_read, words_length, given_stand, given_at, given_refused, given_ahead, given_taken}
use Rattle.std.proofs.lemmas.Result.{err_from_is_err_and}
use Rattle.loader.proofs.answer.take_given.Goals as goal
use Rattle.loader.proofs.answer.take_given.Goals.{After-copy_words-2, After-nodes_from-from, After-place, After-take_answers, Start}

-- the load that they are given to
given : (c : Start) → let a = c.args in GivenTo a.state.now a.work.now.rows a.work.now.places a.fresh.now a.load.asked a.load.end a.load.batches a.load.sum
given c =
    let a = c.args in
    given_to a.state.now a.work.now.rows a.work.now.places a.fresh.now a.load.asked a.load.end a.load.batches a.load.sum c.requires.lent_to c.requires.asked_lt_end.1 c.requires.asked_lt_end.2 c.requires.fresh_value

within : (c : Start) → let a = c.args in (a.load.asked ≤ a.load.end) × (a.load.end ≤ 4096) × (a.load.asked + a.load.sum + length a.fresh.now ≤ 12288)
within c = let g = given c in (came_ahead g.came, omega (arith, came_few g.came, g.nodes), g.room)

-- all answers, one after the other
words_are : (c : After-copy_words-2) → let a = c.args in c.copy_words-2.new.out ≡ sets (answer_words a.state.now) (a.load.asked + a.load.sum) a.fresh.now
words_are c =
    let a = c.args in
    let size = old_words a.state.now c.requires.in_bounds in
    c.copy_words-2.ensures.text
    ∙ ap (λ l. sets l (a.load.asked + a.load.sum) a.fresh.now)
    (c.copy_words.ensures.text ∙ copied_whole _ (answer_words a.state.now) (omega (arith, size, length-replicate {A = ℕ} 12288 0)))

-- where the nodes begin, and that they are the entry's
begins : (c : After-nodes_from-from) → let count = get_or c.args.state.now 5 0 in (c.nodes_from-from.result ≤ 10) × (c.nodes_from-from.result ≤ 9 + count)
begins c = rw c.nodes_from-from.ensures (from_within (get_or c.args.state.now 5 0))

nodes :
    (c : After-nodes_from-from) →
    take (9 + get_or c.args.state.now 5 0 - c.nodes_from-from.result) (drop c.nodes_from-from.result c.args.state.now) ≡ node_words c.args.state.now
nodes c = rw c.nodes_from-from.ensures (nodes_part c.args.state.now (get_or c.args.state.now 5 0))

-- there is a place for each of them
placed : (c : After-place) → (let a = c.args in (a.load.asked ≤ a.load.end) × (a.load.end ≤ 4096) × (a.load.asked + a.load.sum + length a.fresh.now ≤ 12288)) → c.args.load.end ≤ length c.place.new.places
placed c within-here = omega (arith, c.place.auto.places, within-here.1)

-- what taking them comes to
taken : (c : After-take_answers) → (take (9 + get_or c.args.state.now 5 0 - c.nodes_from-from.result) (drop c.nodes_from-from.result c.args.state.now) ≡ node_words c.args.state.now) →
    let a = c.args in
    TakenInto
    (taken_up_to (rows_of (node_words a.state.now)) c.copy_words-2.new.out a.work.now.rows c.place.new.places a.load.asked a.load.end a.load.end)
    a.work.now.rows a.load.end c.take_answers.new.rows c.take_answers.result
taken c nodes-here = rw nodes-here at c.take_answers.ensures

pub overflow_add-used : goal.overflow_add-used
overflow_add-used c = omega (arith, (within (goal.at.overflow_add-used c).Start).2)

pub copy_words-requires : goal.copy_words-requires
copy_words-requires c = omega (arith, old_words c.args.state.now c.requires.in_bounds, length-replicate {A = ℕ} 12288 0)

pub copy_words-requires-2 : goal.copy_words-requires-2
copy_words-requires-2 c = omega (arith, (within (goal.at.copy_words-requires-2 c).Start).2, c.copy_words.auto.out, length-replicate {A = ℕ} 12288 0)

pub place-requires : goal.place-requires
place-requires c =
    (words_read (given (goal.at.place-requires c).Start) c.requires.in_bounds _ (words_are (goal.at.place-requires c).After-copy_words-2), omega (arith, (within (goal.at.place-requires c).Start).1))

pub bounds-state-5 : goal.bounds-state-5
bounds-state-5 c = omega (arith, c.requires.in_bounds)

pub bounds-state-5-2 : goal.bounds-state-5-2
bounds-state-5-2 c = omega (arith, c.requires.in_bounds)

pub overflow_add-last : goal.overflow_add-last
overflow_add-last c = omega (arith, (given (goal.at.overflow_add-last c).Start).parts.few_rows)

pub offset_bounds-state-from : goal.offset_bounds-state-from
offset_bounds-state-from c = omega (arith, (begins (goal.at.offset_bounds-state-from c).After-nodes_from-from).0)

pub slice_bounds-take_answers-count : goal.slice_bounds-take_answers-count
slice_bounds-take_answers-count c = omega (arith, (begins (goal.at.slice_bounds-take_answers-count c).After-nodes_from-from).1)

pub slice_bounds-take_answers-start : goal.slice_bounds-take_answers-start
slice_bounds-take_answers-start c = omega (arith, (begins (goal.at.slice_bounds-take_answers-start c).After-nodes_from-from).1)

pub slice_bounds-take_answers-end : goal.slice_bounds-take_answers-end
slice_bounds-take_answers-end c = omega (arith, (given (goal.at.slice_bounds-take_answers-end c).Start).parts.few_rows, c.requires.in_bounds)

pub take_answers-requires : goal.take_answers-requires
take_answers-requires c =
    let g = given (goal.at.take_answers-requires c).Start in
    let are = words_are (goal.at.take_answers-requires c).After-copy_words-2 in
    rw (nodes (goal.at.take_answers-requires c).After-nodes_from-from) record { to_in_bounds = (placed (goal.at.take_answers-requires c).After-place (within (goal.at.take_answers-requires c).Start), omega arith); nodes_len_bound = (nodes_few c.args.state.now g.parts.few_rows, omega (arith, words_length g c.requires.in_bounds _ are)); all_stand = given_stand g c.requires.in_bounds _ are _ c.place.ensures (placed (goal.at.take_answers-requires c).After-place (within (goal.at.take_answers-requires c).Start)); by_index = (g.came.s, g.load, given_at g c.requires.in_bounds _ are _ c.place.ensures (placed (goal.at.take_answers-requires c).After-place (within (goal.at.take_answers-requires c).Start))) }

pub overflow_sub-waiting : goal.overflow_sub-waiting
overflow_sub-waiting c =
    given_ahead (given (goal.at.overflow_sub-waiting c).Start) c.requires.in_bounds _ (words_are (goal.at.overflow_sub-waiting c).After-copy_words-2) _ c.place.ensures (placed (goal.at.overflow_sub-waiting c).After-place (within (goal.at.overflow_sub-waiting c).Start)) _ c.take_answers.result _ (taken (goal.at.overflow_sub-waiting c).After-take_answers (nodes (goal.at.overflow_sub-waiting c).After-nodes_from-from)) c.in_ok-next.was

pub overflow_add-used-2 : goal.overflow_add-used-2
overflow_add-used-2 c = omega (arith, (within (goal.at.overflow_add-used-2 c).Start).2)

pub store_answers-requires : goal.store_answers-requires
store_answers-requires c = (c.requires.in_bounds, omega (arith, (within (goal.at.store_answers-requires c).Start).2, c.requires.in_bounds))

pub overflow_add-result : goal.overflow_add-result
overflow_add-result c =
    let g = given (goal.at.overflow_add-result c).Start in
    omega (arith, within (goal.at.overflow_add-result c).Start, g.came.trips, g.came.at.going.fewer, came_rows g.came)

pub returns-in_err-next : goal.returns-in_err-next
returns-in_err-next c =
    let handed = err_from_is_err_and c.from_residual.result c.from_residual.ensures.1 in
    rw (handed.1, handed.2)
    (given_refused (given (goal.at.returns-in_err-next c).Start) c.requires.in_bounds _ (words_are (goal.at.returns-in_err-next c).After-copy_words-2) _ c.place.ensures (placed (goal.at.returns-in_err-next c).After-place (within (goal.at.returns-in_err-next c).Start)) _ c.take_answers.result _ _ (taken (goal.at.returns-in_err-next c).After-take_answers (nodes (goal.at.returns-in_err-next c).After-nodes_from-from)) c.in_err-next.was)

pub returns : goal.returns
returns c =
    given_taken (given (goal.at.returns c).Start) c.requires.in_bounds _ (words_are (goal.at.returns c).After-copy_words-2) _ c.place.ensures (placed (goal.at.returns c).After-place (within (goal.at.returns c).Start)) _ c.take_answers.result _ (taken (goal.at.returns c).After-take_answers (nodes (goal.at.returns c).After-nodes_from-from)) c.in_ok-next.was c.requires.asked_lt_end.0 _ _ c.turn_for-turn.ensures c.store_answers.ensures
