-- `loader::answer::take_batch` meets its contract: each test that fails gives its refusal, and otherwise the answers are given to the load.
use Prim.Native.Nat.{◌-◌}
use Rattle.std.specs.Prelude.{Ok}
use native.Mathlib.Nat.{add-sub_cancel_left}
use native.Mathlib.Omega.{arith}
use mathlib.Core.Path.{◌≡◌, refl, sym, ap, ◌∙◌}
use mathlib.Core.Bool.{true}
use lib.ListN.{take, drop, get_or, length-take}
use Rattle.rules.specs.Loading.{summed, size_of_answer}
use Rattle.rules.specs.LoadCalls.{is_summed}
use Rattle.rows.specs.States.{rows_of}
use Rattle.answers.specs.Answers.{lent_from, lent_items, checked_as, sum_in}
use Rattle.answers.specs.declared.Lending.TheVariants.{Answers}
use Rattle.load_state.specs.LoadStates.{answer_words}
use Rattle.load_state.specs.Transcripts.{node_words, lent_load}
use Rattle.load_state.specs.TurnLaws.{lent_came}
use Rattle.load_state.specs.Outcomes.{behind_count}
use Rattle.loader.specs.LentAnswerLaws.{batch_wrong, lent_read, batch_counted, batch_over, size_within, fresh_read, fresh_size, fresh_items, batch_taken}
use Rattle.loader.proofs.answer.take_batch.Goals as goal
use Rattle.loader.proofs.answer.take_batch.Goals.{In-Ok, In_default}

-- all answers are of their form
fine : (c : In-Ok) → checked_as (lent_from Answers 0 (get_or c.args.lent.now 0 0) (behind_count c.args.lent.now)) ≡ Ok c.in-Ok.size
fine c = sym c.check.ensures ∙ c.in-Ok.is

-- their sum is within the limit
summed-up : (c : In_default) → (checked_as (lent_from Answers 0 (get_or c.args.lent.now 0 0) (behind_count c.args.lent.now)) ≡ Ok c.in-Ok.size) →
    let a = c.args in
    is_summed (summed size_of_answer 0 a.load.sum (lent_items Answers (a.load.end - a.load.asked) (take c.in-Ok.size (drop 1 a.lent.now)))) ≡ true
summed-up c fine-here =
    let a = c.args in
    let items = fresh_items a.state.now a.lent.now a.work.now.rows a.work.now.places a.load.asked a.load.end a.load.batches a.load.sum c.requires.lent_to _ fine-here c.if-count-waiting.false c.requires.asked_lt_end.1 in
    rw (items, c.sum.ensures ∙ ap sum_in c.in_default.is) refl

pub check-requires : goal.check-requires
check-requires c = omega (arith, length-take 24576 (drop 1 c.args.lent.now))

pub returns-in-Err : goal.returns-in-Err
returns-in-Err c =
    let a = c.args in
    batch_wrong a.state.now a.lent.now a.work.now.rows a.work.now.places a.load.asked a.load.end a.load.batches a.load.sum c.requires.lent_to _ (sym c.check.ensures ∙ c.in-Err.is)

pub returns-then-count-waiting : goal.returns-then-count-waiting
returns-then-count-waiting c =
    let a = c.args in
    batch_counted a.state.now a.lent.now a.work.now.rows a.work.now.places a.load.asked a.load.end a.load.batches a.load.sum c.requires.lent_to _ (fine (goal.at.returns-then-count-waiting c).In-Ok) c.if-count-waiting.true

pub sum-requires : goal.sum-requires
sum-requires c =
    let a = c.args in
    let (load, lends, at) = lent_came (answer_words a.state.now) a.work.now.rows a.work.now.places (get_or a.state.now 7 0) (rows_of (node_words a.state.now)) (lent_load a.state.now) _ a.load c.requires.lent_to refl in
    (lent_read a.state.now a.lent.now a.work.now.rows a.work.now.places a.load.asked a.load.end a.load.batches a.load.sum c.requires.lent_to _ (fine (goal.at.sum-requires c).In-Ok), at.few)

pub returns-in-Err-sum : goal.returns-in-Err-sum
returns-in-Err-sum c =
    let a = c.args in
    batch_over a.state.now a.lent.now a.work.now.rows a.work.now.places a.load.asked a.load.end a.load.batches a.load.sum c.requires.lent_to _ (fine (goal.at.returns-in-Err-sum c).In-Ok) c.if-count-waiting.false _ (c.sum.ensures ∙ ap sum_in c.in-Err-sum.is)

pub overflow_add-behind : goal.overflow_add-behind
overflow_add-behind c =
    let a = c.args in
    omega (arith, size_within a.state.now a.lent.now a.work.now.rows a.work.now.places a.load.asked a.load.end a.load.batches a.load.sum c.requires.lent_to _ (fine (goal.at.overflow_add-behind c).In-Ok) c.if-count-waiting.false c.requires.asked_lt_end.1)

pub slice_bounds-take_given-end : goal.slice_bounds-take_given-end
slice_bounds-take_given-end c =
    let a = c.args in
    omega (arith, size_within a.state.now a.lent.now a.work.now.rows a.work.now.places a.load.asked a.load.end a.load.batches a.load.sum c.requires.lent_to _ (fine (goal.at.slice_bounds-take_given-end c).In-Ok) c.if-count-waiting.false c.requires.asked_lt_end.1, c.requires.asked_lt_end.1)

pub take_given-requires : goal.take_given-requires
take_given-requires c =
    let a = c.args in
    rw (add-sub_cancel_left 1 c.in-Ok.size) record { in_bounds = c.requires.in_bounds; lent_to = c.requires.lent_to; asked_lt_end = (c.requires.asked_lt_end.0, fresh_read a.state.now a.lent.now a.work.now.rows a.work.now.places a.load.asked a.load.end a.load.batches a.load.sum c.requires.lent_to c.in-Ok.size (fine (goal.at.take_given-requires c).In-Ok) c.if-count-waiting.false c.requires.asked_lt_end.1, fresh_size a.state.now a.lent.now a.work.now.rows a.work.now.places a.load.asked a.load.end a.load.batches a.load.sum c.requires.lent_to c.in-Ok.size (fine (goal.at.take_given-requires c).In-Ok) c.if-count-waiting.false c.requires.asked_lt_end.1); fresh_value = summed-up (goal.at.take_given-requires c).In_default (fine (goal.at.take_given-requires c).In-Ok) }

pub returns : goal.returns
returns c =
    let a = c.args in
    rw (batch_taken a.state.now a.lent.now a.work.now.rows a.work.now.places a.load.asked a.load.end a.load.batches a.load.sum c.requires.lent_to c.in-Ok.size (fine (goal.at.returns c).In-Ok) c.if-count-waiting.false c.requires.asked_lt_end.1)
    (rw (add-sub_cancel_left 1 c.in-Ok.size) at c.take_given.ensures)
