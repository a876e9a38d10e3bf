-- `load_state::working::work_out_load` meets its contract: the answers are summed and placed, and the first batch's rows lead on by them.
use native.Mathlib.Omega.{arith}
use mathlib.Core.Path.{◌≡◌, ◌∙◌, ap}
use lib.ListN.{take, length-map}
use Rattle.rules.specs.Loading.{done, summed, size_of_answer}
use Rattle.rows.specs.Words.{row_in}
use Rattle.rows.specs.States.{rows_of}
use Rattle.answers.specs.Answers.{lent_items, sum_in}
use Rattle.answers.specs.declared.Lending.TheVariants.{Answers}
use Rattle.row_walk.specs.YieldLaws.{below_length}
use Rattle.row_walk.specs.InitialLaws.{initial_yields}
use Rattle.batches.specs.Hearings.{heard_before, AllStand}
use Rattle.load_state.specs.WorkedLaws.{items_counted, placed_heard, no_first, FirstRead, first_read, worked_over, worked_none, worked_come}
use Rattle.load_state.proofs.working.work_out_load.Goals as goal
use Rattle.load_state.proofs.working.work_out_load.Goals.{After-place, In-Ok, In_ok-first}

-- the sum of all answers
sums : (c : In-Ok) → let a = c.args in summed size_of_answer 0 0 (lent_items Answers a.count a.words.now) ≡ done c.in-Ok.sum
sums c = c.sum.ensures ∙ ap sum_in c.in-Ok.is

-- they are heard at their places
heard :
    (c : After-place) →
    let a = c.args in
    (heard_before a.words.now c.place.new.places a.count ≡ lent_items Answers a.count a.words.now)
    × AllStand a.words.now (take a.count c.place.new.places)
heard c =
    let a = c.args in
    placed_heard a.count a.words.now a.places.now c.place.new.places c.requires.all_read.0 c.place.ensures
    (omega (arith, c.place.auto.places, c.requires.all_read.1))

-- and the load begins with the rows of the first batch
begun :
    (c : In_ok-first) →
    let a = c.args in
    FirstRead a.request a.context.now (rows_of a.nodes.now) a.words.now c.place.new.places c.initial_entities_to_load.new.out c.in_ok-first.first c.requires.by_index.0
begun c =
    let a = c.args in
    first_read a.request a.context.now (rows_of a.nodes.now) c.requires.nodes_len_bound.1 a.words.now c.place.new.places a.rows.now c.initial_entities_to_load.new.out c.in_ok-first.first c.requires.by_index.0
    c.requires.by_index.1 (omega (arith, length-map a.nodes.now row_in, c.requires.nodes_len_bound.0, c.requires.in_bounds.0))
    c.initial_entities_to_load.result c.initial_entities_to_load.ensures c.in_ok-first.was

pub returns-in_default : goal.returns-in_default
returns-in_default c =
    let a = c.args in
    worked_over _ _ (lent_items Answers a.count a.words.now) (c.sum.ensures ∙ ap sum_in c.in_default.is)

pub initial_entities_to_load-requires : goal.initial_entities_to_load-requires
initial_entities_to_load-requires c =
    let a = c.args in record { nodes_len_bound = (omega (arith, c.requires.nodes_len_bound.0), c.requires.nodes_len_bound.1.0, c.requires.nodes_len_bound.1.1); nodes_in_bounds = omega (arith, initial_yields a.request a.context.now 0 0 (rows_of a.nodes.now), below_length 0 (rows_of a.nodes.now), length-map a.nodes.now row_in, c.requires.nodes_len_bound.0, c.requires.in_bounds.0) }

pub returns-in_err-first : goal.returns-in_err-first
returns-in_err-first c =
    let a = c.args in
    rw c.from_residual.ensures
    (no_first a.request a.context.now (rows_of a.nodes.now) (lent_items Answers a.count a.words.now) a.rows.now _ c.initial_entities_to_load.result c.initial_entities_to_load.ensures c.in_err-first.was)

pub replay-requires : goal.replay-requires
replay-requires c =
    let (same, stand) = heard (goal.at.replay-requires c).After-place in record { count_in_bounds = (omega (arith, c.place.auto.places, c.requires.all_read.1), omega (arith, c.initial_entities_to_load.auto.out, c.requires.in_bounds.0)); nodes_len_bound = (c.requires.nodes_len_bound.0, c.requires.in_bounds.1); all_stand = stand; by_index = (c.in-Ok.sum, rw same (sums (goal.at.replay-requires c).In-Ok)); by_index_2 = (c.requires.by_index.0, (begun (goal.at.replay-requires c).In_ok-first).at) }

pub returns-in_err-end : goal.returns-in_err-end
returns-in_err-end c =
    let a = c.args in
    rw c.from_residual-in_err-end.ensures
    (worked_none a.request a.context.now (rows_of a.nodes.now) a.words.now _ _ _ _ _ (begun (goal.at.returns-in_err-end c).In_ok-first) a.count (heard (goal.at.returns-in_err-end c).After-place).0
    (items_counted Answers a.count a.words.now c.requires.all_read.0) (heard (goal.at.returns-in_err-end c).After-place).1 c.replay.result c.replay.ensures c.in_err-end.was)

pub returns : goal.returns
returns c =
    let a = c.args in
    worked_come a.request a.context.now (rows_of a.nodes.now) a.words.now _ _ _ _ _ (begun (goal.at.returns c).In_ok-first) a.count (heard (goal.at.returns c).After-place).0
    (items_counted Answers a.count a.words.now c.requires.all_read.0) (heard (goal.at.returns c).After-place).1 _ _ _ c.replay.result c.replay.ensures c.in_ok-end.was (sums (goal.at.returns c).In-Ok)
