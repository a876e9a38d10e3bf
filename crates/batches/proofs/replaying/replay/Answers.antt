-- `batches::replaying::replay` meets its contract: the answers that are left lead from the load so far where all lead from the first.
use native.Mathlib.Omega.{arith}
use mathlib.Core.Path.{refl, ◌∙◌}
use lib.ListN.{length-map}
use Rattle.rows.specs.Words.{row_in}
use Rattle.rows.specs.States.{rows_of}
use Rattle.batches.specs.ReplayLaws.{batch_stands, replaying_first, replaying_few, replaying_stuck, replaying_short, replaying_refused, replaying_next, replaying_all}
use Rattle.batches.proofs.replaying.replay.Invariants.{whole}
use Rattle.batches.proofs.replaying.replay.Goals as goal

pub loop-asked-init : goal.loop-asked-init
loop-asked-init c =
    let a = c.args in
    let (total, sums) = c.requires.by_index in
    let (s, at) = c.requires.by_index_2 in
    (replaying_first (rows_of a.nodes.now) a.words.now a.rows.now a.places.now a.count a.first s total at sums, (refl, refl))

pub shape_of-rows-then-end-asked : goal.shape_of-rows-then-end-asked
shape_of-rows-then-end-asked c = c.loop-asked.invariant.1.0

pub shape_of-scratch-then-end-asked : goal.shape_of-scratch-then-end-asked
shape_of-scratch-then-end-asked c = c.loop-asked.invariant.1.1

pub returns-then-end-asked : goal.returns-then-end-asked
returns-then-end-asked c =
    let a = c.args in
    replaying_stuck (rows_of a.nodes.now) a.words.now a.places.now a.count
    (whole a.nodes.now a.words.now a.rows.now a.places.now a.first a.count) c.requires.count_in_bounds.0
    c.loop-asked.rows c.loop-asked.asked c.loop-asked.end c.loop-asked.batches c.loop-asked.invariant.0 c.if-end-asked.true (omega arith)

pub shape_of-rows-then-count-end : goal.shape_of-rows-then-count-end
shape_of-rows-then-count-end c = c.loop-asked.invariant.1.0

pub shape_of-scratch-then-count-end : goal.shape_of-scratch-then-count-end
shape_of-scratch-then-count-end c = c.loop-asked.invariant.1.1

pub returns-then-count-end : goal.returns-then-count-end
returns-then-count-end c =
    let a = c.args in
    replaying_short (rows_of a.nodes.now) a.words.now a.places.now a.count
    (whole a.nodes.now a.words.now a.rows.now a.places.now a.first a.count) c.requires.count_in_bounds.0
    c.loop-asked.rows c.loop-asked.asked c.loop-asked.end c.loop-asked.batches c.loop-asked.invariant.0 (omega arith) (omega arith)

pub take_answers-requires : goal.take_answers-requires
take_answers-requires c =
    let a = c.args in
    record { to_in_bounds = (omega (arith, c.requires.count_in_bounds.0), omega (arith, c.requires.count_in_bounds.1, c.loop-asked.invariant.1.0)); nodes_len_bound = (c.requires.nodes_len_bound.0, omega (arith, c.requires.nodes_len_bound.1, c.loop-asked.invariant.1.1)); all_stand = batch_stands (rows_of a.nodes.now) a.words.now a.places.now a.count (whole a.nodes.now a.words.now a.rows.now a.places.now a.first a.count) c.requires.count_in_bounds.0 c.loop-asked.rows c.loop-asked.asked c.loop-asked.end c.loop-asked.batches c.loop-asked.invariant.0 c.requires.all_stand c.if-end-asked.false (omega arith); by_index = (c.loop-asked.invariant.0.s, c.loop-asked.invariant.0.load, c.loop-asked.invariant.0.at) }

pub shape_of-rows-in_default : goal.shape_of-rows-in_default
shape_of-rows-in_default c = c.take_answers.auto.rows ∙ c.loop-asked.invariant.1.0

pub shape_of-scratch-in_default : goal.shape_of-scratch-in_default
shape_of-scratch-in_default c = c.take_answers.auto.scratch ∙ c.loop-asked.invariant.1.1

pub returns-in_default : goal.returns-in_default
returns-in_default c =
    let a = c.args in
    replaying_refused (rows_of a.nodes.now) a.words.now a.places.now a.count
    (whole a.nodes.now a.words.now a.rows.now a.places.now a.first a.count) c.requires.count_in_bounds.0
    c.loop-asked.rows c.loop-asked.asked c.loop-asked.end c.loop-asked.batches c.loop-asked.invariant.0 c.requires.all_stand c.if-end-asked.false (omega arith) _ _ _
    (rw c.in_default.is at c.take_answers.ensures)

pub overflow_add-batches : goal.overflow_add-batches
overflow_add-batches c =
    let a = c.args in
    omega (
      arith,
      replaying_few (rows_of a.nodes.now) a.words.now a.places.now a.count
          (whole a.nodes.now a.words.now a.rows.now a.places.now a.first a.count) c.requires.count_in_bounds.0
          c.loop-asked.rows c.loop-asked.asked c.loop-asked.end c.loop-asked.batches c.loop-asked.invariant.0,
      length-map a.nodes.now row_in,
      c.requires.nodes_len_bound.0,
    )

pub loop-asked-smaller : goal.loop-asked-smaller
loop-asked-smaller c = omega (arith, c.loop-asked.invariant.0.at.ahead, c.if-end-asked.false)

pub loop-asked-preserved : goal.loop-asked-preserved
loop-asked-preserved c =
    let a = c.args in (
      replaying_next (rows_of a.nodes.now) a.words.now a.places.now a.count
          (whole a.nodes.now a.words.now a.rows.now a.places.now a.first a.count) c.requires.count_in_bounds.0
          c.loop-asked.rows c.loop-asked.asked c.loop-asked.end c.loop-asked.batches c.loop-asked.invariant.0 c.requires.all_stand c.if-end-asked.false (omega arith)
          (omega (arith, length-map a.nodes.now row_in, c.requires.nodes_len_bound.0, c.requires.count_in_bounds.1, c.loop-asked.invariant.1.0)) _ _
          (rw c.in-Ok.is at c.take_answers.ensures),
      (
        c.take_answers.auto.rows ∙ c.loop-asked.invariant.1.0,
        c.take_answers.auto.scratch ∙ c.loop-asked.invariant.1.1,
      ),
    )

pub shape_of-rows : goal.shape_of-rows
shape_of-rows c = c.loop-asked.invariant.1.0

pub shape_of-scratch : goal.shape_of-scratch
shape_of-scratch c = c.loop-asked.invariant.1.1

pub returns : goal.returns
returns c =
    let a = c.args in
    replaying_all (rows_of a.nodes.now) a.words.now a.places.now a.count
    (whole a.nodes.now a.words.now a.rows.now a.places.now a.first a.count) c.requires.count_in_bounds.0
    c.loop-asked.rows c.loop-asked.asked c.loop-asked.end c.loop-asked.batches c.loop-asked.invariant.0 (omega arith)
