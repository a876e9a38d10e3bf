-- `batches::taking::take_answers` meets its contract: what the rows that were passed give is written behind those that wait.
use native.Mathlib.Omega.{arith}
use mathlib.Core.Path.{refl, ◌∙◌}
use lib.ListN.{length-map}
use Rattle.rows.specs.Words.{row_in}
use Rattle.rows.specs.States.{rows_of}
use Rattle.words.specs.RunLaws.{wrote_length}
use Rattle.std.proofs.lemmas.Result.{err_from_is_err_and}
use Rattle.batches.specs.TakingLaws.{stand_at, taking_none, taking_more, taking_refused, taking_all, taking_room}
use Rattle.batches.proofs.taking.take_answers.Goals as goal

pub loop-i-init : goal.loop-i-init
loop-i-init c =
    let a = c.args in
    let (s, load, at) = c.requires.by_index in
    (taking_none (rows_of a.nodes.now) a.words.now a.rows.now a.places.now a.from a.to at.ahead, refl)

pub overflow_sub-place : goal.overflow_sub-place
overflow_sub-place c = omega (arith, c.loop-i.invariant.0.from_on)

pub take_answer-requires : goal.take_answer-requires
take_answer-requires c =
    let a = c.args in
    let (s, load, at) = c.requires.by_index in
    let room =
    taking_room (rows_of a.nodes.now) a.words.now a.rows.now a.places.now a.from a.to s load at c.requires.all_stand
    c.loop-i.i c.loop-i.rows c.loop-i.end c.loop-i.invariant.0 in record { i_lt_end = (omega (arith, c.loop-i.invariant.0.wrote.after), (omega (arith, c.requires.to_in_bounds.0), omega (arith, room, length-map a.nodes.now row_in, wrote_length c.loop-i.invariant.0.wrote, c.requires.to_in_bounds.1, c.requires.nodes_len_bound.0))); nodes_len_bound = (c.requires.nodes_len_bound.0, omega (arith, c.requires.nodes_len_bound.1, c.loop-i.invariant.1)); all_stand = stand_at a.words.now a.places.now c.loop-i.i a.to (omega arith) c.requires.to_in_bounds.0 c.requires.all_stand }

pub shape_of-rows-in_err-end : goal.shape_of-rows-in_err-end
shape_of-rows-in_err-end c = c.take_answer.auto.rows ∙ wrote_length c.loop-i.invariant.0.wrote

pub shape_of-scratch-in_err-end : goal.shape_of-scratch-in_err-end
shape_of-scratch-in_err-end c = c.take_answer.auto.scratch ∙ c.loop-i.invariant.1

pub returns-in_err-end : goal.returns-in_err-end
returns-in_err-end c =
    let a = c.args in
    let (s, load, at) = c.requires.by_index in
    let p = err_from_is_err_and c.from_residual.result c.from_residual.ensures.1 in
    rw (p.1, p.2)
    (taking_refused (rows_of a.nodes.now) a.words.now a.rows.now a.places.now a.from a.to c.requires.to_in_bounds.0 at.fits
    c.loop-i.i (omega arith) c.loop-i.rows c.loop-i.end c.loop-i.invariant.0 _ _ _
    (rw c.in_err-end.was at c.take_answer.ensures))

pub loop-i-preserved : goal.loop-i-preserved
loop-i-preserved c =
    let a = c.args in
    let (s, load, at) = c.requires.by_index in (
      taking_more (rows_of a.nodes.now) a.words.now a.rows.now a.places.now a.from a.to c.requires.to_in_bounds.0 at.fits
          c.loop-i.i (omega arith) c.loop-i.rows c.loop-i.end c.loop-i.invariant.0 _ _
          (rw c.in_ok-end.was at c.take_answer.ensures),
      c.take_answer.auto.scratch ∙ c.loop-i.invariant.1,
    )

pub shape_of-rows : goal.shape_of-rows
shape_of-rows c = wrote_length c.loop-i.invariant.0.wrote

pub shape_of-scratch : goal.shape_of-scratch
shape_of-scratch c = c.loop-i.invariant.1

pub returns : goal.returns
returns c =
    let a = c.args in
    taking_all (rows_of a.nodes.now) a.words.now a.rows.now a.places.now a.from a.to c.loop-i.i c.loop-i.rows c.loop-i.end
    (omega arith) c.loop-i.invariant.0
