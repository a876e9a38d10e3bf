-- Laws of a load as it goes on: how many rows it can have asked for, and what waits. No contract cites this file.
use Rattle.std.specs.Prelude.{ℕ, ◌+◌, ◌≤◌, ◌≡◌, refl, true, List, [], ◌∷◌, ◌++◌, length}
use Rattle.std.proofs.Common.{arith, length-append}
use Rattle.std.proofs.Math.Option.{Option}
use Rattle.rules.specs.Facts.{by_test}
use Rattle.rules.specs.Tries.{Row, at, ordered}
use Rattle.rules.proofs.TrieLaws.{ordered_true}
use Rattle.rules.specs.Values.{Entity}
use Rattle.rules.specs.Trips.{primaries, is_primary}
use Rattle.rules.proofs.TripLaws.{GoingLoad, Answered, is_answered, going_next, going_first, going_bounded}
use Rattle.rules.specs.Loading.{done, Request, AnswersTaken, Load, load_begun, batch_answered, take_answers, trips_for}

-- the primary nodes are some of the nodes
primaries_few : (s : List ℕ) (rows : List Row) → primaries s rows ≤ length rows
unfolding primaries
primaries_few s [] = omega arith
primaries_few s (row ∷ rows) =
    let rest = primaries_few (at s row) rows in
    by_test (is_primary (at s row)) (λ e. rw e (omega arith)) (λ e. rw e (omega arith))

module _ (s : List ℕ) (nodes : List Row) where
  -- rows asked and rows that wait are no more than the nodes
  pub rows_fit : (load : Load) → GoingLoad s nodes load → length load.asked + length load.waiting ≤ length nodes
  rows_fit load g = omega (arith, (going_bounded s nodes load g).all_rows, g.row_count, primaries_few s nodes)

  module _ (order : ordered s nodes ≡ true) where
    -- a load that begins, and one whose batch is answered, go on
    pub going_begun : (request : Request) (load : Load) → load_begun request nodes ≡ done load → GoingLoad s nodes load
    going_begun request load e = going_first s nodes (ordered_true s nodes order) request load e

    pub going_answered :
        (before : Load) (answers : List (Option Entity)) (now : Load)
        → GoingLoad s nodes before
        → batch_answered nodes before answers ≡ done now
        → GoingLoad s nodes now
    going_answered before answers now g e =
        going_next s nodes (ordered_true s nodes order) before answers now g (is_answered nodes before answers now e)

    -- so are those with the rows that the answers so far have given
    pub rows_fit_so_far :
        (before : Load) (answers : List (Option Entity)) (gained : AnswersTaken)
        → GoingLoad s nodes before
        → take_answers nodes 0 before.waiting answers (record { slice = before.slice; next = [] }) ≡ done gained
        → length before.asked + length before.waiting + length gained.next ≤ length nodes
    rows_fit_so_far before answers gained g e =
        let now : Load = record {
          waiting = gained.next;
          asked = before.asked ++ before.waiting;
          slice = gained.slice;
          sum = 0;
          batches = trips_for before.waiting + before.batches;
          rows = before.rows + length before.waiting;
        } in
        let answered : Answered nodes before answers now =
        record { gained = gained; gaining = e; waits = refl; has_asked = refl; trips = refl; row_count = refl } in
        let fit = rows_fit now (going_next s nodes (ordered_true s nodes order) before answers now g answered) in
        omega (arith, fit, length-append before.asked before.waiting)
