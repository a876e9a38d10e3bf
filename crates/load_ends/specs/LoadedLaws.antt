-- Laws of a load that was read from a lent state. No contract cites this file.
use Rattle.std.specs.Prelude.{ℕ, ◌≤◌, ◌≡◌, List, length, take, get_or}
use Rattle.std.proofs.Common.{arith, sym, ap, ◌∙◌}
use Rattle.rules.specs.Loading.{done, Load, summed, size_of_answer}
use Rattle.rows.specs.States.{rows_of}
use Rattle.answers.specs.Answers.{lent_items}
use Rattle.answers.specs.declared.Lending.TheVariants.{Answers}
use Rattle.slices.specs.Slices.{rows_asked}
use Rattle.load_state.specs.LoadStates.{answer_words}
use Rattle.load_state.specs.Transcripts.{node_words, lent_load, LentTo}
use Rattle.load_state.specs.WorkedLaws.{GoodParts}
use Rattle.load_state.specs.CameLaws.{came_asked, came_rows}
use Rattle.rules.proofs.SliceLaws.{done_same}
use Rattle.load_state.specs.TurnLaws.{lent_came, lent_told, told_parts}
use Rattle.load_state.specs.declared.working.Worked.{Worked}
use Rattle.std.specs.Prelude.{Option as Maybe, Some}
use Rattle.load_ends.specs.Ends.{ReadTo}

-- the load of a lent state
pub lent_read :
    (state rows places : List ℕ) (worked : Worked) (r : Maybe Worked)
    → LentTo (lent_load state) (answer_words state) rows places (get_or state 7 0) (rows_of (node_words state)) r
    → r ≡ Some worked
    → ReadTo state rows places worked.asked worked.batches worked.sum
lent_read state rows places worked r h e =
    let (load, told, came) =
    lent_came (answer_words state) rows places (get_or state 7 0) (rows_of (node_words state)) (lent_load state) r worked h e in
    record { load = load; end = worked.end; told = told; came = came }

module _ {state rows places : List ℕ} {asked batches sum : ℕ} (read : ReadTo state rows places asked batches sum) where
  pub read_same : {load : Load} → lent_load state ≡ done load → read.load ≡ load
  read_same e = done_same (sym read.told ∙ e)

  pub read_parts : GoodParts state
  read_parts = told_parts state read.load (lent_told state read.load read.told).0

  -- there are at most 4,096 rows
  pub read_few : asked ≤ 4096
  read_few = omega (arith, read.came.all_asked, read_parts.few_answers)

  pub read_asked : length read.load.asked ≡ asked
  read_asked = came_asked read.came

  pub read_rows : read.load.rows ≡ asked
  read_rows = came_rows read.came

  -- they stand in front
  pub read_inside : asked ≤ length rows
  read_inside = omega (arith, read.came.all_asked, read.came.at.ahead, read.came.at.fits)

  pub rows_are : rows_asked (take asked rows) ≡ read.load.asked
  rows_are = rw read.came.all_asked (sym read.came.at.asked_are)

  pub read_summed : summed size_of_answer 0 0 (lent_items Answers (get_or state 7 0) (answer_words state)) ≡ done read.load.sum
  read_summed = read.came.sums ∙ ap done read.came.total
