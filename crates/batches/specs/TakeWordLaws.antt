-- Laws of answers taken in words. No contract cites this file.
use Rattle.std.specs.Prelude.{ℕ, ◌≤◌, ◌≡◌, refl, true, false, List, map, length, take}
use Rattle.std.proofs.Common.{arith, le_refl}
use Rattle.std.specs.Prelude.{Option as Maybe, Some, None, Ok}
use Rattle.std.proofs.Math.Option.{Option, none, some}
use Rattle.rules.specs.Tries.{Row}
use Rattle.rules.specs.Values.{Entity}
use Rattle.rules.specs.ValueRows.{ValueRow}
use Rattle.rules.specs.ValueRowTests.{attributes_from}
use Rattle.rules.specs.WalkRows.{remaining_rows}
use Rattle.rules.proofs.WalkRowLaws.{remaining-rows}
use Rattle.rules.specs.Loading.{EntityRequest, batch_of}
use Rattle.rules.proofs.SliceLaws.{answers_to}
use Rattle.rules.proofs.TakeLaws.{found_or, taken_by}
use Rattle.words.specs.Runs.{Wrote}
use Rattle.words.specs.Replies.{Refused}
use Rattle.words.specs.RunLaws.{wrote_length}
use Rattle.words.specs.SeqLaws.{take-sets}
use Rattle.values.specs.ValueWords.{request_word}
use Rattle.row_walk.specs.Batches.{BatchWritten}
use Rattle.batches.specs.Hearings.{merges_with}
use Rattle.batches.specs.Takes.{StaysBefore, TakenInto}

-- What a batch that was written says.

pub batch_to :
    (out out' : List ℕ) (to end : ℕ) (o : Option (List EntityRequest))
    → BatchWritten out to out' o (Some end)
    → (rows : List EntityRequest) × (o ≡ some rows) × Wrote out to (map request_word rows) out' end
batch_to out out' to end none h = absurd h
batch_to out out' to end (some rows) h = (rows, refl, h)

pub batch_bad :
    (out out' : List ℕ) (to : ℕ) (o : Option (List EntityRequest))
    → BatchWritten out to out' o None
    → (o ≡ none) × StaysBefore out to out'
batch_bad out out' to none h = (refl, record { front = h.0; size = h.1 })
batch_bad out out' to (some rows) h = absurd h

-- what stands before the batch is as it was
pub batch_kept :
    (out out' : List ℕ) (to : ℕ) {end : ℕ} (o : Option (List EntityRequest)) (r : Maybe ℕ) (i : ℕ)
    → BatchWritten out to out' o r
    → r ≡ Some end
    → i ≤ to
    → (take i out' ≡ take i out) × (length out' ≡ length out)
batch_kept out out' to {end} o r i h e le =
    let (rows, found, wrote) = batch_to out out' to end o (rw e at h) in
    (rw wrote.text (take-sets i out to (map request_word rows) le), wrote_length wrote)

-- An answer taken, by whether it is there.
module _ (nodes : List Row) (asked : List EntityRequest) (answers : List (Option Entity)) (place : ℕ) (row : EntityRequest) where
  pub taken_absent :
      (heard : Option Entity) (out : List ℕ) (to : ℕ) → heard ≡ none → TakenInto (taken_by nodes asked answers place row heard) out to out (Ok to)
  taken_absent none out to e = record { after = omega arith; text = refl }
  taken_absent (some value) out to e = let z : ◌≡◌ {A = ℕ} 0 1 = cc in absurd (omega arith)

  -- the attributes of one that is there are those of a run
  module _ (heard : Option Entity) (value : Entity) (run : List ValueRow) (is : heard ≡ some value) (attributes : value.attributes ≡ attributes_from 1 run) where
    pub taken_present :
        taken_by nodes asked answers place row heard
        ≡ found_or place (merges_with (answers_to row.id asked answers) heard) (batch_of (remaining_rows nodes row.node run))
    taken_present = rw (is, attributes, remaining-rows nodes row.node run)

    module _ (out out' : List ℕ) (to : ℕ) where
      pub taken_bad :
          BatchWritten out to out' (batch_of (remaining_rows nodes row.node run)) None
          → TakenInto (taken_by nodes asked answers place row heard) out to out' (Refused 14 place)
      taken_bad h =
          let (found, stays) = batch_bad out out' to (batch_of (remaining_rows nodes row.node run)) h in
          rw (taken_present, found) (refl, refl, stays)

      pub taken_to :
          (end : ℕ)
          → BatchWritten out to out' (batch_of (remaining_rows nodes row.node run)) (Some end)
          → merges_with (answers_to row.id asked answers) heard ≡ true
          → TakenInto (taken_by nodes asked answers place row heard) out to out' (Ok end)
      taken_to end h merges =
          let (rows, found, wrote) = batch_to out out' to end (batch_of (remaining_rows nodes row.node run)) h in
          rw (taken_present, found, merges) wrote

      pub taken_apart :
          (end : ℕ)
          → BatchWritten out to out' (batch_of (remaining_rows nodes row.node run)) (Some end)
          → merges_with (answers_to row.id asked answers) heard ≡ false
          → TakenInto (taken_by nodes asked answers place row heard) out to out' (Refused 13 place)
      taken_apart end h merges =
          let (rows, found, wrote) = batch_to out out' to end (batch_of (remaining_rows nodes row.node run)) h in
          rw (taken_present, found, merges)
          (refl, refl, record { front = rw wrote.text (take-sets to out to (map request_word rows) (le_refl to)); size = wrote_length wrote })
