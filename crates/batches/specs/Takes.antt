-- What taking an answer, and the answers of a batch, answers and writes, and the loads that rows and answers can be of.
use Rattle.std.specs.Prelude.{ℕ, ◌≤◌, ◌≡◌, true, List, map, length, take, Result, Ok, Err}
use Rattle.rules.specs.Tries.{Row, ordered}
use Rattle.rules.specs.Loading.{LoadAnswer, done, refused_at, counted, EntityRequest, Load}
use Rattle.rules.proofs.SliceLaws.{LoadOf}
use Rattle.rules.proofs.TripLaws.{GoingLoad}
use Rattle.words.specs.Runs.{Wrote}
use Rattle.words.specs.declared.Refusal.{Refusal}
use Rattle.values.specs.ValueWords.{request_word}
use Rattle.batches.specs.Hearings.{asked_before, asked_in, heard_before}

-- nothing in front of a place is changed
pub record StaysBefore (out : List ℕ) (to : ℕ) (out' : List ℕ) : Type 0 where
  pub front : take to out' ≡ take to out
  pub size : length out' ≡ length out

-- The rows that an answer gives are written from a place on, or it is refused.
abbrev pub TakenInto : LoadAnswer (List EntityRequest) → List ℕ → ℕ → List ℕ → Result ℕ Refusal → Type 0
TakenInto (done rows) out to out' (Ok end) = Wrote out to (map request_word rows) out' end
TakenInto (done rows) out to out' (Err refusal) = ⊥
TakenInto (refused_at number place) out to out' (Ok end) = ⊥
TakenInto (refused_at number place) out to out' (Err refusal) = (refusal.number ≡ number) × (refusal.place ≡ place) × StaysBefore out to out'
TakenInto (counted expected got) out to out' r = ⊥

-- A load of an entry at the place s: the rows before `from` were asked and answered, and those up to `to` wait.
pub record LoadAt (words rows places : List ℕ) (from to : ℕ) (s : List ℕ) (nodes : List Row) (load : Load) : Type 0 where
  pub ahead : from ≤ to
  pub fits : to ≤ length rows
  pub order : ordered s nodes ≡ true
  pub asked_are : load.asked ≡ asked_before rows from
  pub waiting_are : load.waiting ≡ asked_in rows from to
  pub load_of : LoadOf (heard_before words places from) load
  pub going : GoingLoad s nodes load
