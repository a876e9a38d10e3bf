-- The words of proofs/CourseLaws.antt.
use Prim.Native.Nat.{ℕ, suc, ◌≤◌, ◌<◌}
use Rattle.std.proofs.Math.Path.{◌≡◌}
use mathlib.Core.List.{List, [], ◌++◌}
use Rattle.std.proofs.Math.ListN.{length}
use Rattle.rules.specs.Loading.{EntityRequest, Load}
use Rattle.rules.specs.LoadCalls.{Turn, batch_waits, answers_awaited, ancestors_to_ask, ancestors_awaited, ended}
use Rattle.rules.specs.Trips.{rows_handed}

abbrev pub HandedSo : List EntityRequest → ℕ → List (List EntityRequest) → Type 0
HandedSo rows batches handed = (rows_handed handed ≡ rows) × (length handed ≡ batches)

abbrev pub Stands : ℕ → Turn → Load → List (List EntityRequest) → ℕ → Type 0
Stands all batch_waits load handed calls =
    (0 < length load.waiting) × HandedSo load.asked load.batches handed × (calls ≡ 0) × (all ≡ 1)
Stands all answers_awaited load handed calls =
    (0 < length load.waiting) × HandedSo (load.asked ++ load.waiting) (suc load.batches) handed × (calls ≡ 0) × (all ≡ 1)
Stands all ancestors_to_ask load handed calls =
    (load.waiting ≡ []) × HandedSo load.asked load.batches handed × (calls ≡ 0) × (all ≡ 1)
Stands all ancestors_awaited load handed calls =
    (load.waiting ≡ []) × HandedSo load.asked load.batches handed × (calls ≡ 1) × (all ≡ 1)
Stands all ended load handed calls =
    (load.waiting ≡ []) × HandedSo load.asked load.batches handed × (calls ≡ all) × (all ≤ 1)

-- a load that has just begun has asked for nothing
pub record Fresh (load : Load) : Type 0 where
  pub no_row : load.asked ≡ []
  pub no-rows : load.rows ≡ 0
  pub no_batch : load.batches ≡ 0
