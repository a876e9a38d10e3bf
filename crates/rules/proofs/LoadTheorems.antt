-- What is promised of every load, on the definitions of Loading and LoadCalls. Only the statements need be read; what the slice of a load has
-- stands in SliceLaws (`loaded_exactly`), and that answers merge alike in any order in MergeLaws (`same_merge`).
use Rattle.std.specs.Prelude.{ℕ, suc, ◌+◌, ◌≤◌, ◌≡◌, refl, true, List, [], ◌∷◌}
use Rattle.std.proofs.Common.{arith, ap}
use Rattle.std.proofs.Math.Option.{Option}
use Rattle.rules.specs.Tries.{Row, ordered}
use Rattle.rules.specs.Values.{Entity}
use Rattle.rules.specs.Loading.{done, Request, EntityRequest, Load, load_begun, batch_answered, after_batches, trips_for}
use Rattle.rules.specs.LoadCalls.{Transcript, worked_out}
use Rattle.rules.specs.Trips.{most_fields}
use Rattle.rules.proofs.TripLaws.{bounded, is_answered}

-- 1. The load of the same transcript is the same.
pub same_load : (t u : Transcript) → t ≡ u → worked_out t ≡ worked_out u
same_load t u same = ap worked_out same

-- 2. Every load ends. Answers that are taken bring it on: where rows waited, one more batch has been asked.
pub brought_on :
    (nodes : List Row) (before now : Load) (answers : List (Option Entity))
    → (before.waiting ≡ [] → ⊥)
    → batch_answered nodes before answers ≡ done now
    → now.batches ≡ suc before.batches
brought_on nodes before now answers waits e = go before.waiting waits (is_answered nodes before answers now e).trips
  where
    go :
        (waiting : List EntityRequest)
        → (waiting ≡ [] → ⊥)
        → now.batches ≡ trips_for waiting + before.batches
        → now.batches ≡ suc before.batches
    go [] waits e = absurd (waits refl)
    go (row ∷ waiting) waits e = omega arith

-- And no row waits once one more batch has been asked than any node of the entry's primary trie has field steps, whatever was answered.
pub load_ends :
    (s : List ℕ) (nodes : List Row) (request : Request) (batches : List (List (Option Entity))) (load : Load)
    → ordered s nodes ≡ true
    → after_batches nodes (load_begun request nodes) batches ≡ done load
    → most_fields s nodes + 1 ≤ load.batches
    → load.waiting ≡ []
load_ends s nodes request batches load order e all = go load.waiting (bounded s nodes request batches load order e).all_batches
  where
    go : (waiting : List EntityRequest) → load.batches + trips_for waiting ≤ most_fields s nodes + 1 → waiting ≡ []
    go [] h = refl
    go (row ∷ waiting) h = absurd (omega arith)
