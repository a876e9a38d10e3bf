-- What the replay of a load comes to: the batches' answers are taken again, from the first batch on.
use Rattle.std.specs.Prelude.{ℕ, ◌≡◌, List, [], Option, Some, None}
use Rattle.rules.specs.Tries.{Row}
use Rattle.rules.specs.Loading.{LoadAnswer, done, refused_at, counted, EntityRequest, Load}
use Rattle.batches.specs.Takes.{LoadAt}

-- the load whose first batch waits
abbrev pub first_load : List EntityRequest → Load
first_load rows = record { waiting = rows; asked = []; slice = []; sum = 0; batches = 0; rows = 0 }

-- no load is come to
abbrev pub NoLoad : LoadAnswer Load → Type 0
NoLoad (done load) = ⊥
NoLoad (refused_at number place) = Unit
NoLoad (counted expected got) = Unit

-- so many answers were taken: the load stands in the rows, with its count of batches, or there is none
abbrev pub ReplayedTo : LoadAnswer Load → List ℕ → List ℕ → List ℕ → ℕ → List Row → Option (ℕ × ℕ) → Type 0
ReplayedTo answer words rows places count nodes None = NoLoad answer
ReplayedTo (done load) words rows places count nodes (Some (end, batches)) =
    (batches ≡ load.batches) × ((s : List ℕ) × LoadAt words rows places count end s nodes load)
ReplayedTo (refused_at number place) words rows places count nodes (Some (end, batches)) = ⊥
ReplayedTo (counted expected got) words rows places count nodes (Some (end, batches)) = ⊥
