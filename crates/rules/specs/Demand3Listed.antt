-- What the theorems of proofs/Demand3Listed.antt say of the listing that is read again.
use Rattle.std.specs.Prelude.{◌↔◌, ℕ}
use mathlib.Core.List.{List, [], Memᴰ as Member}
use Rattle.rules.specs.Tries.{Row, Has, Marked}
use Rattle.rules.specs.Building.{accepted_of}

-- rows have the places and the marks of the accepted ones of some contributions, and no others
abbrev pub ExactlyThose : List (List Row) → List Row → Type 0
ExactlyThose cs rows =
    (place : List ℕ)
    → (Has [] rows place ↔ ((c : List Row) × Member c (accepted_of [] cs) × Has [] c place))
    × (Marked [] rows place ↔ ((c : List Row) × Member c (accepted_of [] cs) × Marked [] c place))
