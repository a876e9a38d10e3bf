-- The words of proofs/Demand3Policies.antt.
use Rattle.std.specs.Prelude.{ℕ, ◌≡◌}
use mathlib.Core.List.{List, Memᴰ as Member}
use Rattle.rules.specs.Numbers.{accepted}
use Rattle.rules.specs.Tries.{Row}
use Rattle.rules.specs.Schema.{Item}
use Rattle.rules.specs.Policies.{contributions_of}

-- a contribution of some texts: one of the contributions of one of them
abbrev pub ContributionOf : List Item → List (List ℕ) → List Row → Type 0
ContributionOf items texts c =
    (text : List ℕ) × Member text texts × (cs : List (List Row)) × (contributions_of items text ≡ accepted cs) × Member c cs
