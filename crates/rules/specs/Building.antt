-- Demand 3 and document 01, 'Numbers given back': 'adding to a manifest: 5, then 4'. Contributions added to a manifest, one after the other.
-- A contribution is a lawful run of rows with one entry; a manifest is a lawful run of rows.
use Rattle.std.specs.Prelude.{◌≡◌, true, List, [], ◌∷◌}
use Rattle.rules.specs.Numbers.{Answer, accepted, refused}
use Rattle.rules.specs.Tries.{Row, manifest, contribution, lawful, union_within}

-- adding one contribution: the manifest after it, or the refusal, 'judged on the union'
abbrev pub add : List Row → List Row → Answer (List Row)
add m c = union_within manifest m c

-- 'A refused add leaves the manifest'
abbrev pub after : List Row → Answer (List Row) → List Row
after m (accepted rows) = rows
after m (refused number place) = m

-- the manifest after contributions are added in order
unfoldable pub build : List Row → List (List Row) → List Row
build m [] = m
build m (c ∷ cs) = build (after m (add m c)) cs

-- a contribution in front of others, where it was accepted
abbrev pub keep : Answer (List Row) → List Row → List (List Row) → List (List Row)
keep (accepted rows) c cs = c ∷ cs
keep (refused number place) c cs = cs

-- those of the contributions that are accepted when they are added in order
unfoldable pub accepted_of : List Row → List (List Row) → List (List Row)
accepted_of m [] = []
accepted_of m (c ∷ cs) = keep (add m c) c (accepted_of (after m (add m c)) cs)

-- every one of some runs is a lawful contribution
unfoldable pub Contributions : List (List Row) → Type 0
Contributions [] = Unit
Contributions (c ∷ cs) = (lawful contribution c ≡ true) × Contributions cs
