-- Demand 3 as theorems on the definitions of Tries, Building and Listing. Only the statements need be read: BuildingLaws has the proofs.
-- `[]` is the empty manifest, `build [] cs` the manifest after the contributions cs are added to it in order, and `accepted_of [] cs`
-- are those of them that are accepted. `Contributions cs`: each of cs is a lawful contribution. `Member c cs`: c is one of cs.
use Rattle.std.specs.Prelude.{ℕ, ◌≤◌, ◌<◌, ◌≡◌, ◌↔◌, true}
use mathlib.Core.List.{List, [], ◌∷◌, Memᴰ as Member}
use Rattle.rules.specs.Numbers.{accepted, refused}
use Rattle.rules.specs.Tries.{Row, Has, Marked, entries_in, nodes_in, manifest, lawful, union}
use Rattle.rules.specs.Building.{add, after, build, accepted_of, Contributions}
use Rattle.rules.specs.Listing.{listing}
use Rattle.rules.proofs.BuildingLaws.{
  same_accepted,
  same_listing,
  built_has,
  built_marked,
  built_lawful,
  refused_entries,
  refused_nodes,
  accepted_within,
  refusal_leaves,
}

-- 1. Where all of some contributions are accepted, the same ones in any order, with any repeats, are all accepted too, and the manifest
-- has the same listing, byte for byte.
pub order_free :
    (cs ds : List (List Row))
    → Contributions cs
    → accepted_of [] cs ≡ cs
    → ((c : List Row) → Member c cs ↔ Member c ds)
    → (accepted_of [] ds ≡ ds) × (listing (build [] ds) ≡ listing (build [] cs))
order_free cs ds lcs all same = (same_accepted cs ds lcs all same, same_listing cs ds lcs all same)

-- 2. Whether or not some are refused, the manifest has a position for a request type exactly if some accepted contribution has it, and a
-- mark likewise. A place is a request type and then a position.
pub exactly_those :
    (cs : List (List Row))
    → Contributions cs
    → (place : List ℕ)
    → (Has [] (build [] cs) place ↔ ((c : List Row) × Member c (accepted_of [] cs) × Has [] c place))
    × (Marked [] (build [] cs) place ↔ ((c : List Row) × Member c (accepted_of [] cs) × Marked [] c place))
exactly_those cs lcs place = (built_has cs lcs place, built_marked cs lcs place)

-- It has an entry for a request type exactly if some accepted contribution names that type.
pub exactly_those_entries :
    (cs : List (List Row))
    → Contributions cs
    → (request : ℕ)
    → Has [] (build [] cs) (request ∷ []) ↔ ((c : List Row) × Member c (accepted_of [] cs) × Has [] c (request ∷ []))
exactly_those_entries cs lcs request = built_has cs lcs (request ∷ [])

-- And it is a lawful manifest.
pub build_is_lawful : (cs : List (List Row)) → Contributions cs → lawful manifest (build [] cs) ≡ true
build_is_lawful = built_lawful

-- 3. A contribution is refused exactly when the union would have a 65th entry (5) or, if not, more than 4,096 nodes (4), and otherwise
-- the union is accepted. This holds of any two runs of rows, so of a lawful manifest and a lawful contribution.
pub refused_exactly :
    (m c : List Row)
    → ((add m c ≡ refused 5 0) ↔ (64 < entries_in (union m c)))
    × ((add m c ≡ refused 4 0) ↔ ((entries_in (union m c) ≤ 64) × (4096 < nodes_in (union m c))))
    × ((add m c ≡ accepted (union m c)) ↔ ((entries_in (union m c) ≤ 64) × (nodes_in (union m c) ≤ 4096)))
refused_exactly m c = (refused_entries m c, refused_nodes m c, accepted_within m c)

-- A refused contribution leaves the manifest as it was.
pub refused_leaves : (m c : List Row) (number place : ℕ) → add m c ≡ refused number place → after m (add m c) ≡ m
refused_leaves = refusal_leaves
