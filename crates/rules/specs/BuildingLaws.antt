-- The words of proofs/BuildingLaws.antt.
use Rattle.std.specs.Prelude.{ℕ, ◌≤◌, ◌<◌, ◌≡◌, ◌⊎◌, ◌↔◌, true}
use mathlib.Core.List.{List, [], Memᴰ as Member}
use Rattle.rules.specs.Numbers.{Answer, accepted, refused}
use Rattle.rules.specs.Tries.{Row, Has, ordered, entries_in, nodes_in, union}

-- rows are within a manifest's limits
abbrev pub Fits : List Row → Type 0
Fits rows = (entries_in rows ≤ 64) × (nodes_in rows ≤ 4096)

-- an answer, and its cause in the counts of the rows that are judged
pub data Judged (rows : List Row) : Answer (List Row) → Type 0 where
  many_entries : 64 < entries_in rows → Judged rows (refused 5 0)
  many_nodes : (entries_in rows ≤ 64) × (4096 < nodes_in rows) → Judged rows (refused 4 0)
  within : Fits rows → Judged rows (accepted rows)

-- one of some runs has P
abbrev pub Some : (List Row → Type 0) → List (List Row) → Type 0
Some P cs = (c : List Row) × Member c cs × P c

-- What having a place and marking a place share: the empty run has it not, and a union has it exactly if one of the two has it.
pub record Shared (P : List Row → Type 0) : Type 0 where
  pub not_empty : P [] → ⊥
  pub of_union : (a b : List Row) → ordered [] a ≡ true → ordered [] b ≡ true → P (union a b) ↔ (P a ⊎ P b)

-- rows in listing order all of whose places m has
pub record Inside (m rows : List Row) : Type 0 where
  pub order : ordered [] rows ≡ true
  pub subset : (place : List ℕ) → Has [] rows place → Has [] m place
