-- The words of proofs/PlaceLaws.antt.
use Rattle.std.specs.Prelude.{ℕ, ◌<◌, ◌≡◌, Bool, List, get_or}
use Rattle.std.proofs.Math.Option.{Option}
use Rattle.std.proofs.Math.ListN.{length, take}
use Rattle.rules.specs.Tries.{Row, found}
use Rattle.rules.specs.TrieLaws.{Ordered}

-- s and place have their first n steps in common, and part there if both go on
pub record Common (s place : List ℕ) (n : ℕ) : Type 0 where
  pub alike : take n s ≡ take n place
  pub parted : n < length s → n < length place → get_or s n 0 ≡ get_or place n 0 → ⊥

-- What is left of rows has the answer, and their last place has n steps in common with the place that is sought.
pub record Sought (answer : Option Bool) (rows : List Row) (place : List ℕ) (n : ℕ) : Type 0 where
  pub last : List ℕ
  pub order : Ordered last rows
  pub common : Common last place n
  pub left : answer ≡ found last rows place
