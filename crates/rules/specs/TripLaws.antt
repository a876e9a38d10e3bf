-- The words of proofs/TripLaws.antt.
use Prim.Native.Nat.{ℕ, ◌+◌, ◌≤◌, ◌<◌}
use Rattle.std.proofs.Math.Path.{◌≡◌}
use Rattle.std.specs.Prelude.{◌⊎◌}
use mathlib.Core.List.{List, [], ◌∷◌}
use Rattle.std.proofs.Math.ListN.{drop}
use Rattle.rules.specs.Tries.{Row}
use Rattle.rules.specs.TrieLaws.{Ordered}
use Rattle.rules.specs.Trips.{place_at, past_subtree}

-- some of a list, in its order
pub data Sub {A : Type 0} : List A → List A → Type 0 where
  none_of : Sub [] []
  keep : {x : A} {xs ys : List A} → Sub xs ys → Sub (x ∷ xs) (x ∷ ys)
  skip : {y : A} {xs ys : List A} → Sub xs ys → Sub xs (y ∷ ys)

pub record Rest (s₀ : List ℕ) (nodes : List Row) (node : ℕ) (s : List ℕ) (rows : List Row) : Type 0 where
  pub rest : drop node nodes ≡ rows
  pub order : Ordered s rows
  pub places : (k : ℕ) → place_at s₀ nodes (node + k) ≡ place_at s rows k

-- each number below the count has its row
pub record Here (s₀ : List ℕ) (nodes : List Row) (node : ℕ) : Type 0 where
  pub s : List ℕ
  pub row : Row
  pub rows : List Row
  pub stands : Rest s₀ nodes node s (row ∷ rows)

-- a node found from another: in its subtree, and with what else is known
pub record Inner (nodes : List Row) (E : ℕ → ℕ → Type 0) (w v : ℕ) : Type 0 where
  pub after_it : w < v
  pub within_it : past_subtree nodes v ≤ past_subtree nodes w
  pub extra : E w v

-- no node lies in the subtree of a later one
abbrev pub Off : List Row → ℕ → ℕ → Type 0
Off nodes u v = (u < v) ⊎ (past_subtree nodes v ≤ u)

abbrev pub Any : ℕ → ℕ → Type 0
Any w v = Unit
