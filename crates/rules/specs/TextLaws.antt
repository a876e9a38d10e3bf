-- The words of proofs/TextLaws.antt.
use Rattle.std.specs.Prelude.{ℕ, ◌≢◌, ◌≡◌}
use mathlib.Core.List.{List, [], ◌∷◌, ◌++◌}
use Rattle.rules.specs.Text.{parted}

-- a run with no byte b
pub data Free (b : ℕ) : List ℕ → Type 0 where
  free_empty : Free b []
  free_more : {x : ℕ} {xs : List ℕ} → x ≢ b → Free b xs → Free b (x ∷ xs)

-- parts with a b between each two
unfoldable pub joined_by : ℕ → List (List ℕ) → List ℕ
joined_by b [] = []
joined_by b (part ∷ []) = part
joined_by b (part ∷ next ∷ parts) = part ++ b ∷ joined_by b (next ∷ parts)

-- one run or more with no byte b
pub data AllFree (b : ℕ) : List (List ℕ) → Type 0 where
  one_free : {part : List ℕ} → Free b part → AllFree b (part ∷ [])
  more_free : {part next : List ℕ} {parts : List (List ℕ)} → Free b part → AllFree b (next ∷ parts) → AllFree b (part ∷ next ∷ parts)

-- the parts that stand behind a first one: it is ended by a b, and they are the parts of what comes after that
abbrev pub Split : ℕ → List ℕ → List ℕ → List (List ℕ) → Type 0
Split b xs part others = (rest : List ℕ) × (xs ≡ part ++ b ∷ rest) × (parted b rest ≡ others)
