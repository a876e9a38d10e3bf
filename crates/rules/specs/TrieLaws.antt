-- The words of proofs/TrieLaws.antt.
use Rattle.std.specs.Prelude.{ℕ, ◌+◌, ◌≤◌, ◌<◌, ◌≡◌, ◌⊎◌, ◌↔◌, Bool, true, not, length, get_or}
use mathlib.Core.List.{List, [], ◌∷◌}
use Rattle.std.proofs.Math.Option.{none}
use Rattle.rules.specs.Numbers.{most_steps}
use Rattle.rules.specs.Tries.{Row, is_entry, is_row, at, Next, first, second, same, joined}

-- a row may come after the place s
pub record Follows (s : List ℕ) (row : Row) : Type 0 where
  pub near : row.depth ≤ length s
  pub past : row.depth < length s → get_or s row.depth 0 < row.step

-- rows in listing order after the place s
unfoldable pub Ordered : List ℕ → List Row → Type 0
Ordered s [] = Unit
Ordered s (row ∷ rows) = (is_row row ≡ true) × Follows s row × (row.depth ≤ most_steps) × Ordered (at s row) rows

-- x comes before y: it is deeper, or as deep with a smaller step
pub data Before (x y : Row) : Type 0 where
  deeper : y.depth < x.depth → Before x y
  smaller : x.depth ≡ y.depth → x.step < y.step → Before x y

-- after one place, x and y have one place
pub record SamePlace (x y : Row) : Type 0 where
  pub depths : x.depth ≡ y.depth
  pub steps : x.step ≡ y.step

-- what each answer of `next` says of two rows
abbrev pub Says : Row → Row → Next → Type 0
Says x y first = Before x y
Says x y second = Before y x
Says x y same = SamePlace x y

-- the turns by which rows c come from rows a and b
pub data Turns : List Row → List Row → List Row → Type 0 where
  no_left : {b : List Row} → Turns [] b b
  no_right : {a : List Row} → Turns a [] a
  left : {x y : Row} {a b c : List Row} → Before x y → Turns a (y ∷ b) c → Turns (x ∷ a) (y ∷ b) (x ∷ c)
  right : {x y : Row} {a b c : List Row} → Before y x → Turns (x ∷ a) b c → Turns (x ∷ a) (y ∷ b) (y ∷ c)
  both : {x y : Row} {a b c : List Row} → SamePlace x y → Turns a b c → Turns (x ∷ a) (y ∷ b) (joined x y ∷ c)

-- of the rows after s, one that passes a test stands at a place
unfoldable pub Stands : (Row → Bool) → List ℕ → List Row → List ℕ → Type 0
Stands test s [] place = ⊥
Stands test s (row ∷ rows) place = ((place ≡ at s row) × (test row ≡ true)) ⊎ Stands test (at s row) rows place

abbrev pub always : Row → Bool
always row = true

-- two runs, of rows a after s and of rows b after t, have rows that pass a test at the same places
abbrev pub Alike : (Row → Bool) → List ℕ → List Row → List ℕ → List Row → Type 0
Alike test s a t b = (place : List ℕ) → Stands test s a place ↔ Stands test t b place

-- what the places of a run, and those where a row passes a test, tell of a row
abbrev pub seen : (Row → Bool) → Row → Row
seen test row = record { depth = row.depth; step = row.step; mark = test row; type = none }

-- a row without its type
abbrev pub bare : Row → Row
bare = seen (λ row. row.mark)

-- a row without its type and its mark: only its depth and step are kept
abbrev pub spot : Row → Row
spot = seen always

-- a test that looks only at a row's depth and step
abbrev pub Local : (Row → Bool) → Type 0
Local test = (x y : Row) → x.depth ≡ y.depth → x.step ≡ y.step → test x ≡ test y

-- a number k is at least m, at least n, and at most their sum
pub record Bounds (m n k : ℕ) : Type 0 where
  pub left_bound : m ≤ k
  pub right_bound : n ≤ k
  pub sum_bound : k ≤ m + n

abbrev pub is_node : Row → Bool
is_node row = not (is_entry row)
