-- The words of proofs/WalkLaws.antt.
use Rattle.std.specs.Prelude.{ℕ, suc, ◌+◌, ◌≤◌, ◌<◌, ◌≡◌, Bool, true, false, cond, ◌&&◌, leb, drop, replicate}
use mathlib.Core.List.{List, [], ◌∷◌, ◌++◌, map}
use Rattle.std.proofs.Math.Option.{Option, none, some}
use Rattle.std.proofs.Math.ListN.{length}
use Rattle.rules.specs.Numbers.{Answer, accepted, refused, answer_by, most_steps}
use Rattle.rules.specs.Tries.{Row, Form, is_row, follows}
use Rattle.rules.specs.Listing.{Sofar, past, refusal}
use Rattle.rules.specs.Walks.{Walked, walked, Rule, walk}

-- all rows are deeper than d
unfoldable pub Deeper : ℕ → List Row → Type 0
Deeper d [] = Unit
Deeper d (row ∷ rows) = (d < row.depth) × Deeper d rows

-- what is kept where a row said that all below it is passed over: something for each depth above that row, and nothing from there on
abbrev pub down_to : {K : Type 0} → List K → ℕ → List (Option K)
down_to s n = map some s ++ replicate n none

-- What is kept where each row is at most one deeper than the one before: something for each depth, or nothing from the depth of a row
-- on that said so. Q is what is known of rows that say so.
pub data Told {K : Type 0} (Q : Row → Type 0) : List (Option K) → Type 0 where
  all : (s : List K) → Told Q (map some s)
  from : (s : List K) (n : ℕ) (row : Row) → Q row → row.depth ≡ length s → Told Q (down_to s (suc n))

-- each row is at most one deeper than the one before
unfoldable pub Stepwise : ℕ → List Row → Type 0
Stepwise len [] = Unit
Stepwise len (row ∷ rows) = (row.depth ≤ len) × Stepwise (row.depth + 1) rows

-- so many rows came to what is kept and a state: the others go on from there
pub record WentTo {K S : Type 0} (rule : Rule K S) (start : Walked K S) (rows : List Row) (i : ℕ) (w : Walked K S) : Type 0 where
  pub inside : i ≤ length rows
  pub left : walk rule 0 rows start ≡ walk rule i (drop i rows) w

-- all that is kept
abbrev pub all_in : {K : Type 0} → List (Option K) → List K
all_in [] = []
all_in (none ∷ kept) = all_in kept
all_in (some k ∷ kept) = k ∷ all_in kept

-- a row keeps its step where it may come
abbrev pub orderly : Rule ℕ Unit
orderly place row rows w =
    cond (is_row row && (follows (all_in w.kept) row && leb row.depth most_steps)) (accepted (some row.step, tt)) (refused 1 place)

abbrev pub is_accepted : {A : Type 0} → Answer A → Bool
is_accepted (accepted a) = true
is_accepted (refused number place) = false

-- a loop that judges the order: it has come to the place s
abbrev pub OrderlyTo : List Row → ℕ → List ℕ → Type 0
OrderlyTo rows i s = WentTo orderly (walked [] tt) rows i (walked (map some s) tt)

-- where a walk has come to that keeps steps and counts entries and nodes, and where reading has
abbrev pub walked_to : Sofar → Walked ℕ (ℕ × ℕ)
walked_to sofar = walked (map some sofar.place) (sofar.entries, sofar.nodes)

abbrev pub sofar_of : Walked ℕ (ℕ × ℕ) → Sofar
sofar_of w = record { place = all_in w.kept; entries = w.state.0; nodes = w.state.1 }

abbrev pub listed : Form → Rule ℕ (ℕ × ℕ)
listed form place row rows w =
    let next : Sofar = past (sofar_of w) row in
    answer_by place (some row.step, (next.entries, next.nodes)) (refusal form (sofar_of w) row)
