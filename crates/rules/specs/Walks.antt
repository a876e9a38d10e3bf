-- Document 01, 'Listing': 'nodes in preorder'. A walk goes over rows in that order with something kept for each depth down to the row,
-- as a step, a type or a value. All below a row that keeps nothing is passed over.
use Rattle.std.specs.Prelude.{ℕ, ◌+◌, Bool, true, false, cond, List, [], ◌∷◌, take}
use Rattle.std.proofs.Math.Option.{Option, none, some}
use Rattle.rules.specs.Numbers.{Answer, accepted, and_then}
use Rattle.rules.specs.Tries.{Row, kept_with}

-- Where a walk has come to: what is kept for each depth down to the last row, and a state.
pub record Walked (K S : Type 0) : Type 0 where
  pub kept : List (Option K)
  pub state : S

abbrev pub walked : {K S : Type 0} → List (Option K) → S → Walked K S
walked kept s = record { kept = kept; state = s }

-- What a walk does at a row, by its place among the rows and the rows behind it: what the row keeps, if anything, and the state
-- after it, or a refusal.
abbrev pub Rule : Type 0 → Type 0 → Type 0
Rule K S = ℕ → Row → List Row → Walked K S → Answer (Option K × S)

-- whether the last of what is kept above a row is nothing
abbrev pub passes_over : {K : Type 0} → List (Option K) → Bool
passes_over [] = false
passes_over (none ∷ []) = true
passes_over (some k ∷ []) = false
passes_over (k ∷ next ∷ above) = passes_over (next ∷ above)

-- one row: it is looked at, or passed over
abbrev pub turn : {K S : Type 0} → Rule K S → ℕ → Row → List Row → Walked K S → Answer (Walked K S)
turn rule place row rows w =
    cond (passes_over (take row.depth w.kept)) (accepted (walked (kept_with w.kept row none) w.state))
    (and_then (rule place row rows w) (λ said. accepted (walked (kept_with w.kept row said.0) said.1)))

-- the rows from one on
unfoldable pub walk : {K S : Type 0} → Rule K S → ℕ → List Row → Walked K S → Answer (Walked K S)
walk rule place [] w = accepted w
walk rule place (row ∷ rows) w = and_then (turn rule place row rows w) (λ after. walk rule (place + 1) rows after)
