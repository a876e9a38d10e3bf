-- Document 01, 'Listing': 'each line ended by LF', read 'by line'. Listings, schemas and step texts are read so: line after line, each
-- by what the lines before it came to, and the first refusal is given with its line.
use Rattle.std.specs.Prelude.{ℕ, ◌+◌, cond, List, [], ◌∷◌, eqb, length}
use Rattle.rules.specs.Numbers.{Answer, accepted, refused, and_then}
use Rattle.rules.specs.Text.{lines_of}

-- What lines come to: how many there are, and the state after them.
pub record Folded (S : Type 0) : Type 0 where
  pub lines : ℕ
  pub state : S

abbrev pub folded : {S : Type 0} → ℕ → S → Folded S
folded lines s = record { lines = lines; state = s }

-- The lines from one on, by what a line at a place makes of a state. What stands last is no line where it is empty, and otherwise
-- a line without LF.
unfoldable pub fold_lines : {S : Type 0} → (ℕ → List ℕ → S → Answer S) → ℕ → List (List ℕ) → S → Answer (Folded S)
fold_lines step place [] s = accepted (folded place s)
fold_lines step place (line ∷ []) s = cond (eqb (length line) 0) (accepted (folded place s)) (refused 1 place)
fold_lines step place (line ∷ next ∷ lines) s = and_then (step place line s) (λ after. fold_lines step (place + 1) (next ∷ lines) after)

abbrev pub fold_text : {S : Type 0} → (ℕ → List ℕ → S → Answer S) → List ℕ → S → Answer (Folded S)
fold_text step text s = fold_lines step 0 (lines_of text) s
