-- The words of proofs/LineLaws.antt.
use Rattle.std.specs.Prelude.{ℕ, cond}
use mathlib.Core.List.{List, [], ◌∷◌, ◌++◌}
use Rattle.std.proofs.Math.Option.{Option, none, some}
use Rattle.rules.specs.Numbers.{Answer, accepted, refused, and_then, answer_by}
use Rattle.rules.specs.Text.{fields_of}
use Rattle.rules.specs.Lines.{Folded}
use Rattle.rules.specs.Tries.{Row, Form}
use Rattle.rules.specs.Walks.{Walked, turn}
use Rattle.rules.specs.WalkLaws.{listed}
use Rattle.rules.specs.Listing.{Sofar, row_of, past, refusal}
use Rattle.rules.specs.Schema.{Item, Known, item_of, fits, beyond}

-- a line's thing goes behind those of the lines row_in_front it
abbrev pub gathering : {S A : Type 0} → (ℕ → List ℕ → S → Answer (A × S)) → ℕ → List ℕ → S × List A → Answer (S × List A)
gathering look place line (s, things) = and_then (look place line s) (λ got. accepted (got.1, things ++ (got.0 ∷ [])))

abbrev pub gathered : {S A : Type 0} → Answer (Folded (S × List A)) → Answer (List A)
gathered answer = and_then answer (λ all. accepted all.state.1)

-- things in front of what an answer gives
abbrev pub behind : {A : Type 0} → List A → Answer (List A) → Answer (List A)
behind things answer = and_then answer (λ more. accepted (things ++ more))

-- a row after others, if a line is one
abbrev pub row_after : Form → ℕ → Sofar → Option Row → Answer (Row × Sofar)
row_after form place sofar none = refused 1 place
row_after form place sofar (some row) = answer_by place (row, past sofar row) (refusal form sofar row)

abbrev pub row_line : Form → ℕ → List ℕ → Sofar → Answer (Row × Sofar)
row_line form place line sofar = row_after form place sofar (row_of (fields_of line))

-- a row's turn in the walk that keeps steps and counts, if a line is one
abbrev pub turn_after : Form → ℕ → Walked ℕ (ℕ × ℕ) → Option Row → Answer (Row × Walked ℕ (ℕ × ℕ))
turn_after form place w none = refused 1 place
turn_after form place w (some row) = and_then (turn (listed form) place row [] w) (λ after. accepted (row, after))

abbrev pub turn_line : Form → ℕ → List ℕ → Walked ℕ (ℕ × ℕ) → Answer (Row × Walked ℕ (ℕ × ℕ))
turn_line form place line w = turn_after form place w (row_of (fields_of line))

abbrev pub item_after : ℕ → Known → Option Item → Answer (Item × Known)
item_after place known none = refused 1 place
item_after place known (some it) = cond (fits known it) (accepted (it, beyond known it)) (refused 1 place)

abbrev pub item_line : ℕ → List ℕ → Known → Answer (Item × Known)
item_line place line known = item_after place known (item_of (fields_of line))
