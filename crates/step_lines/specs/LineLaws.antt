-- Laws of a line of a step text as a step (Lines): its word, and the names of a record. No contract cites this file.
use Rattle.std.specs.Prelude.{ℕ, ◌-◌, ◌≤◌, ◌≡◌, refl, Bool, true, false, List, [], ◌∷◌, length, take, drop}
use Rattle.std.proofs.Math.Nat.{sub-zero}
use Rattle.std.proofs.Common.{arith, sym, ◌∙◌, drop_of_length-le}
use Rattle.std.proofs.Math.Option.{none}
use Rattle.std.proofs.Math.Seq.{take-length}
use Rattle.std.specs.Str.{bytes_eq}
use Rattle.rules.specs.Text.{bytes, fields_of, TAB}
use Rattle.rules.proofs.TextLaws.{parted_some}
use Rattle.rules.specs.Tries.{same_list}
use Rattle.rules.proofs.PlaceLaws.{same-list}
use Rattle.rules.specs.Steps.{is_text, rec_of, bare_step, step_from}

-- ---- the word of a line

-- whether a field is a word, as slices are compared
pub same_bytes : (xs ys : List ℕ) → same_list xs ys ≡ bytes_eq xs ys
unfolding same_list
same_bytes [] [] = refl
same_bytes [] (y ∷ ys) = refl
same_bytes (x ∷ xs) [] = refl
same_bytes (x ∷ xs) (y ∷ ys) = rw (same_bytes xs ys)

-- what that says where the word is a constant
pub text_same : (given : List ℕ) {r : Bool} {lent word : List ℕ} → r ≡ bytes_eq given lent → lent ≡ word → is_text word given ≡ r
text_same given {word} tested is = same_bytes given word ∙ rw (← is) (sym tested)

-- no name is kept behind all of them
pub no_name : (names : List ℕ) → length names ≡ 32 → drop 32 names ≡ []
no_name names h = let end : length names ≤ 32 = omega arith in drop_of_length-le names end

-- a line of one field
pub one_field : (line : List ℕ) → fields_of line ≡ take (length line - 0) line ∷ [] → step_from (fields_of line) ≡ bare_step line
unfolding step_from
one_field line e = rw (e, sub-zero, take-length line)

-- a line of `rec` and names
pub rec_fields : (word line : List ℕ) (at : ℕ) → is_text (bytes "rec") word ≡ true → step_from (word ∷ fields_of (drop at line)) ≡ rec_of (fields_of (drop at line))
unfolding step_from same_list
rec_fields word line at e =
    let (first, others, some-field) = parted_some TAB (drop at line) in
    rw (some-field, (same-list word (bytes "rec")).0 e) (go first others)
  where
    go : (first : List ℕ) (others : List (List ℕ)) → step_from (bytes "rec" ∷ first ∷ others) ≡ rec_of (first ∷ others)
    go first [] = refl
    go first (next ∷ others) = refl

-- a line of three fields or more that is not `rec`
pub many_fields : (word second line : List ℕ) (at : ℕ) → is_text (bytes "rec") word ≡ false → step_from (word ∷ second ∷ fields_of (drop at line)) ≡ none
unfolding step_from
many_fields word second line at e =
    let (first, others, some-field) = parted_some TAB (drop at line) in
    rw (some-field, e)
