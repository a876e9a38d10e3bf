-- What each answer of `text` means, by the definitions of document 01's texts (`rules`, Text).
use Rattle.std.specs.Prelude.{ℕ, ◌+◌, ◌-◌, cond, List, [], ◌∷◌, eqb, ◌≡◌, length, take, drop}
use Rattle.std.proofs.Math.Option.{Option, none, some}
use Rattle.rules.specs.Text.{parted, lines_of, fields_of, number_from, decimal_of}
use Rattle.rules.specs.Steps.{reversed}
use Rattle.text.specs.Before.{before}
use Rattle.text.specs.declared.Line.{Line}
use Rattle.text.specs.declared.Line.TheVariants.{End, Whole, Cut}
use Rattle.std.specs.Prelude.{Option as Maybe, Some, None}

-- of the lines of what is left from a place on, the first: none, one that an LF ends at a place, or a last one without LF
abbrev pub first_line : ℕ → List (List ℕ) → Line
first_line at [] = End
first_line at (line ∷ []) = cond (eqb (length line) 0) End Cut
first_line at (line ∷ next ∷ more) = Whole (at + length line)

-- the line that begins at a place of a text
abbrev pub line_at : List ℕ → ℕ → Line
line_at text at = first_line at (lines_of (drop at text))

-- of the fields of what is left from a place on, the first: one that a tab ends at a place, or the last
abbrev pub first_field : ℕ → List (List ℕ) → Maybe ℕ
first_field at [] = None
first_field at (field ∷ []) = None
first_field at (field ∷ next ∷ more) = Some (at + length field)

-- the field that begins at a place of a line
abbrev pub field_at : List ℕ → ℕ → Maybe ℕ
field_at line at = first_field at (fields_of (drop at line))

-- the number that was read, if any
abbrev pub number_of : Maybe ℕ → Option ℕ
number_of (Some n) = some n
number_of None = none

-- a number that was read, if any, with the place where it ends
abbrev pub ending : ℕ → Option ℕ → Maybe (ℕ × ℕ)
ending end none = None
ending end (some n) = Some (n, end)

-- the number that the bytes from a place to the next byte b, or to the end, write after n, and the place where they end
abbrev pub number_to : ℕ → List ℕ → ℕ → ℕ → Maybe (ℕ × ℕ)
number_to b s n at = ending (at + length (before b (drop at s))) (number_from 65535 n (before b (drop at s)))

-- of the parts of what is left from a place on, the first by a way to read it, where another follows
abbrev pub first_number : (List ℕ → Option ℕ) → ℕ → List (List ℕ) → Maybe (ℕ × ℕ)
first_number reads at [] = None
first_number reads at (part ∷ []) = None
first_number reads at (part ∷ next ∷ more) = ending (at + length part) (reads part)

-- the decimal that begins at a place and that a byte b ends
abbrev pub number_at : ℕ → List ℕ → ℕ → Maybe (ℕ × ℕ)
number_at b s at = first_number decimal_of at (parted b (drop at s))

-- how many names there are, if they are names
abbrev pub names_counted : Option (List ℕ) → Maybe ℕ
names_counted none = None
names_counted (some names) = Some (length names)

-- the names for which a buffer has room stand at its end, the last in front of the others
abbrev pub NamesKept : Option (List ℕ) → List ℕ → Type 0
NamesKept none buffer = Unit
NamesKept (some names) buffer = drop (length buffer - length names) buffer ≡ reversed (take (length buffer) names)

pub record NamesRead (names : Option (List ℕ)) (r : Maybe ℕ) (buffer : List ℕ) : Type 0 where
  pub answer : r ≡ names_counted names
  pub kept : NamesKept names buffer
