-- What a line of a name table is read as, for the contracts of `line`.
use Rattle.std.specs.Prelude.{ℕ, ◌+◌, ◌-◌, ◌≤◌, ◌<◌, List, ◌≡◌, length, Option as Maybe, Some, None}
use Rattle.std.proofs.Math.Option.{none, some}
use Rattle.rules.specs.Text.{fields_of}
use Rattle.rules.specs.Names.{named, named_of}

-- a line that names: wherever it stands, its name begins at the same place of it
pub record NameParsed (line : List ℕ) (key start : ℕ) : Type 0 where
  pub small : key < 196608
  pub long : 5 ≤ length line
  pub inside : start < length line
  pub said : (at : ℕ) → named_of (at + length line) (fields_of line) ≡ some (named key (at + start) (length line - start))

abbrev pub LineParsed : List ℕ → Maybe (ℕ × ℕ) → Type 0
LineParsed line (Some (key, start)) = NameParsed line key start
LineParsed line None = (end : ℕ) → named_of end (fields_of line) ≡ none
