-- What a line that was read means (document 01, 'Listing').
use Rattle.std.specs.Prelude.{ℕ, ◌+◌, ◌^◌, ◌<◌, true, false, cond, List, [], ◌∷◌, ◌++◌, ◌≡◌, eqb, length, drop, Option as Maybe, Some, None}
use Rattle.std.proofs.Math.Option.{Option, none, some}
use Rattle.rules.specs.Text.{lines_of, fields_of}
use Rattle.rules.specs.Tries.{Row, step_of, is_entry}
use Rattle.rules.specs.Listing.{read, of_form, row_of, letters, place_in, line_of, fields_for, ◌>>=◌}
use Rattle.listing_lines.specs.declared.line.ParsedRow.{ParsedRow}

-- the row that a line is read as, if any, and the place of the line's LF
abbrev pub row_read : Maybe ParsedRow → Option (Row × ℕ)
row_read (Some row) = some (read row.depth row.step row.marked, row.end)
row_read None = none

-- a row that was read, if any, with the place of its line's LF
abbrev pub ended_at : ℕ → Option Row → Option (Row × ℕ)
ended_at end none = none
ended_at end (some row) = some (row, end)

-- of the lines of what is left from a place on, the row of the first behind some fields of it, where an LF ends it
abbrev pub row_from : List (List ℕ) → ℕ → List (List ℕ) → Option (Row × ℕ)
row_from fields at [] = none
row_from fields at (line ∷ []) = none
row_from fields at (line ∷ next ∷ more) = ended_at (at + length line) (row_of (fields ++ fields_of line))

-- the row of the line that begins at a place of a text
abbrev pub row_at : List ℕ → ℕ → Option (Row × ℕ)
row_at text at = row_from [] at (lines_of (drop at text))

-- the row of a node's four numbers, if it is of its form
abbrev pub node_row : ℕ → ℕ → ℕ → ℕ → Option Row
node_row depth kind id mark =
    cond (eqb mark 0) (some false) (cond (eqb mark 1) (some true) none)
    >>= (λ m. cond (eqb depth 0) none (of_form (read depth (step_of kind id) m)))

-- a row fits its word: an entry's request type has 48 bits and no mark, a node's step 19
abbrev pub RowFits : Row → Type 0
RowFits row = (row.step < cond (is_entry row) (2 ^ 48) (2 ^ 19)) × (row.depth ≡ 0 → row.mark ≡ false)

-- of the fields of what is left from a place on, the kind of the first, where another follows
abbrev pub kind_in : List (List ℕ) → Option ℕ
kind_in [] = none
kind_in (field ∷ []) = none
kind_in (field ∷ next ∷ more) = place_in letters field

-- the line of a row
abbrev pub line_for : Row → List ℕ
line_for row = line_of (fields_for row)
