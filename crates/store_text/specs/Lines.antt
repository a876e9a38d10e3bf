-- What a line of a store is read as, for the contracts of `line`.
use Rattle.std.specs.Prelude.{List, ℕ, Option as Maybe, Some, None}
use Rattle.store_text.specs.declared.line.StoreLine.{StoreLine as LineRead}
use Rattle.store_text.specs.declared.line.StoreLine.TheVariants.{Entity, Parent, Ancestor, Attribute}
use Rattle.std.proofs.Math.Option.{Option, none, some}
use Rattle.rules.specs.Listing.{◌>>=◌}
use Rattle.rules.specs.ValueTexts.{StoreLine, entity_line, parent_line, ancestor_line, attribute_line, value_row_of}
use Rattle.values.specs.ValueWords.{value_row_in}

-- what a line was read as
abbrev pub line_said : LineRead → StoreLine
line_said (Entity id) = entity_line id
line_said (Parent id) = parent_line id
line_said (Ancestor id) = ancestor_line id
line_said (Attribute row) = attribute_line (value_row_in row.word)

abbrev pub line_read : Maybe LineRead → Option StoreLine
line_read (Some line) = some (line_said line)
line_read None = none

-- a line of a value in a store
abbrev pub row_line : List (List ℕ) → Option StoreLine
row_line fields = value_row_of fields >>= (λ x. some (attribute_line x))
