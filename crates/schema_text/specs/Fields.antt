-- What the fields of a schema's line are read as, for the contracts of `line`.
use Rattle.std.specs.Prelude.{ℕ, ◌≤◌, ◌≡◌, List, [], ◌∷◌, length, take, drop, Option as Maybe, Some, None}
use Rattle.std.proofs.Math.Option.{Option, none, some}
use Rattle.rules.specs.Text.{fields_of}
use Rattle.rules.specs.Listing.{◌>>=◌}
use Rattle.rules.specs.Schema.{Item, ascending, names_of, type_of}
use Rattle.schema.specs.Items.{item_for}
use Rattle.schema.specs.declared.item.Item.{Item as ItemRead}

-- what a line was read as
abbrev pub item_read : Maybe ItemRead → Option Item
item_read (Some it) = some (item_for it)
item_read None = none

-- what the names of an entity type give
abbrev pub named_by : List (List ℕ) → Option ℕ
named_by fields = ascending 0 fields >>= names_of

-- the fields of what stands behind a kind: none, or those behind a tab
abbrev pub fields_after_kind : List ℕ → List (List ℕ)
fields_after_kind [] = []
fields_after_kind (tab ∷ more) = fields_of more

-- where a kind ends, at the front of what a line has from it on
abbrev pub KindEnds : List ℕ → ℕ → Type 0
KindEnds rest end = (end ≤ length rest) × (fields_of rest ≡ take end rest ∷ fields_after_kind (drop end rest))

-- a type, by its number and the fields from its kind on
abbrev pub type_by_fields : List ℕ → List (List ℕ) → Option Item
type_by_fields number [] = none
type_by_fields number (kind ∷ more) = type_of number kind more
