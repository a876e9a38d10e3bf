-- The words of proofs/ListingLaws.antt.
use Rattle.std.specs.Prelude.{ℕ, ◌+◌, ◌≤◌, ◌<◌, ◌≡◌, ◌≢◌, true, false}
use mathlib.Core.List.{List, [], ◌∷◌, map}
use Rattle.rules.specs.Numbers.{most_steps}
use Rattle.rules.specs.Tries.{Row, Form, is_row, is_entry, entries_in, nodes_in}
use Rattle.rules.specs.Listing.{fields_for, listing, Sofar, past}
use Rattle.rules.specs.TrieLaws.{Follows, Ordered, bare}

-- fields are those that are written for a row, which is a row by itself and has no type
abbrev pub Written : List (List ℕ) → Row → Type 0
Written fields row = (fields_for row ≡ fields) × (is_row row ≡ true) × (bare row ≡ row)

-- a row may come after others
pub record Allowed (form : Form) (sofar : Sofar) (row : Row) : Type 0 where
  pub once : form.single ≡ true → is_entry row ≡ true → sofar.entries ≡ 0
  pub placed : Follows sofar.place row
  pub shallow : row.depth ≤ most_steps
  pub entry_room : is_entry row ≡ true → sofar.entries < form.entries
  pub node_room : is_entry row ≡ false → sofar.nodes < form.nodes

-- rows may come one after the other
unfoldable pub AllAllowed : Form → Sofar → List Row → Type 0
AllAllowed form sofar [] = Unit
AllAllowed form sofar (row ∷ rows) = (is_row row ≡ true) × Allowed form sofar row × AllAllowed form (past sofar row) rows

-- numbers of entries and nodes are within a form's limits
pub record Within (form : Form) (entries nodes : ℕ) : Type 0 where
  pub single_entry : form.single ≡ true → entries ≤ 1
  pub few_entries : entries ≤ form.entries
  pub few_nodes : nodes ≤ form.nodes

-- those of a run and of the rows after it
abbrev pub WithinAll : Form → Sofar → List Row → Type 0
WithinAll form sofar rows = Within form (sofar.entries + entries_in rows) (sofar.nodes + nodes_in rows)

-- rows that are read from a text: they are written as the text, may come one after the other, and have no types
pub record ReadFrom (form : Form) (sofar : Sofar) (text : List ℕ) (rows : List Row) : Type 0 where
  pub written : listing rows ≡ text
  pub allowed : AllAllowed form sofar rows
  pub untyped : map bare rows ≡ rows

-- what a lawful run is: in listing order, within the limits, and not empty where it has a single entry
pub record Lawful (form : Form) (rows : List Row) : Type 0 where
  pub order : Ordered [] rows
  pub within : Within form (entries_in rows) (nodes_in rows)
  pub some_row : form.single ≡ true → rows ≢ []
