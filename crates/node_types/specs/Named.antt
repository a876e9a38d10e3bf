-- The lines of a schema that name entity types, literals and actions, found by a search.
use Rattle.std.specs.Prelude.{ℕ, ◌-◌, ◌%◌, ◌^◌, ◌≤◌, ◌<◌, ◌≡◌, List, [], length, take, drop, get_or}
use Rattle.rules.specs.Schema.{entity_line, literal_line, context_line}
use Rattle.rules.specs.Typing.{from_line, type_named}
use Rattle.schema.specs.Items.{items_of}
use Rattle.type_table.specs.Tables.{value_named}
use Rattle.words.specs.Keys.{searched}
use Rattle.std.specs.Prelude.{Ok, Err}
use Rattle.node_types.specs.declared.places.Places.{Places}

-- the words between two places
abbrev pub between : List ℕ → ℕ → ℕ → List ℕ
between words first end = take (end - first) (drop first words)

-- the place of an entity type's line, in a keyed word of the table
abbrev pub entity_place : ℕ → ℕ
entity_place w = w % 2 ^ 40

-- the table of all entity types of a schema: what a search for a name in it says of the schema's lines
pub record EntityTable (words entities : List ℕ) : Type 0 where
  pub found :
      (name i : ℕ)
      → searched entities name ≡ Ok i
      → (i < length entities)
      × (entity_place (get_or entities i 0) < length words)
      × (from_line entity_line name (items_of words) ≡ items_of (drop (entity_place (get_or entities i 0)) words))
  pub missing : (name i : ℕ) → searched entities name ≡ Err i → from_line entity_line name (items_of words) ≡ []

-- the literals stand from one place to another, and from there on the actions
pub record PlacesFound (words : List ℕ) (places : Places) : Type 0 where
  pub in_order : places.literals ≤ places.actions
  pub inside : places.actions ≤ length words
  pub literals_named :
      (key : ℕ) → value_named (between words places.literals places.actions) key ≡ type_named literal_line key (items_of words)
  pub actions_named : (key : ℕ) → value_named (drop places.actions words) key ≡ type_named context_line key (items_of words)
