-- The table of types: where each stands, and the depth and the nodes of its trie, both stopping one past their limit.
use Rattle.std.specs.Prelude.{ℕ, suc, ◌+◌, ◌*◌, ◌/◌, ◌%◌, ◌<◌, ◌≡◌, Bool, true, false, cond, List, ltb, eqb, length, drop, get_or}
use Rattle.std.proofs.Math.Option.{Option, none, some}
use Rattle.rules.specs.Tries.{Row}
use Rattle.rules.specs.Schema.{from_type, attribute_line}
use Rattle.rules.specs.Paths.{type_below}
use Rattle.rules.proofs.TypeLaws.{types_in, deepest}
use Rattle.rules.specs.Facts.{capped}
use Rattle.schema.specs.Items.{item_in, items_of, good_items}
use Rattle.words.specs.Keys.{searched}
use Rattle.std.specs.Prelude.{Result, Ok, Err}
use Rattle.type_table.specs.declared.TypeSize.{TypeSize}

-- the nodes below a node of a type
abbrev pub type_rows : List ℕ → ℕ → List Row
type_rows words t = type_below (suc t) (items_of words) t

-- what a word of the table says
abbrev pub type_place : ℕ → ℕ
type_place w = w / 1048576

abbrev pub type_depth : ℕ → ℕ
type_depth w = w / 4096 % 256

abbrev pub type_nodes : ℕ → ℕ
type_nodes w = w % 4096

abbrev pub size_word : TypeSize → ℕ
size_word size = size.nodes + (size.depth * 4096 + size.place * 1048576)

-- a word of the table says it of a type
pub record TypeMeasured (words : List ℕ) (t w : ℕ) : Type 0 where
  pub inside : type_place w < length words
  pub there : from_type t (items_of words) ≡ some (items_of (drop (type_place w) words))
  pub depth : type_depth w ≡ capped 25 (deepest (type_rows words t))
  pub nodes : type_nodes w ≡ capped 1025 (length (type_rows words t))

abbrev pub Tabled : List ℕ → List ℕ → ℕ → Type 0
Tabled words table types = (length table ≡ 1024) × ((t : ℕ) → t < types → TypeMeasured words t (get_or table t 0))

-- the types of a good schema, all in the table
pub record GoodTypes (words table : List ℕ) (types : ℕ) : Type 0 where
  pub good-items : good_items words ≡ true
  pub tabled : Tabled words table types
  pub all_types : types ≡ types_in (items_of words)

-- one of them
pub record KnownType (words table : List ℕ) (t : ℕ) : Type 0 where
  pub types : GoodTypes words table (types_in (items_of words))
  pub known : t < types_in (items_of words)

-- a word that is an attribute
unfoldable pub attribute_at : List ℕ → ℕ → Bool
attribute_at words at = cond (ltb at (length words)) (eqb (get_or words at 0 % 16) attribute_line) false

-- the type that a run of lines gives a key, if it has a line of that key
abbrev pub value_at : List ℕ → Result ℕ ℕ → Option ℕ
value_at run (Ok place) = some (item_in (get_or run place 0)).value
value_at run (Err place) = none

abbrev pub value_named : List ℕ → ℕ → Option ℕ
value_named run key = value_at run (searched run key)
