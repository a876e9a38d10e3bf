-- What reading a schema keeps from line to line, for the contracts of `reading`.
use Rattle.std.specs.Prelude.{ℕ, ◌+◌, ◌≤◌, Bool, true, false, cond, List, map, ◌≡◌, length, set, Option as Maybe, Some, None, Result, Ok, Err}
use Rattle.std.proofs.Math.Option.{Option, none, some}
use Rattle.std.proofs.lemmas.List.Edits.{sets}
use Rattle.rules.specs.Numbers.{Answer, accepted, refused}
use Rattle.rules.specs.Text.{fields_of}
use Rattle.rules.specs.Schema.{Item, Known, item_of, fits, beyond, read_schema}
use Rattle.schema.specs.Items.{item_word}
use Rattle.schema.specs.Bounds.{known_for, most_lines, Bounded}
use Rattle.schema.specs.declared.known.Known.{Known as Kept}
use Rattle.words.specs.declared.Refusal.{Refusal}

-- a buffer with a word at a place, where words are stored at all
abbrev pub kept_at : Bool → List ℕ → ℕ → ℕ → List ℕ
kept_at stores out at word = cond stores (set out at word) out

-- and with words from place 1 on
abbrev pub kept_from : Bool → List ℕ → List ℕ → List ℕ
kept_from stores out words = cond stores (sets out 1 words) out

-- so many items were passed, and there is room for those that may follow
pub record ItemRoom (count : ℕ) (kept : Kept) (out : List ℕ) : Type 0 where
  pub bounded : Bounded (known_for kept)
  pub long : 142337 ≤ length out
  pub counted : count + kept.room ≤ most_lines kept.section kept.lines

-- a line was taken: its word goes behind the others
pub record LinePassed (count : ℕ) (kept : Kept) (line : List ℕ) (stores : Bool) (out out' : List ℕ) (next : Kept) : Type 0 where
  pub it : Item
  pub read-item : item_of (fields_of line) ≡ some it
  pub may-follow : fits (known_for kept) it ≡ true
  pub comes_past : known_for next ≡ beyond (known_for kept) it
  pub kept_word : out' ≡ kept_at stores out (count + 1) (item_word it)
  pub room : ItemRoom (count + 1) next out'

-- whether a line is refused
abbrev pub RefusedLine : Known → Option Item → Type 0
RefusedLine known none = Unit
RefusedLine known (some it) = fits known it ≡ false

abbrev pub ItemTaken : ℕ → Kept → List ℕ → Bool → List ℕ → List ℕ → Maybe Kept → Type 0
ItemTaken count kept line stores out out' (Some next) = LinePassed count kept line stores out out' next
ItemTaken count kept line stores out out' None = RefusedLine (known_for kept) (item_of (fields_of line)) × (out' ≡ out)

-- how many items a text has, or its refusal
abbrev pub how_many : Answer (List Item) → Answer ℕ
how_many (accepted items) = accepted (length items)
how_many (refused number place) = refused number place

abbrev pub items_got : Result ℕ Refusal → Answer ℕ
items_got (Ok count) = accepted count
items_got (Err why) = refused why.number why.place

-- What reading a text answers and leaves: where nothing is stored the buffer stays, and otherwise the words of an accepted text stand in it.
pub record ItemsRead (text : List ℕ) (stores : Bool) (out out' : List ℕ) (r : Result ℕ Refusal) : Type 0 where
  pub answered : items_got r ≡ how_many (read_schema text)
  pub few : (count : ℕ) → r ≡ Ok count → count + 1 ≤ 142337
  pub judged : stores ≡ false → out' ≡ out
  pub left : (items : List Item) → read_schema text ≡ accepted items → out' ≡ kept_from stores out (map item_word items)
