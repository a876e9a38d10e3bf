-- Rows that were asked and their answers, as they stand in words, and the slice that they come to, as words (docs/FORMS.md, 'Slice out').
use Rattle.std.specs.Prelude.{ℕ, ◌+◌, ◌^◌, ◌≤◌, ◌<◌, ◌≡◌, ◌≢◌, true, cond, List, [], ◌∷◌, ◌++◌, map, eqb, length, take, drop, get_or}
use Rattle.std.proofs.Math.Option.{Option, none, some}
use Rattle.rules.specs.Tries.{ids}
use Rattle.rules.proofs.StepLaws.{Each}
use Rattle.rules.specs.Values.{Entity, values_in_attributes}
use Rattle.rules.specs.ValueRows.{attribute_rows}
use Rattle.rules.specs.ValueRowTests.{lawful_value_rows}
use Rattle.rules.specs.Loading.{EntityRequest, Loaded}
use Rattle.rules.proofs.MergeLaws.{IdsFrom}
use Rattle.rules.proofs.SliceLaws.{answers_to, SliceOf, ids_to}
use Rattle.words.specs.Runs.{Wrote}
use Rattle.values.specs.ValueWords.{value_rows_of, value_word, row_asked}
use Rattle.merging.specs.MergeEntityLaws.{entity_of}
use Rattle.answers.specs.Answers.{head_in, head_word, id_set}
use Rattle.slices.specs.declared.Built.{Built}

-- ---- rows and answers

-- rows that are asked for
abbrev pub rows_asked : List ℕ → List EntityRequest
rows_asked rows = map row_asked rows

-- where a head stands at a place: how many parents and rows stand behind it, and those
abbrev pub parent_count : List ℕ → ℕ → ℕ
parent_count words place = (head_in (get_or words place 0)).parents

abbrev pub row_count : List ℕ → ℕ → ℕ
row_count words place = (head_in (get_or words place 0)).rows

abbrev pub parents_at : List ℕ → ℕ → List ℕ
parents_at words place = take (parent_count words place) (drop (place + 1) words)

abbrev pub rows_at : List ℕ → ℕ → List ℕ
rows_at words place = take (row_count words place) (drop (place + 1 + parent_count words place) words)

-- the entity there, and the answer there
abbrev pub entity_at : List ℕ → ℕ → Entity
entity_at words place = entity_of (parents_at words place) (rows_at words place)

abbrev pub answer_in : List ℕ → ℕ → Option Entity
answer_in words place = cond (eqb (get_or words place 0) 0) none (some (entity_at words place))

abbrev pub answers_in : List ℕ → List ℕ → List (Option Entity)
answers_in words places = map (answer_in words) places

-- an entity stands at a place
pub record EntityStands (words : List ℕ) (place : ℕ) : Type 0 where
  pub fits : place + 1 + parent_count words place + row_count words place ≤ length words
  pub ids_ascend : id_set 0 (parents_at words place) ≡ true
  pub lawful : lawful_value_rows (value_rows_of (rows_at words place)) ≡ true

-- each row has its answer, which stands at its place
pub record Heard (words rows places : List ℕ) : Type 0 where
  pub as_many : length places ≡ length rows
  pub inside : (k : ℕ) → k < length rows → get_or places k 0 < length words
  pub stands : (k : ℕ) → k < length rows → get_or words (get_or places k 0) 0 ≢ 0 → EntityStands words (get_or places k 0)

-- the answers to the rows that ask for an entity
abbrev pub answers_for : List ℕ → List ℕ → List ℕ → ℕ → List Entity
answers_for words rows places e = answers_to e (rows_asked rows) (answers_in words places)

-- ---- sets of ancestor ids

-- a set of ancestor ids whose count stands at a place, and the sets by their places
abbrev pub set_in : List ℕ → ℕ → List ℕ
set_in sets place = take (get_or sets place 0) (drop (place + 1) sets)

abbrev pub sets_in : List ℕ → List ℕ → List (List ℕ)
sets_in sets places = map (set_in sets) places

-- there are sets for the first rows, each at its place
pub record SetsHeard (rows sets places : List ℕ) : Type 0 where
  pub as_many : length places ≤ length rows
  pub fits : (k : ℕ) → k < length places → get_or places k 0 + 1 + get_or sets (get_or places k 0) 0 ≤ length sets
  pub ids_ascend : (k : ℕ) → k < length places → IdsFrom 0 (set_in sets (get_or places k 0))

-- the ids of the sets of the rows that ask for an entity
abbrev pub ids_for : List ℕ → List ℕ → List ℕ → ℕ → List ℕ
ids_for rows sets places e = ids_to e (rows_asked rows) (sets_in sets places)

-- ---- the slice as words

abbrev pub row_words : Entity → List ℕ
row_words value = map value_word (attribute_rows 1 value.attributes)

abbrev pub entity_words : ℕ → Entity → List ℕ
entity_words id value = head_word id (length value.parents) (length (row_words value)) ∷ (value.parents ++ row_words value)

-- a slice: one entity after the other
unfoldable pub slice_words : List Loaded → List ℕ
slice_words [] = []
slice_words (l ∷ ls) = entity_words l.id l.value ++ slice_words ls

-- how many words entities take, with their heads and parents
abbrev pub entity_size : Entity → ℕ
entity_size value = 1 + length value.parents + values_in_attributes value.attributes

abbrev pub answer_size : Option Entity → ℕ
answer_size none = 0
answer_size (some value) = entity_size value

unfoldable pub total : List ℕ → ℕ
total [] = 0
total (n ∷ more) = n + total more

-- how many words all answers and all sets of ancestors take
abbrev pub words_of_all : List ℕ → List ℕ → List ℕ → List ℕ → ℕ
words_of_all words places sets set_places = total (map answer_size (answers_in words places)) + total (map length (sets_in sets set_places))

-- the answers come to a slice, and there is room for it
pub record SliceFit (words rows places sets set_places out : List ℕ) (to : ℕ) (scratch : List ℕ) : Type 0 where
  pub heard : Heard words rows places
  pub sets_heard : SetsHeard rows sets set_places
  pub slice : List Loaded
  pub slice-of : SliceOf (rows_asked rows) (answers_in words places) slice
  pub few_rows : length rows ≤ 4096
  pub sort_room : length rows ≤ length scratch
  pub few : words_of_all words places sets set_places < 2 ^ 16
  pub room : to + words_of_all words places sets set_places ≤ length out
  pub scratch_room : words_of_all words places sets set_places ≤ length scratch

-- a slice is written, with so many entities, and ends inside the output
pub record WroteSlice (slice : List Loaded) (out : List ℕ) (to : ℕ) (out' : List ℕ) (built : Built) : Type 0 where
  pub wrote : Wrote out to (slice_words slice) out' built.end
  pub counted : built.count ≡ length slice
  pub inside : built.end ≤ length out

-- ---- a slice read again

-- the numbers of an entity's head have room in it
abbrev pub FitsHead : Loaded → Type 0
FitsHead l = (l.id < ids) × (length l.value.parents < 2 ^ 16)

-- a slice of so many entities stands at the front of words
pub record SliceStands (words : List ℕ) (count : ℕ) (slice : List Loaded) : Type 0 where
  pub behind : List ℕ
  pub stands : words ≡ slice_words slice ++ behind
  pub counted : count ≡ length slice
  pub heads : Each FitsHead slice
