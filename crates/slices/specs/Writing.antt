-- What the steps of writing a slice ask for and leave: the answers to one entity merged, ids united, and the entity written.
use Rattle.std.specs.Prelude.{ℕ, ◌+◌, ◌%◌, ◌^◌, ◌≤◌, ◌<◌, ◌≡◌, ◌≢◌, Bool, cond, not, ◌&&◌, List, [], ◌∷◌, eqb, length, take, drop, get_or}
use Rattle.std.proofs.Math.Option.{none, some}
use Rattle.rules.specs.Tries.{ids}
use Rattle.rules.specs.Values.{Entity, values_in_attributes}
use Rattle.rules.specs.ValueRows.{ValueRow, merge_rows}
use Rattle.rules.specs.Loading.{with_ids}
use Rattle.rules.proofs.MergeLaws.{IdsFrom, merged_of}
use Rattle.rules.proofs.SliceLaws.{answers_to, ids_to, with_more}
use Rattle.words.specs.Runs.{Wrote}
use Rattle.values.specs.ValueWords.{value_rows_of}
use Rattle.std.specs.Prelude.{Option as Maybe, Some, None}
use Rattle.slices.specs.Slices.{
  rows_asked,
  row_count,
  rows_at,
  entity_at,
  answers_in,
  EntityStands,
  Heard,
  answers_for,
  entity_words,
  entity_size,
  set_in,
  sets_in,
  SetsHeard,
  ids_for,
}

-- ---- the answers to one entity

-- a row asks for the entity, and its answer has a head other than 0
abbrev pub asks_for : ℕ → ℕ → ℕ → Bool
asks_for row head e = eqb (row % ids) e && not (eqb head 0)

-- those from row k on
abbrev pub answers_after : List ℕ → List ℕ → List ℕ → ℕ → ℕ → List Entity
answers_after words rows places e k = answers_to e (rows_asked (drop k rows)) (answers_in words (drop k places))

-- the first of them is the answer to a row, and the others are those behind it
pub record FirstAnswer (words rows places : List ℕ) (e from k : ℕ) : Type 0 where
  pub after : from ≤ k
  pub inside : k < length rows
  pub present : get_or words (get_or places k 0) 0 ≢ 0
  pub answers :
      answers_after words rows places e from ≡ entity_at words (get_or places k 0) ∷ answers_after words rows places e (k + 1)

abbrev pub AnswerFound : List ℕ → List ℕ → List ℕ → ℕ → ℕ → Maybe ℕ → Type 0
AnswerFound words rows places e from (Some k) = FirstAnswer words rows places e from k
AnswerFound words rows places e from None = answers_after words rows places e from ≡ []

-- ---- rows

-- how many rows some entities have
unfoldable pub rows_in : List Entity → ℕ
rows_in [] = 0
rows_in (value ∷ more) = values_in_attributes value.attributes + rows_in more

-- the rows of an answer merge with those that stand from a place of another buffer on, and there is room for both
pub record MayMerge (words : List ℕ) (place : ℕ) (out : List ℕ) (from size : ℕ) (scratch : List ℕ) : Type 0 where
  pub stands : EntityStands words place
  pub rows : List ValueRow
  pub merged : merge_rows none (value_rows_of (take size (drop from out))) (value_rows_of (rows_at words place)) ≡ some rows
  pub room : from + (size + row_count words place) ≤ length out
  pub scratch_room : size + row_count words place ≤ length scratch

-- the answers to an entity merge, and there is room for their rows
pub record RowsFit (words rows places : List ℕ) (e : ℕ) (out : List ℕ) (from : ℕ) (scratch : List ℕ) : Type 0 where
  pub heard : Heard words rows places
  pub value : Entity
  pub merged : merged_of (answers_for words rows places e) ≡ some value
  pub room : from + rows_in (answers_for words rows places e) ≤ length out
  pub scratch_room : rows_in (answers_for words rows places e) ≤ length scratch

-- ---- ids

-- two ascending runs of ids, and room for both
pub record IdsFit (left right out : List ℕ) (to : ℕ) : Type 0 where
  pub left_ascends : IdsFrom 0 left
  pub right_ascends : IdsFrom 0 right
  pub room : to + (length left + length right) ≤ length out

-- the next id of either run, or of both, and how many of each are passed then
pub record TakenId (left right : List ℕ) (i j id i' j' : ℕ) : Type 0 where
  pub ids : with_ids (drop j right) (drop i left) ≡ id ∷ with_ids (drop j' right) (drop i' left)
  pub in_left : i' ≤ length left
  pub in_right : j' ≤ length right
  pub more : i + j < i' + j'

-- the ids of a row's set, if the row asks for e
abbrev pub ids_of_row : ℕ → List ℕ → ℕ → ℕ → List ℕ
ids_of_row row sets place e = cond (eqb (row % ids) e) (set_in sets place) []

-- the ids of the sets from row k on
abbrev pub ids_after : List ℕ → List ℕ → List ℕ → ℕ → ℕ → List ℕ
ids_after rows sets places e k = ids_to e (rows_asked (drop k rows)) (sets_in sets (drop k places))

-- ids that stand from a place of the output on, and the ids of a row's set, with room for both
pub record MayUnite (row : ℕ) (sets : List ℕ) (place e : ℕ) (out : List ℕ) (from size : ℕ) (scratch : List ℕ) : Type 0 where
  pub fits : place + 1 + get_or sets place 0 ≤ length sets
  pub ids_ascend : IdsFrom 0 (set_in sets place)
  pub held : from + size ≤ length out
  pub held_ascend : IdsFrom 0 (take size (drop from out))
  pub room : from + (size + length (ids_of_row row sets place e)) ≤ length out
  pub scratch_room : size + length (ids_of_row row sets place e) ≤ length scratch

-- and the ids of all rows
pub record MayUniteAll (rows sets places : List ℕ) (e : ℕ) (out : List ℕ) (from size : ℕ) (scratch : List ℕ) : Type 0 where
  pub heard : SetsHeard rows sets places
  pub held_ascend : IdsFrom 0 (take size (drop from out))
  pub room : from + (size + length (ids_for rows sets places e)) ≤ length out
  pub scratch_room : size + length (ids_for rows sets places e) ≤ length scratch

-- ---- an entity

unfoldable pub entity_sizes : List Entity → ℕ
entity_sizes [] = 0
entity_sizes (value ∷ more) = entity_size value + entity_sizes more

-- the answers to an entity merge, and there is room for its parents with its ancestors
pub record ParentsFit (words rows places sets set_places : List ℕ) (e : ℕ) (out : List ℕ) (to : ℕ) (scratch : List ℕ) : Type 0 where
  pub heard : Heard words rows places
  pub sets_heard : SetsHeard rows sets set_places
  pub value : Entity
  pub merged : merged_of (answers_for words rows places e) ≡ some value
  pub room : to + (length value.parents + length (ids_for rows sets set_places e)) ≤ length out
  pub scratch_room : length value.parents + length (ids_for rows sets set_places e) ≤ length scratch

-- how many words its answers and its ancestors take together
abbrev pub words_for : List ℕ → List ℕ → List ℕ → List ℕ → List ℕ → ℕ → ℕ
words_for words rows places sets set_places e = entity_sizes (answers_for words rows places e) + length (ids_for rows sets set_places e)

-- there is room for all of it
pub record EntityFit (words rows places sets set_places : List ℕ) (e : ℕ) (out : List ℕ) (to : ℕ) (scratch : List ℕ) : Type 0 where
  pub heard : Heard words rows places
  pub sets_heard : SetsHeard rows sets set_places
  pub id : e < ids
  pub value : Entity
  pub merged : merged_of (answers_for words rows places e) ≡ some value
  pub few : words_for words rows places sets set_places e < 2 ^ 16
  pub room : to + words_for words rows places sets set_places e ≤ length out
  pub scratch_room : words_for words rows places sets set_places e ≤ length scratch

-- it is written, and takes no more words than those
pub record EntityWritten (words rows places sets set_places : List ℕ) (e : ℕ) (out : List ℕ) (to : ℕ) (out' : List ℕ) (end : ℕ) : Type 0
  where
    pub wrote :
        (value : Entity)
        → merged_of (answers_for words rows places e) ≡ some value
        → Wrote out to (entity_words e (with_more (ids_for rows sets set_places e) value)) out' end
    pub few : end ≤ to + words_for words rows places sets set_places e
