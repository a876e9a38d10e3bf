-- Answers that were heard: each stands at a place of the words, and whether one merges with those before it.
use Rattle.std.specs.Prelude.{ℕ, ◌-◌, ◌≡◌, Bool, true, cond, List, [], ◌∷◌, map, eqb, take, drop}
use Rattle.std.proofs.Math.Option.{Option, none, some}
use Rattle.rules.specs.Values.{Entity, merged_entities}
use Rattle.rules.specs.Loading.{EntityRequest}
use Rattle.rules.proofs.MergeLaws.{there, each_merges}
use Rattle.values.specs.ValueWords.{row_asked}
use Rattle.answers.specs.Answers.{ReadItem, answer_at}

-- the answer at a place, absent where none stands there
abbrev pub item_or : Option (ReadItem (Option Entity)) → Option Entity
item_or none = none
item_or (some read) = read.item

abbrev pub heard_at : List ℕ → ℕ → Option Entity
heard_at words at = item_or (answer_at (drop at words))

-- the rows asked and the answers heard before a place, and from one place up to another
abbrev pub asked_before : List ℕ → ℕ → List EntityRequest
asked_before rows i = map row_asked (take i rows)

abbrev pub heard_before : List ℕ → List ℕ → ℕ → List (Option Entity)
heard_before words places i = map (heard_at words) (take i places)

abbrev pub asked_in : List ℕ → ℕ → ℕ → List EntityRequest
asked_in rows from to = map row_asked (take (to - from) (drop from rows))

abbrev pub heard_in : List ℕ → List ℕ → ℕ → ℕ → List (Option Entity)
heard_in words places from to = map (heard_at words) (take (to - from) (drop from places))

-- an answer stands there
abbrev pub AnswerStands : List ℕ → ℕ → Type 0
AnswerStands words at = (read : ReadItem (Option Entity)) × (answer_at (drop at words) ≡ some read)

unfoldable pub AllStand : List ℕ → List ℕ → Type 0
AllStand words [] = Unit
AllStand words (at ∷ places) = AnswerStands words at × AllStand words places

-- whether two answers merge; an absent one does with any
abbrev pub agree : Option Entity → Option Entity → Bool
agree none right = true
agree (some left) none = true
agree (some left) (some right) = there (merged_entities left right)

-- the same where a row asks for the entity
abbrev pub agrees_if_asked : ℕ → EntityRequest → Option Entity → Option Entity → Bool
agrees_if_asked e row left right = cond (eqb row.id e) (agree left right) true

-- whether an answer merges with each of some answers
abbrev pub merges_with : List Entity → Option Entity → Bool
merges_with earlier none = true
merges_with earlier (some value) = each_merges earlier value
