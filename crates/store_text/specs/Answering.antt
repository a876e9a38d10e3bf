-- What a store answers (docs/FORMS.md, 'Store', 'Answers in' and 'Ancestors answers in').
use Rattle.std.specs.Prelude.{ℕ, ◌+◌, ◌*◌, ◌%◌, ◌^◌, ◌≤◌, ◌<◌, ◌≡◌, Bool, true, false, cond, List, [], ◌∷◌, ◌++◌, map, eqb, length, drop, Option as Maybe, Some, None}
use Rattle.std.proofs.Math.Option.{Option, none, some}
use Rattle.rules.proofs.MergeLaws.{IdsFrom}
use Rattle.rules.specs.ValueTexts.{EntityRead}
use Rattle.words.specs.Runs.{Wrote}
use Rattle.values.specs.ValueWords.{value_word}
use Rattle.store_text.specs.Words.{store_words}
use Rattle.store_text.specs.Entities.{All, EntityKept, HoldsEntities}

-- ---- what is answered

-- the entity of an id, if the store has it
unfoldable pub entity_of : ℕ → List EntityRead → Option EntityRead
entity_of id [] = none
entity_of id (e ∷ es) = let rest : Option EntityRead = entity_of id es in cond (eqb e.id id) (some e) rest

-- 'An entity that is not here is answered absent.'
abbrev pub answer_head : ℕ → ℕ → ℕ
answer_head parents rows = 1 + parents * 2 ^ 16 + rows * 2 ^ 32

abbrev pub answer_of : Option EntityRead → List ℕ
answer_of none = 0 ∷ []
answer_of (some e) = answer_head (length e.parents) (length e.value.rows) ∷ (e.parents ++ map value_word e.value.rows)

-- 'The answer to an ancestors request is those of its ids that are among the `U` lines of its entity.'
unfoldable pub is_one_of : List ℕ → ℕ → Bool
is_one_of [] id = false
is_one_of (n ∷ ns) id = let rest : Bool = is_one_of ns id in cond (eqb n id) true rest

unfoldable pub among_of : List ℕ → List ℕ → List ℕ
among_of ancestors [] = []
among_of ancestors (id ∷ asked) =
    let rest : List ℕ = among_of ancestors asked in
    cond (is_one_of ancestors id) (id ∷ rest) rest

abbrev pub ancestors_of : Option EntityRead → List ℕ
ancestors_of none = []
ancestors_of (some e) = e.ancestors

-- ids with their count in front
abbrev pub set_words : List ℕ → List ℕ
set_words ids = length ids ∷ ids

-- ---- for the contracts of `answering`

-- the id of a word of a parent or an ancestor
abbrev pub id_in : ℕ → ℕ
id_in w = w % 2 ^ 16

-- an entity and those behind it stand at a place
pub record EntityHere (words : List ℕ) (at : ℕ) (e : EntityRead) (more : List EntityRead) : Type 0 where
  pub left : drop at words ≡ store_words (e ∷ more)
  pub kept : EntityKept e
  pub later : All EntityKept more

-- so does the entity of an id
pub record EntityFoundAt (words : List ℕ) (id at : ℕ) (es : List EntityRead) : Type 0 where
  pub e : EntityRead
  pub more : List EntityRead
  pub found : entity_of id es ≡ some e
  pub here : EntityHere words at e more

abbrev pub EntitySought : List ℕ → ℕ → List EntityRead → Maybe ℕ → Type 0
EntitySought words id es (Some at) = EntityFoundAt words id at es
EntitySought words id es None = entity_of id es ≡ none

-- where the entity of an id stands, whatever entities the words are those of
pub record FoundEntity (words : List ℕ) (id : ℕ) (r : Maybe ℕ) : Type 0 where
  pub inside : (at : ℕ) → r ≡ Some at → at < length words
  pub there : (es : List EntityRead) → HoldsEntities words es → EntitySought words id es r

-- words are written from a place on, or there is no room for them
abbrev pub PutIn : List ℕ → List ℕ → ℕ → List ℕ → Maybe ℕ → Type 0
PutIn xs out to out' (Some next) = Wrote out to xs out' next
PutIn xs out to out' None = (length out < to + length xs) × (out' ≡ out)

abbrev pub EntityAnswered : List ℕ → ℕ → List ℕ → ℕ → List ℕ → Maybe ℕ → Type 0
EntityAnswered words at out to out' r = (e : EntityRead) (more : List EntityRead) → EntityHere words at e more → PutIn (answer_of (some e)) out to out' r

abbrev pub AnsweredRow : List ℕ → ℕ → List ℕ → ℕ → List ℕ → Maybe ℕ → Type 0
AnsweredRow words id out to out' r = (es : List EntityRead) → HoldsEntities words es → PutIn (answer_of (entity_of id es)) out to out' r

-- of a set it is enough to be refused that not all ids asked for have room
abbrev pub SetPut : List ℕ → List ℕ → List ℕ → ℕ → List ℕ → Maybe ℕ → Type 0
SetPut ancestors asked out to out' (Some next) = Wrote out to (set_words (among_of ancestors asked)) out' next
SetPut ancestors asked out to out' None = (length out ≤ to + length asked) × (out' ≡ out)

abbrev pub AnsweredAncestors : List ℕ → ℕ → List ℕ → List ℕ → ℕ → List ℕ → Maybe ℕ → Type 0
AnsweredAncestors words id asked out to out' r =
    (es : List EntityRead) → HoldsEntities words es → IdsFrom 0 asked → SetPut (ancestors_of (entity_of id es)) asked out to out' r
