-- Answers and sets of ancestor ids as words (docs/FORMS.md, 'Answers in' and 'Ancestors answers in'): a head, and words behind it.
use Rattle.std.specs.Prelude.{ℕ, zero, suc, ◌+◌, ◌*◌, ◌/◌, ◌%◌, ◌^◌, ◌≤◌, ◌<◌, ◌≡◌, Bool, true, false, cond, ◌&&◌, List, [], ◌∷◌, leb, ltb, eqb, length, take, drop, get_or}
use Rattle.std.specs.Prelude.{Option as Maybe, Some, None, Result, Ok, Err}
use Rattle.std.proofs.Math.Option.{Option, none, some}
use Rattle.rules.specs.Numbers.{Answer, accepted, refused, and_then}
use Rattle.rules.specs.Tries.{ids}
use Rattle.rules.specs.Values.{Entity}
use Rattle.rules.specs.ValueRowTests.{attributes_from, lawful_value_rows}
use Rattle.rules.specs.Loading.{LoadAnswer, done, refused_at, size_of_answer}
use Rattle.values.specs.ValueWords.{value_rows_of}
use Rattle.answers.specs.declared.Head.{Head}
use Rattle.answers.specs.declared.Lending.{Lending}
use Rattle.answers.specs.declared.Lending.TheVariants.{Answers, Sets}

-- ids that ascend strictly, the first at least `least`
unfoldable pub id_set : ℕ → List ℕ → Bool
id_set least [] = true
id_set least (id ∷ more) = let rest : Bool = id_set (suc id) more in cond (leb least id && ltb id ids) rest false

-- an answer's head: 1 + 2^16 × parents + 2^32 × rows, or 0 where the entity is absent
abbrev pub head_in : ℕ → Head
head_in word = record { flag = word % 2 ^ 16; parents = word / 2 ^ 16 % 2 ^ 16; rows = word / 2 ^ 32 }

-- the word of a head, by its parts
abbrev pub head_word : ℕ → ℕ → ℕ → ℕ
head_word flag parents rows = flag + parents * 2 ^ 16 + rows * 2 ^ 32

-- an answer, or a set of ids, at the front of words, and how many words it takes
pub record ReadItem (A : Type 0) : Type 0 where
  pub item : A
  pub size : ℕ

abbrev pub read_item : {A : Type 0} → A → ℕ → ReadItem A
read_item item size = record { item = item; size = size }

-- the words behind a head: parents, and the rows of the attributes
abbrev pub parent_words : Head → List ℕ → List ℕ
parent_words head words = take head.parents words

abbrev pub attribute_words : Head → List ℕ → List ℕ
attribute_words head words = take head.rows (drop head.parents words)

abbrev pub is_entity : Head → List ℕ → Bool
is_entity head words =
    eqb head.flag 1
    && (leb (head.parents + head.rows) (length words)
    && (id_set 0 (parent_words head words) && lawful_value_rows (value_rows_of (attribute_words head words))))

abbrev pub entity_in : Head → List ℕ → Entity
entity_in head words =
    record { parents = parent_words head words; attributes = attributes_from 1 (value_rows_of (attribute_words head words)) }

-- none where what stands there is not of its form, or does not end within the words
abbrev pub answer_with : ℕ → List ℕ → Option (ReadItem (Option Entity))
answer_with word words =
    cond (eqb word 0) (some (read_item none 1))
    (cond (is_entity (head_in word) words)
    (some (read_item (some (entity_in (head_in word) words)) (1 + ((head_in word).parents + (head_in word).rows))))
    none)

abbrev pub answer_at : List ℕ → Option (ReadItem (Option Entity))
answer_at [] = none
answer_at (word ∷ words) = answer_with word words

-- a set is its count and its ids
abbrev pub set_with : ℕ → List ℕ → Option (ReadItem (List ℕ))
set_with count words =
    cond (leb count (length words) && id_set 0 (take count words)) (some (read_item (take count words) (1 + count))) none

abbrev pub set_at : List ℕ → Option (ReadItem (List ℕ))
set_at [] = none
set_at (count ∷ words) = set_with count words

abbrev pub with_first : {A : Type 0} → ReadItem A → ReadItem (List A) → ReadItem (List A)
with_first next more = read_item (next.item ∷ more.item) (next.size + more.size)

-- so many of them, one after the other, from a place on: 1 at the first that is not of its form
unfoldable pub read_from : {A : Type 0} → (List ℕ → Option (ReadItem A)) → ℕ → ℕ → List ℕ → Answer (ReadItem (List A))
read_from one place zero words = accepted (read_item [] 0)
read_from one place (suc count) words =
    elim (one words) [
      | none ↦ refused 1 place
      | some next ↦ and_then (read_from one (place + 1) count (drop next.size words)) (λ more. accepted (with_first next more))
    ]

abbrev pub answers_from : ℕ → ℕ → List ℕ → Answer (ReadItem (List (Option Entity)))
answers_from = read_from answer_at

abbrev pub sets_from : ℕ → ℕ → List ℕ → Answer (ReadItem (List (List ℕ)))
sets_from = read_from set_at

-- What lent words hold: answers, or sets of ancestor ids.
abbrev pub ItemOf : Lending → Type 0
ItemOf Answers = Option Entity
ItemOf Sets = List ℕ

abbrev pub item_at : (lent : Lending) → List ℕ → Option (ReadItem (ItemOf lent))
item_at Answers = answer_at
item_at Sets = set_at

abbrev pub size_of_item : (lent : Lending) → ItemOf lent → ℕ
size_of_item Answers = size_of_answer
size_of_item Sets = length

abbrev pub lent_from : (lent : Lending) → ℕ → ℕ → List ℕ → Answer (ReadItem (List (ItemOf lent)))
lent_from lent = read_from (item_at lent)

-- how many words stand behind a head
abbrev pub words_behind : Lending → ℕ → ℕ
words_behind Answers word = (head_in word).parents + (head_in word).rows
words_behind Sets word = word

-- all are of their form, and those that are read
abbrev pub AllRead : {A : Type 0} → Answer (ReadItem (List A)) → Type 0
AllRead (accepted all) = Unit
AllRead (refused number place) = ⊥

abbrev pub read_items : {A : Type 0} → Answer (ReadItem (List A)) → List A
read_items (accepted all) = all.item
read_items (refused number place) = []

abbrev pub lent_items : (lent : Lending) → ℕ → List ℕ → List (ItemOf lent)
lent_items lent count words = read_items (lent_from lent 0 count words)

-- what a look at the front of words answers, and a look at so many
abbrev pub front_of : {A : Type 0} → Option (ReadItem A) → Maybe ℕ
front_of none = None
front_of (some next) = Some next.size

abbrev pub checked_as : {A : Type 0} → Answer (ReadItem (List A)) → Result ℕ ℕ
checked_as (accepted all) = Ok all.size
checked_as (refused number place) = Err place

-- answers are looked at with scratch as long as the words
abbrev pub HasScratch : Lending → List ℕ → List ℕ → Type 0
HasScratch Answers words levels = length words ≤ length levels
HasScratch Sets words levels = Unit

-- what a sum answers, as `summed` says it
abbrev pub sum_in : Result ℕ ℕ → LoadAnswer ℕ
sum_in (Ok sum) = done sum
sum_in (Err place) = refused_at 15 place

-- an answer, or a set, stands at a place of words
abbrev pub StandsAt : (lent : Lending) → List ℕ → ℕ → ItemOf lent → Type 0
StandsAt lent words at item = (size : ℕ) × (item_at lent (drop at words) ≡ some (read_item item size))

-- the places at which they stand are stored from `to` on, and what is in front of `to` stays
pub record PlacedAt
    (lent : Lending) (words : List ℕ) (items : List (ItemOf lent)) (places : List ℕ) (to : ℕ) (places' : List ℕ)
    : Type 0 where
  pub stands : (k : ℕ) (d : ItemOf lent) → k < length items → StandsAt lent words (get_or places' (to + k) 0) (get_or items k d)
  pub before : take to places' ≡ take to places
