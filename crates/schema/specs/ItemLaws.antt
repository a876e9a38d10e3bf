-- Laws of a pass over a schema's words. No contract cites this file.
use Rattle.std.specs.Prelude.{ℕ, ◌+◌, ◌≤◌, ◌<◌, Bool, true, false, cond, ◌&&◌, List, ◌∷◌, ◌≡◌, refl, leb, ltb, length, drop, get_or}
use Rattle.std.proofs.Common.{add-one, arith, ◌∙◌, drop_of_length-le, drop-cons}
use Rattle.std.proofs.Math.Bool.{and-false, and-eq-true_iff}
use borrow.Author.Tests.{leb-true, ltb-true, le-leb, lt-leb, lt-ltb, le-ltb}
use Rattle.rules.specs.Schema.{Item, Known, unknown, fits, beyond, lawful_items}
use Rattle.words.specs.Runs.{words_in}
use Rattle.schema.specs.Items.{item_in, is_item, all_items, items_of, good_items, lawful_schema}
use Rattle.schema.specs.Bounds.{Bounded}
use Rattle.schema.specs.KnownLaws.{bounded_beyond}

-- ---- one word

-- an item's key is an id
pub item_key : (it : Item) → is_item it ≡ true → it.key ≤ 65535
unfolding is_item
item_key it e = leb-true it.key 65535 ((and-eq-true_iff (leb it.key 65535) _).0 e).0

-- ---- a pass over words

-- words that say lines which may stand after others
abbrev good_after : Known → List ℕ → Bool
good_after known words = all_items words && lawful_items known (items_of words)

good_next : (known : Known) (word : ℕ) (words : List ℕ) →
    good_after known (word ∷ words) ≡ cond (is_item (item_in word)) (cond (fits known (item_in word)) (good_after (beyond known (item_in word)) words) false) false
unfolding all_items lawful_items
good_next known word words = go (is_item (item_in word)) (fits known (item_in word)) _ _
  where
    go : (item may rest_items rest-lawful : Bool) →
        cond item rest_items false && cond may rest-lawful false ≡ cond item (cond may (rest_items && rest-lawful) false) false
    go false may rest_items rest-lawful = refl
    go true false rest_items rest-lawful = and-false rest_items
    go true true rest_items rest-lawful = refl

-- i words are passed, and the others are judged after them
pub record ItemsJudged (words : List ℕ) (known : Known) (i : ℕ) : Type 0 where
  pub inside : i ≤ length words
  pub bounded : Bounded known
  pub good : good_items words ≡ good_after known (drop i words)

-- before the first line nothing is over a limit
pub bounded_none : Bounded unknown
bounded_none = record {
  in_section = omega arith;
  few_lines = omega arith;
  few_others = λ e. omega arith;
  few_types = omega arith;
  in_types = λ e. refl;
}

pub judged_none : (words : List ℕ) → ItemsJudged words unknown 0
judged_none words = record { inside = omega arith; bounded = bounded_none; good = refl }

module _ {words : List ℕ} {known : Known} {i : ℕ} (judged : ItemsJudged words known i) where
  -- no word is left
  pub judged_all : length words ≤ i → good_items words ≡ true
  unfolding all_items lawful_items
  judged_all h = judged.good ∙ rw (drop_of_length-le words h)

  module _ (more : i < length words) {it : Item} (here : it ≡ item_in (get_or words i 0)) where
    words_left : drop i words ≡ get_or words i 0 ∷ drop (i + 1) words
    words_left = rw (add-one, drop-cons words i 0)

    good_left : good_items words ≡ cond (is_item it) (cond (fits known it) (good_after (beyond known it) (drop (i + 1) words)) false) false
    good_left = judged.good ∙ rw (words_left, here) (good_next known (get_or words i 0) (drop (i + 1) words))

    -- the next word says no item
    pub judged_bad : is_item it ≡ false → good_items words ≡ false
    judged_bad e = good_left ∙ rw e

    module _ (item : is_item it ≡ true) where
      -- the next line may not stand there
      pub judged_stray : fits known it ≡ false → good_items words ≡ false
      judged_stray e = good_left ∙ rw (item, e)

      -- the next line is passed
      pub judged_next : fits known it ≡ true → ItemsJudged words (beyond known it) (i + 1)
      judged_next e = record {
        inside = omega arith;
        bounded = bounded_beyond known it judged.bounded e;
        good = good_left ∙ rw (item, e);
      }

-- ---- a state

-- a state that is too short, or counts too many words, is not lawful
pub schema_too_short : (state : List ℕ) → length state < 142337 → lawful_schema state ≡ false
unfolding lawful_schema
schema_too_short state h = rw (lt-leb 142337 (length state) h)

module _ (state : List ℕ) (long : 142337 ≤ length state) where
  pub lawful_over : 142337 ≤ get_or state 0 0 → lawful_schema state ≡ false
  unfolding lawful_schema
  lawful_over h = rw (le-leb 142337 (length state) long, le-ltb (get_or state 0 0) 142337 h)

  -- any other is judged by its words
  pub lawful_words : get_or state 0 0 < 142337 → lawful_schema state ≡ good_items (words_in state)
  unfolding lawful_schema
  lawful_words h = rw (le-leb 142337 (length state) long, lt-ltb (get_or state 0 0) 142337 h)

-- a lawful one counts its items within its length, and they are good
module _ (state : List ℕ) (lawful : lawful_schema state ≡ true) where
  tested : (get_or state 0 0 < 142337) × (good_items (words_in state) ≡ true)
  unfolding lawful_schema
  tested =
      let (_, inner) = (and-eq-true_iff (leb 142337 (length state)) _).0 lawful in
      let (few, good) = (and-eq-true_iff (ltb (get_or state 0 0) 142337) _).0 inner in
      (ltb-true (get_or state 0 0) 142337 few, good)

  pub lawful_count : get_or state 0 0 < 142337
  lawful_count = tested.0

  pub lawful-items : good_items (words_in state) ≡ true
  lawful-items = tested.1
