-- Laws of rows that come after a place, and of what a pass over words has found, for the proofs of `lawful`. No contract cites this file.
use Prim.Native.Nat.{ℕ, zero, suc, ◌+◌, ◌≤◌, ◌<◌}
use native.Mathlib.Numerals.{add-one}
use native.Mathlib.Omega.{arith}
use mathlib.Core.Bool.{Bool, true, false, cond, ◌&&◌, and-true, and-false, and_assoc, and-eq-true_iff}
use mathlib.Core.List.{List, [], ◌∷◌, map}
use mathlib.Core.Path.{◌≡◌, refl, sym, ◌∙◌}
use borrow.Author.Tests.{lt-ltb, le-ltb, le-leb, lt-leb, leb-true}
use lib.Dec.{leb, ltb, eqb}
use lib.ListN.{length, take, drop, get_or, set, length-map, drop_of_length-le}
use lib.Seq.{length-take-le, drop-cons}
use Rattle.rules.specs.Numbers.{most_steps}
use Rattle.rules.specs.Tries.{Form, is_row, at, follows, ordered, entries_in, nodes_in}
use Rattle.rules.specs.Facts.{by_test}
use Rattle.rules.specs.Walks.{walked}
use Rattle.rules.proofs.WalkLaws.{kept_stored, went_start, orderly, OrderlyTo, orderly_end, orderly_next, orderly_refused}
use Rattle.rules.proofs.TrieLaws.{follows_true}
use Rattle.rows.specs.Words.{depth_in, step_in, is_word, row_in}
use Rattle.rows.specs.States.{all_words, rows_of, good_rows, may_follow, counted_rows, lawful_state}
use Rattle.rows.specs.Sizes.{Counted}
use Rattle.rows.specs.declared.size.Size.{Size}
use Rattle.std.specs.Prelude.{Some, None}
use Rattle.words.specs.Runs.{words_in}
use Rattle.rows.specs.CountLaws.{counted_none, counted_all}

-- ---- one row

-- a row more than 24 steps deep may not come
pub follow_deep : (s : List ℕ) (word : ℕ) → most_steps < depth_in word → may_follow s word ≡ false
unfolding may_follow
follow_deep s word deep = rw (lt-leb (depth_in word) most_steps deep, and-false, and-false)

-- a row that may come is at most one deeper than the place, and at most 24 steps deep
pub follow_depth : (s : List ℕ) (word : ℕ) → may_follow s word ≡ true → (depth_in word ≤ length s) × (depth_in word ≤ most_steps)
unfolding may_follow
follow_depth s word h =
    let (whole, place) = (and-eq-true_iff (is_word word) _).0 h in
    let (after, shallow) = (and-eq-true_iff (follows s (row_in word)) _).0 place in
    ((follows_true s (row_in word) after).near, leb-true _ _ shallow)

-- after a place a row of at most 24 steps is judged by `follows`
module _ (s : List ℕ) (word : ℕ) (whole : is_word word ≡ true) (shallow : depth_in word ≤ most_steps) where
  follow_shallow : may_follow s word ≡ follows s (row_in word)
  unfolding may_follow
  follow_shallow = rw (whole, le-leb (depth_in word) most_steps shallow, and-true)

  pub follow_above : depth_in word < length s → may_follow s word ≡ ltb (get_or s (depth_in word) 0) (step_in word)
  follow_above above = rw (follow_shallow, lt-ltb (depth_in word) (length s) above)

  pub follow_level : length s ≤ depth_in word → may_follow s word ≡ eqb (depth_in word) (length s)
  follow_level level = rw (follow_shallow, le-ltb (depth_in word) (length s) level)

-- the step of a row that may come, stored at its depth, makes the row's place the front
pub place_stored :
    (path : List ℕ) (len word : ℕ)
    → len ≤ length path
    → most_steps < length path
    → may_follow (take len path) word ≡ true
    → at (take len path) (row_in word) ≡ take (depth_in word + 1) (set path (depth_in word) (step_in word))
place_stored path len word fits room next =
    let (near, shallow) = follow_depth (take len path) word next in
    sym (kept_stored path len (row_in word) (step_in word) (rw (length-take-le len path fits) at near) (omega arith))

-- ---- a pass over words

drop-map : {A B : Type 0} (f : A → B) (i : ℕ) (l : List A) → drop i (map f l) ≡ map f (drop i l)
drop-map f zero l = refl
drop-map f (suc i) [] = refl
drop-map f (suc i) (x ∷ l) = drop-map f i l

-- i words are passed, each of them counted: the walk that judges the listing's order has come to the place s
pub record RowsPassed (words s : List ℕ) (i entries nodes : ℕ) : Type 0 where
  pub inside : i ≤ length words
  pub whole : all_words words ≡ all_words (drop i words)
  pub went : OrderlyTo (rows_of words) i s
  pub counted : Counted words (drop i words) entries nodes
  pub each : entries + nodes ≡ i

pub passed_none : (words : List ℕ) → RowsPassed words [] 0 0 0
passed_none words = record {
  inside = omega arith;
  whole = refl;
  went = went_start orderly (walked [] tt) (rows_of words);
  counted = counted_none words;
  each = refl;
}

module _ {words s : List ℕ} {i entries nodes : ℕ} (passed : RowsPassed words s i entries nodes) where
  -- where no word is left, all is found
  pub passed_all : length words ≤ i → Some (record { entries = entries; nodes = nodes }) ≡ counted_rows words
  unfolding all_words
  passed_all h =
      let none_left : drop i words ≡ [] = drop_of_length-le words h in
      let good : good_rows words ≡ true = rw (passed.whole, none_left, orderly_end s passed.went (rw (length-map words row_in) h)) in
      let (all_entries, all_nodes) = counted_all (rw none_left at passed.counted) in
      rw (good, all_entries, all_nodes)

  module _ {word : ℕ} (more : i < length words) (here : get_or words i 0 ≡ word) where
    words_left : drop i words ≡ word ∷ drop (i + 1) words
    words_left = rw (add-one, drop-cons words i 0, here)

    rows_left : drop i (rows_of words) ≡ row_in word ∷ drop (i + 1) (rows_of words)
    rows_left = rw (drop-map row_in i words, drop-map row_in (i + 1) words, words_left)

    counted_left : Counted words (word ∷ drop (i + 1) words) entries nodes
    counted_left = rw words_left at passed.counted

    out_of_order : may_follow s word ≡ false → good_rows words ≡ false
    unfolding may_follow all_words
    out_of_order bad =
        by_test (is_word word)
        (λ good.
        let refused : ordered [] (rows_of words) ≡ false = orderly_refused s passed.went rows_left (rw (rw good at bad, and-false)) in
        rw (refused, and-false))
        (λ no_word. rw (passed.whole, words_left, no_word))

    -- where the next row may not come, the words are no rows in order
    pub passed_bad : may_follow s word ≡ false → None ≡ counted_rows words
    passed_bad bad = rw (out_of_order bad)

    -- where it may come, it is passed, and counted as what it is
    module _ (next : may_follow s word ≡ true) where
      pub passed_row : {entries' nodes' : ℕ} →
          ((words rest : List ℕ) → Counted words (word ∷ rest) entries nodes → Counted words rest entries' nodes')
          → entries' + nodes' ≡ i + 1
          → RowsPassed words (at s (row_in word)) (i + 1) entries' nodes'
      unfolding may_follow is_word all_words
      passed_row counted each =
          let (good, place) = (and-eq-true_iff (is_word word) _).0 next in
          let (row, _) = (and-eq-true_iff (is_row (row_in word)) _).0 good in
          record {
            inside = omega arith;
            whole = passed.whole ∙ rw (words_left, good);
            went = orderly_next s passed.went rows_left (rw (row, place));
            counted = counted words (drop (i + 1) words) counted_left;
            each = each;
          }

-- ---- what a pass has found

pub counted_none_by : (words : List ℕ) → None ≡ counted_rows words → good_rows words ≡ false
counted_none_by words none_found = by_test (good_rows words) (λ good. cc) (λ e. e)

pub counted_some_by :
    (words : List ℕ) {size : Size}
    → Some size ≡ counted_rows words
    → (good_rows words ≡ true) × (size.entries ≡ entries_in (rows_of words)) × (size.nodes ≡ nodes_in (rows_of words))
counted_some_by words found =
    by_test (good_rows words) (λ good. (good, cc, cc)) (λ bad. cc)

-- ---- a state

-- a state that counts more words than it has is not lawful
pub lawful_short : (form : Form) (state : List ℕ) → length state ≤ get_or state 0 0 → lawful_state form state ≡ false
unfolding lawful_state
lawful_short form state short = rw (le-ltb (get_or state 0 0) (length state) short)

-- so many entries and nodes are limits_met the limits of a form
abbrev pub limits_met : Form → ℕ → ℕ → Bool
limits_met form entries nodes = cond form.single (eqb entries 1) (leb entries form.entries) && leb nodes form.nodes

-- a state that has as many as it counts is judged by what a pass over them finds
module _ (form : Form) (state : List ℕ) {words : List ℕ} (held : get_or state 0 0 < length state) (same : words ≡ words_in state) where
  judged : lawful_state form state ≡ good_rows words && limits_met form (entries_in (rows_of words)) (nodes_in (rows_of words))
  unfolding lawful_state
  judged = rw (lt-ltb _ _ held, ← same, ← and_assoc (all_words words) _ _)

  pub lawful_unordered : None ≡ counted_rows words → lawful_state form state ≡ false
  lawful_unordered none_found = rw (judged, counted_none_by words none_found)

  pub lawful_counted : {size : Size} → Some size ≡ counted_rows words → lawful_state form state ≡ limits_met form size.entries size.nodes
  lawful_counted found = let (good, all_entries, all_nodes) = counted_some_by words found in rw (judged, good, all_entries, all_nodes)
