-- Laws of the test of a lent run of value rows (Lawful). No contract cites this file.
use Prim.Native.Nat.{ℕ, suc, ◌+◌, ◌-◌, ◌*◌, ◌/◌, ◌%◌, ◌≤◌, ◌<◌}
use Rattle.std.proofs.Math.Nat.{sub_self}
use Rattle.std.proofs.Common.{add-one, ap, ◌∙◌, length-set, drop-cons, take-suc-set, take-take, get_or-take, length-take-le}
use native.Mathlib.Omega.{arith}
use Rattle.std.specs.Prelude.{◌≡◌, refl, Bool, true, false, leb, ltb, eqb, length, take, get_or, set}
use Rattle.std.proofs.Math.Path.{sym}
use Rattle.std.proofs.Math.Bool.{and-true}
use mathlib.Core.List.{List, [], ◌∷◌, ◌++◌, map-append, append_assoc}
use borrow.Author.Tests.{lt-ltb, le-ltb, le-leb, lt-leb, eq-eqb, ne_eqb, ltb-true, leb-true}
use Rattle.std.proofs.Math.ListN.{drop, drop_of_length-le, get_or-map}
use Rattle.std.proofs.lemmas.List.{length-map}
use Rattle.std.specs.Prelude.{Some}
use Rattle.std.specs.declared.cmp.Ordering.{Ordering}
use Rattle.std.specs.declared.cmp.Ordering.TheVariants.{Less, Equal, Greater}
use Rattle.std.specs.Ordering.{MatchOrdering, is_some_and, is_lt, nat_cmp}
use Rattle.std.specs.Cmp.Lexicographic.{slice_partial_cmp}
use Rattle.std.proofs.lemmas.Bool.{ltb-false}
use Rattle.std.proofs.lemmas.Cmp.{ranked, same_from_slice_cmp_tested}
use Rattle.rules.specs.Facts.{by_test, both_true}
use Rattle.rules.specs.Tries.{same}
use Rattle.rules.proofs.WalkLaws.{take-map}
use Rattle.rules.specs.ValueRowTests.{
  level,
  level_at,
  levels_after,
  passes,
  lawful_value_rows,
  is_value_row,
  inside_value,
  beyond_value,
  by_number,
  is_first,
  earlier_rows,
}
use Rattle.values.specs.ValueWords.{depth_from, key_from, kind_from, value_row_in, value_rows_of, unkeyed_word}
use Rattle.values.specs.ValueWordLaws.{row_first, row_second, row_same, unkeyed-word}
use Rattle.values.specs.Lawful.{PastInside, row_at, rows_behind, is_ahead_at, level_in, levels_in, fits_at, comes_at, Opened}

-- the words from a place on are the one there and those behind it
pub words_left : (words : List ℕ) (i : ℕ) → i < length words → drop i words ≡ get_or words i 0 ∷ drop (i + 1) words
words_left words i more = rw (add-one, drop-cons words i 0)

-- ---- past what is inside a value

module _ (words : List ℕ) (i depth : ℕ) where
  -- nothing is left
  pub past_none : i ≤ length words → length words ≤ i → PastInside words i depth i
  unfolding inside_value beyond_value
  past_none inside all =
      let none_left : drop i words ≡ [] = drop_of_length-le words all in
      record { from = omega arith; within = inside; inside = rw (none_left, sub_self); beyond = rw none_left }

  module _ (more : i < length words) where
    -- the next row is not deeper
    pub past_here : depth_from (get_or words i 0) ≤ depth → PastInside words i depth i
    unfolding inside_value beyond_value
    past_here h = record {
      from = omega arith;
      within = omega arith;
      inside = rw (words_left words i more, le-ltb depth (depth_from (get_or words i 0)) h, sub_self);
      beyond = rw (words_left words i more, le-ltb depth (depth_from (get_or words i 0)) h);
    }

    -- it is deeper
    pub past_deeper : {end : ℕ} → depth < depth_from (get_or words i 0) → PastInside words (i + 1) depth end → PastInside words i depth end
    unfolding inside_value beyond_value
    past_deeper {end} h past =
        let one : end - i ≡ suc (end - (i + 1)) = omega arith in
        record {
          from = omega arith;
          within = past.within;
          inside = rw (words_left words i more, lt-ltb depth (depth_from (get_or words i 0)) h, one, past.inside);
          beyond = rw (words_left words i more, lt-ltb depth (depth_from (get_or words i 0)) h, past.beyond);
        }

-- ---- two runs

-- runs are ordered as their words are
runs_compared :
    (v w : ℕ) (a b : List ℕ) (o : Ordering)
    → MatchOrdering o (v < w) (v ≡ w) (w < v)
    → MatchOrdering o (earlier_rows (value_rows_of (v ∷ a)) (value_rows_of (w ∷ b)) ≡ true)
    (earlier_rows (value_rows_of (v ∷ a)) (value_rows_of (w ∷ b)) ≡ earlier_rows (value_rows_of a) (value_rows_of b))
    (earlier_rows (value_rows_of (v ∷ a)) (value_rows_of (w ∷ b)) ≡ false)
unfolding earlier_rows
runs_compared v w a b Less h = rw (row_first v w h)
runs_compared v w a b Equal h = rw (row_same v w (omega arith) (omega arith))
runs_compared v w a b Greater h = rw (row_second v w h)

pub runs_earlier :
    (a b : List ℕ) (r : Bool)
    → r ≡ is_some_and is_lt (slice_partial_cmp (λ v w. Some (nat_cmp v w)) a b)
    → r ≡ earlier_rows (value_rows_of a) (value_rows_of b)
unfolding earlier_rows
runs_earlier =
    same_from_slice_cmp_tested nat_cmp is_lt (λ a b. earlier_rows (value_rows_of a) (value_rows_of b)) refl (λ w b. refl) (λ v a. refl)
    (λ v w a b o e. runs_compared v w a b o (ranked v w o e))

-- ---- an element and the next one of its set

module _ (words : List ℕ) (at next : ℕ) (past : PastInside words (at + 1) (depth_from (get_or words at 0)) next) where
  -- there is none
  pub ahead_last : next ≡ length words → true ≡ is_ahead_at words at
  ahead_last e = sym (rw (past.beyond, drop_of_length-le words {i = next} (omega arith)))

  module _ (more : next < length words) where
    -- the next row is above it
    pub ahead_above : (depth_from (get_or words next 0) ≡ depth_from (get_or words at 0) → ⊥) → true ≡ is_ahead_at words at
    ahead_above other =
        sym
        (rw (
          past.beyond,
          words_left words next more,
          ne_eqb (depth_from (get_or words at 0)) (depth_from (get_or words next 0)) (λ e. other (sym e)),
        ))

    -- the next row is an element
    module _ (level : depth_from (get_or words next 0) ≡ depth_from (get_or words at 0)) where
      -- their own rows decide, and then what is inside them
      within : Bool
      within =
          earlier_rows (value_rows_of (take (next - (at + 1)) (drop (at + 1) words)))
          (inside_value (depth_from (get_or words next 0)) (rows_behind words next))

      ahead_next : is_ahead_at words at ≡ is_first (by_number (unkeyed_word (get_or words at 0)) (unkeyed_word (get_or words next 0)) same) within
      unfolding earlier_rows within
      ahead_next =
          rw (
            past.beyond,
            words_left words next more,
            eq-eqb (depth_from (get_or words at 0)) (depth_from (get_or words next 0)) (sym level),
            past.inside,
          )
          (ap (λ o. is_first o within) (unkeyed-word (get_or words at 0) (get_or words next 0)))

      pub ahead_own :
          (unkeyed_word (get_or words at 0) ≡ unkeyed_word (get_or words next 0) → ⊥)
          → ltb (unkeyed_word (get_or words at 0)) (unkeyed_word (get_or words next 0)) ≡ is_ahead_at words at
      ahead_own other =
          let x = unkeyed_word (get_or words at 0) in
          let y = unkeyed_word (get_or words next 0) in
          by_test (ltb x y)
          (λ t. sym (ahead_next ∙ rw t))
          (λ t. sym (ahead_next ∙ rw (t, lt-ltb y x (omega (arith, ltb-false x y t, other)))))

      -- what is inside both decides
      pub ahead_inside : {end : ℕ} → unkeyed_word (get_or words at 0) ≡ unkeyed_word (get_or words next 0) →
          PastInside words (next + 1) (depth_from (get_or words at 0)) end →
          is_ahead_at words at
          ≡ earlier_rows (value_rows_of (take (next - (at + 1)) (drop (at + 1) words)))
          (value_rows_of (take (end - (next + 1)) (drop (next + 1) words)))
      unfolding within
      ahead_inside e behind =
          ahead_next
          ∙ rw (
            le-ltb (unkeyed_word (get_or words at 0)) (unkeyed_word (get_or words next 0)) (omega arith),
            le-ltb (unkeyed_word (get_or words next 0)) (unkeyed_word (get_or words at 0)) (omega arith),
            level,
            behind.inside,
          )

-- ---- one row, at a level

module _ (words : List ℕ) (at word : ℕ) where
  -- of a record
  pub fits_record : word % 2 ≡ 0 → leb (word / 2) (key_from (get_or words at 0)) ≡ fits_at words at (level_in word)
  fits_record e = rw (ne_eqb (word % 2) 1 (λ odd. omega arith), and-true)

  -- of a set
  module _ (odd : word % 2 ≡ 0 → ⊥) where
    of-set : eqb (word % 2) 1 ≡ true
    of-set = eq-eqb (word % 2) 1 (omega arith)

    pub fits_other : (key_from (get_or words at 0) ≡ word / 2 → ⊥) → false ≡ fits_at words at (level_in word)
    fits_other other = rw (of-set, ne_eqb (key_from (get_or words at 0)) (word / 2) other)

    pub fits_set : key_from (get_or words at 0) ≡ word / 2 → is_ahead_at words at ≡ fits_at words at (level_in word)
    fits_set e = rw (of-set, eq-eqb (key_from (get_or words at 0)) (word / 2) e)

-- ---- one row, at the open levels

module _ (words : List ℕ) (at : ℕ) (levels : List ℕ) where
  -- it is no row
  pub comes_bad : is_value_row (row_at words at) ≡ false → false ≡ comes_at words at (levels_in levels)
  comes_bad bad = rw bad

  module _ (good : is_value_row (row_at words at) ≡ true) where
    -- it is above all levels, or deeper
    pub comes_above : depth_from (get_or words at 0) ≡ 0 → false ≡ comes_at words at (levels_in levels)
    comes_above e = rw (good, lt-leb 1 (depth_from (get_or words at 0)) (omega arith))

    module _ (below : 0 < depth_from (get_or words at 0)) where
      pub comes_deep : length levels ≤ depth_from (get_or words at 0) - 1 → false ≡ comes_at words at (levels_in levels)
      comes_deep h =
          rw (
            good,
            le-leb 1 (depth_from (get_or words at 0)) below,
            length-map levels level_in,
            le-ltb (depth_from (get_or words at 0) - 1) (length levels) h,
          )

      -- its level decides
      pub comes_fits : {answer : Bool} → depth_from (get_or words at 0) - 1 < length levels →
          answer ≡ fits_at words at (level_in (get_or levels (depth_from (get_or words at 0) - 1) 0)) → answer ≡ comes_at words at (levels_in levels)
      comes_fits h judged =
          judged
          ∙ rw (
            good,
            le-leb 1 (depth_from (get_or words at 0)) below,
            length-map levels level_in,
            lt-ltb (depth_from (get_or words at 0) - 1) (length levels) h,
            get_or-map level_in levels (depth_from (get_or words at 0) - 1) 0,
          )

  -- a row that comes is at one of the levels
  pub comes_depth : comes_at words at (levels_in levels) ≡ true →
      (0 < depth_from (get_or words at 0)) × (depth_from (get_or words at 0) ≤ length levels)
  comes_depth h =
      let (_, place) = both_true (is_value_row (row_at words at)) _ h in
      let (below, more) = both_true (leb 1 (depth_from (get_or words at 0))) _ place in
      let (near, _) = both_true (ltb (depth_from (get_or words at 0) - 1) (length (levels_in levels))) _ more in
      let depth : 1 ≤ depth_from (get_or words at 0) = leb-true _ _ below in
      let inside : depth_from (get_or words at 0) - 1 < length (levels_in levels) = ltb-true _ _ near in
      (depth, omega (arith, length-map levels level_in))

-- ---- the levels after a row

-- the word of a row's own level
abbrev pub level_next : ℕ → ℕ → ℕ
level_next here key = here % 2 + (key + 1) * 2

level-next : (here key : ℕ) → level_in (level_next here key) ≡ level (level_in here).of_set (suc key)
level-next here key =
    let same_set : level_next here key % 2 ≡ here % 2 = omega arith in
    let more : level_next here key / 2 ≡ suc key = omega arith in
    rw (same_set, more)

-- the levels with it
abbrev pub with_own : List ℕ → ℕ → List ℕ
with_own levels word = set levels (depth_from word - 1) (level_next (get_or levels (depth_from word - 1) 0) (key_from word))

module _ (levels : List ℕ) (word : ℕ) (below : 0 < depth_from word) (room : depth_from word < length levels) where
  kept_own :
      levels_in (take (depth_from word) (with_own levels word))
      ≡ take (depth_from word - 1) (levels_in levels) ++ (level (level_at 1 (levels_in levels) (depth_from word)).of_set (suc (key_from word)) ∷ [])
  kept_own =
      let own = depth_from word - 1 in
      let here = level_next (get_or levels own 0) (key_from word) in
      let next : depth_from word ≡ suc own = omega arith in
      ap (λ n. levels_in (take n (with_own levels word))) next
      ∙ ap levels_in (take-suc-set levels own here (omega arith))
      ∙ map-append level_in (take own levels) (here ∷ [])
      ∙ rw (level-next (get_or levels own 0) (key_from word), take-map level_in own levels, get_or-map level_in levels own 0)

  -- a row with nothing inside it
  pub opened_own : kind_from word < 3 → Opened levels (value_row_in word) (with_own levels word) (depth_from word)
  opened_own h = record { after = rw (lt-ltb (kind_from word) 3 h) kept_own; few = omega arith }

  -- a row with one level more
  opened_below : (inside : ℕ) → 3 ≤ kind_from word → level_in inside ≡ level (eqb (kind_from word) 3) 0 →
      Opened levels (value_row_in word) (set (with_own levels word) (depth_from word) inside) (depth_from word + 1)
  opened_below inside h e = record {
    after =
        rw (add-one (depth_from word), le-ltb (kind_from word) 3 h)
        (ap levels_in (take-suc-set (with_own levels word) (depth_from word) inside (rw length-set room))
        ∙ map-append level_in (take (depth_from word) (with_own levels word)) (inside ∷ [])
        ∙ rw (kept_own, e) (append_assoc (take (depth_from word - 1) (levels_in levels)) _ _));
    few = omega arith;
  }

  pub opened_set : kind_from word ≡ 3 → Opened levels (value_row_in word) (set (with_own levels word) (depth_from word) 1) (depth_from word + 1)
  opened_set e = opened_below 1 (omega arith) (rw (eq-eqb (kind_from word) 3 e))

  pub opened_record : 3 ≤ kind_from word → (kind_from word ≡ 3 → ⊥) →
      Opened levels (value_row_in word) (set (with_own levels word) (depth_from word) 0) (depth_from word + 1)
  opened_record h other = opened_below 0 h (rw (ne_eqb (kind_from word) 3 other))

-- only the levels down to the row's own count
pub after_taken : (levels : List ℕ) (len word : ℕ) → 0 < depth_from word → depth_from word ≤ len →
    levels_after 1 (levels_in (take len levels)) (value_row_in word) ≡ levels_after 1 (levels_in levels) (value_row_in word)
after_taken levels len word below near =
    let above : take (depth_from word - 1) (levels_in (take len levels)) ≡ take (depth_from word - 1) (levels_in levels) =
    rw (
      take-map level_in (depth_from word - 1) (take len levels),
      take-map level_in (depth_from word - 1) levels,
      take-take (depth_from word - 1) len levels (omega arith),
    ) in
    let own : level_at 1 (levels_in (take len levels)) (depth_from word) ≡ level_at 1 (levels_in levels) (depth_from word) =
    get_or-map level_in (take len levels) (depth_from word - 1) 0
    ∙ ap level_in (get_or-take len levels (depth_from word - 1) 0 (omega arith))
    ∙ sym (get_or-map level_in levels (depth_from word - 1) 0) in
    rw (above, own)

-- ---- the pass

-- i rows are passed, and `len` levels are open
pub record RowsPassed (words levels : List ℕ) (len i : ℕ) : Type 0 where
  pub inside : i ≤ length words
  pub few : len ≤ i + 1
  pub left : lawful_value_rows (value_rows_of words) ≡ passes 1 (levels_in (take len levels)) (value_rows_of (drop i words))

pub passed_none : (words levels : List ℕ) → 0 < length levels → RowsPassed words (set levels 0 0) 1 0
passed_none words [] h = absurd (omega arith)
passed_none words (x ∷ rest) h = record { inside = omega arith; few = omega arith; left = refl }

module _ {words levels : List ℕ} {len i : ℕ} (passed : RowsPassed words levels len i) where
  -- no row is left
  pub passed_all : length words ≤ i → true ≡ lawful_value_rows (value_rows_of words)
  unfolding passes
  passed_all h = sym (passed.left ∙ rw (drop_of_length-le words h))

  module _ (more : i < length words) where
    -- the next may not come
    pub passed_bad : comes_at words i (levels_in (take len levels)) ≡ false → false ≡ lawful_value_rows (value_rows_of words)
    unfolding passes
    passed_bad bad = sym (passed.left ∙ rw (words_left words i more, bad))

    -- it comes
    module _ (fits : len ≤ length levels) (next : comes_at words i (levels_in (take len levels)) ≡ true) where
      pub passed_depth : (0 < depth_from (get_or words i 0)) × (depth_from (get_or words i 0) ≤ len)
      passed_depth = rw (length-take-le len levels fits) at (comes_depth words i (take len levels) next)

      pub passed_next : {levels' : List ℕ} {len' : ℕ} → Opened levels (row_at words i) levels' len' → RowsPassed words levels' len' (i + 1)
      unfolding passes
      passed_next opened =
          let (below, near) = passed_depth in
          record {
            inside = omega arith;
            few = omega (arith, opened.few, passed.few);
            left =
                passed.left
                ∙ rw (words_left words i more, next, after_taken levels len (get_or words i 0) below near, opened.after);
          }
