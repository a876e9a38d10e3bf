-- Laws of taking rows and of their order (Rows). No contract cites this file.
use Prim.Native.Nat.{ℕ, suc, ◌+◌, ◌-◌, ◌≤◌, ◌<◌}
use Rattle.std.proofs.Common.{le_of_lt, add-zero, true≢false, sym, ap, ◌∙◌, leb-true, ltb-true, lt-ltb, le-ltb, length-drop, drop_of_length-le, get_or-take, length-take-le}
use native.Mathlib.Omega.{arith}
use Rattle.std.specs.Prelude.{true, false, ◌&&◌, List, [], ◌∷◌, ◌≡◌, refl, cond, leb, ltb, take, drop, get_or, set, Option as Maybe, Some, None}
use Rattle.std.proofs.Math.Option.{Option, none, some}
use Rattle.std.proofs.Math.ListN.{length, get_or-map}
use Rattle.std.proofs.lemmas.List.{length-map}
use Rattle.rules.specs.Facts.{by_test, by_option, both_true, cond-true, compared}
use Rattle.rules.specs.Text.{fields_of}
use Rattle.rules.specs.ValueRows.{ValueRow}
use Rattle.rules.specs.ValueRowTests.{Level, is_value_row, inside_value, beyond_value, ahead_of, in_turn, level_at, levels_after}
use Rattle.rules.specs.ValueTexts.{value_row_of, field_level, may_come, unordered, lesser, least_of}
use Rattle.rules.proofs.ValueTextLaws.{may_pass}
use Rattle.values.specs.ValueWords.{depth_from, value_row_in, value_rows_of}
use Rattle.values.specs.Lawful.{level_in, levels_in, row_at, rows_behind, Opened}
use Rattle.values.specs.LawfulLaws.{words_left, after_taken}
use Rattle.value_text.specs.Rows.{ValueLinePassed, next_unless, Misplaced}

-- ---- whether a row may come

-- a row that may come is at one of the levels
pub may_depth : (word : ℕ) (levels : List ℕ) → may_come (levels_in levels) (value_row_in word) ≡ true →
    (0 < depth_from word) × (depth_from word ≤ length levels)
may_depth word levels h =
    let (below, more) = both_true (leb 1 (depth_from word)) _ h in
    let (near, _) = both_true (ltb (depth_from word - 1) (length (levels_in levels))) _ more in
    let depth : 1 ≤ depth_from word = leb-true _ _ below in
    let inside : depth_from word - 1 < length (levels_in levels) = ltb-true _ _ near in
    (depth, omega (arith, length-map levels level_in))

-- a row that is taken
module _ (line words levels : List ℕ) (at len word : ℕ) (room : len < length levels)
    (may : may_come (levels_in (take len levels)) (value_row_in word) ≡ true) where
  pub taken_depth : (0 < depth_from word) × (depth_from word ≤ len)
  taken_depth =
      let fits : len ≤ length levels = omega arith in
      rw (length-take-le len levels fits) at (may_depth word (take len levels) may)

  pub row_passed : {levels' : List ℕ} {open' : ℕ} → value_row_of (fields_of line) ≡ some (value_row_in word) →
      Opened levels (value_row_in word) levels' open' → ValueLinePassed line words at (set words at word) (take len levels) levels' open'
  row_passed read opened =
      let (below, near) = taken_depth in
      record {
        word = word;
        read = read;
        may = may;
        written = refl;
        after = opened.after ∙ sym (after_taken levels len word below near);
        few = omega (arith, opened.few, length-take-le len levels (omega arith));
      }

-- ---- the least of the places out of order

-- what is inside a value and what is beyond it are all rows behind its own
inside_beyond : (depth : ℕ) (rows : List ValueRow) → length (inside_value depth rows) + length (beyond_value depth rows) ≡ length rows
unfolding inside_value beyond_value
inside_beyond depth [] = refl
inside_beyond depth (x ∷ rows) =
    by_test (ltb depth x.depth)
    (λ deeper. rw deeper (omega (arith, inside_beyond depth rows)))
    (λ above. rw above (omega arith))

-- an element that is not before the next one has a next one
some_beyond : (here : Level) (x : ValueRow) (rows : List ValueRow) → in_turn here x rows ≡ false → 0 < length (beyond_value x.depth rows)
some_beyond here x rows e =
    by_test here.of_set
    (λ set. go (beyond_value x.depth rows) (rw set at e))
    (λ no_set. absurd (true≢false (rw no_set at e)))
  where
    go : (beyond : List ValueRow) → ahead_of x rows beyond ≡ false → 0 < length beyond
    go [] e = absurd (true≢false e)
    go (y ∷ more) e = omega arith

pub lesser_assoc : (a b c : Option ℕ) → lesser a (lesser b c) ≡ lesser (lesser a b) c
lesser_assoc none b c = refl
lesser_assoc (some n) none c = refl
lesser_assoc (some n) (some m) none = refl
lesser_assoc (some n) (some m) (some k) =
    compared m k
    (λ mk. compared n m
    (λ nm. rw (lt-ltb m k mk, lt-ltb n m nm, lt-ltb n k (omega arith)))
    (λ mn. rw (lt-ltb m k mk, le-ltb n m mn, lt-ltb m k mk)))
    (λ km. compared n m
    (λ nm. rw (le-ltb m k km, lt-ltb n m nm))
    (λ mn. rw (le-ltb m k km, le-ltb n m mn, le-ltb m k km, le-ltb n k (omega arith))))

-- a place of a row, if it is one, counted from a place on
abbrev row_found : List ℕ → ℕ → ℕ → Option ℕ
row_found words from n = cond (ltb n (length words)) (some (from + n)) none

module _ (words : List ℕ) (from : ℕ) where
  place_there : (n : ℕ) → n < length words → row_found words from n ≡ some (from + n)
  place_there n h = rw (lt-ltb n (length words) h)

  place_not : (n : ℕ) → length words ≤ n → row_found words from n ≡ none
  place_not n h = rw (le-ltb n (length words) h)

  -- a place that comes before the least so far, or not
  lesser_next : (least next : ℕ) → next < least → least ≤ length words →
      lesser (row_found words from least) (row_found words from next) ≡ row_found words from next
  lesser_next least next h within =
      compared least (length words)
      (λ k. rw (place_there least k, place_there next (omega arith), le-ltb (from + least) (from + next) (omega arith)))
      (λ k. rw (place_not least k))

  lesser_kept : (least next : ℕ) → least ≤ next → lesser (row_found words from least) (row_found words from next) ≡ row_found words from least
  lesser_kept least next h =
      compared next (length words)
      (λ k.
      compared least next
      (λ m. rw (place_there least (omega arith), place_there next k, lt-ltb (from + least) (from + next) (omega arith)))
      (λ m.
      let same : next ≡ least = omega arith in
      rw (same, place_there least (omega arith), le-ltb (from + least) (from + least) (omega arith))))
      (λ k.
      compared least (length words)
      (λ m. rw (place_not next k, place_there least m))
      (λ m. rw (place_not next k, place_not least m)))

-- i rows are passed: the least place of them, with those of the rows that are left, is that of all
pub record Ordering (words levels : List ℕ) (least i : ℕ) : Type 0 where
  pub inside : i ≤ length words
  pub within : least ≤ length words
  pub len : ℕ
  pub few : len ≤ i + 1
  pub pass : may_pass (levels_in (take len levels)) (value_rows_of (drop i words)) ≡ true
  pub left : (from : ℕ) →
      least_of (unordered field_level from (value_rows_of words))
      ≡ lesser (row_found words from least) (least_of (unordered (levels_in (take len levels)) (from + i) (value_rows_of (drop i words))))

pub ordering_none : (words levels : List ℕ) → 0 < length levels → may_pass field_level (value_rows_of words) ≡ true →
    Ordering words (set levels 0 0) (length words) 0
ordering_none words [] h pass = absurd (omega arith)
ordering_none words (x ∷ rest) h pass = record {
  inside = omega arith;
  within = omega arith;
  len = 1;
  few = omega arith;
  pass = pass;
  left = λ from. rw (place_not words from (length words) (omega arith), add-zero);
}

module _ {words levels : List ℕ} {least i : ℕ} (ordering : Ordering words levels least i) where
  -- no row is left
  ordering_left : length words ≤ i → (from : ℕ) → least_of (unordered field_level from (value_rows_of words)) ≡ row_found words from least
  unfolding unordered least_of
  ordering_left h from = ordering.left from ∙ rw (drop_of_length-le words h) (go from)
    where
      go : (from : ℕ) → lesser (row_found words from least) none ≡ row_found words from least
      go from = by_option (row_found words from least) (λ e. rw e) (λ n e. rw e)

  pub ordering_found : length words ≤ i → least < length words → Misplaced words (Some least)
  ordering_found h inside = record {
    within = λ n e. let same : least ≡ n = cc in omega arith;
    least = λ from. ordering_left h from ∙ place_there words from least inside;
  }

  pub ordering_none_found : length words ≤ i → length words ≤ least → Misplaced words None
  ordering_none_found h all = record {
    within = λ n e. absurd (let z : ◌≡◌ {A = ℕ} 0 1 = cc in omega arith);
    least = λ from. ordering_left h from ∙ place_not words from least all;
  }

  module _ (more : i < length words) (room : length words < length levels) where
    -- the next row may come, so that its level is one of the open ones
    next_passes : (may_come (levels_in (take ordering.len levels)) (row_at words i) ≡ true)
        × (may_pass (levels_after 1 (levels_in (take ordering.len levels)) (row_at words i)) (rows_behind words i) ≡ true)
    unfolding may_pass
    next_passes =
        let passed = rw (words_left words i more) at ordering.pass in
        let (test, rest) = (cond-true (is_value_row (row_at words i) && may_come (levels_in (take ordering.len levels)) (row_at words i)) _).0 passed in
        ((both_true (is_value_row (row_at words i)) _ test).1, rest)

    pub ordering_depth : (0 < depth_from (get_or words i 0)) × (depth_from (get_or words i 0) ≤ ordering.len) × (ordering.len < length levels + 1)
    ordering_depth =
        let fits : ordering.len ≤ length levels = omega (arith, ordering.few) in
        let (below, near) = may_depth (get_or words i 0) (take ordering.len levels) next_passes.0 in
        (below, rw (length-take-le ordering.len levels fits) at near, omega arith)

    -- the level of the next row
    own_level : level_at 1 (levels_in (take ordering.len levels)) (depth_from (get_or words i 0)) ≡ level_in (get_or levels (depth_from (get_or words i 0) - 1) 0)
    own_level =
        let (below, near, _) = ordering_depth in
        get_or-map level_in (take ordering.len levels) (depth_from (get_or words i 0) - 1) 0
        ∙ ap level_in (get_or-take ordering.len levels (depth_from (get_or words i 0) - 1) 0 (omega arith))

    module _ {r : Maybe ℕ} (found : r ≡ next_unless words i (level_in (get_or levels (depth_from (get_or words i 0) - 1) 0))) where
      here : Level
      here = level_in (get_or levels (depth_from (get_or words i 0) - 1) 0)

      behind_all : length (rows_behind words i) ≡ length words - (i + 1)
      behind_all = length-map (drop (i + 1) words) value_row_in ∙ length-drop (i + 1) words

      -- what was found says whether the next row is in its turn
      turn_next : r ≡ None → in_turn here (row_at words i) (rows_behind words i) ≡ true
      unfolding here
      turn_next none_found =
          by_test (in_turn here (row_at words i) (rows_behind words i)) (λ turn. turn)
          (λ out.
          let other : r ≡ Some (i + 1 + length (inside_value (depth_from (get_or words i 0)) (rows_behind words i))) = found ∙ rw out in
          absurd (let z : ◌≡◌ {A = ℕ} 0 1 = cc in omega arith))

      out_next : {next : ℕ} → r ≡ Some next →
          (in_turn here (row_at words i) (rows_behind words i) ≡ false)
          × (next ≡ i + 1 + length (inside_value (depth_from (get_or words i 0)) (rows_behind words i)))
      unfolding here
      out_next {next} there =
          by_test (in_turn here (row_at words i) (rows_behind words i))
          (λ turn.
          let other : r ≡ None = found ∙ rw turn in
          absurd (let z : ◌≡◌ {A = ℕ} 0 1 = cc in omega arith))
          (λ out.
          let inside = i + 1 + length (inside_value (depth_from (get_or words i 0)) (rows_behind words i)) in
          let same : Some next ≡ Some inside = sym there ∙ found ∙ rw out in
          let place : next ≡ inside = cc in
          (out, place))

      unordered_none : r ≡ None → (from : ℕ) →
          least_of (unordered (levels_in (take ordering.len levels)) (from + i) (value_rows_of (drop i words)))
          ≡ least_of (unordered (levels_after 1 (levels_in (take ordering.len levels)) (row_at words i)) (from + (i + 1)) (rows_behind words i))
      unfolding unordered least_of here
      unordered_none none_found from =
          let one : from + (i + 1) ≡ suc (from + i) = omega arith in
          rw (words_left words i more, own_level, turn_next none_found, one)

      next_below : {next : ℕ} → r ≡ Some next → next < length words
      unfolding here
      next_below there =
          let (out, place) = out_next there in
          omega (
            arith,
            place,
            some_beyond here (row_at words i) (rows_behind words i) out,
            inside_beyond (depth_from (get_or words i 0)) (rows_behind words i),
            behind_all,
          )

      unordered_next : {next : ℕ} → r ≡ Some next → (from : ℕ) →
          least_of (unordered (levels_in (take ordering.len levels)) (from + i) (value_rows_of (drop i words)))
          ≡ lesser (row_found words from next)
          (least_of (unordered (levels_after 1 (levels_in (take ordering.len levels)) (row_at words i)) (from + (i + 1)) (rows_behind words i)))
      unfolding unordered least_of here
      unordered_next {next} there from =
          let (out, same) = out_next there in
          let one : from + (i + 1) ≡ suc (from + i) = omega arith in
          let place : suc (from + i) + length (inside_value (depth_from (get_or words i 0)) (rows_behind words i)) ≡ from + next = omega (arith, same) in
          rw (words_left words i more, own_level, out, one, place, place_there words from next (next_below there))

      -- the next row is passed, with the lesser of two places
      module _ {levels' : List ℕ} {len' : ℕ} (opened : Opened levels (row_at words i) levels' len') where
        after_next : levels_in (take len' levels') ≡ levels_after 1 (levels_in (take ordering.len levels)) (row_at words i)
        after_next =
            let (below, near, _) = ordering_depth in
            opened.after ∙ sym (after_taken levels ordering.len (get_or words i 0) below near)

        passed_with : (least' : ℕ) → least' ≤ length words →
            ((from : ℕ) → least_of (unordered field_level from (value_rows_of words)) ≡ lesser (row_found words from least') (least_of (unordered (levels_after 1 (levels_in (take ordering.len levels)) (row_at words i)) (from + (i + 1)) (rows_behind words i)))) →
            Ordering words levels' least' (i + 1)
        passed_with least' within left =
            let (below, near, _) = ordering_depth in
            record {
              inside = omega arith;
              within = within;
              len = len';
              few = omega (arith, opened.few, ordering.few);
              pass = rw after_next next_passes.1;
              left = λ from. rw after_next (left from);
            }

        pub ordering_in_turn : r ≡ None → Ordering words levels' least (i + 1)
        ordering_in_turn none_found = passed_with least ordering.within (λ from. ordering.left from ∙ rw (unordered_none none_found from))

        module _ {next : ℕ} (there : r ≡ Some next) where
          passed_two : (least' : ℕ) → least' ≤ length words →
              ((from : ℕ) → lesser (row_found words from least) (row_found words from next) ≡ row_found words from least') →
              Ordering words levels' least' (i + 1)
          passed_two least' within both =
              passed_with least' within (λ from.
              ordering.left from
              ∙ rw (unordered_next there from) (lesser_assoc (row_found words from least) (row_found words from next) _ ∙ rw (both from)))

          pub ordering_lower : next < least → Ordering words levels' next (i + 1)
          ordering_lower h = passed_two next (le_of_lt (next_below there)) (λ from. lesser_next words from least next h ordering.within)

          pub ordering_kept : least ≤ next → Ordering words levels' least (i + 1)
          ordering_kept h = passed_two least ordering.within (λ from. lesser_kept words from least next h)
