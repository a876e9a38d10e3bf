-- Laws of the order of elements in a store (Entities). No contract cites this file.
use Prim.Native.Nat.{ℕ, suc, ◌+◌, ◌-◌, ◌≤◌, ◌<◌}
use Rattle.std.proofs.Common.{arith, sym, ◌∙◌, leb-true, ltb-true, eqb-true, lt-ltb, drop_of_length-le}
use Rattle.std.specs.Prelude.{true, ◌≡◌, refl, leb, ltb, take, Option as Maybe, Some, None}
use mathlib.Core.List.{List, [], ◌∷◌, ◌++◌, map}
use Rattle.std.proofs.Math.Option.{Option, none, some}
use Rattle.std.proofs.Math.Path.{ap}
use Rattle.std.proofs.Math.Nat.{zero-add}
use Rattle.std.proofs.Math.ListN.{length, drop, length-drop, length-map}
use Rattle.rules.specs.Facts.{by_test, both_true}
use Rattle.rules.specs.ValueRows.{ValueRow}
use Rattle.rules.specs.ValueRowTests.{Level, is_value_row, in_turn, inside_value, level_at, levels_after}
use Rattle.rules.specs.ValueTexts.{EntityRead, field_level, unordered, unordered_in, lesser, least_of}
use Rattle.rules.proofs.ValueTextLaws.{may_pass}
use Rattle.values.specs.ValueWords.{value_row_in, value_rows_of, value_word}
use Rattle.value_text.specs.Rows.{place_found, Misplaced}
use Rattle.value_text.specs.LineLaws.{row_again}
use Rattle.value_text.specs.RowLaws.{lesser_assoc}
use Rattle.store_text.specs.Words.{parent_word, ancestor_word, store_words}
use Rattle.store_text.specs.Entities.{All, RowKept, EntityKept, HoldsEntities, OrderFound}
use Rattle.store_text.specs.Runs.{run_of}
use Rattle.store_text.specs.RunLaws.{EntityAt, entity-at}

-- ---- the rows of a run of words

row_kind : (x : ValueRow) → is_value_row x ≡ true → value_row_in (value_word x) ≡ x
row_kind x formed =
    let (kind, more) = both_true (leb x.kind 4) _ formed in
    let (key, number) = both_true (ltb x.key 65536) _ more in
    let low : x.kind ≤ 4 = leb-true _ _ kind in
    let named : x.key < 65536 = ltb-true _ _ key in
    row_again x.depth x.key x.kind x.number named (omega arith)
    (by_test (ltb x.kind 3)
    (λ t. ltb-true _ _ (rw t at number))
    (λ t. let zero_there : x.number ≡ 0 = eqb-true _ _ (rw t at number) in omega arith))

rows_again : (rows : List ValueRow) → All RowKept rows → value_rows_of (map value_word rows) ≡ rows
unfolding All
rows_again [] all = refl
rows_again (x ∷ rows) (here, all) = rw (row_kind x here.0, rows_again rows all)

-- ---- the least of some places

least_append : (a b : List ℕ) → least_of (a ++ b) ≡ lesser (least_of a) (least_of b)
unfolding least_of
least_append [] b = refl
least_append (n ∷ a) b = rw (least_append a b) (lesser_assoc (some n) (least_of a) (least_of b))

-- a place, if there is one, that is not before another
abbrev NotBefore : ℕ → Option ℕ → Type 0
NotBefore p none = Unit
NotBefore p (some q) = p ≤ q

not_before_least : (p : ℕ) (a b : Option ℕ) → NotBefore p a → NotBefore p b → NotBefore p (lesser a b)
not_before_least p none b h k = k
not_before_least p (some n) none h k = h
not_before_least p (some n) (some m) h k = by_test (ltb n m) (λ t. rw t h) (λ t. rw t k)

earlier_place : (p q : ℕ) (o : Option ℕ) → p ≤ q → NotBefore q o → NotBefore p o
earlier_place p q none h k = tt
earlier_place p q (some n) h k = omega arith

not_before_rows : (levels : List Level) (place : ℕ) (rows : List ValueRow) → NotBefore place (least_of (unordered levels place rows))
unfolding unordered least_of
not_before_rows levels place [] = tt
not_before_rows levels place (x ∷ rows) =
    let behind = least_of (unordered (levels_after 1 levels x) (suc place) rows) in
    let rest = earlier_place place (suc place) behind (omega arith) (not_before_rows (levels_after 1 levels x) (suc place) rows) in
    by_test (in_turn (level_at 1 levels x.depth) x rows)
    (λ t. rw t rest)
    (λ t. rw t (not_before_least place (some (suc place + length (inside_value x.depth rows))) behind (omega arith) rest))

not_before_entities : (place : ℕ) (es : List EntityRead) → NotBefore place (least_of (unordered_in place es))
unfolding unordered_in least_of
not_before_entities place [] = tt
not_before_entities place (e ∷ es) =
    let rows = suc place + length e.parents + length e.ancestors in
    let later = rows + length e.value.rows in
    let own = least_of (unordered field_level rows e.value.rows) in
    let others = least_of (unordered_in later es) in
    rw (least_append (unordered field_level rows e.value.rows) (unordered_in later es))
    (not_before_least place own others
    (earlier_place place rows own (omega arith) (not_before_rows field_level rows e.value.rows))
    (earlier_place place later others (omega arith) (not_before_entities later es)))

first_least : (n p : ℕ) (o : Option ℕ) → n < p → NotBefore p o → lesser (some n) o ≡ some n
first_least n p none h k = refl
first_least n p (some m) h k = rw (lt-ltb n m (omega arith))

-- ---- entity after entity

-- the entities up to a place have no element out of order
pub record EntitiesPassed (words : List ℕ) (es : List EntityRead) (i : ℕ) : Type 0 where
  pub rest : List EntityRead
  pub left : drop i words ≡ store_words rest
  pub kept : All EntityKept rest
  pub least : least_of (unordered_in 0 es) ≡ least_of (unordered_in i rest)

pub passing_none : (words : List ℕ) (es : List EntityRead) → HoldsEntities words es → EntitiesPassed words es 0
passing_none words es holds = record { rest = es; left = holds.same; kept = holds.kept; least = refl }

-- no word is left
pub passing_all : (words : List ℕ) (i : ℕ) → length words ≤ i → ((es : List EntityRead) → HoldsEntities words es → EntitiesPassed words es i) →
    OrderFound words None
unfolding store_words unordered_in least_of
passing_all words i all passing = record {
  within = λ n e. absurd (let z : ◌≡◌ {A = ℕ} 0 1 = cc in omega arith);
  least = λ es holds. let here = passing es holds in here.least ∙ go here.rest (sym (drop_of_length-le words all) ∙ here.left);
}
  where
    go : (rest : List EntityRead) → [] ≡ store_words rest → least_of (unordered_in i rest) ≡ none
    go [] e = refl
    go (e ∷ rest) same = absurd (let z : ◌≡◌ {A = ℕ} 0 1 = cc in omega arith)

-- where the parts of the next entity end, as runs of words
pub record Parts (words : List ℕ) (i parents_end start end : ℕ) : Type 0 where
  pub more : i < length words
  pub parents : parents_end ≡ i + 1 + run_of 1 (drop (i + 1) words)
  pub ancestors : start ≡ parents_end + run_of 2 (drop parents_end words)
  pub rows : end ≡ start + run_of 3 (drop start words)

-- the next entity
record Next (words : List ℕ) (i parents_end start end : ℕ) (es : List EntityRead) : Type 0 where
  e : EntityRead
  others : List EntityRead
  kept : EntityKept e
  later : All EntityKept others
  there : EntityAt words i parents_end start end e others
  least : least_of (unordered_in 0 es) ≡ least_of (unordered_in i (e ∷ others))

module _ {words : List ℕ} {i parents_end start end : ℕ} (parts : Parts words i parents_end start end) where
  next_entity : {es : List EntityRead} → EntitiesPassed words es i → Next words i parents_end start end es
  unfolding store_words All
  next_entity {es} passing = go passing.rest passing.left passing.kept passing.least
    where
      go : (rest : List EntityRead) → drop i words ≡ store_words rest → All EntityKept rest → least_of (unordered_in 0 es) ≡ least_of (unordered_in i rest) →
          Next words i parents_end start end es
      go [] left kept least = absurd (omega (arith, parts.more, ap length left, length-drop i words))
      go (e ∷ rest) left kept least = record {
        e = e;
        others = rest;
        kept = kept.0;
        later = kept.1;
        there = entity-at words i e rest kept.0 kept.1 left parts.parents parts.ancestors parts.rows;
        least = least;
      }

  -- its rows may pass
  pub next_pass : {es : List EntityRead} → EntitiesPassed words es i → may_pass field_level (value_rows_of (take (end - start) (drop start words))) ≡ true
  next_pass passing =
      let next = next_entity passing in
      rw (next.there.rows.run, rows_again next.e.value.rows next.kept.rows) next.kept.came.0

  module _ {r : Maybe ℕ} (found : Misplaced (take (end - start) (drop start words)) r) where
    least_next : {es : List EntityRead} (passing : EntitiesPassed words es i) →
        let next = next_entity passing in
        (least_of (unordered_in 0 es) ≡ lesser (place_found start r) (least_of (unordered_in end next.others)))
    unfolding unordered_in
    least_next passing =
        let next = next_entity passing in
        let rows = next.e.value.rows in
        let first : suc i + length next.e.parents + length next.e.ancestors ≡ start =
        omega (arith, next.there.parents.after, next.there.ancestors.after, length-map next.e.parents parent_word, length-map next.e.ancestors ancestor_word) in
        let size : length rows ≡ end - start = omega (arith, next.there.rows.after, length-map rows value_word) in
        let last : start + (end - start) ≡ end = omega (arith, next.there.rows.after) in
        let judged : least_of (unordered field_level start rows) ≡ place_found start r =
        rw (next.there.rows.run, rows_again rows next.kept.rows) at (found.least start) in
        next.least ∙ rw (first, least_append (unordered field_level start rows) (unordered_in (start + length rows) next.others), judged, size, last)

    -- the first element out of order is one of its own
    pub passing_found : {n : ℕ} → r ≡ Some n → n < end - start → start + n < length words → ((es : List EntityRead) → HoldsEntities words es → EntitiesPassed words es i) →
        OrderFound words (Some (start + n))
    passing_found {n} there h inside passing = record {
      within = λ m e. let same : start + n ≡ m = cc in omega arith;
      least = λ es holds.
          let others = (next_entity (passing es holds)).others in
          least_next (passing es holds)
          ∙ rw (there, zero-add)
          (first_least (start + n) end (least_of (unordered_in end others)) (omega arith) (not_before_entities end others));
    }

    -- or it has none
    pub passing_next : {es : List EntityRead} → r ≡ None → EntitiesPassed words es i → EntitiesPassed words es end
    passing_next not_there passing =
        let next = next_entity passing in
        record {
          rest = next.others;
          left = next.there.rows.left;
          kept = next.later;
          least = least_next passing ∙ rw not_there refl;
        }
