-- Laws of the parts of a store's words (Runs). No contract cites this file.
use Rattle.std.specs.Prelude.{ℕ, ◌+◌, ◌-◌, ◌*◌, ◌/◌, ◌^◌, ◌≤◌, ◌<◌, ◌≢◌, ◌≡◌, refl, length, take, drop, get_or}
use Rattle.std.proofs.Math.Nat.{zero-add}
use Rattle.std.proofs.Common.{add-one, arith, ap, ◌∙◌, drop_of_length-le, drop-cons, drop-drop}
use mathlib.Core.List.{List, [], ◌∷◌, ◌++◌, map, append_assoc}
use borrow.Author.Tests.{eq-eqb, ne_eqb, le-ltb}
use Rattle.std.proofs.Math.Seq.{take-append_seam, drop-append_seam}
use Rattle.rules.specs.ValueRows.{ValueRow}
use Rattle.rules.specs.ValueTexts.{EntityRead}
use Rattle.values.specs.ValueWords.{value_word}
use Rattle.store_text.specs.Words.{parent_word, ancestor_word, store_words}
use Rattle.store_text.specs.Entities.{All, IsId, RowKept, EntityKept}
use Rattle.store_text.specs.Runs.{part_of, run_of}

-- ---- a run from a place on

module _ (part : ℕ) (words : List ℕ) (i : ℕ) where
  -- no word is left
  pub run_none : length words ≤ i → run_of part (drop i words) ≡ 0
  unfolding run_of
  run_none h = rw (drop_of_length-le words h)

  module _ (more : i < length words) where
    -- the next word is of another part, or of this one
    pub run_stops : part_of (get_or words i 0) ≢ part → run_of part (drop i words) ≡ 0
    unfolding run_of
    run_stops other = rw (drop-cons words i 0 more, ne_eqb (part_of (get_or words i 0)) part other)

    pub run_more : part_of (get_or words i 0) ≡ part → run_of part (drop i words) ≡ 1 + run_of part (drop (i + 1) words)
    unfolding run_of
    run_more same = rw (drop-cons words i 0 more, eq-eqb (part_of (get_or words i 0)) part same, add-one) (omega arith)

-- ---- a run of words of one part, and what stands behind it

module _ (part : ℕ) (rest : List ℕ) where
  run_all : (xs : List ℕ) → All (λ w. part_of w ≡ part) xs → run_of part (xs ++ rest) ≡ length xs + run_of part rest
  unfolding run_of All
  run_all [] all = rw zero-add
  run_all (x ∷ xs) (here, all) = rw (eq-eqb (part_of x) part here, run_all xs all) (omega arith)

  run_other : (xs : List ℕ) → All (λ w. part_of w ≢ part) xs → run_of part rest ≡ 0 → run_of part (xs ++ rest) ≡ 0
  unfolding run_of All
  run_other [] all none_there = none_there
  run_other (x ∷ xs) (here, all) none_there = rw (ne_eqb (part_of x) part here)

-- a run from a place on ends behind its words
pub record RunAt (words : List ℕ) (at end : ℕ) (xs rest : List ℕ) : Type 0 where
  pub after : end ≡ at + length xs
  pub left : drop end words ≡ rest
  pub run : take (end - at) (drop at words) ≡ xs

pub run_at : (part : ℕ) (words : List ℕ) (at : ℕ) (xs rest : List ℕ) {end : ℕ} → drop at words ≡ xs ++ rest → All (λ w. part_of w ≡ part) xs →
    run_of part rest ≡ 0 → end ≡ at + run_of part (drop at words) → RunAt words at end xs rest
run_at part words at xs rest {end} e all none_there found =
    let size : run_of part (drop at words) ≡ length xs = rw (e, run_all part rest xs all, none_there) (omega arith) in
    let ends : end ≡ at + length xs = omega arith in
    let long : end - at ≡ length xs = omega arith in
    record {
      after = ends;
      left = rw (ends, ← drop-drop (length xs) at words, e) (drop-append_seam xs rest);
      run = rw (long, e) (take-append_seam xs rest);
    }

-- ---- the parts of an entity

pub all_map : {A : Type 0} (P : A → Type 0) (Q : ℕ → Type 0) (f : A → ℕ) (xs : List A) → ((a : A) → P a → Q (f a)) → All P xs → All Q (map f xs)
unfolding All
all_map P Q f [] h all = tt
all_map P Q f (x ∷ xs) h (here, all) = (h x here, all_map P Q f xs h all)

entity_part : (n : ℕ) → IsId n → part_of n ≡ 0
entity_part n h = let low : n / 2 ^ 16 ≡ 0 = omega arith in rw low

parent_part : (n : ℕ) → IsId n → part_of (parent_word n) ≡ 1
parent_part n h = let low : (n + 2 ^ 16) / 2 ^ 16 ≡ 1 = omega arith in rw low

ancestor_part : (n : ℕ) → IsId n → part_of (ancestor_word n) ≡ 2
ancestor_part n h = let low : (n + 2 * 2 ^ 16) / 2 ^ 16 ≡ 2 = omega arith in rw low

row_part : (x : ValueRow) → RowKept x → part_of (value_word x) ≡ 3
row_part x (formed, deep) = rw (le-ltb (value_word x / 2 ^ 16) 3 (omega (arith, deep)))

-- another entity begins, or there is none
run_entities : (part : ℕ) (es : List EntityRead) → 0 < part → All EntityKept es → run_of part (store_words es) ≡ 0
unfolding run_of store_words All
run_entities part [] h all = refl
run_entities part (e ∷ es) h (here, all) = rw (ne_eqb (part_of e.id) part (λ same. omega (arith, entity_part e.id here.own)))

-- an entity from a place on: where its parents, its ancestors and its rows end
pub record EntityAt (words : List ℕ) (i parents_end start end : ℕ) (e : EntityRead) (more : List EntityRead) : Type 0 where
  pub parents : RunAt words (i + 1) parents_end (map parent_word e.parents) (map ancestor_word e.ancestors ++ (map value_word e.value.rows ++ store_words more))
  pub ancestors : RunAt words parents_end start (map ancestor_word e.ancestors) (map value_word e.value.rows ++ store_words more)
  pub rows : RunAt words start end (map value_word e.value.rows) (store_words more)

pub entity-at : (words : List ℕ) (i : ℕ) (e : EntityRead) (more : List EntityRead) {parents_end start end : ℕ} → EntityKept e → All EntityKept more →
    drop i words ≡ store_words (e ∷ more) →
    parents_end ≡ i + 1 + run_of 1 (drop (i + 1) words) → start ≡ parents_end + run_of 2 (drop parents_end words) →
    end ≡ start + run_of 3 (drop start words) → EntityAt words i parents_end start end e more
unfolding store_words
entity-at words i e more here all left p u r =
    let ps = map parent_word e.parents in
    let us = map ancestor_word e.ancestors in
    let vs = map value_word e.value.rows in
    let behind : drop (i + 1) words ≡ ps ++ (us ++ (vs ++ store_words more)) =
    rw (← drop-drop 1 i words, left) (append_assoc ps (us ++ vs) (store_words more) ∙ ap (λ (l : List ℕ). ps ++ l) (append_assoc us vs (store_words more))) in
    let no_row : run_of 2 (vs ++ store_words more) ≡ 0 =
    run_other 2 (store_words more) vs
    (all_map RowKept (λ w. part_of w ≢ 2) value_word e.value.rows (λ x k same. omega (arith, row_part x k)) here.rows)
    (run_entities 2 more (omega arith) all) in
    let no_row_1 : run_of 1 (vs ++ store_words more) ≡ 0 =
    run_other 1 (store_words more) vs
    (all_map RowKept (λ w. part_of w ≢ 1) value_word e.value.rows (λ x k same. omega (arith, row_part x k)) here.rows)
    (run_entities 1 more (omega arith) all) in
    let no_ancestor : run_of 1 (us ++ (vs ++ store_words more)) ≡ 0 =
    run_other 1 (vs ++ store_words more) us
    (all_map IsId (λ w. part_of w ≢ 1) ancestor_word e.ancestors (λ n k same. omega (arith, ancestor_part n k)) here.ancestors) no_row_1 in
    let parents = run_at 1 words (i + 1) ps (us ++ (vs ++ store_words more)) behind (all_map IsId (λ w. part_of w ≡ 1) parent_word e.parents parent_part here.parents) no_ancestor p in
    let ancestors = run_at 2 words _ us (vs ++ store_words more) parents.left (all_map IsId (λ w. part_of w ≡ 2) ancestor_word e.ancestors ancestor_part here.ancestors) no_row u in
    record {
      parents = parents;
      ancestors = ancestors;
      rows = run_at 3 words _ vs (store_words more) ancestors.left (all_map RowKept (λ w. part_of w ≡ 3) value_word e.value.rows row_part here.rows) (run_entities 3 more (omega arith) all) r;
    }
