-- Laws of answers merged one after the other, as rows. No contract cites this file.
use Rattle.std.specs.Prelude.{ℕ, ◌+◌, ◌-◌, ◌≤◌, ◌≡◌, take, drop}
use Rattle.std.proofs.Common.{arith, sym, ◌∙◌, length-take}
use Rattle.std.proofs.Math.Path.{ap}
use mathlib.Core.List.{List, [], ◌∷◌, map}
use Rattle.std.proofs.Math.Option.{Option, none, some, none-ne-some, some-injective}
use Rattle.std.proofs.Math.ListN.{length}
use Rattle.std.proofs.lemmas.List.{length-map}
use Rattle.rules.specs.Facts.{cond-some}
use Rattle.rules.specs.Tries.{Next, first, second, same, next}
use Rattle.rules.specs.ValueRows.{
  ValueRow,
  placed_row,
  inside_at,
  inside_after,
  onto_rows,
  alone_row,
  agree_rows,
  both_rows,
  merge_right,
  merge_onto,
  merge_rows,
}
use Rattle.rules.proofs.MergeLaws.{bind_given}
use Rattle.words.specs.Runs.{Wrote}
use Rattle.words.specs.RunLaws.{taken_back}
use Rattle.values.specs.ValueWords.{value_row_in, value_rows_of, value_word}
use Rattle.merging.specs.Merges.{WroteRows, MergedInto}
use Rattle.std.specs.Prelude.{Option as Maybe, Some, None}
use Rattle.slices.specs.Slices.{parent_count, row_count, rows_at}
use Rattle.slices.specs.Writing.{MayMerge}

-- ---- how many rows a merge has

module _ (x : ValueRow) (rest : Option (List ValueRow)) (c : List ValueRow) where
  onto_given : onto_rows x rest ≡ some c → (more : List ValueRow) × (rest ≡ some more) × (x ∷ more ≡ c)
  onto_given e = let (more, given, is) = bind_given rest _ e in (more, given, some-injective _ _ is)

  alone_given : (inside : Option ℕ) → alone_row inside x rest ≡ some c → (more : List ValueRow) × (rest ≡ some more) × (x ∷ more ≡ c)
  alone_given inside e = go (inside_at inside x) e
    where
      go : (o : Option ℕ) → (elim o [ none ↦ onto_rows x rest | some depth ↦ none ]) ≡ some c
          → (more : List ValueRow) × (rest ≡ some more) × (x ∷ more ≡ c)
      go none e = onto_given e
      go (some depth) e = absurd (none-ne-some c e)

  both_given : (y : ValueRow) → both_rows x y rest ≡ some c → (more : List ValueRow) × (rest ≡ some more) × (x ∷ more ≡ c)
  both_given y e = onto_given (cond-some (agree_rows x y) (onto_rows x rest) c e).1

-- at least as many as the left run, and at most as many as both
pub record Sized (a b c : List ValueRow) : Type 0 where
  pub low : length a ≤ length c
  pub high : length c ≤ length a + length b

sized_right : (inside : Option ℕ) (b c : List ValueRow) → merge_right inside b ≡ some c → Sized [] b c
unfolding merge_right
sized_right inside [] c e = let is = ap length (some-injective [] c e) in record { low = omega arith; high = omega arith }
sized_right inside (y ∷ b) c e =
    let (more, given, is) = alone_given y (merge_right none b) c inside e in
    let rest = sized_right none b more given in
    let count = ap length is in
    record { low = omega arith; high = omega (arith, rest.high) }

module _
    (x : ValueRow) (a : List ValueRow) (rest : Option ℕ → List ValueRow → Option (List ValueRow))
    (ih : (now : Option ℕ) (b c : List ValueRow) → rest now b ≡ some c → Sized a b c)
  where
    sized_onto : (inside : Option ℕ) (b c : List ValueRow) → merge_onto x rest inside b ≡ some c → Sized (x ∷ a) b c
    unfolding merge_onto
    sized_onto inside [] c e =
        let (more, given, is) = alone_given x (rest none []) c inside e in
        let before = ih none [] more given in
        let count = ap length is in
        record { low = omega (arith, before.low); high = omega (arith, before.high) }
    sized_onto inside (y ∷ b) c e = go (next (placed_row x) (placed_row y)) (sized_onto none b) e
      where
        go :
            (n : Next)
            → ((more : List ValueRow) → merge_onto x rest none b ≡ some more → Sized (x ∷ a) b more)
            → (elim n [
              | first ↦ alone_row inside x (rest none (y ∷ b))
              | second ↦ alone_row inside y (merge_onto x rest none b)
              | same ↦ both_rows x y (rest (inside_after inside x) b)
            ]) ≡ some c
            → Sized (x ∷ a) (y ∷ b) c
        go first right e =
            let (more, given, is) = alone_given x (rest none (y ∷ b)) c inside e in
            let before = ih none (y ∷ b) more given in
            let count = ap length is in
            record { low = omega (arith, before.low); high = omega (arith, before.high) }
        go second right e =
            let (more, given, is) = alone_given y (merge_onto x rest none b) c inside e in
            let before = right more given in
            let count = ap length is in
            record { low = omega (arith, before.low); high = omega (arith, before.high) }
        go same right e =
            let (more, given, is) = both_given x (rest (inside_after inside x) b) c y e in
            let before = ih (inside_after inside x) b more given in
            let count = ap length is in
            record { low = omega (arith, before.low); high = omega (arith, before.high) }

pub sized : (inside : Option ℕ) (a b c : List ValueRow) → merge_rows inside a b ≡ some c → Sized a b c
unfolding merge_rows
sized inside [] b c e = sized_right inside b c e
sized inside (x ∷ a) b c e = sized_onto x a (λ now. merge_rows now a) (λ now b c e. sized now a b c e) inside b c e

-- ---- one answer more

module _
    (words : List ℕ) (place : ℕ) (out : List ℕ) (from size : ℕ) (scratch : List ℕ)
    (may : MayMerge words place out from size scratch)
    {start end held : ℕ}
    (starts : start ≡ place + 1 + parent_count words place)
    (ends : end ≡ place + 1 + parent_count words place + row_count words place)
    (holds : held ≡ from + size)
    (scratch' : List ℕ) (r : Maybe ℕ)
    (done : MergedInto (merge_rows none (value_rows_of (take (held - from) (drop from out)))
    (value_rows_of (take (end - start) (drop start words)))) scratch 0 scratch' r)
  where
    merged_runs : merge_rows none (value_rows_of (take (held - from) (drop from out))) (value_rows_of (take (end - start) (drop start words)))
        ≡ some may.rows
    merged_runs =
        let left : held - from ≡ size = omega arith in
        let right : end - start ≡ row_count words place = omega arith in
        rw (left, right, starts) may.merged

    wrote_rows : WroteRows may.rows scratch 0 scratch' r
    wrote_rows = rw merged_runs at done

    pub more_merges : r ≡ None → ⊥
    more_merges e = let z : ◌≡◌ {A = ℕ} 0 1 = cc wrote_rows.answer in omega arith

    module _ {merged : ℕ} (to : r ≡ Some merged) where
      pub more_count : merged ≡ length may.rows
      more_count = let e : 0 + length may.rows ≡ merged = cc wrote_rows.answer in omega arith

      pub more_few : merged ≤ size + row_count words place
      more_few =
          omega (
            arith,
            (sized none _ _ may.rows may.merged).high,
            more_count,
            length-map (take size (drop from out)) value_row_in,
            length-map (rows_at words place) value_row_in,
            length-take size (drop from out),
            length-take (row_count words place) (drop (place + 1 + parent_count words place) words),
          )

      pub more_words : take merged scratch' ≡ map value_word may.rows
      more_words =
          let count : length (map value_word may.rows) ≡ merged = length-map may.rows value_word ∙ sym more_count in
          rw (wrote_rows.text, ← count)
          (taken_back scratch (map value_word may.rows) (omega (arith, count, more_few, may.scratch_room)))

      -- and copied back they are written
      pub more_wrote :
          (out' : List ℕ) (after : ℕ)
          → Wrote out from (take merged scratch') out' after
          → (rows : List ValueRow)
          → merge_rows none (value_rows_of (take size (drop from out))) (value_rows_of (rows_at words place)) ≡ some rows
          → Wrote out from (map value_word rows) out' (from + merged)
      more_wrote out' after wrote rows given =
          let is : may.rows ≡ rows = some-injective _ _ (sym may.merged ∙ given) in
          rw (← is) (record {
            after = ap (λ n. from + n) (more_count ∙ sym (length-map may.rows value_word));
            text = wrote.text ∙ rw more_words;
          })
