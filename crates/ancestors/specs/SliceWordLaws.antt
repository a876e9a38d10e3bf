-- Laws of looking an entity up in words. No contract cites this file.
use Prim.Native.Nat.{ℕ, zero, suc, ◌+◌, ◌-◌, ◌≤◌, ◌<◌, min}
use Rattle.std.proofs.Common.{arith, sym, ap, ◌∙◌, length-drop, drop-cons, drop-drop, take_all, eq-eqb, ne_eqb}
use Rattle.std.specs.Prelude.{◌≡◌, cond, List, [], eqb, length, take, drop, get_or}
use Rattle.std.proofs.Math.Option.{Option, some}
use Rattle.std.proofs.Math.ListN.{drop_of_length-le}
use Rattle.rules.specs.Facts.{compared}
use Rattle.rules.specs.Values.{Entity}
use Rattle.rules.specs.Loading.{loaded_as}
use Rattle.answers.specs.Answers.{head_in, entity_in}
use Rattle.ancestors.specs.SliceWords.{slice_of, slice_in, FoundAs}
use Rattle.std.specs.Prelude.{Some, None}
use denote.Ref.{Bor}

-- what is behind the end is nothing, from wherever it is looked at
drop_short : (words : List ℕ) (n : ℕ) → drop n words ≡ drop (min n (length words)) words
drop_short words n =
    compared n (length words)
    (λ h. let e : min n (length words) ≡ n = omega arith in rw e)
    (λ h.
    let e : min n (length words) ≡ length words = omega arith in
    let here : length words ≤ length words = omega arith in
    rw (e, drop_of_length-le words h) (sym (drop_of_length-le words here)))

-- The entities up to a place are others.
pub record Passing (words : List ℕ) (id at : ℕ) : Type 0 where
  pub most : ℕ
  pub enough : length words ≤ at + most
  pub sofar : loaded_as id (slice_in words) ≡ loaded_as id (slice_of most (drop at words))

module _ {words : List ℕ} {id at : ℕ} (passing : Passing words id at) where
  -- no word is left
  pub found_nothing : length words ≤ at → FoundAs (loaded_as id (slice_in words)) None
  unfolding slice_of loaded_as
  found_nothing h = rw (passing.sofar, drop_of_length-le words h) (go passing.most)
    where
      go : (most : ℕ) → FoundAs (loaded_as id (slice_of most [])) None
      go zero = tt
      go (suc most) = tt

  module _ (more : at < length words) (start end : ℕ)
      (is-start : start ≡ min (at + 1 + (head_in (get_or words at 0)).parents) (length words))
      (is-end : end ≡ min (start + (head_in (get_or words at 0)).rows) (length words)) where
    -- the place after it
    pub past_entity : (at < end) × (end ≤ length words) × (start ≤ end)
    past_entity =
        (omega arith, omega arith, omega arith)

    -- its rows, and what is behind them
    starts : drop (head_in (get_or words at 0)).parents (drop (suc at) words) ≡ drop start words
    starts =
        let place : suc at + (head_in (get_or words at 0)).parents ≡ at + 1 + (head_in (get_or words at 0)).parents = omega arith in
        drop-drop (head_in (get_or words at 0)).parents (suc at) words ∙ rw (place, is-start) (drop_short words _)

    rows_there : take (head_in (get_or words at 0)).rows (drop start words) ≡ take (end - start) (drop start words)
    rows_there =
        compared (start + (head_in (get_or words at 0)).rows) (length words)
        (λ h. let e : end - start ≡ (head_in (get_or words at 0)).rows = omega arith in rw e)
        (λ h.
        let (_, _, ordered) = past_entity in
        let left = length-drop start words in
        take_all (head_in (get_or words at 0)).rows (drop start words) (omega arith)
        ∙ sym (take_all (end - start) (drop start words) (omega arith)))

    behind : drop ((head_in (get_or words at 0)).parents + (head_in (get_or words at 0)).rows) (drop (suc at) words) ≡ drop end words
    behind =
        sym (drop-drop (head_in (get_or words at 0)).rows (head_in (get_or words at 0)).parents (drop (suc at) words))
        ∙ ap (drop (head_in (get_or words at 0)).rows) starts
        ∙ drop-drop (head_in (get_or words at 0)).rows start words
        ∙ rw is-end (drop_short words (start + (head_in (get_or words at 0)).rows))

    -- the entities from here on
    abbrev from_here : ℕ → Option Entity
    from_here most =
        cond (eqb (head_in (get_or words at 0)).flag id) (some (entity_in (head_in (get_or words at 0)) (drop (suc at) words)))
        (loaded_as id (slice_of most (drop end words)))

    here : (most : ℕ) → loaded_as id (slice_of (suc most) (drop at words)) ≡ from_here most
    unfolding slice_of loaded_as
    here most = rw (drop-cons words at 0 more, behind)

    one_more : (most : ℕ) × (length words ≤ end + most) × (loaded_as id (slice_in words) ≡ from_here most)
    one_more = go passing.most passing.enough passing.sofar
      where
        go :
            (most : ℕ)
            → length words ≤ at + most
            → loaded_as id (slice_in words) ≡ loaded_as id (slice_of most (drop at words))
            → (most : ℕ) × (length words ≤ end + most) × (loaded_as id (slice_in words) ≡ from_here most)
        go zero enough e = absurd (omega arith)
        go (suc most) enough e = let (after, _, _) = past_entity in (most, omega arith, e ∙ here most)

    -- it is the one
    pub found_here : (values : Bor (List ℕ)) → values.now ≡ take (end - start) (drop start words) →
        (head_in (get_or words at 0)).flag ≡ id → FoundAs (loaded_as id (slice_in words)) (Some values)
    found_here values is e =
        let (most, enough, sofar) = one_more in
        rw (sofar, eq-eqb (head_in (get_or words at 0)).flag id e) (rw (starts, rows_there, is))

    -- it is another
    pub passing_next : ((head_in (get_or words at 0)).flag ≡ id → ⊥) → Passing words id end
    passing_next other =
        let (most, enough, sofar) = one_more in
        record { most = most; enough = enough; sofar = sofar ∙ rw (ne_eqb (head_in (get_or words at 0)).flag id other) }
