-- Laws of attributes between two places, and of the type that a run of lines gives a key, by a search. No contract cites this file.
use Rattle.std.specs.Prelude.{ℕ, suc, ◌+◌, ◌-◌, ◌/◌, ◌%◌, ◌^◌, ◌≤◌, ◌<◌, ◌≡◌, refl, List, [], ◌∷◌, eqb, ltb, length, take, drop, get_or}
use Rattle.std.proofs.Common.{arith, sym, ap, ltb-true, length-take, length-drop}
use Rattle.std.proofs.Math.Option.{none, some}
use Rattle.std.proofs.lemmas.List.{length-map}
use Rattle.rules.specs.Facts.{by_test}
use Rattle.rules.specs.Paths.{attribute_type}
use Rattle.rules.specs.Schema.{attributes_of}
use Rattle.rules.proofs.TypeLaws.{Ascends, attribute_past, attributes_first}
use Rattle.rules.proofs.WalkLaws.{take-map}
use Rattle.schema.specs.Items.{item_in, items_of}
use Rattle.words.specs.Keys.{searched, later}
use Rattle.std.specs.Prelude.{Result, Ok, Err}
use Rattle.rows.specs.Words.{number_for}
use Rattle.type_table.specs.Tables.{value_at, value_named}

-- ---- attributes between two places

module _ (words : List ℕ) (first : ℕ) {end : ℕ} (ends : end ≡ first + length (attributes_of (items_of (drop first words)))) where
  pub attributes_cut : items_of (take (end - first) (drop first words)) ≡ attributes_of (items_of (drop first words))
  attributes_cut =
      let many : end - first ≡ length (attributes_of (items_of (drop first words))) = omega arith in
      rw (← take-map item_in (end - first) (drop first words), many) (attributes_first (items_of (drop first words)))

  pub attributes_inside : first ≤ length words → end ≤ length words
  attributes_inside begins =
      let lines = items_of (drop first words) in
      omega (
        arith,
        ap length (attributes_first lines),
        length-take (length (attributes_of lines)) lines,
        length-map (drop first words) item_in,
        length-drop first words,
      )

-- ---- a key in a run of lines

found_attribute :
    (words : List ℕ) (key place : ℕ)
    → searched words key ≡ Ok place
    → (place < length words) × (attribute_type key (items_of words) ≡ some (get_or words place 0 / 16 % 2 ^ 36))
unfolding searched attribute_type
found_attribute [] key place e = let z : ◌≡◌ {A = ℕ} 0 1 = cc in absurd (omega arith)
found_attribute (w ∷ words) key place e =
    by_test (eqb (w / 2 ^ 40) key)
    (λ here.
    let first : Ok 0 ≡ Ok place = rw here at e in
    let zero_place : 0 ≡ place = cc in
    rw (← zero_place, here) (omega arith, refl))
    (λ other.
    by_test (ltb key (w / 2 ^ 40))
    (λ past. let given = rw (other, past) at e in let z : ◌≡◌ {A = ℕ} 0 1 = cc in absurd (omega arith))
    (λ low. rw other (go (λ p. found_attribute words key p) (searched words key) refl (rw (other, low) at e))))
  where
    go :
        ((p : ℕ) → searched words key ≡ Ok p → (p < length words) × (attribute_type key (items_of words) ≡ some (get_or words p 0 / 16 % 2 ^ 36)))
        → (s : Result ℕ ℕ)
        → searched words key ≡ s
        → later s ≡ Ok place
        → (place < suc (length words)) × (attribute_type key (items_of words) ≡ some (get_or (w ∷ words) place 0 / 16 % 2 ^ 36))
    go again (Ok p) found e =
        let next : suc p ≡ place = cc in
        let (inside, type) = again p found in
        rw (← next) (omega arith, type)
    go again (Err p) found e = let z : ◌≡◌ {A = ℕ} 0 1 = cc in absurd (omega arith)

missing_attribute :
    (words : List ℕ) (key place least : ℕ)
    → Ascends least (items_of words)
    → searched words key ≡ Err place
    → attribute_type key (items_of words) ≡ none
unfolding searched attribute_type Ascends
missing_attribute [] key place least ascends e = refl
missing_attribute (w ∷ words) key place least ascends e =
    by_test (eqb (w / 2 ^ 40) key)
    (λ here. let given = rw here at e in let z : ◌≡◌ {A = ℕ} 0 1 = cc in absurd (omega arith))
    (λ other.
    by_test (ltb key (w / 2 ^ 40))
    (λ past. rw other (attribute_past key (w / 2 ^ 40 + 1) (items_of words) (omega (arith, ltb-true key (w / 2 ^ 40) past)) ascends.1))
    (λ low.
    rw other
    (go (λ p. missing_attribute words key p (w / 2 ^ 40 + 1) ascends.1) (searched words key) refl (rw (other, low) at e))))
  where
    go :
        ((p : ℕ) → searched words key ≡ Err p → attribute_type key (items_of words) ≡ none)
        → (s : Result ℕ ℕ)
        → searched words key ≡ s
        → later s ≡ Err place
        → attribute_type key (items_of words) ≡ none
    go again (Ok p) found e = let z : ◌≡◌ {A = ℕ} 0 1 = cc in absurd (omega arith)
    go again (Err p) found e = again p found

module _ (run : List ℕ) (key : ℕ) where
  -- a key that the run has, and its type
  pub key_inside : (place : ℕ) → searched run key ≡ Ok place → place < length run
  key_inside place found = (found_attribute run key place found).0

  pub type_found : (place : ℕ) → searched run key ≡ Ok place → get_or run place 0 / 16 % 2 ^ 36 + 1 ≡ number_for (value_named run key)
  type_found place found = rw found (omega arith)

  pub type_missing : (place : ℕ) → searched run key ≡ Err place → 0 ≡ number_for (value_named run key)
  type_missing place missing = rw missing

  -- attributes that ascend give a field its type so
  pub named_attribute : Ascends 0 (items_of run) → value_named run key ≡ attribute_type key (items_of run)
  named_attribute ascends = go (searched run key) refl
    where
      go : (s : Result ℕ ℕ) → searched run key ≡ s → value_at run s ≡ attribute_type key (items_of run)
      go (Ok place) e = sym (found_attribute run key place e).1
      go (Err place) e = sym (missing_attribute run key place 0 ascends e)
