-- Laws of finding a place in rows (Tries): what `found` answers, and how one pass finds it. No contract cites this file.
use Rattle.std.specs.Prelude.{ℕ, ◌+◌, ◌≤◌, ◌<◌, ◌≡◌, refl, ◌↔◌, ◌⊎◌, Bool, true, List, [], ◌∷◌, ◌++◌, eqb, get_or}
use Rattle.std.proofs.Common.{arith, le_refl, le_of_lt, add-one, sym, ◌∙◌, length-append, length-take, take-suc, take-take, eqb-true, eq-eqb}
use Rattle.std.proofs.Math.Path.{ap}
use Rattle.std.proofs.Math.Logic.{inl, inr, ⊎_elim}
use Rattle.std.proofs.Math.Bool.{and-eq-true_iff}
use Rattle.std.proofs.lemmas.Bool.{false≢true}
use Rattle.std.proofs.Math.Option.{Option, none, some, none-ne-some}
use Rattle.std.proofs.Math.ListN.{length, take}
use Rattle.std.proofs.Math.Seq.{take_all, length-take-le}
use Rattle.std.proofs.lemmas.List.{take-append-le}
use Rattle.rules.specs.Facts.{by_test, compared}
use Rattle.rules.specs.Tries.{Row, at, Has, Marked, ordered, same_list, found}
use Rattle.rules.proofs.WalkLaws.{kept_down}
use Rattle.rules.proofs.TrieLaws.{Ordered, ordered_true, length_at, step_at, above_at, marked_stands, first_stands, take_above}
pub use Rattle.rules.specs.PlaceLaws.{Common, Sought}

-- What `found` answers.

-- the test of two lists says whether they are equal
pub same-list : (xs ys : List ℕ) → (same_list xs ys ≡ true) ↔ (xs ≡ ys)
unfolding same_list
same-list [] [] = (λ _. refl, λ _. refl)
same-list [] (y ∷ ys) = (λ e. absurd (false≢true e), λ e. cc)
same-list (x ∷ xs) [] = (λ e. absurd (false≢true e), λ e. cc)
same-list (x ∷ xs) (y ∷ ys) = (
  λ e. let (first, rest) = (and-eq-true_iff (eqb x y) _).0 e in cc (eqb-true x y first, (same-list xs ys).0 rest),
  λ e. (and-eq-true_iff (eqb x y) _).1 (eq-eqb x y (cc), (same-list xs ys).1 (cc)),
)

-- two lists are equal or not
same_or_not : (xs ys : List ℕ) {A : Type 0} → (xs ≡ ys → A) → ((xs ≡ ys → ⊥) → A) → A
same_or_not xs ys same_then other-then =
    by_test (same_list xs ys)
    (λ e. same_then ((same-list xs ys).0 e))
    (λ e. other-then (λ p. false≢true (sym e ∙ (same-list xs ys).1 p)))

module _ (s : List ℕ) (row : Row) (rows : List Row) (place : List ℕ) where
  -- where the first row is at the place, the answer is its mark
  pub found_here : at s row ≡ place → found s (row ∷ rows) place ≡ some row.mark
  unfolding found
  found_here e = rw ((same-list (at s row) place).1 e)

  -- where it is not, the answer is that of the others
  pub found_later : (at s row ≡ place → ⊥) → found s (row ∷ rows) place ≡ found (at s row) rows place
  unfolding found
  found_later other =
      by_test (same_list (at s row) place) (λ e. absurd (other ((same-list (at s row) place).0 e))) (λ e. rw e)

-- a place is found exactly where the rows have it
pub found_has :
    (s : List ℕ) (rows : List Row) (place : List ℕ)
    → Has s rows place ↔ ((mark : Bool) × (found s rows place ≡ some mark))
unfolding Has found
found_has s [] place = (λ h. absurd h, λ h. none-ne-some h.0 h.1)
found_has s (row ∷ rows) place =
    same_or_not (at s row) place
    (λ e. (λ _. (row.mark, found_here s row rows place e), λ _. inl (sym e)))
    (λ other.
    rw (found_later s row rows place other) (
      elim [ inl h ↦ absurd (other (sym h)) | inr h ↦ (found_has (at s row) rows place).0 h ],
      λ h. inr ((found_has (at s row) rows place).1 h),
    ))

-- a marked place is found exactly where rows in listing order mark it
pub found_marked :
    (s : List ℕ) (rows : List Row) (place : List ℕ)
    → ordered s rows ≡ true
    → Marked s rows place ↔ (found s rows place ≡ some true)
unfolding Ordered Marked found
found_marked s rows place o = go s rows (ordered_true s rows o)
  where
    go : (s : List ℕ) (rows : List Row) → Ordered s rows → Marked s rows place ↔ (found s rows place ≡ some true)
    go s [] o = (λ h. absurd h, λ h. none-ne-some true h)
    go s (row ∷ rows) o =
        same_or_not (at s row) place
        (λ e.
        rw (found_here s row rows place e) (
          λ h.
              let here = rw (← e) at ((marked_stands s (row ∷ rows) place).0 h) in
              ap some (first_stands (λ row. row.mark) s row rows o.3 here),
          λ h. inl (sym e, cc),
        ))
        (λ other.
        rw (found_later s row rows place other) (
          elim [ inl h ↦ absurd (other (sym h.0)) | inr h ↦ (go (at s row) rows o.3).0 h ],
          λ h. inr ((go (at s row) rows o.3).1 h),
        ))

-- One pass that finds a place: it keeps how many of the place's steps lead to the last row.

-- if both end there they are equal
together : (s place : List ℕ) (n : ℕ) → Common s place n → length s ≤ n → length place ≤ n → s ≡ place
together s place n c s-ends place-ends = sym (take_all n s s-ends) ∙ c.alike ∙ take_all n place place-ends

-- if s goes on there they are not
apart : (s place : List ℕ) (n : ℕ) → Common s place n → n < length s → s ≡ place → ⊥
apart s place n c longer e = c.parted longer (rw e at longer) (rw e)

-- the steps in common after a row
module _ (s : List ℕ) (row : Row) (place : List ℕ) (n : ℕ) (near : row.depth ≤ length s) (c : Common s place n) where
  -- a row below them leaves them as they are
  common_below : n < row.depth → Common (at s row) place n
  common_below h = record {
    alike = take_above s row n near (le_of_lt h) ∙ c.alike;
    parted = λ _ inside e. c.parted (omega arith) inside (sym (above_at s row n near h) ∙ e);
  }

  -- above a row within them is as much of the place as of s
  common_above : row.depth ≤ n → take row.depth s ≡ take row.depth place
  common_above h =
      sym (take-take row.depth n s h) ∙ ap (take row.depth) c.alike ∙ take-take row.depth n place h

  -- a row within them, by another step than the place's or past its end, leaves what is above the row
  common_other :
      row.depth ≤ n
      → (row.depth < length place → get_or place row.depth 0 ≡ row.step → ⊥)
      → Common (at s row) place row.depth
  common_other h other = record {
    alike = take_above s row row.depth near (le_refl _) ∙ common_above h;
    parted = λ _ inside e. other inside (sym e ∙ step_at s row near);
  }

  -- a row within them, by the place's step, adds that step
  common_step :
      row.depth ≤ n
      → row.depth < length place
      → get_or place row.depth 0 ≡ row.step
      → Common (at s row) place (row.depth + 1)
  common_step h inside same = record {
    alike =
        take_all (row.depth + 1) (at s row) (omega (arith, length_at s row near))
        ∙ rw (add-one, take-suc place row.depth 0 inside, same, common_above h);
    parted = λ longer. omega (arith, length_at s row near);
  }

-- before the first row
pub sought_first :
    (rows : List Row) (place : List ℕ) → ordered [] rows ≡ true → Sought (found [] rows place) rows place 0
sought_first rows place o = record {
  last = [];
  order = ordered_true [] rows o;
  common = record { alike = refl; parted = λ h. omega arith };
  left = refl;
}

-- after the last row
pub sought_last : {answer : Option Bool} {place : List ℕ} {n : ℕ} → Sought answer [] place n → answer ≡ none
unfolding found
sought_last q = q.left

-- after one more row
module _
    {answer : Option Bool}
    {row : Row}
    {rows : List Row}
    {place : List ℕ}
    {n : ℕ}
    (q : Sought answer (row ∷ rows) place n)
  where
    -- the row is at most one deeper than the place before it
    near : row.depth ≤ length q.last
    unfolding Ordered
    near = q.order.1.near

    -- its place is one longer than it is deep
    size : length (at q.last row) ≡ row.depth + 1
    size = length_at q.last row near

    -- a row that is not at the place is passed
    pass : (m : ℕ) → (at q.last row ≡ place → ⊥) → Common (at q.last row) place m → Sought answer rows place m
    unfolding Ordered
    pass m other common = record {
      last = at q.last row;
      order = q.order.3;
      common = common;
      left = q.left ∙ found_later q.last row rows place other;
    }

    -- a row below the steps in common
    pub sought_below : n < row.depth → Sought answer rows place n
    sought_below h =
        let common = common_below q.last row place n near q.common h in
        pass n (apart _ _ _ common (omega (arith, size))) common

    -- a row within them, by another step than the place's or past its end
    pub sought_other :
        row.depth ≤ n
        → (row.depth < length place → get_or place row.depth 0 ≡ row.step → ⊥)
        → Sought answer rows place row.depth
    sought_other h other =
        let common = common_other q.last row place n near q.common h other in
        pass row.depth (apart _ _ _ common (omega (arith, size))) common

    -- a row within them, by the place's step: the place is there if it ends with that step
    module _ (h : row.depth ≤ n) (inside : row.depth < length place) (same : get_or place row.depth 0 ≡ row.step) where
      step : Common (at q.last row) place (row.depth + 1)
      step = common_step q.last row place n near q.common h inside same

      pub sought_step : (row.depth + 1 ≡ length place → ⊥) → Sought answer rows place (row.depth + 1)
      sought_step longer = pass (row.depth + 1) (λ e. longer (sym size ∙ ap length e)) step

      pub sought_here : row.depth + 1 ≡ length place → answer ≡ some row.mark
      sought_here ends =
          q.left
          ∙ found_here q.last row rows place (together _ _ _ step (omega (arith, size)) (omega arith))

-- ---- what lawful rows have is closed under prefixes

-- a place without its last step, and that step
last_step : (p q : List ℕ) (x y : ℕ) → p ++ (x ∷ []) ≡ q ++ (y ∷ []) → p ≡ q
last_step p q x y e =
    let same : length p ≡ length q = omega (arith, ap length e, length-append p (x ∷ []), length-append q (y ∷ [])) in
    let left : take (length p) (p ++ (x ∷ [])) ≡ p = take-append-le (length p) p (x ∷ []) (omega arith) ∙ take_all (length p) p (omega arith) in
    let right : take (length p) (q ++ (y ∷ [])) ≡ q =
    take-append-le (length p) q (y ∷ []) (omega arith) ∙ take_all (length p) q (omega arith) in
    sym left ∙ ap (λ (l : List ℕ). take (length p) l) e ∙ right

module _ (p : List ℕ) (x : ℕ) where
  -- the place above one that rows have is that of a row too, or leads to the place before them
  above_had : (s : List ℕ) (rows : List Row) → Ordered s rows → Has s rows (p ++ (x ∷ [])) → (p ≡ take (length p) s) ⊎ Has s rows p
  unfolding Ordered Has
  above_had s [] _ had = elim had [ ]
  above_had s (row ∷ rows) (whole, after, shallow, rest) (inl here) =
      let there : p ≡ take row.depth s = last_step p (take row.depth s) x row.step here in
      let deep : length p ≡ row.depth = ap length there ∙ length-take-le row.depth s after.near in
      inl (there ∙ rw deep)
  above_had s (row ∷ rows) (whole, after, shallow, rest) (inr later) =
      ⊎_elim
      (λ leads.
      compared row.depth (length p)
      (λ over.
      let long : length (at s row) ≤ length p = omega (arith, length_at s row after.near) in
      inr (inl (leads ∙ take_all (length p) (at s row) long)))
      (λ within.
      let short : length p ≤ length s = omega (arith, after.near) in
      inl (leads ∙ kept_down s row row.step (length p) short within)))
      (λ had. inr (inr had))
      (above_had (at s row) rows rest later)

-- 'A trie is a set of positions closed under taking prefixes': with a place the rows have every place above it, down to its entry.
pub prefix_had :
    (rows : List Row) → ordered [] rows ≡ true → (p : List ℕ) (x : ℕ) → 0 < length p → Has [] rows (p ++ (x ∷ [])) → Has [] rows p
prefix_had rows in_order p x some-step had =
    ⊎_elim
    (λ leads. absurd (omega (arith, some-step, ap length leads, length-take (length p) nothing)))
    (λ above. above)
    (above_had p x [] rows (ordered_true [] rows in_order) had)
  where
    nothing : List ℕ
    nothing = []
