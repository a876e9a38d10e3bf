-- Facts on tests, on answers, on statements and on lists that speak of no trie.
use Rattle.std.specs.Prelude.{ℕ, zero, suc, ◌+◌, ◌≤◌, ◌<◌, min, max, ◌≡◌, refl, ◌⊎◌, ◌↔◌, Bool, true, false, cond, ◌&&◌, ◌||◌, List, [], ◌∷◌, ◌++◌, ltb, length, take, get_or}
use Rattle.std.proofs.Common.{le_of_lt, arith, sym, inl, inr, ⊎_elim, true≢false, ltb-true, ltb-false, lt-ltb, le-ltb}
use Rattle.std.proofs.Math.Nat.{min-eq_left, min-eq_right, max-eq_left, max-eq_right}
use Rattle.std.proofs.Math.Logic.{⊎_map}
use Rattle.std.proofs.lemmas.Bool.{false≢true}
use Rattle.std.proofs.Math.Option.{Option, none, some, none-ne-some, some-ne-none}
use Rattle.rules.specs.Numbers.{Answer, accepted, refused, and_then}

-- Tests.

-- a test is true or false
pub by_test : {A : Type 0} (t : Bool) → (t ≡ true → A) → (t ≡ false → A) → A
by_test true yes-then no-then = yes-then refl
by_test false yes-then no-then = no-then refl

-- a number is below another or not
pub compared : {A : Type 0} (m n : ℕ) → (m < n → A) → (n ≤ m → A) → A
compared m n less not-less = by_test (ltb m n) (λ e. less (ltb-true m n e)) (λ e. not-less (ltb-false m n e))

-- a test that is asked only where another holds is true where both are
pub cond-true : (t u : Bool) → (cond t u false ≡ true) ↔ ((t ≡ true) × (u ≡ true))
cond-true true u = (λ e. (refl, e), λ h. h.1)
cond-true false u = (λ e. absurd (false≢true e), λ h. h.0)

-- two tests that both hold
pub both_true : (t u : Bool) → (t && u) ≡ true → (t ≡ true) × (u ≡ true)
both_true true u e = (refl, e)
both_true false u e = absurd (let z : ◌≡◌ {A = ℕ} 0 1 = cc in omega arith)

-- of two tests not both are true: where the first is, the second is false
pub and-false : (t u : Bool) → (t && u ≡ false) ↔ (t ≡ true → u ≡ false)
and-false true u = (λ e _. e, λ h. h refl)
and-false false u = (λ _ e. absurd (false≢true e), λ _. refl)

-- a value that is given where a test holds, and otherwise another or none
pub cond-some : {A : Type 0} (t : Bool) (o : Option A) (a : A) → cond t o none ≡ some a → (t ≡ true) × (o ≡ some a)
cond-some true o a e = (refl, e)
cond-some false o a e = absurd (none-ne-some a e)

pub cond_other : {A : Type 0} (t : Bool) (o : Option A) (a : A) → cond t none o ≡ some a → (t ≡ false) × (o ≡ some a)
cond_other true o a e = absurd (none-ne-some a e)
cond_other false o a e = (refl, e)

-- no value is given exactly where the test fails and no other is given
pub cond-none : {A : Type 0} (t : Bool) (a : A) (o : Option A) → (cond t (some a) o ≡ none) ↔ ((t ≡ false) × (o ≡ none))
cond-none true a o = (λ e. absurd (some-ne-none a e), λ h. absurd (true≢false h.0))
cond-none false a o = (λ e. (refl, e), λ h. h.1)

-- there is no value or there is one
pub by_option : {A P : Type 0} (o : Option A) → (o ≡ none → P) → ((a : A) → o ≡ some a → P) → P
by_option none no-then Some-then = no-then refl
by_option (some a) no-then Some-then = Some-then a refl

-- a test adds one or nothing
pub cond-suc : (t : Bool) (n : ℕ) → cond t (suc n) n ≡ cond t 1 0 + n
cond-suc true n = omega arith
cond-suc false n = omega arith

-- two tests that are true together are equal
pub same_test : (t u : Bool) → (t ≡ true) ↔ (u ≡ true) → t ≡ u
same_test true u h = sym (h.0 refl)
same_test false true h = h.1 refl
same_test false false h = refl

-- Numbers: the larger of two, and a number that stops at a limit.

unfoldable pub larger : ℕ → ℕ → ℕ
larger a b = cond (ltb a b) b a

unfoldable pub capped : ℕ → ℕ → ℕ
capped most n = cond (ltb n most) n most

-- they are the operations that linear arithmetic knows
pub larger_max : (a b : ℕ) → larger a b ≡ max a b
unfolding larger
larger_max a b = compared a b (λ h. simp (lt-ltb, max-eq_right, le_of_lt h)) (λ h. simp (le-ltb, max-eq_left))

pub capped_min : (most n : ℕ) → capped most n ≡ min most n
unfolding capped
capped_min most n = compared n most (λ h. simp (lt-ltb, min-eq_right, le_of_lt h)) (λ h. simp (le-ltb, min-eq_left))

-- a sum is above a limit exactly where it is with a count that stops past the limit
pub capped_sum_above : (most a n : ℕ) → ltb most (a + capped (suc most) n) ≡ ltb most (a + n)
capped_sum_above most a n =
    compared most (a + n)
    (λ h. rw (capped_min, lt-ltb most (a + n)) (lt-ltb most (a + min (suc most) n) (omega arith)))
    (λ h. rw (capped_min, le-ltb most (a + n)) (le-ltb most (a + min (suc most) n) (omega arith)))

-- the larger of two is above a limit exactly where one of them is
pub larger_above : (most a b : ℕ) → ltb most (larger a b) ≡ (ltb most a || ltb most b)
larger_above most a b =
    compared most a
    (λ h. rw (larger_max, lt-ltb most a) (lt-ltb most (max a b) (omega arith)))
    (λ h.
    compared most b
    (λ k. rw (larger_max, le-ltb most a, lt-ltb most b) (lt-ltb most (max a b) (omega arith)))
    (λ k. rw (larger_max, le-ltb most a, le-ltb most b) (le-ltb most (max a b) (omega arith))))

-- Answers.

-- an answer that accepts something accepts nothing else
pub accepted_same : {A : Type 0} (a b : A) → accepted a ≡ accepted b → a ≡ b
accepted_same a b e = cc

-- what is done next is accepted where both are
pub then_accepted : {A B : Type 0} (answer : Answer A) (next : A → Answer B) {b : B} → and_then answer next ≡ accepted b →
    (a : A) × (answer ≡ accepted a) × (next a ≡ accepted b)
then_accepted (accepted a) next e = (a, refl, e)
then_accepted (refused number place) next e = absurd (let z : ◌≡◌ {A = ℕ} 0 1 = cc in omega arith)

-- Choices.

module _ {A B C D : Type 0} where
  -- two choices are equivalent where their parts are
  pub either : A ↔ C → B ↔ D → (A ⊎ B) ↔ (C ⊎ D)
  either h k = (⊎_map h.0 k.0, ⊎_map h.1 k.1)

  -- one more way beside a choice is one more way to its first part, or to its second
  pub more_first : A ↔ (B ⊎ C) → (D ⊎ A) ↔ ((D ⊎ B) ⊎ C)
  more_first h = (
    elim [ inl d ↦ inl (inl d) | inr a ↦ ⊎_elim (λ b. inl (inr b)) inr (h.0 a) ],
    elim [ inl (inl d) ↦ inl d | inl (inr b) ↦ inr (h.1 (inl b)) | inr c ↦ inr (h.1 (inr c)) ],
  )

  pub more_second : A ↔ (B ⊎ C) → (D ⊎ A) ↔ (B ⊎ (D ⊎ C))
  more_second h = (
    elim [ inl d ↦ inr (inl d) | inr a ↦ ⊎_elim inl (λ c. inr (inr c)) (h.0 a) ],
    elim [ inl b ↦ inr (h.1 (inl b)) | inr (inl d) ↦ inl d | inr (inr c) ↦ inr (h.1 (inr c)) ],
  )

-- a way that is open where one of two tests is true is two ways
pub either_test :
    (t u : Bool) {A B : Type 0} → ((A × (t || u ≡ true)) ⊎ B) ↔ ((A × (t ≡ true)) ⊎ ((A × (u ≡ true)) ⊎ B))
either_test true u = (
  elim [ inl h ↦ inl h | inr b ↦ inr (inr b) ],
  elim [ inl h ↦ inl h | inr (inl h) ↦ inl (h.0, refl) | inr (inr b) ↦ inr b ],
)
either_test false u = (inr, elim [ inl h ↦ absurd (false≢true h.1) | inr h ↦ h ])

-- Lists in order: by the first number in which two differ, and the shorter of two that do not differ.

unfoldable pub Earlier : List ℕ → List ℕ → Type 0
Earlier p [] = ⊥
Earlier [] (n ∷ q) = Unit
Earlier (m ∷ p) (n ∷ q) = (m < n) ⊎ ((m ≡ n) × Earlier p q)

pub earlier_trans : (p q r : List ℕ) → Earlier p q → Earlier q r → Earlier p r
unfolding Earlier
earlier_trans p q [] h k = k
earlier_trans [] q (n ∷ r) h k = tt
earlier_trans (l ∷ p) [] (n ∷ r) h k = absurd h
earlier_trans (l ∷ p) (m ∷ q) (n ∷ r) (inl h) (inl k) = inl (omega arith)
earlier_trans (l ∷ p) (m ∷ q) (n ∷ r) (inl h) (inr k) = inl (omega arith)
earlier_trans (l ∷ p) (m ∷ q) (n ∷ r) (inr h) (inl k) = inl (omega arith)
earlier_trans (l ∷ p) (m ∷ q) (n ∷ r) (inr h) (inr k) = inr (omega arith, earlier_trans p q r h.1 k.1)

pub earlier_irrefl : (p : List ℕ) → ¬ Earlier p p
unfolding Earlier
earlier_irrefl [] h = h
earlier_irrefl (m ∷ p) (inl h) = omega arith
earlier_irrefl (m ∷ p) (inr h) = earlier_irrefl p h.1

-- a list is earlier than one that has a greater number at a place, or one more at the end, and the same before
pub earlier_at :
    (p : List ℕ) (d n : ℕ) → d ≤ length p → (d < length p → get_or p d 0 < n) → Earlier p (take d p ++ (n ∷ []))
unfolding Earlier
earlier_at [] zero n near past = tt
earlier_at [] (suc d) n near past = omega arith
earlier_at (m ∷ p) zero n near past = inl (past (omega arith))
earlier_at (m ∷ p) (suc d) n near past = inr (refl, earlier_at p d n (omega arith) (λ h. past (omega arith)))
