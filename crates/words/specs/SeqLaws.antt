-- Laws of stores into a list, of general use. No contract cites this file.
use Rattle.std.specs.Prelude.{ℕ, zero, suc, ◌+◌, ◌≤◌, ◌<◌, List, [], ◌∷◌, ◌++◌, ◌≢◌, ◌≡◌, refl, length, take, drop, get_or, set}
use Rattle.std.proofs.Common.{add-zero, suc-add, add-suc, add-one, arith, ap, ◌∙◌, take-suc, length-take-le, get_or-set_other}
use Rattle.std.proofs.lemmas.List.Edits.{sets}
use Rattle.std.proofs.lemmas.List.{set_comm, take-set-le}

-- one more value goes to the place after the others
pub sets_snoc : {A : Type 0} (l : List A) (i : ℕ) (xs : List A) (v : A) → sets l i (xs ++ (v ∷ [])) ≡ set (sets l i xs) (i + length xs) v
sets_snoc l i [] v = rw add-zero
sets_snoc l i (x ∷ xs) v = sets_snoc (set l i x) (suc i) xs v ∙ rw (suc-add, ← add-suc)

-- one more item of a copy
pub copied_item :
    {A : Type 0} (items out : List A) (to i : ℕ) (d : A) → i < length items
    → set (sets out to (take i items)) (to + i) (get_or items i d) ≡ sets out to (take (i + 1) items)
copied_item items out to i d h =
    let place : length (take i items) ≡ i = length-take-le i items (omega arith) in
    rw (add-one, take-suc items i d h, sets_snoc out to (take i items) (get_or items i d), place)

-- one more word
pub copied_next :
    (words out : List ℕ) (to i : ℕ) → i < length words → set (sets out to (take i words)) (to + i) (get_or words i 0) ≡ sets out to (take (i + 1) words)
copied_next words out to i h = copied_item words out to i 0 h

-- a store in front of others may come before them
pub set_before : (l : List ℕ) (i v k : ℕ) (xs : List ℕ) → i < k → set (sets l k xs) i v ≡ sets (set l i v) k xs
set_before l i v k [] h = refl
set_before l i v k (x ∷ xs) h =
    let other : k ≢ i = λ e. omega arith in
    set_before (set l k x) i v (suc k) xs (omega arith) ∙ ap (λ (m : List ℕ). sets m (suc k) xs) (set_comm l k i x v other)

-- stores leave what stands before them: a word, a part, the front
pub word_kept : (j : ℕ) (l : List ℕ) (i : ℕ) (vs : List ℕ) → j < i → get_or (sets l i vs) j 0 ≡ get_or l j 0
word_kept j l i [] h = refl
word_kept j l i (v ∷ vs) h = word_kept j (set l i v) (suc i) vs (omega arith) ∙ get_or-set_other l i j v 0 (λ e. omega arith)

part_left : (n from : ℕ) (l : List ℕ) (i v : ℕ) → from + n ≤ i → take n (drop from (set l i v)) ≡ take n (drop from l)
part_left n zero l i v h = take-set-le n l i v (omega arith)
part_left n (suc from) [] i v h = refl
part_left n (suc from) (x ∷ xs) zero v h = absurd (omega arith)
part_left n (suc from) (x ∷ xs) (suc i) v h = part_left n from xs i v (omega arith)

pub part_kept : (n from : ℕ) (l : List ℕ) (i : ℕ) (vs : List ℕ) → from + n ≤ i → take n (drop from (sets l i vs)) ≡ take n (drop from l)
part_kept n from l i [] h = refl
part_kept n from l i (v ∷ vs) h = part_kept n from (set l i v) (suc i) vs (omega arith) ∙ part_left n from l i v h

pub take-sets : (n : ℕ) (l : List ℕ) (i : ℕ) (vs : List ℕ) → n ≤ i → take n (sets l i vs) ≡ take n l
take-sets n l i vs h = part_kept n 0 l i vs (omega arith)
