-- Laws of packed words. No contract cites this file.
use Rattle.std.specs.Prelude.{ℕ, zero, suc, ◌+◌, ◌-◌, ◌*◌, ◌/◌, ◌%◌, ◌^◌, ◌≤◌, ◌<◌, ◌≡◌, refl, ◌↔◌, Bool, true, false, cond, not, ◌&&◌, List, [], ◌∷◌, map, leb, ltb, eqb, length, get_or}
use Rattle.std.proofs.Common.{arith, le_refl, le_of_lt, sym, ap, ap₂, ◌∙◌, ltb-true, leb-true, eqb-true, lt-ltb, le-ltb, eq-eqb, ne_eqb}
use Rattle.std.proofs.Math.Nat.{div-div-eq-div-mul}
use Rattle.std.proofs.Math.Bool.{and-true, and-eq-true_iff}
use Rattle.std.proofs.lemmas.Bool.{false≢true, eqb-false}
use Rattle.std.proofs.Math.Option.{Option, none, some}
use Rattle.rules.specs.Facts.{by_test, cond-true}
use Rattle.rules.specs.Tries.{Row, Next, first, second, same, next, is_step, is_root, is_row, is_type, untyped, is_entry, joined}
use Rattle.rules.proofs.TrieLaws.{node_step, Before, deeper, smaller, SamePlace, Says, next_says, is_row_joined}
use Rattle.rows.specs.Words.{depth_in, mark_in, step_in, type_from, number_for, type_in, row_in, word_of, is_word, rank_in, next_word, joined_word}
use Rattle.rows.specs.States.{all_words}

-- What the test of a word asks.

-- of an entry's word: a request type, and no mark
pub entry_word : (w : ℕ) → depth_in w ≡ 0 → is_word w ≡ (ltb (step_in w) (2 ^ 48) && not (mark_in w))
unfolding is_word
entry_word w e = simp (e, and-true)

-- a type's number is at most 1,026
type_small : (n : ℕ) → is_type (type_from n) ≡ leb n 1026
type_small zero = refl
type_small (suc t) = refl

-- of a node's word: a step, which at depth 1 is a root, a type's number, and nothing above it
pub node-word :
    (w : ℕ)
    → (depth_in w ≡ 0 → ⊥)
    → is_word w
    ≡ ((cond (eqb (depth_in w) 1) (is_root (step_in w)) (is_step (step_in w)) && leb (w / 2 ^ 25 % 2 ^ 11) 1026)
    && ltb w (2 ^ 36))
unfolding is_word
node-word w n = simp (ne_eqb (depth_in w) 0 n, type_small)

-- a word packs a row
pub is-row : (w : ℕ) → is_word w ≡ true → is_row (row_in w) ≡ true
unfolding is_word
is-row w h = ((and-eq-true_iff (is_row (row_in w)) _).0 h).0

-- a node's word has nothing above its type
pub node_low : (w : ℕ) → is_word w ≡ true → eqb (depth_in w) 0 ≡ false → w < 2 ^ 36
unfolding is_word
node_low w h e = ltb-true _ _ (rw e at ((and-eq-true_iff (is_row (row_in w)) _).0 h).1)

-- a word is what packs a row, with nothing above a node's type
pub true_word : (w : ℕ) → is_row (row_in w) ≡ true → (eqb (depth_in w) 0 ≡ false → w < 2 ^ 36) → is_word w ≡ true
unfolding is_word
true_word w whole low =
    (and-eq-true_iff _ _).1 (
      whole,
      by_test (eqb (depth_in w) 0) (λ e. rw e) (λ e. rw (e, lt-ltb w (2 ^ 36) (low e))),
    )

-- Keys.

-- a key fits 64 bits where the word does
pub key_fits : (w : ℕ) → w < 2 ^ 64 → rank_in w < 2 ^ 64
key_fits w h =
    sum (depth_in w) (step_in w) (by_test (eqb (depth_in w) 0) (λ e. rw e (omega arith)) (λ e. rw e (omega arith)))
  where
    sum : (depth step : ℕ) → step < 2 ^ 58 → (31 - depth) * 2 ^ 48 + step < 2 ^ 64
    sum depth step small = omega arith

-- the step of a word is below 2 ^ 48, as a request type is
pub step_below : (w : ℕ) → is_word w ≡ true → step_in w < 2 ^ 48
step_below w h =
    by_test (eqb (depth_in w) 0)
    (λ e. ltb-true _ _ ((and-eq-true_iff (ltb (step_in w) (2 ^ 48)) _).0 (rw (entry_word w (eqb-true _ _ e)) at h)).0)
    (λ e. rw e (omega arith))

-- the key of a word is below END
pub key_below : (w : ℕ) → is_word w ≡ true → rank_in w < 2 ^ 53
key_below w h = omega (arith, step_below w h)

-- which of two words comes first, by their keys
module _ (x y : ℕ) where
  pub next_first : rank_in x < rank_in y → next_word x y ≡ first
  next_first h = simp lt-ltb

  pub next_second : rank_in y < rank_in x → next_word x y ≡ second
  next_second h = simp (lt-ltb, le-ltb, le_of_lt h)

  pub next_same : rank_in x ≡ rank_in y → next_word x y ≡ same
  next_same h = simp (h, le-ltb, le_refl)

module _ (x y : ℕ) (hx : is_word x ≡ true) (hy : is_word y ≡ true) where
  -- the word of the row that comes first has the smaller key
  before_key : Before (row_in x) (row_in y) → rank_in x < rank_in y
  before_key (deeper h) = omega (arith, step_below x hx, step_below y hy)
  before_key (smaller e h) = omega arith

  -- words with one key pack one node
  pub key_place : rank_in x ≡ rank_in y → SamePlace (row_in x) (row_in y)
  key_place e = omega (arith, step_below x hx, step_below y hy)

-- the keys of two words say which of their rows comes first
pub next-word : (x y : ℕ) → is_word x ≡ true → is_word y ≡ true → next_word x y ≡ next (row_in x) (row_in y)
next-word x y hx hy = go (next (row_in x) (row_in y)) (next_says (row_in x) (row_in y))
  where
    go : (n : Next) → Says (row_in x) (row_in y) n → next_word x y ≡ n
    go first h = next_first x y (before_key x y hx hy h)
    go second h = next_second x y (before_key y x hy hx h)
    go same h = next_same x y (omega arith)

-- Words that pack one node.

-- to mark a word that is not marked changes nothing else
marked_row :
    (w : ℕ)
    → mark_in w ≡ false
    → row_in (w + 32) ≡ record { depth = depth_in w; step = step_in w; mark = true; type = type_in w }
marked_row w e = rw (depths, marks, steps, types)
  where
    depths : (w + 32) % 32 ≡ w % 32
    depths = omega arith

    marks : (w + 32) / 32 % 2 ≡ 1
    marks = omega (arith, eqb-false)

    steps : (w + 32) / 64 ≡ w / 64
    steps = omega (arith, eqb-false)

    types : (w + 32) / 2 ^ 25 ≡ w / 2 ^ 25
    types = omega (arith, eqb-false)

-- the joined word packs the joined row
pub joined_row : (x y : ℕ) → row_in (joined_word x y) ≡ joined (row_in x) (row_in y)
unfolding joined_word
joined_row x y =
    by_test (mark_in x)
    (λ e. simp e)
    (λ e. by_test (mark_in y) (λ f. simp (e, f, marked_row)) (λ f. simp (e, f)))

-- the joined word of two words with one key is a word
pub joined-word :
    (x y : ℕ) → is_word x ≡ true → is_word y ≡ true → rank_in x ≡ rank_in y → is_word (joined_word x y) ≡ true
unfolding joined_word
joined-word x y hx hy e =
    by_test (mark_in x)
    (λ m. rw m hx)
    (λ m. by_test (mark_in y) (λ k. rw (m, k) (true_word (x + 32) (whole m k) (low m))) (λ k. rw (m, k) hx))
  where
    whole : mark_in x ≡ false → mark_in y ≡ true → is_row (row_in (x + 32)) ≡ true
    whole m k =
        let both = is_row_joined (row_in x) (row_in y) (key_place x y hx hy e) (is-row x hx) (is-row y hy) in
        ap is_row (marked_row x m) ∙ (simp (m, k) at both)

    low : mark_in x ≡ false → eqb (depth_in (x + 32)) 0 ≡ false → x + 32 < 2 ^ 36
    low m d = omega (arith, eqb-false, node_low x hx (rw (ap (λ row. row.depth) (marked_row x m)) at d))

-- all are words where the first and the others are
pub all_words_cons : (w : ℕ) (ws : List ℕ) → (all_words (w ∷ ws) ≡ true) ↔ ((is_word w ≡ true) × (all_words ws ≡ true))
unfolding all_words
all_words_cons w ws = cond-true (is_word w) (all_words ws)

-- each of some words is a word
pub word_at : (ws : List ℕ) (i : ℕ) → all_words ws ≡ true → i < length ws → is_word (get_or ws i 0) ≡ true
word_at [] i good h = absurd (omega arith)
word_at (w ∷ ws) zero good h = ((all_words_cons w ws).0 good).0
word_at (w ∷ ws) (suc i) good h = word_at ws i ((all_words_cons w ws).0 good).1 (omega arith)

-- Packing a row and taking it apart.

-- a mark is one bit, the one that counts 32
mark_bit : (m : Bool) → (cond m 32 0 ≡ 32 * cond m 1 0) × (cond m 1 0 ≤ 1)
mark_bit true = omega arith
mark_bit false = omega arith

-- a type's number says the type, and a type its number
number_type : (n : ℕ) → number_for (type_from n) ≡ n
number_type zero = refl
number_type (suc t) = refl

type_number : (t : Option ℕ) → type_from (number_for t) ≡ t
type_number none = refl
type_number (some t) = refl

-- a word is what packs its row
pub word_row : (w : ℕ) → is_word w ≡ true → word_of (row_in w) ≡ w
word_row w h =
    by_test (eqb (depth_in w) 0)
    (λ e. rw (e, bit) (omega (arith, low)))
    (λ e. rw (e, bit, number_type, top e) (omega (arith, low, high)))
  where
    bit : cond (mark_in w) 32 0 ≡ 32 * (w / 32 % 2)
    bit = by_test (mark_in w) (λ e. rw e (omega (arith, eqb-true))) (λ e. rw e (omega (arith, eqb-false)))

    low : w % 32 + (32 * (w / 32 % 2) + 64 * (w / 64)) ≡ w
    low = omega arith

    high : w / 64 ≡ w / 64 % 2 ^ 19 + 2 ^ 19 * (w / 2 ^ 25)
    high = omega (arith, div-div-eq-div-mul w 64 (2 ^ 19))

    top : eqb (depth_in w) 0 ≡ false → w / 2 ^ 25 % 2 ^ 11 ≡ w / 2 ^ 25
    top e = omega (arith, node_low w h e)

-- words are what packs their rows
pub words_rows : (ws : List ℕ) → all_words ws ≡ true → map word_of (map row_in ws) ≡ ws
words_rows [] h = refl
words_rows (w ∷ ws) h =
    let (hw, hws) = (all_words_cons w ws).0 h in
    ap₂ (λ v vs. v ∷ vs) (word_row w hw) (words_rows ws hws)

-- What a row's form says of its parts.

-- a type's number is small
type_numbers : (t : Option ℕ) → is_type t ≡ true → number_for t ≤ 1026
type_numbers none h = omega arith
type_numbers (some t) h = ltb-true t 1026 h

-- an entry has no type
untyped_none : (t : Option ℕ) → untyped t ≡ true → t ≡ none
untyped_none none h = refl
untyped_none (some t) h = absurd (false≢true h)

entry_untyped : (row : Row) → is_row row ≡ true → is_entry row ≡ true → row.type ≡ none
entry_untyped row whole e =
    let (_, plain) = (and-eq-true_iff (ltb row.step (2 ^ 48)) _).0 (rw e at whole) in
    untyped_none row.type ((and-eq-true_iff (not row.mark) _).0 plain).1

-- a node's step is of six kinds, and its type has a small number
node_small : (row : Row) → is_row row ≡ true → is_entry row ≡ false → (row.step < 2 ^ 19) × (number_for row.type ≤ 1026)
node_small row whole e =
    let (_, typed) = (and-eq-true_iff (cond (eqb row.depth 1) (is_root row.step) (is_step row.step)) _).0 (rw e at whole) in
    let few : row.step / 65536 ≤ 5 = leb-true _ _ ((and-eq-true_iff (leb (row.step / 65536) 5) _).0 (node_step row whole e)).0 in
    (omega arith, type_numbers row.type typed)

-- The word that packs a row has the row's parts.
module _ (row : Row) (whole : is_row row ≡ true) (near : row.depth ≤ 24) where
  depth_packed : depth_in (word_of row) ≡ row.depth
  depth_packed = omega (arith, mark_bit row.mark)

  mark_packed : mark_in (word_of row) ≡ row.mark
  mark_packed = go row.mark (omega (arith, mark_bit row.mark))
    where
      go : (m : Bool) → word_of row / 32 % 2 ≡ cond m 1 0 → mark_in (word_of row) ≡ m
      go true e = eq-eqb _ _ e
      go false e = rw e

  step_packed : step_in (word_of row) ≡ row.step
  step_packed =
      rw depth_packed
      (by_test (is_entry row)
      (λ e. rw (e, entry_untyped row whole e) (omega (arith, mark_bit row.mark)))
      (λ e. rw e (omega (arith, mark_bit row.mark, node_small row whole e))))

  type_packed : type_in (word_of row) ≡ row.type
  type_packed =
      rw depth_packed
      (by_test (is_entry row)
      (λ e. rw e (sym (entry_untyped row whole e)))
      (λ e. rw (e, number e) (type_number row.type)))
    where
      number : is_entry row ≡ false → word_of row / 2 ^ 25 % 2 ^ 11 ≡ number_for row.type
      number e = omega (arith, mark_bit row.mark, node_small row whole e)

  row_packed : row_in (word_of row) ≡ row
  row_packed = λ i. record { depth = depth_packed i; step = step_packed i; mark = mark_packed i; type = type_packed i }

  low_packed : is_entry row ≡ false → word_of row < 2 ^ 36
  low_packed e = omega (arith, mark_bit row.mark, node_small row whole e)

-- a row is what the word that packs it packs, and that word is one
pub row_word :
    (row : Row)
    → is_row row ≡ true
    → row.depth ≤ 24
    → (row_in (word_of row) ≡ row) × (is_word (word_of row) ≡ true)
row_word row whole near = (
  row_packed row whole near,
  true_word (word_of row)
      (ap is_row (row_packed row whole near) ∙ whole)
      (λ e. low_packed row whole near (rw (depth_packed row whole near) at e)),
)
