-- Laws of the union of two runs of words, row by row, and of storing it (Merge). No contract cites this file.
use Rattle.std.specs.Prelude.{ℕ, zero, suc, ◌+◌, ◌-◌, ◌^◌, ◌≤◌, ◌<◌, min, true, ◌≡◌, refl, List, [], ◌∷◌, take, set}
use Rattle.std.proofs.Math.Path.{sym}
use Rattle.std.proofs.Common.{ap, ◌∙◌, le_refl, add-zero, add-suc, add_assoc, add-one, lt-ltb, le-ltb, ne_eqb, length-set, drop-cons, get_or-drop}
use native.Mathlib.Omega.{arith}
use Rattle.std.proofs.Math.ListN.{length, drop, get_or, length-drop, drop_of_length-le}
use Rattle.std.proofs.lemmas.List.Edits.{sets}
use Rattle.std.proofs.Math.Seq.{length-sets}
use Rattle.rules.specs.Facts.{compared}
use Rattle.words.specs.SeqLaws.{copied_next}
use Rattle.rows.specs.Words.{depth_in, rank_in, joined_word}
use Rattle.union.specs.Unions.{union_words}
use Rattle.rows.specs.WordLaws.{key_below, word_at}
use Rattle.union.specs.UnionLaws.{union_words_nil, union_words_first, union_words_second, union_words_same}
use Rattle.rows.specs.CountLaws.{counted_none}
use Rattle.rows.specs.States.{all_words}
use Rattle.rows.specs.Sizes.{Counted}
use Rattle.union.specs.Merge.{key_at, next_key, left, UnionTurn, MergeRoom, Merged, CopiedBelow, Copied}

-- ---- the key at a place of a run

pub key_in : (a : List ℕ) (i : ℕ) → i < length a → key_at a i ≡ rank_in (get_or a i 0)
unfolding key_at
key_in a i h = rw (lt-ltb i (length a) h)

pub key_past : (a : List ℕ) (i : ℕ) → length a ≤ i → key_at a i ≡ 2 ^ 53
unfolding key_at
key_past a i h = rw (le-ltb i (length a) h)

-- the next key is the smaller one
pub merge_first : (a b : List ℕ) (i j x y : ℕ) → x ≡ key_at a i → y ≡ key_at b j → x < y → x ≡ next_key a b i j
unfolding next_key
merge_first a b i j x y e f h = rw (← e, ← f, lt-ltb x y h)

pub merge_second : (a b : List ℕ) (i j x y : ℕ) → x ≡ key_at a i → y ≡ key_at b j → y ≤ x → y ≡ next_key a b i j
unfolding next_key
merge_second a b i j x y e f h = rw (← e, ← f, le-ltb x y h)

pub next_key_min : (a b : List ℕ) (i j : ℕ) → next_key a b i j ≡ min (key_at a i) (key_at b j)
unfolding next_key
next_key_min a b i j =
    compared (key_at a i) (key_at b j)
    (λ h. rw (lt-ltb (key_at a i) (key_at b j) h) (omega arith))
    (λ h. rw (le-ltb (key_at a i) (key_at b j) h) (omega arith))

-- what is at most the next key is at most both
next_least : (a b : List ℕ) (i j n : ℕ) → n ≤ next_key a b i j → (n ≤ key_at a i) × (n ≤ key_at b j)
next_least a b i j n h =
    compared (key_at a i) (key_at b j)
    (λ less. let e = merge_first a b i j _ _ refl refl less in (omega (arith, e), omega (arith, e)))
    (λ not-less. let e = merge_second a b i j _ _ refl refl not-less in (omega (arith, e), omega (arith, e)))

-- a key below the end is that of a row
row_in : (a : List ℕ) (i : ℕ) → key_at a i < 2 ^ 53 → i < length a
row_in a i h = compared i (length a) (λ inside. inside) (λ past. absurd (omega (arith, key_past a i past)))

-- where there is a next row, the run with the smaller key has it
pub first_in : (a b : List ℕ) (i j x y : ℕ) → x ≡ key_at a i → y ≡ key_at b j → x ≤ y → next_key a b i j < 2 ^ 53 → i < length a
first_in a b i j x y e f h below =
    row_in a i
    (compared x y (λ less. omega (arith, merge_first a b i j x y e f less)) (λ not-less. omega (arith, merge_second a b i j x y e f not-less)))

pub second_in : (a b : List ℕ) (i j x y : ℕ) → x ≡ key_at a i → y ≡ key_at b j → y ≤ x → next_key a b i j < 2 ^ 53 → j < length b
second_in a b i j x y e f h below = row_in b j (omega (arith, merge_second a b i j x y e f h))

-- ---- what is left of a union, by the next row of either run

-- what is left of a run that is not at its end
rest_of : (a : List ℕ) (i : ℕ) → i < length a → drop i a ≡ get_or a i 0 ∷ drop (i + 1) a
rest_of a i h = rw (add-one, drop-cons a i 0 h)

module _ (a b : List ℕ) (i j : ℕ) (in_a : i ≤ length a) (in_b : j ≤ length b) where
  pub turn_first : i < length a → key_at a i < key_at b j → UnionTurn a b i j (get_or a i 0) (i + 1) j
  unfolding left
  turn_first ia h = record { taken = compared j (length b) inside past; in_a = omega arith; in_b = in_b; more = omega arith }
    where
      past : length b ≤ j → left a b i j ≡ get_or a i 0 ∷ left a b (i + 1) j
      past p = rw (rest_of a i ia, drop_of_length-le b p, union_words_nil (get_or a i 0 ∷ drop (i + 1) a), union_words_nil (drop (i + 1) a))

      inside : j < length b → left a b i j ≡ get_or a i 0 ∷ left a b (i + 1) j
      inside q =
          let smaller : rank_in (get_or a i 0) < rank_in (get_or b j 0) = omega (arith, key_in a i ia, key_in b j q) in
          rw (rest_of a i ia, rest_of b j q, union_words_first (get_or a i 0) (get_or b j 0) (drop (i + 1) a) (drop (j + 1) b) smaller)

  pub turn_second : j < length b → key_at b j < key_at a i → UnionTurn a b i j (get_or b j 0) i (j + 1)
  unfolding union_words left
  turn_second jb h = record { taken = compared i (length a) inside past; in_a = in_a; in_b = omega arith; more = omega arith }
    where
      past : length a ≤ i → left a b i j ≡ get_or b j 0 ∷ left a b i (j + 1)
      past p = rw (drop_of_length-le a p, rest_of b j jb)

      inside : i < length a → left a b i j ≡ get_or b j 0 ∷ left a b i (j + 1)
      inside q =
          let smaller : rank_in (get_or b j 0) < rank_in (get_or a i 0) = omega (arith, key_in b j jb, key_in a i q) in
          rw (rest_of a i q, rest_of b j jb, union_words_second (get_or a i 0) (get_or b j 0) (drop (i + 1) a) (drop (j + 1) b) smaller)

  pub turn_same : i < length a → j < length b → key_at a i ≡ key_at b j →
      UnionTurn a b i j (joined_word (get_or a i 0) (get_or b j 0)) (i + 1) (j + 1)
  unfolding left
  turn_same ia jb h =
      let equal : rank_in (get_or a i 0) ≡ rank_in (get_or b j 0) = sym (key_in a i ia) ∙ h ∙ key_in b j jb in
      record {
        taken = rw (rest_of a i ia, rest_of b j jb, union_words_same (get_or a i 0) (get_or b j 0) (drop (i + 1) a) (drop (j + 1) b) equal);
        in_a = omega arith;
        in_b = omega arith;
        more = omega arith;
      }

-- ---- storing what is left

-- there is room for the next row
pub turn-fits : {a b out : List ℕ} {i j k w i' j' : ℕ} → MergeRoom a b out i j k → UnionTurn a b i j w i' j' → k < length out
turn-fits room turn = omega (arith, room.fits, ap length turn.taken)

-- one row is stored
pub stored_row : {a b out : List ℕ} {i j k w i' j' : ℕ} → MergeRoom a b out i j k → UnionTurn a b i j w i' j' →
    Merged a b out i j k (set out k w) i' j' (k + 1)
stored_row {out = out} {k = k} {w = w} room turn =
    record {
      room = record { in_a = turn.in_a; in_b = turn.in_b; fits = omega (arith, room.fits, ap length turn.taken, length-set out k w) };
      same = rw (turn.taken, add-one);
      placed = omega (arith, ap length turn.taken);
      passed = omega (arith, turn.more);
    }

-- nothing is stored
pub stored_none : (a b out : List ℕ) (i j k : ℕ) → MergeRoom a b out i j k → Merged a b out i j k out i j k
stored_none a b out i j k room = record { room = room; same = refl; placed = refl; passed = le_refl (i + j) }

-- some rows are stored, and then some more
pub stored_more : {a b out out₁ out₂ : List ℕ} {i j k i₁ j₁ k₁ i₂ j₂ k₂ : ℕ} →
    Merged a b out i j k out₁ i₁ j₁ k₁ → Merged a b out₁ i₁ j₁ k₁ out₂ i₂ j₂ k₂ → Merged a b out i j k out₂ i₂ j₂ k₂
stored_more once again = record {
  room = again.room;
  same = again.same ∙ once.same;
  placed = again.placed ∙ once.placed;
  passed = omega (arith, once.passed, again.passed);
}

-- rows of one run are stored, one after the other, where each is the next row in its turn: f and g say how many rows of the runs are passed
pub stored_run :
    (rows : List ℕ) (at : ℕ) {a b out : List ℕ} {k : ℕ} (f g : ℕ → ℕ) (n : ℕ)
    → at + n ≤ length rows
    → ((m : ℕ) → m < n → UnionTurn a b (f m) (g m) (get_or rows (at + m) 0) (f (m + 1)) (g (m + 1)))
    → MergeRoom a b out (f 0) (g 0) k
    → Merged a b out (f 0) (g 0) k (sets out k (take n (drop at rows))) (f n) (g n) (k + n)
stored_run rows at f g zero h turns room = rw add-zero (stored_none _ _ _ _ _ _ room)
stored_run rows at {out = out} {k = k} f g (suc n) h turns room =
    let before = stored_run rows at f g n (omega arith) (λ m less. turns m (omega arith)) room in
    let next = stored_row before.room (turns n (omega arith)) in
    let one_more = rw (get_or-drop, add-one) at (copied_next (drop at rows) out k n (omega (arith, length-drop at rows))) in
    rw (← one_more, add-suc) (rw (add-one, add-one) at (stored_more before next))

-- storing keeps the output's length
pub stored_length : {a b out out' : List ℕ} {i j k i' j' k' : ℕ} → Merged a b out i j k out' i' j' k' → length out' ≡ length out
stored_length {a} {b} {out} {out'} {i} {j} {k} {i'} {j'} {k'} stored =
    sym (length-sets out' k' (left a b i' j')) ∙ ap length stored.same ∙ length-sets out k (left a b i j)

-- ---- copying what one run alone has

-- a deeper row comes first
deeper_first : (x y : ℕ) → depth_in x < depth_in y → rank_in y < rank_in x
deeper_first x y h = let node = ne_eqb (depth_in y) 0 (λ e. omega arith) in rw node (omega arith)

-- a node is copied, and then what is below it
pub node_copied :
    {at to end : ℕ} {rows out out' : List ℕ}
    → at < length rows
    → CopiedBelow (depth_in (get_or rows at 0)) rows (at + 1) (set out to (get_or rows at 0)) (to + 1) out' end
    → Copied rows at out to out' end
node_copied {at} {to} {end} {rows} {out} h below = record {
  some_row = omega (arith, below.below.passed);
  inside = below.below.inside;
  deeper = λ k more less. below.below.deeper k (omega arith) less;
  copied =
      let many : end - at ≡ suc (end - (at + 1)) = omega (arith, below.below.passed) in
      rw (many, rest_of rows at h) (rw (add-one to) at below.copied);
}

-- the keys of a node and of all that was copied with it are below the key of what comes after the node
copied_keys :
    {rows out out' : List ℕ} {at to end : ℕ} (bound : ℕ)
    → Copied rows at out to out' end
    → key_at rows at < bound
    → (m : ℕ)
    → at + m < end
    → key_at rows (at + m) < bound
copied_keys {rows} {at = at} bound copied h zero inside = rw add-zero h
copied_keys {rows} {at = at} bound copied h (suc m) inside =
    let order = deeper_first (get_or rows at 0) (get_or rows (at + suc m) 0) (copied.deeper (at + suc m) (omega arith) inside) in
    omega (
      arith,
      order,
      key_in rows at (omega (arith, copied.inside)),
      key_in rows (at + suc m) (omega (arith, copied.inside)),
    )

module _ {a b out out' : List ℕ} {i j k end : ℕ} (room : MergeRoom a b out i j k) where
  -- a node that the left run alone has is stored, with all below it
  pub stored_left : key_at a i < key_at b j → Copied a i out k out' end → Merged a b out i j k out' end j (k + (end - i))
  stored_left less copied =
      let last : i + (end - i) ≡ end = omega (arith, copied.some_row) in
      let turns : (m : ℕ) → m < end - i → UnionTurn a b (i + m) j (get_or a (i + m) 0) (i + (m + 1)) j = λ m inside.
      rw (← add_assoc i m 1) (turn_first a b (i + m) j (omega (arith, copied.inside)) room.in_b (omega (arith, copied.inside)) (copied_keys (key_at b j) copied less m (omega arith))) in
      let stored = stored_run a i {out = out} {k = k} (λ m. i + m) (λ m. j) (end - i) (omega (arith, copied.inside)) turns (rw add-zero room) in
      rw copied.copied (rw (add-zero, last) at stored)

  -- and one that the right run alone has
  pub stored_right : key_at b j < key_at a i → Copied b j out k out' end → Merged a b out i j k out' i end (k + (end - j))
  stored_right less copied =
      let last : j + (end - j) ≡ end = omega (arith, copied.some_row) in
      let turns : (m : ℕ) → m < end - j → UnionTurn a b i (j + m) (get_or b (j + m) 0) i (j + (m + 1)) = λ m inside.
      rw (← add_assoc j m 1) (turn_second a b i (j + m) room.in_a (omega (arith, copied.inside)) (omega (arith, copied.inside)) (copied_keys (key_at a i) copied less m (omega arith))) in
      let stored = stored_run b j {out = out} {k = k} (λ m. i) (λ m. j + m) (end - j) (omega (arith, copied.inside)) turns (rw add-zero room) in
      rw copied.copied (rw (add-zero, last) at stored)

-- a union has as many rows as either run, or more
abbrev Longer : List ℕ → List ℕ → Type 0
Longer a b = (length a ≤ length (union_words a b)) × (length b ≤ length (union_words a b))

union_longer : (a b : List ℕ) → Longer a b
unfolding union_words
union_longer [] b = (omega arith, le_refl (length b))
union_longer (x ∷ a) b = go (λ b. union_longer a b) b
  where
    go : ((b : List ℕ) → Longer a b) → (b : List ℕ) → Longer (x ∷ a) b
    go rest [] = rw (union_words_nil (x ∷ a)) (omega arith, omega arith)
    go rest (y ∷ b) =
        compared (rank_in x) (rank_in y)
        (λ less. let longer = rest (y ∷ b) in rw (union_words_first x y a b less) (omega (arith, longer.0), omega (arith, longer.1)))
        λ not-less. compared (rank_in y) (rank_in x)
        (λ less. let longer = go rest b in rw (union_words_second x y a b less) (omega (arith, longer.0), omega (arith, longer.1)))
        (λ not_more.
        let longer = rest b in
        let equal : rank_in x ≡ rank_in y = omega arith in
        rw (union_words_same x y a b equal) (omega (arith, longer.0), omega (arith, longer.1)))

module _ {a b out : List ℕ} {i j k : ℕ} (room : MergeRoom a b out i j k) where
  -- so all that is left of either run fits
  pub merge_room_left : k + length a ≤ i + length out
  unfolding left
  merge_room_left = omega (arith, room.fits, (union_longer (drop i a) (drop j b)).0, length-drop i a, room.in_a)

  pub room_right : k + length b ≤ j + length out
  unfolding left
  room_right = omega (arith, room.fits, (union_longer (drop i a) (drop j b)).1, length-drop j b, room.in_b)

-- ---- the end of both runs

-- where no row is next, nothing is left
key_ended : (a : List ℕ) (i : ℕ) → all_words a ≡ true → 2 ^ 53 ≤ key_at a i → length a ≤ i
key_ended a i good h =
    compared i (length a) (λ inside. absurd (omega (arith, key_in a i inside, key_below (get_or a i 0) (word_at a i good inside)))) (λ past. past)

pub left_ended : (a b : List ℕ) (i j : ℕ) → all_words a ≡ true → all_words b ≡ true → 2 ^ 53 ≤ next_key a b i j → left a b i j ≡ []
unfolding left union_words
left_ended a b i j good-a good-b h =
    let both : (2 ^ 53 ≤ key_at a i) × (2 ^ 53 ≤ key_at b j) = next_least a b i j (2 ^ 53) h in
    rw (drop_of_length-le a (key_ended a i good-a both.0), drop_of_length-le b (key_ended b j good-b both.1))

-- ---- counting

-- nothing is counted
pub size_none : (a b : List ℕ) → Counted (union_words a b) (left a b 0 0) 0 0
unfolding left
size_none a b = counted_none (union_words a b)

-- the next row is counted with what was counted before
module _ {words a b : List ℕ} {i j w i' j' entries nodes : ℕ} where
  pub size_next : {entries' nodes' : ℕ} → Counted words (left a b i j) entries nodes → UnionTurn a b i j w i' j' →
      ((words rest : List ℕ) → Counted words (w ∷ rest) entries nodes → Counted words rest entries' nodes') →
      Counted words (left a b i' j') entries' nodes'
  size_next counted turn with_row = with_row words (left a b i' j') (rw turn.taken at counted)

-- ---- the whole union

-- all of it is to be stored
pub room_start : (a b out : List ℕ) (k : ℕ) → k + length (union_words a b) ≤ length out → MergeRoom a b out 0 0 k
unfolding left
room_start a b out k h = record { in_a = omega arith; in_b = omega arith; fits = h }

-- all of it is stored where no row is next
pub stored_all : (a b out out' : List ℕ) (k i' j' k' : ℕ) → all_words a ≡ true → all_words b ≡ true → Merged a b out 0 0 k out' i' j' k' →
    2 ^ 53 ≤ next_key a b i' j' → out' ≡ sets out k (union_words a b)
unfolding left
stored_all a b out out' k i' j' k' good-a good-b stored h =
    ap (sets out' k') (sym (left_ended a b i' j' good-a good-b h)) ∙ stored.same

-- and then the next place is behind all of it
pub stored_end : (a b out out' : List ℕ) (k i' j' k' : ℕ) → all_words a ≡ true → all_words b ≡ true → Merged a b out 0 0 k out' i' j' k' →
    2 ^ 53 ≤ next_key a b i' j' → k' ≡ k + length (union_words a b)
unfolding left
stored_end a b out out' k i' j' k' good-a good-b stored h =
    omega (arith, stored.placed, ap length (left_ended a b i' j' good-a good-b h))
