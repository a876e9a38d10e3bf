-- Laws of `before`, of the parts of a text by it, of a run of stores that gets one more, and of letters. No contract cites this file.
use Prim.Native.Nat.{ℕ, suc, ◌+◌, ◌-◌, ◌*◌, ◌≤◌, ◌<◌}
use native.Mathlib.Nat.{add-zero, zero-add, add-suc, suc-add, add_assoc, add-sub_cancel_left}
use native.Mathlib.Numerals.{add-one}
use native.Mathlib.Omega.{arith}
use mathlib.Core.Bool.{Bool, true, false, cond}
use mathlib.Core.List.{List, [], ◌∷◌, ◌++◌, nil≢cons, tail-eq_of_cons-eq}
use mathlib.Core.Logic.{◌≢◌, ◌⊎◌, inl, inr, ⊎_elim}
use mathlib.Core.Option.{Option, none, some}
use mathlib.Core.Path.{◌≡◌, refl, sym, ap, ◌∙◌}
use borrow.Author.Tests.{eqb-true, eqb-false, eq-eqb, ne_eqb, lt-ltb, le-ltb}
use lib.Dec.{eqb, ltb}
use lib.ListN.{length, get_or, take, drop, drop_of_length-le, length-append, length-drop}
use lib.Seq.{drop-cons, drop-drop, take-append_seam, drop-append-add}
use Rattle.rules.specs.Text.{parted, onto, lines_of, fields_of, number_from, decimal_up_to, decimal_of, decimal, LF, TAB}
use Rattle.rules.proofs.TextLaws.{Free, free_empty, free_more, parted_free, parted_first, parted_some, parted_split, free_decimal, number_from_digit, number_from_none, decimal_up_to_one, decimal_up_to_more, decimal_written, joined_by, joined_parted}
use Rattle.rules.specs.Facts.{by_test, by_option, compared}
use Rattle.rules.specs.Listing.{is_letter}
use Rattle.text.specs.Answers.{line_at, first_line, field_at, first_field, number_of, number_to, first_number, number_at, ending}
use Rattle.text.specs.Before.{before}
use Rattle.text.specs.declared.Line.{Line}
use Rattle.text.specs.declared.Line.TheVariants.{End, Whole, Cut}
use Rattle.std.specs.Prelude.{Option as Maybe, Some, None}

-- ---- what a scan passes

-- nothing is left past the end
pub before_past : (b i : ℕ) (s : List ℕ) → length s ≤ i → before b (drop i s) ≡ []
unfolding before
before_past b i s h = rw (drop_of_length-le s h)

-- nothing stands before a b
pub before_found : (b i : ℕ) (s : List ℕ) → i < length s → get_or s i 0 ≡ b → before b (drop i s) ≡ []
unfolding before
before_found b i s h e = rw (drop-cons s i 0 h, eq-eqb (get_or s i 0) b e)

-- another byte is passed
pub before_passed : (b i : ℕ) (s : List ℕ) → i < length s → get_or s i 0 ≢ b → before b (drop i s) ≡ get_or s i 0 ∷ before b (drop (i + 1) s)
unfolding before
before_passed b i s h e = rw (add-one, drop-cons s i 0 h, ne_eqb (get_or s i 0) b e)

-- something is left from a place before the end on
pub drop-some : (at : ℕ) (s : List ℕ) → at < length s → eqb (length (drop at s)) 0 ≡ false
drop-some at s h = ne_eqb (length (drop at s)) 0 (omega (arith, length-drop at s))

-- ---- the parts of a run

-- there is no b before the first b
before_free : (b : ℕ) (xs : List ℕ) → Free b (before b xs)
unfolding before
before_free b [] = free_empty
before_free b (x ∷ xs) = go (eqb x b) refl (before_free b xs)
  where
    go : (same : Bool) → eqb x b ≡ same → Free b (before b xs) → Free b (cond same [] (x ∷ before b xs))
    go true q rest = free_empty
    go false q rest = free_more (eqb-false x b q) rest

-- a run has no b, or is what stands before its first b, that b and a rest
before_split : (b : ℕ) (xs : List ℕ) → (before b xs ≡ xs) ⊎ ((rest : List ℕ) × (xs ≡ before b xs ++ b ∷ rest))
unfolding before
before_split b [] = inl refl
before_split b (x ∷ xs) = go (eqb x b) refl (before_split b xs)
  where
    go : (same : Bool) → eqb x b ≡ same → (before b xs ≡ xs) ⊎ ((rest : List ℕ) × (xs ≡ before b xs ++ b ∷ rest)) →
        (cond same [] (x ∷ before b xs) ≡ x ∷ xs) ⊎ ((rest : List ℕ) × (x ∷ xs ≡ cond same [] (x ∷ before b xs) ++ b ∷ rest))
    go true q split = inr (xs, rw (eqb-true x b q))
    go false q split = ⊎_elim (λ e. inl (rw e)) (λ w. inr (w.0, ap (λ (l : List ℕ). x ∷ l) w.1)) split

-- what a scan from a place on finds no b in is one part
pub parted_whole : (b at : ℕ) (s : List ℕ) → length s ≤ at + length (before b (drop at s)) → parted b (drop at s) ≡ drop at s ∷ []
parted_whole b at s h =
    ⊎_elim
    (λ e. rw e at (parted_free (before_free b (drop at s))))
    (λ w. absurd (omega (arith, length-drop at s, ap length w.1 ∙ length-append (before b (drop at s)) (b ∷ w.0))))
    (before_split b (drop at s))

-- what a scan from a place on finds a b in has what stands before that b as its first part, and a second part
pub parted_cut : (b at : ℕ) (s : List ℕ) → at + length (before b (drop at s)) < length s →
    (next : List ℕ) × (more : List (List ℕ)) × (parted b (drop at s) ≡ before b (drop at s) ∷ next ∷ more)
parted_cut b at s h =
    ⊎_elim
    (λ e. absurd (omega (arith, length-drop at s, ap length e)))
    (λ w. let (next, more, p) = parted_some b w.0 in
    (next, more, ap (parted b) w.1 ∙ parted_first (before_free b (drop at s)) w.0 ∙ rw p))
    (before_split b (drop at s))

-- a part that another follows ends at a b, and behind that stand the parts of what is left
pub part_split : (b at : ℕ) (s part next : List ℕ) (more : List (List ℕ)) → parted b (drop at s) ≡ part ∷ next ∷ more →
    (drop at s ≡ part ++ b ∷ drop (at + length part + 1) s) × (parted b (drop (at + length part + 1) s) ≡ next ∷ more)
part_split b at s part next more e =
    let split = parted_split b (drop at s) part next more e in
    let behind : drop (at + length part + 1) s ≡ split.0 =
    ap (λ (n : ℕ). drop n s) (add_assoc at (length part) 1)
    ∙ sym (drop-drop (length part + 1) at s)
    ∙ ap (drop (length part + 1)) split.1
    ∙ drop-append-add part (b ∷ split.0) 1 in
    (split.1 ∙ rw behind, ap (parted b) behind ∙ split.2)

pub parted_next : (b at : ℕ) (s part next : List ℕ) (more : List (List ℕ)) → parted b (drop at s) ≡ part ∷ next ∷ more →
    parted b (drop at s) ≡ take (length part) (drop at s) ∷ parted b (drop (at + length part + 1) s)
parted_next b at s part next more e =
    let (split, others) = part_split b at s part next more e in
    let first : take (length part) (drop at s) ≡ part = ap (take (length part)) split ∙ take-append_seam part (b ∷ drop (at + length part + 1) s) in
    e ∙ sym (rw (first, others))

-- a part that another follows, from a place on, ends before the end
pub part_within : (b at : ℕ) (s part next : List ℕ) (more : List (List ℕ)) → parted b (drop at s) ≡ part ∷ next ∷ more → at + length part < length s
part_within b at s part next more e =
    let split = parted_split b (drop at s) part next more e in
    omega (arith, length-drop at s, ap length split.1 ∙ length-append part (b ∷ split.0))

-- the tab that ends a field stands in the text
pub more_within : (line : List ℕ) (at end : ℕ) (r : Maybe ℕ) → r ≡ field_at line at → r ≡ Some end → (at ≤ end) × (end < length line)
more_within line at end r ensured e = go (fields_of (drop at line)) refl (sym ensured ∙ e)
  where
    go : (fields : List (List ℕ)) → fields_of (drop at line) ≡ fields → first_field at fields ≡ Some end → (at ≤ end) × (end < length line)
    go [] q e = absurd (let z : ◌≡◌ {A = ℕ} 0 1 = cc in omega arith)
    go (field ∷ []) q e = absurd (let z : ◌≡◌ {A = ℕ} 0 1 = cc in omega arith)
    go (field ∷ next ∷ fields) q e =
        let place : at + length field ≡ end = cc in
        omega (arith, part_within TAB at line field next fields q)

-- ---- the lines of a text from a place on

-- a line that begins at a place and that an LF ends: it stands in front of the lines behind the LF
pub record LineTo (text : List ℕ) (at end : ℕ) (line : List ℕ) : Type 0 where
  pub ends : at + length line ≡ end
  pub within : end < length text
  pub first : lines_of (drop at text) ≡ line ∷ lines_of (drop (end + 1) text)

line_to : (text : List ℕ) (at : ℕ) (line next : List ℕ) (more : List (List ℕ)) → lines_of (drop at text) ≡ line ∷ next ∷ more →
    LineTo text at (at + length line) line
line_to text at line next more q = record {
  ends = refl;
  within = part_within LF at text line next more q;
  first = q ∙ rw (part_split LF at text line next more q).1;
}

-- what is left from a place on has no LF, or begins with a line that an LF ends
pub by_line :
    {P : Type 0} (text : List ℕ) (at : ℕ)
    → (lines_of (drop at text) ≡ drop at text ∷ [] → P)
    → ((end : ℕ) (line : List ℕ) → LineTo text at end line → P)
    → P
unfolding joined_by
by_line {P} text at cut-then whole-then = go (lines_of (drop at text)) refl
  where
    go : (lines : List (List ℕ)) → lines_of (drop at text) ≡ lines → P
    go [] q = let (line, others, some-line) = parted_some LF (drop at text) in absurd (nil≢cons (sym q ∙ some-line))
    go (line ∷ []) q =
        let same : line ≡ drop at text = sym (ap (joined_by LF) q) ∙ joined_parted LF (drop at text) in
        cut-then (q ∙ rw same)
    go (line ∷ next ∷ more) q = whole-then (at + length line) line (line_to text at line next more q)

-- the line that was found from a place to an LF
pub whole_line : (text : List ℕ) (at end : ℕ) (r : Line) → r ≡ line_at text at → r ≡ Whole end → LineTo text at end (take (end - at) (drop at text))
whole_line text at end r ensured e = go (lines_of (drop at text)) refl (sym ensured ∙ e)
  where
    last : (empty : Bool) → cond empty End Cut ≡ Whole end → ⊥
    last true e = let z : ◌≡◌ {A = ℕ} 0 1 = cc in omega arith
    last false e = let z : ◌≡◌ {A = ℕ} 0 1 = cc in omega arith

    go : (lines : List (List ℕ)) → lines_of (drop at text) ≡ lines → first_line at lines ≡ Whole end →
        LineTo text at end (take (end - at) (drop at text))
    go [] q e = absurd (let z : ◌≡◌ {A = ℕ} 0 1 = cc in omega arith)
    go (line ∷ []) q e = absurd (last (eqb (length line) 0) e)
    go (line ∷ next ∷ lines) q e =
        let place : at + length line ≡ end = cc in
        let same : take (end - at) (drop at text) ≡ line =
        rw (← place, add-sub_cancel_left, (part_split LF at text line next lines q).0) (take-append_seam line _) in
        rw (same, ← place) (line_to text at line next lines q)

pub whole_within : (text : List ℕ) (at end : ℕ) (r : Line) → r ≡ line_at text at → r ≡ Whole end → (at ≤ end) × (end < length text)
whole_within text at end r ensured e = let found = whole_line text at end r ensured e in (omega (arith, found.ends), found.within)

-- where no LF was found there is none
pub cut_line : (text : List ℕ) (at : ℕ) (r : Line) → r ≡ line_at text at → ((end : ℕ) → r ≡ Whole end → ⊥) →
    lines_of (drop at text) ≡ drop at text ∷ []
cut_line text at r ensured unended =
    by_line text at (λ alone. alone)
    (λ end line to. absurd (unended (at + length line) (ensured ∙ rw (to.first, (parted_some LF (drop (end + 1) text)).2))))

-- a number that was read is an id
pub value_most : (field : List ℕ) (r : Maybe ℕ) (n : ℕ) → number_of r ≡ decimal_of field → r ≡ Some n → n ≤ 65535
value_most field r n ensured e = (decimal_written field n (sym ensured ∙ ap number_of e)).1

-- ---- a number that is read from a place to the next b

module _ (reads : List ℕ → Option ℕ) (b i : ℕ) (s : List ℕ) where
  -- no b ends it
  pub number_past : length s ≤ i → first_number reads i (parted b (drop i s)) ≡ None
  unfolding parted
  number_past h = rw (drop_of_length-le s h)

  module _ (inside : i < length s) where
    -- it ends at a b
    pub number_found : get_or s i 0 ≡ b → first_number reads i (parted b (drop i s)) ≡ ending i (reads [])
    unfolding parted
    number_found e = rw (drop-cons s i 0 inside, eq-eqb (get_or s i 0) b e, (parted_some b (drop (suc i) s)).2, add-zero)

    module _ (other : get_or s i 0 ≢ b) where
      -- another byte is passed: what is left is read as it goes on after that byte
      pub number_passed : (reads' : List ℕ → Option ℕ) → ((part : List ℕ) → reads (get_or s i 0 ∷ part) ≡ reads' part) →
          first_number reads i (parted b (drop i s)) ≡ first_number reads' (i + 1) (parted b (drop (i + 1) s))
      unfolding parted
      number_passed reads' same = rw (add-one, drop-cons s i 0 inside, ne_eqb (get_or s i 0) b other) (go (parted b (drop (suc i) s)))
        where
          go : (parts : List (List ℕ)) → first_number reads i (onto (get_or s i 0) parts) ≡ first_number reads' (suc i) parts
          go [] = refl
          go (part ∷ []) = refl
          go (part ∷ next ∷ more) = rw (same part, add-suc, suc-add)

      -- no number is read where none goes on after that byte
      pub number_bad : ((part : List ℕ) → reads (get_or s i 0 ∷ part) ≡ none) → first_number reads i (parted b (drop i s)) ≡ None
      number_bad bad = number_passed (λ part. none) bad ∙ go (parted b (drop (i + 1) s))
        where
          go : (parts : List (List ℕ)) → first_number (λ part. none) (i + 1) parts ≡ None
          go [] = refl
          go (part ∷ []) = refl
          go (part ∷ next ∷ more) = refl

-- ---- the digits from a place to the next b

module _ (b n i : ℕ) (s : List ℕ) where
  -- nothing is left
  pub to_past : length s ≤ i → number_to b s n i ≡ Some (n, i)
  unfolding number_from
  to_past h = rw (before_past b i s h, add-zero)

  module _ (inside : i < length s) where
    -- a b ends them
    pub to_found : get_or s i 0 ≡ b → number_to b s n i ≡ Some (n, i)
    unfolding number_from
    to_found e = rw (before_found b i s inside e, add-zero)

    module _ (other : get_or s i 0 ≢ b) where
      -- another byte is no digit, or makes the number too large
      pub to_bad : (48 ≤ get_or s i 0 → get_or s i 0 ≤ 57 → n * 10 + (get_or s i 0 - 48) ≤ 65535 → ⊥) → number_to b s n i ≡ None
      to_bad h = rw (before_passed b i s inside other, number_from_none 65535 n (get_or s i 0) (before b (drop (i + 1) s)) h)

      -- or the number goes on with it
      pub to_more :
          48 ≤ get_or s i 0
          → get_or s i 0 ≤ 57
          → n * 10 + (get_or s i 0 - 48) ≤ 65535
          → number_to b s n i ≡ number_to b s (n * 10 + (get_or s i 0 - 48)) (i + 1)
      to_more low high fits =
          let place : i + suc (length (before b (drop (i + 1) s))) ≡ i + 1 + length (before b (drop (i + 1) s)) = omega arith in
          rw (before_passed b i s inside other, number_from_digit 65535 n (get_or s i 0) (before b (drop (i + 1) s)) low high fits, place)

-- a number that ends at a place, if it does
abbrev pub ending_at : ℕ → Maybe (ℕ × ℕ) → Option ℕ
ending_at end None = none
ending_at end (Some (n, place)) = cond (eqb place end) (some n) none

-- a field that has no 0 in front of another digit is a decimal where no b ends its digits
pub decimal_to :
    (b : ℕ) (field : List ℕ)
    → b < 48
    → 0 < length field
    → (1 < length field → get_or field 0 0 ≢ 48)
    → decimal_of field ≡ ending_at (length field) (number_to b field 0 0)
decimal_to b field small some_byte leads =
    ⊎_elim
    (λ (all : before b (drop 0 field) ≡ field). by_number ∙ sym (rw (all, zero-add) (whole (number_from 65535 0 field))))
    (λ (rest, cut).
    let shorter : 0 + length (before b field) ≢ length field =
    λ e. omega (arith, ap length cut ∙ length-append (before b field) (b ∷ rest)) in
    by_option (decimal_of field)
    (λ q. q ∙ sym (other (0 + length (before b field)) shorter (number_from 65535 0 (before b field))))
    (λ n q.
    let free : Free b field = rw (decimal_written field n q).0 (free_decimal b n small) in
    let alone : before b field ∷ parted b rest ≡ field ∷ [] = sym (ap (parted b) cut ∙ parted_first (before_free b field) rest) ∙ parted_free free in
    absurd (nil≢cons (sym (sym (parted_some b rest).2 ∙ tail-eq_of_cons-eq alone)))))
    (before_split b field)
  where
    by_number : decimal_of field ≡ number_from 65535 0 field
    by_number = compared 1 (length field) (λ more. decimal_up_to_more 65535 field some_byte (leads more)) (λ one. decimal_up_to_one 65535 field (omega arith))

    whole : (o : Option ℕ) → ending_at (length field) (ending (length field) o) ≡ o
    whole none = refl
    whole (some n) = rw (eq-eqb (length field) (length field) refl)

    other : (end : ℕ) → end ≢ length field → (o : Option ℕ) → ending_at (length field) (ending end o) ≡ none
    other end e none = refl
    other end e (some n) = rw (ne_eqb end (length field) e)

-- a number that ends before a place, if it does
abbrev pub ending_before : ℕ → Maybe (ℕ × ℕ) → Maybe (ℕ × ℕ)
ending_before length None = None
ending_before length (Some (n, end)) = cond (ltb end length) (Some (n, end)) None

module _ (b : ℕ) (s : List ℕ) (small : b < 48) where
  -- what is read up to the next b, where there is one
  first_to :
      (reads : List ℕ → Option ℕ) (i : ℕ)
      → first_number reads i (parted b (drop i s))
      ≡ ending_before (length s) (ending (i + length (before b (drop i s))) (reads (before b (drop i s))))
  first_to reads i =
      compared (i + length (before b (drop i s))) (length s)
      (λ inside. rw (parted_cut b i s inside).2 (within inside (reads (before b (drop i s)))))
      (λ past. rw (parted_whole b i s past) (sym (beyond past (reads (before b (drop i s))))))
    where
      within : i + length (before b (drop i s)) < length s → (o : Option ℕ) →
          ending (i + length (before b (drop i s))) o ≡ ending_before (length s) (ending (i + length (before b (drop i s))) o)
      within h none = refl
      within h (some n) = rw (lt-ltb (i + length (before b (drop i s))) (length s) h)

      beyond : length s ≤ i + length (before b (drop i s)) → (o : Option ℕ) →
          ending_before (length s) (ending (i + length (before b (drop i s))) o) ≡ None
      beyond h none = refl
      beyond h (some n) = rw (le-ltb (i + length (before b (drop i s))) (length s) h)

  module _ (at : ℕ) (inside : at < length s) where
    -- a number begins with a digit
    pub number_undigit : (48 ≤ get_or s at 0 → get_or s at 0 ≤ 57 → ⊥) → number_at b s at ≡ None
    unfolding decimal_up_to
    number_undigit none_there =
        by_test (eqb (get_or s at 0) b)
        (λ t. number_found decimal_of b at s inside (eqb-true (get_or s at 0) b t))
        (λ t.
        number_bad decimal_of b at s inside (eqb-false (get_or s at 0) b t)
        (λ part.
        decimal_up_to_more 65535 (get_or s at 0 ∷ part) (omega arith) (λ e. none_there (omega (arith, e)) (omega (arith, e)))
        ∙ number_from_none 65535 0 (get_or s at 0) part (λ low high fits. none_there low high)))

    -- and, where that is no 0, goes on up to the next b
    pub number-to :
        48 < get_or s at 0
        → get_or s at 0 ≤ 57
        → number_at b s at ≡ ending_before (length s) (number_to b s (get_or s at 0 - 48) (at + 1))
    number-to low high =
        let first : 0 * 10 + (get_or s at 0 - 48) ≡ get_or s at 0 - 48 = omega arith in
        number_passed decimal_of b at s inside (λ e. omega arith) (number_from 65535 (get_or s at 0 - 48))
        (λ part.
        decimal_up_to_more 65535 (get_or s at 0 ∷ part) (omega arith) (λ e. omega (arith, e))
        ∙ number_from_digit 65535 0 (get_or s at 0) part (omega arith) high (omega arith)
        ∙ rw first)
        ∙ first_to (number_from 65535 (get_or s at 0 - 48)) (at + 1)

-- what a number is, by the answer
ending_of : (place : ℕ) (o : Option ℕ) {n end : ℕ} → ending place o ≡ Some (n, end) → (o ≡ some n) × (place ≡ end)
ending_of place none {n} {end} e = absurd (let z : ◌≡◌ {A = ℕ} 0 1 = cc in omega arith)
ending_of place (some m) {n} {end} e =
    let same : (m, place) ≡ (n, end) = cc in
    (ap some (ap (λ (x : ℕ × ℕ). x.0) same), ap (λ (x : ℕ × ℕ). x.1) same)

-- they end inside the bytes
pub to_within : (b n i : ℕ) (s : List ℕ) {m end : ℕ} → i ≤ length s → number_to b s n i ≡ Some (m, end) → end ≤ length s
to_within b n i s {m} {end} inside e =
    let (_, place) = ending_of (i + length (before b (drop i s))) (number_from 65535 n (before b (drop i s))) e in
    ⊎_elim
    (λ all. omega (arith, place, ap length all, length-drop i s))
    (λ w. omega (arith, place, length-drop i s, ap length w.1 ∙ length-append (before b (drop i s)) (b ∷ w.0)))
    (before_split b (drop i s))

-- what is known of a number that a b ends: it is what would be written, and the b stands behind it
abbrev pub NumberEnds : ℕ → List ℕ → ℕ → ℕ → ℕ → Type 0
NumberEnds b s at n end =
    (n ≤ 65535) × (end < length s) × (at + length (decimal n) ≡ end) × (drop at s ≡ decimal n ++ b ∷ drop (end + 1) s)

module _ (b : ℕ) (s : List ℕ) (at : ℕ) {r : Maybe (ℕ × ℕ)} (ensured : r ≡ number_at b s at) where
  pub number_ends : {n end : ℕ} → r ≡ Some (n, end) → NumberEnds b s at n end
  number_ends {n} {end} e = go (parted b (drop at s)) refl (sym ensured ∙ e)
    where
      go : (parts : List (List ℕ)) → parted b (drop at s) ≡ parts → first_number decimal_of at parts ≡ Some (n, end) → NumberEnds b s at n end
      go [] q e = absurd (let z : ◌≡◌ {A = ℕ} 0 1 = cc in omega arith)
      go (part ∷ []) q e = absurd (let z : ◌≡◌ {A = ℕ} 0 1 = cc in omega arith)
      go (part ∷ next ∷ more) q e =
          let (value, place) = ending_of (at + length part) (decimal_of part) e in
          let (written, small) = decimal_written part n value in
          let split : drop at s ≡ part ++ b ∷ drop (end + 1) s = rw place at (part_split b at s part next more q).0 in
          (small, omega (arith, part_within b at s part next more q), rw (← written, place), split ∙ rw written)

  -- what stands there otherwise, where a b ends it, is no decimal
  pub number_unended : r ≡ None → (part next : List ℕ) (more : List (List ℕ)) → parted b (drop at s) ≡ part ∷ next ∷ more → decimal_of part ≡ none
  number_unended bad part next more q =
      by_option (decimal_of part) (λ e. e)
      (λ n e.
      let read : None ≡ Some (n, (at + length part)) =
      sym bad ∙ ensured ∙ ap (first_number decimal_of at) q ∙ ap (ending (at + length part)) e in
      absurd (let z : ◌≡◌ {A = ℕ} 0 1 = cc in omega arith))

-- ---- a field that is one letter

-- a field of one byte is that letter or not
pub letter_one : (letter : ℕ) (field : List ℕ) → length field ≡ 1 → is_letter letter field ≡ eqb (get_or field 0 0) letter
letter_one letter [] h = absurd (omega arith)
letter_one letter (byte ∷ []) h = refl
letter_one letter (byte ∷ more ∷ field) h = absurd (omega arith)

-- a field of no byte, or of more, is no letter
pub letter_none : (letter : ℕ) (field : List ℕ) → (length field ≡ 1 → ⊥) → is_letter letter field ≡ false
letter_none letter [] h = refl
letter_none letter (byte ∷ []) h = absurd (h refl)
letter_none letter (byte ∷ more ∷ field) h = refl
