-- Laws of a walk over rows (Walks): what is kept at a depth, which rows are passed over, and that the listing's order is judged so.
use Rattle.std.specs.Prelude.{ℕ, zero, suc, ◌+◌, ◌-◌, ◌≤◌, ◌<◌, ◌≡◌, refl, true, false, ◌&&◌, leb, drop, get_or, set, replicate}
use Rattle.std.proofs.Common.{add-zero, add-suc, arith, sym, ◌∙◌, subst, true≢false, length-append, length-take, length-drop, drop_of_length-le, length-take-le, get_or-take, take-take, take-suc-set}
use Rattle.std.proofs.Math.Nat.{suc-add}
use Rattle.std.proofs.Math.Numerals.{add-one}
use Rattle.std.proofs.Math.Path.{ap}
use mathlib.Core.List.{List, [], ◌∷◌, ◌++◌, map, map-append, append_assoc}
use Rattle.std.proofs.Math.Option.{Option, none, some}
use Rattle.std.proofs.Math.ListN.{length, take, get_or-append}
use Rattle.std.proofs.lemmas.List.{length-map, get_or_at, take-append-le}
use Rattle.std.proofs.Math.Seq.{take-append-add}
use Rattle.rules.specs.Numbers.{accepted, refused, answer_by, most_steps}
use Rattle.rules.specs.Facts.{by_test, by_option, compared, accepted_same, then_accepted}
use Rattle.rules.specs.Tries.{Row, Form, kept_with, at, is_row, follows, ordered}
use Rattle.rules.specs.Listing.{Sofar, past, refusal}
use Rattle.rules.specs.Walks.{Walked, walked, Rule, passes_over, turn, walk}
pub use Rattle.rules.specs.WalkLaws.{down_to, Told, all, from, WentTo, all_in, orderly, is_accepted, OrderlyTo, walked_to, sofar_of, listed}
unfoldable pub use Rattle.rules.specs.WalkLaws.{Deeper, Stepwise}

-- ---- what is kept with a row

module _ {K : Type 0} (kept : List K) (row : Row) (k : K) (near : row.depth ≤ length kept) where
  -- for one depth more than the row's
  pub kept_length : length (kept_with kept row k) ≡ row.depth + 1
  kept_length = simp (length-append, length-take-le)

  -- at the row's depth what the row keeps, and above it what was kept
  pub kept_own : (d : K) → get_or (kept_with kept row k) row.depth d ≡ k
  kept_own d = get_or_at (take row.depth kept) k [] d row.depth (length-take-le _ _ near)

  pub kept_above : (d : K) (e : ℕ) → e < row.depth → get_or (kept_with kept row k) e d ≡ get_or kept e d
  kept_above d e above =
      let inside : e < length (take row.depth kept) = simp length-take-le above in
      get_or-append (take row.depth kept) (k ∷ []) d e inside ∙ get_or-take row.depth kept e d above

-- down to a depth above the row it stays as it was
pub kept_down : {K : Type 0} (kept : List K) (row : Row) (k : K) (e : ℕ) → e ≤ length kept → e ≤ row.depth →
    take e (kept_with kept row k) ≡ take e kept
kept_down kept row k e inside above =
    let within : e ≤ length (take row.depth kept) = omega (arith, length-take row.depth kept) in
    rw (take-append-le e (take row.depth kept) (k ∷ []) within, take-take e row.depth kept above)

kept_inside : {K : Type 0} (kept : List K) (row : Row) (k : K) (e : ℕ) → e < length kept → e < row.depth → e < length (kept_with kept row k)
kept_inside kept row k e inside above = omega (arith, length-append (take row.depth kept) (k ∷ []), length-take row.depth kept)

-- Where what is kept is the front of an array by depth, a store at the row's depth makes what is kept with the row the front.
pub kept_stored : {K : Type 0} (array : List K) (len : ℕ) (row : Row) (k : K) → row.depth ≤ len → row.depth < length array →
    take (row.depth + 1) (set array row.depth k) ≡ kept_with (take len array) row k
kept_stored array len row k near inside =
    rw (add-one, take-suc-set array row.depth k inside, take-take row.depth len array near)

-- what is kept as something else is kept alike
pub take-map : {A B : Type 0} (f : A → B) (n : ℕ) (l : List A) → take n (map f l) ≡ map f (take n l)
take-map f zero l = refl
take-map f (suc n) [] = refl
take-map {B = B} f (suc n) (x ∷ l) = ap (λ (m : List B). f x ∷ m) (take-map f n l)

pub kept_map : {A B : Type 0} (f : A → B) (kept : List A) (row : Row) (k : A) → kept_with (map f kept) row (f k) ≡ map f (kept_with kept row k)
kept_map f kept row k = rw (take-map f row.depth kept) (sym (map-append f (take row.depth kept) (k ∷ [])))

-- ---- one row after the other

module _ {K S : Type 0} (rule : Rule K S) (place : ℕ) (row : Row) (rows : List Row) (w : Walked K S) where
  -- a row that is passed over changes nothing, and keeps nothing
  pub walk_passed : passes_over (take row.depth w.kept) ≡ true →
      walk rule place (row ∷ rows) w ≡ walk rule (place + 1) rows (walked (kept_with w.kept row none) w.state)
  unfolding walk
  walk_passed over = rw over

  -- any other is looked at, once
  module _ (looked : passes_over (take row.depth w.kept) ≡ false) where
    pub walk_next : {k : Option K} {s : S} → rule place row rows w ≡ accepted (k, s) →
        walk rule place (row ∷ rows) w ≡ walk rule (place + 1) rows (walked (kept_with w.kept row k) s)
    unfolding walk
    walk_next e = rw (looked, e)

    pub walk_refused : {number at : ℕ} → rule place row rows w ≡ refused number at → walk rule place (row ∷ rows) w ≡ refused number at
    unfolding walk
    walk_refused e = rw (looked, e)

-- what a row keeps is kept with it, and is nothing where it is passed over and otherwise what the rule says
pub data Kept {K S : Type 0} (rule : Rule K S) (place : ℕ) (row : Row) (rows : List Row) (w : Walked K S) : Walked K S → Type 0 where
  over : passes_over (take row.depth w.kept) ≡ true → Kept rule place row rows w (walked (kept_with w.kept row none) w.state)
  said :
      {k : Option K} {s : S}
      → passes_over (take row.depth w.kept) ≡ false
      → rule place row rows w ≡ accepted (k, s)
      → Kept rule place row rows w (walked (kept_with w.kept row k) s)

-- Where a walk goes on, the row was passed over or looked at once.
module _ {K S : Type 0} (rule : Rule K S) (place : ℕ) (row : Row) (rows : List Row) (w : Walked K S) where
  turn_kept : {after : Walked K S} → turn rule place row rows w ≡ accepted after → Kept rule place row rows w after
  turn_kept {after} e =
      by_test (passes_over (take row.depth w.kept))
      (λ passes. subst (Kept rule place row rows w) (accepted_same _ _ (rw passes at e)) (over passes))
      (λ looks.
      let (got, says, kept) = then_accepted (rule place row rows w) _ (rw looks at e) in
      subst (Kept rule place row rows w) (accepted_same _ _ kept) (said looks says))

  pub walk_more : {end : Walked K S} → walk rule place (row ∷ rows) w ≡ accepted end →
      (after : Walked K S) × Kept rule place row rows w after × (walk rule (place + 1) rows after ≡ accepted end)
  unfolding walk
  walk_more e = let (after, turned, more) = then_accepted (turn rule place row rows w) _ e in (after, turn_kept turned, more)

-- Rows that are deeper than d leave what is kept down to d as it was.
module _ {K S : Type 0} (rule : Rule K S) (d : ℕ) where
  pub walk_down :
      (rows : List Row) (place : ℕ) (w end : Walked K S)
      → Deeper d rows
      → d < length w.kept
      → walk rule place rows w ≡ accepted end
      → take (d + 1) end.kept ≡ take (d + 1) w.kept
  unfolding walk Deeper
  walk_down [] place w end deeper inside e = ap (λ (x : Walked K S). take (d + 1) x.kept) (sym (accepted_same _ _ e))
  walk_down (row ∷ rows) place w end (below, deeper) inside e =
      let (after, kept, more) = walk_more rule place row rows w e in
      let (same, longer) = down row rows place w after below inside kept in
      walk_down rows (place + 1) after end deeper longer more ∙ same
    where
      down : (row : Row) (rows : List Row) (place : ℕ) (w after : Walked K S) → d < row.depth → d < length w.kept → Kept rule place row rows w after →
          (take (d + 1) after.kept ≡ take (d + 1) w.kept) × (d < length after.kept)
      down row rows place w after below inside (over passes) = (
        kept_down w.kept row none (d + 1) (omega arith) (omega arith),
        kept_inside w.kept row none d inside below,
      )
      down row rows place w after below inside (said {k} looks says) = (
        kept_down w.kept row k (d + 1) (omega arith) (omega arith),
        kept_inside w.kept row k d inside below,
      )

-- So what is kept at a depth is what the last row at that depth kept.
module _ {K S : Type 0} (rule : Rule K S) (kept : List (Option K)) (row : Row) (k : Option K) (near : row.depth ≤ length kept) where
  pub last_kept :
      (rows : List Row) (place : ℕ) (s : S) (end : Walked K S) (default : Option K)
      → Deeper row.depth rows
      → walk rule place rows (walked (kept_with kept row k) s) ≡ accepted end
      → get_or end.kept row.depth default ≡ k
  last_kept rows place s end default deeper e =
      let own : row.depth < row.depth + 1 = omega arith in
      let long : row.depth < length (kept_with kept row k) = omega (arith, kept_length kept row k near) in
      sym (get_or-take (row.depth + 1) end.kept row.depth default own)
      ∙ rw (walk_down rule row.depth rows place (walked (kept_with kept row k) s) end deeper long e)
      (get_or-take (row.depth + 1) (kept_with kept row k) row.depth default own ∙ kept_own kept row k near default)

-- ---- which rows are passed over

module _ {K : Type 0} where
  passes_none : (kept : List (Option K)) (n : ℕ) → passes_over (kept ++ replicate (suc n) none) ≡ true
  passes_none [] zero = refl
  passes_none [] (suc n) = passes_none [] n
  passes_none (k ∷ []) n = passes_none [] n
  passes_none (k ∷ next ∷ kept) n = passes_none (next ∷ kept) n

  passes_some : (s : List K) → passes_over (map some s) ≡ false
  passes_some [] = refl
  passes_some (k ∷ []) = refl
  passes_some (k ∷ next ∷ s) = passes_some (next ∷ s)

  -- where something is kept for each depth, no row is passed over
  pub passes_all : (s : List K) (d : ℕ) → passes_over (take d (map some s)) ≡ false
  passes_all s d = rw (take-map some d s) (passes_some (take d s))

  take_nothing : (e n : ℕ) → (m : ℕ) × (take (suc e) (down_to {K = K} [] (suc n)) ≡ down_to [] (suc m))
  take_nothing zero n = (0, refl)
  take_nothing (suc e) zero = (0, refl)
  take_nothing (suc e) (suc n) = let (m, same) = take_nothing e n in (suc m, ap (λ (l : List (Option K)). none ∷ l) same)

  -- a deeper row has that row's nothing above it
  take_deeper : (s : List K) (n d : ℕ) → length s < d → (m : ℕ) × (take d (down_to s (suc n)) ≡ down_to s (suc m))
  take_deeper s n d deeper =
      let (m, same) = take_nothing (d - suc (length s)) n in
      let far : d ≡ length (map {B = Option K} some s) + suc (d - suc (length s)) = omega (arith, length-map {B = Option K} s some) in
      (m, ap (λ (e : ℕ). take e (down_to s (suc n))) far ∙ take-append-add (map some s) (replicate (suc n) none) (suc (d - suc (length s))) ∙ rw same)

  -- and keeps nothing itself
  kept_deeper : (s : List K) (n : ℕ) (row : Row) → length s < row.depth → (m : ℕ) × (kept_with (down_to s (suc n)) row none ≡ down_to s (suc m))
  kept_deeper s n row deeper =
      let (m, same) = take_deeper s n row.depth deeper in
      (suc m, rw same (append_assoc (map some s) (replicate (suc m) none) (none ∷ []) ∙ ap (λ (l : List (Option K)). map some s ++ l) (go (suc m))))
    where
      go : (n : ℕ) → down_to {K = K} [] n ++ (none ∷ []) ≡ down_to [] (suc n)
      go zero = refl
      go (suc n) = ap (λ (l : List (Option K)). none ∷ l) (go n)

  -- any other has something for each depth above it
  take_level : (s : List K) (n d : ℕ) → d ≤ length s → take d (down_to s n) ≡ map some (take d s)
  take_level s n d level =
      take-append-le d (map some s) (replicate n none) (omega (arith, length-map {B = Option K} s some)) ∙ take-map some d s

  -- So exactly the rows that are deeper than that row are passed over, up to the next row that is not.
  pub passes_deeper : (s : List K) (n d : ℕ) → length s < d → passes_over (take d (down_to s (suc n))) ≡ true
  passes_deeper s n d deeper = let (m, same) = take_deeper s n d deeper in rw same (passes_none (map some s) m)

  pub passes_level : (s : List K) (n d : ℕ) → d ≤ length s → passes_over (take d (down_to s n)) ≡ false
  passes_level s n d level = rw (take_level s n d level) (passes_some (take d s))

-- All below a row that said so is passed over: the rule is not asked, and the state stays.
module _ {K S : Type 0} (rule : Rule K S) (s : List K) (state : S) where
  pub below_passed :
      (below rows : List Row) (place n : ℕ)
      → Deeper (length s) below
      → (m : ℕ)
      × (walk rule place (below ++ rows) (walked (down_to s (suc n)) state) ≡ walk rule (place + length below) rows (walked (down_to s (suc m)) state))
  unfolding Deeper
  below_passed [] rows place n deeper = (n, rw add-zero)
  below_passed (row ∷ below) rows place n (deep, deeper) =
      let (m, kept) = kept_deeper s n row deep in
      let (last, rest) = below_passed below rows (place + 1) m deeper in (
        last,
        walk_passed rule place row (below ++ rows) (walked (down_to s (suc n)) state) (passes_deeper s n row.depth deep)
            ∙ rw (kept, rest, add-one, suc-add, add-suc),
      )

module _ {K : Type 0} {Q : Row → Type 0} where
  -- So a row that is passed over lies below one that said so.
  pub passed_below : {kept : List (Option K)} (d : ℕ) → Told Q kept → passes_over (take d kept) ≡ true → (row : Row) × Q row × (row.depth < d)
  passed_below d (all s) passes = absurd (true≢false (sym passes ∙ passes_all s d))
  passed_below d (from s n row q depth) passes =
      compared (length s) d
      (λ deeper. (row, q, omega arith))
      (λ level. absurd (true≢false (sym passes ∙ passes_level s (suc n) d level)))

  module _ (row : Row) where
    told_over : {kept : List (Option K)} → Told Q kept → passes_over (take row.depth kept) ≡ true → Told Q (kept_with kept row none)
    told_over (all s) passes = absurd (true≢false (sym passes ∙ passes_all s row.depth))
    told_over (from s n above q depth) passes =
        compared (length s) row.depth
        (λ deeper.
        let (m, kept) = kept_deeper s n row deeper in
        rw kept (from s m above q depth))
        (λ level. absurd (true≢false (sym passes ∙ passes_level s (suc n) row.depth level)))

    told_level : (kept : List (Option K)) (s : List K) (k : Option K) → take row.depth kept ≡ map some (take row.depth s) → row.depth ≤ length s →
        (k ≡ none → Q row) → Told Q (kept_with kept row k)
    told_level kept s none same near says = rw same (from (take row.depth s) 0 row (says refl) (sym (length-take-le row.depth s near)))
    told_level kept s (some k) same near says = rw (same, ← map-append some (take row.depth s) (k ∷ [])) (all (kept_with s row k))

    told_said : {kept : List (Option K)} (k : Option K) → Told Q kept → row.depth ≤ length kept → passes_over (take row.depth kept) ≡ false →
        (k ≡ none → Q row) → Told Q (kept_with kept row k)
    told_said k (all s) near looks says =
        told_level (map some s) s k (take-map some row.depth s) (omega (arith, length-map {B = Option K} s some)) says
    told_said k (from s n above q depth) near looks says =
        compared (length s) row.depth
        (λ deeper. absurd (true≢false (sym (passes_deeper s n row.depth deeper) ∙ looks)))
        (λ level. told_level (down_to s (suc n)) s k (take_level s (suc n) row.depth level) level says)

module _ {K S : Type 0} (rule : Rule K S) (Q : Row → Type 0)
    (says_so : (place : ℕ) (row : Row) (rows : List Row) (w : Walked K S) (s : S) → rule place row rows w ≡ accepted (none, s) → Q row) where
  told_next : {place : ℕ} {row : Row} {rows : List Row} {w after : Walked K S} →
      row.depth ≤ length w.kept → Told Q w.kept → Kept rule place row rows w after → Told Q after.kept × (length after.kept ≡ row.depth + 1)
  told_next {place} {row} {rows} {w} near told (over passes) = (told_over row told passes, kept_length w.kept row none near)
  told_next {place} {row} {rows} {w} near told (said {k} {s} looks says) = (
    told_said row k told near looks (λ nothing. says_so place row rows w s (rw nothing at says)),
    kept_length w.kept row k near,
  )

  pub walk_told :
      (rows : List Row) (place : ℕ) (w end : Walked K S)
      → Stepwise (length w.kept) rows
      → Told Q w.kept
      → walk rule place rows w ≡ accepted end
      → Told Q end.kept
  unfolding walk Stepwise
  walk_told [] place w end steps told e = rw (← accepted_same _ _ e) told
  walk_told (row ∷ rows) place w end (near, steps) told e =
      let (after, kept, more) = walk_more rule place row rows w e in
      let (next, long) = told_next near told kept in
      walk_told rows (place + 1) after end (rw long steps) next more

-- ---- a walk from a row on: what a loop over rows cites

pub went_start : {K S : Type 0} (rule : Rule K S) (start : Walked K S) (rows : List Row) → WentTo rule start rows 0 start
went_start rule start rows = record { inside = omega arith; left = refl }

module _ {K S : Type 0} {rule : Rule K S} {start : Walked K S} {rows : List Row} {i : ℕ} {w : Walked K S} (went : WentTo rule start rows i w) where
  -- no row is left
  pub went_end : length rows ≤ i → walk rule 0 rows start ≡ accepted w
  unfolding walk
  went_end h = went.left ∙ rw (drop_of_length-le rows h)

  module _ {row : Row} (next : drop i rows ≡ row ∷ drop (i + 1) rows) where
    one_more : i + 1 ≤ length rows
    one_more = omega (arith, length-drop i rows, ap length next)

    -- the next row is passed over
    pub went_over : passes_over (take row.depth w.kept) ≡ true → WentTo rule start rows (i + 1) (walked (kept_with w.kept row none) w.state)
    went_over passes = record { inside = one_more; left = went.left ∙ rw next (walk_passed rule i row (drop (i + 1) rows) w passes) }

    -- the next row is looked at
    module _ (looked : passes_over (take row.depth w.kept) ≡ false) where
      pub went_next : {k : Option K} {s : S} → rule i row (drop (i + 1) rows) w ≡ accepted (k, s) →
          WentTo rule start rows (i + 1) (walked (kept_with w.kept row k) s)
      went_next e = record { inside = one_more; left = went.left ∙ rw next (walk_next rule i row (drop (i + 1) rows) w looked e) }

      pub went_refused : {number at : ℕ} → rule i row (drop (i + 1) rows) w ≡ refused number at → walk rule 0 rows start ≡ refused number at
      went_refused e = went.left ∙ rw next (walk_refused rule i row (drop (i + 1) rows) w looked e)

-- ---- the listing's order

all_some : {K : Type 0} (s : List K) → all_in (map some s) ≡ s
all_some [] = refl
all_some {K} (k ∷ s) = ap (λ (l : List K). k ∷ l) (all_some s)

-- The place of a row is what a walk keeps that keeps steps, and rows are in order where it is not refused.
pub ordered_walked :
    (s : List ℕ) (rows : List Row) (place : ℕ) → ordered s rows ≡ is_accepted (walk orderly place rows (walked (map some s) tt))
unfolding ordered walk
ordered_walked s [] place = refl
ordered_walked s (row ∷ rows) place =
    by_test (is_row row && (follows s row && leb row.depth most_steps))
    (λ may-come.
    rw (passes_all s row.depth, all_some s, may-come) (ordered_walked (at s row) rows (place + 1) ∙ rw (kept_map some s row row.step)))
    (λ may-not. rw (passes_all s row.depth, all_some s, may-not))

module _ {rows : List Row} {i : ℕ} (s : List ℕ) (went : OrderlyTo rows i s) where
  pub orderly_end : length rows ≤ i → ordered [] rows ≡ true
  orderly_end h = ordered_walked [] rows 0 ∙ rw (went_end went h)

  module _ {row : Row} (next : drop i rows ≡ row ∷ drop (i + 1) rows) where
    pub orderly_next : is_row row && (follows s row && leb row.depth most_steps) ≡ true → OrderlyTo rows (i + 1) (at s row)
    orderly_next may-come =
        rw (← kept_map some s row row.step) (went_next went next (passes_all s row.depth) (rw (all_some s, may-come)))

    pub orderly_refused : is_row row && (follows s row && leb row.depth most_steps) ≡ false → ordered [] rows ≡ false
    orderly_refused may-not =
        let says : orderly i row (drop (i + 1) rows) (walked (map some s) tt) ≡ refused 1 i = rw (all_some s, may-not) in
        ordered_walked [] rows 0 ∙ rw (went_refused went next (passes_all s row.depth) says)

-- ---- a listing's rows

-- A row that is read after others is a turn of that walk, so reading is the fold over lines of a walk's turns.
pub turn_past :
    (form : Form) (place : ℕ) (row : Row) (rows : List Row) (sofar : Sofar)
    → turn (listed form) place row rows (walked_to sofar) ≡ answer_by place (walked_to (past sofar row)) (refusal form sofar row)
turn_past form place row rows sofar =
    by_option (refusal form sofar row)
    (λ unrefused. rw (passes_all sofar.place row.depth, all_some sofar.place, unrefused, kept_map some sofar.place row row.step))
    (λ number given. rw (passes_all sofar.place row.depth, all_some sofar.place, given))
