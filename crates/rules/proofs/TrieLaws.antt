-- Laws of rows in listing order and of their union (Tries): its places, marks and counts, and that rows are known by places.
use Rattle.std.specs.Prelude.{ℕ, suc, ◌+◌, ◌^◌, ◌≤◌, ◌<◌, ◌≡◌, ◌⊎◌, ◌↔◌, Bool, true, false, cond, not, ◌||◌, ltb, eqb, length, take, get_or}
use native.Mathlib.Omega.{arith}
use Rattle.std.proofs.Common.{le_refl, le_of_lt, ap, inl, inr, ⊎_elim, ltb-true, ltb-false, leb-true, eqb-true, lt-ltb, le-ltb, le-leb, eq-eqb}
use Rattle.std.proofs.Math.Path.{refl, sym}
use mathlib.Core.Logic.Iff
use Rattle.std.proofs.Math.Bool.{and-eq-true_iff, or-false, or_self, or_comm}
use mathlib.Core.List.{List, [], ◌∷◌, map}
use Rattle.std.proofs.Math.Option.{none}
use Rattle.std.proofs.lemmas.Bool.{not-true}
use Rattle.rules.specs.Facts.{
  by_test,
  cond-true,
  cond-suc,
  same_test,
  either,
  more_first,
  more_second,
  either_test,
  Earlier,
  earlier_trans,
  earlier_irrefl,
  earlier_at,
}
use Rattle.rules.proofs.WalkLaws.{kept_length, kept_own, kept_above, kept_down, Stepwise}
use Rattle.rules.specs.Tries.{
  Row,
  ids,
  is_entry,
  is_step,
  is_root,
  is_row,
  at,
  follows,
  Has,
  Marked,
  ordered,
  count,
  entries_in,
  nodes_in,
  Next,
  first,
  second,
  same,
  next,
  joined,
  union_onto,
  union,
}
pub use Rattle.rules.specs.TrieLaws.{Follows, Before, deeper, smaller, SamePlace, Says, Turns, no_left, no_right, left, right, both, always, Alike, seen, bare, spot, Local, Bounds, is_node}
unfoldable pub use Rattle.rules.specs.TrieLaws.{Ordered, Stands}

-- The tests as statements.

-- the test `follows` is true exactly where a row may come
pub follows_true : (s : List ℕ) (row : Row) → follows s row ≡ true → Follows s row
follows_true s row h =
    by_test (ltb row.depth (length s))
    (λ e. record { near = omega (arith, ltb-true); past = λ _. ltb-true _ _ (rw e at h) })
    (λ e. let level : row.depth ≡ length s = eqb-true _ _ (rw e at h) in omega arith)

pub true_follows : (s : List ℕ) (row : Row) → Follows s row → follows s row ≡ true
true_follows s row h =
    by_test (ltb row.depth (length s))
    (λ e. rw e (lt-ltb _ _ (h.past (ltb-true _ _ e))))
    (λ e. rw e (eq-eqb row.depth (length s) (omega (arith, ltb-false))))

-- the test `ordered` is true exactly where rows are in order
pub ordered_true : (s : List ℕ) (rows : List Row) → ordered s rows ≡ true → Ordered s rows
unfolding ordered Ordered
ordered_true s [] h = tt
ordered_true s (row ∷ rows) h =
    let (tests, rest) = (cond-true _ _).0 h in
    let (whole, place) = (and-eq-true_iff (is_row row) _).0 tests in
    let (after, shallow) = (and-eq-true_iff (follows s row) _).0 place in
    (whole, follows_true s row after, leb-true _ _ shallow, ordered_true (at s row) rows rest)

pub true_ordered : (s : List ℕ) (rows : List Row) → Ordered s rows → ordered s rows ≡ true
unfolding ordered Ordered
true_ordered s [] h = refl
true_ordered s (row ∷ rows) h =
    simp (h.0, true_follows s row h.1, le-leb _ _ h.2) (true_ordered (at s row) rows h.3)

-- Places.

-- a row's place is one longer than the row is deep
pub length_at : (s : List ℕ) (row : Row) → row.depth ≤ length s → length (at s row) ≡ row.depth + 1
length_at s row near = kept_length s row row.step near

-- a row's place has the row's step at the row's depth, and above it what the place before has
pub step_at : (s : List ℕ) (row : Row) → row.depth ≤ length s → get_or (at s row) row.depth 0 ≡ row.step
step_at s row near = kept_own s row row.step near 0

pub above_at : (s : List ℕ) (row : Row) (d : ℕ) → row.depth ≤ length s → d < row.depth → get_or (at s row) d 0 ≡ get_or s d 0
above_at s row d near less = kept_above s row row.step near 0 d less

pub take_above :
    (s : List ℕ) (row : Row) (d : ℕ) → row.depth ≤ length s → d ≤ row.depth → take d (at s row) ≡ take d s
take_above s row d near no_deeper = kept_down s row row.step d (omega arith) no_deeper

-- rows in listing order are each at most one deeper than the one before
pub ordered_stepwise : (s : List ℕ) (rows : List Row) → Ordered s rows → Stepwise (length s) rows
unfolding Ordered Stepwise
ordered_stepwise s [] o = tt
ordered_stepwise s (row ∷ rows) (whole, after, shallow, rest) =
    (after.near, rw (length_at s row after.near) at (ordered_stepwise (at s row) rows rest))

-- after x, a row that is no deeper than x has the place that it has before x
pub place_past : (s : List ℕ) (x y : Row) → x.depth ≤ length s → y.depth ≤ x.depth → at (at s x) y ≡ at s y
place_past s x y near no_deeper = rw (take_above s x y.depth near no_deeper)

-- Which of two rows comes first.

-- it says so exactly where it is so
pub next_says : (x y : Row) → Says x y (next x y)
unfolding next
next_says x y =
    go (ltb y.depth x.depth) (ltb x.depth y.depth) (ltb x.step y.step) (ltb y.step x.step)
    refl refl refl refl
  where
    go :
        (p q r t : Bool)
        → ltb y.depth x.depth ≡ p
        → ltb x.depth y.depth ≡ q
        → ltb x.step y.step ≡ r
        → ltb y.step x.step ≡ t
        → Says x y (cond p first (cond q second (cond r first (cond t second same))))
    go true q r t e f g h = deeper (ltb-true _ _ e)
    go false true r t e f g h = deeper (ltb-true _ _ f)
    go false false true t e f g h = smaller (omega (arith, ltb-false)) (ltb-true _ _ g)
    go false false false true e f g h = smaller (omega (arith, ltb-false)) (ltb-true _ _ h)
    go false false false false e f g h = omega (arith, ltb-false)

pub says_next : (x y : Row) (n : Next) → Says x y n → next x y ≡ n
unfolding next
says_next x y first (deeper h) = simp lt-ltb
says_next x y first (smaller e h) = simp (e, lt-ltb, le-ltb, le_refl)
says_next x y second (deeper h) = simp (lt-ltb, le-ltb, le_of_lt h)
says_next x y second (smaller e h) = simp (e, lt-ltb, le-ltb, le_refl, le_of_lt h)
says_next x y same h = simp (h.depths, h.steps, le-ltb, le_refl)

-- Union, turn by turn.

-- nothing is added to what stands alone
pub union_nil_left : (b : List Row) → union [] b ≡ b
unfolding union
union_nil_left b = refl

pub union_nil_right : (a : List Row) → union a [] ≡ a
unfolding union union_onto
union_nil_right [] = refl
union_nil_right (x ∷ a) = refl

-- the turn that takes the first of the two next rows, the second, or both in one
pub union_first : (x y : Row) (a b : List Row) → next x y ≡ first → union (x ∷ a) (y ∷ b) ≡ x ∷ union a (y ∷ b)
unfolding union union_onto
union_first x y a b e = rw (e, union, union_onto)

pub union_second : (x y : Row) (a b : List Row) → next x y ≡ second → union (x ∷ a) (y ∷ b) ≡ y ∷ union (x ∷ a) b
unfolding union union_onto
union_second x y a b e = rw (e, union, union_onto)

pub union_same : (x y : Row) (a b : List Row) → next x y ≡ same → union (x ∷ a) (y ∷ b) ≡ joined x y ∷ union a b
unfolding union union_onto
union_same x y a b e = rw (e, union, union_onto)

-- a union comes by turns
pub union_turns : (a b : List Row) → Turns a b (union a b)
union_turns [] b = rw union_nil_left no_left
union_turns (x ∷ a) b = onto (union_turns a) b
  where
    onto : ((b : List Row) → Turns a b (union a b)) → (b : List Row) → Turns (x ∷ a) b (union (x ∷ a) b)
    onto rest [] = rw union_nil_right no_right
    onto rest (y ∷ b) = go (next x y) refl (next_says x y) (onto rest b)
      where
        go :
            (n : Next)
            → next x y ≡ n
            → Says x y n
            → Turns (x ∷ a) b (union (x ∷ a) b)
            → Turns (x ∷ a) (y ∷ b) (union (x ∷ a) (y ∷ b))
        go first e h more = rw union_first (left h (rest (y ∷ b)))
        go second e h more = rw union_second (right h more)
        go same e h more = rw union_same (both h (rest b))

-- Union keeps the listing's order.

pub no_deeper : {x y : Row} → Before x y → y.depth ≤ x.depth
no_deeper (deeper h) = omega arith
no_deeper (smaller e h) = omega arith

-- a row that comes after x, and may come after the place s, may come after the place of x
follows_past : (s : List ℕ) {x y : Row} → Follows s x → Before x y → Follows s y → Follows (at s x) y
follows_past s {x} {y} fx before fy =
    record {
      near = rw (length_at s x fx.near) (omega (arith, no_deeper before));
      past = λ _. go before;
    }
  where
    go : Before x y → get_or (at s x) y.depth 0 < y.step
    go (deeper h) = rw (above_at s x y.depth fx.near h) (fy.past (omega arith))
    go (smaller e h) = rw (← e, step_at s x fx.near) h

-- rows that come after x, and may come after the place s, may come after the place of x
pub ordered_past :
    (s : List ℕ) (x y : Row) (rows : List Row) → Follows s x → Before x y → Ordered s (y ∷ rows) → Ordered (at s x) (y ∷ rows)
unfolding Ordered
ordered_past s x y rows fx before o =
    (o.0, follows_past s fx before o.1, o.2, rw (place_past s x y fx.near (no_deeper before)) o.3)

-- an entry has no mark
pub entry_unmarked : (row : Row) → is_row row ≡ true → is_entry row ≡ true → row.mark ≡ false
entry_unmarked row h e =
    let (_, plain) = (and-eq-true_iff (ltb row.step (ids ^ 3)) _).0 (rw e at h) in
    let (unmarked, _) = (and-eq-true_iff (not row.mark) _).0 plain in
    not-true row.mark unmarked

-- a node's step is a step
pub node_step : (row : Row) → is_row row ≡ true → is_entry row ≡ false → is_step row.step ≡ true
node_step row h e =
    let (of-step, _) = (and-eq-true_iff (cond (eqb row.depth 1) (is_root row.step) (is_step row.step)) _).0 (rw e at h) in
    by_test (eqb row.depth 1)
    (λ o. ((and-eq-true_iff (is_step row.step) _).0 (rw o at of-step)).0)
    (λ o. rw o at of-step)

-- rows that have one place make one row there
pub is_row_joined : (x y : Row) → SamePlace x y → is_row x ≡ true → is_row y ≡ true → is_row (joined x y) ≡ true
is_row_joined x y h ix iy =
    by_test (is_entry x)
    (λ e. rw (entry_unmarked y iy (rw h.depths at e), or-false) ix)
    (λ e. rw e (rw e at ix))

-- rows that have one place after one place
pub at_same : (s : List ℕ) (x y : Row) → SamePlace x y → at s y ≡ at s x
at_same s x y h = rw (h.depths, h.steps)

-- turn by turn, rows in listing order give rows in listing order
turns_ordered : {a b c : List Row} → Turns a b c → (s : List ℕ) → Ordered s a → Ordered s b → Ordered s c
unfolding Ordered
turns_ordered no_left s oa ob = ob
turns_ordered no_right s oa ob = oa
turns_ordered (left {x = x} {y = y} {b = b} h more) s oa ob =
    (oa.0, oa.1, oa.2, turns_ordered more (at s x) oa.3 (ordered_past s x y b oa.1 h ob))
turns_ordered (right {x = x} {y = y} {a = a} h more) s oa ob =
    (ob.0, ob.1, ob.2, turns_ordered more (at s y) (ordered_past s y x a ob.1 h oa) ob.3)
turns_ordered (both {x = x} {y = y} h more) s oa ob = (
  is_row_joined x y h oa.0 ob.0,
  record { near = oa.1.near; past = oa.1.past },
  oa.2,
  turns_ordered more (at s x) oa.3 (rw (at_same s x y h) at ob.3),
)

-- The places of a union.

-- to have a place is that any row stands there, and to mark it that a marked row does
pub has_stands : (s : List ℕ) (rows : List Row) (place : List ℕ) → Has s rows place ↔ Stands always s rows place
unfolding Has Stands
has_stands s [] place = Iff.rfl
has_stands s (row ∷ rows) place = either (λ e. (e, refl), λ h. h.0) (has_stands (at s row) rows place)

pub marked_stands : (s : List ℕ) (rows : List Row) (place : List ℕ) → Marked s rows place ↔ Stands (λ row. row.mark) s rows place
unfolding Marked Stands
marked_stands s [] place = Iff.rfl
marked_stands s (row ∷ rows) place = either Iff.rfl (marked_stands (at s row) rows place)

-- after x, rows that come after x have the places that they have before x
stands_past :
    (test : Row → Bool) (s : List ℕ) (x y : Row) (rows : List Row) (place : List ℕ)
    → Follows s x
    → Before x y
    → Stands test (at s x) (y ∷ rows) place ≡ Stands test s (y ∷ rows) place
unfolding Stands
stands_past test s x y rows place fx before = rw (place_past s x y fx.near (no_deeper before))

-- turn by turn, a row stands at a place if one of the two runs has one there
turns_stand :
    (test : Row → Bool)
    → ((x y : Row) → test (joined x y) ≡ (test x || test y))
    → {a b c : List Row}
    → Turns a b c
    → (s place : List ℕ)
    → Ordered s a
    → Ordered s b
    → Stands test s c place ↔ (Stands test s a place ⊎ Stands test s b place)
unfolding Ordered Stands
turns_stand test joins no_left s place oa ob = (inr, elim [ inl h ↦ absurd h | inr h ↦ h ])
turns_stand test joins no_right s place oa ob = (inl, elim [ inl h ↦ h | inr h ↦ absurd h ])
turns_stand test joins (left {x = x} {y = y} {b = b} h more) s place oa ob =
    more_first
    (rw (← stands_past test s x y b place oa.1 h)
    (turns_stand test joins more (at s x) place oa.3 (ordered_past s x y b oa.1 h ob)))
turns_stand test joins (right {x = x} {y = y} {a = a} h more) s place oa ob =
    more_second
    (rw (← stands_past test s y x a place ob.1 h)
    (turns_stand test joins more (at s y) place (ordered_past s y x a ob.1 h oa) ob.3))
turns_stand test joins (both {x = x} {y = y} h more) s place oa ob =
    rw (at_same s x y h, joins x y)
    (Iff.trans (either_test (test x) (test y))
    (more_first (more_second (turns_stand test joins more (at s x) place oa.3 (rw (at_same s x y h) at ob.3)))))

-- Rows are known by their places.

-- rows in listing order after s have places that are later than s
stands_later :
    (test : Row → Bool) (s : List ℕ) (rows : List Row) (place : List ℕ)
    → Ordered s rows
    → Stands test s rows place
    → Earlier s place
unfolding Ordered Stands
stands_later test s [] place o h = absurd h
stands_later test s (row ∷ rows) place o (inl h) = rw h.0 (earlier_at s row.depth row.step o.1.near o.1.past)
stands_later test s (row ∷ rows) place o (inr h) =
    earlier_trans s (at s row) place
    (earlier_at s row.depth row.step o.1.near o.1.past)
    (stands_later test (at s row) rows place o.3 h)

-- so a first row that stands at its place passes the test, and at a later place it is one of the others that stands
pub first_stands :
    (test : Row → Bool) (s : List ℕ) (row : Row) (rows : List Row)
    → Ordered (at s row) rows
    → Stands test s (row ∷ rows) (at s row)
    → test row ≡ true
unfolding Stands
first_stands test s row rows o (inl h) = h.1
first_stands test s row rows o (inr h) = absurd (earlier_irrefl (at s row) (stands_later test (at s row) rows (at s row) o h))

rest_stands :
    (test : Row → Bool) (s : List ℕ) (row : Row) (rows : List Row) (place : List ℕ)
    → Earlier (at s row) place
    → Stands test s (row ∷ rows) place
    → Stands test (at s row) rows place
unfolding Stands
rest_stands test s row rows place later (inl h) = absurd (earlier_irrefl place (rw (← h.0) at later))
rest_stands test s row rows place later (inr h) = h

-- rows that are at one place have one depth and one step
place_same : (s t : List ℕ) (x y : Row) → Follows s x → Follows t y → at s x ≡ at t y → SamePlace x y
place_same s t x y fx fy e = record { depths = depths; steps = steps }
  where
    depths : x.depth ≡ y.depth
    depths = omega (arith, length_at s x fx.near, length_at t y fy.near, ap length e)

    steps : x.step ≡ y.step
    steps = cc (step_at s x fx.near, step_at t y fy.near, e, depths)

module _
    (s t : List ℕ)
    (x y : Row)
    (a b : List Row)
    (oa : Ordered (at s x) a)
    (ob : Ordered (at t y) b)
  where
    -- runs with the same places have the same first place
    alike_place : Alike always s (x ∷ a) t (y ∷ b) → at s x ≡ at t y
    unfolding Stands
    alike_place alike = go ((alike (at s x)).0 (inl (refl, refl))) ((alike (at t y)).1 (inl (refl, refl)))
      where
        go : Stands always t (y ∷ b) (at s x) → Stands always s (x ∷ a) (at t y) → at s x ≡ at t y
        go (inl h) k = h.0
        go (inr h) (inl k) = sym k.0
        go (inr h) (inr k) =
            absurd
            (earlier_irrefl (at s x)
            (earlier_trans (at s x) (at t y) (at s x)
            (stands_later always (at s x) a (at t y) oa k)
            (stands_later always (at t y) b (at s x) ob h)))

    -- runs that are alike and have the same first place are alike in their first row, and after it
    alike_first : (test : Row → Bool) → at s x ≡ at t y → Alike test s (x ∷ a) t (y ∷ b) → test x ≡ test y
    unfolding Stands
    alike_first test e alike =
        same_test (test x) (test y) (
          λ h. first_stands test t y b ob (rw e at ((alike (at s x)).0 (inl (refl, h)))),
          λ h. first_stands test s x a oa (rw (← e) at ((alike (at t y)).1 (inl (refl, h)))),
        )

    alike_rest :
        (test : Row → Bool) → at s x ≡ at t y → Alike test s (x ∷ a) t (y ∷ b) → Alike test (at s x) a (at t y) b
    unfolding Stands
    alike_rest test e alike place = (
      λ h. rest_stands test t y b place (rw e at (stands_later test (at s x) a place oa h)) ((alike place).0 (inr h)),
      λ h. rest_stands test s x a place (rw (← e) at (stands_later test (at t y) b place ob h)) ((alike place).1 (inr h)),
    )

-- runs that are alike are seen alike
same_seen :
    (test : Row → Bool) (a b : List Row) (s t : List ℕ)
    → Ordered s a
    → Ordered t b
    → Alike always s a t b
    → Alike test s a t b
    → map (seen test) a ≡ map (seen test) b
unfolding Ordered Stands
same_seen test [] [] s t oa ob places tests = refl
same_seen test [] (y ∷ b) s t oa ob places tests = absurd ((places (at t y)).1 (inl (refl, refl)))
same_seen test (x ∷ a) [] s t oa ob places tests = absurd ((places (at s x)).0 (inl (refl, refl)))
same_seen test (x ∷ a) (y ∷ b) s t oa ob places tests =
    let e : at s x ≡ at t y = alike_place s t x y a b oa.3 ob.3 places in
    let here : SamePlace x y = place_same s t x y oa.1 ob.1 e in
    let tested : test x ≡ test y = alike_first s t x y a b oa.3 ob.3 test e tests in
    let later-places = alike_rest s t x y a b oa.3 ob.3 always e places in
    let later-tests = alike_rest s t x y a b oa.3 ob.3 test e tests in
    let rest = same_seen test a b (at s x) (at t y) oa.3 ob.3 later-places later-tests in
    λ i. record { depth = here.depths i; step = here.steps i; mark = tested i; type = none } ∷ rest i

-- The laws of union.

module _ (a : List Row) (s : List ℕ) (b : List Row) (oa : ordered s a ≡ true) (ob : ordered s b ≡ true) where
  -- a union of rows in listing order is in listing order
  pub union_ordered : ordered s (union a b) ≡ true
  union_ordered = true_ordered s (union a b) (turns_ordered (union_turns a b) s (ordered_true s a oa) (ordered_true s b ob))

  -- a union has a place, or marks it, if one of the two has it, or marks it
  pub union_has : (place : List ℕ) → Has s (union a b) place ↔ (Has s a place ⊎ Has s b place)
  union_has place =
      simp (has_stands, either)
      (turns_stand always (λ x y. refl) (union_turns a b) s place (ordered_true s a oa) (ordered_true s b ob))

  pub union_marked : (place : List ℕ) → Marked s (union a b) place ↔ (Marked s a place ⊎ Marked s b place)
  union_marked place =
      simp (marked_stands, either)
      (turns_stand (λ row. row.mark) (λ x y. refl) (union_turns a b) s place (ordered_true s a oa) (ordered_true s b ob))

  -- rows in listing order that have the same places are the same but for marks and types
  pub same_places : ((place : List ℕ) → Has s a place ↔ Has s b place) → map spot a ≡ map spot b
  same_places places =
      let alike : Alike always s a s b = λ place. simp has_stands at (places place) in
      same_seen always a b s s (ordered_true s a oa) (ordered_true s b ob) alike alike

  -- those that have the same marks too are the same but for types
  pub same_rows :
      ((place : List ℕ) → Has s a place ↔ Has s b place)
      → ((place : List ℕ) → Marked s a place ↔ Marked s b place)
      → map bare a ≡ map bare b
  same_rows places marks =
      same_seen (λ row. row.mark) a b s s (ordered_true s a oa) (ordered_true s b ob)
      (λ place. simp has_stands at (places place))
      (λ place. simp marked_stands at (marks place))

-- union with itself adds nothing
pub union_idempotent : (a : List Row) → union a a ≡ a
union_idempotent [] = union_nil_left []
union_idempotent (x ∷ a) =
    rw (union_same x x a a (says_next x x same (record { depths = refl; steps = refl })), or_self, union_idempotent a)

-- which of two is the left one makes no difference but for types
pub union_commutative : (a b : List Row) → map bare (union a b) ≡ map bare (union b a)
union_commutative a b = go (union_turns a b)
  where
    go : {a b c : List Row} → Turns a b c → map bare c ≡ map bare (union b a)
    go no_left = rw union_nil_right
    go no_right = rw union_nil_left
    go (left {x = x} {y = y} {a = a} {b = b} h more) =
        rw (union_second y x b a (says_next y x second h)) (ap (λ c. bare x ∷ c) (go more))
    go (right {x = x} {y = y} {a = a} {b = b} h more) =
        rw (union_first y x b a (says_next y x first h)) (ap (λ c. bare y ∷ c) (go more))
    go (both {x = x} {y = y} {a = a} {b = b} h more) =
        rw (union_same y x b a (says_next y x same (omega arith)), or_comm y.mark x.mark, ← h.depths, ← h.steps)
        (ap (λ c. bare (joined x y) ∷ c) (go more))

-- which two of three are united first makes no difference
module _
    (a : List Row)
    (s : List ℕ)
    (b c : List Row)
    (oa : ordered s a ≡ true)
    (ob : ordered s b ≡ true)
    (oc : ordered s c ≡ true)
  where
    pub union_associative : map bare (union (union a b) c) ≡ map bare (union a (union b c))
    union_associative =
        let oab = union_ordered a s b oa ob in
        let obc = union_ordered b s c ob oc in
        same_rows (union (union a b) c) s (union a (union b c))
        (union_ordered (union a b) s c oab oc)
        (union_ordered a s (union b c) oa obc)
        (λ place. simp (union_has, either) (Iff.symm (more_first Iff.rfl)))
        (λ place. simp (union_marked, either) (Iff.symm (more_first Iff.rfl)))

-- How many rows there are in a union.

module _ (test : Row → Bool) (local : Local test) where
  -- turn by turn, the counts keep their bounds
  turns_count : {a b c : List Row} → Turns a b c → Bounds (count test a) (count test b) (count test c)
  unfolding count
  turns_count no_left = omega arith
  turns_count no_right = omega arith
  turns_count (left {x = x} {a = a} {c = c} h more) =
      omega (arith, turns_count more, cond-suc (test x) (count test a), cond-suc (test x) (count test c))
  turns_count (right {y = y} {b = b} {c = c} h more) =
      omega (arith, turns_count more, cond-suc (test y) (count test b), cond-suc (test y) (count test c))
  turns_count (both {x = x} {y = y} {a = a} {b = b} {c = c} h more) =
      rw (local (joined x y) x refl refl, ← local x y h.depths h.steps)
      (omega (
        arith,
        turns_count more,
        cond-suc (test x) (count test a),
        cond-suc (test x) (count test b),
        cond-suc (test x) (count test c),
      ))

  -- a union's count is at least that of each of the two, and at most their sum
  pub union_count : (a b : List Row) → Bounds (count test a) (count test b) (count test (union a b))
  union_count a b = turns_count (union_turns a b)

  -- such a test counts rows without their marks and types alike
  count_spot : (rows : List Row) → count test (map spot rows) ≡ count test rows
  unfolding count
  count_spot [] = refl
  count_spot (row ∷ rows) = rw (local (spot row) row refl refl, count_spot rows)

  -- rows whose places others have too are no more than those
  pub subset_count :
      (a : List Row) (s : List ℕ) (b : List Row)
      → ordered s a ≡ true
      → ordered s b ≡ true
      → ((place : List ℕ) → Has s a place → Has s b place)
      → count test a ≤ count test b
  subset_count a s b oa ob subset =
      let spots = same_places (union a b) s b (union_ordered a s b oa ob) ob places in
      let counts : count test (union a b) ≡ count test b = simp count_spot at (ap (count test) spots) in
      omega (arith, union_count a b)
    where
      places : (place : List ℕ) → Has s (union a b) place ↔ Has s b place
      places place = simp union_has (⊎_elim (subset place) (λ h. h), inr)

-- all rows, the entries and the nodes are counted by such tests
count_all : (rows : List Row) → count always rows ≡ length rows
unfolding count
count_all [] = refl
count_all (row ∷ rows) = ap suc (count_all rows)

local_always : Local always
local_always x y d e = refl

local_entry : Local is_entry
local_entry x y d e = rw d

local_node : Local is_node
local_node x y d e = rw d

-- A union has at least the rows of each of the two, and at most the rows, the entries and the nodes of both together.
module _ (a b : List Row) where
  lengths : Bounds (length a) (length b) (length (union a b))
  lengths = simp count_all at (union_count always local_always a b)

  pub union_left_length : length a ≤ length (union a b)
  union_left_length = lengths.left_bound

  pub union_right_length : length b ≤ length (union a b)
  union_right_length = lengths.right_bound

  pub union_sum-length : length (union a b) ≤ length a + length b
  union_sum-length = lengths.sum_bound

  pub union_sum_entries : entries_in (union a b) ≤ entries_in a + entries_in b
  union_sum_entries = (union_count is_entry local_entry a b).sum_bound

  pub union_sum_nodes : nodes_in (union a b) ≤ nodes_in a + nodes_in b
  union_sum_nodes = (union_count is_node local_node a b).sum_bound

-- Where others have each place of some rows, the rows, the entries and the nodes are no more than those of the others.
module _
    (a : List Row)
    (s : List ℕ)
    (b : List Row)
    (oa : ordered s a ≡ true)
    (ob : ordered s b ≡ true)
    (subset : (place : List ℕ) → Has s a place → Has s b place)
  where
    pub subset_length : length a ≤ length b
    subset_length = simp count_all at (subset_count always local_always a s b oa ob subset)

    pub subset_entries : entries_in a ≤ entries_in b
    subset_entries = subset_count is_entry local_entry a s b oa ob subset

    pub subset_nodes : nodes_in a ≤ nodes_in b
    subset_nodes = subset_count is_node local_node a s b oa ob subset
