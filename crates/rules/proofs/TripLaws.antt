-- Laws of trips (Trips, Loading), K10: no node yields two rows, rows are at most the primary nodes, batches at most one more than the
-- most field steps. Of this file a contract cites `Waits` alone, of a function that is not public. TripTheorems has what is promised.
use Prim.Native.Nat.{ℕ, zero, suc, ◌+◌, ◌-◌, ◌≤◌, ◌<◌}
use native.Mathlib.Omega.{arith}
use Rattle.std.proofs.Common.{add-zero, sym, subst, ◌∙◌, inr, length-append, length-drop, length-take-le, take_all}
use Rattle.std.proofs.Math.Path.{◌≡◌, refl, ap}
use Rattle.std.specs.Prelude.{◌⊎◌, Bool, not, ◌&&◌, ◌||◌, leb, ltb, take}
use Rattle.std.proofs.Math.Logic.{inl, ⊎_elim, ⊎_map}
use Rattle.std.proofs.Math.Bool.{true, false, cond, and-eq-true_iff, or-true}
use Rattle.std.proofs.lemmas.Bool.{false≢true}
use mathlib.Core.List.{List, [], ◌∷◌, ◌++◌, append_assoc, append-nil, nil≢cons, tail-eq_of_cons-eq}
use Rattle.std.proofs.Math.Option.{Option, none, some, none-ne-some}
use Rattle.std.proofs.Math.Dec.{eqb}
use Rattle.std.proofs.Math.ListN.{length, drop}
use Rattle.std.proofs.lemmas.List.{length-map}
use borrow.Author.Tests.{leb-false, eqb-true, ne_eqb, eq-eqb, lt-leb}
use Rattle.rules.specs.Numbers.{most_steps}
use Rattle.rules.specs.Facts.{by_test}
use Rattle.rules.specs.Tries.{Row, kind_of, id_of, at, is_entry, ordered}
use Rattle.rules.specs.Listing.{◌>>=◌}
use Rattle.rules.proofs.TrieLaws.{Ordered, ordered_true, true_ordered, length_at, take_above}
use Rattle.rules.specs.Trips.{EachOf, none_left, and_each, Pairs, no_pair, with, Distinct, nodes_asked, all_fields, is_primary, field_steps, place_at, primaries, most_fields, Primary, rows_below, past_row, past_subtree, found_in, BoundedTrips, looks, visits, remaining_visits, context_visits, initial_visits, row_visits, row_finds, when_done, batch_visits, ancestors_visits, Under, root_under, WalkedOnce}
use Rattle.rules.specs.Values.{Value, plain, extension, entity_id, set_of, record_of, Elements, no_element, element, Attributes, Entity, attribute_in}
use Rattle.rules.specs.Typing.{is_field}
use Rattle.rules.specs.Loading.{LoadAnswer, done, refused_at, counted, ◌then◌, Request, EntityRequest, Event, yielded, ancestor, bad, has_field_child, has_ancestors_trie, ids_in, Met, comes_to, comes_to_nothing, refused14, or14, value_rule, at_node, kept_at, walk_nodes, remaining_entities, is_context_root, in_context, at_roots, initial_entities, batch_of, Loaded, entered, AnswersTaken, take_answers, size_of_answer, summed, Load, load_begun, trips_for, batch_answered, after_batches, loaded_as, with_id, Wanted, take_id, take_events, is_marked, take_row, take_rows}
use Rattle.rules.specs.LoadCalls.{Entry, nodes_ahead, entry_for}
use Rattle.rules.proofs.SliceLaws.{then_done}
pub use Rattle.rules.specs.TripLaws.{Sub, none_of, keep, skip, Rest, Here, Inner, Off, Any}

-- Each of a list, and each two.

module _ {A : Type 0} where
  each_map : {P Q : A → Type 0} {xs : List A} → ((x : A) → P x → Q x) → EachOf P xs → EachOf Q xs
  each_map f none_left = none_left
  each_map f (and_each p h) = and_each (f _ p) (each_map f h)

  each_both : {P Q : A → Type 0} {xs : List A} → EachOf P xs → EachOf Q xs → EachOf (λ x. P x × Q x) xs
  each_both none_left none_left = none_left
  each_both (and_each p h) (and_each q k) = and_each (p, q) (each_both h k)

  each_append : {P : A → Type 0} {xs ys : List A} → EachOf P xs → EachOf P ys → EachOf P (xs ++ ys)
  each_append none_left k = k
  each_append (and_each p h) k = and_each p (each_append h k)

  pub each_left : {P : A → Type 0} (xs ys : List A) → EachOf P (xs ++ ys) → EachOf P xs
  each_left [] ys h = none_left
  each_left (x ∷ xs) ys (and_each p h) = and_each p (each_left xs ys h)

  each_right : {P : A → Type 0} (xs ys : List A) → EachOf P (xs ++ ys) → EachOf P ys
  each_right [] ys h = h
  each_right (x ∷ xs) ys (and_each p h) = each_right xs ys h

  each_all : {P : A → Type 0} (xs : List A) → ((x : A) → P x) → EachOf P xs
  each_all [] f = none_left
  each_all (x ∷ xs) f = and_each (f x) (each_all xs f)

  -- what holds of each of one list with each of another, the other way round
  each_swap :
      {R S : A → A → Type 0}
      → ((x y : A) → R x y → S y x)
      → (ys : List A)
      → {xs : List A}
      → EachOf (λ x. EachOf (R x) ys) xs
      → EachOf (λ y. EachOf (S y) xs) ys
  each_swap f ys none_left = each_all ys (λ y. none_left)
  each_swap f ys (and_each {x = x} r h) =
      each_map (λ y both. and_each (f x y both.0) both.1) (each_both r (each_swap f ys h))

  pairs_map : {R S : A → A → Type 0} {xs : List A} → ((x y : A) → R x y → S x y) → Pairs R xs → Pairs S xs
  pairs_map f no_pair = no_pair
  pairs_map f (with {x = x} r h) = with (each_map (f x) r) (pairs_map f h)

  pub pairs_left : {R : A → A → Type 0} (xs ys : List A) → Pairs R (xs ++ ys) → Pairs R xs
  pairs_left [] ys h = no_pair
  pairs_left (x ∷ xs) ys (with r h) = with (each_left xs ys r) (pairs_left xs ys h)

  -- two lists one after the other, each by itself and across
  pairs_append :
      {R : A → A → Type 0} {xs ys : List A}
      → Pairs R xs
      → Pairs R ys
      → EachOf (λ x. EachOf (R x) ys) xs
      → Pairs R (xs ++ ys)
  pairs_append no_pair k none_left = k
  pairs_append (with r h) k (and_each c across) = with (each_append r c) (pairs_append h k across)

  pairs_across : {R : A → A → Type 0} (xs ys : List A) → Pairs R (xs ++ ys) → EachOf (λ x. EachOf (R x) ys) xs
  pairs_across [] ys h = none_left
  pairs_across (x ∷ xs) ys (with r h) = and_each (each_right xs ys r) (pairs_across xs ys h)

  -- what holds of each two both ways round, and of each with itself, holds of any two
  pairs_square :
      {R S : A → A → Type 0} {xs : List A}
      → ((x : A) → S x x)
      → ((x y : A) → R x y → S x y)
      → ((x y : A) → R x y → S y x)
      → Pairs R xs
      → EachOf (λ x. EachOf (S x) xs) xs
  pairs_square same there back no_pair = none_left
  pairs_square same there back (with {x = x} r h) =
      and_each
      (and_each (same x) (each_map (there x) r))
      (each_map (λ y both. and_each both.0 both.1) (each_both (each_map (back x) r) (pairs_square same there back h)))

sub_each : {A : Type 0} {P : A → Type 0} {xs ys : List A} → Sub xs ys → EachOf P ys → EachOf P xs
sub_each none_of h = none_left
sub_each (keep s) (and_each p h) = and_each p (sub_each s h)
sub_each (skip s) (and_each p h) = sub_each s h

-- Counting.

-- how many numbers below n pass a test
count_up : (ℕ → Bool) → ℕ → ℕ
count_up test zero = 0
count_up test (suc n) = let rest : ℕ = count_up (λ k. test (suc k)) n in cond (test 0) (suc rest) rest

-- fewer pass a narrower test
count_narrow : (t u : ℕ → Bool) (n : ℕ) → ((k : ℕ) → u k ≡ true → t k ≡ true) → count_up u n ≤ count_up t n
unfolding count_up
count_narrow t u zero h = omega arith
count_narrow t u (suc n) h = go (t 0) (u 0) (h 0) (count_narrow (λ k. t (suc k)) (λ k. u (suc k)) n (λ k. h (suc k)))
  where
    go : (a b : Bool) {x y : ℕ} → (b ≡ true → a ≡ true) → x ≤ y → cond b (suc x) x ≤ cond a (suc y) y
    go true true h k = omega arith
    go true false h k = omega arith
    go false true h k = absurd (false≢true (h refl))
    go false false h k = k

-- at least one fewer where some number passes the wider only
count_less :
    (t u : ℕ → Bool) (n k : ℕ)
    → ((k : ℕ) → u k ≡ true → t k ≡ true)
    → k < n
    → t k ≡ true
    → u k ≡ false
    → count_up u n < count_up t n
unfolding count_up
count_less t u zero k h is-node yes-here no-here = omega arith
count_less t u (suc n) zero h is-node yes-here no-here =
    rw (yes-here, no-here) (omega (arith, count_narrow (λ k. t (suc k)) (λ k. u (suc k)) n (λ k. h (suc k))))
count_less t u (suc n) (suc k) h is-node yes-here no-here =
    go (t 0) (u 0) (h 0) (count_less (λ k. t (suc k)) (λ k. u (suc k)) n k (λ k. h (suc k)) (omega arith) yes-here no-here)
  where
    go : (a b : Bool) {x y : ℕ} → (b ≡ true → a ≡ true) → x < y → cond b (suc x) x < cond a (suc y) y
    go true true h k = omega arith
    go true false h k = omega arith
    go false true h k = absurd (false≢true (h refl))
    go false false h k = k

-- distinct numbers below n that pass a test are at most as many as pass it
count_distinct :
    (t : ℕ → Bool) (n : ℕ) (xs : List ℕ)
    → Distinct xs
    → EachOf (λ x. (x < n) × (t x ≡ true)) xs
    → length xs ≤ count_up t n
count_distinct t n [] d h = omega arith
count_distinct t n (x ∷ xs) (with apart d) (and_each here h) =
    omega (
      arith,
      count_distinct without n xs d
          (each_map
          (λ y both. (both.1.0, (and-eq-true_iff (t y) _).1 (both.1.1, ap not (ne_eqb y x (λ e. both.0 (sym e))))))
          (each_both apart h)),
      count_less t without n x (λ k e. ((and-eq-true_iff (t k) _).0 e).0) here.0 here.1 gone,
    )
  where
    without : ℕ → Bool
    without k = t k && not (eqb k x)

    gone : without x ≡ false
    gone = rw (here.1, eq-eqb x x refl)

-- What a row of a walk comes to.

found_append : (a b : List Event) → found_in (a ++ b) ≡ found_in a ++ found_in b
unfolding found_in
found_append [] b = refl
found_append (yielded row ∷ a) b = ap (λ l. row.node ∷ l) (found_append a b)
found_append (ancestor e ∷ a) b = found_append a b
found_append (bad ∷ a) b = found_append a b

-- ids of a marked set are no rows
ids_found : (elements : Elements) (ids : List Event) → ids_in elements ≡ some ids → found_in ids ≡ []
unfolding ids_in found_in
ids_found no_element ids e = let same : [] ≡ ids = cc in rw (← same)
ids_found (element (plain n) rest) ids e = absurd (none-ne-some ids e)
ids_found (element (extension n) rest) ids e = absurd (none-ne-some ids e)
ids_found (element (set_of n) rest) ids e = absurd (none-ne-some ids e)
ids_found (element (record_of n) rest) ids e = absurd (none-ne-some ids e)
ids_found (element (entity_id n) rest) ids e = go (ids_in rest) (ids_found rest) e
  where
    go :
        (o : Option (List Event))
        → ((more : List Event) → o ≡ some more → found_in more ≡ [])
        → (o >>= (λ more. some (ancestor n ∷ more))) ≡ some ids
        → found_in ids ≡ []
    go none h e = absurd (none-ne-some ids e)
    go (some more) h e = let same : ancestor n ∷ more ≡ ids = cc in rw (← same) (h more refl)

-- a field below something kept
record Through (kept : Option Attributes) (row : Row) : Type 0 where
  members : Attributes
  is_kept : kept ≡ some members
  a_field : is_field row.step ≡ true

through_looks : {kept : Option Attributes} {row : Row} → Through kept row → looks kept row ≡ true
through_looks {kept} {row} w = rw w.is_kept w.a_field

looks_through : (kept : Option Attributes) (row : Row) → looks kept row ≡ true → Through kept row
looks_through none row e = absurd (false≢true e)
looks_through (some members) row e = record { members = members; is_kept = refl; a_field = e }

-- it finds nothing, and what it keeps it has from above; or it finds itself and keeps nothing
data Meets (kept : Option Attributes) (row : Row) (node : ℕ) (m : Met) : Type 0 where
  passes : found_in m.events ≡ [] → ((f : Attributes) → m.kept ≡ some f → Through kept row) → Meets kept row node m
  finds : found_in m.events ≡ node ∷ [] → m.kept ≡ none → Through kept row → Meets kept row node m

module _ {kept : Option Attributes} {row : Row} {node : ℕ} where
  -- what it keeps it has from above
  keeps : {m : Met} → Meets kept row node m → (f : Attributes) → m.kept ≡ some f → Through kept row
  keeps (passes e k) f is = k f is
  keeps (finds e k through) f is = through

  meets_nothing : (events : List Event) → found_in events ≡ [] → Meets kept row node (comes_to events none)
  meets_nothing events e = passes e (λ f h. absurd (none-ne-some f h))

  meets_refused : Meets kept row node refused14
  unfolding found_in
  meets_refused = meets_nothing (bad ∷ []) refl

  meets_empty : Meets kept row node comes_to_nothing
  unfolding found_in
  meets_empty = meets_nothing [] refl

  meets_unless : (t : Bool) {m : Met} → Meets kept row node m → Meets kept row node (or14 t m)
  meets_unless true h = meets_refused
  meets_unless false h = h

  meets_value : (rows : List Row) (value : Value) → Through kept row → Meets kept row node (value_rule row rows node value)
  unfolding found_in
  meets_value rows (plain n) h = meets_unless (has_ancestors_trie row rows || (row.mark || has_field_child row rows)) meets_empty
  meets_value rows (extension n) h = meets_unless (has_ancestors_trie row rows || (row.mark || has_field_child row rows)) meets_empty
  meets_value rows (entity_id n) h = finds refl refl h
  meets_value rows (set_of elements) h = meets_unless (has_ancestors_trie row rows || has_field_child row rows) (go row.mark (ids_in elements) refl)
    where
      go :
          (t : Bool) (o : Option (List Event))
          → ids_in elements ≡ o
          → Meets kept row node (cond t (elim o [ none ↦ refused14 | some ids ↦ comes_to ids none ]) comes_to_nothing)
      go true none e = meets_refused
      go true (some ids) e = meets_nothing ids (ids_found elements ids e)
      go false o e = meets_empty
  meets_value rows (record_of members) h = meets_unless (has_ancestors_trie row rows || row.mark) (passes refl (λ f e. h))

at-node : (kept : Option Attributes) (row : Row) (rows : List Row) (node : ℕ) → Meets kept row node (at_node kept row rows node)
at-node none row rows node = meets_empty
at-node (some members) row rows node =
    by_test (is_field row.step)
    (λ e. rw e (go e (attribute_in (id_of row.step) members)))
    (λ e. rw e meets_empty)
  where
    go :
        is_field row.step ≡ true
        → (o : Option Value)
        → Meets (some members) row node (elim o [ none ↦ comes_to_nothing | some value ↦ value_rule row rows node value ])
    go e none = meets_empty
    go e (some value) = meets_value rows value (record { members = members; is_kept = refl; a_field = e })

-- what is kept after a row: as before above it, and then what the row keeps
kept_cases :
    (kept : List (Option Attributes)) (m : ℕ) (k : Option Attributes) (i : ℕ) (f : Attributes)
    → kept_at (take m kept ++ (k ∷ [])) i ≡ some f
    → ((i < m) × (kept_at kept i ≡ some f)) ⊎ ((k ≡ some f) × (m ≤ length kept → i ≡ m))
unfolding kept_at
kept_cases [] zero k zero f e = inr (e, λ h. refl)
kept_cases [] zero k (suc i) f e = absurd (none-ne-some f e)
kept_cases [] (suc m) k zero f e = inr (e, λ h. omega arith)
kept_cases [] (suc m) k (suc i) f e = absurd (none-ne-some f e)
kept_cases (x ∷ kept) zero k zero f e = inr (e, λ h. refl)
kept_cases (x ∷ kept) zero k (suc i) f e = absurd (none-ne-some f e)
kept_cases (x ∷ kept) (suc m) k zero f e = inl (omega arith, e)
kept_cases (x ∷ kept) (suc m) k (suc i) f e =
    ⊎_map (λ h. (omega arith, h.1)) (λ h. (h.0, λ le. ap suc (h.1 (omega arith)))) (kept_cases kept m k i f e)

-- Subtrees.

drop_next : (nodes : List Row) (n : ℕ) {row : Row} {rows : List Row} → drop n nodes ≡ row ∷ rows → drop (suc n) nodes ≡ rows
drop_next [] zero e = absurd (nil≢cons e)
drop_next [] (suc n) e = absurd (nil≢cons e)
drop_next (x ∷ nodes) zero e = tail-eq_of_cons-eq e
drop_next (x ∷ nodes) (suc n) e = drop_next nodes n e

drop_inside : (nodes : List Row) (n : ℕ) {row : Row} {rows : List Row} → drop n nodes ≡ row ∷ rows → n < length nodes
drop_inside [] zero e = absurd (nil≢cons e)
drop_inside [] (suc n) e = absurd (nil≢cons e)
drop_inside (x ∷ nodes) zero e = omega arith
drop_inside (x ∷ nodes) (suc n) e = omega (arith, drop_inside nodes n e)

-- fewer rows lie below a greater depth
below_deeper : (d e : ℕ) (rows : List Row) → d ≤ e → rows_below e rows ≤ rows_below d rows
unfolding rows_below
below_deeper d e [] le = omega arith
below_deeper d e (row ∷ rows) le =
    by_test (leb row.depth e)
    (λ t. rw t (omega arith))
    (λ t. rw (t, lt-leb row.depth d (omega (arith, leb-false row.depth e t))) (omega (arith, below_deeper d e rows le)))

-- A walk, over any rows.

module _ (nodes : List Row) where
  past_here : (n : ℕ) (row : Row) (rows : List Row) → drop n nodes ≡ row ∷ rows → past_subtree nodes n ≡ suc n + rows_below row.depth rows
  past_here n row rows e = ap (past_row n) e

  -- from a number on, with its subtree before another
  record Within (from to n : ℕ) : Type 0 where
    low : from ≤ n
    high : past_subtree nodes n ≤ to

  -- what it finds is among what it looks at
  walk_sub :
      (depth : ℕ) (kept : List (Option Attributes)) (node : ℕ) (rows : List Row)
      → Sub (found_in (walk_nodes depth kept node rows)) (visits depth kept node rows)
  unfolding walk_nodes visits found_in
  walk_sub depth kept node [] = none_of
  walk_sub depth kept node (row ∷ rows) =
      by_test (leb row.depth depth)
      (λ t. rw t none_of)
      (λ t.
      rw (t, found_append here.events (walk_nodes depth more (suc node) rows))
      (at_here (at-node above row rows node) (walk_sub depth more (suc node) rows)))
    where
      above : Option Attributes
      above = kept_at kept (row.depth - suc depth)

      here : Met
      here = at_node above row rows node

      more : List (Option Attributes)
      more = take (row.depth - depth) kept ++ (here.kept ∷ [])

      at_here :
          Meets above row node here
          → {xs ys : List ℕ}
          → Sub xs ys
          → Sub (found_in here.events ++ xs) (cond (looks above row) (node ∷ ys) ys)
      at_here (passes f k) s = by_test (looks above row) (λ l. rw (f, l) (skip s)) (λ l. rw (f, l) s)
      at_here (finds f k through) s = rw (f, through_looks through) (keep s)

  -- it looks only at nodes below its depth
  visits_within :
      (depth : ℕ) (kept : List (Option Attributes)) (node : ℕ) (rows : List Row)
      → drop node nodes ≡ rows
      → EachOf (Within node (node + rows_below depth rows)) (visits depth kept node rows)
  unfolding visits rows_below
  visits_within depth kept node [] e = none_left
  visits_within depth kept node (row ∷ rows) e =
      by_test (leb row.depth depth)
      (λ t. rw t none_left)
      (λ t.
      let deeper = below_deeper depth row.depth rows (omega (arith, leb-false row.depth depth t)) in
      let rest : EachOf (Within node (node + suc (rows_below depth rows))) (visits depth more (suc node) rows) =
      each_map
      (λ n h. record { low = omega (arith, h.low); high = omega (arith, h.high) })
      (visits_within depth more (suc node) rows (drop_next nodes node e)) in
      by_test (looks above row)
      (λ l. rw (t, l) (and_each {x = node} (record { low = omega arith; high = omega (arith, past_here node row rows e) }) rest))
      (λ l. rw (t, l) rest))
    where
      above : Option Attributes
      above = kept_at kept (row.depth - suc depth)

      more : List (Option Attributes)
      more = take (row.depth - depth) kept ++ ((at_node above row rows node).kept ∷ [])

  -- where nothing is kept from a depth on, it looks at no node below that depth before the first row that is no deeper
  visits_beyond :
      (depth : ℕ) (kept : List (Option Attributes)) (node : ℕ) (rows : List Row) (e : ℕ)
      → drop node nodes ≡ rows
      → ((i : ℕ) (f : Attributes) → e - depth ≤ i → kept_at kept i ≡ some f → ⊥)
      → EachOf (λ n. node + rows_below e rows ≤ n) (visits depth kept node rows)
  unfolding rows_below visits
  visits_beyond depth kept node [] e q h = none_left
  visits_beyond depth kept node (row ∷ rows) e q h =
      by_test (leb row.depth e)
      (λ t. rw t (each_map (λ n w. omega (arith, w.low)) (visits_within depth kept node (row ∷ rows) q)))
      (λ t. rw t (
      by_test (leb row.depth depth)
      (λ u. rw u none_left)
      (λ u.
      let deep : e < row.depth = leb-false row.depth e t in
      let under : depth < row.depth = leb-false row.depth depth u in
      let no_through : Through above row → ⊥ = λ w. h (row.depth - suc depth) w.members (omega arith) w.is_kept in
      let rest =
      visits_beyond depth more (suc node) rows e (drop_next nodes node q)
      (λ i f le k.
      ⊎_elim
      (λ c. h i f le c.1)
      (λ c. no_through (keeps (at-node above row rows node) f c.0))
      (kept_cases kept (row.depth - depth) (at_node above row rows node).kept i f k)) in
      by_test (looks above row)
      (λ l. absurd (no_through (looks_through above row l)))
      (λ l. rw (u, l) (each_map (λ n w. omega arith) rest)))))
    where
      above : Option Attributes
      above = kept_at kept (row.depth - suc depth)

      more : List (Option Attributes)
      more = take (row.depth - depth) kept ++ ((at_node above row rows node).kept ∷ [])

  walk_within :
      (depth : ℕ) (kept : List (Option Attributes)) (node : ℕ) (rows : List Row)
      → drop node nodes ≡ rows
      → EachOf (Within node (node + rows_below depth rows)) (found_in (walk_nodes depth kept node rows))
  walk_within depth kept node rows e = sub_each (walk_sub depth kept node rows) (visits_within depth kept node rows e)

  -- nothing is kept from a row on that finds its own node
  module _ (depth : ℕ) (kept : List (Option Attributes)) (node : ℕ) (row : Row) (rows : List Row) (m : Met) where
    beyond_found :
        drop node nodes ≡ row ∷ rows
        → m.kept ≡ none
        → EachOf (λ n. past_subtree nodes node ≤ n) (visits depth (take (row.depth - depth) kept ++ (m.kept ∷ [])) (suc node) rows)
    beyond_found e k =
        each_map
        (λ n h. omega (arith, past_here node row rows e))
        (visits_beyond depth (take (row.depth - depth) kept ++ (m.kept ∷ [])) (suc node) rows row.depth (drop_next nodes node e)
        (λ i g le q.
        ⊎_elim
        (λ c. omega (arith, c.0))
        (λ c. none-ne-some g (sym k ∙ c.0))
        (kept_cases kept (row.depth - depth) m.kept i g q)))

  -- of two subtrees the first ends before the second
  abbrev Ahead : ℕ → ℕ → Type 0
  Ahead m n = past_subtree nodes m ≤ n

  -- neither of two subtrees lies in the other
  abbrev Apart : ℕ → ℕ → Type 0
  Apart m n = (past_subtree nodes m ≤ n) ⊎ (past_subtree nodes n ≤ m)

  -- a node does not lie below another
  abbrev NotBelow : ℕ → ℕ → Type 0
  NotBelow u w = (u ≤ w) ⊎ (past_subtree nodes w ≤ u)

  -- the nodes at which it looks ascend
  visits_ascend :
      (depth : ℕ) (kept : List (Option Attributes)) (node : ℕ) (rows : List Row)
      → drop node nodes ≡ rows
      → Pairs (λ m n. m < n) (visits depth kept node rows)
  unfolding visits
  visits_ascend depth kept node [] e = no_pair
  visits_ascend depth kept node (row ∷ rows) e =
      let next : drop (suc node) nodes ≡ rows = drop_next nodes node e in
      by_test (leb row.depth depth)
      (λ t. rw t no_pair)
      (λ t.
      by_test (looks above row)
      (λ l.
      rw (t, l)
      (with {x = node}
      (each_map (λ n h. omega (arith, h.low)) (visits_within depth more (suc node) rows next))
      (visits_ascend depth more (suc node) rows next)))
      (λ l. rw (t, l) (visits_ascend depth more (suc node) rows next)))
    where
      above : Option Attributes
      above = kept_at kept (row.depth - suc depth)

      more : List (Option Attributes)
      more = take (row.depth - depth) kept ++ ((at_node above row rows node).kept ∷ [])

  -- it looks at none below one that it finds
  visits_outside :
      (depth : ℕ) (kept : List (Option Attributes)) (node : ℕ) (rows : List Row)
      → drop node nodes ≡ rows
      → EachOf (λ n. EachOf (NotBelow n) (found_in (walk_nodes depth kept node rows))) (visits depth kept node rows)
  unfolding walk_nodes visits found_in
  visits_outside depth kept node [] e = none_left
  visits_outside depth kept node (row ∷ rows) e =
      by_test (leb row.depth depth)
      (λ t. rw t none_left)
      (λ t.
      rw (t, found_append here.events (walk_nodes depth more (suc node) rows))
      (at_here (at-node above row rows node) (visits_outside depth more (suc node) rows (drop_next nodes node e))))
    where
      above : Option Attributes
      above = kept_at kept (row.depth - suc depth)

      here : Met
      here = at_node above row rows node

      more : List (Option Attributes)
      more = take (row.depth - depth) kept ++ (here.kept ∷ [])

      later : EachOf (NotBelow node) (found_in (walk_nodes depth more (suc node) rows))
      later = each_map (λ v h. inl (omega (arith, h.low))) (walk_within depth more (suc node) rows (drop_next nodes node e))

      at_here :
          Meets above row node here
          → EachOf (λ n. EachOf (NotBelow n) (found_in (walk_nodes depth more (suc node) rows))) (visits depth more (suc node) rows)
          → EachOf (λ n. EachOf (NotBelow n) (found_in here.events ++ found_in (walk_nodes depth more (suc node) rows)))
          (cond (looks above row) (node ∷ visits depth more (suc node) rows) (visits depth more (suc node) rows))
      at_here (passes f k) rest = by_test (looks above row) (λ l. rw (f, l) (and_each {x = node} later rest)) (λ l. rw (f, l) rest)
      at_here (finds f k through) rest =
          rw (f, through_looks through)
          (and_each {x = node}
          (and_each {x = node} (inl (omega arith)) later)
          (each_map (λ n h. and_each {x = node} (inr h.0) h.1) (each_both (beyond_found depth kept node row rows here e k) rest)))

  -- the nodes that it finds ascend, and none lies in another's subtree
  walk_ahead :
      (depth : ℕ) (kept : List (Option Attributes)) (node : ℕ) (rows : List Row)
      → drop node nodes ≡ rows
      → Pairs Ahead (found_in (walk_nodes depth kept node rows))
  unfolding walk_nodes found_in
  walk_ahead depth kept node [] e = no_pair
  walk_ahead depth kept node (row ∷ rows) e =
      by_test (leb row.depth depth)
      (λ t. rw t no_pair)
      (λ t.
      rw (t, found_append here.events (walk_nodes depth more (suc node) rows))
      (at_here (at-node (kept_at kept (row.depth - suc depth)) row rows node) (walk_ahead depth more (suc node) rows (drop_next nodes node e))))
    where
      here : Met
      here = at_node (kept_at kept (row.depth - suc depth)) row rows node

      more : List (Option Attributes)
      more = take (row.depth - depth) kept ++ (here.kept ∷ [])

      at_here :
          Meets (kept_at kept (row.depth - suc depth)) row node here
          → Pairs Ahead (found_in (walk_nodes depth more (suc node) rows))
          → Pairs Ahead (found_in here.events ++ found_in (walk_nodes depth more (suc node) rows))
      at_here (passes f k) rest = rw f rest
      at_here (finds f k through) rest =
          rw f
          (with {x = node}
          (sub_each (walk_sub depth more (suc node) rows) (beyond_found depth kept node row rows here e k))
          rest)

-- Places: the rows from a number on, and the place before them.

module _ {s₀ : List ℕ} {nodes : List Row} where
  rest_next :
      {node : ℕ} {s : List ℕ} {row : Row} {rows : List Row}
      → Rest s₀ nodes node s (row ∷ rows)
      → Rest s₀ nodes (suc node) (at s row) rows
  unfolding Ordered place_at
  rest_next {node} q = record {
    rest = drop_next nodes node q.rest;
    order = q.order.3;
    places = λ k. let same : suc node + k ≡ node + suc k = omega arith in ap (place_at s₀ nodes) same ∙ q.places (suc k);
  }

  -- the row is at most one deeper than the place before it
  rest_near : {node : ℕ} {s : List ℕ} {row : Row} {rows : List Row} → Rest s₀ nodes node s (row ∷ rows) → row.depth ≤ length s
  unfolding Ordered
  rest_near q = q.order.1.near

  rest_place :
      {node : ℕ} {s : List ℕ} {row : Row} {rows : List Row} → Rest s₀ nodes node s (row ∷ rows) → place_at s₀ nodes node ≡ at s row
  unfolding place_at
  rest_place {node} q = let same : node ≡ node + 0 = omega arith in ap (place_at s₀ nodes) same ∙ q.places 0

  -- its place is one longer than it is deep
  rest_length :
      {node : ℕ} {s : List ℕ} {row : Row} {rows : List Row}
      → Rest s₀ nodes node s (row ∷ rows)
      → length (place_at s₀ nodes node) ≡ row.depth + 1
  rest_length {s = s} {row = row} q = ap length (rest_place q) ∙ length_at s row (rest_near q)

  rest_primary :
      {node : ℕ} {s : List ℕ} {row : Row} {rows : List Row}
      → Rest s₀ nodes node s (row ∷ rows)
      → is_primary (at s row) ≡ true
      → Primary s₀ nodes node
  rest_primary {node} q e = record {
    is-node = drop_inside nodes node q.rest;
    of_fields = ap is_primary (rest_place q) ∙ e;
  }

rest_first : (s : List ℕ) (nodes : List Row) → Ordered s nodes → Rest s nodes 0 s nodes
rest_first s nodes o = record {
  rest = refl;
  order = o;
  places = λ k. let same : 0 + k ≡ k = omega arith in ap (place_at s nodes) same;
}

here_at : {s₀ : List ℕ} {nodes : List Row} (n : ℕ) {node : ℕ} {s : List ℕ} {rows : List Row} → Rest s₀ nodes node s rows → n < length rows → Here s₀ nodes (node + n)
here_at n {rows = []} q h = absurd (omega arith)
here_at zero {rows = row ∷ rows} q h = rw add-zero (record { s = _; row = row; rows = rows; stands = q })
here_at (suc n) {node = node} {rows = row ∷ rows} q h =
    let same : suc node + n ≡ node + suc n = omega arith in
    rw same at (here_at n (rest_next q) (omega arith))

-- one more field keeps a place primary
primary_snoc : (place : List ℕ) (step : ℕ) → is_primary place ≡ true → is_field step ≡ true → is_primary (place ++ (step ∷ [])) ≡ true
unfolding all_fields
primary_snoc [] step h f = refl
primary_snoc (a ∷ []) step h f = refl
primary_snoc (a ∷ b ∷ rest) step h f = go rest h
  where
    go : (rest : List ℕ) → all_fields rest ≡ true → all_fields (rest ++ (step ∷ [])) ≡ true
    go [] h = (and-eq-true_iff (is_field step) _).1 (f, refl)
    go (x ∷ rest) h =
        let (first, others) = (and-eq-true_iff (is_field x) _).0 h in
        (and-eq-true_iff (is_field x) _).1 (first, go rest others)

-- A walk, over rows in order.

module _ (s₀ : List ℕ) (nodes : List Row) where
  -- a node of the primary trie, whose place is longer than a depth and one
  record Deep (depth n : ℕ) : Type 0 where
    primary : Primary s₀ nodes n
    deeper : depth + 2 ≤ length (place_at s₀ nodes n)

  -- where something is kept for a depth, the place is primary so far
  record Kept (depth : ℕ) (s : List ℕ) (kept : List (Option Attributes)) : Type 0 where
    level : length kept + depth ≡ length s
    field-steps : (i : ℕ) (f : Attributes) → kept_at kept i ≡ some f → is_primary (take (suc depth + i) s) ≡ true

  module _
      (depth node : ℕ)
      (kept : List (Option Attributes))
      (s : List ℕ)
      (row : Row)
      (rows : List Row)
      (q : Rest s₀ nodes node s (row ∷ rows))
      (k : Kept depth s kept)
      (under : depth < row.depth)
    where
      -- a field below something kept has a primary place
      through_primary : Through (kept_at kept (row.depth - suc depth)) row → is_primary (at s row) ≡ true
      through_primary w =
          let same : suc depth + (row.depth - suc depth) ≡ row.depth = omega arith in
          primary_snoc (take row.depth s) row.step
          (rw same at (k.field-steps (row.depth - suc depth) w.members w.is_kept))
          w.a_field

      kept_next :
          (m : Met)
          → Meets (kept_at kept (row.depth - suc depth)) row node m
          → Kept depth (at s row) (take (row.depth - depth) kept ++ (m.kept ∷ []))
      kept_next m meets =
          let near : row.depth ≤ length s = rest_near q in
          let size : length (at s row) ≡ row.depth + 1 = length_at s row near in
          let enough : row.depth - depth ≤ length kept = omega (arith, k.level) in
          record {
            level =
                omega (
                  arith,
                  length-append (take (row.depth - depth) kept) (m.kept ∷ []),
                  length-take-le (row.depth - depth) kept enough,
                );
            field-steps = λ i f e.
                ⊎_elim
                (λ c.
                let shallow : suc depth + i ≤ row.depth = omega (arith, c.0) in
                rw (take_above s row (suc depth + i) near shallow) (k.field-steps i f c.1))
                (λ c.
                let level : i ≡ row.depth - depth = c.1 enough in
                let all : take (suc depth + i) (at s row) ≡ at s row = take_all (suc depth + i) (at s row) (omega arith) in
                rw all (through_primary (keeps meets f c.0)))
                (kept_cases kept (row.depth - depth) m.kept i f e);
          }

  -- it finds only nodes of the primary trie, deeper than itself
  walk_deep :
      (depth : ℕ) (kept : List (Option Attributes)) (node : ℕ) (s : List ℕ) (rows : List Row)
      → Rest s₀ nodes node s rows
      → Kept depth s kept
      → EachOf (Deep depth) (found_in (walk_nodes depth kept node rows))
  unfolding walk_nodes found_in
  walk_deep depth kept node s [] q k = none_left
  walk_deep depth kept node s (row ∷ rows) q k =
      by_test (leb row.depth depth)
      (λ t. rw t none_left)
      (λ t.
      let under : depth < row.depth = leb-false row.depth depth t in
      rw (t, found_append here.events (walk_nodes depth more (suc node) rows))
      (each_append
      (at_here under (at-node (kept_at kept (row.depth - suc depth)) row rows node))
      (walk_deep depth more (suc node) (at s row) rows (rest_next q)
      (kept_next depth node kept s row rows q k under here (at-node (kept_at kept (row.depth - suc depth)) row rows node)))))
    where
      here : Met
      here = at_node (kept_at kept (row.depth - suc depth)) row rows node

      more : List (Option Attributes)
      more = take (row.depth - depth) kept ++ (here.kept ∷ [])

      at_here :
          depth < row.depth
          → Meets (kept_at kept (row.depth - suc depth)) row node here
          → EachOf (Deep depth) (found_in here.events)
      at_here under (passes f h) = rw f none_left
      at_here under (finds f h through) =
          rw f
          (and_each {x = node}
          (record {
            primary = rest_primary q (through_primary depth node kept s row rows q k under through);
            deeper = omega (arith, rest_length q);
          })
          none_left)

-- The first batch.

or_neither : (t u : Bool) → not (t || u) ≡ true → t ≡ false
or_neither true u e = absurd (false≢true e)
or_neither false u e = refl

module _ (nodes : List Row) (request : Request) (depth : ℕ) where
  is_entity : Row → Bool
  is_entity row = eqb row.depth (suc depth) && not (is_field row.step || is_context_root row.step)

  starts_context : Row → Bool
  starts_context row = eqb row.depth (suc depth) && is_context_root row.step

  -- the context root, if it is one, is no entity's
  not_both : (row : Row) → starts_context row ≡ true → is_entity row ≡ false
  unfolding is_entity starts_context
  not_both row h =
      let (level, context) = (and-eq-true_iff (eqb row.depth (suc depth)) _).0 h in
      rw (level, context, or-true (is_field row.step))

  -- a root of an ancestors trie is in it
  under_root :
      (node : ℕ) (row : Row) (rows : List Row)
      → drop node nodes ≡ row ∷ rows
      → eqb row.depth (suc depth) ≡ true
      → is_field row.step ≡ false
      → leb row.depth depth ≡ false
      → (n : ℕ)
      → node ≤ n
      → past_subtree nodes n ≤ past_subtree nodes node
      → Under nodes depth node (node + suc (rows_below depth rows)) n
  under_root node row rows e level no_field t n first last =
      let deeper = below_deeper depth row.depth rows (omega (arith, leb-false row.depth depth t)) in
      record {
        root = node;
        is-root = ap (root_under depth) e ∙ rw (level, no_field);
        low = omega arith;
        high = omega (arith, past_here nodes node row rows e);
        first = first;
        last = last;
      }

  -- what comes after a row lies among the row and what comes after it
  under_next : (node size n : ℕ) → Under nodes depth (suc node) (suc node + size) n → Under nodes depth node (node + suc size) n
  under_next node size n h = record {
    root = h.root;
    is-root = h.is-root;
    low = omega (arith, h.low);
    high = omega (arith, h.high);
    first = h.first;
    last = h.last;
  }

  -- so it lies where the root does
  under_within : {from to n : ℕ} → Under nodes depth from to n → Within nodes from to n
  under_within h = record { low = omega (arith, h.low, h.first); high = omega (arith, h.last, h.high) }

  roots_under :
      (node : ℕ) (rows : List Row)
      → drop node nodes ≡ rows
      → EachOf (Under nodes depth node (node + rows_below depth rows)) (found_in (at_roots request depth node rows))
  unfolding at_roots rows_below found_in is_entity
  roots_under node [] e = none_left
  roots_under node (row ∷ rows) e =
      by_test (leb row.depth depth)
      (λ t. rw t none_left)
      (λ t.
      let rest : EachOf (Under nodes depth node (node + suc (rows_below depth rows))) (found_in (at_roots request depth (suc node) rows)) =
      each_map (under_next node (rows_below depth rows)) (roots_under (suc node) rows (drop_next nodes node e)) in
      by_test (is_entity row)
      (λ u.
      let (level, other) = (and-eq-true_iff (eqb row.depth (suc depth)) _).0 u in
      let no_field : is_field row.step ≡ false = or_neither (is_field row.step) _ other in
      rw (t, u) (and_each {x = node} (under_root node row rows e level no_field t node (omega arith) (omega arith)) rest))
      (λ u. rw (t, u) rest))

  roots_within :
      (node : ℕ) (rows : List Row)
      → drop node nodes ≡ rows
      → EachOf (Within nodes node (node + rows_below depth rows)) (found_in (at_roots request depth node rows))
  roots_within node rows e = each_map (λ n h. under_within h) (roots_under node rows e)

  -- Rows deeper than a root are passed over: none of them is a root.
  deeper_fails : (row : Row) → suc depth < row.depth → (leb row.depth depth ≡ false) × (eqb row.depth (suc depth) ≡ false)
  deeper_fails row deep = (lt-leb row.depth depth (omega arith), ne_eqb row.depth (suc depth) (λ p. omega arith))

  -- So what a search for roots finds, from the first row below a root on, lies beyond that root's subtree.
  beyond_root :
      (found : ℕ → List Row → List ℕ)
      → ((node : ℕ) (row : Row) (rows : List Row) → suc depth < row.depth → found node (row ∷ rows) ≡ found (suc node) rows)
      → ((node : ℕ) (rows : List Row) → drop node nodes ≡ rows → EachOf (Within nodes node (node + rows_below depth rows)) (found node rows))
      → (node : ℕ) (rows : List Row)
      → drop node nodes ≡ rows
      → EachOf (λ n. node + rows_below (suc depth) rows ≤ n) (found node rows)
  unfolding rows_below
  beyond_root found over within node [] e = each_map (λ n h. omega (arith, h.low)) (within node [] e)
  beyond_root found over within node (row ∷ rows) e =
      by_test (leb row.depth (suc depth))
      (λ t. rw t (each_map (λ n h. omega (arith, h.low)) (within node (row ∷ rows) e)))
      (λ t.
      rw (t, over node row rows (leb-false row.depth (suc depth) t))
      (each_map (λ n h. omega arith) (beyond_root found over within (suc node) rows (drop_next nodes node e))))

  roots_beyond :
      (node : ℕ) (rows : List Row)
      → drop node nodes ≡ rows
      → EachOf (λ n. node + rows_below (suc depth) rows ≤ n) (found_in (at_roots request depth node rows))
  unfolding at_roots is_entity
  roots_beyond =
      beyond_root
      (λ node rows. found_in (at_roots request depth node rows))
      (λ node row rows deep. rw ((deeper_fails row deep).0, (deeper_fails row deep).1))
      roots_within

  roots_ahead :
      (node : ℕ) (rows : List Row)
      → drop node nodes ≡ rows
      → Pairs (Ahead nodes) (found_in (at_roots request depth node rows))
  unfolding at_roots found_in is_entity
  roots_ahead node [] e = no_pair
  roots_ahead node (row ∷ rows) e =
      by_test (leb row.depth depth)
      (λ t. rw t no_pair)
      (λ t.
      by_test (is_entity row)
      (λ u.
      let level : row.depth ≡ suc depth = eqb-true _ _ ((and-eq-true_iff (eqb row.depth (suc depth)) _).0 u).0 in
      let ends : past_subtree nodes node ≡ suc node + rows_below (suc depth) rows =
      past_here nodes node row rows e ∙ ap (λ d. suc node + rows_below d rows) level in
      rw (t, u)
      (with {x = node}
      (each_map (λ n h. omega arith) (roots_beyond (suc node) rows (drop_next nodes node e)))
      (roots_ahead (suc node) rows (drop_next nodes node e))))
      (λ u. rw (t, u) (roots_ahead (suc node) rows (drop_next nodes node e))))

  context_under :
      (node : ℕ) (rows : List Row)
      → drop node nodes ≡ rows
      → EachOf (Under nodes depth node (node + rows_below depth rows)) (context_visits request depth node rows)
  unfolding context_visits rows_below starts_context
  context_under node [] e = none_left
  context_under node (row ∷ rows) e =
      by_test (leb row.depth depth)
      (λ t. rw t none_left)
      (λ t.
      let next : drop (suc node) nodes ≡ rows = drop_next nodes node e in
      by_test (starts_context row)
      (λ u.
      let (level, context) = (and-eq-true_iff (eqb row.depth (suc depth)) _).0 u in
      let no_field : is_field row.step ≡ false =
      ne_eqb (kind_of row.step) 0 (λ z. omega (arith, eqb-true (kind_of row.step) 4 context)) in
      let here = under_root node row rows e level no_field t in
      let ends : past_subtree nodes node ≡ suc node + rows_below (suc depth) rows =
      past_here nodes node row rows e ∙ ap (λ d. suc node + rows_below d rows) (eqb-true row.depth (suc depth) level) in
      rw (t, u)
      (and_each {x = node} (here node (omega arith) (omega arith))
      (each_map
      (λ n h. here n (omega (arith, h.low)) (omega (arith, h.high)))
      (visits_within nodes (suc depth) (some request.context ∷ []) (suc node) rows next))))
      (λ u. rw (t, u) (each_map (under_next node (rows_below depth rows)) (context_under (suc node) rows next))))

  context_sub : (node : ℕ) (rows : List Row) → Sub (found_in (in_context request depth node rows)) (context_visits request depth node rows)
  unfolding in_context context_visits found_in starts_context
  context_sub node [] = none_of
  context_sub node (row ∷ rows) =
      by_test (leb row.depth depth)
      (λ t. rw t none_of)
      (λ t.
      by_test (starts_context row)
      (λ u. rw (t, u) (skip (walk_sub nodes (suc depth) (some request.context ∷ []) (suc node) rows)))
      (λ u. rw (t, u) (context_sub (suc node) rows)))

  context_within :
      (node : ℕ) (rows : List Row)
      → drop node nodes ≡ rows
      → EachOf (Within nodes node (node + rows_below depth rows)) (context_visits request depth node rows)
  context_within node rows e = each_map (λ n h. under_within h) (context_under node rows e)

  context_beyond :
      (node : ℕ) (rows : List Row)
      → drop node nodes ≡ rows
      → EachOf (λ n. node + rows_below (suc depth) rows ≤ n) (context_visits request depth node rows)
  unfolding context_visits starts_context
  context_beyond =
      beyond_root
      (context_visits request depth)
      (λ node row rows deep. rw ((deeper_fails row deep).0, (deeper_fails row deep).1))
      context_within

  context_ahead :
      (node : ℕ) (rows : List Row)
      → drop node nodes ≡ rows
      → Pairs (Ahead nodes) (found_in (in_context request depth node rows))
  unfolding in_context found_in starts_context
  context_ahead node [] e = no_pair
  context_ahead node (row ∷ rows) e =
      by_test (leb row.depth depth)
      (λ t. rw t no_pair)
      (λ t.
      by_test (starts_context row)
      (λ u. rw (t, u) (walk_ahead nodes (suc depth) (some request.context ∷ []) (suc node) rows (drop_next nodes node e)))
      (λ u. rw (t, u) (context_ahead (suc node) rows (drop_next nodes node e))))

  context_ascend :
      (node : ℕ) (rows : List Row) → drop node nodes ≡ rows → Pairs (λ m n. m < n) (context_visits request depth node rows)
  unfolding context_visits starts_context
  context_ascend node [] e = no_pair
  context_ascend node (row ∷ rows) e =
      let next : drop (suc node) nodes ≡ rows = drop_next nodes node e in
      by_test (leb row.depth depth)
      (λ t. rw t no_pair)
      (λ t.
      by_test (starts_context row)
      (λ u.
      rw (t, u)
      (with {x = node}
      (each_map
      (λ n h. omega (arith, h.low))
      (visits_within nodes (suc depth) (some request.context ∷ []) (suc node) rows next))
      (visits_ascend nodes (suc depth) (some request.context ∷ []) (suc node) rows next)))
      (λ u. rw (t, u) (context_ascend (suc node) rows next)))

  context_outside :
      (node : ℕ) (rows : List Row)
      → drop node nodes ≡ rows
      → EachOf (λ n. EachOf (NotBelow nodes n) (found_in (in_context request depth node rows))) (context_visits request depth node rows)
  unfolding context_visits in_context found_in starts_context
  context_outside node [] e = none_left
  context_outside node (row ∷ rows) e =
      let next : drop (suc node) nodes ≡ rows = drop_next nodes node e in
      by_test (leb row.depth depth)
      (λ t. rw t none_left)
      (λ t.
      by_test (starts_context row)
      (λ u.
      rw (t, u)
      (and_each {x = node}
      (each_map
      (λ v h. inl (omega (arith, h.low)))
      (walk_within nodes (suc depth) (some request.context ∷ []) (suc node) rows next))
      (visits_outside nodes (suc depth) (some request.context ∷ []) (suc node) rows next)))
      (λ u. rw (t, u) (context_outside (suc node) rows next)))

  -- what is looked at for the context lies in no other root's subtree, nor such a root in its
  across_visits :
      (node : ℕ) (rows : List Row)
      → drop node nodes ≡ rows
      → EachOf (λ v. EachOf (Apart nodes v) (found_in (at_roots request depth node rows))) (context_visits request depth node rows)
  unfolding context_visits at_roots found_in starts_context is_entity
  across_visits node [] e = none_left
  across_visits node (row ∷ rows) e =
      by_test (leb row.depth depth)
      (λ t. rw t none_left)
      (λ t.
      let next : drop (suc node) nodes ≡ rows = drop_next nodes node e in
      let ends : eqb row.depth (suc depth) ≡ true → past_subtree nodes node ≡ suc node + rows_below (suc depth) rows =
      λ p. past_here nodes node row rows e ∙ ap (λ d. suc node + rows_below d rows) (eqb-true row.depth (suc depth) p) in
      by_test (starts_context row)
      (λ u.
      let here = ends ((and-eq-true_iff (eqb row.depth (suc depth)) _).0 u).0 in
      rw (t, u, not_both row u)
      (and_each {x = node}
      (each_map (λ r b. inl (omega arith)) (roots_beyond (suc node) rows next))
      (each_map
      (λ v h. each_map (λ r b. inl (omega (arith, h.high))) (roots_beyond (suc node) rows next))
      (visits_within nodes (suc depth) (some request.context ∷ []) (suc node) rows next))))
      (λ u.
      by_test (is_entity row)
      (λ w.
      let here = ends ((and-eq-true_iff (eqb row.depth (suc depth)) _).0 w).0 in
      rw (t, u, w)
      (each_map
      (λ v h. and_each {x = node} (inr (omega (arith, h.0))) h.1)
      (each_both (context_beyond (suc node) rows next) (across_visits (suc node) rows next))))
      (λ w. rw (t, u, w) (across_visits (suc node) rows next))))

  across :
      (node : ℕ) (rows : List Row)
      → drop node nodes ≡ rows
      → EachOf (λ v. EachOf (Apart nodes v) (found_in (at_roots request depth node rows))) (found_in (in_context request depth node rows))
  across node rows e = sub_each (context_sub node rows) (across_visits node rows e)

  initial_apart :
      (node : ℕ) (rows : List Row) → drop node nodes ≡ rows → Pairs (Apart nodes) (found_in (initial_entities request depth node rows))
  initial_apart node rows e =
      rw (found_append (in_context request depth node rows) (at_roots request depth node rows))
      (pairs_append
      (pairs_map (λ m n h. inl h) (context_ahead node rows e))
      (pairs_map (λ m n h. inl h) (roots_ahead node rows e))
      (across node rows e))

-- The places of the first batch.

module _ (s₀ : List ℕ) (nodes : List Row) where
  -- what is kept where a walk starts
  kept_start :
      {node : ℕ} {s : List ℕ} {row : Row} {rows : List Row} (members : Attributes) (depth : ℕ)
      → Rest s₀ nodes node s (row ∷ rows)
      → row.depth ≡ depth
      → is_primary (at s row) ≡ true
      → Kept s₀ nodes depth (at s row) (some members ∷ [])
  unfolding kept_at
  kept_start {s = s} {row = row} members depth q same primary =
      record { level = omega (arith, size); field-steps = go }
    where
      size : length (at s row) ≡ row.depth + 1
      size = length_at s row (rest_near q)

      go : (i : ℕ) (f : Attributes) → kept_at (some members ∷ []) i ≡ some f → is_primary (take (suc depth + i) (at s row)) ≡ true
      go zero f e = rw (take_all (suc depth + 0) (at s row) (omega (arith, size))) primary
      go (suc i) f e = absurd (none-ne-some f e)

  -- a root is primary
  primary_root : (place : List ℕ) → length place ≤ 2 → is_primary place ≡ true
  unfolding all_fields
  primary_root [] h = refl
  primary_root (a ∷ []) h = refl
  primary_root (a ∷ b ∷ []) h = refl
  primary_root (a ∷ b ∷ c ∷ rest) h = absurd (omega arith)

  root_primary :
      {node : ℕ} {s : List ℕ} {row : Row} {rows : List Row}
      → Rest s₀ nodes node s (row ∷ rows)
      → row.depth ≡ 1
      → is_primary (at s row) ≡ true
  root_primary {s = s} {row = row} q level = primary_root (at s row) (omega (arith, length_at s row (rest_near q)))

  module _ (request : Request) where
    roots_deep :
        (node : ℕ) (s : List ℕ) (rows : List Row)
        → Rest s₀ nodes node s rows
        → EachOf (Deep s₀ nodes 0) (found_in (at_roots request 0 node rows))
    unfolding at_roots found_in is_entity
    roots_deep node s [] q = none_left
    roots_deep node s (row ∷ rows) q =
        by_test (leb row.depth 0)
        (λ t. rw t none_left)
        (λ t.
        by_test (is_entity nodes request 0 row)
        (λ u.
        let level : row.depth ≡ 1 = eqb-true _ _ ((and-eq-true_iff (eqb row.depth 1) _).0 u).0 in
        rw (t, u)
        (and_each {x = node}
        (record { primary = rest_primary q (root_primary q level); deeper = omega (arith, rest_length q) })
        (roots_deep (suc node) (at s row) rows (rest_next q))))
        (λ u. rw (t, u) (roots_deep (suc node) (at s row) rows (rest_next q))))

    context_deep :
        (node : ℕ) (s : List ℕ) (rows : List Row)
        → Rest s₀ nodes node s rows
        → EachOf (Deep s₀ nodes 0) (found_in (in_context request 0 node rows))
    unfolding in_context found_in starts_context
    context_deep node s [] q = none_left
    context_deep node s (row ∷ rows) q =
        by_test (leb row.depth 0)
        (λ t. rw t none_left)
        (λ t.
        by_test (starts_context nodes request 0 row)
        (λ u.
        let level : row.depth ≡ 1 = eqb-true _ _ ((and-eq-true_iff (eqb row.depth 1) _).0 u).0 in
        rw (t, u)
        (each_map
        (λ n h. record { primary = h.primary; deeper = omega (arith, h.deeper) })
        (walk_deep s₀ nodes 1 (some request.context ∷ []) (suc node) (at s row) rows (rest_next q)
        (kept_start request.context 1 q level (root_primary q level)))))
        (λ u. rw (t, u) (context_deep (suc node) (at s row) rows (rest_next q))))

    initial_deep : Ordered s₀ nodes → EachOf (Deep s₀ nodes 0) (found_in (initial_entities request 0 0 nodes))
    initial_deep o =
        rw (found_append (in_context request 0 0 nodes) (at_roots request 0 0 nodes))
        (each_append
        (context_deep 0 s₀ nodes (rest_first s₀ nodes o))
        (roots_deep 0 s₀ nodes (rest_first s₀ nodes o)))

-- One answer.

-- a batch has the nodes that its walk finds
batch_found : (events : List Event) (rows : List EntityRequest) → batch_of events ≡ some rows → nodes_asked rows ≡ found_in events
unfolding batch_of found_in
batch_found [] rows e = let same : [] ≡ rows = cc in rw (← same)
batch_found (yielded row ∷ events) rows e = go (batch_of events) (batch_found events) e
  where
    go :
        (b : Option (List EntityRequest))
        → ((more : List EntityRequest) → b ≡ some more → nodes_asked more ≡ found_in events)
        → (b >>= (λ more. some (row ∷ more))) ≡ some rows
        → nodes_asked rows ≡ row.node ∷ found_in events
    go none h e = absurd (none-ne-some rows e)
    go (some more) h e = let same : row ∷ more ≡ rows = cc in rw (← same) (ap (λ l. row.node ∷ l) (h more refl))
batch_found (ancestor a ∷ events) rows e = batch_found events rows e
batch_found (bad ∷ events) rows e = absurd (none-ne-some rows e)

pub nodes_append : (a b : List EntityRequest) → nodes_asked (a ++ b) ≡ nodes_asked a ++ nodes_asked b
nodes_append [] b = refl
nodes_append (x ∷ a) b = ap (λ l. x.node ∷ l) (nodes_append a b)

-- what a batch's rows gain: for each its own nodes, in order
data Gains (nodes : List Row) (E : ℕ → ℕ → Type 0) : List ℕ → List ℕ → Type 0 where
  no_gain : Gains nodes E [] []
  gains :
      {w : ℕ} {ws vs us : List ℕ} (l : List ℕ)
      → EachOf (Inner nodes E w) l
      → Pairs (Ahead nodes) l
      → Gains nodes E ws vs
      → us ≡ l ++ vs
      → Gains nodes E (w ∷ ws) us

-- the rows found next, after those found before
record GainedFrom (nodes : List Row) (E : ℕ → ℕ → Type 0) (ws before after_batches : List ℕ) : Type 0 where
  more : List ℕ
  joins : after_batches ≡ before ++ more
  gain_of : Gains nodes E ws more

module _ {nodes : List Row} {E : ℕ → ℕ → Type 0} where
  gains_none : (ws : List ℕ) → Gains nodes E ws []
  gains_none [] = no_gain
  gains_none (w ∷ ws) = gains [] none_left no_pair (gains_none ws) refl

  -- what holds inside each of a batch's subtrees holds of what it gains
  gains_each : {Q : ℕ → Type 0} {ws vs : List ℕ} → EachOf (λ w. (v : ℕ) → Inner nodes E w v → Q v) ws → Gains nodes E ws vs → EachOf Q vs
  gains_each none_left no_gain = none_left
  gains_each (and_each h hs) (gains l inner ahead more e) = rw e (each_append (each_map h inner) (gains_each hs more))

  apart_inner : {w w' x v : ℕ} → Apart nodes w w' → Inner nodes E w x → Inner nodes E w' v → Apart nodes x v
  apart_inner (inl h) i j = inl (omega (arith, i.within_it, j.after_it))
  apart_inner (inr h) i j = inr (omega (arith, j.within_it, i.after_it))

  -- subtrees that are apart gain subtrees that are apart
  gains_apart : {ws vs : List ℕ} → Pairs (Apart nodes) ws → Gains nodes E ws vs → Pairs (Apart nodes) vs
  gains_apart no_pair no_gain = no_pair
  gains_apart (with apart rest) (gains l inner ahead more e) =
      rw e
      (pairs_append
      (pairs_map (λ m n h. inl h) ahead)
      (gains_apart rest more)
      (each_map (λ x i. gains_each (each_map (λ w a v j. apart_inner a i j) apart) more) inner))

module _ (s₀ : List ℕ) (nodes : List Row) where
  -- one found in a load is deeper, and primary too
  record Further (w v : ℕ) : Type 0 where
    primary : Primary s₀ nodes v
    deeper : length (place_at s₀ nodes w) < length (place_at s₀ nodes v)

  module _ (o : Ordered s₀ nodes) where
    here_of : (n : ℕ) → n < length nodes → Here s₀ nodes n
    here_of n h = let same : 0 + n ≡ n = omega arith in rw same at (here_at n (rest_first s₀ nodes o) h)

    remaining_inner :
        (w : ℕ) (attributes : Attributes) → Primary s₀ nodes w → EachOf (Inner nodes Further w) (found_in (remaining_entities nodes w attributes))
    remaining_inner w attributes p = go (here_of w p.is-node)
      where
        go : Here s₀ nodes w → EachOf (Inner nodes Further w) (found_in (remaining_entities nodes w attributes))
        go h =
            let q = h.stands in
            let next = rest_next q in
            let depth = h.row.depth in
            let primary : is_primary (at h.s h.row) ≡ true = ap is_primary (sym (rest_place q)) ∙ p.of_fields in
            let walked : remaining_entities nodes w attributes ≡ walk_nodes depth (some attributes ∷ []) (suc w) h.rows = rw (q.rest, remaining_entities) in
            rw walked
            (each_map
            (λ v both.
            record {
              after_it = omega (arith, both.0.low);
              within_it = omega (arith, both.0.high, past_here nodes w h.row h.rows q.rest);
              extra = record { primary = both.1.primary; deeper = omega (arith, both.1.deeper, rest_length q) };
            })
            (each_both
            (walk_within nodes depth (some attributes ∷ []) (suc w) h.rows next.rest)
            (walk_deep s₀ nodes depth (some attributes ∷ []) (suc w) (at h.s h.row) h.rows next
            (kept_start s₀ nodes attributes depth q refl primary))))

  remaining_ahead : (w : ℕ) (attributes : Attributes) → Pairs (Ahead nodes) (found_in (remaining_entities nodes w attributes))
  unfolding found_in
  remaining_ahead w attributes = go (drop w nodes) refl
    where
      go :
          (rest : List Row)
          → drop w nodes ≡ rest
          → Pairs (Ahead nodes) (found_in (elim rest [ [] ↦ [] | row ∷ rows ↦ walk_nodes row.depth (some attributes ∷ []) (suc w) rows ]))
      go [] e = no_pair
      go (row ∷ rows) e = walk_ahead nodes row.depth (some attributes ∷ []) (suc w) rows (drop_next nodes w e)

  module _ (o : Ordered s₀ nodes) where
    gain_all :
        (place : ℕ) (rows : List EntityRequest) (answers : List (Option Entity)) (g g' : AnswersTaken)
        → EachOf (Primary s₀ nodes) (nodes_asked rows)
        → take_answers nodes place rows answers g ≡ done g'
        → GainedFrom nodes Further (nodes_asked rows) (nodes_asked g.next) (nodes_asked g'.next)
    unfolding take_answers
    gain_all place [] answers g g' h e =
        let same : g ≡ g' = cc in
        record { more = []; joins = rw (← same, append-nil); gain_of = no_gain }
    gain_all place (row ∷ rows) [] g g' h e =
        let same : g ≡ g' = cc in
        record { more = []; joins = rw (← same, append-nil); gain_of = gains_none (row.node ∷ nodes_asked rows) }
    gain_all place (row ∷ rows) (none ∷ answers) g g' (and_each p h) e =
        let rest = gain_all (suc place) rows answers g g' h e in
        record { more = rest.more; joins = rest.joins; gain_of = gains [] none_left no_pair rest.gain_of refl }
    gain_all place (row ∷ rows) (some value ∷ answers) g g' (and_each p h) e =
        go (batch_of (remaining_entities nodes row.node value.attributes)) (entered row.id value g.slice)
        refl (λ g₁. gain_all (suc place) rows answers g₁ g' h) e
      where
        go :
            (b : Option (List EntityRequest)) (s : Option (List Loaded))
            → batch_of (remaining_entities nodes row.node value.attributes) ≡ b
            → ((g₁ : AnswersTaken) → take_answers nodes (suc place) rows answers g₁ ≡ done g' → GainedFrom nodes Further (nodes_asked rows) (nodes_asked g₁.next) (nodes_asked g'.next))
            → (elim b [
              | none ↦ refused_at 14 place
              | some rows ↦
                  elim s [
                    | none ↦ refused_at 13 place
                    | some slice ↦ done (record { slice = slice; next = g.next ++ rows })
                  ]
            ] then (λ more. take_answers nodes (suc place) rows answers more)) ≡ done g'
            → GainedFrom nodes Further (row.node ∷ nodes_asked rows) (nodes_asked g.next) (nodes_asked g'.next)
        go none s q rest e = let z : ◌≡◌ {A = ℕ} 0 1 = cc in absurd (omega arith)
        go (some now) none q rest e = let z : ◌≡◌ {A = ℕ} 0 1 = cc in absurd (omega arith)
        go (some now) (some slice) q rest e =
            let same = batch_found (remaining_entities nodes row.node value.attributes) now q in
            let r = rest (record { slice = slice; next = g.next ++ now }) e in
            record {
              more = nodes_asked now ++ r.more;
              joins = r.joins ∙ rw (nodes_append g.next now, append_assoc);
              gain_of =
                  gains {w = row.node} (nodes_asked now)
                  (rw same (remaining_inner o row.node value.attributes p))
                  (rw same (remaining_ahead row.node value.attributes))
                  r.gain_of
                  refl;
            }

-- A load.

past_after : (nodes : List Row) (n : ℕ) → n < past_subtree nodes n
past_after nodes n = go (drop n nodes)
  where
    go : (rest : List Row) → n < past_row n rest
    go [] = omega arith
    go (row ∷ rows) = omega arith

trips_one : (rows : List EntityRequest) → trips_for rows ≤ 1
trips_one [] = omega arith
trips_one (row ∷ rows) = omega arith

trips_rows : (rows : List EntityRequest) → trips_for rows ≤ length rows
trips_rows [] = omega arith
trips_rows (row ∷ rows) = omega arith

-- a primary node has at most the most field steps
most-fields :
    (s : List ℕ) (rows : List Row) (n : ℕ)
    → n < length rows
    → is_primary (place_at s rows n) ≡ true
    → field_steps (place_at s rows n) ≤ most_fields s rows
unfolding place_at most_fields
most-fields s [] n is-node h = absurd (omega arith)
most-fields s (row ∷ rows) zero is-node h = rw h (omega arith)
most-fields s (row ∷ rows) (suc n) is-node h =
    let rest = most-fields (at s row) rows n (omega arith) h in
    by_test (is_primary (at s row)) (λ e. rw e (omega (arith, rest))) (λ e. rw e rest)

primaries_count : (s : List ℕ) (rows : List Row) → primaries s rows ≡ count_up (λ n. is_primary (place_at s rows n)) (length rows)
unfolding primaries count_up place_at
primaries_count s [] = refl
primaries_count s (row ∷ rows) = ap (λ n. cond (is_primary (at s row)) (suc n) n) (primaries_count (at s row) rows)

-- what is answered and not refused comes of what is gained
pub record Answered (nodes : List Row) (before : Load) (answers : List (Option Entity)) (now : Load) : Type 0 where
  pub gained : AnswersTaken
  pub gaining : take_answers nodes 0 before.waiting answers (record { slice = before.slice; next = [] }) ≡ done gained
  pub waits : now.waiting ≡ gained.next
  pub has_asked : now.asked ≡ before.asked ++ before.waiting
  pub trips : now.batches ≡ trips_for before.waiting + before.batches
  pub row_count : now.rows ≡ before.rows + length before.waiting

pub is_answered :
    (nodes : List Row) (before : Load) (answers : List (Option Entity)) (now : Load)
    → batch_answered nodes before answers ≡ done now
    → Answered nodes before answers now
is_answered nodes before answers now e =
    go (eqb (length answers) (length before.waiting)) (summed size_of_answer 0 before.sum answers)
    (take_answers nodes 0 before.waiting answers (record { slice = before.slice; next = [] })) refl e
  where
    go :
        (t : Bool) (sum : LoadAnswer ℕ) (g : LoadAnswer AnswersTaken)
        → take_answers nodes 0 before.waiting answers (record { slice = before.slice; next = [] }) ≡ g
        → cond t
        (sum then (λ sum.
        g then (λ gained.
        done (record {
          waiting = gained.next;
          asked = before.asked ++ before.waiting;
          slice = gained.slice;
          sum = sum;
          batches = trips_for before.waiting + before.batches;
          rows = before.rows + length before.waiting;
        }))))
        (counted (length before.waiting) (length answers))
        ≡ done now
        → Answered nodes before answers now
    go false sum g q e = let z : ◌≡◌ {A = ℕ} 0 1 = cc in absurd (omega arith)
    go true (refused_at a b) g q e = let z : ◌≡◌ {A = ℕ} 0 1 = cc in absurd (omega arith)
    go true (counted a b) g q e = let z : ◌≡◌ {A = ℕ} 0 1 = cc in absurd (omega arith)
    go true (done sum) (refused_at a b) q e = let z : ◌≡◌ {A = ℕ} 0 1 = cc in absurd (omega arith)
    go true (done sum) (counted a b) q e = let z : ◌≡◌ {A = ℕ} 0 1 = cc in absurd (omega arith)
    go true (done sum) (done gained) q e =
        let now' : Load = record {
          waiting = gained.next;
          asked = before.asked ++ before.waiting;
          slice = gained.slice;
          sum = sum;
          batches = trips_for before.waiting + before.batches;
          rows = before.rows + length before.waiting;
        } in
        let same : now ≡ now' = cc in
        record {
          gained = gained;
          gaining = q;
          waits = ap (λ (s : Load). s.waiting) same;
          has_asked = ap (λ (s : Load). s.asked) same;
          trips = ap (λ (s : Load). s.batches) same;
          row_count = ap (λ (s : Load). s.rows) same;
        }

module _ (nodes : List Row) where
  off_weaker : (u w : ℕ) → Off nodes u w → NotBelow nodes u w
  off_weaker u w (inl h) = inl (omega arith)
  off_weaker u w (inr h) = inr h

  apart_off : (u w : ℕ) → Apart nodes u w → Off nodes u w
  apart_off u w (inl h) = inl (omega (arith, past_after nodes u))
  apart_off u w (inr h) = inr h

  apart_there : (u w : ℕ) → Apart nodes u w → NotBelow nodes u w
  apart_there u w h = off_weaker u w (apart_off u w h)

  apart_back : (u w : ℕ) → Apart nodes u w → NotBelow nodes w u
  apart_back u w (inl h) = inr h
  apart_back u w (inr h) = inl (omega (arith, past_after nodes w))

  off_distinct : (u v : ℕ) → Off nodes u v → u ≡ v → ⊥
  off_distinct u v (inl h) e = omega arith
  off_distinct u v (inr h) e = omega (arith, past_after nodes v)

module _ {nodes : List Row} {E : ℕ → ℕ → Type 0} where
  off_inner : {u w v : ℕ} → NotBelow nodes u w → Inner nodes E w v → Off nodes u v
  off_inner (inl h) i = inl (omega (arith, i.after_it))
  off_inner (inr h) i = inr (omega (arith, i.within_it))

  -- rows ever asked, rows that wait, and rows that they gain
  fresh_next :
      (us ws vs : List ℕ)
      → Pairs (Off nodes) (us ++ ws)
      → Pairs (Apart nodes) ws
      → Gains nodes E ws vs
      → Pairs (Off nodes) ((us ++ ws) ++ vs)
  fresh_next us ws vs fresh apart gain_of =
      pairs_append fresh
      (pairs_map (apart_off nodes) (gains_apart apart gain_of))
      (each_append
      (each_map (λ u h. gains_each (each_map (λ w off v i. off_inner (off_weaker nodes u w off) i) h) gain_of) (pairs_across us ws fresh))
      (each_map
      (λ u h. gains_each (each_map (λ w off v i. off_inner off i) h) gain_of)
      (pairs_square (λ u. inl (omega arith)) (apart_there nodes) (apart_back nodes) apart)))

module _ (s₀ : List ℕ) (nodes : List Row) where
  -- what holds of a load as long as it goes on
  pub record GoingLoad (sofar : Load) : Type 0 where
    pub fresh : Pairs (Off nodes) (nodes_asked sofar.asked ++ nodes_asked sofar.waiting)
    pub apart : Pairs (Apart nodes) (nodes_asked sofar.waiting)
    pub primary : EachOf (Primary s₀ nodes) (nodes_asked sofar.asked ++ nodes_asked sofar.waiting)
    pub deep : EachOf (λ w. sofar.batches + 2 ≤ length (place_at s₀ nodes w)) (nodes_asked sofar.waiting)
    pub row_count : sofar.rows ≡ length sofar.asked
    pub few : sofar.batches ≤ most_fields s₀ nodes + 1
    pub fewer : sofar.batches ≤ sofar.rows

  -- where rows wait, one batch fewer has been asked
  waiting_few :
      (batches : ℕ) (ws : List ℕ) (w : ℕ)
      → EachOf (Primary s₀ nodes) (w ∷ ws)
      → EachOf (λ w. batches + 2 ≤ length (place_at s₀ nodes w)) (w ∷ ws)
      → batches ≤ most_fields s₀ nodes
  waiting_few batches ws w (and_each p _) (and_each d _) =
      omega (arith, most-fields s₀ nodes w p.is-node p.of_fields, length-drop 2 (place_at s₀ nodes w))

  trips_few :
      (batches : ℕ) (waiting : List EntityRequest)
      → EachOf (Primary s₀ nodes) (nodes_asked waiting)
      → EachOf (λ w. batches + 2 ≤ length (place_at s₀ nodes w)) (nodes_asked waiting)
      → batches ≤ most_fields s₀ nodes + 1
      → trips_for waiting + batches ≤ most_fields s₀ nodes + 1
  trips_few batches [] p d few = omega arith
  trips_few batches (row ∷ rows) p d few = omega (arith, waiting_few batches (nodes_asked rows) row.node p d)

  module _ (o : Ordered s₀ nodes) where
    pub going_next :
        (before : Load) (answers : List (Option Entity)) (now : Load)
        → GoingLoad before
        → Answered nodes before answers now
        → GoingLoad now
    going_next before answers now g a =
        let us = nodes_asked before.asked in
        let ws = nodes_asked before.waiting in
        let waiting_primary : EachOf (Primary s₀ nodes) (nodes_asked before.waiting) = each_right us ws g.primary in
        let from = gain_all s₀ nodes o 0 before.waiting answers _ a.gained waiting_primary a.gaining in
        let vs = from.more in
        let new : nodes_asked now.waiting ≡ vs = ap nodes_asked a.waits ∙ from.joins in
        let old : nodes_asked now.asked ≡ us ++ ws = ap nodes_asked a.has_asked ∙ nodes_append before.asked before.waiting in
        let one = trips_one before.waiting in
        record {
          fresh = rw (old, new) (fresh_next us ws vs g.fresh g.apart from.gain_of);
          apart = rw new (gains_apart g.apart from.gain_of);
          primary =
              rw (old, new)
              (each_append g.primary (gains_each (each_map (λ w _ v i. i.extra.primary) waiting_primary) from.gain_of));
          deep =
              rw new
              (gains_each
              (each_map (λ w d v i. omega (arith, i.extra.deeper, a.trips)) g.deep)
              from.gain_of);
          row_count =
              omega (arith, a.row_count, g.row_count, ap length a.has_asked, length-append before.asked before.waiting);
          few = omega (arith, a.trips, trips_few before.batches before.waiting waiting_primary g.deep g.few);
          fewer = omega (arith, a.trips, a.row_count, g.fewer, trips_rows before.waiting);
        }

    pub going_first : (request : Request) (sofar : Load) → load_begun request nodes ≡ done sofar → GoingLoad sofar
    going_first request sofar e = go (batch_of (initial_entities request 0 0 nodes)) refl e
      where
        go :
            (b : Option (List EntityRequest))
            → batch_of (initial_entities request 0 0 nodes) ≡ b
            → elim b [
              | none ↦ refused_at 14 0
              | some rows ↦ done (record { waiting = rows; asked = []; slice = []; sum = 0; batches = 0; rows = 0 })
            ] ≡ done sofar
            → GoingLoad sofar
        go none q e = let z : ◌≡◌ {A = ℕ} 0 1 = cc in absurd (omega arith)
        go (some rows) q e =
            let first : Load = record { waiting = rows; asked = []; slice = []; sum = 0; batches = 0; rows = 0 } in
            let same : sofar ≡ first = cc in
            let now = batch_found (initial_entities request 0 0 nodes) rows q in
            let apart : Pairs (Apart nodes) (nodes_asked rows) = rw now (initial_apart nodes request 0 0 nodes refl) in
            let deep : EachOf (Deep s₀ nodes 0) (nodes_asked rows) = rw now (initial_deep s₀ nodes request o) in
            rw same
            (record {
              fresh = pairs_map (apart_off nodes) apart;
              apart = apart;
              primary = each_map (λ n h. h.primary) deep;
              deep = each_map (λ n h. h.deeper) deep;
              row_count = refl;
              few = omega arith;
              fewer = omega arith;
            })

    going_after :
        (start : LoadAnswer Load) (batches : List (List (Option Entity))) (sofar : Load)
        → ((first : Load) → start ≡ done first → GoingLoad first)
        → after_batches nodes start batches ≡ done sofar
        → GoingLoad sofar
    unfolding after_batches
    going_after start [] sofar h e = h sofar e
    going_after start (answers ∷ batches) sofar h e =
        going_after (start then (λ s. batch_answered nodes s answers)) batches sofar (go start h) e
      where
        go :
            (start : LoadAnswer Load)
            → ((first : Load) → start ≡ done first → GoingLoad first)
            → (now : Load)
            → (start then (λ s. batch_answered nodes s answers)) ≡ done now
            → GoingLoad now
        go (done before) h now e = going_next before answers now (h before refl) (is_answered nodes before answers now e)
        go (refused_at a b) h now e = let z : ◌≡◌ {A = ℕ} 0 1 = cc in absurd (omega arith)
        go (counted a b) h now e = let z : ◌≡◌ {A = ℕ} 0 1 = cc in absurd (omega arith)

-- The promise.

module _ (s : List ℕ) (nodes : List Row) where
  pub going_bounded : (sofar : Load) → GoingLoad s nodes sofar → BoundedTrips s nodes sofar
  going_bounded sofar g =
      let both = nodes_append sofar.asked sofar.waiting in
      let once : Distinct (nodes_asked (sofar.asked ++ sofar.waiting)) = rw both (pairs_map (off_distinct nodes) g.fresh) in
      let primary : EachOf (Primary s nodes) (nodes_asked (sofar.asked ++ sofar.waiting)) = rw both g.primary in
      let fits =
      count_distinct (λ n. is_primary (place_at s nodes n)) (length nodes) (nodes_asked (sofar.asked ++ sofar.waiting)) once
      (each_map (λ n p. (p.is-node, p.of_fields)) primary) in
      let waiting_primary = each_right (nodes_asked sofar.asked) (nodes_asked sofar.waiting) g.primary in
      record {
        once = once;
        primary = primary;
        all_rows =
            omega (
              arith,
              fits,
              primaries_count s nodes,
              length-map (sofar.asked ++ sofar.waiting) (λ (row : EntityRequest). row.node),
              length-append sofar.asked sofar.waiting,
              g.row_count,
            );
        all_batches = omega (arith, trips_few s nodes sofar.batches sofar.waiting waiting_primary g.deep g.few);
        rows_each = omega (arith, g.fewer, trips_rows sofar.waiting);
      }

  -- K10: for the nodes of an entry, in listing order after its place, for any request and any answers
  pub bounded :
      (request : Request) (batches : List (List (Option Entity))) (sofar : Load)
      → ordered s nodes ≡ true
      → after_batches nodes (load_begun request nodes) batches ≡ done sofar
      → BoundedTrips s nodes sofar
  bounded request batches sofar order e =
      let o = ordered_true s nodes order in
      going_bounded sofar (going_after s nodes o (load_begun request nodes) batches sofar (going_first s nodes o request) e)

-- 'with an empty one, there are no batches'
pub no_batches : {s : List ℕ} {sofar : Load} → BoundedTrips s [] sofar → (sofar.batches ≡ 0) × (sofar.rows ≡ 0) × (sofar.waiting ≡ [])
unfolding primaries
no_batches {s} {sofar} b = (omega (arith, b.all_rows, b.rows_each), omega (arith, b.all_rows), go sofar.waiting b.all_rows)
  where
    go : (rows : List EntityRequest) → sofar.rows + length rows ≤ 0 → rows ≡ []
    go [] h = refl
    go (row ∷ rows) h = absurd (omega arith)

-- the nodes of an entry of a manifest are in listing order after its place
pub entry_ordered :
    (before : List Row) (entry : Row) (nodes others : List Row)
    → entry.depth ≡ 0
    → ordered [] (before ++ (entry ∷ (nodes ++ others))) ≡ true
    → ordered (entry.step ∷ []) nodes ≡ true
unfolding Ordered
entry_ordered before entry nodes others e order =
    true_ordered (entry.step ∷ []) nodes (go [] before (ordered_true [] (before ++ (entry ∷ (nodes ++ others))) order))
  where
    front : (s : List ℕ) (nodes : List Row) → Ordered s (nodes ++ others) → Ordered s nodes
    front s [] o = tt
    front s (row ∷ rows) o = (o.0, o.1, o.2, front (at s row) rows o.3)

    go : (s : List ℕ) (before : List Row) → Ordered s (before ++ (entry ∷ (nodes ++ others))) → Ordered (entry.step ∷ []) nodes
    go s [] o =
        let place : at s entry ≡ entry.step ∷ [] = rw e in
        front (entry.step ∷ []) nodes (rw place at o.3)
    go s (row ∷ before) o = go (at s row) before o.3

-- so are those of the entry that is found for a request type
ahead_ordered : (s : List ℕ) (rows : List Row) → Ordered s rows → Ordered s (nodes_ahead rows)
unfolding Ordered nodes_ahead
ahead_ordered s [] o = tt
ahead_ordered s (row ∷ rows) o =
    by_test (is_entry row) (λ e. rw e tt) (λ e. rw e (o.0, o.1, o.2, ahead_ordered (at s row) rows o.3))

found_ordered :
    (type n : ℕ) (s : List ℕ) (rows : List Row) (entry : Entry)
    → Ordered s rows
    → entry_for type n rows ≡ some entry
    → Ordered (type ∷ []) entry.nodes
unfolding Ordered entry_for
found_ordered type n s [] entry o e = absurd (none-ne-some entry e)
found_ordered type n s (row ∷ rows) entry o e =
    by_test (is_entry row)
    (λ t.
    by_test (eqb row.step type)
    (λ u.
    let place : at s row ≡ type ∷ [] = rw (eqb-true row.depth 0 t, eqb-true row.step type u) in
    let same : record { first = n; nodes = nodes_ahead rows } ≡ entry = cc (rw (t, u) at e) in
    subst (λ (entry : Entry). Ordered (type ∷ []) entry.nodes) same (rw place at (ahead_ordered (at s row) rows o.3)))
    (λ u. found_ordered type n (at s row) rows entry o.3 (rw (t, u) at e)))
    (λ t. found_ordered type (suc n) (at s row) rows entry o.3 (rw t at e))

pub entry_in_order :
    (type : ℕ) (manifest : List Row) (entry : Entry)
    → ordered [] manifest ≡ true
    → entry_for type 0 manifest ≡ some entry
    → ordered (type ∷ []) entry.nodes ≡ true
entry_in_order type manifest entry order e =
    true_ordered (type ∷ []) entry.nodes (found_ordered type 0 [] manifest entry (ordered_true [] manifest order) e)

-- The ancestors walk.

-- what a row's walk looks at and what it finds
record Looked (nodes : List Row) (w : ℕ) (seen next : List ℕ) : Type 0 where
  seen_inner : EachOf (Inner nodes Any w) seen
  seen_ascend : Pairs (λ m n. m < n) seen
  next_inner : EachOf (Inner nodes Any w) next
  next_ahead : Pairs (Ahead nodes) next
  outside : EachOf (λ n. EachOf (NotBelow nodes n) next) seen

looked_none : {nodes : List Row} {w : ℕ} → Looked nodes w [] []
looked_none = record {
  seen_inner = none_left;
  seen_ascend = no_pair;
  next_inner = none_left;
  next_ahead = no_pair;
  outside = none_left;
}

remaining_looked :
    (nodes : List Row) (w : ℕ) (attributes : Attributes)
    → Looked nodes w (remaining_visits nodes w attributes) (found_in (remaining_entities nodes w attributes))
unfolding found_in
remaining_looked nodes w attributes = go (drop w nodes) refl
  where
    go :
        (rest : List Row)
        → drop w nodes ≡ rest
        → Looked nodes w
        (elim rest [ [] ↦ [] | row ∷ rows ↦ visits row.depth (some attributes ∷ []) (suc w) rows ])
        (found_in (elim rest [ [] ↦ [] | row ∷ rows ↦ walk_nodes row.depth (some attributes ∷ []) (suc w) rows ]))
    go [] e = looked_none
    go (row ∷ rows) e =
        let next : drop (suc w) nodes ≡ rows = drop_next nodes w e in
        let here : past_subtree nodes w ≡ suc w + rows_below row.depth rows = past_here nodes w row rows e in
        let is-node : (n : ℕ) → Within nodes (suc w) (suc w + rows_below row.depth rows) n → Inner nodes Any w n =
        λ n h. record { after_it = omega (arith, h.low); within_it = omega (arith, h.high); extra = tt } in
        record {
          seen_inner = each_map is-node (visits_within nodes row.depth (some attributes ∷ []) (suc w) rows next);
          seen_ascend = visits_ascend nodes row.depth (some attributes ∷ []) (suc w) rows next;
          next_inner = each_map is-node (walk_within nodes row.depth (some attributes ∷ []) (suc w) rows next);
          next_ahead = walk_ahead nodes row.depth (some attributes ∷ []) (suc w) rows next;
          outside = visits_outside nodes row.depth (some attributes ∷ []) (suc w) rows next;
        }

-- the same for the rows of a batch
data Steps (nodes : List Row) : List ℕ → List ℕ → List ℕ → Type 0 where
  no_step : Steps nodes [] [] []
  step :
      {w : ℕ} {ws ns vs : List ℕ} (seen next : List ℕ) {ns' vs' : List ℕ}
      → Looked nodes w seen next
      → Steps nodes ws ns vs
      → ns' ≡ seen ++ ns
      → vs' ≡ next ++ vs
      → Steps nodes (w ∷ ws) ns' vs'

module _ {nodes : List Row} where
  steps_gains : {ws ns vs : List ℕ} → Steps nodes ws ns vs → Gains nodes Any ws vs
  steps_gains no_step = no_gain
  steps_gains (step seen next h more e f) = gains next h.next_inner h.next_ahead (steps_gains more) f

  steps_each :
      {Q : ℕ → Type 0} {ws ns vs : List ℕ}
      → EachOf (λ w. (n : ℕ) → Inner nodes Any w n → Q n) ws
      → Steps nodes ws ns vs
      → EachOf Q ns
  steps_each none_left no_step = none_left
  steps_each (and_each h hs) (step seen next l more e f) = rw e (each_append (each_map h l.seen_inner) (steps_each hs more))

  steps_distinct : {ws ns vs : List ℕ} → Pairs (Apart nodes) ws → Steps nodes ws ns vs → Distinct ns
  steps_distinct no_pair no_step = no_pair
  steps_distinct (with apart rest) (step seen next l more e f) =
      rw e
      (pairs_append
      (pairs_map (λ m n h p. omega arith) l.seen_ascend)
      (steps_distinct rest more)
      (each_map
      (λ x i. steps_each (each_map (λ w a n j. off_distinct nodes x n (apart_off nodes x n (apart_inner a i j))) apart) more)
      l.seen_inner))

  steps_outside : {ws ns vs : List ℕ} → Pairs (Apart nodes) ws → Steps nodes ws ns vs → EachOf (λ n. EachOf (NotBelow nodes n) vs) ns
  steps_outside no_pair no_step = none_left
  steps_outside (with apart rest) (step {ns = ns} seen next l more e f) =
      let here =
      each_map
      (λ n both.
      each_append both.1
      (gains_each (each_map (λ w a v j. apart_there nodes n v (apart_inner a both.0 j)) apart) (steps_gains more)))
      (each_both l.seen_inner l.outside) in
      let back : EachOf (λ n. EachOf (NotBelow nodes n) next) ns =
      steps_each
      (each_map (λ w a n j. each_map (λ v i. apart_back nodes v n (apart_inner a i j)) l.next_inner) apart)
      more in
      rw (e, f)
      (each_append here (each_map (λ n both. each_append both.0 both.1) (each_both back (steps_outside rest more))))

-- the nodes seen so far, and those that wait: none seen twice, none seen below one that waits
pub record Looking (nodes : List Row) (depth from to : ℕ) (us ws : List ℕ) : Type 0 where
  once : Distinct us
  outside : EachOf (λ u. EachOf (NotBelow nodes u) ws) us
  apart : Pairs (Apart nodes) ws
  seen_in : EachOf (Under nodes depth from to) us
  wait_in : EachOf (Under nodes depth from to) ws

looking_next :
    {nodes : List Row} {depth from to : ℕ} {us ws ns vs : List ℕ}
    → Looking nodes depth from to us ws
    → Steps nodes ws ns vs
    → Looking nodes depth from to (us ++ ns) vs
looking_next {nodes} {depth} {from} {to} l s =
    let is-node : (w : ℕ) → Under nodes depth from to w → (n : ℕ) → Inner nodes Any w n → Under nodes depth from to n =
    λ w h n i. record {
      root = h.root;
      is-root = h.is-root;
      low = h.low;
      high = h.high;
      first = omega (arith, h.first, i.after_it);
      last = omega (arith, h.last, i.within_it);
    } in
    record {
      once =
          pairs_append l.once
          (steps_distinct l.apart s)
          (each_map (λ u h. steps_each (each_map (λ w b n i. off_distinct nodes u n (off_inner b i)) h) s) l.outside);
      outside =
          each_append
          (each_map
          (λ u h. gains_each (each_map (λ w b v i. off_weaker nodes u v (off_inner b i)) h) (steps_gains s))
          l.outside)
          (steps_outside l.apart s);
      apart = gains_apart l.apart (steps_gains s);
      seen_in = each_append l.seen_in (steps_each (each_map is-node l.wait_in) s);
      wait_in = gains_each (each_map is-node l.wait_in) (steps_gains s);
    }

-- an id is no row
take-id : (place e : ℕ) (wanted now : Wanted) → take_id place e wanted ≡ done now → now.next ≡ wanted.next
take-id place e wanted now h = go (ltb 256 (length (with_id e wanted.ids))) h
  where
    go : (t : Bool) → cond t (refused_at 15 place) (done (record { ids = with_id e wanted.ids; next = wanted.next })) ≡ done now → now.next ≡ wanted.next
    go true h = let z : ◌≡◌ {A = ℕ} 0 1 = cc in absurd (omega arith)
    go false h =
        let there : Wanted = record { ids = with_id e wanted.ids; next = wanted.next } in
        let same : now ≡ there = cc in
        ap (λ (w : Wanted). w.next) same

pub take-events :
    (place : ℕ) (events : List Event) (wanted now : Wanted)
    → take_events place events wanted ≡ done now
    → nodes_asked now.next ≡ nodes_asked wanted.next ++ found_in events
unfolding take_events found_in
take-events place [] wanted now h = let same : wanted ≡ now = cc in rw (← same, append-nil)
take-events place (yielded row ∷ events) wanted now h =
    take-events place events (record { ids = wanted.ids; next = wanted.next ++ (row ∷ []) }) now h
    ∙ rw (nodes_append wanted.next (row ∷ []), append_assoc)
take-events place (ancestor e ∷ events) wanted now h =
    let (more, first, rest) = then_done (take_id place e wanted) (take_events place events) h in
    take-events place events more now rest ∙ rw (take-id place e wanted more first)
take-events place (bad ∷ events) wanted now h = let z : ◌≡◌ {A = ℕ} 0 1 = cc in absurd (omega arith)

module _ (nodes : List Row) (slice : List Loaded) where
  row_steps : (rows : List EntityRequest) → Steps nodes (nodes_asked rows) (row_visits nodes slice rows) (row_finds nodes slice rows)
  unfolding row_visits row_finds
  row_steps [] = no_step
  row_steps (row ∷ rows) = step _ _ (go (loaded_as row.id slice)) (row_steps rows) refl refl
    where
      go :
          (o : Option Entity)
          → Looked nodes row.node
          (elim o [ none ↦ [] | some value ↦ remaining_visits nodes row.node value.attributes ])
          (elim o [ none ↦ [] | some value ↦ found_in (remaining_entities nodes row.node value.attributes) ])
      go none = looked_none
      go (some value) = remaining_looked nodes row.node value.attributes

  pub take-rows :
      (place : ℕ) (rows : List EntityRequest) (wanted now : Wanted)
      → take_rows nodes slice place rows wanted ≡ done now
      → nodes_asked now.next ≡ nodes_asked wanted.next ++ row_finds nodes slice rows
  unfolding take_rows row_finds
  take-rows place [] wanted now h = let same : wanted ≡ now = cc in rw (← same, append-nil)
  take-rows place (row ∷ rows) wanted now h =
      let (more, first, rest) = then_done (take_row nodes slice place row wanted) (take_rows nodes slice place rows) h in
      take-rows place rows more now rest ∙ rw (one more first, append_assoc)
    where
      marks : (t : Bool) (w : Wanted) → cond t (take_id place row.id wanted) (done wanted) ≡ done w → w.next ≡ wanted.next
      marks true w e = take-id place row.id wanted w e
      marks false w e = let same : wanted ≡ w = cc in ap (λ (w : Wanted). w.next) (sym same)

      children :
          (o : Option Entity) (w more : Wanted)
          → elim o [ none ↦ done w | some value ↦ take_events place (remaining_entities nodes row.node value.attributes) w ] ≡ done more
          → nodes_asked more.next
          ≡ nodes_asked w.next ++ (elim o [ none ↦ [] | some value ↦ found_in (remaining_entities nodes row.node value.attributes) ])
      children none w more e = let same : w ≡ more = cc in rw (← same, append-nil)
      children (some value) w more e = take-events place (remaining_entities nodes row.node value.attributes) w more e

      one :
          (more : Wanted)
          → take_row nodes slice place row wanted ≡ done more
          → nodes_asked more.next
          ≡ nodes_asked wanted.next
          ++ (elim (loaded_as row.id slice) [ none ↦ [] | some value ↦ found_in (remaining_entities nodes row.node value.attributes) ])
      one more e =
          let (w, first, rest) =
          then_done (cond (is_marked nodes row.node) (take_id place row.id wanted) (done wanted))
          (λ more.
          elim (loaded_as row.id slice) [
            | none ↦ done more
            | some value ↦ take_events place (remaining_entities nodes row.node value.attributes) more
          ])
          e in
          children (loaded_as row.id slice) w more rest ∙ rw (marks (is_marked nodes row.node) w first)

  -- batch by batch
  record Seen (depth from to : ℕ) (us : List ℕ) : Type 0 where
    once : Distinct us
    is-node : EachOf (Under nodes depth from to) us

  looking_seen : {depth from to : ℕ} {us ws : List ℕ} → Looking nodes depth from to us ws → Seen depth from to us
  looking_seen l = record { once = l.once; is-node = l.seen_in }

  batch-visits :
      (left place : ℕ) (wanted : Wanted) (depth from to : ℕ) (us : List ℕ)
      → Looking nodes depth from to us (nodes_asked wanted.next)
      → Seen depth from to (us ++ batch_visits left nodes slice place wanted)
  unfolding batch_visits
  batch-visits zero place wanted depth from to us l = rw append-nil (looking_seen l)
  batch-visits (suc left) place wanted depth from to us l =
      go (take_rows nodes slice place wanted.next start) refl (batch-visits left place)
    where
      start : Wanted
      start = record { ids = wanted.ids; next = [] }

      next : Looking nodes depth from to (us ++ row_visits nodes slice wanted.next) (row_finds nodes slice wanted.next)
      next = looking_next l (row_steps wanted.next)

      go :
          (o : LoadAnswer Wanted)
          → take_rows nodes slice place wanted.next start ≡ o
          → ((more : Wanted) (depth from to : ℕ) (us : List ℕ)
          → Looking nodes depth from to us (nodes_asked more.next)
          → Seen depth from to (us ++ batch_visits left nodes slice place more))
          → Seen depth from to (us ++ (row_visits nodes slice wanted.next ++ when_done o (batch_visits left nodes slice place)))
      go (done more) e rest =
          let same : nodes_asked more.next ≡ row_finds nodes slice wanted.next = take-rows place wanted.next start more e in
          let l' : Looking nodes depth from to (us ++ row_visits nodes slice wanted.next) (nodes_asked more.next) = rw same next in
          rw append_assoc at (rest more depth from to (us ++ row_visits nodes slice wanted.next) l')
      go (refused_at a b) e rest = rw append-nil (looking_seen next)
      go (counted a b) e rest = rw append-nil (looking_seen next)

-- before the first batch
initial_looking :
    (nodes : List Row) (request : Request) (depth node : ℕ) (rows : List Row)
    → drop node nodes ≡ rows
    → Looking nodes depth node (node + rows_below depth rows)
    (initial_visits request depth node rows)
    (found_in (initial_entities request depth node rows))
initial_looking nodes request depth node rows e =
    let split = found_append (in_context request depth node rows) (at_roots request depth node rows) in
    let roots = roots_under nodes request depth node rows e in
    let apart = across_visits nodes request depth node rows e in
    let ahead = roots_ahead nodes request depth node rows e in
    record {
      once =
          pairs_append
          (pairs_map (λ m n h p. omega arith) (context_ascend nodes request depth node rows e))
          (pairs_map (λ m n h. off_distinct nodes m n (apart_off nodes m n (inl h))) ahead)
          (each_map (λ v h. each_map (λ r a. off_distinct nodes v r (apart_off nodes v r a)) h) apart);
      outside =
          rw split
          (each_append
          (each_map
          (λ n h. each_append h.0 (each_map (λ r a. apart_there nodes n r a) h.1))
          (each_both (context_outside nodes request depth node rows e) apart))
          (each_map
          (λ r h. each_append h.0 h.1)
          (each_both
          (each_swap (λ v r a. apart_back nodes v r a) (found_in (at_roots request depth node rows)) (across nodes request depth node rows e))
          (pairs_square
          (λ u. inl (omega arith))
          (λ m n h. apart_there nodes m n (inl h))
          (λ m n h. apart_back nodes m n (inl h))
          ahead))));
      apart = initial_apart nodes request depth node rows e;
      seen_in = each_append (context_under nodes request depth node rows e) roots;
      wait_in =
          rw split
          (each_append (sub_each (context_sub nodes request depth node rows) (context_under nodes request depth node rows e)) roots);
    }

-- K10: 'One ancestors walk visits no node of its ancestors trie twice', for any rows, loaded entities and request
pub ancestors_once :
    (request : Request) (nodes : List Row) (slice : List Loaded) (place : ℕ) (row : EntityRequest)
    → WalkedOnce nodes row.node (ancestors_visits request nodes slice place row)
ancestors_once request nodes slice place row = go (drop row.node nodes) refl
  where
    go :
        (rest : List Row)
        → drop row.node nodes ≡ rest
        → WalkedOnce nodes row.node
        (elim rest [
          | [] ↦ []
          | node ∷ rows ↦
              initial_visits request node.depth (suc row.node) rows
              ++ when_done
              (take_events place (initial_entities request node.depth (suc row.node) rows) (record { ids = []; next = [] }))
              (batch_visits most_steps nodes slice place)
        ])
    go [] e = record { once = no_pair; is-node = none_left }
    go (node ∷ rows) e = ended (walked (take_events place events start) refl)
      where
        events : List Event
        events = initial_entities request node.depth (suc row.node) rows

        start : Wanted
        start = record { ids = []; next = [] }

        to : ℕ
        to = suc row.node + rows_below node.depth rows

        us : List ℕ
        us = initial_visits request node.depth (suc row.node) rows

        looking : Looking nodes node.depth (suc row.node) to us (found_in events)
        looking = initial_looking nodes request node.depth (suc row.node) rows (drop_next nodes row.node e)

        walked :
            (o : LoadAnswer Wanted)
            → take_events place events start ≡ o
            → Seen nodes slice node.depth (suc row.node) to (us ++ when_done o (batch_visits most_steps nodes slice place))
        walked (done wanted) h =
            let same : nodes_asked wanted.next ≡ found_in events = take-events place events start wanted h in
            batch-visits nodes slice most_steps place wanted node.depth (suc row.node) to us (rw same looking)
        walked (refused_at a b) h = rw append-nil (looking_seen nodes slice looking)
        walked (counted a b) h = rw append-nil (looking_seen nodes slice looking)

        ended : {seen : List ℕ} → Seen nodes slice node.depth (suc row.node) to seen → WalkedOnce nodes row.node seen
        ended s = record {
          once = s.once;
          is-node =
              each_map
              (λ n h.
              record {
                root = h.root;
                is-root = rw e h.is-root;
                low = h.low;
                high = omega (arith, h.high, past_here nodes row.node node rows e);
                first = h.first;
                last = h.last;
              })
              s.is-node;
        }

-- Rows that wait in an ancestors walk, by their nodes: none waits twice, and all are nodes.

count_all : (n : ℕ) → count_up (λ k. true) n ≡ n
unfolding count_up
count_all zero = refl
count_all (suc n) = ap suc (count_all n)

below_length : (depth : ℕ) (rows : List Row) → rows_below depth rows ≤ length rows
unfolding rows_below
below_length depth [] = omega arith
below_length depth (row ∷ rows) = by_test (leb row.depth depth) (λ e. rw e (omega arith)) (λ e. rw e (omega (arith, below_length depth rows)))

pub record Waits (nodes : List Row) (ws : List ℕ) : Type 0 where
  depth : ℕ
  from : ℕ
  to : ℕ
  us : List ℕ
  looking : Looking nodes depth from to us ws
  inside : to ≤ length nodes

module _ (nodes : List Row) where
  -- those that are met first
  pub waits_first : (request : Request) (depth node : ℕ) → node ≤ length nodes → Waits nodes (found_in (initial_entities request depth node (drop node nodes)))
  waits_first request depth node h = record {
    depth = depth;
    from = node;
    to = node + rows_below depth (drop node nodes);
    us = initial_visits request depth node (drop node nodes);
    looking = initial_looking nodes request depth node (drop node nodes) refl;
    inside = omega (arith, below_length depth (drop node nodes), length-drop node nodes);
  }

  -- those that rows find
  pub waits_next : (slice : List Loaded) (rows : List EntityRequest) → Waits nodes (nodes_asked rows) → Waits nodes (row_finds nodes slice rows)
  waits_next slice rows w = record {
    depth = w.depth;
    from = w.from;
    to = w.to;
    us = w.us ++ row_visits nodes slice rows;
    looking = looking_next w.looking (row_steps nodes slice rows);
    inside = w.inside;
  }

  -- they are at most as many as the nodes
  pub waits_few : {ws : List ℕ} → Waits nodes ws → length ws ≤ length nodes
  waits_few {ws} w =
      let few = count_distinct (λ k. true) (length nodes) ws
      (pairs_map (λ m n h. off_distinct nodes m n (apart_off nodes m n h)) w.looking.apart)
      (each_map (λ n h. (omega (arith, h.last, h.high, past_after nodes n, w.inside), refl)) w.looking.wait_in) in
      omega (arith, few, count_all (length nodes))
