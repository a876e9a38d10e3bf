-- Laws of typing: what stays is in listing order and has types, typing it again changes nothing, the test for field children finds
-- any, and typing is a walk. No contract cites this file.
use Prim.Native.Nat.{ℕ, zero, suc, ◌+◌, ◌-◌, ◌^◌, ◌≤◌, ◌<◌}
use native.Mathlib.Omega.{arith}
use Rattle.std.specs.Prelude.{◌≡◌, Bool, true, cond, not, ◌&&◌, leb, ltb, eqb, length, take, get_or}
use Rattle.std.proofs.Math.Path.{refl, ap, subst}
use Rattle.std.proofs.Common.{sym, ◌∙◌, length-take-le}
use Rattle.std.proofs.Math.Bool.{false, and-eq-true_iff}
use Rattle.std.proofs.lemmas.Bool.{false≢true}
use mathlib.Core.List.{List, [], ◌∷◌, ◌++◌, map, append_assoc, append-nil}
use Rattle.std.proofs.Math.Option.{Option, none, some, none-ne-some}
use Rattle.std.proofs.lemmas.List.{get_or_at}
use borrow.Author.Tests.{ltb-true, leb-true, leb-false, lt-ltb, le-leb, lt-leb, eq-eqb, eqb-true, eqb-false, ne_eqb}
use Rattle.rules.specs.Numbers.{Answer, accepted, refused, and_then}
use Rattle.rules.specs.Facts.{by_test, by_option, and-false, compared, cond-true, accepted_same}
use Rattle.rules.specs.Tries.{
  Row,
  ids,
  kind_of,
  id_of,
  is_step,
  is_root,
  principal_of,
  action_of,
  resource_of,
  is_entry,
  untyped,
  is_row,
  kept_with,
  at,
  ordered,
  count,
  entries_in,
  nodes_in,
  manifest,
  lawful,
}
use Rattle.rules.proofs.TrieLaws.{Follows, Ordered, ordered_true, true_ordered, bare, length_at, above_at, take_above}
use Rattle.rules.specs.Walks.{Walked, walked, passes_over, walk}
use Rattle.rules.proofs.WalkLaws.{walk_passed, walk_next, walk_refused}
use Rattle.rules.specs.Listing.{row_in_front}
use Rattle.rules.proofs.ListingLaws.{refused_not}
use Rattle.rules.specs.Schema.{
  Item,
  Known,
  set_type,
  record_type,
  entity_type,
  last_type,
  entity_line,
  attribute_line,
  literal_line,
  context_line,
  section_of,
  most_of,
  within,
  key_fits,
  fits,
  beyond,
  unknown,
  lawful_items,
  from_type,
  attributes_of,
}
use Rattle.rules.specs.Paths.{kind_at, element_at, attributes_at, attribute_type}
use Rattle.rules.proofs.TypeLaws.{types_in, types_few}
use Rattle.rules.specs.Typing.{
  of_principal,
  of_resource,
  Shape,
  entity_shape,
  from_line,
  type_named,
  known,
  leaf,
  not_strict,
  shape_of,
  field_type,
  root_type,
  is_field,
  has_fields,
  Fate,
  stays,
  dropped,
  wrong,
  of_shape,
  fate,
  with_type,
  typed_from,
  typed,
  step_type,
  TypedTo,
  typed_to,
  type_row,
}
pub use Rattle.rules.specs.TypingLaws.{Types, type_above, below, Course, end, entry, stay, drop, Stood, higher, own, by_type, Covers, OfShape, IsTyped, no_type, has_type, behind}
unfoldable pub use Rattle.rules.specs.TypingLaws.{any_field, Small, Values, AllTyped}

-- rows that are accepted behind a row are that row and others that were accepted
before_accepted :
    {P : Type 0} (row : Row) (answer : Answer (List Row)) (rows : List Row)
    → row_in_front row answer ≡ accepted rows
    → ((others : List Row) → answer ≡ accepted others → row ∷ others ≡ rows → P)
    → P
before_accepted row (accepted others) rows e then = then others refl (accepted_same (row ∷ others) rows e)
before_accepted row (refused number place) rows e then = refused_not number place rows e

module _ (items : List Item) where
  -- what is accepted has such a course
  pub course_of :
      (rows : List Row) (request : ℕ) (above : Types) (place : ℕ) (out : List Row)
      → typed_from items request above place rows ≡ accepted out
      → Course items request above rows out
  unfolding typed_from
  course_of [] request above place out e = subst (Course items request above []) (accepted_same [] out e) end
  course_of (row ∷ rows) request above place out e =
      by_test (is_entry row)
      (λ first.
      before_accepted row _ out (rw first at e)
      (λ others f same.
      subst (Course items request above (row ∷ rows)) same (entry first (course_of rows row.step (some 0 ∷ []) place others f))))
      (λ node.
      go node (λ types others f. course_of rows request types (suc place) others f)
      (fate items request (type_above above row) row rows) refl)
    where
      go :
          is_entry row ≡ false
          → ((types : Types) (others : List Row)
          → typed_from items request types (suc place) rows ≡ accepted others
          → Course items request types rows others)
          → (f : Fate)
          → fate items request (type_above above row) row rows ≡ f
          → Course items request above (row ∷ rows) out
      go node more (stays t) q =
          before_accepted (with_type t row) _ out (rw (node, typed_from, q, typed_from) at e)
          (λ others f same.
          subst (Course items request above (row ∷ rows)) same (stay node q (more (below above row (some t)) others f)))
      go node more dropped q = drop node q (more (below above row none) out (rw (node, typed_from, q, typed_from) at e))
      go node more (wrong number) q = refused_not number place out (rw (node, typed_from, q, typed_from) at e)

  -- and what has such a course is accepted
  pub accepted_by :
      {request : ℕ} {above : Types} {rows out : List Row}
      → Course items request above rows out
      → (place : ℕ)
      → typed_from items request above place rows ≡ accepted out
  unfolding typed_from
  accepted_by end place = refl
  accepted_by (entry first more) place = rw (first, accepted_by more place)
  accepted_by (stay node q more) place = rw (node, typed_from, q, typed_from, accepted_by more (suc place))
  accepted_by (drop node q more) place = rw (node, typed_from, q, typed_from, accepted_by more (suc place))

-- The types kept.

-- a type among them is at a depth that they have
inside : (above : Types) (i u : ℕ) → get_or above i none ≡ some u → i < length above
inside [] i u e = absurd (none-ne-some u e)
inside (x ∷ above) zero u e = omega arith
inside (x ∷ above) (suc i) u e = omega (arith, inside above i u e)

stood :
    (above : Types) (d : ℕ) (type : Option ℕ) (i u : ℕ) → get_or (take d above ++ (type ∷ [])) i none ≡ some u → Stood above d type i u
stood above zero type zero u e = own e (λ _. refl)
stood above zero type (suc i) u e = absurd (none-ne-some u e)
stood [] (suc d) type zero u e = own e (λ h. omega arith)
stood [] (suc d) type (suc i) u e = absurd (none-ne-some u e)
stood (x ∷ above) (suc d) type zero u e = higher (omega arith) e
stood (x ∷ above) (suc d) type (suc i) u e =
    elim (stood above d type i u e) [
      | higher less h ↦ higher (omega arith) h
      | own h same ↦ own h (λ near. ap suc (same (omega arith)))
    ]

-- and both are there
still :
    (above : Types) (d : ℕ) (type : Option ℕ) (i u : ℕ)
    → i < d
    → get_or above i none ≡ some u
    → get_or (take d above ++ (type ∷ [])) i none ≡ some u
still above zero type i u less e = absurd (omega arith)
still [] (suc d) type i u less e = absurd (none-ne-some u e)
still (x ∷ above) (suc d) type zero u less e = e
still (x ∷ above) (suc d) type (suc i) u less e = still above d type i u (omega arith) e

own_type : (above : Types) (d : ℕ) (type : Option ℕ) → d ≤ length above → get_or (take d above ++ (type ∷ [])) d none ≡ type
own_type above d type near = get_or_at (take d above) type [] none d (length-take-le d above near)

-- Fates.

pub stays_not_dropped : {P : Type 0} (t : ℕ) → dropped ≡ stays t → P
stays_not_dropped t e = let z : ◌≡◌ {A = ℕ} 0 1 = cc in absurd (omega arith)

pub wrong_not_stays : {P : Type 0} (number t : ℕ) → wrong number ≡ stays t → P
wrong_not_stays number t e = let z : ◌≡◌ {A = ℕ} 0 1 = cc in absurd (omega arith)

-- what stays by its shape has the type that it was given, and stays without fields too
shape_type : (shape : Shape) (u t : ℕ) (children : Bool) → of_shape shape u children ≡ stays t → u ≡ t
shape_type (known attributes) u t children e = cc
shape_type leaf u t true e = wrong_not_stays 11 t e
shape_type leaf u t false e = cc
shape_type not_strict u t children e = wrong_not_stays 10 t e

shape_again :
    (shape : Shape) (u t : ℕ) (children others : Bool)
    → of_shape shape u children ≡ stays t
    → (shape ≡ leaf → others ≡ false)
    → of_shape shape u others ≡ stays t
shape_again (known attributes) u t children others e none_left = e
shape_again leaf u t true others e none_left = wrong_not_stays 11 t e
shape_again leaf u t false others e none_left = rw (none_left refl) e
shape_again not_strict u t children others e none_left = e

module _ (items : List Item) (request : ℕ) where
  -- what stays is below what stays
  pub typed_above :
      {P : Type 0} (o : Option ℕ) (row : Row) (rows : List Row) (t : ℕ)
      → fate items request o row rows ≡ stays t
      → ((u : ℕ) → o ≡ some u → P)
      → P
  typed_above none row rows t e then = stays_not_dropped t e
  typed_above (some u) row rows t e then = then u refl

  -- a field of a leaf is dropped
  leaf_field :
      (u : ℕ) (row : Row) (rows : List Row) (t : ℕ)
      → shape_of items request u ≡ leaf
      → fate items request (some u) row rows ≡ stays t
      → is_field row.step ≡ false
  leaf_field u row rows t of-leaf e =
      by_test (is_field row.step) (λ field. stays_not_dropped t (rw (field, of-leaf) at e)) (λ root. root)

  pub fate_step :
      (u : ℕ) (row : Row) (rows : List Row)
      → fate items request (some u) row rows
      ≡ by_type items request (step_type items request u row.step) (is_field row.step) (has_fields row rows)
  fate_step u row rows =
      by_test (is_field row.step)
      (λ field. by_option (field_type items request u (id_of row.step)) (λ q. rw (field, q)) (λ v q. rw (field, q)))
      (λ root. by_option (root_type items request row.step) (λ q. rw (root, q)) (λ v q. rw (root, q)))

  -- what stays has the type that its step leads to, and may stay by its shape
  pub stays_step :
      (u : ℕ) (row : Row) (rows : List Row) (t : ℕ)
      → fate items request (some u) row rows ≡ stays t
      → (step_type items request u row.step ≡ some t) × (of_shape (shape_of items request t) t (has_fields row rows) ≡ stays t)
  stays_step u row rows t e =
      by_option (step_type items request u row.step)
      (λ q.
      by_test (is_field row.step)
      (λ field. stays_not_dropped t (rw (fate_step u row rows, q, field) at e))
      (λ root. wrong_not_stays 9 t (rw (fate_step u row rows, q, root) at e)))
      (λ v q.
      let right : of_shape (shape_of items request v) v (has_fields row rows) ≡ stays t = rw (fate_step u row rows, q) at e in
      let same : v ≡ t = shape_type (shape_of items request v) v t (has_fields row rows) right in
      (rw same at q, rw same at right))

  -- what stays does so again in a row with its step and with other rows behind it, if they are no fields of a leaf
  pub fate_again :
      (u : ℕ) (row other : Row) (rows others : List Row) (t : ℕ)
      → other.step ≡ row.step
      → fate items request (some u) row rows ≡ stays t
      → (shape_of items request t ≡ leaf → has_fields other others ≡ false)
      → fate items request (some u) other others ≡ stays t
  fate_again u row other rows others t same e none_left =
      let (way, right) = stays_step u row rows t e in
      let its_way : step_type items request u other.step ≡ some t = rw same way in
      fate_step u other others
      ∙ rw its_way (shape_again (shape_of items request t) t t (has_fields row rows) (has_fields other others) right none_left)

  -- Below a leaf, or where nothing stays, no field stays.
  no_fields :
      {above : Types} {rows out : List Row}
      → Course items request above rows out
      → (row : Row)
      → ((u : ℕ) → get_or above row.depth none ≡ some u → shape_of items request u ≡ leaf)
      → has_fields row out ≡ false
  no_fields end row leaves = refl
  no_fields (entry {row = x} first more) row leaves =
      (and-false (eqb x.depth (suc row.depth)) (is_field x.step)).1
      (λ level. absurd (omega (arith, eqb-true x.depth 0 first, eqb-true x.depth (suc row.depth) level)))
  no_fields (stay {above = above} {row = x} {rows = rows} {t = t} node q more) row leaves =
      (and-false (eqb x.depth (suc row.depth)) (is_field x.step)).1
      (λ level.
      let depth : x.depth - 1 ≡ row.depth = omega (arith, eqb-true x.depth (suc row.depth) level) in
      typed_above (type_above above x) x rows t q
      (λ u h. leaf_field u x rows t (leaves u (rw (← depth) h)) (rw h at q)))
  no_fields (drop {row = x} node q more) row leaves =
      no_fields more row
      (λ u e.
      elim (stood _ x.depth none row.depth u e) [
        | higher less h ↦ leaves u h
        | own h same ↦ absurd (none-ne-some u h)
      ])

module _ (items : List Item) where
  -- what stays is typed again as it was
  typed_again :
      {request : ℕ} {above : Types} {rows out : List Row}
      → Course items request above rows out
      → (others : Types)
      → Covers above others
      → Course items request others out out
  typed_again end others covers = end
  typed_again (entry first more) others covers = entry first (typed_again more (some 0 ∷ []) (λ i u e. e))
  typed_again (drop {above = above} {row = row} node q more) others covers =
      typed_again more others
      (λ i u e.
      elim (stood above row.depth none i u e) [
        | higher less h ↦ covers i u h
        | own h same ↦ absurd (none-ne-some u h)
      ])
  typed_again (stay {request = request} {above = above} {row = row} {rows = rows} {out = out} {t = t} node q more) others covers =
      typed_above items request (type_above above row) row rows t q
      (λ u h.
      let near : row.depth ≤ length above = omega (arith, inside above (row.depth - 1) u h) in
      let close : row.depth ≤ length others = omega (arith, inside others (row.depth - 1) u (covers (row.depth - 1) u h)) in
      stay node
      (rw (covers (row.depth - 1) u h)
      (fate_again items request u row (with_type t row) rows out t refl (rw h at q)
      (λ of-leaf.
      no_fields items request more (with_type t row)
      (λ v e.
      elim (stood above row.depth (some t) row.depth v e) [
        | higher less g ↦ absurd (omega arith)
        | own g same ↦ let it : t ≡ v = cc in rw (← it) of-leaf
      ]))))
      (typed_again more (below others row (some t))
      (λ i v e.
      elim (stood above row.depth (some t) i v e) [
        | higher less g ↦ still others row.depth (some t) i v less (covers i v g)
        | own g same ↦ rw (same near) (own_type others row.depth (some t) close ∙ g)
      ])))

  -- typing what stays gives the same rows
  pub typing_again : (rows out : List Row) → typed items rows ≡ accepted out → typed items out ≡ accepted out
  typing_again rows out e = accepted_by items (typed_again (course_of items rows 0 [] 0 out e) [] (λ i u h. h)) 0

-- Listing order. Types are left aside: a row without its type is as lawful as with it.
bare_row : (row : Row) → is_row row ≡ true → is_row (bare row) ≡ true
bare_row row h =
    by_test (is_entry row)
    (λ e.
    let (small, plain) = (and-eq-true_iff (ltb row.step (ids ^ 3)) _).0 (rw e at h) in
    let (unmarked, _) = (and-eq-true_iff (not row.mark) _).0 plain in
    simp (e, small, unmarked))
    (λ e.
    let (of-step, _) = (and-eq-true_iff (cond (eqb row.depth 1) (is_root row.step) (is_step row.step)) _).0 (rw e at h) in
    simp (e, of-step))

-- a row that may stay: an entry, or a node below one that stays
pub data MayStay (above : Types) (row : Row) : Type 0 where
  first : is_entry row ≡ true → MayStay above row
  under : (u : ℕ) → type_above above row ≡ some u → MayStay above row

-- The place s of the last row and the place t of the last that stays: what may stay and may come after s may come after t, at the same
-- place.
pub record Tracks (s t : List ℕ) (above : Types) : Type 0 where
  pub follow : (row : Row) → MayStay above row → Follows s row → Follows t row
  pub agree : (row : Row) → MayStay above row → Follows s row → take row.depth s ≡ take row.depth t

pub tracks_same : (s : List ℕ) (above : Types) → Tracks s s above
tracks_same s above = record { follow = λ row _ f. f; agree = λ row _ _. refl }

-- what comes after a row x, no deeper than it, could have come in its place
follows_back : (s : List ℕ) (x y : Row) → Follows s x → y.depth ≤ x.depth → Follows (at s x) y → Follows s y
follows_back s x y fx no_deeper fy =
    record {
      near = omega (arith, fx.near);
      past =
          λ h.
          let length-x = length_at s x fx.near in
          compared y.depth x.depth
          (λ less. omega (arith, above_at s x y.depth fx.near less, fy.past (omega arith)))
          (λ level.
          let same : y.depth ≡ x.depth = omega arith in
          let own_step : get_or (at s x) y.depth 0 ≡ x.step =
          get_or_at (take x.depth s) x.step [] 0 y.depth (length-take-le x.depth s fx.near ∙ sym same) in
          let later : x.step < y.step = omega (arith, own_step, fy.past (omega arith)) in
          rw same (omega (arith, fx.past (omega arith))));
    }

-- what may stay after a dropped row is no deeper, and might have stayed in its place
may_back : (above : Types) (x row : Row) → MayStay (below above x none) row → (row.depth ≤ x.depth) × MayStay above row
may_back above x row (first e) = (omega (arith, eqb-true row.depth 0 e), first e)
may_back above x row (under u h) =
    elim (stood above x.depth none (row.depth - 1) u h) [
      | higher less g ↦ (omega arith, under u g)
      | own g same ↦ absurd (none-ne-some u g)
    ]

-- a dropped row
pub tracks_dropped :
    (s t : List ℕ) (above : Types) (x : Row)
    → Follows s x
    → Tracks s t above
    → Tracks (at s x) t (below above x none)
tracks_dropped s t above x fx tracks =
    record {
      follow =
          λ row may f.
          let (no_deeper, before) = may_back above x row may in
          tracks.follow row before (follows_back s x row fx no_deeper f);
      agree =
          λ row may f.
          let (no_deeper, before) = may_back above x row may in
          take_above s x row.depth fx.near no_deeper ∙ tracks.agree row before (follows_back s x row fx no_deeper f);
    }

-- a row that stays
pub tracks_stayed :
    (s t : List ℕ) (above later : Types) (row : Row)
    → MayStay above row
    → Follows s row
    → Tracks s t above
    → Tracks (at s row) (at t row) later
tracks_stayed s t above later row may f tracks = rw (tracks.agree row may f) (tracks_same (at t row) later)

bare_follows : (t : List ℕ) (row : Row) → Follows t row → Follows t (bare row)
bare_follows t row f = record { near = f.near; past = f.past }

module _ (items : List Item) where
  kept_ordered :
      {request : ℕ} {above : Types} {rows out : List Row}
      → Course items request above rows out
      → (s t : List ℕ)
      → Tracks s t above
      → Ordered s rows
      → Ordered t (map bare out)
  unfolding Ordered
  kept_ordered end s t tracks o = tt
  kept_ordered (entry {above = above} {row = row} is-first more) s t tracks o = (
    bare_row row o.0,
    bare_follows t row (tracks.follow row (first is-first) o.1),
    o.2,
    kept_ordered more (at s row) (at t row) (tracks_stayed s t above _ row (first is-first) o.1 tracks) o.3,
  )
  kept_ordered (stay {request = request} {above = above} {row = row} {rows = rows} {t = type} node q more) s t tracks o =
      let may : MayStay above row = typed_above items request (type_above above row) row rows type q under in (
        bare_row row o.0,
        bare_follows t row (tracks.follow row may o.1),
        o.2,
        kept_ordered more (at s row) (at t row) (tracks_stayed s t above _ row may o.1 tracks) o.3,
      )
  kept_ordered (drop {above = above} {row = row} node q more) s t tracks o =
      kept_ordered more (at s row) t (tracks_dropped s t above row o.1 tracks) o.3

  -- what stays of rows in listing order is in listing order
  pub typing_ordered : (rows out : List Row) → ordered [] rows ≡ true → typed items rows ≡ accepted out → ordered [] (map bare out) ≡ true
  typing_ordered rows out o e =
      true_ordered [] (map bare out) (kept_ordered (course_of items rows 0 [] 0 out e) [] [] (tracks_same [] []) (ordered_true [] rows o))

-- Field children. Where any row below a node is a field of it, the next row is.

-- behind a child that is a root there are only roots
root_past : (m n : ℕ) → is_field m ≡ false → m < n → is_field n ≡ false
root_past m n root less = ne_eqb (kind_of n) 0 (λ e. omega (arith, eqb-false (kind_of m) 0 root))

roots_follow :
    (s : List ℕ) (depth : ℕ) (rows : List Row)
    → suc depth < length s
    → is_field (get_or s (suc depth) 0) ≡ false
    → Ordered s rows
    → any_field depth rows ≡ false
unfolding any_field Ordered
roots_follow s depth [] deep root o = refl
roots_follow s depth (row ∷ rows) deep root o =
    let near = o.1.near in
    let long = length_at s row near in
    let rest = roots_follow (at s row) depth rows in
    by_test (leb row.depth depth) (λ e. rw e)
    (λ below-it.
    let deeper : depth < row.depth = leb-false row.depth depth below-it in
    by_test (eqb row.depth (suc depth))
    (λ level.
    let same : row.depth ≡ suc depth = eqb-true row.depth (suc depth) level in
    let own_step : get_or (at s row) (suc depth) 0 ≡ row.step =
    get_or_at (take row.depth s) row.step [] 0 (suc depth) (length-take-le row.depth s near ∙ same) in
    let later : get_or s (suc depth) 0 < row.step = rw (← same) (o.1.past (omega arith)) in
    let is-root : is_field row.step ≡ false = root_past (get_or s (suc depth) 0) row.step root later in
    rw (below-it, level, is-root) (rest (omega arith) (rw own_step is-root) o.3))
    (λ other.
    let far : suc depth < row.depth = omega (arith, eqb-false row.depth (suc depth) other) in
    rw (below-it, other) (rest (omega arith) (rw (above_at s row (suc depth) near far) root) o.3)))

pub next_field : (s : List ℕ) (row : Row) (rows : List Row) → Ordered s (row ∷ rows) → any_field row.depth rows ≡ has_fields row rows
unfolding any_field Ordered
next_field s row [] o = refl
next_field s row (next ∷ rows) o =
    let near = o.1.near in
    let long = length_at s row near in
    let close = o.3.1.near in
    by_test (leb next.depth row.depth)
    (λ e. rw (e, ne_eqb next.depth (suc row.depth) (λ h. omega (arith, leb-true next.depth row.depth e))))
    (λ below-it.
    let level : next.depth ≡ suc row.depth = omega (arith, leb-false next.depth row.depth below-it) in
    let own_step : get_or (at (at s row) next) (suc row.depth) 0 ≡ next.step =
    get_or_at (take next.depth (at s row)) next.step [] 0 (suc row.depth) (length-take-le next.depth (at s row) close ∙ level) in
    by_test (is_field next.step)
    (λ field. rw (below-it, eq-eqb next.depth (suc row.depth) level, field))
    (λ root.
    rw (below-it, eq-eqb next.depth (suc row.depth) level, root)
    (roots_follow (at (at s row) next) row.depth rows
    (omega (arith, length_at (at s row) next close))
    (rw own_step root)
    o.3.3)))

-- The types given. In a lawful schema attributes, literals and actions have types below 1,024.

-- what a line that fits says of its value
small_value :
    (seen : Known) (it : Item)
    → seen.types ≤ 1024
    → seen.bound ≤ 1024
    → fits seen it ≡ true
    → entity_line < it.tag
    → it.value < 1024
small_value seen it few bound fit tag =
    by_test (eqb it.tag attribute_line)
    (λ e.
    let (_, tests) = (and-eq-true_iff (ltb 0 seen.room) _).0 (rw e at fit) in
    let (_, low) = (and-eq-true_iff (leb seen.field it.key) _).0 tests in
    omega (arith, ltb-true it.value seen.bound low))
    (λ e.
    let no_set : eqb it.tag set_type ≡ false = ne_eqb it.tag set_type (λ h. omega arith) in
    let past : leb it.tag attribute_line ≡ false = lt-leb it.tag attribute_line (omega (arith, eqb-false it.tag attribute_line e)) in
    let (_, tests) = (and-eq-true_iff (leb seen.section (section_of it.tag)) _).0 (rw e at fit) in
    let (_, more) = (and-eq-true_iff (ltb (within seen (section_of it.tag)).lines (most_of (section_of it.tag))) _).0 tests in
    let (_, value) = (and-eq-true_iff (key_fits (within seen (section_of it.tag)) it) _).0 more in
    let low : ltb it.value seen.types ≡ true = rw (no_set, past) at value in
    omega (arith, ltb-true it.value seen.types low))

-- the bounds of a schema after a line
types_left : (seen : Known) (it : Item) (items : List Item) → (beyond seen it).types + types_in items ≡ seen.types + types_in (it ∷ items)
unfolding types_in
types_left seen it items =
    by_test (eqb it.tag attribute_line)
    (λ e. rw (e, lt-leb it.tag last_type (omega (arith, eqb-true it.tag attribute_line e))))
    (λ e. by_test (leb it.tag last_type) (λ f. rw (e, f) (omega arith)) (λ f. rw (e, f)))

bound_left : (seen : Known) (it : Item) → seen.types ≤ 1024 → seen.bound ≤ 1024 → (beyond seen it).bound ≤ 1024
bound_left seen it few bound = by_test (eqb it.tag attribute_line) (λ e. rw e bound) (λ e. rw e few)

pub small_items :
    (seen : Known) (items : List Item)
    → seen.types + types_in items ≤ 1024
    → seen.bound ≤ 1024
    → lawful_items seen items ≡ true
    → Small items
unfolding Small lawful_items
small_items seen [] few bound lawful = tt
small_items seen (it ∷ items) few bound lawful =
    let (fit, rest) = (cond-true (fits seen it) (lawful_items (beyond seen it) items)).0 lawful in (
      small_value seen it (omega arith) bound fit,
      small_items (beyond seen it) items (rw (types_left seen it items) few) (bound_left seen it (omega arith) bound) rest,
    )

pub lawful_small : (items : List Item) → lawful_items unknown items ≡ true → Small items
lawful_small items lawful = small_items unknown items (omega (arith, types_few items lawful)) (omega arith) lawful

-- so have the lines from one on, and what is found there
small_from : (tag key : ℕ) (items : List Item) → Small items → Small (from_line tag key items)
unfolding Small from_line
small_from tag key [] small = tt
small_from tag key (it ∷ items) small =
    let rest = small_from tag key items small.1 in
    by_test (eqb it.tag tag && eqb it.key key) (λ e. rw e small) (λ e. rw e rest)

small_named : (tag key : ℕ) (items : List Item) (v : ℕ) → entity_line < tag → Small items → type_named tag key items ≡ some v → v < 1024
unfolding Small from_line
small_named tag key [] v past small e = absurd (none-ne-some v e)
small_named tag key (it ∷ items) v past small e =
    let rest = small_named tag key items v past small.1 in
    by_test (eqb it.tag tag && eqb it.key key)
    (λ here.
    let given : some it.value ≡ some v = rw (here, type_named) at e in
    let same : it.value ≡ v = cc in
    let (is-tag, _) = (and-eq-true_iff (eqb it.tag tag) _).0 here in
    rw (← same) (small.0 (omega (arith, eqb-true it.tag tag is-tag))))
    (λ later. rest (rw (later, type_named) at e))

small_type : (t : ℕ) (items lines : List Item) → Small items → from_type t items ≡ some lines → Small lines
unfolding Small from_type
small_type t [] lines small e = absurd (none-ne-some lines e)
small_type t (it ∷ items) lines small e =
    let rest = small_type t items lines small.1 in
    by_test (leb it.tag last_type && eqb it.key t)
    (λ here.
    let given : some (it ∷ items) ≡ some lines = rw here at e in
    let same : it ∷ items ≡ lines = cc in
    subst Small same small)
    (λ later. rest (rw later at e))

small_attributes : (items : List Item) → Small items → Values (attributes_of items)
unfolding Small Values attributes_of
small_attributes [] small = tt
small_attributes (it ∷ items) small =
    let rest = small_attributes items small.1 in
    by_test (eqb it.tag attribute_line)
    (λ e. rw e (small.0 (omega (arith, eqb-true it.tag attribute_line e)), rest))
    (λ e. rw e tt)

small_given : (f v : ℕ) (attributes : List Item) → Values attributes → attribute_type f attributes ≡ some v → v < 1024
unfolding Values attribute_type
small_given f v [] values e = absurd (none-ne-some v e)
small_given f v (a ∷ more) values e =
    let rest = small_given f v more values.1 in
    by_test (eqb a.key f)
    (λ here.
    let given : some a.value ≡ some v = rw here at e in
    let same : a.value ≡ v = cc in
    rw (← same) values.0)
    (λ later. rest (rw later at e))

module _ (items : List Item) (small : Small items) where
  attributes_small : (t : ℕ) → Values (attributes_at items t)
  unfolding Small Values
  attributes_small t = go (from_type t items) refl
    where
      go : (o : Option (List Item)) → from_type t items ≡ o → Values (attributes_at items t)
      go none q = rw (q, attributes_at) tt
      go (some []) q = rw (q, attributes_at) tt
      go (some (it ∷ more)) q = rw (q, attributes_at) (small_attributes more (small_type t items (it ∷ more) small q).1)

  entity_small : (name : ℕ) → OfShape (entity_shape items name)
  unfolding Small
  entity_small name =
      by_test (ltb name ids)
      (λ e. rw e (go (from_line entity_line name items) (small_from entity_line name items small)))
      (λ e. rw e tt)
    where
      go : (lines : List Item) → Small lines → OfShape (elim lines [ [] ↦ not_strict | it ∷ more ↦ known (attributes_of more) ])
      go [] h = tt
      go (it ∷ more) h = small_attributes more h.1

  shape_small : (request t : ℕ) → OfShape (shape_of items request t)
  shape_small request t =
      by_test (eqb t of_principal) (λ e. rw e (entity_small (principal_of request)))
      (λ p.
      by_test (eqb t of_resource) (λ e. rw (p, e) (entity_small (resource_of request)))
      (λ r.
      by_test (ltb (kind_at items t) record_type) (λ e. rw (p, r, e) tt)
      (λ l.
      by_test (ltb (kind_at items t) entity_type) (λ e. rw (p, r, l, e) (attributes_small t))
      (λ k.
      by_test (eqb (kind_at items t) entity_type)
      (λ e. rw (p, r, l, k, e) (entity_small (element_at items t)))
      (λ e. rw (p, r, l, k, e) tt)))))

  pub field_small : (request t f v : ℕ) → field_type items request t f ≡ some v → v < 1024
  field_small request t f v e = go (shape_of items request t) (shape_small request t) e
    where
      go :
          (shape : Shape)
          → OfShape shape
          → elim shape [ known attributes ↦ attribute_type f attributes | leaf ↦ none | not_strict ↦ none ] ≡ some v
          → v < 1024
      go (known attributes) values h = small_given f v attributes values h
      go leaf values h = absurd (none-ne-some v h)
      go not_strict values h = absurd (none-ne-some v h)

  pub root_small : (request step v : ℕ) → root_type items request step ≡ some v → v < 1026
  root_small request step v e =
      by_test (eqb (kind_of step) 1)
      (λ p. let given : some 1024 ≡ some v = rw p at e in let same : 1024 ≡ v = cc in omega arith)
      (λ p.
      by_test (eqb (kind_of step) 2)
      (λ a. omega (arith, small_named literal_line (action_of request) items v (omega arith) small (rw (p, a) at e)))
      (λ a.
      by_test (eqb (kind_of step) 3)
      (λ r. let given : some 1025 ≡ some v = rw (p, a, r) at e in let same : 1025 ≡ v = cc in omega arith)
      (λ r.
      by_test (eqb (kind_of step) 4)
      (λ c. omega (arith, small_named context_line (action_of request) items v (omega arith) small (rw (p, a, r, c) at e)))
      (λ c. omega (arith, small_named literal_line (id_of step) items v (omega arith) small (rw (p, a, r, c) at e))))))

  pub fate_small :
      (request : ℕ) (o : Option ℕ) (row : Row) (rows : List Row) (t : ℕ) → fate items request o row rows ≡ stays t → t < 1026
  fate_small request none row rows t e = stays_not_dropped t e
  fate_small request (some u) row rows t e =
      let (way, _) = stays_step items request u row rows t e in
      by_test (is_field row.step)
      (λ field. omega (arith, field_small request u (id_of row.step) t (rw field at way)))
      (λ root. root_small request row.step t (rw root at way))

pub entry_untyped : (row : Row) → is_row row ≡ true → is_entry row ≡ true → row.type ≡ none
entry_untyped row h e =
    let (_, plain) = (and-eq-true_iff (ltb row.step (ids ^ 3)) _).0 (rw e at h) in
    let (_, none_there) = (and-eq-true_iff (not row.mark) _).0 plain in
    go row.type none_there
  where
    go : (o : Option ℕ) → untyped o ≡ true → o ≡ none
    go none h = refl
    go (some t) h = absurd (false≢true h)

module _ (items : List Item) where
  kept_typed :
      Small items
      → {request : ℕ} {above : Types} {rows out : List Row}
      → Course items request above rows out
      → (s : List ℕ)
      → Ordered s rows
      → AllTyped out
  unfolding Ordered AllTyped
  kept_typed small end s o = tt
  kept_typed small (entry {row = row} is-first more) s o =
      (no_type is-first (entry_untyped row o.0 is-first), kept_typed small more (at s row) o.3)
  kept_typed small (stay {request = request} {above = above} {row = row} {rows = rows} {t = t} node q more) s o =
      (has_type t node refl (fate_small items small request (type_above above row) row rows t q), kept_typed small more (at s row) o.3)
  kept_typed small (drop {row = row} node q more) s o = kept_typed small more (at s row) o.3

  -- what stays has types
  pub typing_types :
      lawful_items unknown items ≡ true → (rows out : List Row) → ordered [] rows ≡ true → typed items rows ≡ accepted out → AllTyped out
  typing_types lawful rows out o e =
      kept_typed (lawful_small items lawful) (course_of items rows 0 [] 0 out e) [] (ordered_true [] rows o)

  -- entries stay, and nodes do not become more
  kept_entries : {request : ℕ} {above : Types} {rows out : List Row} → Course items request above rows out → entries_in out ≡ entries_in rows
  unfolding count
  kept_entries end = refl
  kept_entries (entry is-first more) = rw (is-first, kept_entries more)
  kept_entries (stay node q more) = rw (node, kept_entries more)
  kept_entries (drop node q more) = rw (node, kept_entries more)

  pub kept_nodes : {request : ℕ} {above : Types} {rows out : List Row} → Course items request above rows out → nodes_in out ≤ nodes_in rows
  unfolding count
  kept_nodes end = omega arith
  kept_nodes (entry is-first more) = rw is-first (kept_nodes more)
  kept_nodes (stay node q more) = rw node (omega (arith, kept_nodes more))
  kept_nodes (drop node q more) = rw node (omega (arith, kept_nodes more))

  pub typing_entries : (rows out : List Row) → typed items rows ≡ accepted out → entries_in out ≡ entries_in rows
  typing_entries rows out e = kept_entries (course_of items rows 0 [] 0 out e)

  pub typing_nodes : (rows out : List Row) → typed items rows ≡ accepted out → nodes_in out ≤ nodes_in rows
  typing_nodes rows out e = kept_nodes (course_of items rows 0 [] 0 out e)

-- What stays of a lawful manifest is lawful: its types are types of the schema or one of the two more.

row_typed : (row : Row) → IsTyped row → is_row (bare row) ≡ true → is_row row ≡ true
row_typed row (no_type is-first none_there) h =
    let (small, plain) = (and-eq-true_iff (ltb row.step (ids ^ 3)) _).0 (rw is-first at h) in
    let (unmarked, _) = (and-eq-true_iff (not row.mark) _).0 plain in
    simp (is-first, none_there, small, unmarked)
row_typed row (has_type t node given small) h =
    let (of-step, _) = (and-eq-true_iff (cond (eqb row.depth 1) (is_root row.step) (is_step row.step)) _).0 (rw node at h) in
    simp (node, given, of-step, lt-ltb t 1026 small)

rows_typed : (s : List ℕ) (rows : List Row) → AllTyped rows → Ordered s (map bare rows) → Ordered s rows
unfolding AllTyped Ordered
rows_typed s [] types o = tt
rows_typed s (row ∷ rows) types o = (
  row_typed row types.0 o.0,
  record { near = o.1.near; past = o.1.past },
  o.2,
  rows_typed (at s row) rows types.1 o.3,
)

module _ (items : List Item) (of-schema : lawful_items unknown items ≡ true) where
  pub typing_in_order : (rows out : List Row) → ordered [] rows ≡ true → typed items rows ≡ accepted out → ordered [] out ≡ true
  typing_in_order rows out o e =
      true_ordered [] out
      (rows_typed [] out (typing_types items of-schema rows out o e) (ordered_true [] (map bare out) (typing_ordered items rows out o e)))

  pub typing_lawful : (rows out : List Row) → lawful manifest rows ≡ true → typed items rows ≡ accepted out → lawful manifest out ≡ true
  typing_lawful rows out h e =
      let (o, limits) = (and-eq-true_iff (ordered [] rows) _).0 h in
      let (entries, nodes) = (and-eq-true_iff (leb (entries_in rows) 64) _).0 limits in
      let few : nodes_in out ≤ 4096 = omega (arith, leb-true (nodes_in rows) 4096 nodes, typing_nodes items rows out e) in
      simp (typing_in_order rows out o e, typing_entries items rows out e, entries, le-leb (nodes_in out) 4096 few)

-- The walk over rows (Walks) types as the plain recursion does, whatever the rows.

-- a row that is passed over has no type above it
pub passed_untyped : (above : Types) (d : ℕ) → passes_over (take (suc d) above) ≡ true → get_or above d none ≡ none
passed_untyped [] d e = refl
passed_untyped (none ∷ above) zero e = refl
passed_untyped (some t ∷ above) zero e = absurd (false≢true e)
passed_untyped (x ∷ []) (suc d) e = refl
passed_untyped (none ∷ y ∷ above) (suc d) e = passed_untyped (y ∷ above) d e
passed_untyped (some t ∷ y ∷ above) (suc d) e = passed_untyped (y ∷ above) d e

-- the rows that a walk of typing ends with
abbrev ended : Answer (Walked ℕ TypedTo) → Answer (List Row)
ended answer = and_then answer (λ w. accepted w.state.rows)

behind_more :
    (done : List Row) (row : Row) (answer : Answer (List Row))
    → behind (done ++ (row ∷ [])) answer ≡ behind done (row_in_front row answer)
behind_more done row (accepted out) = rw append_assoc
behind_more done row (refused number place) = refl

module _ (items : List Item) where
  -- from a row on: the place among rows is the number of nodes and of entries so far
  walked_on :
      (rows : List Row) (request : ℕ) (above : Types) (place p entries : ℕ) (done : List Row)
      → p ≡ place + entries
      → ended (walk (type_row items) p rows (walked above (typed_to entries request done)))
      ≡ behind done (typed_from items request above place rows)
  unfolding walk typed_from
  walked_on [] request above place p entries done e = rw append-nil
  walked_on (row ∷ rows) request above place p entries done e =
      by_test (is_entry row)
      (λ first.
      let top : row.depth ≡ 0 = eqb-true row.depth 0 first in
      let kept : kept_with above row (some 0) ≡ some 0 ∷ [] = rw top in
      let looks : passes_over (take row.depth above) ≡ false = rw top in
      let says : type_row items p row rows w ≡ accepted (some 0, typed_to (entries + 1) row.step (done ++ (row ∷ []))) = rw first in
      ap ended (walk_next (type_row items) p row rows w looks says)
      ∙ rw (kept, first) (
      walked_on rows row.step (some 0 ∷ []) place (p + 1) (entries + 1) (done ++ (row ∷ [])) (omega arith)
      ∙ behind_more done row (typed_from items row.step (some 0 ∷ []) place rows)))
      (λ node.
      by_test (passes_over (take row.depth above))
      (λ over.
      let deep : row.depth ≡ suc (row.depth - 1) = omega (arith, eqb-false row.depth 0 node) in
      let nothing : type_above above row ≡ none = passed_untyped above (row.depth - 1) (rw (← deep) over) in
      ap ended (walk_passed (type_row items) p row rows w over)
      ∙ rw (node, typed_from, nothing, typed_from)
      (walked_on rows request (below above row none) (suc place) (p + 1) entries done (omega arith)))
      (λ looks.
      go node looks (λ types later. walked_on rows request types (suc place) (p + 1) entries later (omega arith))
      (fate items request (type_above above row) row rows) refl))
    where
      w : Walked ℕ TypedTo
      w = walked above (typed_to entries request done)

      go :
          is_entry row ≡ false
          → passes_over (take row.depth above) ≡ false
          → ((types : Types) (later : List Row)
          → ended (walk (type_row items) (p + 1) rows (walked types (typed_to entries request later)))
          ≡ behind later (typed_from items request types (suc place) rows))
          → (f : Fate)
          → fate items request (type_above above row) row rows ≡ f
          → ended (walk (type_row items) p (row ∷ rows) w) ≡ behind done (typed_from items request above place (row ∷ rows))
      go node looks more (stays t) q =
          let types : Types = below above row (some t) in
          let later : List Row = done ++ (with_type t row ∷ []) in
          let says : type_row items p row rows w ≡ accepted (some t, typed_to entries request later) = rw (node, q) in
          ap ended (walk_next (type_row items) p row rows w looks says)
          ∙ rw (node, typed_from, q, typed_from)
          (more types later ∙ behind_more done (with_type t row) (typed_from items request types (suc place) rows))
      go node looks more dropped q =
          let says : type_row items p row rows w ≡ accepted (none, w.state) = rw (node, q) in
          ap ended (walk_next (type_row items) p row rows w looks says)
          ∙ rw (node, typed_from, q, typed_from) (more (below above row none) done)
      go node looks more (wrong number) q =
          let count : p - entries ≡ place = omega arith in
          let says : type_row items p row rows w ≡ refused number place = rw (node, q, count) in
          ap ended (walk_refused (type_row items) p row rows w looks says)
          ∙ rw (node, typed_from, q, typed_from)

  -- typing is that walk
  pub typed_walked :
      (rows : List Row)
      → typed items rows ≡ and_then (walk (type_row items) 0 rows (walked [] (typed_to 0 0 []))) (λ w. accepted w.state.rows)
  typed_walked rows = sym (walked_on rows 0 [] 0 0 0 [] (omega arith) ∙ nothing_behind (typed items rows))
    where
      nothing_behind : (answer : Answer (List Row)) → behind [] answer ≡ answer
      nothing_behind (accepted out) = refl
      nothing_behind (refused number place) = refl
