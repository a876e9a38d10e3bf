-- Laws of typing by places: which stay and with which types, what is left of the listing, and that typing goes through a union. No
-- contract cites this file.
use Rattle.std.specs.Prelude.{ℕ, zero, suc, ◌+◌, ◌-◌, ◌≤◌, ◌<◌, ◌≡◌, ◌⊎◌, ◌↔◌, Bool, true, false, cond, eqb, length, take, get_or}
use Rattle.std.proofs.Common.{arith, ◌∙◌, inl, inr, ⊎_elim, take_all, eqb-true}
use Rattle.std.proofs.Math.Path.{refl, sym, ap}
use Rattle.std.proofs.Math.Logic.{⊎_map}
use mathlib.Core.Logic.Iff
use Rattle.std.proofs.lemmas.Bool.{false≢true, eqb-false}
use mathlib.Core.List.{List, [], ◌∷◌, ◌++◌, map}
use Rattle.std.proofs.Math.Option.{Option, none, some, some-injective}
use Rattle.rules.specs.Numbers.{accepted}
use Rattle.rules.specs.Facts.{by_test, by_option, compared, and-false}
use Rattle.rules.specs.Tries.{Row, is_entry, at, Has, Marked, ordered, count, nodes_in, joined, union}
use Rattle.rules.proofs.WalkLaws.{kept_length, kept_own, kept_above, kept_down}
use Rattle.rules.proofs.TrieLaws.{
  Ordered,
  ordered_true,
  length_at,
  above_at,
  take_above,
  Stands,
  always,
  has_stands,
  marked_stands,
  subset_nodes,
  place_past,
  no_deeper,
  ordered_past,
  at_same,
  bare,
  same_rows,
  union_ordered,
  union_has,
  union_marked,
  Before,
  SamePlace,
  Turns,
  no_left,
  no_right,
  left,
  right,
  both,
  union_turns,
}
use Rattle.rules.specs.Listing.{line_of, fields_for, listing, ◌>>=◌}
use Rattle.rules.specs.Schema.{Item, unknown, lawful_items}
use Rattle.rules.specs.Typing.{
  shape_of,
  is_field,
  has_fields,
  stays,
  dropped,
  wrong,
  of_shape,
  Shape,
  known,
  leaf,
  not_strict,
  fate,
  with_type,
  typed,
  step_type,
  type_after,
  way_type,
  known_way,
}
use Rattle.rules.proofs.TypingLaws.{
  Types,
  type_above,
  below,
  Course,
  end,
  entry,
  stay,
  drop,
  course_of,
  accepted_by,
  stays_not_dropped,
  wrong_not_stays,
  fate_step,
  stays_step,
  fate_again,
  typed_above,
  MayStay,
  first,
  under,
  Tracks,
  tracks_same,
  tracks_dropped,
  tracks_stayed,
  entry_untyped,
  kept_nodes,
  typing_nodes,
  typing_in_order,
}
pub use Rattle.rules.specs.TypingPlaceLaws.{Ways}

-- Ways.

-- the type after one step more
step_after :
    (items : List Item) (request t : ℕ) (steps : List ℕ) (step : ℕ)
    → type_after items request t (steps ++ (step ∷ [])) ≡ type_after items request t steps >>= (λ u. step_type items request u step)
unfolding type_after
step_after items request t [] step = by_option (step_type items request t step) (λ q. rw q) (λ u q. rw q)
step_after items request t (s ∷ steps) step =
    by_option (step_type items request t s) (λ q. rw q) (λ u q. rw q (step_after items request u steps step))

ways_first : (items : List Item) → Ways items 0 [] []
ways_first items = record { long = refl; opened = λ h. omega arith; ways = λ i h. absurd (omega arith) }

ways_entry : (items : List Item) (request : ℕ) → Ways items request (request ∷ []) (some 0 ∷ [])
unfolding type_after
ways_entry items request = record { long = refl; opened = λ h. refl; ways = go }
  where
    go : (i : ℕ) → i < 1 → get_or {A = Option ℕ} (some 0 ∷ []) i none ≡ way_type items (take (suc i) (request ∷ []))
    go zero h = refl
    go (suc i) h = absurd (omega arith)

-- what is wrong is not dropped, and by its shape nothing is
wrong_not_dropped : {P : Type 0} (number : ℕ) → wrong number ≡ dropped → P
wrong_not_dropped number e = let z : ◌≡◌ {A = ℕ} 0 1 = cc in absurd (omega arith)

shape_not_dropped : {P : Type 0} (shape : Shape) (u : ℕ) (children : Bool) → of_shape shape u children ≡ dropped → P
shape_not_dropped (known attributes) u children e = stays_not_dropped u (sym e)
shape_not_dropped leaf u true e = wrong_not_dropped 11 e
shape_not_dropped leaf u false e = stays_not_dropped u (sym e)
shape_not_dropped not_strict u children e = wrong_not_dropped 10 e

module _ (items : List Item) (request : ℕ) where
  -- the type of a node's place, by the type above it
  node_way :
      (s : List ℕ) (above : Types) (row : Row)
      → Ways items request s above
      → is_entry row ≡ false
      → row.depth ≤ length s
      → way_type items (at s row) ≡ type_above above row >>= (λ u. step_type items request u row.step)
  node_way s above row w node near =
      let deep : row.depth ≡ suc (row.depth - 1) = omega (arith, eqb-false row.depth 0 node) in
      ap (λ n. way_type items (take n s ++ (row.step ∷ []))) deep
      ∙ go s (row.depth - 1) (omega arith) (w.opened (omega arith)) (w.ways (row.depth - 1) (omega arith))
    where
      go :
          (s : List ℕ) (d : ℕ)
          → d < length s
          → get_or s 0 0 ≡ request
          → get_or above d none ≡ way_type items (take (suc d) s)
          → way_type items (take (suc d) s ++ (row.step ∷ [])) ≡ get_or above d none >>= (λ u. step_type items request u row.step)
      go [] d inside opened way = absurd (omega arith)
      go (r ∷ s) d inside opened way = rw (way, opened) (step_after items request 0 (take d s) row.step)

  -- the types kept after a node
  ways_node :
      (s : List ℕ) (above : Types) (row : Row) (type : Option ℕ)
      → Ways items request s above
      → is_entry row ≡ false
      → row.depth ≤ length s
      → way_type items (at s row) ≡ type
      → Ways items request (at s row) (below above row type)
  ways_node s above row type w node near way = record {
    long = kept_length above row type close ∙ sym (length_at s row near);
    opened = λ _. above_at s row 0 near deep ∙ w.opened (omega (arith, deep));
    ways =
        λ i inside.
        compared i row.depth
        (λ higher.
        kept_above above row type close none i higher
        ∙ rw (take_above s row (suc i) near higher) (w.ways i (omega arith)))
        (λ own.
        let same : i ≡ row.depth = omega (arith, length_at s row near) in
        let whole = take_all (suc row.depth) (at s row) (omega (arith, length_at s row near)) in
        rw (same, kept_own above row type close none, whole) (sym way));
  }
    where
      close : row.depth ≤ length above
      close = omega (arith, w.long)

      deep : 0 < row.depth
      deep = omega (arith, eqb-false row.depth 0 node)

  -- a node that stays has the type of its place, and one that is dropped has none
  stays_way :
      (o : Option ℕ) (row : Row) (rows : List Row) (t : ℕ)
      → fate items request o row rows ≡ stays t
      → o >>= (λ u. step_type items request u row.step) ≡ some t
  stays_way none row rows t e = stays_not_dropped t e
  stays_way (some u) row rows t e = (stays_step items request u row rows t e).0

  dropped_way :
      (o : Option ℕ) (row : Row) (rows : List Row)
      → fate items request o row rows ≡ dropped
      → o >>= (λ u. step_type items request u row.step) ≡ none
  dropped_way none row rows e = refl
  dropped_way (some u) row rows e =
      by_option (step_type items request u row.step)
      (λ q. q)
      (λ v q. shape_not_dropped (shape_of items request v) v (has_fields row rows) (rw (fate_step items request u row rows, q) at e))

-- so where a node stays its place has its type, and where it is dropped none
module _
    (items : List Item)
    {request : ℕ}
    (s : List ℕ)
    {above : Types}
    (w : Ways items request s above)
    (row : Row)
    (rows : List Row)
    (node : is_entry row ≡ false)
    (near : row.depth ≤ length s)
  where
    stay_way : {t : ℕ} → fate items request (type_above above row) row rows ≡ stays t → way_type items (at s row) ≡ some t
    stay_way {t} q = node_way items request s above row w node near ∙ stays_way items request (type_above above row) row rows t q

    drop_way : fate items request (type_above above row) row rows ≡ dropped → way_type items (at s row) ≡ none
    drop_way q = node_way items request s above row w node near ∙ dropped_way items request (type_above above row) row rows q

-- Which places stay.

-- one way more, that is known, or is not
known_too : {A B C K : Type 0} → (A → K) → B ↔ (C × K) → (A ⊎ B) ↔ ((A ⊎ C) × K)
known_too is_Known h = (
  elim [ inl a ↦ (inl a, is_Known a) | inr b ↦ let (c, k) = h.0 b in (inr c, k) ],
  λ p. ⊎_map (λ a. a) (λ c. h.1 (c, p.1)) p.0,
)

unknown_too : {A B C K : Type 0} → (A → K → ⊥) → B ↔ (C × K) → B ↔ ((A ⊎ C) × K)
unknown_too is-not h = (
  λ b. let (c, k) = h.0 b in (inr c, k),
  λ p. ⊎_elim (λ a. absurd (is-not a p.1)) (λ c. h.1 (c, p.1)) p.0,
)

module _ (items : List Item) where
  some_known : (place : List ℕ) (t : ℕ) → way_type items place ≡ some t → known_way items place ≡ true
  some_known place t e = rw (e, known_way)

  none_unknown : (place : List ℕ) → way_type items place ≡ none → known_way items place ≡ true → ⊥
  none_unknown place e k = false≢true (rw (e, known_way) at k)

  entry_at : (s : List ℕ) (row : Row) → is_entry row ≡ true → at s row ≡ row.step ∷ []
  entry_at s row is-first = rw (eqb-true row.depth 0 is-first)

  -- a test of rows that does not look at types
  module _ (test : Row → Bool) (blind : (t : ℕ) (row : Row) → test (with_type t row) ≡ test row) where
    kept_stands :
        {request : ℕ} {above : Types} {rows out : List Row}
        → Course items request above rows out
        → (s t : List ℕ)
        → Tracks s t above
        → Ways items request s above
        → Ordered s rows
        → (place : List ℕ)
        → Stands test t out place ↔ (Stands test s rows place × (known_way items place ≡ true))
    unfolding Ordered Stands type_after
    kept_stands end s t tracks w o place = (λ h. absurd h, λ h. absurd h.0)
    kept_stands (entry {above = above} {row = row} is-first more) s t tracks w o place =
        let same : at t row ≡ at s row = rw (← tracks.agree row (first is-first) o.1) in
        let next = tracks_stayed s t above (some 0 ∷ []) row (first is-first) o.1 tracks in
        let later : Ways items row.step (at s row) (some 0 ∷ []) = rw (entry_at s row is-first) (ways_entry items row.step) in
        let rest = kept_stands more (at s row) (at t row) next later o.3 place in
        rw same (known_too (λ h. rw (h.0, entry_at s row is-first)) (rw same at rest))
    kept_stands (stay {request = request} {above = above} {row = row} {rows = rows} {t = type} node q more) s t tracks w o place =
        let may : MayStay above row = typed_above items request (type_above above row) row rows type q under in
        let same : at t row ≡ at s row = rw (← tracks.agree row may o.1) in
        let next = tracks_stayed s t above (below above row (some type)) row may o.1 tracks in
        let way : way_type items (at s row) ≡ some type = stay_way items s w row rows node o.1.near q in
        let later = ways_node items request s above row (some type) w node o.1.near way in
        let rest = kept_stands more (at s row) (at t row) next later o.3 place in
        rw (same, blind type row) (known_too (λ h. rw h.0 (some_known (at s row) type way)) (rw same at rest))
    kept_stands (drop {request = request} {above = above} {row = row} {rows = rows} node q more) s t tracks w o place =
        let next = tracks_dropped s t above row o.1 tracks in
        let way : way_type items (at s row) ≡ none = drop_way items s w row rows node o.1.near q in
        let later = ways_node items request s above row none w node o.1.near way in
        let rest = kept_stands more (at s row) t next later o.3 place in
        unknown_too (λ h k. none_unknown (at s row) way (rw h.0 at k)) rest

  -- A place stays exactly if the schema knows each field on its way, and with it its mark.
  pub typed_stays :
      (rows out : List Row)
      → ordered [] rows ≡ true
      → typed items rows ≡ accepted out
      → (place : List ℕ)
      → (Has [] out place ↔ (Has [] rows place × (known_way items place ≡ true)))
      × (Marked [] out place ↔ (Marked [] rows place × (known_way items place ≡ true)))
  typed_stays rows out o e place = (
    simp has_stands (stand always (λ t row. refl)),
    simp marked_stands (stand (λ row. row.mark) (λ t row. refl)),
  )
    where
      stand :
          (test : Row → Bool)
          → ((t : ℕ) (row : Row) → test (with_type t row) ≡ test row)
          → Stands test [] out place ↔ (Stands test [] rows place × (known_way items place ≡ true))
      stand test blind =
          let course = course_of items rows 0 [] 0 out e in
          kept_stands test blind course [] [] (tracks_same [] []) (ways_first items) (ordered_true [] rows o) place

-- Where nothing is dropped the listing is the same: it does not write types.
module _ (items : List Item) where
  kept_listing :
      {request : ℕ} {above : Types} {rows out : List Row}
      → Course items request above rows out
      → nodes_in rows ≤ nodes_in out
      → listing out ≡ listing rows
  unfolding count listing
  kept_listing end all = refl
  kept_listing (entry {row = row} is-first more) all =
      ap (λ text. line_of (fields_for row) ++ text) (kept_listing more (rw is-first at all))
  kept_listing (stay {row = row} node q more) all =
      let others = rw node at all in
      ap (λ text. line_of (fields_for row) ++ text) (kept_listing more (omega arith))
  kept_listing (drop node q more) all = let fewer = rw node at all in absurd (omega (arith, kept_nodes items more))

  pub typing_all :
      (rows out : List Row) → typed items rows ≡ accepted out → nodes_in out ≡ nodes_in rows → listing out ≡ listing rows
  typing_all rows out e all = kept_listing (course_of items rows 0 [] 0 out e) (omega arith)

  -- nothing is dropped where each way is known
  pub typing_all_known :
      lawful_items unknown items ≡ true
      → (rows out : List Row)
      → ordered [] rows ≡ true
      → typed items rows ≡ accepted out
      → ((place : List ℕ) → Has [] rows place → known_way items place ≡ true)
      → listing out ≡ listing rows
  typing_all_known of-schema rows out o e all =
      let stay_all = subset_nodes rows [] out o (typing_in_order items of-schema rows out o e)
      (λ place h. (typed_stays items rows out o e place).0.1 (h, all place h)) in
      typing_all rows out e (omega (arith, typing_nodes items rows out e))

-- Types by places: each node has the type of its place, and an entry none.
module _ (items : List Item) where
  abbrev pub type_at : List ℕ → Row → Option ℕ
  type_at s row = cond (is_entry row) none (way_type items (at s row))

  unfoldable pub OfPlaces : List ℕ → List Row → Type 0
  OfPlaces s [] = Unit
  OfPlaces s (row ∷ rows) = (row.type ≡ type_at s row) × OfPlaces (at s row) rows

  kept_places :
      {request : ℕ} {above : Types} {rows out : List Row}
      → Course items request above rows out
      → (s t : List ℕ)
      → Tracks s t above
      → Ways items request s above
      → Ordered s rows
      → OfPlaces t out
  unfolding Ordered OfPlaces
  kept_places end s t tracks w o = tt
  kept_places (entry {above = above} {row = row} is-first more) s t tracks w o =
      let next = tracks_stayed s t above (some 0 ∷ []) row (first is-first) o.1 tracks in
      let later : Ways items row.step (at s row) (some 0 ∷ []) = rw (entry_at items s row is-first) (ways_entry items row.step) in
      (rw is-first (entry_untyped row o.0 is-first), kept_places more (at s row) (at t row) next later o.3)
  kept_places (stay {request = request} {above = above} {row = row} {rows = rows} {t = type} node q more) s t tracks w o =
      let may : MayStay above row = typed_above items request (type_above above row) row rows type q under in
      let next = tracks_stayed s t above (below above row (some type)) row may o.1 tracks in
      let way : way_type items (at s row) ≡ some type = stay_way items s w row rows node o.1.near q in
      let later = ways_node items request s above row (some type) w node o.1.near way in
      (rw (node, ← tracks.agree row may o.1) (sym way), kept_places more (at s row) (at t row) next later o.3)
  kept_places (drop {request = request} {above = above} {row = row} {rows = rows} node q more) s t tracks w o =
      let next = tracks_dropped s t above row o.1 tracks in
      let way : way_type items (at s row) ≡ none = drop_way items s w row rows node o.1.near q in
      let later = ways_node items request s above row none w node o.1.near way in
      kept_places more (at s row) t next later o.3

  -- what stays has the types of its places
  pub typing_places : (rows out : List Row) → ordered [] rows ≡ true → typed items rows ≡ accepted out → OfPlaces [] out
  typing_places rows out o e =
      kept_places (course_of items rows 0 [] 0 out e) [] [] (tracks_same [] []) (ways_first items) (ordered_true [] rows o)

  -- a union of rows with such types has such types
  places_past :
      (s : List ℕ) (x y : Row) (rows : List Row)
      → x.depth ≤ length s
      → Before x y
      → OfPlaces s (y ∷ rows)
      → OfPlaces (at s x) (y ∷ rows)
  unfolding OfPlaces
  places_past s x y rows near before h = rw (place_past s x y near (no_deeper before)) h

  turns_places : {a b c : List Row} → Turns a b c → (s : List ℕ) → Ordered s a → Ordered s b → OfPlaces s a → OfPlaces s b → OfPlaces s c
  unfolding Ordered OfPlaces
  turns_places no_left s oa ob pa pb = pb
  turns_places no_right s oa ob pa pb = pa
  turns_places (left {x = x} {y = y} {b = b} h more) s oa ob pa pb = (
    pa.0,
    turns_places more (at s x) oa.3 (ordered_past s x y b oa.1 h ob) pa.1 (places_past s x y b oa.1.near h pb),
  )
  turns_places (right {x = x} {y = y} {a = a} h more) s oa ob pa pb = (
    pb.0,
    turns_places more (at s y) (ordered_past s y x a ob.1 h oa) ob.3 (places_past s y x a ob.1.near h pa) pb.1,
  )
  turns_places (both {x = x} {y = y} h more) s oa ob pa pb = (
    pa.0,
    turns_places more (at s x) oa.3 (rw (at_same s x y h) at ob.3) pa.1 (rw (at_same s x y h) at pb.1),
  )

  -- rows that are the same but for types are the same where both have such types
  same_typed : (a b : List Row) (s : List ℕ) → map bare a ≡ map bare b → OfPlaces s a → OfPlaces s b → a ≡ b
  unfolding OfPlaces
  same_typed [] [] s e pa pb = refl
  same_typed [] (y ∷ b) s e pa pb = cc
  same_typed (x ∷ a) [] s e pa pb = cc
  same_typed (x ∷ a) (y ∷ b) s e pa pb =
      let row : bare x ≡ bare y = cc in
      let rows : map bare a ≡ map bare b = cc in
      let depths : x.depth ≡ y.depth = ap (λ r. r.depth) row in
      let steps : x.step ≡ y.step = ap (λ r. r.step) row in
      let marks : x.mark ≡ y.mark = ap (λ r. r.mark) row in
      let types : x.type ≡ y.type = pa.0 ∙ rw (depths, steps) (sym pb.0) in
      let rest : a ≡ b = same_typed a b (at s x) rows pa.1 (rw (depths, steps) pb.1) in
      λ i. record { depth = depths i; step = steps i; mark = marks i; type = types i } ∷ rest i

-- Typing and union. A node of a union is one of the two runs', so its way is what it was there; and where it has field children it has
-- them in one of the two.

-- a row has no field among rows that come after it and are no deeper
no_field_past : (x y : Row) (rows : List Row) → y.depth ≤ x.depth → has_fields x (y ∷ rows) ≡ false
no_field_past x y rows shallow =
    (and-false (eqb y.depth (suc x.depth)) (is_field y.step)).1
    (λ level. absurd (omega (arith, eqb-true y.depth (suc x.depth) level)))

-- rows of one depth have the same fields
same_fields : (x y : Row) (rows : List Row) → x.depth ≡ y.depth → has_fields x rows ≡ has_fields y rows
same_fields x y [] depths = refl
same_fields x y (row ∷ rows) depths = rw depths

-- a row has a field in a union only if it has one in one of the two
turns_fields :
    {a b c : List Row} → Turns a b c → (row : Row) → has_fields row a ≡ false → has_fields row b ≡ false → has_fields row c ≡ false
turns_fields no_left row ha hb = hb
turns_fields no_right row ha hb = ha
turns_fields (left h more) row ha hb = ha
turns_fields (right h more) row ha hb = hb
turns_fields (both h more) row ha hb = ha

-- a leaf that stays has no fields
leaf_bare : (shape : Shape) (u t : ℕ) (children : Bool) → of_shape shape u children ≡ stays t → shape ≡ leaf → children ≡ false
leaf_bare shape u t false e of-leaf = refl
leaf_bare shape u t true e of-leaf = wrong_not_stays 11 t (rw of-leaf at e)

module _ (items : List Item) (request : ℕ) where
  leaf_stays :
      (o : Option ℕ) (row : Row) (rows : List Row) (t : ℕ)
      → fate items request o row rows ≡ stays t
      → shape_of items request t ≡ leaf
      → has_fields row rows ≡ false
  leaf_stays none row rows t e of-leaf = stays_not_dropped t e
  leaf_stays (some u) row rows t e of-leaf =
      leaf_bare (shape_of items request t) t t (has_fields row rows) (stays_step items request u row rows t e).1 of-leaf

  -- what stays does so with other rows behind it, if they are no fields of a leaf; what is dropped is so with any
  stays_again :
      (o : Option ℕ) (row other : Row) (rows others : List Row) (t : ℕ)
      → other.step ≡ row.step
      → fate items request o row rows ≡ stays t
      → (shape_of items request t ≡ leaf → has_fields other others ≡ false)
      → fate items request o other others ≡ stays t
  stays_again none row other rows others t same e none_left = stays_not_dropped t e
  stays_again (some u) row other rows others t same e none_left = fate_again items request u row other rows others t same e none_left

  dropped_again :
      (o : Option ℕ) (row other : Row) (rows others : List Row)
      → other.step ≡ row.step
      → fate items request o row rows ≡ dropped
      → fate items request o other others ≡ dropped
  dropped_again none row other rows others same e = refl
  dropped_again (some u) row other rows others same e =
      let way : step_type items request u row.step ≡ none = dropped_way items request (some u) row rows e in
      let its_way : step_type items request u other.step ≡ none = rw same way in
      by_test (is_field row.step)
      (λ field. let its : is_field other.step ≡ true = rw same field in fate_step items request u other others ∙ rw (its_way, its))
      (λ root. wrong_not_dropped 9 (rw (fate_step items request u row rows, way, root) at e))

-- The rows of a course may come after another that is as deep: only what is kept above them counts.
module _ (items : List Item) (x : Row) where
  course_past_entry :
      {request next : ℕ} {above types : Types} {y : Row} {rows out : List Row}
      → is_entry x ≡ true
      → y.depth ≤ x.depth
      → Course items request above (y ∷ rows) out
      → Course items next types (y ∷ rows) out
  course_past_entry is-first shallow (entry also more) = entry also more
  course_past_entry {y = y} is-first shallow (stay node q more) =
      absurd (omega (arith, eqb-true x.depth 0 is-first, eqb-false y.depth 0 node))
  course_past_entry {y = y} is-first shallow (drop node q more) =
      absurd (omega (arith, eqb-true x.depth 0 is-first, eqb-false y.depth 0 node))

  course_past :
      {request : ℕ} {above : Types} {y : Row} {rows out : List Row} (type : Option ℕ)
      → x.depth ≤ length above
      → y.depth ≤ x.depth
      → Course items request above (y ∷ rows) out
      → Course items request (below above x type) (y ∷ rows) out
  course_past type near shallow (entry also more) = entry also more
  course_past {request} {above} {y} {rows} type near shallow (stay {t = t} node q more) =
      let higher = kept_above above x type near none (y.depth - 1) (omega (arith, eqb-false y.depth 0 node)) in
      let fated : fate items request (type_above (below above x type) y) y rows ≡ stays t = rw higher q in
      stay node fated (rw (← kept_down above x type y.depth (omega arith) shallow) at more)
  course_past {request} {above} {y} {rows} type near shallow (drop node q more) =
      let higher = kept_above above x type near none (y.depth - 1) (omega (arith, eqb-false y.depth 0 node)) in
      let fated : fate items request (type_above (below above x type) y) y rows ≡ dropped = rw higher q in
      drop node fated (rw (← kept_down above x type y.depth (omega arith) shallow) at more)

module _ (items : List Item) where
  -- rows of which some stay
  abbrev Accepted : ℕ → Types → List Row → Type 0
  Accepted request above rows = (out : List Row) × Course items request above rows out

  -- a turn that takes the row of one run
  one_turn :
      {request : ℕ} {above : Types} {x : Row} (y : Row) {a b c a-out b-out : List Row}
      → x.depth ≤ length above
      → y.depth ≤ x.depth
      → (has_fields x a ≡ false → has_fields x c ≡ false)
      → Course items request above (x ∷ a) a-out
      → Course items request above (y ∷ b) b-out
      → ((next : ℕ) (types : Types) (rest : List Row)
      → length types ≡ x.depth + 1
      → Course items next types a rest
      → Course items next types (y ∷ b) b-out
      → Accepted next types c)
      → Accepted request above (x ∷ c)
  one_turn {x = x} y near shallow fewer (entry {out = out} is-first more) cb then =
      let top : 1 ≡ x.depth + 1 = omega (arith, eqb-true x.depth 0 is-first) in
      let (c_out, course) = then x.step (some 0 ∷ []) out top more (course_past_entry items x is-first shallow cb) in
      (x ∷ c_out, entry is-first course)
  one_turn {request} {above} {x} y {a} {b} {c} near shallow fewer (stay {out = out} {t = t} node q more) cb then =
      let types : Types = below above x (some t) in
      let long = kept_length above x (some t) near in
      let (c_out, course) = then request types out long more (course_past items x (some t) near shallow cb) in
      let fated = stays_again items request (type_above above x) x x a c t refl q
      (λ of-leaf. fewer (leaf_stays items request (type_above above x) x a t q of-leaf)) in
      (with_type t x ∷ c_out, stay node fated course)
  one_turn {request} {above} {x} y {a} {b} {c} near shallow fewer (drop {out = out} node q more) cb then =
      let types : Types = below above x none in
      let long = kept_length above x none near in
      let (c_out, course) = then request types out long more (course_past items x none near shallow cb) in
      (c_out, drop node (dropped_again items request (type_above above x) x x a c refl q) course)

  -- a turn that takes a row of each: at one place their fates are the same
  both_turn :
      {request : ℕ} {above : Types} {x y : Row} {a b c a-out b-out : List Row}
      → SamePlace x y
      → x.depth ≤ length above
      → (has_fields x a ≡ false → has_fields y b ≡ false → has_fields (joined x y) c ≡ false)
      → Course items request above (x ∷ a) a-out
      → Course items request above (y ∷ b) b-out
      → ((next : ℕ) (types : Types) (a-rest b_rest : List Row)
      → length types ≡ x.depth + 1
      → Course items next types a a-rest
      → Course items next types b b_rest
      → Accepted next types c)
      → Accepted request above (joined x y ∷ c)
  both_turn {x = x} {y = y} h near fewer (entry {out = a-rest} is-first more) (entry {out = b_rest} also others) then =
      let top : 1 ≡ x.depth + 1 = omega (arith, eqb-true x.depth 0 is-first) in
      let (c_out, course) = then x.step (some 0 ∷ []) a-rest b_rest top more (rw (← h.steps) at others) in
      (joined x y ∷ c_out, entry is-first course)
  both_turn {request} {above} {x} {y} {a} {b} {c} h near fewer
      (stay {out = a-rest} {t = t} node q more) (stay {out = b_rest} {t = u} also r others) then =
      let way = stays_way items request (type_above above x) x a t q in
      let its_way = rw (← h.depths, ← h.steps) at (stays_way items request (type_above above y) y b u r) in
      let same : t ≡ u = some-injective t u (sym way ∙ its_way) in
      let long = kept_length above x (some t) near in
      let (c_out, course) = then request (below above x (some t)) a-rest b_rest long more (rw (← same, ← h.depths) at others) in
      let fated = stays_again items request (type_above above x) x (joined x y) a c t refl q
      (λ of-leaf.
      fewer (leaf_stays items request (type_above above x) x a t q of-leaf)
      (leaf_stays items request (type_above above y) y b u r (rw same at of-leaf))) in
      (with_type t (joined x y) ∷ c_out, stay node fated course)
  both_turn {request} {above} {x} {y} {a} {b} {c} h near fewer (drop {out = a-rest} node q more) (drop {out = b_rest} also r others) then =
      let long = kept_length above x none near in
      let (c_out, course) = then request (below above x none) a-rest b_rest long more (rw (← h.depths) at others) in
      (c_out, drop node (dropped_again items request (type_above above x) x (joined x y) a c refl q) course)
  both_turn {request} {above} {x} {y} {a} {b} h near fewer (stay {t = t} node q more) (drop also r others) then =
      let gone = dropped_again items request (type_above above x) y x b a h.steps (rw h.depths r) in
      stays_not_dropped t (sym gone ∙ q)
  both_turn {request} {above} {x} {y} {a} {b} h near fewer (drop node q more) (stay {t = t} also r others) then =
      let gone = dropped_again items request (type_above above y) x y a b (sym h.steps) (rw (← h.depths) q) in
      stays_not_dropped t (sym gone ∙ r)
  both_turn h near fewer (entry is-first more) (stay also r others) then = absurd (false≢true (sym also ∙ rw (← h.depths) is-first))
  both_turn h near fewer (entry is-first more) (drop also r others) then = absurd (false≢true (sym also ∙ rw (← h.depths) is-first))
  both_turn h near fewer (stay node q more) (entry also others) then = absurd (false≢true (sym node ∙ rw h.depths also))
  both_turn h near fewer (drop node q more) (entry also others) then = absurd (false≢true (sym node ∙ rw h.depths also))

  -- turn by turn, rows that are accepted give rows that are accepted
  turns_course :
      {a b c : List Row}
      → Turns a b c
      → (request : ℕ) (above : Types) (s : List ℕ) (a-out b-out : List Row)
      → length above ≡ length s
      → Ordered s a
      → Ordered s b
      → Course items request above a a-out
      → Course items request above b b-out
      → Accepted request above c
  unfolding Ordered
  turns_course no_left request above s a-out b-out long oa ob ca cb = (b-out, cb)
  turns_course no_right request above s a-out b-out long oa ob ca cb = (a-out, ca)
  turns_course (left {x = x} {y = y} {a = a} {b = b} h more) request above s a-out b-out long oa ob ca cb =
      one_turn y (omega (arith, oa.1.near)) (no_deeper h)
      (λ bare-left. turns_fields more x bare-left (no_field_past x y b (no_deeper h)))
      ca cb
      (λ next types rest size ca cb.
      turns_course more next types (at s x) rest b-out (size ∙ sym (length_at s x oa.1.near))
      oa.3 (ordered_past s x y b oa.1 h ob) ca cb)
  turns_course (right {x = x} {y = y} {a = a} {b = b} h more) request above s a-out b-out long oa ob ca cb =
      one_turn x (omega (arith, ob.1.near)) (no_deeper h)
      (λ bare-right. turns_fields more y (no_field_past y x a (no_deeper h)) bare-right)
      cb ca
      (λ next types rest size cb ca.
      turns_course more next types (at s y) a-out rest (size ∙ sym (length_at s y ob.1.near))
      (ordered_past s y x a ob.1 h oa) ob.3 ca cb)
  turns_course (both {x = x} {y = y} {a = a} {b = b} h more) request above s a-out b-out long oa ob ca cb =
      both_turn h (omega (arith, oa.1.near))
      (λ bare-left bare-right.
      turns_fields more (joined x y)
      (same_fields (joined x y) x a refl ∙ bare-left)
      (same_fields (joined x y) y b h.depths ∙ bare-right))
      ca cb
      (λ next types a-rest b_rest size ca cb.
      turns_course more next types (at s x) a-rest b_rest (size ∙ sym (length_at s x oa.1.near))
      oa.3 (rw (at_same s x y h) at ob.3) ca cb)

-- what stays of a union is what stays of either
known_either :
    {A B C A-known B-known C-known K : Type 0}
    → A-known ↔ (A × K)
    → B-known ↔ (B × K)
    → C-known ↔ (C × K)
    → C ↔ (A ⊎ B)
    → C-known ↔ (A-known ⊎ B-known)
known_either of-a of-b of_c joins = (
  λ h. let (c, k) = of_c.0 h in ⊎_map (λ a. of-a.1 (a, k)) (λ b. of-b.1 (b, k)) (joins.0 c),
  ⊎_elim
      (λ h. let (a, k) = of-a.0 h in of_c.1 (joins.1 (inl a), k))
      (λ h. let (b, k) = of-b.0 h in of_c.1 (joins.1 (inr b), k)),
)

-- Typing a union gives the union of what is typed.
module _
    (items : List Item)
    (of-schema : lawful_items unknown items ≡ true)
    (a b a-out b-out : List Row)
    (oa : ordered [] a ≡ true)
    (ob : ordered [] b ≡ true)
    (ea : typed items a ≡ accepted a-out)
    (eb : typed items b ≡ accepted b-out)
  where
    -- it is not refused
    union_course : Accepted items 0 [] (union a b)
    union_course =
        turns_course items (union_turns a b) 0 [] [] a-out b-out refl (ordered_true [] a oa) (ordered_true [] b ob)
        (course_of items a 0 [] 0 a-out ea)
        (course_of items b 0 [] 0 b-out eb)

    -- and both have the same places, marks and types
    union_typed : (out : List Row) → typed items (union a b) ≡ accepted out → out ≡ union a-out b-out
    union_typed out e =
        let o = union_ordered a [] b oa ob in
        let a-order = typing_in_order items of-schema a a-out oa ea in
        let b-order = typing_in_order items of-schema b b-out ob eb in
        let of-a = typed_stays items a a-out oa ea in
        let of-b = typed_stays items b b-out ob eb in
        let of_union = typed_stays items (union a b) out o e in
        let rows = same_rows out [] (union a-out b-out)
        (typing_in_order items of-schema (union a b) out o e)
        (union_ordered a-out [] b-out a-order b-order)
        (λ place.
        Iff.trans
        (known_either (of-a place).0 (of-b place).0 (of_union place).0 (union_has a [] b oa ob place))
        (Iff.symm (union_has a-out [] b-out a-order b-order place)))
        (λ place.
        Iff.trans
        (known_either (of-a place).1 (of-b place).1 (of_union place).1 (union_marked a [] b oa ob place))
        (Iff.symm (union_marked a-out [] b-out a-order b-order place))) in
        same_typed items out (union a-out b-out) [] rows (typing_places items (union a b) out o e)
        (turns_places items (union_turns a-out b-out) [] (ordered_true [] a-out a-order) (ordered_true [] b-out b-order)
        (typing_places items a a-out oa ea)
        (typing_places items b b-out ob eb))

    pub typing_union : typed items (union a b) ≡ accepted (union a-out b-out)
    typing_union =
        let (out, course) = union_course in
        let e : typed items (union a b) ≡ accepted out = accepted_by items course 0 in
        rw (← union_typed out e) e
