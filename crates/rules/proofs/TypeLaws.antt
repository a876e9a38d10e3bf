-- Laws of types (Schema, Paths, Steps): where they stand in a schema, the tries that they give, how deep and how long those are,
-- and the types of fields.
use Rattle.std.specs.Prelude.{ℕ, zero, suc, ◌+◌, ◌≤◌, ◌<◌, ◌≡◌, refl, Bool, true, false, cond, not, ◌&&◌, ◌||◌, leb, ltb, eqb, length, take}
use Rattle.std.proofs.Common.{arith, sym, ap, ◌∙◌, inl, inr}
use Rattle.std.proofs.Math.Bool.{and-eq-true_iff}
use Rattle.std.proofs.Math.Option.{none, some, none-ne-some}
use mathlib.Core.List.Memᴰ.{cases_cons as here-or-later}
use mathlib.Core.List.Memᴰ.{not-nil as none_in_empty}
use mathlib.Core.List.{List, [], ◌∷◌, ◌++◌, append_assoc, Memᴰ as Member}
use Rattle.std.proofs.Math.ListN.{length-append}
use borrow.Author.Tests.{ltb-true, leb-true, eqb-true, eqb-false, le-ltb, le-leb, lt-leb, eq-eqb, ne_eqb}
use Rattle.rules.specs.Facts.{by_test, compared, cond-true, larger, capped, larger_max, capped_min, larger_above}
use Rattle.rules.specs.Tries.{Row, union}
use Rattle.rules.proofs.TrieLaws.{Turns, no_left, no_right, left, right, both, union_turns}
use Rattle.rules.specs.Schema.{
  Item,
  set_type,
  record_type,
  action_type,
  last_type,
  entity_line,
  attribute_line,
  literal_line,
  section_of,
  room_after,
  Known,
  unknown,
  fits,
  beyond,
  lawful_items,
  from_type,
  attributes_of,
}
use Rattle.rules.specs.Paths.{
  Path,
  Leaf,
  is_empty_leaf,
  deeper,
  chain,
  to_root_access_trie_with_leaf,
  add_access_path,
  union_all,
  add_paths,
  children_of,
  type_below,
  kind_at,
  element_at,
  attributes_at,
  attribute_type,
}
use Rattle.rules.specs.Steps.{is_too_deep}
pub use Rattle.rules.specs.TypeLaws.{is_no_trie, Sound, TypeFits, Placed, TypeAt, TypeLines, Attributes, marked_leaf}
unfoldable pub use Rattle.rules.specs.TypeLaws.{deepest, types_in, Ascends, AttributesBelow, longest}

-- Rows that go deeper.

-- rows after one another go deeper one after the other
pub deeper_append : (n : ℕ) (xs ys : List Row) → deeper n (xs ++ ys) ≡ deeper n xs ++ deeper n ys
unfolding deeper
deeper_append n [] ys = refl
deeper_append n (row ∷ xs) ys = rw (deeper_append n xs ys)

-- and are as many
pub deeper_length : (n : ℕ) (rows : List Row) → length (deeper n rows) ≡ length rows
unfolding deeper
deeper_length n [] = refl
deeper_length n (row ∷ rows) = rw (deeper_length n rows)

-- no step deeper leaves rows as they are
pub deeper_none : (rows : List Row) → deeper 0 rows ≡ rows
unfolding deeper
deeper_none [] = refl
deeper_none (row ∷ rows) =
    let depth : 0 + row.depth ≡ row.depth = omega arith in
    rw (depth, deeper_none rows)

-- deeper twice is deeper by the sum
pub deeper_deeper : (m n : ℕ) (rows : List Row) → deeper m (deeper n rows) ≡ deeper (m + n) rows
unfolding deeper
deeper_deeper m n [] = refl
deeper_deeper m n (row ∷ rows) =
    let depth : m + (n + row.depth) ≡ m + n + row.depth = omega arith in
    rw (depth, deeper_deeper m n rows)

-- The rows that attributes give.

-- attributes after one another give their rows one after the other
pub children_append :
    (g : ℕ → List Row) (xs ys : List Item) → children_of g (xs ++ ys) ≡ children_of g xs ++ children_of g ys
unfolding children_of
children_append g [] ys = refl
children_append g (a ∷ xs) ys = rw (children_append g xs ys, append_assoc)

-- How deep rows go.

deepest_empty : (rows : List Row) → length rows ≡ 0 → deepest rows ≡ 0
unfolding deepest
deepest_empty [] h = refl
deepest_empty (row ∷ rows) h = omega arith

-- of rows after one another, the larger of both
pub deepest_append : (xs ys : List Row) → deepest (xs ++ ys) ≡ larger (deepest xs) (deepest ys)
unfolding deepest
deepest_append [] ys = simp larger_max (omega arith)
deepest_append (row ∷ xs) ys = rw (deepest_append xs ys) (simp larger_max (omega arith))

-- rows that go deeper are so much deeper, if there are any
first_deeper : (n : ℕ) (row : Row) (rows : List Row) → deepest (deeper n (row ∷ rows)) ≡ n + deepest (row ∷ rows)
unfolding deepest deeper
first_deeper n row [] = simp larger_max (omega arith)
first_deeper n row (next ∷ rows) = rw (first_deeper n next rows) (simp larger_max (omega arith))

-- below something that is as deep as the step to them, rows go as deep as they go, with that step
pub deepest_below : (n : ℕ) (rows : List Row) → larger n (deepest (deeper n rows)) ≡ n + deepest rows
unfolding deepest deeper
deepest_below n [] = simp larger_max (omega arith)
deepest_below n (row ∷ rows) = rw (first_deeper n row rows) (simp larger_max (omega arith))

-- rows are too deep exactly where the deepest is
pub type_too_deep : (rows : List Row) → is_too_deep rows ≡ ltb 24 (deepest rows)
unfolding is_too_deep deepest
type_too_deep [] = refl
type_too_deep (row ∷ rows) = rw (type_too_deep rows, larger_above)

-- The depth and the number of the rows that attributes give.

module _ (g : ℕ → List Row) (a : Item) where
  -- one attribute first: its depth, and the number of its rows
  pub children_deepest :
      (more : List Item)
      → deepest (children_of g (a ∷ more)) ≡ larger (1 + deepest (g a.value)) (deepest (children_of g more))
  unfolding children_of deepest
  children_deepest more =
      simp (deepest_append, larger_max)
      (omega (arith, larger_max 1 (deepest (deeper 1 (g a.value))), deepest_below 1 (g a.value)))

  pub children_length :
      (more : List Item)
      → length (children_of g (a ∷ more)) ≡ 1 + length (g a.value) + length (children_of g more)
  unfolding children_of
  children_length more = simp (length-append, deeper_length) (omega arith)

  -- one more attribute at the end
  pub children_deepest_last :
      (xs : List Item)
      → deepest (children_of g (xs ++ (a ∷ []))) ≡ larger (deepest (children_of g xs)) (1 + deepest (g a.value))
  unfolding children_of deepest
  children_deepest_last xs =
      rw (children_append g xs (a ∷ []), deepest_append, children_deepest []) (simp larger_max (omega arith))

  pub children_length_last :
      (xs : List Item)
      → length (children_of g (xs ++ (a ∷ []))) ≡ length (children_of g xs) + 1 + length (g a.value)
  unfolding children_of
  children_length_last xs = simp (children_append, length-append, deeper_length) (omega arith)

  -- the same with counts that stop at a limit
  pub children_deepest_capped :
      (xs : List Item)
      → capped 25 (deepest (children_of g (xs ++ (a ∷ []))))
      ≡ larger (capped 25 (deepest (children_of g xs))) (capped 25 (1 + capped 25 (deepest (g a.value))))
  children_deepest_capped xs = rw (children_deepest_last xs) (simp (larger_max, capped_min) (omega arith))

  pub children_length_capped :
      (xs : List Item)
      → capped 1025 (length (children_of g (xs ++ (a ∷ []))))
      ≡ capped 1025 (capped 1025 (length (children_of g xs)) + 1 + capped 1025 (length (g a.value)))
  children_length_capped xs = rw (children_length_last xs) (simp capped_min (omega arith))

-- The trie of a path.

-- a chain of nodes goes one deeper each step
pub chain_deepest : (depth : ℕ) (mark : Bool) (step : ℕ) (steps : Path) → deepest (chain depth mark (step ∷ steps)) ≡ depth + length steps
unfolding chain deepest
chain_deepest depth mark step [] = simp larger_max (omega arith)
chain_deepest depth mark step (next ∷ steps) = rw (chain_deepest (suc depth) mark next steps, larger_max) (omega arith)

-- and has as many nodes as steps
pub chain_length : (depth : ℕ) (mark : Bool) (path : Path) → length (chain depth mark path) ≡ length path
unfolding chain
chain_length depth mark [] = refl
chain_length depth mark (step ∷ []) = refl
chain_length depth mark (step ∷ next ∷ steps) = ap suc (chain_length (suc depth) mark (next ∷ steps))

-- unless it is empty, a path's trie goes as deep as the path is long and then what is below its leaf
pub path_deepest :
    (path : Path) (leaf : Leaf)
    → 0 < length path
    → deepest (to_root_access_trie_with_leaf path leaf) ≡ cond (is_no_trie path leaf) 0 (length path + deepest leaf.below)
unfolding to_root_access_trie_with_leaf deepest
path_deepest [] leaf some-step = omega arith
path_deepest (step ∷ steps) leaf some-step =
    by_test (is_no_trie (step ∷ steps) leaf) (λ e. rw e) (λ e. rw e whole)
  where
    whole :
        deepest (chain 1 leaf.mark (step ∷ steps) ++ deeper (suc (length steps)) leaf.below)
        ≡ suc (length steps) + deepest leaf.below
    whole =
        rw (deepest_append, chain_deepest 1 leaf.mark step steps)
        (rw (← deepest_below (suc (length steps)) leaf.below) (simp larger_max (omega arith)))

-- and it has as many nodes as the path has steps and then what is below its leaf
pub path_length :
    (path : Path) (leaf : Leaf)
    → length (to_root_access_trie_with_leaf path leaf) ≡ cond (is_no_trie path leaf) 0 (length path + length leaf.below)
unfolding to_root_access_trie_with_leaf
path_length path leaf =
    by_test (is_no_trie path leaf) (λ e. rw e) (λ e. rw e (simp (length-append, chain_length, deeper_length)))

-- so a path's trie is too deep exactly where the path and what is below its leaf are
pub path_deep :
    (path : Path) (leaf : Leaf)
    → 0 < length path
    → is_too_deep (to_root_access_trie_with_leaf path leaf) ≡ ltb 24 (length path + deepest leaf.below)
path_deep path leaf some-step =
    rw (type_too_deep (to_root_access_trie_with_leaf path leaf), path_deepest path leaf some-step)
    (by_test (is_no_trie path leaf)
    (λ e.
    let (one, none_below) = (and-eq-true_iff (eqb (length path) 1) (is_empty_leaf leaf)).0 e in
    let (unmarked, empty) = (and-eq-true_iff (not leaf.mark) _).0 none_below in
    let shallow = deepest_empty leaf.below (eqb-true _ _ empty) in
    rw (e, le-ltb 24 (length path + deepest leaf.below) (omega (arith, eqb-true (length path) 1 one))))
    (λ e. rw e))

-- Where types stand.

-- a type's line is in section 0, is no attribute, and leads on with the next number
pub type_section : (tag : ℕ) → tag ≤ last_type → section_of tag ≡ 0
type_section tag h = simp le-leb

other_section : (tag : ℕ) → last_type < tag → 0 < section_of tag
other_section tag h =
    rw (lt-leb tag last_type)
    (by_test (leb tag attribute_line) (λ e. rw e (omega arith))
    (λ e. rw e (by_test (eqb tag literal_line) (λ f. rw f (omega arith)) (λ f. rw f (omega arith)))))

not_attribute : (tag : ℕ) → tag ≤ last_type → eqb tag attribute_line ≡ false
not_attribute tag h = ne_eqb tag attribute_line (λ e. omega arith)

-- types in one list after another, and in a list with one more
pub types_append : (xs ys : List Item) → types_in (xs ++ ys) ≡ types_in xs + types_in ys
unfolding types_in
types_append [] ys = omega arith
types_append (it ∷ xs) ys =
    rw (types_append xs ys)
    (by_test (leb it.tag last_type) (λ e. rw e (omega arith)) (λ e. rw e))

pub types_last : (xs : List Item) (it : Item) → it.tag ≤ last_type → types_in (xs ++ (it ∷ [])) ≡ suc (types_in xs)
unfolding types_in
types_last xs it h = rw (types_append xs (it ∷ []), le-leb it.tag last_type h) (omega arith)

pub types_last_other : (xs : List Item) (it : Item) → last_type < it.tag → types_in (xs ++ (it ∷ [])) ≡ types_in xs
unfolding types_in
types_last_other xs it h = rw (types_append xs (it ∷ []), lt-leb it.tag last_type h) (omega arith)

-- one line first: a type or not, and where a schema has come to after it
types_type : (it : Item) (items : List Item) → it.tag ≤ last_type → types_in (it ∷ items) ≡ suc (types_in items)
unfolding types_in
types_type it items h = simp le-leb

types_other : (it : Item) (items : List Item) → last_type < it.tag → types_in (it ∷ items) ≡ types_in items
unfolding types_in
types_other it items h = simp lt-leb

beyond_type : (known : Known) (it : Item) → it.tag ≤ last_type → (beyond known it).types ≡ suc known.types
beyond_type known it h = rw (not_attribute it.tag h, le-leb it.tag last_type h) (omega arith)

beyond_other : (known : Known) (it : Item) → last_type < it.tag → (beyond known it).types ≡ known.types
beyond_other known it h =
    by_test (eqb it.tag attribute_line) (λ e. rw e) (λ e. rw (e, lt-leb it.tag last_type h))

-- the types that there are, and those that are left, are as many after a line as before it
types_left :
    (known : Known) (it : Item) (items : List Item)
    → (beyond known it).types + types_in items ≡ known.types + types_in (it ∷ items)
types_left known it items =
    compared last_type it.tag
    (λ h. rw (beyond_other known it h, types_other it items h))
    (λ h. rw (beyond_type known it h, types_type it items h) (omega arith))

module _ (known : Known) (it : Item) (sound : Sound known) (fit : fits known it ≡ true) where
  -- a type's line that fits
  type_fits : it.tag ≤ last_type → TypeFits known it
  type_fits h =
      let tests = rw (not_attribute it.tag h, type_section it.tag h) at fit in
      let (low, later) = (and-eq-true_iff (leb known.section 0) _).0 tests in
      let first : known.section ≡ 0 = omega (arith, leb-true known.section 0 low) in
      let here = rw (eq-eqb known.section 0 first, le-leb it.tag last_type h) at later in
      let (room, rest) = (and-eq-true_iff (ltb known.lines 1024) _).0 here in
      let (key, value) = (and-eq-true_iff (eqb it.key known.lines) _).0 rest in
      let lines = sound.counted first in
      record {
        section = first;
        key = eqb-true it.key known.lines key ∙ lines;
        room = omega (arith, ltb-true known.lines 1024 room);
        element = λ e. ltb-true it.value it.key (rw (eq-eqb it.tag set_type e) at value);
      }

  -- after a line that fits, the same is so
  sound_beyond : Sound (beyond known it)
  sound_beyond =
      compared last_type it.tag
      (λ h.
      by_test (eqb it.tag attribute_line)
      (λ e. rw e (record { counted = sound.counted; few = sound.few }))
      (λ e.
      rw e (record {
        counted = λ s. omega (arith, other_section it.tag h);
        few = rw (lt-leb it.tag last_type h) sound.few;
      })))
      (λ h.
      let f = type_fits h in
      rw (not_attribute it.tag h, le-leb it.tag last_type h, eq-eqb known.section 0 f.section) (record {
        counted = λ _. omega (arith, sound.counted f.section);
        few = omega (arith, f.room);
      }))

  -- a line that leaves the number of types at t or below is not the line of type t
  from_later : (t : ℕ) (items : List Item) → (beyond known it).types ≤ t → from_type t (it ∷ items) ≡ from_type t items
  unfolding from_type
  from_later t items past =
      compared last_type it.tag
      (λ h. rw (lt-leb it.tag last_type h))
      (λ h.
      let other : it.key ≡ t → ⊥ = λ e. omega (arith, beyond_type known it h, (type_fits h).key) in
      rw (le-leb it.tag last_type h, ne_eqb it.key t other))

-- the first of lawful lines fits, and the others are lawful after it
pub lawful_first :
    (known : Known) (it : Item) (items : List Item)
    → lawful_items known (it ∷ items) ≡ true
    → (fits known it ≡ true) × (lawful_items (beyond known it) items ≡ true)
unfolding lawful_items
lawful_first known it items h = (cond-true _ _).0 h

sound_unknown : Sound unknown
sound_unknown = record { counted = λ _. refl; few = omega arith }

few_types :
    (known : Known) (items : List Item)
    → Sound known
    → lawful_items known items ≡ true
    → known.types + types_in items ≤ 1024
unfolding types_in
few_types known [] sound lawful = omega (arith, sound.few)
few_types known (it ∷ items) sound lawful =
    let (fit, rest) = lawful_first known it items lawful in
    rw (← types_left known it items) (few_types (beyond known it) items (sound_beyond known it sound fit) rest)

here :
    (known : Known) (front : List Item) (it : Item) (more : List Item) (t : ℕ)
    → Sound known
    → lawful_items known (front ++ (it ∷ more)) ≡ true
    → it.tag ≤ last_type
    → t ≡ known.types + types_in front
    → (it.key ≡ t) × (from_type t (front ++ (it ∷ more)) ≡ some (it ∷ more))
unfolding types_in from_type
here known [] it more t sound lawful kind e =
    let (fit, rest) = lawful_first known it more lawful in
    let key : it.key ≡ t = omega (arith, (type_fits known it sound fit kind).key) in
    (key, rw (le-leb it.tag last_type kind, eq-eqb it.key t key))
here known (x ∷ front) it more t sound lawful kind e =
    let (fit, rest) = lawful_first known x (front ++ (it ∷ more)) lawful in
    let count : t ≡ (beyond known x).types + types_in front = e ∙ sym (types_left known x front) in
    let (key, from) = here (beyond known x) front it more t (sound_beyond known x sound fit) rest kind count in
    (key, from_later known x sound fit t (front ++ (it ∷ more)) (omega arith) ∙ from)

there :
    (known : Known) (items : List Item) (t : ℕ)
    → Sound known
    → lawful_items known items ≡ true
    → known.types ≤ t
    → t < known.types + types_in items
    → Placed known items t
unfolding types_in
there known [] t sound lawful low high = absurd (omega arith)
there known (x ∷ items) t sound lawful low high =
    let (fit, rest) = lawful_first known x items lawful in
    compared t (beyond known x).types
    (λ h.
    compared last_type x.tag
    (λ k. absurd (omega (arith, beyond_other known x k)))
    (λ k.
    record {
      front = [];
      it = x;
      more = items;
      split = refl;
      kind = k;
      before = omega (arith, beyond_type known x k);
    }))
    (λ h.
    let p = there (beyond known x) items t (sound_beyond known x sound fit) rest h (rw (types_left known x items) high) in
    record {
      front = x ∷ p.front;
      it = p.it;
      more = p.more;
      split = ap (λ xs. x ∷ xs) p.split;
      kind = p.kind;
      before = p.before ∙ types_left known x p.front;
    })

missing :
    (known : Known) (items : List Item) (t : ℕ)
    → Sound known
    → lawful_items known items ≡ true
    → known.types + types_in items ≤ t
    → from_type t items ≡ none
unfolding types_in from_type
missing known [] t sound lawful past = refl
missing known (x ∷ items) t sound lawful past =
    let (fit, rest) = lawful_first known x items lawful in
    let later : (beyond known x).types + types_in items ≤ t = rw (types_left known x items) past in
    from_later known x sound fit t items (omega arith)
    ∙ missing (beyond known x) items t (sound_beyond known x sound fit) rest later

module _ (items : List Item) (lawful : lawful_items unknown items ≡ true) where
  -- a schema has at most 1,024 types
  pub types_few : types_in items ≤ 1024
  types_few = omega (arith, few_types unknown items sound_unknown lawful)

  -- a type's line stands behind as many types as its number says, and is what is found of that number
  module _ (front : List Item) (it : Item) (more : List Item) (split : items ≡ front ++ (it ∷ more)) (kind : it.tag ≤ last_type) where
    pub type_number : it.key ≡ types_in front
    type_number = (here unknown front it more (types_in front) sound_unknown (rw split at lawful) kind (omega arith)).0

    pub type_here : from_type (types_in front) items ≡ some (it ∷ more)
    type_here =
        rw split (here unknown front it more (types_in front) sound_unknown (rw split at lawful) kind (omega arith)).1

  -- each number below the number of types is a type's
  pub type_there : (t : ℕ) → t < types_in items → TypeAt items t
  type_there t h =
      let p = there unknown items t sound_unknown lawful (omega arith) (omega arith) in
      let count : types_in p.front ≡ t = omega (arith, p.before) in
      record {
        front = p.front;
        it = p.it;
        more = p.more;
        split = p.split;
        before = count;
        kind = p.kind;
        number = type_number p.front p.it p.more p.split p.kind ∙ count;
        from = rw count at (type_here p.front p.it p.more p.split p.kind);
      }

  -- and no other number
  pub type_missing : (t : ℕ) → types_in items ≤ t → from_type t items ≡ none
  type_missing t h = missing unknown items t sound_unknown lawful (omega arith)

-- A type's line and its attributes.

-- lines begin with their attributes: an attribute goes on, another line ends them
pub attributes_on : (a : Item) (more : List Item) → a.tag ≡ attribute_line → attributes_of (a ∷ more) ≡ a ∷ attributes_of more
unfolding attributes_of
attributes_on a more e = rw (eq-eqb a.tag attribute_line e)

pub attributes_end : (it : Item) (more : List Item) → (it.tag ≡ attribute_line → ⊥) → attributes_of (it ∷ more) ≡ []
unfolding attributes_of
attributes_end it more other = rw (ne_eqb it.tag attribute_line other)

pub attributes_first : (items : List Item) → take (length (attributes_of items)) items ≡ attributes_of items
unfolding attributes_of
attributes_first [] = refl
attributes_first (it ∷ items) =
    by_test (eqb it.tag attribute_line)
    (λ e. rw e (ap (λ xs. it ∷ xs) (attributes_first items)))
    (λ e. rw e)

attributes : (known : Known) (items : List Item) → lawful_items known items ≡ true → Attributes known items
unfolding attributes_of AttributesBelow Ascends
attributes known [] lawful = record { below = tt; ascends = tt; few = omega arith }
attributes known (a ∷ items) lawful =
    let (fit, rest) = lawful_first known a items lawful in
    let later = attributes (beyond known a) items rest in
    by_test (eqb a.tag attribute_line)
    (λ e.
    let (room, tests) = (and-eq-true_iff (ltb 0 known.room) _).0 (rw e at fit) in
    let (field, bound) = (and-eq-true_iff (leb known.field a.key) _).0 tests in
    let below = rw e at later.below in
    let ascends = rw e at later.ascends in
    let few = rw e at later.few in
    record {
      below = rw e (eqb-true _ _ e, ltb-true _ _ bound, below);
      ascends = rw e (leb-true _ _ field, ascends);
      few = rw e (omega (arith, few, ltb-true 0 known.room room));
    })
    (λ e. record { below = rw e tt; ascends = rw e tt; few = rw e (omega arith) })

pub lawful_ascends : (known : Known) (items : List Item) → lawful_items known items ≡ true → Ascends known.field (attributes_of items)
lawful_ascends known items lawful = (attributes known items lawful).ascends

-- a type's line that fits, and the lawful lines after it
lines_here :
    (known : Known) (it : Item) (more : List Item) (t : ℕ)
    → Sound known
    → lawful_items known (it ∷ more) ≡ true
    → it.tag ≤ last_type
    → it.key ≡ t
    → TypeLines t it more
lines_here known it more t sound lawful kind number = record {
  kind = kind;
  number = number;
  small = omega (arith, f.key, f.room);
  element = λ e. omega (arith, f.element e);
  below = rw (← number, f.key) (rw same at after.below);
  ascends = rw same at after.ascends;
  few = omega (arith, fewest, room_most);
  plain = λ no_record no-action. empty (attributes_of more) (plain no_record no-action);
}
  where
    parts : (fits known it ≡ true) × (lawful_items (beyond known it) more ≡ true)
    parts = lawful_first known it more lawful

    f : TypeFits known it
    f = type_fits known it sound parts.0 kind

    after : Attributes (beyond known it) more
    after = attributes (beyond known it) more parts.1

    same : eqb it.tag attribute_line ≡ false
    same = not_attribute it.tag kind

    fewest : length (attributes_of more) ≤ room_after it.tag
    fewest = rw same at after.few

    room_most : room_after it.tag ≤ 64
    room_most =
        by_test (eqb it.tag record_type) (λ e. rw e (omega arith))
        (λ e.
        rw e
        (by_test (eqb it.tag action_type) (λ e. rw e (omega arith))
        (λ e. rw e (by_test (eqb it.tag entity_line) (λ e. rw e (omega arith)) (λ e. rw e (omega arith))))))

    plain : (it.tag ≡ record_type → ⊥) → (it.tag ≡ action_type → ⊥) → length (attributes_of more) ≤ 0
    plain no_record no-action =
        let no_entity : it.tag ≡ entity_line → ⊥ = λ e. omega arith in
        rw (ne_eqb it.tag record_type no_record, ne_eqb it.tag action_type no-action, ne_eqb it.tag entity_line no_entity)
        at fewest

    empty : (xs : List Item) → length xs ≤ 0 → xs ≡ []
    empty [] h = refl
    empty (x ∷ xs) h = absurd (omega arith)

lines_from :
    (known : Known) (items : List Item) (t : ℕ) (it : Item) (more : List Item)
    → Sound known
    → lawful_items known items ≡ true
    → from_type t items ≡ some (it ∷ more)
    → TypeLines t it more
unfolding from_type
lines_from known [] t it more sound lawful found = absurd (none-ne-some _ found)
lines_from known (x ∷ items) t it more sound lawful found =
    let (fit, rest) = lawful_first known x items lawful in
    let later = lines_from (beyond known x) items t it more (sound_beyond known x sound fit) rest in
    by_test (leb x.tag last_type && eqb x.key t)
    (λ e.
    let (kind, key) = (and-eq-true_iff (leb x.tag last_type) _).0 e in
    let given : some (x ∷ items) ≡ some (it ∷ more) = rw e at found in
    let line : x ≡ it = cc in
    let others : items ≡ more = cc in
    rw (line, others) at (lines_here known x items t sound lawful (leb-true _ _ kind) (eqb-true x.key t key)))
    (λ e. later (rw e at found))

-- what is found of a number in a lawful schema is so
pub type_lines :
    (items : List Item) → lawful_items unknown items ≡ true
    → (t : ℕ) (it : Item) (more : List Item)
    → from_type t items ≡ some (it ∷ more)
    → TypeLines t it more
type_lines items lawful t it more = lines_from unknown items t it more sound_unknown lawful

-- each attribute of such lines by itself
pub below_member :
    (t : ℕ) (attributes : List Item)
    → AttributesBelow t attributes
    → (a : Item)
    → Member a attributes
    → (a.tag ≡ attribute_line) × (a.value < t)
unfolding AttributesBelow
below_member t [] below a m = absurd (none_in_empty m)
below_member t (x ∷ more) below a m =
    elim (here-or-later m) [
      | inl e ↦ rw e (below.0, below.1)
      | inr later ↦ below_member t more below.2 a later
    ]

-- and behind others
pub attributes_below :
    (t : ℕ) (front : List Item) (a : Item) (rest : List Item)
    → AttributesBelow t (front ++ (a ∷ rest))
    → (a.tag ≡ attribute_line) × (a.value < t) × AttributesBelow t rest
unfolding AttributesBelow
attributes_below t [] a rest below = below
attributes_below t (x ∷ front) a rest below = attributes_below t front a rest below.2

-- The trie of a type.

-- the number of types that it is looked for among makes no difference
pub type_below_more : (n : ℕ) (items : List Item) (t : ℕ) → t < n → type_below n items t ≡ type_below (suc t) items t
unfolding type_below
type_below_more zero items t h = absurd (omega arith)
type_below_more (suc n) items t h =
    by_test (eqb t n)
    (λ e. rw (eqb-true t n e))
    (λ e.
    let less : t < n = omega (arith, eqb-false t n e) in
    rw e (type_below_more n items t less))

-- attributes of types below t give the same rows by functions that agree there
pub children_same :
    (f g : ℕ → List Row) (t : ℕ) (attributes : List Item)
    → ((u : ℕ) → u < t → f u ≡ g u)
    → AttributesBelow t attributes
    → children_of f attributes ≡ children_of g attributes
unfolding children_of AttributesBelow
children_same f g t [] agree below = refl
children_same f g t (a ∷ more) agree below = rw (agree a.value below.1, children_same f g t more agree below.2)

-- what is known of a type, from its line and those after it
module _ (items : List Item) (t : ℕ) (it : Item) (more : List Item) (found : from_type t items ≡ some (it ∷ more)) where
  pub kind-at : kind_at items t ≡ it.tag
  kind-at = rw (found, kind_at)

  pub element-at : element_at items t ≡ it.value
  element-at = rw (found, element_at)

  pub attributes-at : attributes_at items t ≡ attributes_of more
  attributes-at = rw (found, attributes_at)

-- a type's trie has the rows of its attributes, each with the trie of its type
pub type_children :
    (items : List Item)
    → lawful_items unknown items ≡ true
    → (t : ℕ) (it : Item) (more : List Item)
    → from_type t items ≡ some (it ∷ more)
    → type_below (suc t) items t ≡ children_of (λ u. type_below (suc u) items u) (attributes_of more)
unfolding type_below
type_children items lawful t it more found =
    rw (eq-eqb t t refl, attributes-at items t it more found)
    (children_same (type_below t items) (λ u. type_below (suc u) items u) t (attributes_of more)
    (λ u less. type_below_more t items u less)
    (type_lines items lawful t it more found).below)

-- The trie of ancestors.

-- a union goes as deep as the deeper of the two
turns_deepest : {a b c : List Row} → Turns a b c → deepest c ≡ larger (deepest a) (deepest b)
unfolding deepest
turns_deepest no_left = simp larger_max (omega arith)
turns_deepest no_right = simp larger_max (omega arith)
turns_deepest (left h more) = rw (turns_deepest more) (simp larger_max (omega arith))
turns_deepest (right h more) = rw (turns_deepest more) (simp larger_max (omega arith))
turns_deepest (both h more) = rw (turns_deepest more) (simp larger_max (omega (arith, h.depths)))

pub union_deepest : (a b : List Row) → deepest (union a b) ≡ larger (deepest a) (deepest b)
union_deepest a b = turns_deepest (union_turns a b)

-- so it is too deep exactly where one of the two is
pub union_too_deep : (a b : List Row) → is_too_deep (union a b) ≡ (is_too_deep a || is_too_deep b)
union_too_deep a b = rw (type_too_deep (union a b), union_deepest a b, larger_above, type_too_deep a, type_too_deep b)

-- the trie of a path with such a leaf goes as deep as the path is long
marked_deepest : (path : Path) → deepest (to_root_access_trie_with_leaf path marked_leaf) ≡ length path
unfolding deepest to_root_access_trie_with_leaf chain deeper
marked_deepest [] = refl
marked_deepest (step ∷ steps) =
    path_deepest (step ∷ steps) marked_leaf (omega arith)
    ∙ by_test (eqb (suc (length steps)) 1) (λ e. rw e (omega arith)) (λ e. rw e (omega arith))

-- paths with such a leaf make a trie as deep as it was, or as the longest path is long
pub added_deepest :
    (trie : List Row) (paths : List Path)
    → deepest (add_paths trie paths marked_leaf) ≡ larger (deepest trie) (longest paths)
unfolding union_all longest
added_deepest trie [] = simp larger_max (omega arith)
added_deepest trie (path ∷ paths) =
    rw (added_deepest (add_access_path trie path marked_leaf) paths, union_deepest, marked_deepest path)
    (simp larger_max (omega arith))

pub ancestor_deep : (paths : List Path) → deepest (add_paths [] paths marked_leaf) ≡ longest paths
unfolding deepest
ancestor_deep paths = rw (added_deepest [] paths) (simp larger_max (omega arith))

-- Literals against types.

-- attributes that ascend from past f do not give f
pub attribute_past : (f least : ℕ) (attributes : List Item) → f < least → Ascends least attributes → attribute_type f attributes ≡ none
unfolding attribute_type Ascends
attribute_past f least [] past ascends = refl
attribute_past f least (a ∷ more) past ascends =
    let other : a.key ≡ f → ⊥ = λ e. omega arith in
    rw (ne_eqb a.key f other) (attribute_past f (a.key + 1) more (omega arith) ascends.1)

-- where attributes give field f the type v: at one of that field and type
pub record AttributeAt (f v : ℕ) (attributes : List Item) : Type 0 where
  pub front : List Item
  pub a : Item
  pub rest : List Item
  pub split : attributes ≡ front ++ (a ∷ rest)
  pub field : a.key ≡ f
  pub type : a.value ≡ v

pub attribute_stands : (f v : ℕ) (attributes : List Item) → attribute_type f attributes ≡ some v → AttributeAt f v attributes
unfolding attribute_type
attribute_stands f v [] given = absurd (none-ne-some v given)
attribute_stands f v (x ∷ more) given =
    let later = attribute_stands f v more in
    by_test (eqb x.key f)
    (λ e.
    let first : some x.value ≡ some v = rw e at given in
    record { front = []; a = x; rest = more; split = refl; field = eqb-true x.key f e; type = cc })
    (λ e.
    let h = later (rw e at given) in
    record {
      front = x ∷ h.front;
      a = h.a;
      rest = h.rest;
      split = ap (λ xs. x ∷ xs) h.split;
      field = h.field;
      type = h.type;
    })
