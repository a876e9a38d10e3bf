-- Laws of wrapped paths against types (Required): the types that wait for what a head wraps, and the walk from head to head. No contract cites
-- this file.
use Rattle.std.specs.Prelude.{Option as Maybe, Some, None, ℕ, suc, ◌+◌, ◌-◌, ◌*◌, ◌/◌, ◌%◌, ◌^◌, ◌≤◌, ◌<◌, Bool, true, false, cond, ◌&&◌, ◌≡◌, eqb, replicate, set, take, drop, get_or}
use native.Mathlib.Omega.{arith}
use Rattle.std.proofs.Math.Bool.{and-false}
use mathlib.Core.List.{List, [], ◌∷◌, ◌++◌, map, map-append, append_assoc, append-nil, reverse, reverse-cons, reverse-append}
use Rattle.std.proofs.Math.Option.{Option, none, some}
use Rattle.std.proofs.Math.Path.{refl, sym, ap}
use Rattle.std.proofs.Common.{◌∙◌, eq-eqb, ne_eqb, eqb-true, length-set, length-take-le, drop-cons, take_at, take-take, get_or-take}
use Rattle.std.proofs.Math.ListN.{length, length-map, length-append}
use Rattle.std.proofs.lemmas.List.{length-reverse, get_or_at}
use Rattle.std.proofs.Math.Seq.{drop-length}
use Rattle.rules.specs.Facts.{by_test, cond-some}
use Rattle.rules.specs.Listing.{◌>>=◌}
use Rattle.rules.specs.Schema.{Item, set_type, record_type, attributes_of}
use Rattle.rules.specs.Paths.{Taken, attributes_at, Paths, Empty, AccessPath, Union, RecordLiteral, SetLiteral, Fields, no_field, field, has_all, nodes_of, paths_in, kind_at, element_at, attribute_type, full_type_required, fields_required}
use Rattle.rules.proofs.StepLaws.{Each, IsPath, AllPaths, each_append, each_split}
use Rattle.rules.proofs.TypeLaws.{Ascends, attributes_below, attribute_stands, types_in, types_few}
use Rattle.schema.specs.Items.{items_of}
use Rattle.wrapped_paths.specs.declared.WrappedAccessPaths.{WrappedAccessPaths}
use Rattle.wrapped_paths.specs.declared.WrappedAccessPaths.TheVariants.{Empty as EmptyHead, AccessPath as PathHead, Union as UnionHead, RecordLiteral as RecordHead, SetLiteral as SetHead}
use Rattle.type_table.specs.declared.types.Types.{Types}
use Rattle.wrapped_paths.specs.Code.{head_of, size_of, wraps_of, count_in, names_in, code, codes, nodes_of_all, Standing, Measures}
use Rattle.wrapped_paths.specs.Turns.{Noted}
use Rattle.wrapped_paths.specs.CodeLaws.{field_paths, head_for, unwrapped, own_path, paths_in_all, kind_small, paths_next, path_there, unwrapped_many, names_many, paths_within, nodes_turn, nodes_words, many_nodes, Ahead, next_of, next_within, next_room, next_head_word, next_head, next_ahead, nodes_next, words_next, noted_none, noted_one}
use Rattle.wrapped_paths.specs.AttrLaws.{stands_alone, head_here, behind_it, literal_names, empty_of, path_of, union-of, record_of, set-of}
use Rattle.type_table.specs.NamedLaws.{attributes_cut, attributes_inside}
use Rattle.type_table.specs.TypeTableLaws.{good_lawful, TypeStands, tabled_stands, tabled_inside, stands_kind, stands_element, stands_attributes}
use Rattle.full_types.specs.Pairs.{taken_at, AllPairs}
use Rattle.type_table.specs.Tables.{type_place, KnownType}
use Rattle.rows.specs.Words.{number_for}
use Rattle.full_types.specs.Required.{passed_over, type_or, field_types, set_awaits, awaits, Stacked, StackedBy, RecordStacked, PathsStacked, Meeting, pairs_for, TypesTook, RequiredBy}

-- ---- the type of a field, as a number that is 0 where there is none

pub field_none : (o : Option ℕ) → number_for o ≡ 0 → passed_over ≡ type_or o
field_none none e = refl
field_none (some t) e = absurd (omega (arith, e))

pub field_some : (o : Option ℕ) → (number_for o ≡ 0 → ⊥) → number_for o - 1 ≡ type_or o
field_some none e = absurd (e refl)
field_some (some t) e = omega arith

-- ---- a type of the schema, and its attributes between two places

module _ {words table : List ℕ} {t : ℕ} (k : KnownType words table t) where
  pub known_inside : t < length table
  known_inside = tabled_inside words table k.types.good-items k.types.tabled k.known

  pub known_stands : {place : ℕ} → place ≡ type_place (get_or table t 0) → TypeStands words t place
  known_stands e = tabled_stands words table k.types.good-items k.types.tabled k.known e

module _ {words : List ℕ} {t place end : ℕ} (here : TypeStands words t place) (ends : end ≡ place + 1 + length (attributes_of (items_of (drop (place + 1) words)))) where
  pub type_inside : end ≤ length words
  type_inside = attributes_inside words (place + 1) ends (omega (arith, here.inside))

  pub type_cut : items_of (take (end - (place + 1)) (drop (place + 1) words)) ≡ attributes_at (items_of words) t
  type_cut = attributes_cut words (place + 1) ends ∙ sym (stands_attributes here)

  pub type_ascends : Ascends 0 (items_of (take (end - (place + 1)) (drop (place + 1) words)))
  type_ascends = rw (type_cut, stands_attributes here) here.lines.ascends

-- ---- types come on top of those that wait

noted_then : {places places₁ places₂ xs ys : List ℕ} {n n₁ n₂ : ℕ} → Noted places n xs places₁ n₁ → Noted places₁ n₁ ys places₂ n₂ → Noted places n (xs ++ ys) places₂ n₂
noted_then first rest = record { in_places = rest.in_places; there = rest.there ∙ rw (first.there, append_assoc) }

-- those of the fields from the i-th on
pub record Fielding (attributes : List Item) (names before : List ℕ) (left : ℕ) (waiting : List ℕ) (more i : ℕ) : Type 0 where
  pub inside : i ≤ length names
  pub counted : more + i ≡ left + length names
  pub same_length : length waiting ≡ length before
  pub there : Noted before left (reverse (field_types attributes (drop i names))) waiting more

pub fielding_none :
    (attributes : List Item) (names waiting : List ℕ) (left : ℕ)
    → left + length names ≤ length waiting
    → Fielding attributes names waiting left waiting left (length names)
fielding_none attributes names waiting left room = record {
  inside = omega arith;
  counted = refl;
  same_length = refl;
  there = rw (drop-length names) (noted_none waiting left (omega arith));
}

module _ {attributes : List Item} {names before : List ℕ} {left : ℕ} {waiting : List ℕ} {more i : ℕ} (fielding : Fielding attributes names before left waiting more i) where
  -- none is left
  pub fielding_all : i ≤ 0 → Noted before left (reverse (field_types attributes names)) waiting more
  fielding_all h = let first : i ≡ 0 = omega arith in rw first at fielding.there

  module _ (some_left : 0 < i) (room : left + length names ≤ length before) where
    pub fielding_room : more < length waiting
    fielding_room = omega (arith, fielding.counted, fielding.same_length)

    pub fielding_next :
        {t : ℕ}
        → t ≡ type_or (attribute_type (get_or names (i - 1) 0) attributes)
        → Fielding attributes names before left (set waiting more t) (more + 1) (i - 1)
    fielding_next {t} e = record {
      inside = omega (arith, fielding.inside);
      counted = omega (arith, fielding.counted);
      same_length = length-set waiting more t ∙ fielding.same_length;
      there = rw opened (noted_then fielding.there (rw (← e) (noted_one waiting more t fielding_room)));
    }
      where
        last : suc (i - 1) ≡ i
        last = omega arith

        from-here : drop (i - 1) names ≡ get_or names (i - 1) 0 ∷ drop i names
        from-here =
            drop-cons names (i - 1) 0 (omega (arith, fielding.inside)) ∙ ap (λ (n : ℕ). get_or names (i - 1) 0 ∷ drop n names) last

        opened :
            reverse (field_types attributes (drop (i - 1) names))
            ≡ reverse (field_types attributes (drop i names)) ++ (type_or (attribute_type (get_or names (i - 1) 0) attributes) ∷ [])
        opened =
            ap (λ (l : List ℕ). reverse (field_types attributes l)) from-here
            ∙ reverse-cons (type_or (attribute_type (get_or names (i - 1) 0) attributes)) (field_types attributes (drop i names))

-- ---- a literal against a type that stands at a place

module _ {schema : List ℕ} {t place : ℕ} (here : TypeStands schema t place) where
  pub set-none : (get_or schema place 0 % 16 ≡ set_type → ⊥) → set_awaits (items_of schema) t ≡ none
  set-none other = rw (ne_eqb (kind_at (items_of schema) t) set_type (λ e. other (sym (stands_kind here) ∙ e)))

  pub set_stacked :
      (waiting : List ℕ) (left : ℕ)
      → get_or schema place 0 % 16 ≡ set_type
      → left < length waiting
      → Stacked (set_awaits (items_of schema) t) waiting left (set waiting left (get_or schema place 0 / 16 % 2 ^ 36)) (left + 1)
  set_stacked waiting left kind room = record {
    new = element_at (items_of schema) t ∷ [];
    awaited = rw (eq-eqb (kind_at (items_of schema) t) set_type (stands_kind here ∙ kind));
    there = rw (stands_element here) (noted_one waiting left (get_or schema place 0 / 16 % 2 ^ 36) room);
  }

  module _ (words : List ℕ) (at n : ℕ) (waiting : List ℕ) (left : ℕ) where
    pub record_none :
        (get_or schema place 0 % 16 ≡ record_type → ⊥) → RecordStacked words (items_of schema) at t waiting left waiting None
    record_none other fields rest coded =
        rw (ne_eqb (kind_at (items_of schema) t) record_type (λ e. other (sym (stands_kind here) ∙ e)))

    module _
        (head : RecordHead n ≡ head_of (get_or words at 0))
        (kind : get_or schema place 0 % 16 ≡ record_type)
        {has : Bool}
        (asked :
        (fields : Fields) → take (at + 1 + n - (at + 1)) (drop (at + 1) words) ≡ names_in fields → has ≡ has_all fields (attributes_at (items_of schema) t))
      where
        module _ (fields : Fields) (rest : List ℕ) (coded : drop at words ≡ code (RecordLiteral fields) ++ rest) where
          many : count_in fields ≡ n
          many = let same : RecordHead (count_in fields) ≡ RecordHead n = sym (head ∙ head_here words rest (RecordLiteral fields) at coded) in cc

          names : take (at + 1 + n - (at + 1)) (drop (at + 1) words) ≡ names_in fields
          names = literal_names (record { as_many = many; coded = coded })

        -- some attribute is not named
        pub record_lacks : has ≡ false → RecordStacked words (items_of schema) at t waiting left waiting None
        record_lacks lacks fields rest coded =
            rw (sym (asked fields (names fields rest coded)) ∙ lacks, and-false (eqb (kind_at (items_of schema) t) record_type))

        -- all are
        pub record_stacked :
            (attributes : List ℕ) {waiting' : List ℕ} {more : ℕ}
            → has ≡ true
            → items_of attributes ≡ attributes_at (items_of schema) t
            → Noted waiting left (reverse (field_types (items_of attributes) (take (at + 1 + n - (at + 1)) (drop (at + 1) words)))) waiting' more
            → RecordStacked words (items_of schema) at t waiting left waiting' (Some more)
        record_stacked attributes Has-All same noted fields rest coded = record {
          new = field_types (attributes_at (items_of schema) t) (names_in fields);
          awaited =
              rw (eq-eqb (kind_at (items_of schema) t) record_type (stands_kind here ∙ kind), sym (asked fields (names fields rest coded)) ∙ Has-All);
          there = rw (same, names fields rest coded) at noted;
        }

-- ---- what waits after a head, by its kind

module _ (words : List ℕ) (items : List Item) (at t : ℕ) (waiting : List ℕ) (left : ℕ) where
  pub empty_stacked : EmptyHead ≡ head_of (get_or words at 0) → left ≤ length waiting → PathsStacked words items at t waiting left waiting (Some left)
  empty_stacked head inside q rest coded =
      rw (empty_of q (sym (head ∙ head_here words rest q at coded)))
      (record { new = []; awaited = refl; there = noted_none waiting left inside })

  pub path_stacked :
      {kind steps : ℕ} → PathHead kind steps ≡ head_of (get_or words at 0) → left ≤ length waiting → PathsStacked words items at t waiting left waiting (Some left)
  path_stacked {kind} {steps} head inside q rest coded =
      rw (path_of q kind steps (sym (head ∙ head_here words rest q at coded))).1
      (record { new = []; awaited = refl; there = noted_none waiting left inside })

  pub union_stacked :
      UnionHead ≡ head_of (get_or words at 0)
      → left + 1 < length waiting
      → PathsStacked words items at t waiting left (set (set waiting left t) (left + 1) t) (Some (left + 2))
  union_stacked head inside q rest coded =
      let two : left + 2 ≡ left + 1 + 1 = omega arith in
      rw ((union-of q (sym (head ∙ head_here words rest q at coded))).2, two)
      (record {
        new = t ∷ t ∷ [];
        awaited = refl;
        there =
            noted_then (noted_one waiting left t (omega arith))
            (noted_one (set waiting left t) (left + 1) t (rw length-set (omega arith)));
      })

  module _ (waiting' : List ℕ) (r : Maybe ℕ) where
    pub set_awaited :
        SetHead ≡ head_of (get_or words at 0) → StackedBy (set_awaits items t) waiting left waiting' r → PathsStacked words items at t waiting left waiting' r
    set_awaited head stacked q rest coded = rw (set-of q (sym (head ∙ head_here words rest q at coded))).1 stacked

    pub record_awaited :
        {n : ℕ}
        → RecordHead n ≡ head_of (get_or words at 0)
        → RecordStacked words items at t waiting left waiting' r
        → PathsStacked words items at t waiting left waiting' r
    record_awaited {n} head stacked q rest coded =
        let (fields, same, many) = record_of q n (sym (head ∙ head_here words rest q at coded)) in
        rw same (stacked fields rest (rw same at coded))

-- there is room for what waits
module _ {words : List ℕ} {at : ℕ} {head : WrappedAccessPaths} {types : Types} {t : ℕ} {waiting : List ℕ} {left : ℕ} (m : Meeting words at head types t waiting left) where
  met_head : head_for m.paths ≡ head
  met_head = sym (m.said ∙ head_here words m.rest m.paths at m.coded)

  pub meeting_room : left + 1 + wraps_of head ≤ length waiting
  meeting_room =
      omega (arith, m.room, nodes_turn m.paths, many_nodes (unwrapped m.paths), unwrapped_many m.paths, ap wraps_of met_head)

  pub meeting_within : at + 1 + size_of head ≤ length words
  meeting_within = omega (arith, next_room (stands_alone words m.rest m.paths at m.coded), ap size_of met_head)

  pub meeting_as : {said : WrappedAccessPaths} → head ≡ said → Meeting words at said types t waiting left
  meeting_as e = record {
    paths = m.paths;
    rest = m.rest;
    coded = m.coded;
    said = sym e ∙ m.said;
    known = m.known;
    room = m.room;
  }

-- only the head of a path gives a pair
pub no_pairs : (head : WrappedAccessPaths) (at t : ℕ) → ((kind steps : ℕ) → head ≡ PathHead kind steps → ⊥) → pairs_for head at t ≡ []
no_pairs EmptyHead at t other = refl
no_pairs (PathHead kind steps) at t other = absurd (other kind steps refl)
no_pairs UnionHead at t other = refl
no_pairs SetHead at t other = refl
no_pairs (RecordHead fields) at t other = refl

-- ---- what wrapped paths give, one after the other

abbrev joined : Option (List Taken) → Option (List Taken) → Option (List Taken)
joined o p = o >>= (λ first. p >>= (λ rest. some (first ++ rest)))

joined_first : (o : Option (List Taken)) → joined (some []) o ≡ o
joined_first none = refl
joined_first (some taken) = refl

joined_last : (o : Option (List Taken)) → joined o (some []) ≡ o
joined_last none = refl
joined_last (some taken) = rw append-nil

joined_assoc : (o p q : Option (List Taken)) → joined (joined o p) q ≡ joined o (joined p q)
joined_assoc none p q = refl
joined_assoc (some a) none q = refl
joined_assoc (some a) (some b) none = refl
joined_assoc (some a) (some b) (some c) = rw append_assoc

joined_on :
    (done own : List Taken) (wrapped rest : Option (List Taken))
    → joined (some done) (joined (joined (some own) wrapped) rest) ≡ joined (some (done ++ own)) (joined wrapped rest)
joined_on done own wrapped rest =
    ap (joined (some done)) (joined_assoc (some own) wrapped rest) ∙ sym (joined_assoc (some done) (some own) (joined wrapped rest))

-- nothing where they are passed over
abbrev required_or : List Item → Paths → ℕ → Option (List Taken)
required_or items paths t = cond (eqb t passed_over) (some []) (full_type_required items paths t)

unfoldable pub all_required : List Item → List Paths → List ℕ → Option (List Taken)
all_required items [] ts = some []
all_required items (paths ∷ more) [] = some []
all_required items (paths ∷ more) (t ∷ ts) = joined (required_or items paths t) (all_required items more ts)

all_append :
    (items : List Item) (qs more : List Paths) (ts us : List ℕ)
    → length ts ≡ length qs
    → all_required items (qs ++ more) (ts ++ us) ≡ joined (all_required items qs ts) (all_required items more us)
unfolding all_required
all_append items [] more [] us e = sym (joined_first (all_required items more us))
all_append items [] more (t ∷ ts) us e = absurd (omega arith)
all_append items (q ∷ qs) more [] us e = absurd (omega arith)
all_append items (q ∷ qs) more (t ∷ ts) us e =
    rw (all_append items qs more ts us (omega arith))
    (sym (joined_assoc (required_or items q t) (all_required items qs ts) (all_required items more us)))

-- a type is below all numbers past the types
required-or : (items : List Item) (q : Paths) (t : ℕ) → t < 1024 → required_or items q t ≡ full_type_required items q t
required-or items q t h = rw (ne_eqb t passed_over (λ e. omega arith))

one_required : (items : List Item) (q : Paths) (t : ℕ) → t < 1024 → all_required items (q ∷ []) (t ∷ []) ≡ full_type_required items q t
unfolding all_required
one_required items q t h = joined_last (required_or items q t) ∙ required-or items q t h

-- ---- a type, and the types that it refers to

abbrev Known : ℕ → ℕ → Type 0
Known types t = (t ≡ passed_over → ⊥) → t < types

pub record Refers (items : List Item) (t : ℕ) : Type 0 where
  pub known : t < types_in items
  pub few : types_in items ≤ 1024
  element : kind_at items t ≡ set_type → element_at items t < types_in items
  attribute : (name u : ℕ) → attribute_type name (attributes_at items t) ≡ some u → u < types_in items

pub refers : {words table : List ℕ} {t : ℕ} → KnownType words table t → Refers (items_of words) t
refers {words} {table} {t} k = record {
  known = k.known;
  few = types_few (items_of words) (good_lawful words k.types.good-items);
  element = λ e. omega (arith, here.lines.element (sym (stands_kind here) ∙ e), stands_element here, k.known);
  attribute = λ name u e.
      let at = attribute_stands name u (attributes_of (items_of (drop (type_place (get_or table t 0) + 1) words))) (rw (stands_attributes here) at e) in
      let (tag, lower, rest) = attributes_below t at.front at.a at.rest (rw at.split at here.lines.below) in
      omega (arith, at.type, k.known);
}
  where
    here : TypeStands words t (type_place (get_or table t 0))
    here = known_stands k refl

-- ---- one head, and what it wraps

-- the path that it is, with its type
abbrev own_taken : Paths → ℕ → List Taken
own_taken Empty t = []
own_taken (AccessPath path) t = record { path = path; type = t } ∷ []
own_taken (Union left right) t = []
own_taken (RecordLiteral fields) t = []
own_taken (SetLiteral elements) t = []

fields_turn :
    (items attributes : List Item) (fields : Fields)
    → ((name u : ℕ) → attribute_type name attributes ≡ some u → u < 1024)
    → fields_required items fields attributes ≡ all_required items (field_paths fields) (field_types attributes (names_in fields))
unfolding fields_required all_required field_paths names_in
fields_turn items attributes no_field lower = refl
fields_turn items attributes (field name paths fields) lower =
    go (attribute_type name attributes) (lower name) (fields_turn items attributes fields lower)
  where
    go :
        (type : Option ℕ)
        → ((u : ℕ) → type ≡ some u → u < 1024)
        → fields_required items fields attributes ≡ all_required items (field_paths fields) (field_types attributes (names_in fields))
        → elim type [ none ↦ fields_required items fields attributes | some t ↦ joined (full_type_required items paths t) (fields_required items fields attributes) ]
        ≡ joined (required_or items paths (type_or type)) (all_required items (field_paths fields) (field_types attributes (names_in fields)))
    go none below rest = rw (← rest) (sym (joined_first (fields_required items fields attributes)))
    go (some t) below rest = rw (required-or items paths t (below t refl), rest)

module _ {items : List Item} {t : ℕ} (r : Refers items t) where
  required_turn : (q : Paths) → full_type_required items q t ≡ (awaits items q t >>= (λ ts. joined (some (own_taken q t)) (all_required items (unwrapped q) ts)))
  unfolding full_type_required all_required
  required_turn Empty = refl
  required_turn (AccessPath path) = refl
  required_turn (Union left right) =
      let small : t < 1024 = omega (arith, r.known, r.few) in
      rw (
        joined_first (joined (required_or items right t) (joined (required_or items left t) (some []))),
        joined_last (required_or items left t),
        required-or items right t small,
        required-or items left t small,
      )
  required_turn (RecordLiteral fields) =
      by_test (eqb (kind_at items t) record_type && has_all fields (attributes_at items t))
      (λ e.
      rw (e, joined_first (all_required items (field_paths fields) (field_types (attributes_at items t) (names_in fields))))
      (fields_turn items (attributes_at items t) fields (λ name u given. omega (arith, r.attribute name u given, r.few))))
      (λ e. rw e)
  required_turn (SetLiteral elements) =
      by_test (eqb (kind_at items t) set_type)
      (λ e.
      rw (e, joined_first (all_required items (elements ∷ []) (element_at items t ∷ [])))
      (sym (one_required items elements (element_at items t) (omega (arith, r.element (eqb-true (kind_at items t) set_type e), r.few)))))
      (λ e. rw e)

  -- one type waits for each, and each is a type or passed over
  field_known : (names : List ℕ) → Each (Known (types_in items)) (field_types (attributes_at items t) names)
  unfolding Each
  field_known [] = tt
  field_known (name ∷ names) = (go (attribute_type name (attributes_at items t)) (r.attribute name), field_known names)
    where
      go : (type : Option ℕ) → ((u : ℕ) → type ≡ some u → u < types_in items) → Known (types_in items) (type_or type)
      go none below = λ other. absurd (other refl)
      go (some u) below = λ other. below u refl

  awaits_each : (q : Paths) (new : List ℕ) → awaits items q t ≡ some new → (length new ≡ length (unwrapped q)) × Each (Known (types_in items)) new
  unfolding Each
  awaits_each Empty new e = let same : [] ≡ new = cc in rw (← same) (refl, tt)
  awaits_each (AccessPath path) new e = let same : [] ≡ new = cc in rw (← same) (refl, tt)
  awaits_each (Union left right) new e =
      let same : t ∷ t ∷ [] ≡ new = cc in rw (← same) (refl, ((λ other. r.known), ((λ other. r.known), tt)))
  awaits_each (RecordLiteral fields) new e =
      let (test, given) = cond-some (eqb (kind_at items t) record_type && has_all fields (attributes_at items t)) _ new e in
      let same : field_types (attributes_at items t) (names_in fields) ≡ new = cc in
      rw (← same) (
        length-map (names_in fields) (λ name. type_or (attribute_type name (attributes_at items t))) ∙ names_many fields ∙ sym (paths_within fields),
        field_known (names_in fields),
      )
  awaits_each (SetLiteral elements) new e =
      let (test, given) = cond-some (eqb (kind_at items t) set_type) _ new e in
      let same : element_at items t ∷ [] ≡ new = cc in
      rw (← same) (refl, ((λ other. r.element (eqb-true (kind_at items t) set_type test)), tt))

-- ---- the walk

-- what is on top of those that wait, and what is below it
module _ (waiting ts : List ℕ) (t left : ℕ) (stacked : take left waiting ≡ reverse (t ∷ ts)) (as_many : suc (length ts) ≡ left) where
  opened : take left waiting ≡ reverse ts ++ (t ∷ [])
  opened = stacked ∙ reverse-cons t ts

  below_many : length (reverse ts) ≡ left - 1
  below_many = omega (arith, length-reverse ts)

  top_is : get_or waiting (left - 1) 0 ≡ t
  top_is =
      sym (get_or-take left waiting (left - 1) 0 (omega arith))
      ∙ ap (λ (l : List ℕ). get_or l (left - 1) 0) opened
      ∙ get_or_at (reverse ts) t [] 0 (left - 1) below_many

  below_top : take (left - 1) waiting ≡ reverse ts
  below_top =
      sym (take-take (left - 1) left waiting (omega arith))
      ∙ ap (λ (l : List ℕ). take (left - 1) l) opened
      ∙ take_at (reverse ts) (t ∷ []) (left - 1) below_many

all_pairs_append :
    (words : List ℕ) (types : ℕ) (xs ys : List ℕ) → AllPairs words types xs → AllPairs words types ys → AllPairs words types (xs ++ ys)
unfolding AllPairs
all_pairs_append words types [] ys px py = py
all_pairs_append words types (x ∷ xs) ys px py = (px.0, (px.1.0, all_pairs_append words types xs ys px.1.1 py))

-- the pair of a head is its path and the type
module _ {words rest : List ℕ} {qs : List Paths} {from left : ℕ} (t types : ℕ) (small : t < 1024) (less : t < types) where
  own_pairs : (q : Paths) → Ahead words rest (q ∷ qs) from left → AllPairs words types (pairs_for (head_for q) from t)
  unfolding AllPairs
  own_pairs Empty a = tt
  own_pairs (AccessPath path) a =
      let place : (from * 1024 + t) / 1024 ≡ from = omega arith in
      let type : (from * 1024 + t) % 1024 ≡ t = omega arith in
      rw (place, type) (omega (arith, next_head_word a, next_room a, kind_small path), (less, tt))
  own_pairs (Union l r) a = tt
  own_pairs (RecordLiteral fields) a = tt
  own_pairs (SetLiteral elements) a = tt

  own-taken : (q : Paths) → Each IsPath (own_path q) → Ahead words rest (q ∷ qs) from left → map (taken_at words) (pairs_for (head_for q) from t) ≡ own_taken q t
  unfolding Each
  own-taken Empty good a = refl
  own-taken (AccessPath path) good a =
      let place : (from * 1024 + t) / 1024 ≡ from = omega arith in
      let type : (from * 1024 + t) % 1024 ≡ t = omega arith in
      rw (place, type, path_there path good.0.steps a)
  own-taken (Union l r) good a = refl
  own-taken (RecordLiteral fields) good a = refl
  own-taken (SetLiteral elements) good a = refl

pairs_few : (h : WrappedAccessPaths) (at t : ℕ) → length (pairs_for h at t) ≤ 1
pairs_few EmptyHead at t = omega arith
pairs_few (PathHead kind steps) at t = omega arith
pairs_few UnionHead at t = omega arith
pairs_few SetHead at t = omega arith
pairs_few (RecordHead fields) at t = omega arith

noted_many : {places more places' : List ℕ} {n n' : ℕ} → n ≤ length places → Noted places n more places' n' → n' ≡ n + length more
noted_many {places} {more} {places'} {n} {n'} inside noted =
    omega (arith, length-take-le n' places' noted.in_places, ap length noted.there, length-append (take n places) more, length-take-le n places inside)

-- the pairs so far, and the types that wait for what is ahead
pub record TypesWait (words rest : List ℕ) (items : List Item) (paths : Paths) (t at : ℕ) (waiting pairs : List ℕ) (from left count : ℕ) : Type 0 where
  pub qs : List Paths
  pub ts : List ℕ
  pub ahead : Ahead words rest qs from left
  pub as_many : length ts ≡ left
  pub stacked : take left waiting ≡ reverse ts
  pub known : Each (Known (types_in items)) ts
  pub few : count + nodes_of_all qs ≤ nodes_of paths
  pub good : AllPaths (paths_in_all qs)
  pub ends : from + length (codes qs) ≡ at + length (code paths)
  pub in_pairs : count ≤ length pairs
  pub all_pairs : AllPairs words (types_in items) (take count pairs)
  pub required : full_type_required items paths t ≡ joined (some (map (taken_at words) (take count pairs))) (all_required items qs ts)

-- whatever stands there
pub record Walking (words : List ℕ) (items : List Item) (t at : ℕ) (waiting pairs : List ℕ) (from left count : ℕ) : Type 0 where
  pub stack : length waiting ≡ 256
  pub places : length pairs ≡ 256
  pub all :
      (paths : Paths) (rest : List ℕ)
      → drop at words ≡ code paths ++ rest
      → AllPaths (paths_in paths)
      → TypesWait words rest items paths t at waiting pairs from left count

pub walking_first :
    (words schema pairs : List ℕ) {table : List ℕ} {t : ℕ} (at : ℕ)
    → KnownType schema table t
    → length pairs ≡ 256
    → Walking words (items_of schema) t at (replicate 256 t) pairs at 1 0
unfolding codes nodes_of_all paths_in_all AllPairs Each
walking_first words schema pairs {table} {t} at k places = record {
  stack = refl;
  places = places;
  all = λ paths rest coded good. record {
    qs = paths ∷ [];
    ts = t ∷ [];
    ahead = stands_alone words rest paths at coded;
    as_many = refl;
    stacked = refl;
    known = ((λ other. k.known), tt);
    few = omega arith;
    good = rw append-nil good;
    ends = rw append-nil;
    in_pairs = omega arith;
    all_pairs = tt;
    required =
        sym (joined_first (all_required (items_of schema) (paths ∷ []) (t ∷ []))
        ∙ one_required (items_of schema) paths t (omega (arith, (refers k).known, (refers k).few)));
  };
}

module _
    {words rest : List ℕ}
    {items : List Item}
    {paths : Paths}
    {t at : ℕ}
    {waiting pairs : List ℕ}
    {from left count : ℕ}
    (w : TypesWait words rest items paths t at waiting pairs from left count)
  where
    -- none is left
    pub waits_done : left ≤ 0 → RequiredBy words items paths t at pairs (Some (record { end = from; pairs = count }))
    unfolding all_required codes
    waits_done none_left = go w.qs w.ahead.as_many w.ends w.required
      where
        go :
            (qs : List Paths)
            → length qs ≡ left
            → from + length (codes qs) ≡ at + length (code paths)
            → full_type_required items paths t ≡ joined (some (map (taken_at words) (take count pairs))) (all_required items qs w.ts)
            → TypesTook words items paths t at pairs from count
        go [] many ends required = record {
          ends = omega arith;
          in_pairs = w.in_pairs;
          all_pairs = w.all_pairs;
          required = required ∙ joined_last (some (map (taken_at words) (take count pairs)));
        }
        go (q ∷ qs) many ends required = absurd (omega arith)

    -- there is a node for each
    pub waits_few : left ≤ nodes_of paths
    waits_few = omega (arith, w.few, w.ahead.as_many, many_nodes w.qs)

    module _ (some_left : 0 < left) where
      next_paths : (q : Paths) × (more : List Paths) × (w.qs ≡ q ∷ more)
      next_paths = next_of w.qs w.ahead.as_many some_left

      next_type : (u : ℕ) × (us : List ℕ) × (w.ts ≡ u ∷ us)
      next_type = next_of w.ts w.as_many some_left

      here : Ahead words rest (next_paths.0 ∷ next_paths.1) from left
      here = rw next_paths.2 at w.ahead

      waits_many : suc (length next_type.1) ≡ left
      waits_many = ap length (sym next_type.2) ∙ w.as_many

      top_type : get_or waiting (left - 1) 0 ≡ next_type.0
      top_type = top_is waiting next_type.1 next_type.0 left (w.stacked ∙ ap reverse next_type.2) waits_many

      below_type : take (left - 1) waiting ≡ reverse next_type.1
      below_type = below_top waiting next_type.1 next_type.0 left (w.stacked ∙ ap reverse next_type.2) waits_many

      nodes_here : nodes_of_all w.qs ≡ nodes_of next_paths.0 + nodes_of_all next_paths.1
      unfolding nodes_of_all
      nodes_here = ap nodes_of_all next_paths.2

      coded_here : drop from words ≡ code next_paths.0 ++ (codes next_paths.1 ++ rest)
      unfolding codes
      coded_here = here.coded ∙ append_assoc (code next_paths.0) (codes next_paths.1) rest

      abbrev so_far : Option (List Taken)
      so_far = some (map (taken_at words) (take count pairs))

      required_here :
          full_type_required items paths t
          ≡ joined so_far (joined (required_or items next_paths.0 next_type.0) (all_required items next_paths.1 next_type.1))
      unfolding all_required
      required_here =
          w.required
          ∙ ap (λ (qs : List Paths). joined so_far (all_required items qs w.ts)) next_paths.2
          ∙ ap (λ (ts : List ℕ). joined so_far (all_required items (next_paths.0 ∷ next_paths.1) ts)) next_type.2

      -- its own path, and those ahead of it
      good_here : Each IsPath (own_path next_paths.0) × AllPaths (paths_in_all (unwrapped next_paths.0 ++ next_paths.1))
      good_here =
          each_split IsPath (own_path next_paths.0) (paths_in_all (unwrapped next_paths.0 ++ next_paths.1))
          (rw (next_paths.2, paths_next next_paths.0 next_paths.1) at w.good)

      pub waits_within : from < length words
      waits_within = next_within here

      pub waits_room : {h : WrappedAccessPaths} → h ≡ head_of (get_or words from 0) → from + (1 + size_of h) ≤ length words
      waits_room said = rw (said ∙ next_head here) (next_room here)

      pub waits_pairs : count < nodes_of paths
      waits_pairs = omega (arith, w.few, nodes_here, nodes_turn next_paths.0)

      pub waits_standing : Standing words from 1
      unfolding codes
      waits_standing = record {
        paths = next_paths.0 ∷ [];
        rest = codes next_paths.1 ++ rest;
        as_many = refl;
        coded = coded_here ∙ rw append-nil;
      }

      pub waits_meeting :
          {head : WrappedAccessPaths} {types : Types} {u : ℕ}
          → head ≡ head_of (get_or words from 0)
          → u < types.count
          → nodes_of paths ≤ length waiting
          → Meeting words from head types u waiting (left - 1)
      waits_meeting said known room = record {
        paths = next_paths.0;
        rest = codes next_paths.1 ++ rest;
        coded = coded_here;
        said = said;
        known = known;
        room = omega (arith, w.few, nodes_here, here.as_many, many_nodes next_paths.1);
      }

      -- it is passed over
      module _ {end nodes : ℕ} (measured : Measures words from 1 end nodes) where
        past : end ≡ from + length (code next_paths.0)
        unfolding codes
        past =
            (measured (next_paths.0 ∷ []) (codes next_paths.1 ++ rest) refl (coded_here ∙ rw append-nil)).0
            ∙ rw append-nil

        pub waits_on : from < end
        waits_on = omega (arith, past, nodes_words next_paths.0, nodes_turn next_paths.0)

        pub waits_passed : get_or waiting (left - 1) 0 ≡ passed_over → TypesWait words rest items paths t at waiting pairs end (left - 1) count
        unfolding codes paths_in_all Each
        waits_passed over = record {
          qs = next_paths.1;
          ts = next_type.1;
          ahead = record {
            as_many = omega (arith, here.as_many);
            coded = rw past (behind_it words (code next_paths.0) (codes next_paths.1 ++ rest) from coded_here);
          };
          as_many = omega (arith, waits_many);
          stacked = below_type;
          known = (rw next_type.2 at w.known).1;
          few = omega (arith, w.few, nodes_here);
          good = (each_split IsPath (paths_in next_paths.0) (paths_in_all next_paths.1) (rw next_paths.2 at w.good)).1;
          ends = omega (arith, w.ends, past, simp length-append at (ap (λ (l : List Paths). length (codes l)) next_paths.2));
          in_pairs = w.in_pairs;
          all_pairs = w.all_pairs;
          required =
              required_here
              ∙ rw (eq-eqb next_type.0 passed_over (sym top_type ∙ over), joined_first (all_required items next_paths.1 next_type.1));
        }

      module _ (a_type : get_or waiting (left - 1) 0 ≡ passed_over → ⊥) where
        pub waits_known : get_or waiting (left - 1) 0 < types_in items
        unfolding Each
        waits_known = rw top_type ((rw next_type.2 at w.known).0 (λ e. a_type (top_type ∙ e)))

        module _ (r : Refers items (get_or waiting (left - 1) 0)) (waiting' : List ℕ) where
          typed : Refers items next_type.0
          typed = rw top_type at r

          turned :
              required_or items next_paths.0 next_type.0
              ≡ (awaits items next_paths.0 next_type.0
              >>= (λ ts. joined (some (own_taken next_paths.0 next_type.0)) (all_required items (unwrapped next_paths.0) ts)))
          turned =
              required-or items next_paths.0 next_type.0 (omega (arith, typed.known, typed.few))
              ∙ required_turn typed next_paths.0

          -- a literal is against its type
          pub waits_none : PathsStacked words items from (get_or waiting (left - 1) 0) waiting (left - 1) waiting' None → full_type_required items paths t ≡ none
          waits_none stacked =
              let against = stacked next_paths.0 (codes next_paths.1 ++ rest) coded_here in
              required_here ∙ rw (turned, ap (awaits items next_paths.0) (sym top_type) ∙ against)

          -- the head meets its type
          module _
              {h : WrappedAccessPaths}
              {pairs' : List ℕ}
              {more count' : ℕ}
              (said : h ≡ head_of (get_or words from 0))
              (inside : left ≤ length waiting)
              (stacked : PathsStacked words items from (get_or waiting (left - 1) 0) waiting (left - 1) waiting' (Some more))
              (noted : Noted pairs count (pairs_for h from (get_or waiting (left - 1) 0)) pairs' count')
            where
              head : h ≡ head_for next_paths.0
              head = said ∙ next_head here

              new_types : Stacked (awaits items next_paths.0 (get_or waiting (left - 1) 0)) waiting (left - 1) waiting' more
              new_types = stacked next_paths.0 (codes next_paths.1 ++ rest) coded_here

              awaited_here : awaits items next_paths.0 next_type.0 ≡ some new_types.new
              awaited_here = ap (awaits items next_paths.0) (sym top_type) ∙ new_types.awaited

              new_each : (length new_types.new ≡ length (unwrapped next_paths.0)) × Each (Known (types_in items)) new_types.new
              new_each = awaits_each typed next_paths.0 new_types.new awaited_here

              more_wait : more ≡ left - 1 + length new_types.new
              more_wait = noted_many (omega arith) new_types.there ∙ rw length-reverse

              new_pairs : take count' pairs' ≡ take count pairs ++ pairs_for (head_for next_paths.0) from next_type.0
              new_pairs = noted.there ∙ rw (head, top_type)

              new_taken :
                  map (taken_at words) (take count' pairs')
                  ≡ map (taken_at words) (take count pairs) ++ own_taken next_paths.0 next_type.0
              new_taken =
                  ap (map (taken_at words)) new_pairs
                  ∙ map-append (taken_at words) (take count pairs) (pairs_for (head_for next_paths.0) from next_type.0)
                  ∙ rw (own-taken next_type.0 (types_in items) (omega (arith, typed.known, typed.few)) typed.known next_paths.0 good_here.0 here)

              pub waits_next : TypesWait words rest items paths t at waiting' pairs' (from + (1 + size_of h)) more count'
              unfolding Each
              waits_next = record {
                qs = unwrapped next_paths.0 ++ next_paths.1;
                ts = new_types.new ++ next_type.1;
                ahead = record {
                  as_many = omega (arith, length-append (unwrapped next_paths.0) next_paths.1, here.as_many, more_wait, new_each.0);
                  coded = rw head (next_ahead here);
                };
                as_many = omega (arith, length-append new_types.new next_type.1, waits_many, more_wait);
                stacked = new_types.there.there ∙ rw below_type (sym (reverse-append new_types.new next_type.1));
                known = each_append (Known (types_in items)) new_types.new next_type.1 new_each.1 (rw next_type.2 at w.known).1;
                few =
                    omega (
                      arith,
                      w.few,
                      ap nodes_of_all next_paths.2,
                      nodes_next next_paths.0 next_paths.1,
                      noted_many w.in_pairs noted,
                      pairs_few h from (get_or waiting (left - 1) 0),
                    );
                good = good_here.1;
                ends =
                    rw head
                    (omega (
                      arith,
                      w.ends,
                      ap (λ (l : List Paths). length (codes l)) next_paths.2,
                      words_next next_paths.0 next_paths.1,
                    ));
                in_pairs = noted.in_places;
                all_pairs =
                    rw new_pairs
                    (all_pairs_append words (types_in items) (take count pairs) (pairs_for (head_for next_paths.0) from next_type.0) w.all_pairs
                    (own_pairs next_type.0 (types_in items) (omega (arith, typed.known, typed.few)) typed.known next_paths.0 here));
                required =
                    required_here
                    ∙ rw (
                      turned,
                      awaited_here,
                      new_taken,
                      all_append items (unwrapped next_paths.0) next_paths.1 new_types.new next_type.1 new_each.0,
                    )
                    (joined_on (map (taken_at words) (take count pairs)) (own_taken next_paths.0 next_type.0)
                    (all_required items (unwrapped next_paths.0) new_types.new)
                    (all_required items next_paths.1 next_type.1));
              }
