-- Laws of the table of types and of the trie of a type (Tables): a type's attributes are passed one after the other. No contract cites this
-- file.
use Rattle.std.specs.Prelude.{ℕ, zero, suc, ◌+◌, ◌*◌, ◌/◌, ◌%◌, ◌^◌, ◌≤◌, ◌<◌, min, max, true, false, List, [], ◌∷◌, ◌++◌, map, ◌≡◌, refl, ltb, leb, length, take, drop, get_or, set}
use Rattle.std.proofs.Common.{add-one, arith, append_assoc, append-nil, sym, ap, ◌∙◌, length-set, length-append, take-append-drop, drop_of_length-le, drop-cons, take-suc, take_all, get_or-set_same, get_or-set_other}
use Rattle.std.proofs.Math.Bool.{and-eq-true_iff}
use Rattle.std.proofs.lemmas.List.{map-append, length-map}
use Rattle.std.proofs.Math.Option.{some}
use borrow.Author.Tests.{ltb-true, leb-true, eqb-true, lt-ltb}
use Rattle.rules.specs.Facts.{compared, cond-true, capped, capped_min, larger, larger_max}
use Rattle.rules.specs.Listing.{read}
use Rattle.rules.specs.Tries.{Row}
use Rattle.rules.specs.Schema.{Item, last_type, attribute_line, unknown, lawful_items, from_type, attributes_of}
use Rattle.rules.specs.Paths.{deeper, children_of, kind_at, element_at, attributes_at}
use Rattle.rules.proofs.TypeLaws.{TypeLines, AttributesBelow, types_in, deepest, type_here, type_lines, type_children, types_last, types_last_other, kind-at, element-at, attributes-at, attributes_on, attributes_below, deeper_append, deeper_length, deeper_deeper, children_append, children_deepest, children_length, deepest_append, children_deepest_capped, children_length_capped}
use Rattle.rows.specs.Words.{word_of}
use Rattle.schema.specs.Items.{item_in, items_of, is_item, all_items, good_items}
use Rattle.words.specs.Runs.{Wrote}
use Rattle.words.specs.RunLaws.{wrote_length, wrote_more}
use Rattle.type_table.specs.Tables.{type_rows, type_place, type_depth, type_nodes, TypeMeasured, Tabled, KnownType, attribute_at}
use Rattle.type_table.specs.declared.types.Types.{Types}

-- Items.

-- the items from a place on: the one there, and those after it
pub items_at :
    (words : List ℕ) (at : ℕ)
    → at < length words
    → items_of (drop at words) ≡ item_in (get_or words at 0) ∷ items_of (drop (at + 1) words)
items_at words at h = rw (add-one, drop-cons words at 0 h)

-- what good items are
module _ (words : List ℕ) (good : good_items words ≡ true) where
  pub good_all : all_items words ≡ true
  good_all = ((and-eq-true_iff (all_items words) _).0 good).0

  pub good_lawful : lawful_items unknown (items_of words) ≡ true
  good_lawful = ((and-eq-true_iff (all_items words) _).0 good).1

-- the key of each is an id
pub key_small : (words : List ℕ) (at : ℕ) → all_items words ≡ true → at < length words → get_or words at 0 / 2 ^ 40 ≤ 65535
unfolding all_items is_item
key_small [] at all h = absurd (omega arith)
key_small (w ∷ words) zero all h =
    leb-true _ _ ((and-eq-true_iff (leb (w / 2 ^ 40) 65535) _).0 ((cond-true (is_item (item_in w)) (all_items words)).0 all).0).0
key_small (w ∷ words) (suc at) all h = key_small words at ((cond-true (is_item (item_in w)) (all_items words)).0 all).1 (omega arith)

-- Attributes.

module _ (words : List ℕ) (at : ℕ) where
  -- a word that is one
  pub attribute_inside : attribute_at words at ≡ true → at < length words
  unfolding attribute_at
  attribute_inside h = ltb-true _ _ ((cond-true _ _).0 h).0

  attribute_tag : attribute_at words at ≡ true → get_or words at 0 % 16 ≡ attribute_line
  unfolding attribute_at
  attribute_tag h = eqb-true (get_or words at 0 % 16) attribute_line ((cond-true (ltb at (length words)) _).0 h).1

  -- it begins the attributes from its place on, and no other word does
  attributes_more :
      attribute_at words at ≡ true
      → attributes_of (items_of (drop at words)) ≡ item_in (get_or words at 0) ∷ attributes_of (items_of (drop (at + 1) words))
  attributes_more h =
      rw (items_at words at (attribute_inside h))
      (attributes_on (item_in (get_or words at 0)) (items_of (drop (at + 1) words)) (attribute_tag h))

  attributes_none : attribute_at words at ≡ false → attributes_of (items_of (drop at words)) ≡ []
  unfolding attribute_at attributes_of
  attributes_none h =
      compared at (length words)
      (λ inside.
      rw (items_at words at inside, rw (lt-ltb at (length words) inside) at h))
      (λ past. rw (drop_of_length-le words past))

-- The attributes before a place are passed, and others may be left.
pub record AttributesPassed (words : List ℕ) (first at : ℕ) : Type 0 where
  pub inside : at ≤ length words
  pub passed : List Item
  pub count : at ≡ first + length passed
  pub split : attributes_of (items_of (drop first words)) ≡ passed ++ attributes_of (items_of (drop at words))

pub passing_none : (words : List ℕ) (first : ℕ) → first ≤ length words → AttributesPassed words first first
passing_none words first h = record { inside = h; passed = []; count = omega arith; split = refl }

module _ {words : List ℕ} {first at : ℕ} (passing : AttributesPassed words first at) where
  -- none is left
  pub passing_all : attribute_at words at ≡ false → passing.passed ≡ attributes_of (items_of (drop first words))
  passing_all h = sym (passing.split ∙ rw (attributes_none words at h) (append-nil passing.passed))

  module _ (here : attribute_at words at ≡ true) where
    -- the next one
    passing_here :
        attributes_of (items_of (drop first words))
        ≡ passing.passed ++ (item_in (get_or words at 0) ∷ attributes_of (items_of (drop (at + 1) words)))
    passing_here = rw (← attributes_more words at here) passing.split

    pub passing_next : AttributesPassed words first (at + 1)
    passing_next = record {
      inside = omega (arith, attribute_inside words at here);
      passed = passing.passed ++ (item_in (get_or words at 0) ∷ []);
      count = simp length-append (omega (arith, passing.count));
      split = rw append_assoc passing_here;
    }

    -- its type is lower than that of the record
    pub passing_below : {t : ℕ} → AttributesBelow t (attributes_of (items_of (drop first words))) → get_or words at 0 / 16 % 2 ^ 36 < t
    passing_below {t} below =
        (attributes_below t passing.passed (item_in (get_or words at 0)) (attributes_of (items_of (drop (at + 1) words)))
        (rw passing_here at below)).1

-- A type's line and its attributes.

-- type t stands at a place
pub record TypeStands (words : List ℕ) (t place : ℕ) : Type 0 where
  pub inside : place < length words
  pub from : from_type t (items_of words) ≡ some (items_of (drop place words))
  pub lines : TypeLines t (item_in (get_or words place 0)) (items_of (drop (place + 1) words))
  pub rows : type_rows words t ≡ children_of (type_rows words) (attributes_of (items_of (drop (place + 1) words)))

pub stands :
    (words : List ℕ) (t place : ℕ)
    → good_items words ≡ true
    → place < length words
    → from_type t (items_of words) ≡ some (items_of (drop place words))
    → TypeStands words t place
stands words t place good inside from =
    let found : from_type t (items_of words) ≡ some (item_in (get_or words place 0) ∷ items_of (drop (place + 1) words)) =
    rw (← items_at words place inside) from in
    record {
      inside = inside;
      from = from;
      lines = type_lines (items_of words) (good_lawful words good) t _ _ found;
      rows = type_children (items_of words) (good_lawful words good) t _ _ found;
    }

-- by its size
stands_sized :
    {words : List ℕ} {t w : ℕ} → good_items words ≡ true → TypeMeasured words t w → TypeStands words t (type_place w)
stands_sized {words} {t} {w} good sized = stands words t (type_place w) good sized.inside sized.there

-- by the types before it
module _ (words : List ℕ) (place : ℕ) (inside : place < length words) where
  items_around : items_of words ≡ items_of (take place words) ++ (item_in (get_or words place 0) ∷ items_of (drop (place + 1) words))
  items_around = rw (← items_at words place inside, ← map-append item_in (take place words) (drop place words), take-append-drop place words)

  pub stands_here :
      good_items words ≡ true → get_or words place 0 % 16 ≤ last_type → TypeStands words (types_in (items_of (take place words))) place
  stands_here good kind =
      stands words _ place good inside
      (rw (items_at words place inside)
      (type_here (items_of words) (good_lawful words good) (items_of (take place words)) _ _ items_around kind))

  -- the types up to a place, with the one there
  types_here : get_or words place 0 % 16 ≤ last_type → types_in (items_of (take (place + 1) words)) ≡ suc (types_in (items_of (take place words)))
  types_here kind =
      rw (add-one, take-suc words place 0 inside, map-append)
      (types_last (items_of (take place words)) (item_in (get_or words place 0)) kind)

  types_other : last_type < get_or words place 0 % 16 → types_in (items_of (take (place + 1) words)) ≡ types_in (items_of (take place words))
  types_other kind =
      rw (add-one, take-suc words place 0 inside, map-append)
      (types_last_other (items_of (take place words)) (item_in (get_or words place 0)) kind)

-- The size of a type.

-- what the attributes that are passed add up to
pub record Sizing (words : List ℕ) (first at depth nodes : ℕ) : Type 0 where
  pub passing : AttributesPassed words first at
  pub deep : depth ≡ capped 25 (deepest (children_of (type_rows words) passing.passed))
  pub many : nodes ≡ capped 1025 (length (children_of (type_rows words) passing.passed))

pub sizing_none : (words : List ℕ) (first : ℕ) → first ≤ length words → Sizing words first first 0 0
unfolding children_of deepest capped passing_none
sizing_none words first h = record { passing = passing_none words first h; deep = refl; many = refl }

module _ {words : List ℕ} {first at depth nodes : ℕ} (sizing : Sizing words first at depth nodes) where
  -- the counts stay small
  pub sizing_small : (depth ≤ 25) × (nodes ≤ 1025)
  sizing_small = (
    omega (arith, sizing.deep, capped_min 25 (deepest (children_of (type_rows words) sizing.passing.passed))),
    omega (arith, sizing.many, capped_min 1025 (length (children_of (type_rows words) sizing.passing.passed))),
  )

  -- one more attribute, by the size of its type
  pub sizing_next :
      attribute_at words at ≡ true
      → {v w : ℕ}
      → v ≡ get_or words at 0 / 16 % 2 ^ 36
      → TypeMeasured words v w
      → Sizing words first (at + 1) (max depth (min (1 + type_depth w) 25)) (min (nodes + 1 + type_nodes w) 1025)
  unfolding passing_next
  sizing_next here {v} {w} e sized =
      let deep : max depth (min (1 + type_depth w) 25) ≡ larger depth (capped 25 (1 + type_depth w)) =
      omega (arith, larger_max depth (capped 25 (1 + type_depth w)), capped_min 25 (1 + type_depth w)) in
      let many : min (nodes + 1 + type_nodes w) 1025 ≡ capped 1025 (nodes + 1 + type_nodes w) = omega (arith, capped_min 1025 (nodes + 1 + type_nodes w)) in
      rw (deep, many) record {
        passing = passing_next sizing.passing here;
        deep =
            rw (sizing.deep, sized.depth, e)
            (sym (children_deepest_capped (type_rows words) (item_in (get_or words at 0)) sizing.passing.passed));
        many =
            rw (sizing.many, sized.nodes, e)
            (sym (children_length_capped (type_rows words) (item_in (get_or words at 0)) sizing.passing.passed));
      }

-- the size of the type at a place, once no attribute is left
pub sizing_all :
    (words : List ℕ) (t place at depth nodes : ℕ)
    → TypeStands words t place
    → Sizing words (place + 1) at depth nodes
    → attribute_at words at ≡ false
    → length words < 262144
    → TypeMeasured words t (nodes + (depth * 4096 + place * 1048576))
sizing_all words t place at depth nodes stands sizing none_left short =
    let small = sizing_small sizing in
    let place_is : type_place (nodes + (depth * 4096 + place * 1048576)) ≡ place = omega arith in
    let depth_is : type_depth (nodes + (depth * 4096 + place * 1048576)) ≡ depth = omega arith in
    let nodes_is : type_nodes (nodes + (depth * 4096 + place * 1048576)) ≡ nodes = omega arith in
    let all = passing_all sizing.passing none_left in
    record {
      inside = rw place_is stands.inside;
      there = rw place_is stands.from;
      depth = depth_is ∙ sizing.deep ∙ rw (all, stands.rows);
      nodes = nodes_is ∙ sizing.many ∙ rw (all, stands.rows);
    }

-- Filling the table.

-- the types before a place are in it
pub record Filling (words table : List ℕ) (types at : ℕ) : Type 0 where
  pub inside : at ≤ length words
  pub count : types ≡ types_in (items_of (take at words))
  pub tabled : Tabled words table types

pub filling_none : (words table : List ℕ) → length table ≡ 1024 → Filling words table 0 0
unfolding types_in
filling_none words table h = record { inside = omega arith; count = refl; tabled = (h, λ t less. absurd (omega arith)) }

module _ {words table : List ℕ} {types at : ℕ} (filling : Filling words table types at) where
  -- no word is left
  pub filling_all : length words ≤ at → (types ≡ types_in (items_of words)) × Tabled words table types
  filling_all h = (filling.count ∙ rw (take_all at words h), filling.tabled)

  module _ (good : good_items words ≡ true) (inside : at < length words) where
    -- the next word is no type
    pub filling_other : last_type < get_or words at 0 % 16 → Filling words table types (at + 1)
    filling_other kind = record {
      inside = omega arith;
      count = filling.count ∙ sym (types_other words at inside kind);
      tabled = filling.tabled;
    }

    module _ (kind : get_or words at 0 % 16 ≤ last_type) where
      -- the next word is a type: there is room for it
      pub filling_room : types < 1024
      filling_room = rw filling.count (stands_here words at inside good kind).lines.small

      pub filling_type : {w : ℕ} → TypeMeasured words types w → Filling words (set table types w) (types + 1) (at + 1)
      filling_type {w} sized = record {
        inside = omega arith;
        count = rw add-one (ap suc filling.count ∙ sym (types_here words at inside kind));
        tabled = (rw length-set filling.tabled.0, all);
      }
        where
          all : (t : ℕ) → t < types + 1 → TypeMeasured words t (get_or (set table types w) t 0)
          all t h =
              compared t types
              (λ less. let other : t ≡ types → ⊥ = λ e. omega arith in rw (get_or-set_other table types t w 0 other) (filling.tabled.1 t less))
              (λ not-less.
              let same : t ≡ types = omega arith in
              rw (same, get_or-set_same table types w 0 (omega (arith, filling.tabled.0, filling_room))) sized)

-- Writing the trie of a type.

-- a word after a run, and then another run
wrote_on :
    {out xs ys out₁ out₂ : List ℕ} {at at₁ at₂ : ℕ} (w : ℕ)
    → Wrote out at xs out₁ at₁
    → Wrote (set out₁ at₁ w) (at₁ + 1) ys out₂ at₂
    → Wrote out at (xs ++ (w ∷ ys)) out₂ at₂
wrote_on w first rest = wrote_more first (record { after = omega (arith, rest.after); text = rw add-one at rest.text })

-- the words of one attribute
child_words :
    (g : ℕ → List Row) (depth : ℕ) (a : Item)
    → map word_of (deeper depth (children_of g (a ∷ [])))
    ≡ word_of (read (depth + 1) a.key false) ∷ map word_of (deeper (depth + 1) (g a.value))
unfolding children_of deeper
child_words g depth a = rw (append-nil (deeper 1 (g a.value)), deeper_deeper depth 1 (g a.value))

-- and those of one more
more_words :
    (g : ℕ → List Row) (depth : ℕ) (xs : List Item) (a : Item)
    → map word_of (deeper depth (children_of g (xs ++ (a ∷ []))))
    ≡ map word_of (deeper depth (children_of g xs))
    ++ (word_of (read (depth + 1) a.key false) ∷ map word_of (deeper (depth + 1) (g a.value)))
more_words g depth xs a =
    rw (children_append g xs (a ∷ []), deeper_append depth (children_of g xs) (children_of g (a ∷ [])), map-append, child_words g depth a)

-- the rows of the attributes that are passed are written
pub record TrieWriting (words : List ℕ) (first depth : ℕ) (out : List ℕ) (to at : ℕ) (out' : List ℕ) (next : ℕ) : Type 0 where
  pub passing : AttributesPassed words first at
  pub wrote : Wrote out to (map word_of (deeper depth (children_of (type_rows words) passing.passed))) out' next

pub writing_none :
    (words : List ℕ) (first depth : ℕ) (out : List ℕ) (to : ℕ)
    → first ≤ length words
    → TrieWriting words first depth out to first out to
unfolding passing_none children_of deeper
writing_none words first depth out to h =
    record { passing = passing_none words first h; wrote = record { after = omega arith; text = refl } }

module _
    {words : List ℕ}
    {first depth : ℕ}
    {out : List ℕ}
    {to at : ℕ}
    {out' : List ℕ}
    {next : ℕ}
    (writing : TrieWriting words first depth out to at out' next)
    {rows : List Row}
    (all : rows ≡ children_of (type_rows words) (attributes_of (items_of (drop first words))))
  where
    -- none is left
    pub writing_all : attribute_at words at ≡ false → Wrote out to (map word_of (deeper depth rows)) out' next
    writing_all h = rw (all, ← passing_all writing.passing h) writing.wrote

    module _ (here : attribute_at words at ≡ true) where
      -- what is left is the rows of the next and of those after it
      left_rows :
          rows
          ≡ children_of (type_rows words) writing.passing.passed
          ++ children_of (type_rows words) (item_in (get_or words at 0) ∷ attributes_of (items_of (drop (at + 1) words)))
      left_rows =
          all
          ∙ rw (passing_here writing.passing here)
          (children_append (type_rows words) writing.passing.passed
          (item_in (get_or words at 0) ∷ attributes_of (items_of (drop (at + 1) words))))

      -- they have room
      pub writing_room :
          to + length rows ≤ length out → next + 1 + length (type_rows words (get_or words at 0 / 16 % 2 ^ 36)) ≤ length out'
      writing_room h =
          omega (
            arith,
            wrote_length writing.wrote,
            writing.wrote.after,
            length-map (deeper depth (children_of (type_rows words) writing.passing.passed)) word_of,
            deeper_length depth (children_of (type_rows words) writing.passing.passed),
            simp length-append at (ap length left_rows),
            children_length (type_rows words) (item_in (get_or words at 0)) (attributes_of (items_of (drop (at + 1) words))),
          )

      -- and are not too deep
      pub writing_shallow :
          depth + deepest rows ≤ 24 → depth + 1 + deepest (type_rows words (get_or words at 0 / 16 % 2 ^ 36)) ≤ 24
      writing_shallow h =
          omega (
            arith,
            simp (deepest_append, children_deepest, larger_max) at (ap deepest left_rows),
          )

      pub writing_next :
          {v w : ℕ} {out₂ : List ℕ} {next₂ : ℕ}
          → v ≡ get_or words at 0 / 16 % 2 ^ 36
          → w ≡ word_of (read (depth + 1) (get_or words at 0 / 2 ^ 40) false)
          → Wrote (set out' next w) (next + 1) (map word_of (deeper (depth + 1) (type_rows words v))) out₂ next₂
          → TrieWriting words first depth out to (at + 1) out₂ next₂
      unfolding passing_next
      writing_next {v} {w} {out₂} {next₂} e word rest = record {
        passing = passing_next writing.passing here;
        wrote =
            rw (more_words (type_rows words) depth writing.passing.passed (item_in (get_or words at 0)), ← word, ← e)
            (wrote_on w writing.wrote rest);
      }

-- a type that is in the table, by its size there
module _
    (words table : List ℕ)
    {types t : ℕ}
    (good : good_items words ≡ true)
    (tabled : Tabled words table types)
    (less : t < types)
  where
    pub tabled_stands : {place : ℕ} → place ≡ type_place (get_or table t 0) → TypeStands words t place
    tabled_stands e = rw e (stands_sized good (tabled.1 t less))

    pub tabled_inside : t < length table
    tabled_inside = omega (arith, tabled.0, (stands_sized good (tabled.1 t less)).lines.small)

-- what the definitions find of a type that stands at a place
module _ {words : List ℕ} {t place : ℕ} (here : TypeStands words t place) where
  found_lines : from_type t (items_of words) ≡ some (item_in (get_or words place 0) ∷ items_of (drop (place + 1) words))
  found_lines = rw (← items_at words place here.inside) here.from

  pub stands_kind : kind_at (items_of words) t ≡ get_or words place 0 % 16
  stands_kind = kind-at (items_of words) t _ _ found_lines

  pub stands_element : element_at (items_of words) t ≡ get_or words place 0 / 16 % 2 ^ 36
  stands_element = element-at (items_of words) t _ _ found_lines

  pub stands_attributes : attributes_at (items_of words) t ≡ attributes_of (items_of (drop (place + 1) words))
  stands_attributes = attributes-at (items_of words) t _ _ found_lines

-- one of a schema's types
pub known_type : (types : Types) {t : ℕ} → t < types.count → KnownType types.words.now types.table.now t
known_type types h = record { types = rw types.good.all_types at types.good; known = omega (arith, types.good.all_types) }
