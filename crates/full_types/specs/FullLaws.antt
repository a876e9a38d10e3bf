-- Laws of pairs of a path and a type, of adding them, and of the names of a record literal (Tables). No contract cites this file.
use Rattle.std.specs.Prelude.{Option as Maybe, Some, None, is_some, ℕ, zero, suc, ◌+◌, ◌/◌, ◌%◌, ◌^◌, ◌≤◌, ◌<◌, Bool, true, false, ◌&&◌, ◌||◌, List, [], ◌∷◌, map, ◌≡◌, refl, ltb, leb, eqb, length, take, drop, get_or}
use Rattle.std.proofs.Common.{add-one, ap, ◌∙◌, length-take, drop_of_length-le, drop-cons}
use native.Mathlib.Omega.{arith}
use Rattle.std.proofs.lemmas.Bool.{false≢true, true≢false}
use Rattle.std.proofs.Math.Option.{Option, none, some, none-ne-some}
use Rattle.std.proofs.Math.Path.{sym}
use borrow.Author.Tests.{ltb-false, leb-false, lt-ltb, le-ltb, le-leb, lt-leb, ne_eqb}
use Rattle.std.proofs.lemmas.List.{length-map}
use Rattle.rules.specs.Facts.{by_test, cond-true, larger_max, capped_min, capped_sum_above}
use Rattle.rules.specs.Listing.{read}
use Rattle.rules.specs.Tries.{Row}
use Rattle.rules.proofs.TrieLaws.{union_right_length}
use Rattle.rules.specs.Schema.{Item, from_type, last_type, attributes_of, attribute_line}
use Rattle.rules.specs.Paths.{deeper, children_of, type_below, attributes_at, to_root_access_trie_with_leaf, type_to_access_trie, add_access_path, union_all, taken_tries, add_taken, Fields, no_field, field, field_of, is_there, has_all}
use Rattle.rules.proofs.StepLaws.{Each, IsPath, AllKeys, each_append, or_neither, all_length}
use Rattle.rules.proofs.TypeLaws.{deepest, deeper_none, deeper_length, path_length}
use Rattle.rows.specs.Words.{word_of, row_in, depth_in, step_in, mark_in, type_in}
use Rattle.rows.specs.States.{rows_of, rows_in}
use Rattle.words.specs.Runs.{words_in, Wrote}
use Rattle.schema.specs.Items.{item_in, items_of, is_item, all_items}
use Rattle.schema.specs.ItemLaws.{item_key}
use Rattle.words.specs.RunLaws.{taken_back, wrote_length}
use Rattle.wrapped_paths.specs.Code.{path_at, name_place, names_in, IsPlace}
use Rattle.path_tries.specs.NodeLaws.{path_steps}
use Rattle.type_table.specs.TypeTableLaws.{items_at}
use Rattle.path_tries.specs.Nodes.{below_word, all_below, IsState, Became, leaf_of}
use Rattle.type_table.specs.Tables.{type_rows, type_depth as size_depth, type_nodes as size_nodes, TypeMeasured, Tabled}
use Rattle.full_types.specs.Pairs.{taken_at, AllPairs, any_taken_deep, AllTakenPaths}

-- Pairs of a path and a type.

-- what each says
pub pair_at :
    (words : List ℕ) (types : ℕ) (pairs : List ℕ) (i : ℕ)
    → AllPairs words types pairs
    → i < length pairs
    → (get_or pairs i 0 / 1024 + 1 + get_or words (get_or pairs i 0 / 1024) 0 / 64 ≤ length words) × (get_or pairs i 0 % 1024 < types)
unfolding AllPairs
pair_at words types [] i all h = absurd (omega arith)
pair_at words types (pair ∷ pairs) zero all h = (all.0, all.1.0)
pair_at words types (pair ∷ pairs) (suc i) all h = pair_at words types pairs i all.1.1 (omega arith)

pairs_left : (words pairs : List ℕ) (i : ℕ) → i < length pairs → map (taken_at words) (drop i pairs) ≡ taken_at words (get_or pairs i 0) ∷ map (taken_at words) (drop (i + 1) pairs)
pairs_left words pairs i h = rw (add-one, drop-cons pairs i 0 h)

-- Whether some path goes too deep.

-- what the table says of one
deep_here :
    (words table items : List ℕ) (types pair : ℕ)
    → Tabled items table types
    → pair / 1024 + 1 + get_or words (pair / 1024) 0 / 64 ≤ length words
    → pair % 1024 < types
    → ltb 24 (length (path_at words (pair / 1024)) + deepest (type_rows items (pair % 1024)))
    ≡ ltb 24 (get_or words (pair / 1024) 0 / 64 + size_depth (get_or table (pair % 1024) 0))
deep_here words table items types pair tabled within less =
    rw (path_steps words (pair / 1024) within, (tabled.1 (pair % 1024) less).depth)
    (sym (capped_sum_above 24 (get_or words (pair / 1024) 0 / 64) (deepest (type_rows items (pair % 1024)))))

-- i pairs are passed, and the others say what is answered
pub record LookingTaken (words table pairs : List ℕ) (i : ℕ) : Type 0 where
  pub inside : i ≤ length pairs
  pub left :
      (items : List ℕ) (types : ℕ)
      → Tabled items table types
      → AllPairs words types pairs
      → any_taken_deep items (map (taken_at words) pairs) ≡ any_taken_deep items (map (taken_at words) (drop i pairs))

pub looking_none : (words table pairs : List ℕ) → LookingTaken words table pairs 0
looking_none words table pairs = record { inside = omega arith; left = λ items types tabled all. refl }

module _ {words table pairs : List ℕ} {i : ℕ} (looking : LookingTaken words table pairs i) where
  -- no pair is left
  pub pairs_looked :
      length pairs ≤ i
      → (items : List ℕ) (types : ℕ)
      → Tabled items table types
      → AllPairs words types pairs
      → false ≡ any_taken_deep items (map (taken_at words) pairs)
  unfolding any_taken_deep
  pairs_looked h items types tabled all = sym (looking.left items types tabled all ∙ rw (drop_of_length-le pairs h))

  module _ (more : i < length pairs) where
    next_deep :
        (items : List ℕ) (types : ℕ)
        → Tabled items table types
        → AllPairs words types pairs
        → any_taken_deep items (map (taken_at words) pairs)
        ≡ (ltb 24 (get_or words (get_or pairs i 0 / 1024) 0 / 64 + size_depth (get_or table (get_or pairs i 0 % 1024) 0))
        || any_taken_deep items (map (taken_at words) (drop (i + 1) pairs)))
    unfolding any_taken_deep
    next_deep items types tabled all =
        let (within, less) = pair_at words types pairs i all more in
        looking.left items types tabled all
        ∙ rw (pairs_left words pairs i more, deep_here words table items types (get_or pairs i 0) tabled within less)

    -- the next goes too deep, or not
    pub pairs_deep :
        24 < get_or words (get_or pairs i 0 / 1024) 0 / 64 + size_depth (get_or table (get_or pairs i 0 % 1024) 0)
        → (items : List ℕ) (types : ℕ)
        → Tabled items table types
        → AllPairs words types pairs
        → true ≡ any_taken_deep items (map (taken_at words) pairs)
    pairs_deep h items types tabled all = sym (next_deep items types tabled all ∙ rw (lt-ltb 24 _ h))

    pub pairs_look_next :
        get_or words (get_or pairs i 0 / 1024) 0 / 64 + size_depth (get_or table (get_or pairs i 0 % 1024) 0) ≤ 24
        → LookingTaken words table pairs (i + 1)
    pairs_look_next h = record {
      inside = omega arith;
      left = λ items types tabled all. next_deep items types tabled all ∙ rw (le-ltb 24 _ h);
    }

-- The rows of a type.

-- a node without a mark and a type, its step a field
record FieldRow (row : Row) : Type 0 where
  below : 0 < row.depth
  field : row.step ≤ 65535
  plain : row ≡ read row.depth row.step false

each_deeper : (n : ℕ) (rows : List Row) → Each FieldRow rows → Each FieldRow (deeper n rows)
unfolding Each deeper
each_deeper n [] all = tt
each_deeper n (row ∷ rows) all =
    let plain = all.0.plain in (
      record {
        below = omega (arith, all.0.below);
        field = all.0.field;
        plain = ap (λ (r : Row). record { depth = n + row.depth; step = row.step; mark = r.mark; type = r.type }) plain;
      },
      each_deeper n rows all.1,
    )

children_rows :
    (g : ℕ → List Row) → ((u : ℕ) → Each FieldRow (g u)) → (attributes : List Item) → AllKeys attributes → Each FieldRow (children_of g attributes)
unfolding Each children_of
children_rows g rows [] keys = tt
children_rows g rows (a ∷ more) keys = (
  record { below = omega arith; field = keys.0; plain = refl },
  each_append FieldRow (deeper 1 (g a.value)) (children_of g more)
      (each_deeper 1 (g a.value) (rows a.value))
      (children_rows g rows more keys.1),
)

attributes_keys : (items : List Item) → AllKeys items → AllKeys (attributes_of items)
unfolding Each attributes_of
attributes_keys [] keys = tt
attributes_keys (it ∷ items) keys =
    by_test (eqb it.tag attribute_line)
    (λ e. rw e (keys.0, attributes_keys items keys.1))
    (λ e. rw e tt)

from_keys : (t : ℕ) (items : List Item) (it : Item) (more : List Item) → AllKeys items → from_type t items ≡ some (it ∷ more) → AllKeys more
unfolding Each from_type
from_keys t [] it more keys found = absurd (none-ne-some _ found)
from_keys t (x ∷ items) it more keys found =
    let later = from_keys t items it more keys.1 in
    by_test (leb x.tag last_type && eqb x.key t)
    (λ e.
    let given : some (x ∷ items) ≡ some (it ∷ more) = rw e at found in
    let others : items ≡ more = cc in
    rw others at keys.1)
    (λ e. later (rw e at found))

attributes_at_keys : (t : ℕ) (items : List Item) → AllKeys items → AllKeys (attributes_at items t)
unfolding Each
attributes_at_keys t items keys = go (from_type t items) refl
  where
    go : (found : Option (List Item)) → from_type t items ≡ found → AllKeys (attributes_at items t)
    go none e = rw (e, attributes_at) tt
    go (some []) e = rw (e, attributes_at) tt
    go (some (it ∷ more)) e = rw (e, attributes_at) (attributes_keys more (from_keys t items it more keys e))

type-rows : (n : ℕ) (items : List Item) (t : ℕ) → AllKeys items → Each FieldRow (type_below n items t)
unfolding Each type_below
type-rows zero items t keys = tt
type-rows (suc n) items t keys =
    by_test (eqb t n)
    (λ e. rw e (children_rows (type_below n items) (λ u. type-rows n items u keys) (attributes_at items t) (attributes_at_keys t items keys)))
    (λ e. rw e (type-rows n items t keys))

pub item_keys : (words : List ℕ) → all_items words ≡ true → AllKeys (items_of words)
unfolding Each all_items
item_keys [] all = tt
item_keys (w ∷ words) all =
    let (first, rest) = (cond-true (is_item (item_in w)) (all_items words)).0 all in
    (item_key (item_in w) first, item_keys words rest)

-- The words that pack them.

module _ (d s : ℕ) (some-depth : 0 < d) (near : d ≤ 24) (field : s ≤ 65535) where
  field_depth : depth_in (word_of (read d s false)) ≡ d
  field_depth = omega arith

  field_step : step_in (word_of (read d s false)) ≡ s
  field_step = rw (field_depth, ne_eqb d 0 (λ e. omega arith)) (omega arith)

  field_row : row_in (word_of (read d s false)) ≡ read d s false
  field_row = λ i. record { depth = field_depth i; step = field_step i; mark = mark i; type = type i }
    where
      mark : mark_in (word_of (read d s false)) ≡ false
      mark = ne_eqb (word_of (read d s false) / 32 % 2) 1 (λ e. omega arith)

      type : type_in (word_of (read d s false)) ≡ none
      type =
          let number : word_of (read d s false) / 2 ^ 25 % 2 ^ 11 ≡ 0 = omega arith in
          rw (field_depth, ne_eqb d 0 (λ e. omega arith), number)

  field_below : below_word (word_of (read d s false)) ≡ true
  unfolding below_word
  field_below =
      let kind : s / 65536 ≡ 0 = omega arith in
      rw (field_step, kind, field_depth, lt-ltb 0 d some-depth, lt-ltb (word_of (read d s false)) (2 ^ 25) (omega arith))
      (by_test (eqb (s % 65536) 0) (λ e. rw e) (λ e. rw e))

-- so the words of a type's rows pack them, and are words of nodes below another
words_of_rows :
    (steps : ℕ) (rows : List Row)
    → Each FieldRow rows
    → steps + deepest rows ≤ 24
    → (rows_of (map word_of rows) ≡ rows) × (all_below steps (map word_of rows) ≡ true)
unfolding Each deepest all_below
words_of_rows steps [] all near = (refl, refl)
words_of_rows steps (row ∷ rows) all near =
    let f = all.0 in
    let deep = larger_max row.depth (deepest rows) in
    let shallow : row.depth ≤ 24 = omega arith in
    let (rest, rest_below) = words_of_rows steps rows all.1 (omega arith) in
    let word : word_of row ≡ word_of (read row.depth row.step false) = ap word_of f.plain in
    let back : row_in (word_of row) ≡ row = rw word (field_row row.depth row.step f.below shallow f.field ∙ sym f.plain) in
    let depth : depth_in (word_of row) ≡ row.depth = rw word (field_depth row.depth row.step f.below shallow f.field) in
    let one : below_word (word_of row) ≡ true = rw word (field_below row.depth row.step f.below shallow f.field) in
    ((λ i. back i ∷ rest i), rw (one, depth, le-leb (steps + row.depth) 24 (omega arith), rest_below))

module _ (words : List ℕ) (all : all_items words ≡ true) (t steps : ℕ) (near : steps + deepest (type_rows words t) ≤ 24) where
  type_words : (rows_of (map word_of (type_rows words t)) ≡ type_rows words t) × (all_below steps (map word_of (type_rows words t)) ≡ true)
  type_words = words_of_rows steps (type_rows words t) (type-rows (suc t) (items_of words) t (item_keys words all)) near

-- A path with the trie of a type as its leaf.

-- where the trie of a type has too many rows, so has the whole
pub pairs_too_many :
    (words trie path : List ℕ) (t : ℕ)
    → IsState trie
    → 1024 < length (type_rows words t)
    → Became (add_access_path (rows_in trie) path (type_to_access_trie (items_of words) t)) trie false
pairs_too_many words trie path t state many = record {
  judged = sym (lt-leb (length (add_access_path (rows_in trie) path (type_to_access_trie (items_of words) t))) 1024 over);
  still = state;
  there = λ e. absurd (false≢true e);
}
  where
    not_empty : eqb (length (type_rows words t)) 0 ≡ false
    not_empty = ne_eqb (length (type_rows words t)) 0 (λ e. omega arith)

    whole : length (to_root_access_trie_with_leaf path (type_to_access_trie (items_of words) t)) ≡ length path + length (type_rows words t)
    whole = path_length path (type_to_access_trie (items_of words) t) ∙ rw not_empty (by_test (eqb (length path) 1) (λ e. rw e) (λ e. rw e))

    over : 1024 < length (add_access_path (rows_in trie) path (type_to_access_trie (items_of words) t))
    over = omega (arith, whole, union_right_length (rows_in trie) (to_root_access_trie_with_leaf path (type_to_access_trie (items_of words) t)))

-- by its size
pub too_many_sized : {words : List ℕ} {t w : ℕ} → TypeMeasured words t w → 1024 < size_nodes w → 1024 < length (type_rows words t)
too_many_sized {words} {t} sized h = omega (arith, sized.nodes, capped_min 1025 (length (type_rows words t)))

pub few_sized : {words : List ℕ} {t w most : ℕ} → TypeMeasured words t w → most ≤ 1024 → size_nodes w ≤ most → length (type_rows words t) ≤ most
few_sized {words} {t} sized few h = omega (arith, sized.nodes, capped_min 1025 (length (type_rows words t)))

module _
    (words : List ℕ)
    (all : all_items words ≡ true)
    (t steps : ℕ)
    (near : steps + deepest (type_rows words t) ≤ 24)
    {out out' : List ℕ}
    {end : ℕ}
    (room : length (type_rows words t) ≤ length out)
    (wrote : Wrote out 0 (map word_of (deeper 0 (type_rows words t))) out' end)
  where
    -- they stand in front
    pub leaf_end : end ≡ length (type_rows words t)
    leaf_end = wrote.after ∙ simp (length-map, deeper_length) (omega arith)

    pub leaf_inside : end ≤ length out'
    leaf_inside = omega (arith, leaf_end, wrote_length wrote)

    -- the words of its trie are the leaf
    leaf_words : take end out' ≡ map word_of (type_rows words t)
    leaf_words =
        let many : end ≡ length (map word_of (type_rows words t)) = leaf_end ∙ sym (length-map (type_rows words t) word_of) in
        rw (many, wrote.text, deeper_none (type_rows words t)) (taken_back out (map word_of (type_rows words t)) (rw length-map room))

    pub leaf_below : all_below steps (take end out') ≡ true
    leaf_below = rw leaf_words (type_words words all t steps near).1

    pub leaf_is : leaf_of false (take end out') ≡ type_to_access_trie (items_of words) t
    leaf_is = ap (λ (rows : List Row). record { mark = false; below = rows }) (ap rows_of leaf_words ∙ (type_words words all t steps near).0)

-- All of them.

-- the paths of pairs are paths, and none with its type goes too deep
pub taken_path :
    (words pairs : List ℕ) (i : ℕ)
    → AllTakenPaths (map (taken_at words) pairs)
    → i < length pairs
    → IsPath (path_at words (get_or pairs i 0 / 1024))
unfolding AllTakenPaths
taken_path words [] i all h = absurd (omega arith)
taken_path words (pair ∷ pairs) zero all h = all.0
taken_path words (pair ∷ pairs) (suc i) all h = taken_path words pairs i all.1 (omega arith)

pub taken_near :
    (items words pairs : List ℕ) (i : ℕ)
    → any_taken_deep items (map (taken_at words) pairs) ≡ false
    → i < length pairs
    → length (path_at words (get_or pairs i 0 / 1024)) + deepest (type_rows items (get_or pairs i 0 % 1024)) ≤ 24
unfolding any_taken_deep
taken_near items words [] i none_deep h = absurd (omega arith)
taken_near items words (pair ∷ pairs) zero none_deep h =
    ltb-false 24 _
    (or_neither (ltb 24 (length (path_at words (pair / 1024)) + deepest (type_rows items (pair % 1024)))) (any_taken_deep items (map (taken_at words) pairs)) none_deep).0
taken_near items words (pair ∷ pairs) (suc i) none_deep h =
    taken_near items words pairs i (or_neither (ltb 24 (length (path_at words (pair / 1024)) + deepest (type_rows items (pair % 1024)))) (any_taken_deep items (map (taken_at words) pairs)) none_deep).1 (omega arith)

-- i pairs are added, and the others lead to all
pub record AddingTaken (items : List Item) (words pairs start : List ℕ) (i : ℕ) (trie : List ℕ) : Type 0 where
  pub inside : i ≤ length pairs
  pub state : IsState trie
  pub left :
      add_taken items (rows_in trie) (map (taken_at words) (drop i pairs)) ≡ add_taken items (rows_in start) (map (taken_at words) pairs)

pub adding_none : (items : List Item) (words pairs start : List ℕ) → IsState start → AddingTaken items words pairs start 0 start
adding_none items words pairs start state = record { inside = omega arith; state = state; left = refl }

module _ {items : List Item} {words pairs start : List ℕ} {i : ℕ} {trie : List ℕ} (adding : AddingTaken items words pairs start i trie) where
  -- no pair is left
  pub pairs_added : length pairs ≤ i → Became (add_taken items (rows_in start) (map (taken_at words) pairs)) trie true
  unfolding union_all
  pairs_added h = record {
    judged = sym (rw (← all) (le-leb _ 1024 few));
    still = adding.state;
    there = λ e. all;
  }
    where
      all : rows_in trie ≡ add_taken items (rows_in start) (map (taken_at words) pairs)
      all = rw (drop_of_length-le pairs h) at adding.left

      few : length (rows_in trie) ≤ 1024
      few = rw (length-map (words_in trie) row_in, length-take) (omega (arith, adding.state.few_rows))

  module _ (more : i < length pairs) where
    next_added :
        add_taken items
        (add_access_path (rows_in trie) (path_at words (get_or pairs i 0 / 1024)) (type_to_access_trie items (get_or pairs i 0 % 1024)))
        (map (taken_at words) (drop (i + 1) pairs))
        ≡ add_taken items (rows_in start) (map (taken_at words) pairs)
    unfolding union_all
    next_added = rw (pairs_left words pairs i more) at adding.left

    module _
        {trie' : List ℕ}
        {fits : Bool}
        (became :
        Became (add_access_path (rows_in trie) (path_at words (get_or pairs i 0 / 1024)) (type_to_access_trie items (get_or pairs i 0 % 1024)))
        trie'
        fits)
      where
        -- the next does not fit
        pub pairs_over : fits ≡ false → Became (add_taken items (rows_in start) (map (taken_at words) pairs)) trie' false
        pairs_over e = record {
          judged = sym (lt-leb (length (add_taken items (rows_in start) (map (taken_at words) pairs))) 1024 over);
          still = became.still;
          there = λ e. absurd (false≢true e);
        }
          where
            over : 1024 < length (add_taken items (rows_in start) (map (taken_at words) pairs))
            over =
                let one : List Row =
                add_access_path (rows_in trie) (path_at words (get_or pairs i 0 / 1024)) (type_to_access_trie items (get_or pairs i 0 % 1024)) in
                let longer : 1024 < length one = leb-false (length one) 1024 (sym became.judged ∙ e) in
                rw (← next_added) (omega (arith, all_length one (taken_tries items (map (taken_at words) (drop (i + 1) pairs)))))

        -- the next fits
        pub pairs_next : fits ≡ true → AddingTaken items words pairs start (i + 1) trie'
        pairs_next e = record { inside = omega arith; state = became.still; left = rw (became.there e) next_added }

-- The names of a record literal.

-- a name has a field exactly where it has a place
named_not :
    (f : ℕ) (fields : Fields) → name_place (names_in fields) f ≡ length (names_in fields) → is_there (field_of f fields) ≡ false
unfolding name_place names_in field_of
named_not f no_field e = refl
named_not f (field name paths fields) e =
    by_test (eqb name f)
    (λ here. let first : 0 ≡ suc (length (names_in fields)) = rw here at e in absurd (omega arith))
    (λ other.
    let later : suc (name_place (names_in fields) f) ≡ suc (length (names_in fields)) = rw other at e in
    rw other (named_not f fields (omega arith)))

named_yes :
    (f : ℕ) (fields : Fields) → (name_place (names_in fields) f ≡ length (names_in fields) → ⊥) → is_there (field_of f fields) ≡ true
unfolding name_place names_in field_of
named_yes f no_field n = absurd (n refl)
named_yes f (field name paths fields) n =
    by_test (eqb name f)
    (λ here. rw here)
    (λ other. rw other (named_yes f fields (λ e. (rw other at n) (ap suc e))))

-- a name that is not found, and one that is
pub place_none : (names : List ℕ) (name : ℕ) (found : Maybe ℕ) → IsPlace names name found → is_some found ≡ false → name_place names name ≡ length names
place_none names name None there e = there
place_none names name (Some place) there e = absurd (true≢false e)

pub place_some : (names : List ℕ) (name : ℕ) (found : Maybe ℕ) → IsPlace names name found → is_some found ≡ true → name_place names name ≡ length names → ⊥
place_some names name None there e missing = false≢true e
place_some names name (Some place) there e missing = omega (arith, there)

-- i attributes are passed, and the others say what is answered
pub record Checking (attributes names : List ℕ) (i : ℕ) : Type 0 where
  pub inside : i ≤ length attributes
  pub left :
      (fields : Fields)
      → names ≡ names_in fields
      → has_all fields (items_of attributes) ≡ has_all fields (items_of (drop i attributes))

pub checking_none : (attributes names : List ℕ) → Checking attributes names 0
checking_none attributes names = record { inside = omega arith; left = λ fields e. refl }

module _ {attributes names : List ℕ} {i : ℕ} (checking : Checking attributes names i) where
  -- none is left
  pub checking_all : length attributes ≤ i → (fields : Fields) → names ≡ names_in fields → true ≡ has_all fields (items_of attributes)
  unfolding has_all
  checking_all h fields e = sym (checking.left fields e ∙ rw (drop_of_length-le attributes h))

  module _ (more : i < length attributes) where
    next_checked :
        (fields : Fields)
        → names ≡ names_in fields
        → has_all fields (items_of attributes)
        ≡ (is_there (field_of (get_or attributes i 0 / 2 ^ 40) fields) && has_all fields (items_of (drop (i + 1) attributes)))
    unfolding has_all
    next_checked fields e = checking.left fields e ∙ rw (items_at attributes i more)

    -- the next is not named, or is
    pub checking_not :
        name_place names (get_or attributes i 0 / 2 ^ 40) ≡ length names
        → (fields : Fields)
        → names ≡ names_in fields
        → false ≡ has_all fields (items_of attributes)
    checking_not h fields e =
        sym (next_checked fields e ∙ rw (named_not (get_or attributes i 0 / 2 ^ 40) fields (rw e at h)))

    pub checking_next :
        (name_place names (get_or attributes i 0 / 2 ^ 40) ≡ length names → ⊥) → Checking attributes names (i + 1)
    checking_next h = record {
      inside = omega arith;
      left =
          λ fields e.
          next_checked fields e ∙ rw (named_yes (get_or attributes i 0 / 2 ^ 40) fields (rw e at h));
    }
