-- Laws of a schema's text that is read into a buffer: the buffer is then a lawful schema with the text's items. No contract cites this file.
use Rattle.rows.specs.LentLaws.{words_held}
use Rattle.std.specs.Prelude.{ℕ, ◌+◌, ◌/◌, ◌%◌, ◌^◌, ◌≤◌, ◌<◌, ◌≡◌, refl, Bool, true, cond, leb, ltb, eqb}
use Rattle.std.proofs.Common.{arith, sym, ap₂, ◌∙◌}
use Rattle.std.proofs.Math.Path.{ap}
use mathlib.Core.List.{List, [], ◌∷◌, map}
use Rattle.std.proofs.Math.Option.{none, some, none-ne-some, some-injective}
use borrow.Author.Tests.{eqb-true, leb-true, le-leb, lt-leb, lt-ltb, eq-eqb, ne_eqb}
use Rattle.std.proofs.Math.ListN.{length}
use Rattle.std.proofs.lemmas.List.{length-map}
use Rattle.std.proofs.lemmas.List.Edits.{sets}
use Rattle.std.proofs.Math.Seq.{length-sets}
use Rattle.rules.specs.Numbers.{Answer, accepted, refused}
use Rattle.rules.specs.Facts.{by_test, compared, cond-some, cond_other, cond-true}
use Rattle.rules.specs.Text.{bytes, decimal_of}
use Rattle.rules.proofs.TextLaws.{decimal_written}
use Rattle.rules.specs.Listing.{is_letter, place_in}
use Rattle.rules.proofs.ListingLaws.{bind_some, place_read}
use Rattle.rules.specs.Schema.{Item, Known, item, unknown, set_type, entity_type, entity_line, attribute_line, last_type, ascending, names_of, value_of, type_of, pair_of, item_of, fits, beyond, lawful_items, read_schema}
use Rattle.rules.proofs.SchemaLaws.{Said, schema_said}
use Rattle.rules.proofs.StepLaws.{Each, GoodSchema}
use Rattle.words.specs.Runs.{words_in}
use Rattle.words.specs.RunLaws.{held_count}
use Rattle.words.specs.Replies.{Done}
use Rattle.schema.specs.Items.{item_in, item_word, is_item, all_items, items_of, items_in, schema_words, lawful_schema}
use Rattle.schema_text.specs.Outcomes.{storing_items, read_schema_in}
use Rattle.schema.specs.ItemLaws.{bounded_none}
use Rattle.schema.specs.Bounds.{most_lines, Bounded}
use Rattle.schema.specs.KnownLaws.{most-lines, bounded_beyond, counted_beyond}
use Rattle.schema_text.specs.ReadLaws.{ItemFits, item_fits}
use Rattle.step_runs.specs.StepRunLaws.{schema_good}
use Rattle.schema.specs.ItemLaws.{lawful-items}
pub use Rattle.calls.specs.SchemaReadLaws.{is_value}

-- ---- what a line says is an item by itself

is-item : (it : Item) → it.key ≤ 65535 → is_value it.tag it.value ≡ true → is_item it ≡ true
unfolding is_item
is-item it key value = rw (le-leb it.key 65535 key) value

-- of names that ascend, the first is not the last that there is
names_below :
    (field next : List ℕ) (fields : List (List ℕ)) (ns : List ℕ) (v : ℕ)
    → ascending 0 (field ∷ next ∷ fields) ≡ some ns
    → names_of ns ≡ some v
    → v < 131071
unfolding ascending
names_below field next fields ns v e named =
    bind_some (decimal_of field) _ ns e λ n _ e.
    bind_some (cond (leb 0 n) (ascending (n + 1) (next ∷ fields)) none) _ ns e λ others rest e.
    bind_some (decimal_of next) _ others (cond-some (leb 0 n) (ascending (n + 1) (next ∷ fields)) others rest).1 λ m second f.
    bind_some (cond (leb (n + 1) m) (ascending (m + 1) fields) none) _ others f λ more enough f.
    let above : n + 1 ≤ m = leb-true (n + 1) m (cond-some (leb (n + 1) m) _ more enough).0 in
    let small : m ≤ 65535 = (decimal_written next m second).1 in
    let front : m ∷ more ≡ others = some-injective (m ∷ more) others f in
    let whole : n ∷ others ≡ ns = some-injective (n ∷ others) ns e in
    let first : n + 65536 ≡ v = some-injective (n + 65536) v (ap names_of (ap (λ (l : List ℕ). n ∷ l) front ∙ whole) ∙ named) in
    omega arith

value_said : (kind : ℕ) (more : List (List ℕ)) (v : ℕ) → value_of kind more ≡ some v → is_value kind v ≡ true
value_said kind [] v e =
    let (low, e) = cond-some (leb kind last_type) _ v e in
    let (no_set, e) = cond_other (eqb kind set_type) _ v e in
    let (no_entity, e) = cond_other (eqb kind entity_type) (some 0) v e in
    rw (no_entity, no_set, le-leb kind entity_line (omega (arith, leb-true kind last_type low))) (eq-eqb v 0 (sym (some-injective 0 v e)))
value_said kind (field ∷ []) v e =
    by_test (eqb kind set_type)
    (λ q. rw (eqb-true kind set_type q))
    (λ q.
    let (entity, d) = cond-some (eqb kind entity_type) (decimal_of field) v (rw q at e) in
    rw (eqb-true kind entity_type entity) (lt-ltb v 131071 (omega (arith, (decimal_written field v d).1))))
value_said kind (field ∷ next ∷ fields) v e =
    let (entity, named) = cond-some (eqb kind entity_type) _ v e in
    bind_some (ascending 0 (field ∷ next ∷ fields)) names_of v named λ ns read named.
    rw (eqb-true kind entity_type entity) (lt-ltb v 131071 (names_below field next fields ns v read named))

type_said : (a b : List ℕ) (more : List (List ℕ)) (it : Item) → type_of a b more ≡ some it → is_value it.tag it.value ≡ true
type_said a b more it e =
    bind_some (decimal_of a) _ it e λ n _ e.
    bind_some (decimal_of b) _ it e λ k _ e.
    bind_some (value_of k more) _ it e λ v value e.
    rw (← some-injective (item k v n) it e) (value_said k more v value)

pair_said : (word a b : List ℕ) (it : Item) → pair_of word a b ≡ some it → is_value it.tag it.value ≡ true
pair_said word a b it e =
    bind_some (place_in (bytes "FLC") word) _ it e λ place found e.
    bind_some (decimal_of a) _ it e λ k _ e.
    bind_some (decimal_of b) _ it e λ t _ e.
    let few : place < 3 = (place_read (bytes "FLC") word place found).0 in
    rw (← some-injective (item (attribute_line + place) t k) it e)
    (rw (
      ne_eqb (attribute_line + place) entity_type (λ q. omega arith),
      ne_eqb (attribute_line + place) set_type (λ q. omega arith),
      lt-leb (attribute_line + place) entity_line (omega arith),
    )
    (le-leb (attribute_line + place) 14 (omega arith)))

line_said : (fields : List (List ℕ)) (it : Item) → item_of fields ≡ some it → is_value it.tag it.value ≡ true
unfolding item_of
line_said [] it e = absurd (none-ne-some it e)
line_said (word ∷ []) it e = absurd (none-ne-some it e)
line_said (word ∷ name ∷ []) it e =
    bind_some (decimal_of name) _ it (cond-some (is_letter 69 word) _ it e).1 λ n _ e.
    rw (← some-injective (item entity_line 0 n) it e)
line_said (word ∷ a ∷ b ∷ []) it e =
    by_test (is_letter 84 word) (λ q. type_said a b [] it (rw q at e)) (λ q. pair_said word a b it (rw q at e))
line_said (word ∷ a ∷ b ∷ c ∷ more) it e = type_said a b (c ∷ more) it (cond-some (is_letter 84 word) _ it e).1

-- ---- its word says it again

item_back : (it : Item) → ItemFits it → item_in (item_word it) ≡ it
item_back it (tag, value, key) = λ i. record { tag = same_tag i; value = same-value i; key = same_key i }
  where
    same_tag : item_word it % 16 ≡ it.tag
    same_tag = omega arith

    same-value : item_word it / 16 % 2 ^ 36 ≡ it.value
    same-value = omega arith

    same_key : item_word it / 2 ^ 40 ≡ it.key
    same_key = omega arith

-- so the words of a schema's items say them, and each is one by itself
items_back : (items : List Item) → Each Said items → (items_of (map item_word items) ≡ items) × (all_items (map item_word items) ≡ true)
unfolding Each all_items
items_back [] said = (refl, refl)
items_back (it ∷ items) ((fields, e), said) =
    let fit : ItemFits it = item_fits fields it e in
    let back : item_in (item_word it) ≡ it = item_back it fit in
    let one : is_item (item_in (item_word it)) ≡ true = ap is_item back ∙ is-item it fit.2 (line_said fields it e) in
    let (rest, all) = items_back items said in
    (ap₂ (λ (a : Item) (l : List Item). a ∷ l) back rest, (cond-true (is_item (item_in (item_word it))) _).1 (one, all))

-- ---- there is room for them

items_most :
    (items : List Item) (known : Known) (count : ℕ)
    → Bounded known
    → count + known.room ≤ most_lines known.section known.lines
    → lawful_items known items ≡ true
    → count + length items ≤ 142336
unfolding lawful_items
items_most [] known count bounded counted order = omega (arith, most-lines known bounded)
items_most (it ∷ items) known count bounded counted order =
    let (may, rest) = (cond-true (fits known it) (lawful_items (beyond known it) items)).0 order in
    let more = items_most items (beyond known it) (count + 1) (bounded_beyond known it bounded may) (counted_beyond known it bounded may count counted) rest in
    omega arith

-- ---- a buffer that items are stored in

module _ (out : List ℕ) (items : List Item) (long : schema_words ≤ length out) (order : lawful_items unknown items ≡ true) (said : Each Said items) where
  stored_schema : (lawful_schema (sets out 0 (length items ∷ map item_word items)) ≡ true) × (items_in (sets out 0 (length items ∷ map item_word items)) ≡ items)
  unfolding lawful_schema
  stored_schema =
      let few : 0 + length items ≤ 142336 = items_most items unknown 0 bounded_none (omega arith) order in
      let (back, all) = items_back items said in
      let words = words_held out (map item_word items) (length-map items item_word) (omega arith) in
      let count = held_count out (map item_word items) (length-map items item_word) (omega arith) in
      let size = length-sets out 0 (length items ∷ map item_word items) in (
        rw (size, le-leb schema_words (length out) long, words, count, lt-ltb (length items) schema_words (omega arith), all, back) order,
        ap items_of words ∙ back,
      )

-- What reading a schema's text stores with Done is a lawful schema, and has the items that `rules` gives.
pub schema_read :
    (text out : List ℕ)
    → (read_schema_in text out).reply ≡ Done
    → (items : List Item) × (read_schema text ≡ accepted items)
    × ((lawful_schema (read_schema_in text out).buffer ≡ true) × (items_in (read_schema_in text out).buffer ≡ items))
unfolding read_schema_in
schema_read text out done =
    compared (length out) schema_words
    (λ short. absurd (let z : ◌≡◌ {A = ℕ} 0 1 = cc (rw (lt-leb schema_words (length out) short) at done) in omega arith))
    (λ long. rw (le-leb schema_words (length out) long) (go long (read_schema text) refl (rw (le-leb schema_words (length out) long) at done)))
  where
    go :
        schema_words ≤ length out
        → (answer : Answer (List Item))
        → read_schema text ≡ answer
        → (storing_items out answer).reply ≡ Done
        → (items : List Item) × (answer ≡ accepted items)
        × ((lawful_schema (storing_items out answer).buffer ≡ true) × (items_in (storing_items out answer).buffer ≡ items))
    go long (accepted items) e done = let (order, said) = schema_said text items e in (items, refl, stored_schema out items long order said)
    go long (refused number place) e done = absurd (let z : ◌≡◌ {A = ℕ} 0 1 = cc in omega arith)

-- the items of a lawful schema are a good schema
pub items_good : (schema : List ℕ) → lawful_schema schema ≡ true → GoodSchema (items_in schema)
items_good schema h = schema_good (words_in schema) (lawful-items schema h)
