-- Laws of the lines of a lawful schema, and of what is found among them by a name. No contract cites this file.
use Prim.Native.Nat.{ℕ, zero, suc, ◌+◌, ◌-◌, ◌*◌, ◌/◌, ◌%◌, ◌^◌, ◌≤◌, ◌<◌}
use native.Mathlib.Omega.{arith}
use Rattle.std.specs.Prelude.{true, cond, ◌&&◌, ltb, leb, length, take, drop, get_or}
use Rattle.std.proofs.Math.Bool.{and-eq-true_iff}
use Rattle.std.proofs.lemmas.Bool.{false≢true}
use mathlib.Core.List.{List, [], ◌∷◌, ◌++◌}
use Rattle.std.proofs.Math.Option.{Option, none, some}
use Rattle.std.proofs.Math.Path.{◌≡◌, refl, sym}
use Rattle.std.proofs.Common.{ap, ◌∙◌}
use borrow.Author.Tests.{ltb-true, leb-true, leb-false, eqb-true, eqb-false, eq-eqb, ne_eqb, le-leb, lt-leb}
use Rattle.std.proofs.Math.Dec.{eqb}
use Rattle.rules.specs.Facts.{by_test, compared, cond-true}
use Rattle.rules.proofs.TypeLaws.{type_section, lawful_first}
use Rattle.rules.specs.Schema.{
  Item,
  set_type,
  record_type,
  action_type,
  entity_type,
  last_type,
  entity_line,
  attribute_line,
  literal_line,
  context_line,
  section_of,
  most_of,
  Known,
  within,
  fits,
  beyond,
  lawful_items,
}
use Rattle.rules.specs.Typing.{from_line, type_named}
use Rattle.schema.specs.Items.{item_in, items_of, is_item, all_items}
use Rattle.words.specs.Keys.{searched, later}
use Rattle.std.specs.Prelude.{Result, Ok, Err}
use Rattle.type_table.specs.Tables.{value_at, value_named}
use Rattle.node_types.specs.Named.{entity_place}

-- ---- one line

-- an attribute follows only where there is room for it
no-attribute : (known : Known) (it : Item) → known.room ≡ 0 → fits known it ≡ true → it.tag ≡ attribute_line → ⊥
no-attribute known it no_room fit e =
    omega (arith, ltb-true 0 known.room ((and-eq-true_iff (ltb 0 known.room) _).0 (rw (eq-eqb it.tag attribute_line e) at fit)).0)

-- any other line is of a section that is not earlier and has room for it; past the types the keys of a section ascend
record LineFits (known : Known) (it : Item) : Type 0 where
  later : known.section ≤ section_of it.tag
  few : (within known (section_of it.tag)).lines < most_of (section_of it.tag)
  ascends : last_type < it.tag → known.section ≡ section_of it.tag → known.least ≤ it.key

line_fits : (known : Known) (it : Item) → (it.tag ≡ attribute_line → ⊥) → fits known it ≡ true → LineFits known it
line_fits known it other fit =
    let tests = rw (ne_eqb it.tag attribute_line other) at fit in
    let (later, rest) = (and-eq-true_iff (leb known.section (section_of it.tag)) _).0 tests in
    let (few, more) = (and-eq-true_iff (ltb (within known (section_of it.tag)).lines (most_of (section_of it.tag))) _).0 rest in
    record {
      later = leb-true _ _ later;
      few = ltb-true _ _ few;
      ascends = λ past same.
          let key = rw (eq-eqb known.section (section_of it.tag) same, lt-leb it.tag last_type past) at more in
          leb-true known.least it.key ((and-eq-true_iff (leb known.least it.key) _).0 key).0;
    }

-- where the schema has come to after it
after_section : (known : Known) (it : Item) → (it.tag ≡ attribute_line → ⊥) → (beyond known it).section ≡ section_of it.tag
after_section known it other = rw (ne_eqb it.tag attribute_line other)

after_least : (known : Known) (it : Item) → (it.tag ≡ attribute_line → ⊥) → (beyond known it).least ≡ it.key + 1
after_least known it other = rw (ne_eqb it.tag attribute_line other)

after_room : (known : Known) (it : Item) → attribute_line < it.tag → (beyond known it).room ≡ 0
after_room known it past =
    rw (
      ne_eqb it.tag attribute_line (omega arith),
      ne_eqb it.tag record_type (omega arith),
      ne_eqb it.tag action_type (omega arith),
      ne_eqb it.tag entity_line (omega arith),
    )

-- an attribute is no line of a section
attribute_lines :
    (known : Known) (it : Item) (s : ℕ)
    → eqb it.tag attribute_line ≡ true
    → (within (beyond known it) s).lines ≡ (within known s).lines
attribute_lines known it s e = rw e (by_test (eqb known.section s) (λ q. rw q) (λ q. rw q))

-- ---- sections

-- a tag between sections: the lines up to it are of sections before one, and those past it are not; the next tag is that section's
pub record Border (n s : ℕ) : Type 0 where
  wide : attribute_line ≤ n
  up-to : (tag : ℕ) → tag ≤ n → section_of tag < s
  past : (tag : ℕ) → n < tag → s ≤ section_of tag
  own : section_of (suc n) ≡ s
  behind : (tag : ℕ) → suc n < tag → tag ≤ context_line → s < section_of tag

pub before_literals : Border attribute_line 2
before_literals = record {
  wide = omega arith;
  up-to = λ tag h. by_test (leb tag last_type) (λ e. rw e (omega arith)) (λ e. rw (e, le-leb tag attribute_line h) (omega arith));
  past = λ tag h.
      rw (lt-leb tag last_type (omega arith), lt-leb tag attribute_line h)
      (by_test (eqb tag literal_line) (λ e. rw e (omega arith)) (λ e. rw e (omega arith)));
  own = refl;
  behind = λ tag h last.
      rw (lt-leb tag last_type (omega arith), lt-leb tag attribute_line (omega arith), ne_eqb tag literal_line (omega arith)) (omega arith);
}

pub before_actions : Border literal_line 3
before_actions = record {
  wide = omega arith;
  up-to = λ tag h.
      by_test (leb tag last_type) (λ e. rw e (omega arith))
      (λ e.
      rw e
      (by_test (leb tag attribute_line) (λ f. rw f (omega arith))
      (λ f. rw (f, eq-eqb tag literal_line (omega (arith, leb-false tag attribute_line f))) (omega arith))));
  past = λ tag h.
      rw (lt-leb tag last_type (omega arith), lt-leb tag attribute_line (omega arith), ne_eqb tag literal_line (omega arith)) (omega arith);
  own = refl;
  behind = λ tag h last. absurd (omega arith);
}

module _ {n s : ℕ} (border : Border n s) where
  -- once a schema has come past it, so are all lines that follow
  late_first : (known : Known) (it : Item) → s ≤ known.section → known.room ≡ 0 → fits known it ≡ true → n < it.tag
  late_first known it in_section no_room fit =
      compared n it.tag (λ h. h)
      (λ h.
      let other = no-attribute known it no_room fit in
      absurd (omega (arith, border.up-to it.tag h, (line_fits known it other fit).later)))

  late_after : (known : Known) (it : Item) → n < it.tag → (s ≤ (beyond known it).section) × ((beyond known it).room ≡ 0)
  late_after known it past =
      let wide = border.wide in
      let other : it.tag ≡ attribute_line → ⊥ = λ e. omega arith in
      (rw (after_section known it other) (border.past it.tag past), after_room known it (omega arith))

  late :
      (known : Known) (words : List ℕ) (at : ℕ)
      → s ≤ known.section
      → known.room ≡ 0
      → lawful_items known (items_of words) ≡ true
      → at < length words
      → n < get_or words at 0 % 16
  late known [] at in_section no_room lawful inside = absurd (omega arith)
  late known (w ∷ words) zero in_section no_room lawful inside =
      late_first known (item_in w) in_section no_room (lawful_first known (item_in w) (items_of words) lawful).0
  late known (w ∷ words) (suc at) in_section no_room lawful inside =
      let (fit, rest) = lawful_first known (item_in w) (items_of words) lawful in
      let (section, room) = late_after known (item_in w) (late_first known (item_in w) in_section no_room fit) in
      late (beyond known (item_in w)) words at section room rest (omega arith)

-- ---- the first line of a tag and a key

module _ (tag key : ℕ) where
  from_empty : from_line tag key [] ≡ []
  unfolding from_line
  from_empty = refl

  from-here : (it : Item) (items : List Item) → it.tag ≡ tag → it.key ≡ key → from_line tag key (it ∷ items) ≡ it ∷ items
  unfolding from_line
  from-here it items t k = rw (eq-eqb it.tag tag t, eq-eqb it.key key k)

  from_later :
      (it : Item) (items : List Item)
      → (it.tag ≡ tag → it.key ≡ key → ⊥)
      → from_line tag key (it ∷ items) ≡ from_line tag key items
  unfolding from_line
  from_later it items other =
      by_test (eqb it.tag tag)
      (λ e. rw (e, ne_eqb it.key key (other (eqb-true it.tag tag e))))
      (λ e. rw e)

  -- and the type that it gives
  named_none : (items : List Item) → from_line tag key items ≡ [] → type_named tag key items ≡ none
  named_none items e = rw (e, type_named)

  named_here : (it : Item) (items : List Item) → it.tag ≡ tag → it.key ≡ key → type_named tag key (it ∷ items) ≡ some it.value
  named_here it items t k = rw (from-here it items t k, type_named)

  named_later :
      (it : Item) (items : List Item)
      → (it.tag ≡ tag → it.key ≡ key → ⊥)
      → type_named tag key (it ∷ items) ≡ type_named tag key items
  named_later it items other = rw (from_later it items other, type_named)

  -- a line that is found is that line, and the lines behind it are lawful
  pub from_found :
      (known : Known) (items : List Item) (it : Item) (more : List Item)
      → lawful_items known items ≡ true
      → from_line tag key items ≡ it ∷ more
      → (it.tag ≡ tag) × (it.key ≡ key) × (before : Known) × (lawful_items (beyond before it) more ≡ true)
  unfolding from_line
  from_found known [] it more lawful found = let z : ◌≡◌ {A = ℕ} 0 1 = cc in absurd (omega arith)
  from_found known (x ∷ items) it more lawful found =
      let (fit, rest) = lawful_first known x items lawful in
      by_test (eqb x.tag tag && eqb x.key key)
      (λ e.
      let (t, k) = (and-eq-true_iff (eqb x.tag tag) _).0 e in
      let given : x ∷ items ≡ it ∷ more = rw e at found in
      let line : x ≡ it = cc in
      let others : items ≡ more = cc in
      rw (← line, ← others) (eqb-true x.tag tag t, eqb-true x.key key k, known, rest))
      (λ e. from_found (beyond known x) items it more rest (rw e at found))

-- a section is passed, or has come past a key
record Passed (s key : ℕ) (known : Known) : Type 0 where
  section : s ≤ known.section
  least : known.section ≡ s → key < known.least

-- after it no line of the section has the key
module _ (tag key s : ℕ) (own : section_of tag ≡ s) (no_type : 0 < s) (line : tag ≡ attribute_line → ⊥) where
  from_none :
      (known : Known) (items : List Item)
      → Passed s key known
      → lawful_items known items ≡ true
      → from_line tag key items ≡ []
  from_none known [] passed lawful = from_empty tag key
  from_none known (it ∷ items) passed lawful =
      let (fit, rest) = lawful_first known it items lawful in
      by_test (eqb it.tag attribute_line)
      (λ e.
      from_later tag key it items (λ t k. line (sym t ∙ eqb-true it.tag attribute_line e))
      ∙ from_none (beyond known it) items (rw e (record { section = passed.section; least = passed.least })) rest)
      (λ e.
      let other = eqb-false it.tag attribute_line e in
      let f = line_fits known it other fit in
      let past : section_of it.tag ≡ s → last_type < it.tag =
      λ q. compared last_type it.tag (λ h. h) (λ h. absurd (omega (arith, type_section it.tag h))) in
      let same : section_of it.tag ≡ s → known.section ≡ s = λ q. omega (arith, f.later, passed.section) in
      let low : section_of it.tag ≡ s → key < it.key =
      λ q. omega (arith, passed.least (same q), f.ascends (past q) (same q ∙ sym q)) in
      from_later tag key it items (λ t k. omega (arith, low (ap section_of t ∙ own)))
      ∙ from_none (beyond known it) items (record {
        section = rw (after_section known it other) (omega (arith, f.later, passed.section));
        least = rw (after_section known it other, after_least known it other) (λ q. omega (arith, low q));
      }) rest)

-- ---- the lines up to a tag

-- how many words stand before the first line past it
unfoldable pub up_to : ℕ → List ℕ → ℕ
up_to n [] = 0
up_to n (w ∷ words) = let rest : ℕ = up_to n words in cond (leb (w % 16) n) (suc rest) 0

pub up_inside : (n : ℕ) (words : List ℕ) → up_to n words ≤ length words
unfolding up_to
up_inside n [] = omega arith
up_inside n (w ∷ words) = by_test (leb (w % 16) n) (λ e. rw e (omega (arith, up_inside n words))) (λ e. rw e (omega arith))

pub up_order : (m n : ℕ) (words : List ℕ) → m ≤ n → up_to m words ≤ up_to n words
unfolding up_to
up_order m n [] h = omega arith
up_order m n (w ∷ words) h =
    by_test (leb (w % 16) m)
    (λ e. rw (e, le-leb (w % 16) n (omega (arith, leb-true (w % 16) m e))) (omega (arith, up_order m n words h)))
    (λ e. rw e (omega arith))

-- the lines before that one are up to the tag, and in a lawful schema those from it on are not
pub up_low : (n : ℕ) (words : List ℕ) (at : ℕ) → at < up_to n words → get_or words at 0 % 16 ≤ n
unfolding up_to
up_low n [] at h = absurd (omega arith)
up_low n (w ∷ words) zero h =
    by_test (leb (w % 16) n) (λ e. leb-true (w % 16) n e) (λ e. absurd (omega (arith, rw e at h)))
up_low n (w ∷ words) (suc at) h =
    by_test (leb (w % 16) n) (λ e. up_low n words at (omega (arith, rw e at h))) (λ e. absurd (omega (arith, rw e at h)))

module _ {n s : ℕ} (border : Border n s) where
  pub up_high :
      (known : Known) (words : List ℕ) (at : ℕ)
      → lawful_items known (items_of words) ≡ true
      → up_to n words ≤ at
      → at < length words
      → n < get_or words at 0 % 16
  unfolding up_to
  up_high known [] at lawful past inside = absurd (omega arith)
  up_high known (w ∷ words) zero lawful past inside =
      compared n (w % 16) (λ h. h) (λ h. absurd (omega (arith, rw (le-leb (w % 16) n h) at past)))
  up_high known (w ∷ words) (suc at) lawful past inside =
      let (fit, rest) = lawful_first known (item_in w) (items_of words) lawful in
      compared n (w % 16)
      (λ h.
      let (section, room) = late_after border known (item_in w) h in
      late border (beyond known (item_in w)) words at section room rest (omega arith))
      (λ h. up_high (beyond known (item_in w)) words at rest (omega (arith, rw (le-leb (w % 16) n h) at past)) (omega arith))

-- ---- the type that a run of lines of one tag gives a key

-- a tag is at most that of actions
item_tag : (it : Item) → is_item it ≡ true → it.tag ≤ context_line
unfolding is_item
item_tag it item =
    compared context_line it.tag
    (λ h.
    let kind = ((and-eq-true_iff (leb it.key 65535) _).0 item).1 in
    absurd
    (false≢true
    (rw (
      ne_eqb it.tag entity_type (omega arith),
      ne_eqb it.tag set_type (omega arith),
      lt-leb it.tag entity_line (omega arith),
      lt-leb it.tag context_line h,
    )
    at kind)))
    (λ h. h)

-- the first of words that are items
items_first : (w : ℕ) (words : List ℕ) → all_items (w ∷ words) ≡ true → (is_item (item_in w) ≡ true) × (all_items words ≡ true)
unfolding all_items
items_first w words all = (cond-true (is_item (item_in w)) (all_items words)).0 all

-- all lines are up to the tag of actions
pub up_all : (words : List ℕ) → all_items words ≡ true → up_to context_line words ≡ length words
unfolding up_to
up_all [] all = refl
up_all (w ∷ words) all =
    let (item, rest) = items_first w words all in
    rw (le-leb (w % 16) context_line (item_tag (item_in w) item)) (ap suc (up_all words rest))

-- one more word in front changes only the place
value_later : (w : ℕ) (run : List ℕ) (s : Result ℕ ℕ) → value_at (w ∷ run) (later s) ≡ value_at run s
value_later w run (Ok place) = refl
value_later w run (Err place) = refl

module _ {n s : ℕ} (border : Border n s) (key : ℕ) where
  abbrev found_in : List ℕ → Option ℕ
  found_in words = type_named (suc n) key (items_of words)

  -- lines past a tag begin with those of the next tag
  run_named :
      (known : Known) (words : List ℕ)
      → all_items words ≡ true
      → lawful_items known (items_of words) ≡ true
      → ((at : ℕ) → at < length words → n < get_or words at 0 % 16)
      → value_named (take (up_to (suc n) words) words) key ≡ found_in words
  unfolding up_to searched
  run_named known [] all lawful past = sym (named_none (suc n) key [] (from_empty (suc n) key))
  run_named known (w ∷ words) all lawful past =
      let (fit, lawful-rest) = lawful_first known (item_in w) (items_of words) lawful in
      let (item, All-rest) = items_first w words all in
      let wide = border.wide in
      let first : n < w % 16 = past 0 (omega arith) in
      let other : w % 16 ≡ attribute_line → ⊥ = λ e. omega arith in
      let some_section : 0 < s = omega (arith, border.up-to attribute_line wide) in
      let none_after : Passed s key (beyond known (item_in w)) → found_in words ≡ none =
      λ passed.
      named_none (suc n) key (items_of words)
      (from_none (suc n) key s border.own some_section (omega arith) (beyond known (item_in w)) (items_of words) passed lawful-rest) in
      compared (suc n) (w % 16)
      (λ behind.
      let later-section = border.behind (w % 16) behind (item_tag (item_in w) item) in
      rw (lt-leb (w % 16) (suc n) behind)
      (sym
      (named_later (suc n) key (item_in w) (items_of words) (λ t k. omega arith)
      ∙ none_after (record {
        section = rw (after_section known (item_in w) other) (omega arith);
        least = rw (after_section known (item_in w) other) (λ q. absurd (omega arith));
      }))))
      (λ not_behind.
      let tag : w % 16 ≡ suc n = omega arith in
      rw (le-leb (w % 16) (suc n) not_behind)
      (by_test (eqb (w / 2 ^ 40) key)
      (λ same. rw same (sym (named_here (suc n) key (item_in w) (items_of words) tag (eqb-true (w / 2 ^ 40) key same))))
      (λ different.
      let skipped = named_later (suc n) key (item_in w) (items_of words) (λ t k. eqb-false (w / 2 ^ 40) key different k) in
      by_test (ltb key (w / 2 ^ 40))
      (λ less.
      rw (different, less)
      (sym
      (skipped
      ∙ none_after (record {
        section = rw (after_section known (item_in w) other) (border.past (w % 16) first);
        least = rw (after_least known (item_in w) other) (λ q. omega (arith, ltb-true key (w / 2 ^ 40) less));
      }))))
      (λ not-less.
      rw (different, not-less)
      (value_later w (take (up_to (suc n) words) words) (searched (take (up_to (suc n) words) words) key)
      ∙ run_named (beyond known (item_in w)) words All-rest lawful-rest (λ at h. past (suc at) (omega arith))
      ∙ sym skipped)))))

  -- and stand behind all lines up to that tag
  pub past_named :
      (known : Known) (words : List ℕ)
      → all_items words ≡ true
      → lawful_items known (items_of words) ≡ true
      → value_named (take (up_to (suc n) words - up_to n words) (drop (up_to n words) words)) key ≡ found_in words
  unfolding up_to searched
  past_named known [] all lawful = sym (named_none (suc n) key [] (from_empty (suc n) key))
  past_named known (w ∷ words) all lawful =
      let (fit, lawful-rest) = lawful_first known (item_in w) (items_of words) lawful in
      let (item, All-rest) = items_first w words all in
      compared n (w % 16)
      (λ h.
      let none_before : up_to n (w ∷ words) ≡ 0 = rw (lt-leb (w % 16) n h) in
      let from_first : up_to (suc n) (w ∷ words) - 0 ≡ up_to (suc n) (w ∷ words) = omega arith in
      rw (none_before, from_first)
      (run_named known (w ∷ words) all lawful (λ at inside. up_high border known (w ∷ words) at lawful (omega arith) inside)))
      (λ h.
      let fewer : suc (up_to (suc n) words) - suc (up_to n words) ≡ up_to (suc n) words - up_to n words = omega arith in
      rw (
        le-leb (w % 16) n h,
        le-leb (w % 16) (suc n) (omega arith),
        fewer,
      )
      (past_named (beyond known (item_in w)) words All-rest lawful-rest
      ∙ sym (named_later (suc n) key (item_in w) (items_of words) (λ t k. omega arith))))

-- ---- the table of entity types

-- a keyed word for each entity type among words from a place on
unfoldable pub entity_table : ℕ → List ℕ → List ℕ
entity_table at [] = []
entity_table at (w ∷ words) =
    let rest : List ℕ = entity_table (suc at) words in
    cond (eqb (w % 16) entity_line) ((w / 2 ^ 40 * 2 ^ 40 + at) ∷ rest) rest

-- one more word
pub table_more :
    (at : ℕ) (words : List ℕ) (w : ℕ)
    → w % 16 ≡ entity_line
    → entity_table at (words ++ (w ∷ [])) ≡ entity_table at words ++ ((w / 2 ^ 40 * 2 ^ 40 + (at + length words)) ∷ [])
unfolding entity_table
table_more at [] w e = let place : at + 0 ≡ at = omega arith in rw (eq-eqb (w % 16) entity_line e, place)
table_more at (x ∷ words) w e =
    let place : suc at + length words ≡ at + suc (length words) = omega arith in
    by_test (eqb (x % 16) entity_line)
    (λ q. rw (q, table_more (suc at) words w e, place))
    (λ q. rw (q, table_more (suc at) words w e, place))

pub table_other : (at : ℕ) (words : List ℕ) (w : ℕ) → (w % 16 ≡ entity_line → ⊥) → entity_table at (words ++ (w ∷ [])) ≡ entity_table at words
unfolding entity_table
table_other at [] w other = rw (ne_eqb (w % 16) entity_line other)
table_other at (x ∷ words) w other =
    by_test (eqb (x % 16) entity_line)
    (λ q. rw (q, table_other (suc at) words w other))
    (λ q. rw (q, table_other (suc at) words w other))

-- a line of the entity types has room among 1,024
pub entity_room :
    (at : ℕ) (known : Known) (words : List ℕ) (i : ℕ)
    → lawful_items known (items_of words) ≡ true
    → i < length words
    → get_or words i 0 % 16 ≡ entity_line
    → (within known 1).lines + length (entity_table at (take i words)) < 1024
unfolding entity_table
entity_room at known [] i lawful inside kind = absurd (omega arith)
entity_room at known (w ∷ words) zero lawful inside kind =
    let (fit, rest) = lawful_first known (item_in w) (items_of words) lawful in
    let f = line_fits known (item_in w) (λ e. omega arith) fit in
    omega (arith, rw kind at f.few)
entity_room at known (w ∷ words) (suc i) lawful inside kind =
    let (fit, rest) = lawful_first known (item_in w) (items_of words) lawful in
    let more = entity_room (suc at) (beyond known (item_in w)) words i rest (omega arith) kind in
    by_test (eqb (w % 16) entity_line)
    (λ e. rw e (omega (arith, rw (eqb-true (w % 16) entity_line e) at more)))
    (λ e.
    rw e
    (by_test (eqb (w % 16) attribute_line)
    (λ q. rw (← attribute_lines known (item_in w) 1 q) more)
    (λ q.
    let other = eqb-false (w % 16) attribute_line q in
    compared attribute_line (w % 16)
    (λ h.
    let (section, room) = late_after before_literals known (item_in w) h in
    absurd (omega (arith, late before_literals (beyond known (item_in w)) words i section room rest (omega arith))))
    (λ h.
    let type : w % 16 ≤ last_type = omega (arith, eqb-false (w % 16) entity_line e) in
    let section : known.section ≡ 0 = omega (arith, (line_fits known (item_in w) other fit).later, type_section (w % 16) type) in
    rw section (omega (arith, rw (q, type_section (w % 16) type) at more))))))

-- what a search for a name in the table says of words from a place on
pub record EntityThere (at : ℕ) (words table : List ℕ) (name i : ℕ) : Type 0 where
  pub in_table : i < length table
  pub place : ℕ
  pub says : entity_place (get_or table i 0) ≡ at + place
  pub inside : place < length words
  pub from : from_line entity_line name (items_of words) ≡ items_of (drop place words)

abbrev pub EntitySays : ℕ → List ℕ → List ℕ → ℕ → Result ℕ ℕ → Type 0
EntitySays at words table name (Ok i) = EntityThere at words table name i
EntitySays at words table name (Err i) = from_line entity_line name (items_of words) ≡ []

-- the same with a word before them that is not found
says_more :
    (at w : ℕ) (words table : List ℕ) (name : ℕ) (s : Result ℕ ℕ)
    → from_line entity_line name (items_of (w ∷ words)) ≡ from_line entity_line name (items_of words)
    → EntitySays (suc at) words table name s
    → EntitySays at (w ∷ words) table name s
says_more at w words table name (Ok i) skipped there = record {
  in_table = there.in_table;
  place = suc there.place;
  says = there.says ∙ omega arith;
  inside = omega (arith, there.inside);
  from = skipped ∙ there.from;
}
says_more at w words table name (Err i) skipped none_there = skipped ∙ none_there

-- and with one before the table
says_later :
    (at : ℕ) (words table : List ℕ) (w name : ℕ) (s : Result ℕ ℕ)
    → EntitySays at words table name s
    → EntitySays at words (w ∷ table) name (later s)
says_later at words table w name (Ok i) there = record {
  in_table = omega (arith, there.in_table);
  place = there.place;
  says = there.says;
  inside = there.inside;
  from = there.from;
}
says_later at words table w name (Err i) none_there = none_there

-- a search in the table finds what is found among the words
pub entity_searched :
    (name at : ℕ) (known : Known) (words : List ℕ)
    → lawful_items known (items_of words) ≡ true
    → at + length words < 2 ^ 40
    → EntitySays at words (entity_table at words) name (searched (entity_table at words) name)
unfolding entity_table searched
entity_searched name at known [] lawful short = from_empty entity_line name
entity_searched name at known (w ∷ words) lawful short =
    let (fit, rest) = lawful_first known (item_in w) (items_of words) lawful in
    let more = entity_searched name (suc at) (beyond known (item_in w)) words rest (omega arith) in
    by_test (eqb (w % 16) entity_line)
    (λ e.
    let tag = eqb-true (w % 16) entity_line e in
    let other : w % 16 ≡ attribute_line → ⊥ = λ q. omega arith in
    let key : (w / 2 ^ 40 * 2 ^ 40 + at) / 2 ^ 40 ≡ w / 2 ^ 40 = omega arith in
    rw (e, key)
    (by_test (eqb (w / 2 ^ 40) name)
    (λ same. rw same (record {
      in_table = omega arith;
      place = 0;
      says = omega arith;
      inside = omega arith;
      from = from-here entity_line name (item_in w) (items_of words) tag (eqb-true (w / 2 ^ 40) name same);
    }))
    (λ different.
    let skipped = from_later entity_line name (item_in w) (items_of words) (λ t k. eqb-false (w / 2 ^ 40) name different k) in
    by_test (ltb name (w / 2 ^ 40))
    (λ less.
    rw (different, less)
    (skipped
    ∙ from_none entity_line name 1 refl (omega arith) (omega arith) (beyond known (item_in w)) (items_of words) (record {
      section = rw (after_section known (item_in w) other, tag) (omega arith);
      least = rw (after_least known (item_in w) other) (λ q. omega (arith, ltb-true name (w / 2 ^ 40) less));
    }) rest))
    (λ not-less.
    rw (different, not-less)
    (says_later at (w ∷ words) (entity_table (suc at) words) (w / 2 ^ 40 * 2 ^ 40 + at) name (searched (entity_table (suc at) words) name)
    (says_more at w words (entity_table (suc at) words) name (searched (entity_table (suc at) words) name) skipped more))))))
    (λ e.
    rw e
    (says_more at w words (entity_table (suc at) words) name (searched (entity_table (suc at) words) name)
    (from_later entity_line name (item_in w) (items_of words) (λ t k. eqb-false (w % 16) entity_line e t))
    more))
