-- Laws of where a schema has come to after each line, and of how many lines that leaves room for. No contract cites this file.
use Rattle.std.specs.Prelude.{ℕ, ◌+◌, ◌*◌, ◌≤◌, ◌<◌, true, false, cond, ◌&&◌, ◌≡◌, refl, eqb, ltb, leb}
use Rattle.std.proofs.Common.{arith, sym, ap, ◌∙◌, ltb-true, leb-true, eqb-true, eq-eqb, ne_eqb, le-leb}
use Rattle.std.proofs.Math.Bool.{and-eq-true_iff}
use Rattle.std.proofs.lemmas.Bool.{eqb-false, lt-leb}
use Rattle.rules.specs.Facts.{by_test, compared}
use Rattle.rules.specs.Schema.{Item, Known, section_of, most_of, room_after, within, key_fits, value_fits, fits, beyond}
use Rattle.schema.specs.Bounds.{most_lines, Bounded}

-- ---- how many lines there are at most

-- one of the four sections
by_section : {A : Type 0} (s : ℕ) → s ≤ 3 → (s ≡ 0 → A) → (s ≡ 1 → A) → (s ≡ 2 → A) → (s ≡ 3 → A) → A
by_section s h types entities literals actions =
    by_test (eqb s 0)
    (λ e. types (eqb-true s 0 e))
    (λ e₀. by_test (eqb s 1)
    (λ e. entities (eqb-true s 1 e))
    (λ e₁. by_test (eqb s 2)
    (λ e. literals (eqb-true s 2 e))
    (λ e₂. actions (omega (arith, eqb-false s 0 e₀, eqb-false s 1 e₁, eqb-false s 2 e₂)))))

most_types : (s l : ℕ) → s ≡ 0 → most_lines s l ≡ 65 * l
most_types s l e = rw e

most_entities : (s l : ℕ) → s ≡ 1 → most_lines s l ≡ 66560 + 65 * l
most_entities s l e = rw e

most_literals : (s l : ℕ) → s ≡ 2 → most_lines s l ≡ 133120 + l
most_literals s l e = rw e

most_actions : (s l : ℕ) → s ≡ 3 → most_lines s l ≡ 141312 + l
most_actions s l e = rw e

-- one more line of a section leaves room for itself and its attributes
most_more : (s l room : ℕ) → s ≤ 3 → room ≤ 64 → (2 ≤ s → room ≡ 0) → most_lines s l + (1 + room) ≤ most_lines s (l + 1)
most_more s l room h few bare =
    by_section s h
    (λ e. omega (arith, most_types s l e, most_types s (l + 1) e))
    (λ e. omega (arith, most_entities s l e, most_entities s (l + 1) e))
    (λ e. omega (arith, most_literals s l e, most_literals s (l + 1) e, bare (omega arith)))
    (λ e. omega (arith, most_actions s l e, most_actions s (l + 1) e, bare (omega arith)))

module _ (known : Known) (bounded : Bounded known) where
  -- the lines up to a section are fewer than those of a later one
  most_before : (s : ℕ) → known.section < s → s ≤ 3 → most_lines known.section known.lines ≤ most_lines s 0
  most_before s later h =
      let t = known.section in
      let l = known.lines in
      by_section t bounded.in_section
      (λ z. let few = bounded.few_others (ne_eqb t 2 (omega arith)) in
      by_section s h
      (λ e. absurd (omega arith))
      (λ e. omega (arith, most_types t l z, most_entities s 0 e))
      (λ e. omega (arith, most_types t l z, most_literals s 0 e))
      (λ e. omega (arith, most_types t l z, most_actions s 0 e)))
      (λ z. let few = bounded.few_others (ne_eqb t 2 (omega arith)) in
      by_section s h
      (λ e. absurd (omega arith))
      (λ e. absurd (omega arith))
      (λ e. omega (arith, most_entities t l z, most_literals s 0 e))
      (λ e. omega (arith, most_entities t l z, most_actions s 0 e)))
      (λ z. let last : s ≡ 3 = omega arith in omega (arith, most_literals t l z, most_actions s 0 last, bounded.few_lines))
      (λ z. absurd (omega arith))

  -- and all lines are fewer than a state has words
  pub most-lines : most_lines known.section known.lines ≤ 142336
  most-lines =
      let t = known.section in
      let l = known.lines in
      by_section t bounded.in_section
      (λ z. omega (arith, most_types t l z, bounded.few_others (ne_eqb t 2 (omega arith))))
      (λ z. omega (arith, most_entities t l z, bounded.few_others (ne_eqb t 2 (omega arith))))
      (λ z. omega (arith, most_literals t l z, bounded.few_lines))
      (λ z. omega (arith, most_actions t l z, bounded.few_others (ne_eqb t 2 (omega arith))))

-- ---- a line that may come next

-- an attribute has room
pub attribute_room : (known : Known) (it : Item) → it.tag ≡ 12 → fits known it ≡ true → 0 < known.room
attribute_room known it e may = ltb-true 0 known.room ((and-eq-true_iff (ltb 0 known.room) _).0 (rw (eq-eqb it.tag 12 e) at may)).0

-- any other line is judged by its section
pub line_fits : (known : Known) (it : Item) {section : ℕ} → (it.tag ≡ 12 → ⊥) → section ≡ section_of it.tag →
    fits known it ≡ leb known.section section && (ltb (within known section).lines (most_of section) && (key_fits (within known section) it && value_fits known it))
line_fits known it other e = rw (ne_eqb it.tag 12 other, e)

-- a later section has no lines yet
within_cases : {A : Type 0} (known : Known) (s : ℕ) → known.section ≤ s →
    (known.section ≡ s → (within known s).lines ≡ known.lines → A) → (known.section < s → (within known s).lines ≡ 0 → A) → A
within_cases known s h same later =
    by_test (eqb known.section s)
    (λ e. same (eqb-true known.section s e) (rw e))
    (λ e. later (omega (arith, eqb-false known.section s e)) (rw e))

most_few : (s : ℕ) → most_of s ≤ 8192
most_few s = by_test (eqb s 2) (λ e. rw e (omega arith)) (λ e. rw e (omega arith))

-- what is known of a line by its tag: its section, the attributes that may follow, and whether it is a type
record Tagged (tag s : ℕ) : Type 0 where
  in_section : s ≤ 3
  few_attributes : room_after tag ≤ 64
  no_attributes : 2 ≤ s → room_after tag ≡ 0
  a_type : s ≡ 0 → leb tag 10 ≡ true
  no_type : (s ≡ 0 → ⊥) → leb tag 10 ≡ false

room_few : (tag : ℕ) → room_after tag ≤ 64
room_few tag =
    by_test (eqb tag 7)
    (λ e. rw e (omega arith))
    (λ e. rw e (by_test (eqb tag 8)
    (λ e. rw e (omega arith))
    (λ e. rw e (by_test (eqb tag 11) (λ e. rw e (omega arith)) (λ e. rw e (omega arith))))))

room_none : (tag : ℕ) → 11 < tag → room_after tag ≡ 0
room_none tag h = rw (ne_eqb tag 7 (omega arith), ne_eqb tag 8 (omega arith), ne_eqb tag 11 (omega arith))

tagged : (tag : ℕ) → (tag ≡ 12 → ⊥) → Tagged tag (section_of tag)
tagged tag other =
    compared 10 tag
    (λ h. rw (lt-leb tag 10 h) (by_test (eqb tag 11)
    (λ e. rw (eqb-true tag 11 e) (record {
      in_section = omega arith;
      few_attributes = omega arith;
      no_attributes = λ h. absurd (omega arith);
      a_type = λ z. absurd (omega arith);
      no_type = λ z. refl;
    }))
    (λ e. let past : 12 < tag = omega (arith, eqb-false tag 11 e) in
    rw (lt-leb tag 12 past) (by_test (eqb tag 13)
    (λ e. rw e (record {
      in_section = omega arith;
      few_attributes = room_few tag;
      no_attributes = λ h. room_none tag (omega arith);
      a_type = λ z. absurd (omega arith);
      no_type = λ z. lt-leb tag 10 h;
    }))
    (λ e. rw e (record {
      in_section = omega arith;
      few_attributes = room_few tag;
      no_attributes = λ h. room_none tag (omega arith);
      a_type = λ z. absurd (omega arith);
      no_type = λ z. lt-leb tag 10 h;
    }))))))
    (λ h. rw (le-leb tag 10 h) (record {
      in_section = omega arith;
      few_attributes = room_few tag;
      no_attributes = λ h. absurd (omega arith);
      a_type = λ z. le-leb tag 10 h;
      no_type = λ z. absurd (z refl);
    }))

-- a schema that has come to a line of a section
abbrev entered : Known → Item → ℕ → Known
entered known it s = record {
  section = s;
  lines = (within known s).lines + 1;
  least = it.key + 1;
  types = cond (leb it.tag 10) (known.types + 1) known.types;
  room = room_after it.tag;
  field = 0;
  bound = known.types;
}

module _ (known : Known) (it : Item) (s : ℕ) (bounded : Bounded known) (kind : Tagged it.tag s) (later : known.section ≤ s) (left : (within known s).lines < most_of s) where
  -- types are counted by the lines of their section
  first_section : s ≡ 0 → known.types ≡ (within known s).lines
  first_section z =
      within_cases known s later
      (λ same lines. bounded.in_types (same ∙ z) ∙ sym lines)
      (λ before lines. absurd (omega arith))

  few_types : cond (leb it.tag 10) (known.types + 1) known.types ≤ 1024
  few_types =
      by_test (eqb s 0)
      (λ e. let z = eqb-true s 0 e in
      rw (kind.a_type z) (omega (arith, first_section z, (rw (ne_eqb s 2 (omega arith)) at left))))
      (λ e. rw (kind.no_type (eqb-false s 0 e)) bounded.few_types)

  entered_bounded : Bounded (entered known it s)
  entered_bounded = record {
    in_section = kind.in_section;
    few_lines = omega (arith, left, most_few s);
    few_others = λ o. omega (arith, (rw o at left));
    few_types = few_types;
    in_types = λ z. rw (kind.a_type z) (ap (λ (n : ℕ). n + 1) (first_section z));
  }

  entered_counted : (count : ℕ) → count + known.room ≤ most_lines known.section known.lines →
      count + 1 + room_after it.tag ≤ most_lines s ((within known s).lines + 1)
  entered_counted count counted =
      let more = most_more s (within known s).lines (room_after it.tag) kind.in_section kind.few_attributes kind.no_attributes in
      within_cases known s later
      (λ same lines. omega (arith, more, counted, most_same same lines))
      (λ before lines. omega (arith, more, counted, most_before known bounded s before kind.in_section, most_none lines))
    where
      most_same : known.section ≡ s → (within known s).lines ≡ known.lines → most_lines known.section known.lines ≡ most_lines s (within known s).lines
      most_same same lines = rw (lines, same)

      most_none : (within known s).lines ≡ 0 → most_lines s (within known s).lines ≡ most_lines s 0
      most_none lines = rw lines

-- ---- what a line that may come leaves

module _ (known : Known) (it : Item) (bounded : Bounded known) (may : fits known it ≡ true) where
  -- a line that is no attribute is of no earlier section, which is not full
  line_place : (it.tag ≡ 12 → ⊥) → (known.section ≤ section_of it.tag) × ((within known (section_of it.tag)).lines < most_of (section_of it.tag))
  line_place other =
      let (later, rest) = (and-eq-true_iff (leb known.section (section_of it.tag)) _).0 (rw (ne_eqb it.tag 12 other) at may) in
      let (left, _) = (and-eq-true_iff (ltb (within known (section_of it.tag)).lines (most_of (section_of it.tag))) _).0 rest in
      (leb-true _ _ later, ltb-true _ _ left)

  pub bounded_beyond : Bounded (beyond known it)
  bounded_beyond =
      by_test (eqb it.tag 12)
      (λ e. rw e (record {
        in_section = bounded.in_section;
        few_lines = bounded.few_lines;
        few_others = bounded.few_others;
        few_types = bounded.few_types;
        in_types = bounded.in_types;
      }))
      (λ e. let other = eqb-false it.tag 12 e in
      let (later, left) = line_place other in
      rw e (entered_bounded known it (section_of it.tag) bounded (tagged it.tag other) later left))

  pub counted_beyond : (count : ℕ) → count + known.room ≤ most_lines known.section known.lines →
      count + 1 + (beyond known it).room ≤ most_lines (beyond known it).section (beyond known it).lines
  counted_beyond count counted =
      by_test (eqb it.tag 12)
      (λ e. rw e (omega (arith, counted, attribute_room known it (eqb-true it.tag 12 e) may)))
      (λ e. let other = eqb-false it.tag 12 e in
      let (later, left) = line_place other in
      rw e (entered_counted known it (section_of it.tag) bounded (tagged it.tag other) later left count counted))
