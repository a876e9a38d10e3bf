-- `schema::known::Known::beyond` meets its contract: each branch is a case of `beyond`, which keeps the limits.
use native.Mathlib.Omega.{arith}
use mathlib.Core.Path.{◌≡◌, ap, ◌∙◌}
use borrow.Author.Tests.{le-leb, lt-leb, eq-eqb, ne_eqb}
use Prim.Native.Nat.{ℕ, ◌+◌}
use Rattle.rules.specs.Schema.{Known, section_of, room_after, within}
use Rattle.schema.specs.Bounds.{known_for, Bounded}
use Rattle.schema.specs.Items.{item_for}
use Rattle.schema.specs.KnownLaws.{attribute_room, bounded_beyond}
use mathlib.Core.Bool.{cond}
use lib.Dec.{leb}
use Rattle.schema.proofs.known.Known.beyond.Goals as goal
use Rattle.schema.proofs.known.Known.beyond.Goals.{After-within, Else-item-eq-ATTRIBUTE_LINE, Joined-item-le-LAST, then-item-le-LAST, else-item-le-LAST}

pub overflow_sub-result : goal.overflow_sub-result
overflow_sub-result c =
    omega (arith, attribute_room (known_for c.args.self) (item_for c.args.item) c.if-item-eq-ATTRIBUTE_LINE.true c.requires.item_value)

pub overflow_add-result : goal.overflow_add-result
overflow_add-result c = omega (arith, c.requires.bounded)

pub returns-then-item-eq-ATTRIBUTE_LINE : goal.returns-then-item-eq-ATTRIBUTE_LINE
returns-then-item-eq-ATTRIBUTE_LINE c =
    let known = known_for c.args.self in
    let it = item_for c.args.item in
    let attribute = eq-eqb c.args.item.tag 12 c.if-item-eq-ATTRIBUTE_LINE.true in
    record { result_value = rw attribute; bounded_2 = rw attribute at (bounded_beyond known it c.requires.bounded.0 c.requires.item_value) }

pub overflow_add-types : goal.overflow_add-types
overflow_add-types c = omega (arith, c.requires.bounded.0.few_types)

-- a type is counted
counted :
    (c : Joined-item-le-LAST) →
    let a = c.args in
    c.if-item-le-LAST.types ≡ cond (leb a.item.tag 10) (a.self.types + 1) a.self.types
counted c =
    elim c.if-item-le-LAST.branch [
      | then-item-le-LAST w ↦ w.types-is ∙ rw (le-leb c.args.item.tag 10 w.if-item-le-LAST.true)
      | else-item-le-LAST w ↦ w.types-is ∙ rw (lt-leb c.args.item.tag 10 w.if-item-le-LAST.false)
    ]

-- the next line of the section
lines_next :
    (c : After-within) →
    let a = c.args in
    c.within.result.lines + 1 ≡ (within (known_for a.self) (section_of a.item.tag)).lines + 1
lines_next c =
    let known = known_for c.args.self in
    ap (λ (k : Known). k.lines + 1) (c.within.ensures ∙ ap (λ (n : ℕ). within known n) c.section_of-section.ensures)

-- the limits of what is known past the line
kept :
    (c : Else-item-eq-ATTRIBUTE_LINE) →
    let a = c.args in
    let known = known_for a.self in
    let section = section_of a.item.tag in
    Bounded (record {
      section = section;
      lines = (within known section).lines + 1;
      least = a.item.key + 1;
      types = cond (leb a.item.tag 10) (a.self.types + 1) a.self.types;
      room = room_after a.item.tag;
      field = 0;
      bound = a.self.types;
    })
kept c =
    rw (ne_eqb c.args.item.tag 12 c.if-item-eq-ATTRIBUTE_LINE.false) at (bounded_beyond (known_for c.args.self) (item_for c.args.item) c.requires.bounded.0 c.requires.item_value)

pub overflow_add-result-2 : goal.overflow_add-result-2
overflow_add-result-2 c = omega (arith, lines_next (goal.at.overflow_add-result-2 c).After-within, (kept (goal.at.overflow_add-result-2 c).Else-item-eq-ATTRIBUTE_LINE).few_lines)

pub overflow_add-result-3 : goal.overflow_add-result-3
overflow_add-result-3 c = omega (arith, c.requires.bounded)

pub returns : goal.returns
returns c =
    let lines = lines_next (goal.at.returns c).After-within in
    let types = counted (goal.at.returns c).Joined-item-le-LAST in
    record { result_value = rw (ne_eqb c.args.item.tag 12 c.if-item-eq-ATTRIBUTE_LINE.false) (λ i. record { section = c.section_of-section.ensures i; lines = lines i; least = c.args.item.key + 1; types = types i; room = c.room_after.ensures i; field = 0; bound = c.args.self.types }); bounded_2 = rw (c.section_of-section.ensures, lines, types, c.room_after.ensures) (kept (goal.at.returns c).Else-item-eq-ATTRIBUTE_LINE) }
