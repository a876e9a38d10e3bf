-- `schema::known::Known::fits` meets its contract: each test that it makes is one of `fits`.
use native.Mathlib.Omega.{arith}
use mathlib.Core.Path.{◌≡◌, sym, ◌∙◌}
use borrow.Author.Tests.{lt-ltb, le-ltb, le-leb, lt-leb, eq-eqb}
use Rattle.rules.specs.Schema.{most_of, within, key_fits, value_fits, fits}
use Rattle.schema.specs.Bounds.{known_for}
use Rattle.schema.specs.Items.{item_for}
use Rattle.schema.specs.KnownLaws.{line_fits}
use mathlib.Core.Bool.{◌&&◌}
use lib.Dec.{ltb, leb}
use Rattle.schema.proofs.known.Known.fits.Goals as goal
use Rattle.schema.proofs.known.Known.fits.Goals.{After-most_of, After-section_of-section}

pub returns-then-self-eq0 : goal.returns-then-self-eq0
returns-then-self-eq0 c =
    rw (eq-eqb c.args.item.tag 12 c.if-item-eq-ATTRIBUTE_LINE.true, c.if-self-eq0.true)

pub returns-then-item-self : goal.returns-then-item-self
returns-then-item-self c =
    let a = c.args in
    rw (
      eq-eqb a.item.tag 12 c.if-item-eq-ATTRIBUTE_LINE.true,
      lt-ltb 0 a.self.room (omega arith),
      lt-leb a.self.field a.item.key c.if-item-self.true,
    )

pub returns-then-item-eq-ATTRIBUTE_LINE : goal.returns-then-item-eq-ATTRIBUTE_LINE
returns-then-item-eq-ATTRIBUTE_LINE c =
    let a = c.args in
    rw (
      eq-eqb a.item.tag 12 c.if-item-eq-ATTRIBUTE_LINE.true,
      lt-ltb 0 a.self.room (omega arith),
      le-leb a.self.field a.item.key c.if-item-self.false,
    )

-- any other line is judged by its section
judged :
    (c : After-section_of-section) →
    let a = c.args in
    let known = known_for a.self in
    fits known (item_for a.item)
    ≡ leb known.section c.section_of-section.result
    && (ltb (within known c.section_of-section.result).lines (most_of c.section_of-section.result) && (key_fits (within known c.section_of-section.result) (item_for a.item) && value_fits known (item_for a.item)))
judged c =
    let a = c.args in
    line_fits (known_for a.self) (item_for a.item) c.if-item-eq-ATTRIBUTE_LINE.false c.section_of-section.ensures

pub returns-then-section-self : goal.returns-then-section-self
returns-then-section-self c = sym (judged (goal.at.returns-then-section-self c).After-section_of-section ∙ rw (lt-leb _ _ c.if-section-self.true))

-- past the first test it is judged by the lines, the key and the number
placed :
    (c : After-most_of) →
    let a = c.args in
    let there = known_for c.within-there.result in
    fits (known_for a.self) (item_for a.item)
    ≡ ltb there.lines c.most_of.result && (key_fits there (item_for a.item) && value_fits (known_for a.self) (item_for a.item))
placed c =
    (let judged-here : let a = c.args in let known = known_for a.self in fits known (item_for a.item) ≡ leb known.section c.section_of-section.result && (ltb (within known c.section_of-section.result).lines (most_of c.section_of-section.result) && (key_fits (within known c.section_of-section.result) (item_for a.item) && value_fits known (item_for a.item))) = let a = c.args in line_fits (known_for a.self) (item_for a.item) c.if-item-eq-ATTRIBUTE_LINE.false c.section_of-section.ensures in judged-here)
    ∙ rw (le-leb _ _ c.if-section-self.false, ← c.within-there.ensures, ← c.most_of.ensures)

pub returns-then-most_of-there : goal.returns-then-most_of-there
returns-then-most_of-there c = sym (placed (goal.at.returns-then-most_of-there c).After-most_of ∙ rw (le-ltb _ _ c.if-most_of-there.true))

pub returns-then-not-key_fits : goal.returns-then-not-key_fits
returns-then-not-key_fits c =
    sym
    (placed (goal.at.returns-then-not-key_fits c).After-most_of
    ∙ rw (lt-ltb _ _ c.if-most_of-there.false, sym c.key_fits.ensures ∙ c.if-not-key_fits.true))

pub returns : goal.returns
returns c =
    c.value_fits.ensures
    ∙ sym
    (placed (goal.at.returns c).After-most_of
    ∙ rw (lt-ltb _ _ c.if-most_of-there.false, sym c.key_fits.ensures ∙ c.if-not-key_fits.false))
