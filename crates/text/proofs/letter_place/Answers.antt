-- `text::letter_place` meets its contract: a field of one byte stands where the first letter does that is the byte.
use Rattle.std.proofs.Common.{sym, ap, ◌∙◌, refl, rules, tests}
use Rattle.std.proofs.lemmas.Iterator.{YieldsList-from_slice}
use Rattle.std.proofs.lemmas.Iterator.Search.{position_from_yields_List}
use lib.Dec.{eqb}
use lib.ListN.{get_or}
use Rattle.text.specs.Answers.{number_of}
use Rattle.text.proofs.FieldLaws.{place_none, place_one, place_first}
use Rattle.text.proofs.letter_place.Goals as goal

pub returns-then-field-ne1 : goal.returns-then-field-ne1
returns-then-field-ne1 c = sym (place_none c.args.letters.now c.args.field.now c.if-field-ne1.true)

pub returns : goal.returns
returns c =
    let a = c.args in
    let byte = get_or a.field.now 0 0 in
    let first = position_from_yields_List (λ x. eqb byte x) _ _ _ c.position.ensures.ran (YieldsList-from_slice a.letters.now cc) (λ x b q k. search (rules, tests)) in
    ap number_of first ∙ place_first a.letters.now byte ∙ sym (place_one a.letters.now a.field.now c.if-field-ne1.false refl)
