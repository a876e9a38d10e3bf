-- `store_text::answering::find_entity` meets its contract: the first word that is the id is that of its entity.
use mathlib.Core.Path.{◌∙◌}
use lib.Dec.{eqb}
use Rattle.std.proofs.Common.{rules, tests}
use Rattle.std.proofs.lemmas.Iterator.{YieldsList-from_slice}
use Rattle.std.proofs.lemmas.Iterator.Search.{position_from_yields_List}
use Rattle.std.proofs.lemmas.Iterator.Adapters.{position_from-zero}
use Rattle.store_text.specs.AnswerLaws.{place_position, found_place}
use Rattle.store_text.proofs.answering.find_entity.Goals as goal

pub returns : goal.returns
returns c =
    let a = c.args in
    let first = position_from_yields_List (λ word. eqb word a.id) _ _ _ c.position.ensures.ran (YieldsList-from_slice a.words.now cc) (λ x b q k. search (rules, tests)) in
    found_place a.id c.requires a.words.now (first ∙ position_from-zero (λ word. eqb word a.id) a.words.now ∙ place_position a.id 0 a.words.now)
