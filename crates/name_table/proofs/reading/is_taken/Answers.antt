-- `name_table::reading::is_taken` meets its contract: a word of the same kind and name is among the words.
use mathlib.Core.Path.{◌∙◌}
use Rattle.std.proofs.Common.{rules, tests}
use Rattle.std.proofs.lemmas.Iterator.{YieldsList-from_slice}
use Rattle.std.proofs.lemmas.Iterator.Search.{any_from_yields_List}
use Rattle.rules.specs.Names.{same_name}
use Rattle.name_table.specs.Words.{named_in}
use Rattle.name_table.specs.NameLaws.{any_taken}
use Rattle.name_table.proofs.reading.is_taken.Goals as goal

pub returns : goal.returns
returns c =
    let a = c.args in
    let any = any_from_yields_List (λ word. same_name a.text.now a.kind a.name.now (named_in word)) _ _ _ c.any.ensures.ran (YieldsList-from_slice a.words.now cc) (λ x b q k. search (rules, tests)) in
    any ∙ any_taken a.text.now a.kind a.name.now a.words.now
