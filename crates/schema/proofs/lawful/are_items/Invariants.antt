use Rattle.schema.specs.Bounds.{known_for}
use Rattle.schema.specs.ItemLaws.{ItemsJudged}
use Rattle.schema.proofs.lawful.are_items.Given as goal

abbrev pub invariant-loop-word : goal.invariant-loop-word
invariant-loop-word l = ItemsJudged l.words (known_for l.known) l.word-index
