-- The words of proofs/SchemaLaws.antt.
use Rattle.std.specs.Prelude.{ℕ, ◌≡◌, true, List}
use Rattle.std.proofs.Math.Option.{some}
use Rattle.rules.specs.Schema.{Item, Known, item_of, lawful_items}
use Rattle.rules.specs.StepLaws.{Each}

-- a line says this item
abbrev pub Said : Item → Type 0
Said it = (fields : List (List ℕ)) × (item_of fields ≡ some it)

-- items that may stand after others, each said by a line
abbrev pub LawfulAndSaid : Known → List Item → Type 0
LawfulAndSaid known items = (lawful_items known items ≡ true) × Each Said items
