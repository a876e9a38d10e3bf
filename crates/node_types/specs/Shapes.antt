-- What a type says of fields, as attributes between two places of a schema's words; and what becomes of a node.
use Rattle.std.specs.Prelude.{ℕ, ◌+◌, ◌≤◌, ◌≡◌, List, length}
use Rattle.rules.specs.Typing.{Shape, known, leaf, not_strict, Fate, stays, dropped, wrong}
use Rattle.rules.proofs.TypeLaws.{Ascends}
use Rattle.schema.specs.Items.{items_of}
use Rattle.node_types.specs.declared.shape.Shape.{Shape as ShapeFound}
use Rattle.node_types.specs.declared.shape.Shape.TheVariants.{Known, Leaf, NotStrict}
use Rattle.node_types.specs.declared.fate.Fate.{Fate as FateFound}
use Rattle.node_types.specs.declared.fate.Fate.TheVariants.{Stays, Dropped, Wrong}
use Rattle.node_types.specs.Named.{between}

pub record AttributesAt (words : List ℕ) (shape : Shape) (first end : ℕ) : Type 0 where
  pub in_order : first ≤ end
  pub inside : end ≤ length words
  pub those : shape ≡ known (items_of (between words first end))
  pub ascend : Ascends 0 (items_of (between words first end))

abbrev pub ShapeAt : List ℕ → Shape → ShapeFound → Type 0
ShapeAt words shape (Known first end) = AttributesAt words shape first end
ShapeAt words shape Leaf = shape ≡ leaf
ShapeAt words shape NotStrict = shape ≡ not_strict

-- a node stays with a type that a row can have, as a row has it
abbrev pub FateGiven : Fate → FateFound → Type 0
FateGiven fate (Stays number) = (t : ℕ) × (fate ≡ stays t) × (number ≡ t + 1) × (number ≤ 1026)
FateGiven fate Dropped = fate ≡ dropped
FateGiven fate (Wrong number) = fate ≡ wrong number
