-- What holds of the entities of a store whose lines have passed, and of the order of their elements.
use Rattle.std.specs.Prelude.{ℕ, ◌≤◌, ◌<◌, ◌≡◌, true, List, [], ◌∷◌, length, Option as Maybe, Some}
use Rattle.rules.proofs.MergeLaws.{IdsFrom}
use Rattle.rules.specs.ValueRows.{ValueRow}
use Rattle.rules.specs.ValueRowTests.{is_value_row}
use Rattle.rules.specs.ValueTexts.{EntityRead, unordered_in, least_of}
use Rattle.rules.proofs.ValueTextLaws.{Came}
use Rattle.value_text.specs.Rows.{place_found}
use Rattle.store_text.specs.Words.{store_words}

-- what holds of each of some
unfoldable pub All : {A : Type 0} → (A → Type 0) → List A → Type 0
All P [] = Unit
All P (a ∷ more) = P a × All P more

abbrev pub IsId : ℕ → Type 0
IsId n = n ≤ 65535

abbrev pub RowKept : ValueRow → Type 0
RowKept x = (is_value_row x ≡ true) × (1 ≤ x.depth)

-- ids are decimals and ascend, and the rows of attributes may pass
pub record EntityKept (e : EntityRead) : Type 0 where
  pub own : IsId e.id
  pub parents : All IsId e.parents
  pub ancestors : All IsId e.ancestors
  pub parents_ascend : IdsFrom 0 e.parents
  pub ancestors_ascend : IdsFrom 0 e.ancestors
  pub rows : All RowKept e.value.rows
  pub came : Came e.value

-- words are those of some entities
pub record HoldsEntities (words : List ℕ) (es : List EntityRead) : Type 0 where
  pub same : words ≡ store_words es
  pub kept : All EntityKept es

abbrev pub Entities : List ℕ → Type 0
Entities words = (es : List EntityRead) × HoldsEntities words es

-- the place of the first element that is not above the one before it, if there is one
pub record OrderFound (words : List ℕ) (r : Maybe ℕ) : Type 0 where
  pub within : (n : ℕ) → r ≡ Some n → n < length words
  pub least : (es : List EntityRead) → HoldsEntities words es → least_of (unordered_in 0 es) ≡ place_found 0 r
