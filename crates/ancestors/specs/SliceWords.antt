-- A slice in words: one entity after the other, its head, `entity + 2^16 × parents + 2^32 × rows`, its parents and its attributes' rows. A head
-- is that of an answer, with the entity in the place of the flag.
use Rattle.std.specs.Prelude.{ℕ, zero, suc, ◌+◌, ◌≡◌, List, [], ◌∷◌, length, drop, Option as Maybe, Some, None}
use denote.Ref.{Bor}
use Rattle.std.proofs.Math.Option.{Option, none, some}
use Rattle.rules.specs.Values.{Entity}
use Rattle.rules.specs.ValueRowTests.{attributes_from}
use Rattle.rules.specs.Loading.{Loaded, loaded}
use Rattle.values.specs.ValueWords.{value_rows_of}
use Rattle.answers.specs.Answers.{head_in, entity_in}

-- the entities of words, at most so many
unfoldable pub slice_of : ℕ → List ℕ → List Loaded
slice_of zero words = []
slice_of (suc most) [] = []
slice_of (suc most) (head ∷ words) =
    loaded (head_in head).flag (entity_in (head_in head) words) ∷ slice_of most (drop ((head_in head).parents + (head_in head).rows) words)

abbrev pub slice_in : List ℕ → List Loaded
slice_in words = slice_of (length words) words

-- the rows of an entity's attributes, if it is loaded
abbrev pub FoundAs : Option Entity → Maybe (Bor (List ℕ)) → Type 0
FoundAs (some value) (Some rows) = value.attributes ≡ attributes_from 1 (value_rows_of rows.now)
FoundAs (some value) None = ⊥
FoundAs none (Some rows) = ⊥
FoundAs none None = Unit
