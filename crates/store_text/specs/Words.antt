-- docs/FORMS.md, 'Lent buffers': the words of a store, one for each line, in the order of the text.
use Rattle.std.specs.Prelude.{ℕ, ◌+◌, ◌*◌, ◌^◌, List, [], ◌∷◌, ◌++◌, map}
use Rattle.rules.specs.ValueTexts.{EntityRead}
use Rattle.values.specs.ValueWords.{value_word}

-- an entity's word is its id, and ids of parents and ancestors are above all of those
abbrev pub parent_word : ℕ → ℕ
parent_word id = id + 2 ^ 16

abbrev pub ancestor_word : ℕ → ℕ
ancestor_word id = id + 2 * 2 ^ 16

-- the lines behind an entity's own
abbrev pub lines_behind : EntityRead → List ℕ
lines_behind e = map parent_word e.parents ++ (map ancestor_word e.ancestors ++ map value_word e.value.rows)

unfoldable pub store_words : List EntityRead → List ℕ
store_words [] = []
store_words (e ∷ es) = e.id ∷ (lines_behind e ++ store_words es)
