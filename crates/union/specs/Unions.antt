-- What the union of lent states answers and leaves, and the union of the words that pack rows.
use Rattle.std.specs.Prelude.{ℕ, ◌+◌, ◌≤◌, ◌<◌, cond, ◌&&◌, List, [], ◌∷◌, ◌⊎◌, leb, length}
use Rattle.rules.specs.Tries.{first, second, same, union_within}
use Rattle.words.specs.Runs.{Outcome, refusing, words_in}
use Rattle.rows.specs.Words.{next_word, joined_word}
use Rattle.rows.specs.States.{form_of, words_of, rows_of, lawful_state, storing}
use Rattle.rows.specs.declared.Kind.{Kind}

-- the union of the rows that two runs of words pack, stored
abbrev pub union_into : Kind → List ℕ → List ℕ → List ℕ → Outcome
union_into kind a b out = storing out (union_within (form_of kind) (rows_of a) (rows_of b))

-- a buffer is long enough for a state of a kind, or for all rows of two runs
abbrev pub Roomy : Kind → List ℕ → List ℕ → List ℕ → Type 0
Roomy kind a b out = (words_of kind ≤ length out) ⊎ (length a + length b < length out)

-- union: '31, then 1 at place 0 for a lent state that isn't a lawful one', then 5 and 4 on the union
unfoldable pub union_of : Kind → List ℕ → List ℕ → List ℕ → Outcome
union_of kind a b out =
    cond (leb (words_of kind) (length a) && (leb (words_of kind) (length b) && leb (words_of kind) (length out)))
    (cond (lawful_state (form_of kind) a && lawful_state (form_of kind) b)
    (union_into kind (words_in a) (words_in b) out)
    (refusing 1 0 out))
    (refusing 31 0 out)

-- the union of two runs of words, row by row as `union` of `rules`
unfoldable pub union_words_onto : ℕ → (List ℕ → List ℕ) → List ℕ → List ℕ → List ℕ
union_words_onto x rest a [] = x ∷ a
union_words_onto x rest a (y ∷ b) =
    elim (next_word x y)
    [ first ↦ x ∷ rest (y ∷ b) | second ↦ y ∷ union_words_onto x rest a b | same ↦ joined_word x y ∷ rest b ]

unfoldable pub union_words : List ℕ → List ℕ → List ℕ
union_words [] b = b
union_words (x ∷ a) b = union_words_onto x (union_words a) a b
