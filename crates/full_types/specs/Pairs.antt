-- Pairs of a path and a type as words, and what adding them asks for.
use Rattle.std.specs.Prelude.{ℕ, ◌+◌, ◌/◌, ◌%◌, ◌≤◌, ◌<◌, ◌≡◌, Bool, false, ◌||◌, List, [], ◌∷◌, map, ltb, length}
use Rattle.rules.specs.Numbers.{most_steps}
use Rattle.rules.specs.Paths.{Taken}
use Rattle.rules.proofs.StepLaws.{IsPath}
use Rattle.rules.proofs.TypeLaws.{deepest}
use Rattle.wrapped_paths.specs.Code.{steps_at, path_at}
use Rattle.path_tries.specs.Nodes.{IsState}
use Rattle.type_table.specs.declared.types.Types.{Types}
use Rattle.type_table.specs.Tables.{type_rows, Tabled}

-- a path's place and its type as one word
abbrev pub pair_place : ℕ → ℕ
pair_place pair = pair / 1024

abbrev pub pair_type : ℕ → ℕ
pair_type pair = pair % 1024

-- the path and its type
abbrev pub taken_at : List ℕ → ℕ → Taken
taken_at words pair = record { path = path_at words (pair_place pair); type = pair_type pair }

unfoldable pub AllPairs : List ℕ → ℕ → List ℕ → Type 0
AllPairs words types [] = Unit
AllPairs words types (pair ∷ pairs) =
    (pair_place pair + 1 + steps_at words (pair_place pair) ≤ length words) × ((pair_type pair < types) × AllPairs words types pairs)

-- some path with the trie of its type below it exceeds the steps of a position
unfoldable pub any_taken_deep : List ℕ → List Taken → Bool
any_taken_deep words [] = false
any_taken_deep words (taken ∷ more) =
    ltb most_steps (length taken.path + deepest (type_rows words taken.type)) || any_taken_deep words more

-- what the table says of it
abbrev pub DeepBy : List ℕ → List ℕ → List ℕ → Bool → Type 0
DeepBy words table pairs r =
    (items : List ℕ) (types : ℕ)
    → Tabled items table types
    → AllPairs words types pairs
    → r ≡ any_taken_deep items (map (taken_at words) pairs)

-- all these paths are paths
unfoldable pub AllTakenPaths : List Taken → Type 0
AllTakenPaths [] = Unit
AllTakenPaths (taken ∷ more) = IsPath taken.path × AllTakenPaths more

-- a path that goes into a trie with the trie of a type as its leaf
pub record TypedPath (trie path : List ℕ) (types : Types) (t : ℕ) : Type 0 where
  pub known : t < types.count
  pub state : IsState trie
  pub is_path : IsPath path
  pub near : length path + deepest (type_rows types.words.now t) ≤ 24

-- and a buffer for that leaf
pub record TypedLeaf (trie path : List ℕ) (types : Types) (t : ℕ) (leaf : List ℕ) : Type 0 where
  pub typed : TypedPath trie path types t
  pub room : length (type_rows types.words.now t) ≤ length leaf
  pub few_words : length leaf ≤ 1024

-- several paths with their types in pairs
pub record TypedPairs (trie code : List ℕ) (types : Types) (pairs : List ℕ) : Type 0 where
  pub state : IsState trie
  pub all_pairs : AllPairs code types.count pairs
  pub all_paths : AllTakenPaths (map (taken_at code) pairs)
  pub none_deep : any_taken_deep types.words.now (map (taken_at code) pairs) ≡ false
