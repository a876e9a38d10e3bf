-- A trie in words: a count and as many rows, all of them nodes without types.
use Rattle.std.specs.Prelude.{ℕ, ◌+◌, ◌^◌, ◌≤◌, ◌≡◌, Bool, true, false, ◌&&◌, ◌||◌, List, [], ◌∷◌, map, leb, ltb, length, get_or, take}
use Rattle.rules.specs.Numbers.{most_steps}
use Rattle.rules.specs.Tries.{Row, is_step}
use Rattle.rules.specs.Paths.{Path, Leaf, chain, deeper}
use Rattle.rules.proofs.StepLaws.{AllPaths}
use Rattle.rows.specs.Words.{word_of, is_word, depth_in, step_in}
use Rattle.rows.specs.States.{rows_of, rows_in}
use Rattle.words.specs.Runs.{words_in}
use Rattle.wrapped_paths.specs.Code.{AllWithin, paths_at}

-- a word that packs a node without a type, and one that packs a node below another, its depth counted from that
unfoldable pub node_word : ℕ → Bool
node_word w = is_word w && (ltb 0 (depth_in w) && ltb w (2 ^ 25))

unfoldable pub below_word : ℕ → Bool
below_word w = is_step (step_in w) && (ltb 0 (depth_in w) && ltb w (2 ^ 25))

unfoldable pub all_nodes : List ℕ → Bool
all_nodes [] = true
all_nodes (w ∷ ws) = node_word w && all_nodes ws

-- words of nodes below another that is so many steps deep, none of them too deep
unfoldable pub all_below : ℕ → List ℕ → Bool
all_below steps [] = true
all_below steps (w ∷ ws) = (below_word w && leb (steps + depth_in w) most_steps) && all_below steps ws

-- the words of the chain of a path, and of words so many steps deeper
abbrev pub chain_words : Path → Bool → List ℕ
chain_words path mark = map word_of (chain 1 mark path)

abbrev pub deeper_words : ℕ → List ℕ → List ℕ
deeper_words by words = map word_of (deeper by (rows_of words))

-- a state that holds a trie
pub record IsState (state : List ℕ) : Type 0 where
  pub state_length : length state ≡ 1026
  pub few_rows : get_or state 0 0 ≤ 1024
  pub nodes : all_nodes (words_in state) ≡ true

-- a trie has become another one, where that is within the limit of nodes
pub record Became (trie : List Row) (state : List ℕ) (fits : Bool) : Type 0 where
  pub judged : fits ≡ leb (length trie) 1024
  pub still : IsState state
  pub there : fits ≡ true → rows_in state ≡ trie

-- paths at some places, and a trie that they go into
pub record PathsToAdd (trie code places : List ℕ) : Type 0 where
  pub state : IsState trie
  pub within : AllWithin code places
  pub all_paths : AllPaths (paths_at code places)

-- the leaf of a mark and of words below it
abbrev pub leaf_of : Bool → List ℕ → Leaf
leaf_of marked below = record { mark = marked; below = rows_of below }

-- some path with so many steps below it exceeds the steps of a position
unfoldable pub any_deep : List Path → ℕ → Bool
any_deep [] below = false
any_deep (path ∷ paths) below = ltb most_steps (length path + below) || any_deep paths below

-- each of some paths fits with words of nodes below it
unfoldable pub AllFit : List Path → List ℕ → Type 0
AllFit [] below = Unit
AllFit (path ∷ paths) below = (all_below (length path) below ≡ true) × AllFit paths below

-- so many words of `out` pack the nodes of a trie
pub record RunOf (trie : List Row) (out : List ℕ) (count : ℕ) : Type 0 where
  pub inside : count ≤ length out
  pub packs : rows_of (take count out) ≡ trie
  pub nodes : all_nodes (take count out) ≡ true
