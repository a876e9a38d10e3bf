-- The stack of results in words: wrapped paths and tries in two runs that end together with them, the top in front.
use Rattle.std.specs.Prelude.{Option as Maybe, Some, None, Result as Tried, Ok, Err, ℕ, suc, ◌+◌, ◌^◌, ◌≤◌, ◌<◌, ◌≡◌, false, List, [], ◌∷◌, ◌++◌, map, length, drop}
use Rattle.rules.specs.Numbers.{Answer, accepted, refused}
use Rattle.rules.specs.Tries.{Row}
use Rattle.rules.specs.Paths.{Path, Paths, nodes_of, union_all, add_paths}
use Rattle.rules.specs.Steps.{Result, result, judged}
use Rattle.rules.proofs.StepLaws.{Each, AllGood, IsTrie}
use Rattle.rules.proofs.TypeLaws.{marked_leaf}
use Rattle.rows.specs.Words.{word_of}
use Rattle.rows.specs.States.{rows_in}
use Rattle.wrapped_paths.specs.Code.{codes, nodes_of_all, code as code_of}
use Rattle.path_tries.specs.Nodes.{IsState}
use Rattle.result_stack.specs.declared.Stack.{Stack}
use Rattle.result_stack.specs.declared.StepRefusal.{StepRefusal}
use Rattle.result_stack.specs.declared.StepRefusal.TheVariants.{Unlawful, TooDeep, TooManyNodes, Results, SetDereferenced, Mismatch, TooManyPaths}

-- the number of a refusal, and what a step answers
abbrev pub number_of : StepRefusal → ℕ
number_of Unlawful = 1
number_of TooDeep = 3
number_of TooManyNodes = 4
number_of Results = 6
number_of SetDereferenced = 7
number_of Mismatch = 8
number_of TooManyPaths = 15

abbrev pub Stepped : Type 0
Stepped = Tried Stack StepRefusal

abbrev pub stack_paths : List Result → List Paths
stack_paths results = map (λ r. r.paths) results

abbrev pub stack_tries : List Result → List (List Row)
stack_tries results = map (λ r. r.trie) results

-- a trie's words: its count and its rows; and those of several, one after the other
abbrev pub trie_words : List Row → List ℕ
trie_words trie = length trie ∷ map word_of trie

unfoldable pub stacked : List (List Row) → List ℕ
stacked [] = []
stacked (trie ∷ tries) = trie_words trie ++ stacked tries

-- results lie in the two runs
pub record Layout (code tries : List ℕ) (stack : Stack) (results : List Result) : Type 0 where
  pub in_code : stack.code ≤ length code
  pub in_tries : stack.tries ≤ length tries
  pub code_there : drop stack.code code ≡ codes (stack_paths results)
  pub tries_there : drop stack.tries tries ≡ stacked (stack_tries results)
  pub as_many : stack.results ≡ length results

-- and they are results that steps leave
pub record Held (code tries : List ℕ) (stack : Stack) (results : List Result) : Type 0 where
  pub layout : Layout code tries stack results
  pub few : length results ≤ 32
  pub good : AllGood results

-- a step may take them: there is room in front of the top, and a place in the paths' run fits a word beside a type
pub record Holding (code tries : List ℕ) (stack : Stack) : Type 0 where
  pub results : List Result
  pub held : Held code tries stack results
  pub code_room : 256 ≤ stack.code
  pub tries_room : 1025 ≤ stack.tries
  pub few_words : length code < 2 ^ 53

-- and its scratch is as long as a trie's words
pub record Working (code tries trie : List ℕ) (stack : Stack) : Type 0 where
  pub holding : Holding code tries stack
  pub trie_length : length trie ≡ 1026

-- words that hold a result's paths, as long as those may be beside the run that they come from
abbrev pub Scratch : List ℕ → List ℕ → Type 0
Scratch code paths = (n : ℕ) → n ≤ length code → n ≤ 6656 → n ≤ length paths

-- what a step gives is what its definition answers, at any line
pub record Reached (answer : ℕ → Answer (List Result)) (code tries : List ℕ) (stack : Stack) : Type 0 where
  pub after : List Result
  pub reached : (place : ℕ) → answer place ≡ accepted after
  pub layout : Layout code tries stack after

abbrev pub Outcomes : (ℕ → Answer (List Result)) → List ℕ → List ℕ → Stepped → Type 0
Outcomes answer code tries (Ok stack) = Reached answer code tries stack
Outcomes answer code tries (Err refusal) = (place : ℕ) → answer place ≡ refused (number_of refusal) place

-- words were put so that they end at a place
pub record Placed (words out : List ℕ) (end : ℕ) (out' : List ℕ) (start : ℕ) : Type 0 where
  pub starts : start + length words ≡ end
  pub there : drop start out' ≡ words ++ drop end out
  pub same_length : length out' ≡ length out

-- a trie stands in words at a place
pub record TrieAt (words : List ℕ) (at : ℕ) : Type 0 where
  pub trie : List Row
  pub rest : List ℕ
  pub there : drop at words ≡ trie_words trie ++ rest
  pub few_rows : length trie ≤ 1024
  pub good_trie : IsTrie trie

-- the state holds the trie that stands there
abbrev pub CopiedFrom : List ℕ → ℕ → List ℕ → Type 0
CopiedFrom words at state =
    IsState state × ((trie : List Row) (rest : List ℕ) → IsTrie trie → drop at words ≡ trie_words trie ++ rest → rows_in state ≡ trie)

-- a result with an empty trie was pushed
abbrev pub Pushed : List ℕ → List ℕ → List ℕ → Stack → List ℕ → List ℕ → Stepped → Type 0
Pushed words code tries stack code' tries' r =
    (paths : Paths) (results : List Result)
    → words ≡ code_of paths
    → nodes_of paths ≡ 1
    → Held code tries stack results
    → Outcomes (λ place. judged place (result [] paths) results) code' tries' r

-- so many tries stand in words from a place on
pub record TriesAt (words : List ℕ) (at count : ℕ) : Type 0 where
  pub tries : List (List Row)
  pub rest : List ℕ
  pub some_trie : 0 < count
  pub as_many : length tries ≡ count
  pub there : drop at words ≡ stacked tries ++ rest
  pub few_rows : Each (λ trie. length trie ≤ 1024) tries
  pub good_tries : Each IsTrie tries

-- they were merged into one that ends where they ended, or it has too many nodes
pub record TriesMerge (tries : List (List Row)) (rest words words' : List ℕ) (start : ℕ) : Type 0 where
  pub fits : length (union_all [] tries) ≤ 1024
  pub inside : start < length words
  pub same_length : length words' ≡ length words
  pub there : drop start words' ≡ trie_words (union_all [] tries) ++ rest

abbrev pub TriesMergedBy : List (List Row) → List ℕ → List ℕ → List ℕ → Maybe ℕ → Type 0
TriesMergedBy tries rest words words' (Some start) = TriesMerge tries rest words words' start
TriesMergedBy tries rest words words' None = 1024 < length (union_all [] tries)

abbrev pub TriesMergedFrom : List ℕ → ℕ → ℕ → List ℕ → Maybe ℕ → Type 0
TriesMergedFrom words at count words' merged =
    (tries : List (List Row)) (rest : List ℕ)
    → length tries ≡ count
    → Each IsTrie tries
    → drop at words ≡ stacked tries ++ rest
    → TriesMergedBy tries rest words words' merged

-- the top results were wrapped under a head
pub record Wraps (head : List ℕ) (taken : List Result) (wrapping : Result) : Type 0 where
  pub coded : code_of wrapping.paths ≡ head ++ codes (stack_paths taken)
  pub nodes : nodes_of wrapping.paths ≡ suc (nodes_of_all (stack_paths taken))
  pub tries : wrapping.trie ≡ union_all [] (stack_tries taken)

abbrev pub WrapsBy : List ℕ → ℕ → List ℕ → List ℕ → Stack → List ℕ → List ℕ → Stepped → Type 0
WrapsBy head count code tries stack code' tries' r =
    (taken left : List Result) (wrapping : Result)
    → length taken ≡ count
    → Wraps head taken wrapping
    → Held code tries stack (taken ++ left)
    → Outcomes (λ place. judged place wrapping left) code' tries' r

-- paths and a trie were put so that they end at two places
pub record Replaced (words trie code : List ℕ) (code_end : ℕ) (tries : List ℕ) (tries_end results : ℕ) (code' tries' : List ℕ) (stack : Stack) : Type 0 where
  pub paths : Placed words code code_end code' stack.code
  pub rows : Placed (trie_words (rows_in trie)) tries tries_end tries' stack.tries
  pub many : stack.results ≡ results

-- paths that take the ancestors trie of others as leaf were merged into a trie
abbrev pub ancestors_required : List Row → List Path → List Path → List Row
ancestors_required trie left right = add_paths trie left (record { mark = false; below = add_paths [] right marked_leaf })

-- a step gives what its definition answers, whatever results the stack holds
abbrev pub StepsBy : (ℕ → List Result → Answer (List Result)) → List ℕ → List ℕ → Stack → List ℕ → List ℕ → Stepped → Type 0
StepsBy answer code tries stack code' tries' r =
    (results : List Result) → Held code tries stack results → Outcomes (λ place. answer place results) code' tries' r
