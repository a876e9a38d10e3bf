-- What several steps share: how deep their paths reach, the trie that they take from the top, and how their whole result is judged. No
-- contract cites this file.
use Rattle.std.specs.Prelude.{ℕ, suc, ◌+◌, ◌-◌, ◌≤◌, ◌<◌, ◌≡◌, refl, Bool, true, false, List, [], ◌∷◌, map, ltb, length, take, drop, get_or}
use Rattle.std.proofs.Common.{arith, sym, ◌∙◌, ltb-false, leb-true, leb-false}
use Rattle.rules.specs.Numbers.{Answer, refused}
use Rattle.rules.specs.Paths.{Path, Leaf, nodes_of, path_tries}
use Rattle.rules.specs.Steps.{Result, judged, is_too_deep}
use Rattle.rules.proofs.StepLaws.{any_too_deep, stepped_some, each_then, or_neither, Each, IsPath, AllPaths}
use Rattle.rules.proofs.TypeLaws.{deepest, path_deep}
use Rattle.rows.specs.Words.{word_of}
use Rattle.rows.specs.States.{rows_of, rows_in}
use Rattle.wrapped_paths.specs.Code.{code}
use Rattle.path_tries.specs.Nodes.{all_nodes, all_below, Became, any_deep, AllFit}
use Rattle.result_stack.specs.Stacks.{stack_tries, trie_words, stacked, Layout, Held, Reached, Placed, CopiedFrom, Replaced}
use Rattle.result_stack.specs.declared.Stack.{Stack}
use Rattle.result_stack.specs.StackLaws.{judged_deep, judged_rows, judged_good, trie-words, trie_rows, top_trie, top_good, landed}

-- ---- paths with what is below them

-- nothing is below a path
pub fit_none : (paths : List Path) → AllFit paths []
unfolding AllFit all_below
fit_none [] = tt
fit_none (path ∷ paths) = (refl, fit_none paths)

-- paths with a leaf are too deep exactly where one of them with what is below its leaf is
pub any-deep :
    (paths : List Path) (leaf : Leaf)
    → Each (λ path. 0 < length path) paths
    → any_too_deep (path_tries paths leaf) ≡ any_deep paths (deepest leaf.below)
unfolding any_too_deep any_deep Each
any-deep [] leaf some-steps = refl
any-deep (path ∷ paths) leaf some-steps = rw (path_deep path leaf some-steps.0, any-deep paths leaf some-steps.1)

-- no path is too deep exactly where each is short enough
pub none_deep : (paths : List Path) (under : ℕ) → any_deep paths under ≡ false → Each (λ path. length path + under ≤ 24) paths
unfolding any_deep Each
none_deep [] under e = tt
none_deep (path ∷ paths) under e =
    let (short, others) = or_neither (ltb 24 (length path + under)) _ e in
    (ltb-false 24 (length path + under) short, none_deep paths under others)

pub all_some : (paths : List Path) → AllPaths paths → Each (λ path. 0 < length path) paths
all_some paths good = each_then IsPath (λ path. 0 < length path) (λ path p. stepped_some path p.steps) paths good

-- ---- the top's trie

-- the state that a trie was copied into holds it
pub copied_top :
    {code_run tries state : List ℕ} {stack : Stack} {top : Result} {rest : List Result}
    → Held code_run tries stack (top ∷ rest)
    → CopiedFrom tries stack.tries state
    → rows_in state ≡ top.trie
copied_top {top} {rest} held c = c.1 top.trie (stacked (stack_tries rest)) (top_good held).good_trie (top_trie held)

-- the words of the top's trie
module _ {code_run tries : List ℕ} {stack : Stack} {top : Result} {rest : List Result} (held : Held code_run tries stack (top ∷ rest)) {end : ℕ} (ends : end ≡ stack.tries + 1 + get_or tries stack.tries 0) where
  run-words : take (end - (stack.tries + 1)) (drop (stack.tries + 1) tries) ≡ map word_of top.trie
  run-words =
      let many : end - (stack.tries + 1) ≡ get_or tries stack.tries 0 = omega arith in
      rw many (trie_rows tries (stacked (stack_tries rest)) stack.tries top.trie (top_trie held))

  pub judging_nodes : all_nodes (take (end - (stack.tries + 1)) (drop (stack.tries + 1) tries)) ≡ true
  judging_nodes = rw run-words (trie-words top.trie (top_good held).good_trie).1

  pub run_rows : rows_of (take (end - (stack.tries + 1)) (drop (stack.tries + 1) tries)) ≡ top.trie
  run_rows = rw run-words (trie-words top.trie (top_good held).good_trie).0

-- ---- what a step's answer is judged by

-- a step's whole result, with few enough path nodes, and whether it is too deep
pub record Judging (answer : ℕ → Answer (List Result)) (top : Result) (rest : List Result) (deep : Bool) : Type 0 where
  pub answers : (place : ℕ) → answer place ≡ judged place top rest
  pub few : length rest < 32
  pub few_nodes : nodes_of top.paths ≤ 256
  pub depth : is_too_deep top.trie ≡ deep

module _ {answer : ℕ → Answer (List Result)} {top : Result} {rest : List Result} {deep : Bool} (j : Judging answer top rest deep) where
  pub judging_deep : deep ≡ true → (place : ℕ) → answer place ≡ refused 3 place
  judging_deep e place = j.answers place ∙ judged_deep place top rest j.few j.few_nodes (j.depth ∙ e)

  module _ (shallow : deep ≡ false) where
    pub judging_many : 1024 < length top.trie → (place : ℕ) → answer place ≡ refused 4 place
    judging_many many place = j.answers place ∙ judged_rows place top rest j.few j.few_nodes (j.depth ∙ shallow) many

    -- its trie was made in a state, within the limit of nodes or not
    module _ {state : List ℕ} {fits : Bool} (b : Became top.trie state fits) where
      pub unfit : fits ≡ false → (place : ℕ) → answer place ≡ refused 4 place
      unfit over = judging_many (leb-false (length top.trie) 1024 (sym b.judged ∙ over))

      pub judging_stored :
          {code_run tries code_run' tries' : List ℕ} {under stack : Stack}
          → fits ≡ true
          → Layout code_run tries under rest
          → Placed (code top.paths) code_run under.code code_run' stack.code
          → Placed (trie_words (rows_in state)) tries under.tries tries' stack.tries
          → stack.results ≡ suc (length rest)
          → Reached answer code_run' tries' stack
      judging_stored fit layout paths rows many = record {
        after = top ∷ rest;
        reached = λ place.
            j.answers place
            ∙ judged_good place top rest j.few j.few_nodes (j.depth ∙ shallow) (leb-true (length top.trie) 1024 (sym b.judged ∙ fit));
        layout = landed layout paths (rw (b.there fit) at rows) many;
      }

-- paths and a trie take the place of results
pub replaced :
    {answer : ℕ → Answer (List Result)} {top : Result} {rest : List Result} {deep fits : Bool} {state code_run tries code_run' tries' : List ℕ} {under stack : Stack} {results : ℕ}
    → Judging answer top rest deep
    → deep ≡ false
    → Became top.trie state fits
    → fits ≡ true
    → Layout code_run tries under rest
    → results ≡ suc (length rest)
    → Replaced (code top.paths) state code_run under.code tries under.tries results code_run' tries' stack
    → Reached answer code_run' tries' stack
replaced j shallow b fit layout many w = judging_stored j shallow b fit layout w.paths w.rows (w.many ∙ many)
