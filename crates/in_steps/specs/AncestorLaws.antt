-- Laws of `in`: ancestors of two results. No contract cites this file.
use Rattle.std.specs.Prelude.{ℕ, ◌+◌, ◌-◌, ◌≤◌, ◌<◌, max, ◌≡◌, refl, Bool, true, false, ltb, eqb, replicate}
use Rattle.std.proofs.Common.{arith, ap, ◌∙◌}
use Rattle.std.proofs.Math.Path.{sym}
use Rattle.std.proofs.Math.Bool.{and-eq-true_iff, or-false}
use Rattle.std.proofs.lemmas.Bool.{false≢true}
use mathlib.Core.List.{List, [], ◌∷◌}
use borrow.Author.Tests.{ltb-true, leb-false, le-leb, lt-leb, ne_eqb}
use Rattle.std.proofs.Math.ListN.{length}
use Rattle.rules.specs.Facts.{by_test, larger_max}
use Rattle.rules.specs.Numbers.{refused}
use Rattle.rules.specs.Tries.{is_step, union}
use Rattle.rules.proofs.TrieLaws.{node_step, union_left_length, union_right_length}
use Rattle.rules.specs.Paths.{Path, Empty, Leaf, paths_in, nodes_of, to_root_access_trie_with_leaf, union_all, path_tries, add_paths}
use Rattle.rules.specs.Steps.{Result, two_step, in_result}
use Rattle.rules.proofs.StepLaws.{all_length, all_deep, Each, AllPaths, trie_shallow}
use Rattle.rules.proofs.TypeLaws.{deepest, union_too_deep, path_length, longest, marked_leaf, ancestor_deep, is_no_trie}
use Rattle.rows.specs.Words.{depth_in, step_in, row_in, is_word}
use Rattle.rows.specs.WordLaws.{is-row}
use Rattle.rows.specs.States.{rows_of, rows_in}
use Rattle.words.specs.Runs.{words_in}
use Rattle.wrapped_paths.specs.Code.{code, paths_at}
use Rattle.path_tries.specs.Nodes.{node_word, below_word, all_nodes, all_below, IsState, Became, leaf_of, any_deep, AllFit}
use Rattle.path_tries.specs.NodeLaws.{as_it_was}
use Rattle.result_stack.specs.Stacks.{Held, Reached, Replaced, ancestors_required}
use Rattle.result_stack.specs.declared.Stack.{Stack}
use Rattle.result_stack.specs.StackLaws.{top_good, below, below_held}
use Rattle.result_stack.specs.JudgingLaws.{any-deep, none_deep, all_some, Judging, judging_many, unfit, replaced}

-- ---- ancestors

pub longest_short : (paths : List Path) → AllPaths paths → longest paths ≤ 24
unfolding longest Each
longest_short [] good = omega arith
longest_short (path ∷ paths) good = rw larger_max (omega (arith, good.0.short, longest_short paths good.1))

-- a word of a node may stand below another
below-word : (w : ℕ) → node_word w ≡ true → below_word w ≡ true
unfolding node_word below_word
below-word w h =
    let (word, rest) = (and-eq-true_iff (is_word w) _).0 h in
    let (deep, low) = (and-eq-true_iff (ltb 0 (depth_in w)) _).0 rest in
    let no_entry : eqb (depth_in w) 0 ≡ false = ne_eqb (depth_in w) 0 (omega (arith, ltb-true 0 (depth_in w) deep)) in
    (and-eq-true_iff (is_step (step_in w)) _).1 (node_step (row_in w) (is-row w word) no_entry, rest)

nodes_below : (n : ℕ) (ws : List ℕ) → all_nodes ws ≡ true → n + deepest (rows_of ws) ≤ 24 → all_below n ws ≡ true
unfolding all_nodes all_below deepest
nodes_below n [] nodes near = refl
nodes_below n (w ∷ ws) nodes near =
    let (first, rest) = (and-eq-true_iff (node_word w) (all_nodes ws)).0 nodes in
    let most : n + max (depth_in w) (deepest (rows_of ws)) ≤ 24 = rw larger_max at near in
    (and-eq-true_iff _ _).1 (
      (and-eq-true_iff (below_word w) _).1 (below-word w first, le-leb (n + depth_in w) 24 (omega arith)),
      nodes_below n ws rest (omega arith),
    )

fit_below :
    (paths : List Path) (ws : List ℕ)
    → all_nodes ws ≡ true
    → Each (λ path. length path + deepest (rows_of ws) ≤ 24) paths
    → AllFit paths ws
unfolding AllFit Each
fit_below [] ws nodes near = tt
fit_below (path ∷ paths) ws nodes near = (nodes_below (length path) ws nodes near.0, fit_below paths ws nodes near.1)

abbrev ancestors_leaf : List Path → Leaf
ancestors_leaf right = record { mark = false; below = add_paths [] right marked_leaf }

-- as many paths as places
pub paths_many : (words places : List ℕ) → length (paths_at words places) ≡ length places
unfolding paths_at
paths_many words [] = refl
paths_many words (place ∷ places) = rw (paths_many words places)

pub paths_none : (words places : List ℕ) → length places ≡ 0 → paths_at words places ≡ []
unfolding paths_at
paths_none words [] e = refl
paths_none words (place ∷ places) e = absurd (omega arith)

-- no path takes ancestors
pub ancestors_none :
    {state : List ℕ} (left right : List Path)
    → IsState state
    → left ≡ []
    → Became (ancestors_required (rows_in state) left right) state true
unfolding union_all
ancestors_none left right is e = rw e (as_it_was is)

module _ (left right : List Path) {ancestors : List ℕ} {fits : Bool} (b : Became (add_paths (rows_in (replicate 1026 0)) right marked_leaf) ancestors fits) where
  -- they have too many nodes, and so has what takes them
  pub ancestors_over :
      {state : List ℕ}
      → IsState state
      → 0 < length left
      → fits ≡ false
      → Became (ancestors_required (rows_in state) left right) state false
  unfolding union_all
  ancestors_over {state} is some_left over = record {
    judged = sym (lt-leb (length (ancestors_required (rows_in state) left right)) 1024 (go left some_left));
    still = is;
    there = λ no. absurd (false≢true no);
  }
    where
      many : 1024 < length (add_paths [] right marked_leaf)
      many = leb-false (length (add_paths [] right marked_leaf)) 1024 (sym b.judged ∙ over)

      go : (left : List Path) → 0 < length left → 1024 < length (ancestors_required (rows_in state) left right)
      go [] some_left = absurd (omega arith)
      go (path ∷ more) some_left =
          let some_rows : is_no_trie path (ancestors_leaf right) ≡ false =
          by_test (eqb (length path) 1)
          (λ e. rw (e, ne_eqb (length (add_paths [] right marked_leaf)) 0 (omega (arith, many))))
          (λ e. rw e) in
          let rows : length (to_root_access_trie_with_leaf path (ancestors_leaf right)) ≡ length path + length (add_paths [] right marked_leaf) =
          path_length path (ancestors_leaf right) ∙ rw some_rows in
          omega (
            arith,
            many,
            rows,
            union_right_length (rows_in state) (to_root_access_trie_with_leaf path (ancestors_leaf right)),
            all_length (union (rows_in state) (to_root_access_trie_with_leaf path (ancestors_leaf right))) (path_tries more (ancestors_leaf right)),
          )

  -- they fit below paths that are not too deep with them
  pub ancestors_fit : fits ≡ true → any_deep left (longest right) ≡ false → AllFit left (words_in ancestors)
  ancestors_fit fit shallow =
      let depth : deepest (rows_in ancestors) ≡ longest right = ap deepest (b.there fit) ∙ ancestor_deep right in
      fit_below left (words_in ancestors) b.still.nodes (rw depth (none_deep left (longest right) shallow))

  pub ancestors_done :
      (state : List ℕ) {state' : List ℕ} {done : Bool}
      → fits ≡ true
      → Became (add_paths (rows_in state) left (leaf_of false (words_in ancestors))) state' done
      → Became (ancestors_required (rows_in state) left right) state' done
  ancestors_done state fit d = rw (b.there fit) at d

-- ---- ancestors of two results

pub held_two :
    {code_run tries : List ℕ} {stack : Stack} (results : List Result)
    → Held code_run tries stack results
    → 2 ≤ stack.results
    → (right : Result) × (left : Result) × (rest : List Result) × (results ≡ right ∷ left ∷ rest) × Held code_run tries stack (right ∷ left ∷ rest)
held_two [] held enough = absurd (omega (arith, held.layout.as_many))
held_two (right ∷ []) held enough = absurd (omega (arith, held.layout.as_many))
held_two (right ∷ left ∷ rest) held enough = (right, left, rest, refl, held)

module _ {code_run tries : List ℕ} {stack : Stack} {right left : Result} {rest : List Result} (held : Held code_run tries stack (right ∷ left ∷ rest)) where
  module _ {lefts rights : List Path} (l : lefts ≡ paths_in left.paths) (r : rights ≡ paths_in right.paths) where
    pub in_judging : Judging (λ place. two_step in_result place (right ∷ left ∷ rest)) (in_result left right) rest (any_deep lefts (longest rights))
    unfolding nodes_of
    in_judging = record {
      answers = λ place. refl;
      few = omega (arith, held.few);
      few_nodes = omega arith;
      depth =
          union_too_deep (ancestors_required left.trie (paths_in left.paths) (paths_in right.paths)) right.trie
          ∙ rw (
            trie_shallow right.trie (top_good held).good_trie,
            or-false,
            all_deep left.trie (path_tries (paths_in left.paths) (ancestors_leaf (paths_in right.paths))),
            trie_shallow left.trie (top_good (below_held held)).good_trie,
          )
          (any-deep (paths_in left.paths) (ancestors_leaf (paths_in right.paths)) (all_some (paths_in left.paths) (top_good (below_held held)).good_paths)
          ∙ rw (ancestor_deep (paths_in right.paths), ← l, ← r));
    }

    module _ (shallow : any_deep lefts (longest rights) ≡ false) (state : List ℕ) {state' : List ℕ} {fits : Bool} (copy : rows_in state ≡ left.trie) (b : Became (ancestors_required (rows_in state) lefts rights) state' fits) where
      required : Became (ancestors_required left.trie (paths_in left.paths) (paths_in right.paths)) state' fits
      required = rw (copy, l, r) at b

      -- the ancestors alone have too many nodes
      pub in_over : fits ≡ false → (place : ℕ) → two_step in_result place (right ∷ left ∷ rest) ≡ refused 4 place
      in_over over =
          let trie = ancestors_required left.trie (paths_in left.paths) (paths_in right.paths) in
          judging_many in_judging shallow
          (omega (arith, leb-false (length trie) 1024 (sym required.judged ∙ over), union_left_length trie right.trie))

      module _ (fit : fits ≡ true) (run : List ℕ) (same-run : rows_of run ≡ right.trie) {state'' : List ℕ} {fits' : Bool} (u : Became (union (rows_in state') (rows_of run)) state'' fits') where
        united : Became (in_result left right).trie state'' fits'
        united = rw (required.there fit, same-run) at u

        pub in_rows : fits' ≡ false → (place : ℕ) → two_step in_result place (right ∷ left ∷ rest) ≡ refused 4 place
        in_rows = unfit in_judging shallow united

        pub in_done :
            {code_run' tries' : List ℕ} {after : Stack} {end tend : ℕ}
            → fits' ≡ true
            → end ≡ (below (below_held held)).code
            → tend ≡ (below (below_held held)).tries
            → Replaced (code Empty) state'' code_run end tries tend (stack.results - 1) code_run' tries' after
            → Reached (λ place. two_step in_result place (right ∷ left ∷ rest)) code_run' tries' after
        in_done fit' e t w =
            replaced in_judging shallow united fit' (below_held (below_held held)).layout
            (omega (arith, held.layout.as_many))
            (rw (e, t) at w)
