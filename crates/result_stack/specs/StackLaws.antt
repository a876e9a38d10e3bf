-- Laws of the stack of results in words (Stacks): the room in its two runs, tries that are trie_copied, put and merged. No contract cites this
-- file.
use Rattle.std.specs.Prelude.{Some, None, ℕ, suc, ◌+◌, ◌*◌, ◌-◌, ◌≤◌, ◌<◌, ◌≡◌, true, false, get_or, set, replicate}
use Rattle.std.proofs.Common.{add-one, ap₂, ◌∙◌, length-drop, length-set, drop-drop, drop-cons, drop_at, take_at, length-take-le}
use native.Mathlib.Omega.{arith}
use Rattle.std.proofs.Math.Path.{refl, sym, ap}
use Rattle.std.proofs.Math.Bool.{and-eq-true_iff}
use mathlib.Core.List.{List, [], ◌∷◌, ◌++◌, map, append_assoc, append-nil}
use borrow.Author.Tests.{leb-false, lt-ltb, le-ltb}
use Rattle.std.proofs.Math.ListN.{length, take, drop, length-map, length-append}
use Rattle.std.proofs.lemmas.List.{length-replicate, set_split}
use Rattle.std.proofs.lemmas.List.Edits.{sets-eq}
use Rattle.std.proofs.Math.Seq.{length-sets, drop-append_seam}
use Rattle.rules.specs.Numbers.{accepted, refused}
use Rattle.rules.specs.Tries.{Row, at, union}
use Rattle.rules.proofs.TrieLaws.{Ordered, ordered_true, union_sum-length}
use Rattle.rules.specs.Paths.{Paths, nodes_of, union_all}
use Rattle.rules.specs.Steps.{Result, result, judged, is_too_deep, two_step}
use Rattle.rules.proofs.StepLaws.{Each, Plain, IsTrie, GoodResult, AllGood, all_length}
use Rattle.rows.specs.Words.{row_in, word_of}
use Rattle.rows.specs.WordLaws.{words_rows, row_word}
use Rattle.rows.specs.States.{rows_of, rows_in, holding}
use Rattle.words.specs.Runs.{words_in, Wrote}
use Rattle.words.specs.RunLaws.{held_count}
use Rattle.wrapped_paths.specs.Code.{code, codes, Standing, Measures, ResultStands as Stands}
use Rattle.wrapped_paths.specs.CodeLaws.{first_word, behind_word}
use Rattle.wrapped_paths.specs.AttrLaws.{words_most}
use Rattle.path_tries.specs.Nodes.{node_word, all_nodes, IsState, Became}
use Rattle.path_tries.specs.NodeLaws.{plain_node, all_nodes_plain, held_words}
use Rattle.result_stack.specs.Stacks.{stack_paths, stack_tries, trie_words, stacked, Layout, Held, Reached, Placed, TrieAt, TriesAt, CopiedFrom, TriesMerge, TriesMergedFrom}
use Rattle.result_stack.specs.declared.Stack.{Stack}

-- ---- what is judged of a result

module _ (place : ℕ) (top : Result) (stack : List Result) where
  pub judged_many : 32 ≤ length stack → judged place top stack ≡ refused 6 place
  judged_many h = rw (lt-ltb 32 (suc (length stack)) (omega arith))

  module _ (few : length stack < 32) where
    pub judged_nodes : 256 < nodes_of top.paths → judged place top stack ≡ refused 15 place
    judged_nodes h = rw (le-ltb 32 (suc (length stack)) (omega arith), lt-ltb 256 (nodes_of top.paths) h)

    module _ (nodes : nodes_of top.paths ≤ 256) where
      pub judged_deep : is_too_deep top.trie ≡ true → judged place top stack ≡ refused 3 place
      judged_deep e = rw (le-ltb 32 (suc (length stack)) (omega arith), le-ltb 256 (nodes_of top.paths) nodes, e)

      module _ (shallow : is_too_deep top.trie ≡ false) where
        pub judged_rows : 1024 < length top.trie → judged place top stack ≡ refused 4 place
        judged_rows h =
            rw (
              le-ltb 32 (suc (length stack)) (omega arith),
              le-ltb 256 (nodes_of top.paths) nodes,
              shallow,
              lt-ltb 1024 (length top.trie) h,
            )

        pub judged_good : length top.trie ≤ 1024 → judged place top stack ≡ accepted (top ∷ stack)
        judged_good h =
            rw (
              le-ltb 32 (suc (length stack)) (omega arith),
              le-ltb 256 (nodes_of top.paths) nodes,
              shallow,
              le-ltb 1024 (length top.trie) h,
            )

-- ---- tries in words

-- the words of a trie pack its rows, and those are nodes without types
pub trie-words : (rows : List Row) → IsTrie rows → (rows_of (map word_of rows) ≡ rows) × (all_nodes (map word_of rows) ≡ true)
unfolding Ordered Each all_nodes
trie-words rows t = go (0 ∷ []) rows (ordered_true (0 ∷ []) rows t.order) t.plain
  where
    go :
        (s : List ℕ) (rows : List Row)
        → Ordered s rows
        → Each Plain rows
        → (rows_of (map word_of rows) ≡ rows) × (all_nodes (map word_of rows) ≡ true)
    go s [] o p = (refl, refl)
    go s (row ∷ rows) o p =
        let (back, word) = row_word row o.0 o.2 in
        let (more, nodes) = go (at s row) rows o.3 p.1 in (
          ap₂ (λ x xs. x ∷ xs) back more,
          (and-eq-true_iff (node_word (word_of row)) _).1 (plain_node (word_of row) word (rw back p.0), nodes),
        )

-- what stands where a trie does
module _ (words rest : List ℕ) (place : ℕ) (trie : List Row) (there : drop place words ≡ trie_words trie ++ rest) where
  trie_room : place + 1 + length trie + length rest ≡ length words
  trie_room =
      omega (arith, ap length there, length-drop place words, length-append (map word_of trie) rest, length-map trie word_of, below)
    where
      below : place < length words
      below = omega (arith, ap length there, length-drop place words)

  pub trie_within : place + 1 + length trie ≤ length words
  trie_within = omega (arith, trie_room)

  pub trie_count : get_or words place 0 ≡ length trie
  trie_count = first_word words place there

  trie_behind : drop (place + 1) words ≡ map word_of trie ++ rest
  trie_behind = behind_word words place there

  pub trie_rows : take (get_or words place 0) (drop (place + 1) words) ≡ map word_of trie
  trie_rows = rw (trie_count, trie_behind) (take_at (map word_of trie) rest (length trie) (length-map trie word_of))

  pub trie_rest : drop (place + 1 + length trie) words ≡ rest
  trie_rest =
      sym (drop-drop (length trie) (place + 1) words) ∙ rw trie_behind (drop_at (map word_of trie) rest (length trie) (length-map trie word_of))

  pub trie_whole : take (1 + length trie) (drop place words) ≡ trie_words trie
  trie_whole = rw there (take_at (trie_words trie) rest (1 + length trie) (omega (arith, length-map trie word_of)))

-- a state's words
module _ {state : List ℕ} (is : IsState state) where
  pub trie_state_count : length (rows_in state) ≡ get_or state 0 0
  trie_state_count =
      length-map (words_in state) row_in
      ∙ length-take-le (get_or state 0 0) (drop 1 state) (omega (arith, length-drop 1 state, is.state_length, is.few_rows))

  pub state_words : take (get_or state 0 0 + 1) state ≡ trie_words (rows_in state)
  state_words =
      let some_word : 0 < length state = omega (arith, is.state_length) in
      let split : state ≡ get_or state 0 0 ∷ drop 1 state = drop-cons state 0 0 some_word in
      rw (add-one, trie_state_count, words_rows (words_in state) (all_nodes_plain (words_in state) is.nodes).0)
      (ap (λ (l : List ℕ). take (suc (get_or state 0 0)) l) split)

-- a buffer that holds a trie is a state of it
held_state :
    (out : List ℕ) (trie : List Row)
    → length out ≡ 1026
    → IsTrie trie
    → length trie ≤ 1024
    → IsState (holding out trie) × (words_in (holding out trie) ≡ map word_of trie)
held_state out trie long good few =
    let count : get_or (holding out trie) 0 0 ≡ length trie = held_count out (map word_of trie) (length-map trie word_of) (omega arith) in
    let rows : words_in (holding out trie) ≡ map word_of trie = held_words out trie (omega arith) in (
      record {
        state_length = length-sets out 0 (length trie ∷ map word_of trie) ∙ long;
        few_rows = rw count few;
        nodes = rw rows (trie-words trie good).1;
      },
      rows,
    )

-- a trie that stands somewhere ends there, and fits a state
pub at_within : {words : List ℕ} {place : ℕ} → TrieAt words place → place + 1 + get_or words place 0 ≤ length words
at_within {words} {place} t =
    omega (arith, trie_count words t.rest place t.trie t.there, trie_within words t.rest place t.trie t.there)

pub at_few : {words : List ℕ} {place : ℕ} → TrieAt words place → get_or words place 0 ≤ 1024
at_few {words} {place} t = omega (arith, trie_count words t.rest place t.trie t.there, t.few_rows)

pub trie_copied :
    {words out out' : List ℕ} {place end after : ℕ}
    → TrieAt words place
    → length out ≡ 1026
    → end ≡ place + 1 + get_or words place 0
    → Wrote out 0 (take (end - place) (drop place words)) out' after
    → CopiedFrom words place out'
trie_copied {words} {out} {out'} {place} {end} t long ends w =
    let trie = t.trie in
    let (state, rows) = held_state out trie long t.good_trie t.few_rows in
    let many : end - place ≡ 1 + length trie = omega (arith, trie_count words t.rest place trie t.there) in
    let same : out' ≡ holding out trie = w.text ∙ rw (many, trie_whole words t.rest place trie t.there) in
    rw same (
      state,
      λ other rest good there.
          rw rows
          (ap rows_of (sym (trie_rows words t.rest place trie t.there) ∙ trie_rows words rest place other there) ∙ (trie-words other good).0),
    )

-- a state whose count is 0 has no rows
no_words : (state : List ℕ) → get_or state 0 0 ≡ 0 → words_in state ≡ []
no_words state zero = ap (λ (count : ℕ). take count (drop 1 state)) zero

empty_state : (state : List ℕ) → length state ≡ 1026 → get_or state 0 0 ≡ 0 → IsState state
unfolding all_nodes
empty_state state long zero = record { state_length = long; few_rows = omega arith; nodes = ap all_nodes (no_words state zero) }

pub zero_state : IsState (replicate 1026 0)
zero_state = empty_state (replicate 1026 0) (length-replicate {A = ℕ} 1026 0) refl

-- ---- words that are put before a place

module _ (words out : List ℕ) (end : ℕ) (fits : length words ≤ end) (inside : end ≤ length out) where
  add_back : (n : ℕ) → n ≡ end → n - length words + length words ≡ end
  add_back n e = omega arith

  pub placed :
      {out' : List ℕ} {after : ℕ}
      → Wrote out (end - length words) words out' after
      → Placed words out end out' (end - length words)
  placed w = record {
    starts = omega arith;
    there =
        rw (w.text, sets-eq words out (end - length words) (omega arith), append_assoc)
        (drop_at (take (end - length words) out) (words ++ drop (end - length words + length words) out) (end - length words)
        (length-take-le (end - length words) out (omega arith))
        ∙ rw (add_back end refl));
    same_length = rw w.text (length-sets out (end - length words) words);
  }

-- so many words
pub placed_many :
    (words out : List ℕ) (end n : ℕ) {out' : List ℕ} {after : ℕ}
    → length words ≡ n
    → n ≤ end
    → end ≤ length out
    → Wrote out (end - n) words out' after
    → Placed words out end out' (end - n)
placed_many words out end n many fits inside w = rw (← many) (placed words out end (omega arith) inside (rw (← many) at w))

-- one word
pub placed_one : (w : ℕ) (out : List ℕ) (end : ℕ) → 0 < end → end ≤ length out → Placed (w ∷ []) out end (set out (end - 1) w) (end - 1)
placed_one w out end some-place inside =
    let before : end - 1 < length out = omega arith in
    let next : suc (end - 1) ≡ end = omega arith in
    record {
      starts = omega arith;
      there =
          rw (set_split out (end - 1) w before)
          (drop_at (take (end - 1) out) (w ∷ drop (suc (end - 1)) out) (end - 1) (length-take-le (end - 1) out (omega arith))
          ∙ ap (λ (n : ℕ). w ∷ drop n out) next);
      same_length = length-set out (end - 1) w;
    }

-- ---- the room of results

codes_room : (results : List Result) → AllGood results → length (codes (stack_paths results)) ≤ 6631 * length results
unfolding codes Each
codes_room [] good = omega arith
codes_room (r ∷ results) good =
    omega (
      arith,
      words_most r.paths good.0.good_paths good.0.few_nodes,
      codes_room results good.1,
      length-append (code r.paths) (codes (stack_paths results)),
    )

tries_room : (results : List Result) → AllGood results → length (stacked (stack_tries results)) ≤ 1025 * length results
unfolding stacked Each
tries_room [] good = omega arith
tries_room (r ∷ results) good =
    omega (
      arith,
      good.0.few_rows,
      tries_room results good.1,
      length-append (trie_words r.trie) (stacked (stack_tries results)),
      length-map r.trie word_of,
    )

-- ---- the results that a stack holds

module _ {code_run tries : List ℕ} {stack : Stack} {results : List Result} (held : Held code_run tries stack results) where
  code_place : stack.code + length (codes (stack_paths results)) ≡ length code_run
  code_place = omega (arith, ap length held.layout.code_there, length-drop stack.code code_run, held.layout.in_code)

  tries_place : stack.tries + length (stacked (stack_tries results)) ≡ length tries
  tries_place = omega (arith, ap length held.layout.tries_there, length-drop stack.tries tries, held.layout.in_tries)

  pub code_left : length code_run ≤ stack.code + 6631 * length results
  code_left = omega (arith, code_place, codes_room results held.good)

  pub tries_left : length tries ≤ stack.tries + 1025 * length results
  tries_left = omega (arith, tries_place, tries_room results held.good)

-- the top, and what is below it
module _ {code_run tries : List ℕ} {stack : Stack} {top : Result} {rest : List Result} (held : Held code_run tries stack (top ∷ rest)) where
  pub top_code : drop stack.code code_run ≡ code top.paths ++ codes (stack_paths rest)
  unfolding codes
  top_code = held.layout.code_there

  pub top_trie : drop stack.tries tries ≡ trie_words top.trie ++ stacked (stack_tries rest)
  unfolding stacked
  top_trie = held.layout.tries_there

  pub top_good : GoodResult top
  unfolding Each
  top_good = held.good.0

  rest_good : AllGood rest
  unfolding Each
  rest_good = held.good.1

  -- the stack without its top
  abbrev pub below : Stack
  below = record {
    code = stack.code + length (code top.paths);
    tries = stack.tries + 1 + length top.trie;
    results = length rest;
  }

  pub below_held : Held code_run tries below rest
  unfolding codes stacked
  below_held = record {
    layout = record {
      in_code = omega (arith, code_place held, length-append (code top.paths) (codes (stack_paths rest)));
      in_tries =
          omega (
            arith,
            tries_place held,
            length-append (trie_words top.trie) (stacked (stack_tries rest)),
            length-map top.trie word_of,
          );
      code_there =
          sym (drop-drop (length (code top.paths)) stack.code code_run)
          ∙ rw top_code (drop-append_seam (code top.paths) (codes (stack_paths rest)));
      tries_there = trie_rest tries (stacked (stack_tries rest)) stack.tries top.trie top_trie;
      as_many = refl;
    };
    few = omega (arith, held.few);
    good = rest_good;
  }

  -- it stands in the runs
  pub top_standing : Standing code_run stack.code 1
  unfolding codes
  top_standing = record { paths = top.paths ∷ []; rest = codes (stack_paths rest); as_many = refl; coded = top_code ∙ rw append-nil }

  unfoldable pub top_stands : Stands code_run stack.code
  top_stands = record {
    paths = top.paths;
    rest = codes (stack_paths rest);
    coded = top_code;
    few_nodes = top_good.few_nodes;
    good_paths = top_good.good_paths;
  }

  pub top_at : TrieAt tries stack.tries
  top_at = record {
    trie = top.trie;
    rest = stacked (stack_tries rest);
    there = top_trie;
    few_rows = top_good.few_rows;
    good_trie = top_good.good_trie;
  }

  -- where it ends
  pub code_end : {end nodes : ℕ} → Measures code_run stack.code 1 end nodes → end ≡ below.code
  unfolding codes
  code_end m =
      (m (top.paths ∷ []) (codes (stack_paths rest)) refl (top_code ∙ rw append-nil)).0 ∙ rw append-nil

  pub tries_end : {end : ℕ} → end ≡ stack.tries + 1 + get_or tries stack.tries 0 → end ≡ below.tries
  tries_end e = e ∙ rw (trie_count tries (stacked (stack_tries rest)) stack.tries top.trie top_trie)

-- a result was put before those that lie behind two places
pub landed :
    {code_run tries code_run' tries' : List ℕ} {under stack : Stack} {top : Result} {rest : List Result}
    → Layout code_run tries under rest
    → Placed (code top.paths) code_run under.code code_run' stack.code
    → Placed (trie_words top.trie) tries under.tries tries' stack.tries
    → stack.results ≡ suc (length rest)
    → Layout code_run' tries' stack (top ∷ rest)
unfolding codes stacked
landed layout c t many = record {
  in_code = omega (arith, c.starts, c.same_length, layout.in_code);
  in_tries = omega (arith, t.starts, t.same_length, layout.in_tries);
  code_there = c.there ∙ rw layout.code_there;
  tries_there = t.there ∙ rw layout.tries_there;
  as_many = many;
}

-- a result without rows on top
pub pushed :
    {code_run tries code_run' : List ℕ} {stack : Stack} {results : List Result} {start : ℕ} (paths : Paths)
    → Held code_run tries stack results
    → 0 < stack.tries
    → length results < 32
    → nodes_of paths ≡ 1
    → Placed (code paths) code_run stack.code code_run' start
    → Reached (λ place. judged place (result [] paths) results) code_run' (set tries (stack.tries - 1) 0)
    (record { code = start; tries = stack.tries - 1; results = stack.results + 1 })
unfolding is_too_deep
pushed {tries} {stack} {results} paths held some-room few nodes p = record {
  after = result [] paths ∷ results;
  reached = λ place. judged_good place (result [] paths) results few (omega arith) refl (omega arith);
  layout =
      landed held.layout p
      (placed_one 0 tries stack.tries some-room held.layout.in_tries)
      (omega (arith, held.layout.as_many));
}

-- ---- tries that are merged

-- so many tries stand from a place on
pub record TriesAhead (words : List ℕ) (end left : ℕ) : Type 0 where
  pub tries : List (List Row)
  pub rest : List ℕ
  pub as_many : length tries ≡ left
  pub there : drop end words ≡ stacked tries ++ rest
  pub few_rows : Each (λ trie. length trie ≤ 1024) tries
  pub good_tries : Each IsTrie tries

-- what is left of tries that are merged
pub record MergesAhead (words rest state : List ℕ) (tries : List (List Row)) (end left : ℕ) : Type 0 where
  pub ahead : List (List Row)
  pub as_many : length ahead ≡ left
  pub there : drop end words ≡ stacked ahead ++ rest
  pub good : Each IsTrie ahead
  pub same : union_all (rows_in state) ahead ≡ union_all [] tries

abbrev pub Merging : List ℕ → ℕ → ℕ → List ℕ → ℕ → ℕ → Type 0
Merging words place count state end i =
    (tries : List (List Row)) (rest : List ℕ)
    → length tries ≡ count
    → Each IsTrie tries
    → drop place words ≡ stacked tries ++ rest
    → MergesAhead words rest state tries end (count - i)

pub record MergingTries (words : List ℕ) (place count : ℕ) (state : List ℕ) (end i : ℕ) : Type 0 where
  pub most : i ≤ count
  pub inside : end ≤ length words
  pub is : IsState state
  pub ready : TriesAhead words end (count - i)
  pub room : get_or state 0 0 + i ≤ end
  pub merging : Merging words place count state end i

-- the next trie
module _ {words : List ℕ} {end left : ℕ} (ready : TriesAhead words end left) (more : 0 < left) where
  pub next_at : TrieAt words end
  unfolding stacked Each
  next_at = go ready.tries ready.as_many ready.there ready.few_rows ready.good_tries
    where
      go :
          (tries : List (List Row))
          → length tries ≡ left
          → drop end words ≡ stacked tries ++ ready.rest
          → Each (λ trie. length trie ≤ 1024) tries
          → Each IsTrie tries
          → TrieAt words end
      go [] many there few good = absurd (omega arith)
      go (trie ∷ tries) many there few good = record {
        trie = trie;
        rest = stacked tries ++ ready.rest;
        there = there ∙ append_assoc (trie_words trie) (stacked tries) ready.rest;
        few_rows = few.0;
        good_trie = good.0;
      }

  pub next_ready : {e : ℕ} → e ≡ end + 1 + get_or words end 0 → TriesAhead words e (left - 1)
  unfolding stacked Each
  next_ready {e} ends = go ready.tries ready.as_many ready.there ready.few_rows ready.good_tries
    where
      go :
          (tries : List (List Row))
          → length tries ≡ left
          → drop end words ≡ stacked tries ++ ready.rest
          → Each (λ trie. length trie ≤ 1024) tries
          → Each IsTrie tries
          → TriesAhead words e (left - 1)
      go [] many there few good = absurd (omega arith)
      go (trie ∷ tries) many there few good =
          let here = there ∙ append_assoc (trie_words trie) (stacked tries) ready.rest in
          let after : e ≡ end + 1 + length trie = ends ∙ rw (trie_count words (stacked tries ++ ready.rest) end trie here) in
          record {
            tries = tries;
            rest = ready.rest;
            as_many = omega arith;
            there = rw after (trie_rest words (stacked tries ++ ready.rest) end trie here);
            few_rows = few.1;
            good_tries = good.1;
          }

-- before the first
pub going_first :
    (words : List ℕ) (place count : ℕ) (state : List ℕ)
    → TriesAt words place count
    → length state ≡ 1026
    → get_or state 0 0 ≡ 0
    → MergingTries words place count state place 0
going_first words place count state t long zero = record {
  most = omega arith;
  inside = omega (arith, at_within (next_at ready (omega (arith, t.some_trie))));
  is = empty_state state long zero;
  ready = ready;
  room = omega arith;
  merging = λ tries rest many good there. record {
    ahead = tries;
    as_many = omega arith;
    there = there;
    good = good;
    same = ap (λ (trie : List Row). union_all trie tries) (ap rows_of (no_words state zero));
  };
}
  where
    ready : TriesAhead words place (count - 0)
    ready = record {
      tries = t.tries;
      rest = t.rest;
      as_many = omega (arith, t.as_many);
      there = t.there;
      few_rows = t.few_rows;
      good_tries = t.good_tries;
    }

-- its rows in words are nodes
pub next_nodes : {words : List ℕ} {end : ℕ} → TrieAt words end → all_nodes (take (get_or words end 0) (drop (end + 1) words)) ≡ true
next_nodes {words} {end} t = rw (trie_rows words t.rest end t.trie t.there) (trie-words t.trie t.good_trie).1

pub next_length : {words : List ℕ} {end : ℕ} → TrieAt words end → length (take (get_or words end 0) (drop (end + 1) words)) ≡ get_or words end 0
next_length {words} {end} t =
    ap length (trie_rows words t.rest end t.trie t.there)
    ∙ length-map t.trie word_of
    ∙ sym (trie_count words t.rest end t.trie t.there)

-- it was merged, or that has too many nodes
module _ {words rest state state' : List ℕ} {tries : List (List Row)} {end left : ℕ} (l : MergesAhead words rest state tries end left) (more : 0 < left) where
  left_next :
      {e : ℕ}
      → e ≡ end + 1 + get_or words end 0
      → Became (union (rows_in state) (rows_of (take (get_or words end 0) (drop (end + 1) words)))) state' true
      → MergesAhead words rest state' tries e (left - 1)
  unfolding stacked Each union_all
  left_next {e} ends b = go l.ahead l.as_many l.there l.good l.same
    where
      go :
          (ahead : List (List Row))
          → length ahead ≡ left
          → drop end words ≡ stacked ahead ++ rest
          → Each IsTrie ahead
          → union_all (rows_in state) ahead ≡ union_all [] tries
          → MergesAhead words rest state' tries e (left - 1)
      go [] many there good same = absurd (omega arith)
      go (trie ∷ ahead) many there good same =
          let here = there ∙ append_assoc (trie_words trie) (stacked ahead) rest in
          let after : e ≡ end + 1 + length trie = ends ∙ rw (trie_count words (stacked ahead ++ rest) end trie here) in
          let rows : rows_in state' ≡ union (rows_in state) trie =
          b.there refl ∙ rw (trie_rows words (stacked ahead ++ rest) end trie here, (trie-words trie good.0).0) in
          record {
            ahead = ahead;
            as_many = omega arith;
            there = rw after (trie_rest words (stacked ahead ++ rest) end trie here);
            good = good.1;
            same = rw rows same;
          }

  left_over :
      Became (union (rows_in state) (rows_of (take (get_or words end 0) (drop (end + 1) words)))) state' false
      → 1024 < length (union_all [] tries)
  unfolding stacked Each union_all
  left_over b = go l.ahead l.as_many l.there l.good l.same
    where
      go :
          (ahead : List (List Row))
          → length ahead ≡ left
          → drop end words ≡ stacked ahead ++ rest
          → Each IsTrie ahead
          → union_all (rows_in state) ahead ≡ union_all [] tries
          → 1024 < length (union_all [] tries)
      go [] many there good same = absurd (omega arith)
      go (trie ∷ ahead) many there good same =
          let here = there ∙ append_assoc (trie_words trie) (stacked ahead) rest in
          let rows : union (rows_in state) (rows_of (take (get_or words end 0) (drop (end + 1) words))) ≡ union (rows_in state) trie =
          rw (trie_rows words (stacked ahead ++ rest) end trie here, (trie-words trie good.0).0) in
          let run = take (get_or words end 0) (drop (end + 1) words) in
          omega (
            arith,
            leb-false (length (union (rows_in state) (rows_of run))) 1024 (sym b.judged),
            ap length rows,
            all_length (union (rows_in state) trie) ahead,
            ap length same,
          )

module _ {words state : List ℕ} {place count end i : ℕ} (going : MergingTries words place count state end i) (more : i < count) where
  some_left : 0 < count - i
  some_left = omega arith

  pub going_at : TrieAt words end
  going_at = next_at going.ready some_left

  pub going_nodes : all_nodes (take (get_or words end 0) (drop (end + 1) words)) ≡ true
  going_nodes = next_nodes going_at

  pub going_next :
      {state' : List ℕ} {e : ℕ}
      → e ≡ end + 1 + get_or words end 0
      → Became (union (rows_in state) (rows_of (take (get_or words end 0) (drop (end + 1) words)))) state' true
      → MergingTries words place count state' e (i + 1)
  going_next {state'} {e} ends b =
      let fewer : count - i - 1 ≡ count - (i + 1) = omega arith in
      let run = take (get_or words end 0) (drop (end + 1) words) in
      record {
        most = omega arith;
        inside = omega (arith, at_within going_at);
        is = b.still;
        ready = rw (← fewer) (next_ready going.ready some_left ends);
        room =
            omega (
              arith,
              going.room,
              trie_state_count going.is,
              trie_state_count b.still,
              ap length (b.there refl),
              union_sum-length (rows_in state) (rows_of run),
              length-map run row_in,
              next_length going_at,
            );
        merging = λ tries rest many good there.
            rw (← fewer) (left_next (going.merging tries rest many good there) some_left ends b);
      }

  pub going_over :
      (words' : List ℕ) {state' : List ℕ}
      → Became (union (rows_in state) (rows_of (take (get_or words end 0) (drop (end + 1) words)))) state' false
      → TriesMergedFrom words place count words' None
  going_over words' b tries rest many good there = left_over (going.merging tries rest many good there) some_left b

-- all were merged
pub merging_done :
    {words state words' : List ℕ} {place count end i start : ℕ}
    → MergingTries words place count state end i
    → count ≤ i
    → Placed (trie_words (rows_in state)) words end words' start
    → TriesMergedFrom words place count words' (Some start)
unfolding union_all stacked
merging_done {words} {state} {words'} {place} {count} {end} {i} {start} going all p tries rest many good there =
    let l = going.merging tries rest many good there in
    go l.ahead l.as_many l.there l.same
  where
    go :
        (ahead : List (List Row))
        → length ahead ≡ count - i
        → drop end words ≡ stacked ahead ++ rest
        → union_all (rows_in state) ahead ≡ union_all [] tries
        → TriesMerge tries rest words words' start
    go [] many there same = record {
      fits = omega (arith, ap length same, trie_state_count going.is, going.is.few_rows);
      inside = omega (arith, p.starts, going.inside);
      same_length = p.same_length;
      there = p.there ∙ rw (there, ← same);
    }
    go (trie ∷ ahead) many there same = absurd (omega arith)

-- ---- the top

pub held_top :
    {code_run tries : List ℕ} {stack : Stack} (results : List Result)
    → Held code_run tries stack results
    → 0 < stack.results
    → (top : Result) × (rest : List Result) × (results ≡ top ∷ rest) × Held code_run tries stack (top ∷ rest)
held_top [] held some_result = absurd (omega (arith, held.layout.as_many))
held_top (top ∷ rest) held some_result = (top, rest, refl, held)

module _ {code_run tries : List ℕ} {stack : Stack} {top : Result} {rest : List Result} (held : Held code_run tries stack (top ∷ rest)) where
  pub top_few : length rest < 32
  top_few = omega (arith, held.few)

  -- there is room for another top
  pub code_end_room : {end : ℕ} → 256 ≤ stack.code → end ≡ (below held).code → (0 < end) × (end ≤ length code_run)
  code_end_room room e = (omega arith, omega (arith, (below_held held).layout.in_code))

  pub tries_end_room : {end : ℕ} → 1025 ≤ stack.tries → end ≡ (below held).tries → (1025 ≤ end) × (end ≤ length tries)
  tries_end_room room e = (omega arith, omega (arith, (below_held held).layout.in_tries))

-- a step of two results finds fewer
module _ {code_run tries : List ℕ} {stack : Stack} (results : List Result) (held : Held code_run tries stack results) where
  pub two_few : (of : Result → Result → Result) → stack.results < 2 → (place : ℕ) → two_step of place results ≡ refused 6 place
  two_few of few place = go results held.layout.as_many
    where
      go : (results : List Result) → stack.results ≡ length results → two_step of place results ≡ refused 6 place
      go [] many = refl
      go (right ∷ []) many = refl
      go (right ∷ left ∷ rest) many = absurd (omega arith)
