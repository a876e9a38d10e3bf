-- Laws of tries in words (Nodes): nodes and their words, the chain of a path and what is below it, and merging them into a state.
-- No contract cites this file.
use Prim.Native.Nat.{ℕ, zero, suc, ◌+◌, ◌*◌, ◌/◌, ◌%◌, ◌^◌, ◌≤◌, ◌<◌, max}
use Rattle.std.proofs.Common.{add-zero, add-suc, ap₂, ◌∙◌, ⊎_elim, ltb-true, leb-true, leb-false, eqb-true, lt-ltb, le-ltb, le-leb, ne_eqb, length-append, length-take, length-drop, get_or-drop, get_or-take, take_at, take_all, take-suc, take-suc-set, length-take-le}
use Rattle.std.proofs.Math.Numerals.{add-one}
use native.Mathlib.Omega.{arith}
use Rattle.std.specs.Prelude.{◌≡◌, refl, Bool, true, false, cond, not, ◌&&◌, ◌||◌, leb, ltb, eqb, take, set}
use Rattle.std.proofs.Math.Path.{sym, ap}
use Rattle.std.proofs.Math.Bool.{and-eq-true_iff}
use Rattle.std.proofs.lemmas.Bool.{false≢true, eqb-false, lt-leb}
use mathlib.Core.List.{List, [], ◌∷◌, ◌++◌, map, map-append}
use Rattle.std.proofs.Math.Option.{none, some-ne-none}
use Rattle.std.proofs.Math.ListN.{length, drop, get_or, length-map, drop_of_length-le}
use Rattle.std.proofs.lemmas.List.Edits.{sets, sets-eq}
use Rattle.std.proofs.Math.Seq.{length-sets, drop-cons}
use Rattle.rules.specs.Facts.{by_test, compared, larger, larger_max}
use Rattle.rules.specs.Numbers.{accepted, refused, most_steps}
use Rattle.rules.specs.Tries.{Row, is_step, is_root, is_row, contribution, count, entries_in, nodes_in, union, union_within}
use Rattle.rules.proofs.TrieLaws.{union_turns, union_nil_left, union_nil_right, union_sum-length}
use Rattle.rules.specs.Listing.{read}
use Rattle.rules.specs.Paths.{Path, deeper, chain, to_root_access_trie_with_leaf, add_access_path, union_all, path_tries, add_paths}
use Rattle.rules.proofs.TypeLaws.{chain_length, deeper_length, is_no_trie, longest}
use Rattle.rules.proofs.StepLaws.{Each, Stepped, IsPath, AllPaths, Plain, each_append, turns_plain, field_step, stepped_some, all_length}
use Rattle.rows.specs.Words.{depth_in, mark_in, step_in, type_from, type_in, row_in, word_of, is_word}
use Rattle.union.specs.Unions.{union_words, union_into, Roomy}
use Rattle.rows.specs.WordLaws.{node_low, all_words_cons, words_rows, row_word}
use Rattle.union.specs.UnionLaws.{union-words}
use Rattle.rows.specs.States.{all_words, rows_of, rows_in, holding}
use Rattle.words.specs.Runs.{words_in, Wrote}
use Rattle.rows.specs.StateLaws.{all_rows}
use Rattle.rows.specs.declared.Kind.TheVariants.{Contribution}
use Rattle.words.specs.Replies.{Done, Refused}
use Rattle.words.specs.RunLaws.{wrote_length, wrote_more, taken_back, held_count}
use Rattle.wrapped_paths.specs.Code.{rooted, path_at, paths_at, AllWithin}
use Rattle.path_tries.specs.Nodes.{node_word, below_word, all_nodes, all_below, IsState, Became, leaf_of, any_deep, AllFit, chain_words, deeper_words, RunOf}

-- ---- words of nodes

-- a word that packs a node without a type packs a row that is one
node_plain : (w : ℕ) → node_word w ≡ true → (is_word w ≡ true) × Plain (row_in w)
unfolding node_word
node_plain w h =
    let (word, rest) = (and-eq-true_iff (is_word w) _).0 h in
    let (deep, low) = (and-eq-true_iff (ltb 0 (depth_in w)) _).0 rest in
    let no_entry : eqb (depth_in w) 0 ≡ false = ne_eqb (depth_in w) 0 (omega (arith, ltb-true 0 (depth_in w) deep)) in
    let no_type : w / 2 ^ 25 % 2 ^ 11 ≡ 0 = omega (arith, ltb-true w (2 ^ 25) low) in
    (word, record { node = no_entry; untyped = rw (no_entry, no_type) })

no_number : (n : ℕ) → type_from n ≡ none → n ≡ 0
no_number zero e = refl
no_number (suc t) e = absurd (some-ne-none t e)

pub plain_node : (w : ℕ) → is_word w ≡ true → Plain (row_in w) → node_word w ≡ true
unfolding node_word
plain_node w word plain =
    let no_type = no_number (w / 2 ^ 25 % 2 ^ 11) (rw plain.node at plain.untyped) in
    let deep : 0 < depth_in w = omega (arith, eqb-false (depth_in w) 0 plain.node) in
    let low : w < 2 ^ 25 = omega (arith, node_low w word plain.node, no_type) in
    (and-eq-true_iff (is_word w) _).1 (word, (and-eq-true_iff (ltb 0 (depth_in w)) _).1 (lt-ltb 0 (depth_in w) deep, lt-ltb w (2 ^ 25) low))

-- all of some words pack nodes exactly where they pack rows that are nodes without types
pub all_nodes_plain : (ws : List ℕ) → all_nodes ws ≡ true → (all_words ws ≡ true) × Each Plain (rows_of ws)
unfolding all_nodes all_words Each
all_nodes_plain [] h = (refl, tt)
all_nodes_plain (w ∷ ws) h =
    let (first, rest) = (and-eq-true_iff (node_word w) (all_nodes ws)).0 h in
    let (word, plain) = node_plain w first in
    let (words, plains) = all_nodes_plain ws rest in
    ((all_words_cons w ws).1 (word, words), (plain, plains))

pub plain_all_nodes : (ws : List ℕ) → all_words ws ≡ true → Each Plain (rows_of ws) → all_nodes ws ≡ true
unfolding all_nodes Each
plain_all_nodes [] words plains = refl
plain_all_nodes (w ∷ ws) words plains =
    let (word, rest) = (all_words_cons w ws).0 words in
    (and-eq-true_iff (node_word w) (all_nodes ws)).1 (plain_node w word plains.0, plain_all_nodes ws rest plains.1)

-- ---- rows that are nodes without types

-- they are no entries
no_entries : (rows : List Row) → Each Plain rows → entries_in rows ≡ 0
unfolding Each count
no_entries [] plains = refl
no_entries (row ∷ rows) plains = rw plains.0.node (no_entries rows plains.1)

-- ---- merging a run of nodes into a state

-- the union of nodes is refused only where it has too many
union_nodes : (a b : List Row) → Each Plain a → Each Plain b →
    union_within contribution a b ≡ cond (leb (length (union a b)) 1024) (accepted (union a b)) (refused 4 0)
union_nodes a b pa pb =
    let none_there : entries_in (union a b) ≡ 0 = no_entries (union a b) (turns_plain (union_turns a b) pa pb) in
    let all : nodes_in (union a b) ≡ length (union a b) = omega (arith, all_rows (union a b)) in
    rw (none_there, all)
    (compared 1024 (length (union a b))
    (λ h. rw (lt-ltb 1024 (length (union a b)) h, lt-leb (length (union a b)) 1024 h))
    (λ h. rw (le-ltb 1024 (length (union a b)) h, le-leb (length (union a b)) 1024 h)))

-- a buffer that holds rows has their words
pub held_words : (out : List ℕ) (rows : List Row) → length rows < length out → words_in (holding out rows) ≡ map word_of rows
held_words out rows h =
    let count : length (map word_of rows) ≡ length rows = length-map rows word_of in
    rw (held_count out (map word_of rows) (length-map rows word_of) h, sets-eq (length rows ∷ map word_of rows) out 0 (omega arith))
    (take_at (map word_of rows) _ (length rows) count)

module _ (trie run : List ℕ) (state : IsState trie) (nodes : all_nodes run ≡ true) where
  abbrev united : List Row
  united = union (rows_in trie) (rows_of run)

  abbrev plain_trie : (all_words (words_in trie) ≡ true) × Each Plain (rows_in trie)
  plain_trie = all_nodes_plain (words_in trie) state.nodes

  abbrev plain_run : (all_words run ≡ true) × Each Plain (rows_of run)
  plain_run = all_nodes_plain run nodes

  -- what may be united
  pub words_there : (all_words (words_in trie) ≡ true) × (all_words run ≡ true)
  words_there = (plain_trie.0, plain_run.0)

  within : union_within contribution (rows_in trie) (rows_of run) ≡ cond (leb (length united) 1024) (accepted united) (refused 4 0)
  within = union_nodes (rows_in trie) (rows_of run) plain_trie.1 plain_run.1

  -- the words of the union pack nodes
  united_nodes : all_nodes (map word_of united) ≡ true
  united_nodes =
      let (rows, words) = union-words (words_in trie) run plain_trie.0 plain_run.0 in
      let plains = turns_plain (union_turns (rows_in trie) (rows_of run)) plain_trie.1 plain_run.1 in
      rw (← rows, words_rows (union_words (words_in trie) run) words)
      (plain_all_nodes (union_words (words_in trie) run) words (rw rows plains))

  -- a buffer that is long enough has room for the union behind its count
  pub roomy_rows : (out : List ℕ) → length united ≤ 1024 → Roomy Contribution (words_in trie) run out → length united < length out
  roomy_rows out few roomy =
      let sum = union_sum-length (rows_in trie) (rows_of run) in
      ⊎_elim (λ long. omega arith) (λ long. omega (arith, sum, length-map (words_in trie) row_in, length-map run row_in)) roomy

  -- a state that holds the union
  pub merged : length united ≤ 1024 → Became united (holding trie united) true
  merged few =
      let room : length united < length trie = omega (arith, state.state_length) in
      let words : words_in (holding trie united) ≡ map word_of united = held_words trie united room in
      let (rows, good) = union-words (words_in trie) run plain_trie.0 plain_run.0 in
      record {
        judged = sym (le-leb (length united) 1024 few);
        still = record {
          state_length = length-sets trie 0 (length united ∷ map word_of united) ∙ state.state_length;
          few_rows = rw (held_count trie (map word_of united) (length-map united word_of) room) few;
          nodes = rw words united_nodes;
        };
        there = λ _. rw (words, ← rows, words_rows (union_words (words_in trie) run) good);
      }

  -- what the answer of the union says
  pub merge_done : (out : List ℕ) → (union_into Contribution (words_in trie) run out).reply ≡ Done →
      (length united ≤ 1024) × ((union_into Contribution (words_in trie) run out).buffer ≡ holding out united)
  merge_done out e =
      by_test (leb (length united) 1024)
      (λ h. (leb-true (length united) 1024 h, rw (within, h)))
      (λ h. absurd (let z : ◌≡◌ {A = ℕ} 0 1 = cc (rw (within, h) at e) in omega arith))

  pub merge_refused : (out : List ℕ) (number place : ℕ) → (union_into Contribution (words_in trie) run out).reply ≡ Refused number place →
      Became united trie false
  merge_refused out number place e =
      by_test (leb (length united) 1024)
      (λ h. absurd (let z : ◌≡◌ {A = ℕ} 0 1 = cc (rw (within, h) at e) in omega arith))
      (λ h. record { judged = sym h; still = state; there = λ no. absurd (false≢true no) })

-- an empty state becomes a run of nodes
module _ (trie run : List ℕ) (state : IsState trie) (nodes : all_nodes run ≡ true) (empty : get_or trie 0 0 ≡ 0) where
  alone : union (rows_in trie) (rows_of run) ≡ rows_of run
  alone = rw empty (union_nil_left (rows_of run))

  pub filled_over : 1024 < length run → Became (union (rows_in trie) (rows_of run)) trie false
  filled_over h = record {
    judged = sym (rw (alone, length-map run row_in) (lt-leb (length run) 1024 h));
    still = state;
    there = λ no. absurd (false≢true no);
  }

  pub filled : length run ≤ 1024 → Became (union (rows_in trie) (rows_of run)) (sets (set trie 0 (length run)) 1 run) true
  filled h =
      let words = words_rows run (all_nodes_plain run nodes).0 in
      let few : length (union (rows_in trie) (rows_of run)) ≤ 1024 = rw (alone, length-map run row_in) h in
      let held : holding trie (union (rows_in trie) (rows_of run)) ≡ sets (set trie 0 (length run)) 1 run = rw (alone, length-map run row_in, words) in
      rw held at (merged trie run state nodes few)

-- a state has as many rows as its first word says
pub state_count : {state : List ℕ} → IsState state → length (words_in state) ≡ get_or state 0 0
state_count {state} held = omega (arith, length-take-le (get_or state 0 0) (drop 1 state) (omega (arith, held.few_rows, held.state_length, length-drop 1 state)))

-- ---- nodes that words can pack

-- a row of its form at most 24 deep that is a node without a type
record Packed (row : Row) : Type 0 where
  whole : is_row row ≡ true
  near : row.depth ≤ 24
  plain : Plain row

-- their words pack them
packed_nodes : (rows : List Row) → Each Packed rows → (rows_of (map word_of rows) ≡ rows) × (all_nodes (map word_of rows) ≡ true)
unfolding Each all_nodes
packed_nodes [] good = (refl, refl)
packed_nodes (row ∷ rows) good =
    let (back, word) = row_word row good.0.whole good.0.near in
    let (more, nodes) = packed_nodes rows good.1 in (
      ap₂ (λ x xs. x ∷ xs) back more,
      (and-eq-true_iff (node_word (word_of row)) _).1 (plain_node (word_of row) word (rw back good.0.plain), nodes),
    )

-- ---- the chain of a path

-- a step below the first is a node
field_packed : (depth step : ℕ) (mark : Bool) → 1 < depth → depth ≤ 24 → step < 65536 → Packed (read depth step mark)
field_packed depth step mark deep near field =
    record {
      whole = rw (ne_eqb depth 0 (omega arith), ne_eqb depth 1 (omega arith), field_step step field);
      near = near;
      plain = record { node = ne_eqb depth 0 (omega arith); untyped = refl };
    }

fields_packed : (depth : ℕ) (mark : Bool) (path : Path) → 1 < depth → depth + length path ≤ 25 → Each (λ f. f < 65536) path → Each Packed (chain depth mark path)
unfolding Each chain
fields_packed depth mark [] deep near fields = tt
fields_packed depth mark (step ∷ []) deep near fields = (field_packed depth step mark deep (omega arith) fields.0, tt)
fields_packed depth mark (step ∷ next ∷ steps) deep near fields = (
  field_packed depth step false deep (omega arith) fields.0,
  fields_packed (suc depth) mark (next ∷ steps) (omega arith) (omega arith) fields.1,
)

root_packed : (step : ℕ) (mark : Bool) → is_root step ≡ true → Packed (read 1 step mark)
root_packed step mark root = record { whole = rw root; near = omega arith; plain = record { node = refl; untyped = refl } }

chain_packed : (mark : Bool) (path : Path) → IsPath path → Each Packed (chain 1 mark path)
unfolding Each chain Stepped
chain_packed mark path good = go path good.steps good.short
  where
    go : (path : Path) → Stepped path → length path ≤ 24 → Each Packed (chain 1 mark path)
    go [] steps short = absurd steps
    go (first ∷ []) steps short = (root_packed first mark steps.0, tt)
    go (first ∷ next ∷ fields) steps short = (
      root_packed first false steps.0,
      fields_packed 2 mark (next ∷ fields) (omega arith) (omega arith) steps.1,
    )

-- a path has a step, and its steps are small
pub path_some : {path : Path} → IsPath path → 0 < length path
path_some {path} good = stepped_some path good.steps

root_small : (step : ℕ) → is_root step ≡ true → step < 2 ^ 19
root_small step root =
    let step-there = ((and-eq-true_iff (is_step step) _).0 root).0 in
    omega (arith, leb-true (step / 65536) 5 ((and-eq-true_iff (leb (step / 65536) 5) _).0 step-there).0)

pub step_small : {path : Path} → IsPath path → (i : ℕ) → i < length path → get_or path i 0 < 2 ^ 19
unfolding Stepped Each
step_small {path} good i h = go path i good.steps h
  where
    fields : (path : Path) (i : ℕ) → Each (λ f. f < 65536) path → i < length path → get_or path i 0 < 2 ^ 19
    fields [] i each h = absurd (omega arith)
    fields (f ∷ path) zero each h = omega (arith, each.0)
    fields (f ∷ path) (suc i) each h = fields path i each.1 (omega arith)

    go : (path : Path) (i : ℕ) → Stepped path → i < length path → get_or path i 0 < 2 ^ 19
    go [] i steps h = absurd steps
    go (first ∷ path) zero steps h = root_small first steps.0
    go (first ∷ path) (suc i) steps h = fields path i steps.1 (omega arith)

-- The nodes of the steps from i on are left to be written, and lead to those of the whole path.
pub record Chained (start path out : List ℕ) (mark : Bool) (i : ℕ) : Type 0 where
  pub left : sets out i (map word_of (chain (i + 1) mark (drop i path))) ≡ sets start 0 (chain_words path mark)

pub chained_first : (start path : List ℕ) (mark : Bool) → Chained start path start mark 0
chained_first start path mark = record { left = refl }

module _ {start path out : List ℕ} {mark : Bool} {i : ℕ} (chained : Chained start path out mark i) where
  pub chained_length : length out ≡ length start
  chained_length =
      sym (length-sets out i (map word_of (chain (i + 1) mark (drop i path))))
      ∙ ap length chained.left
      ∙ length-sets start 0 (chain_words path mark)

  -- the node of a step that is not the last
  pub chained_next : i + 1 < length path → Chained start path (set out i (word_of (read (i + 1) (get_or path i 0) false))) mark (i + 1)
  unfolding chain
  chained_next h =
      let after : drop (suc i) path ≡ get_or path (suc i) 0 ∷ drop (suc (suc i)) path = drop-cons path (suc i) 0 (omega arith) in
      let here : drop i path ≡ get_or path i 0 ∷ get_or path (suc i) 0 ∷ drop (suc (suc i)) path = rw (drop-cons path i 0 (omega arith), after) in
      record { left = rw (add-one (i + 1), add-one i, after) (rw (here, add-one i) at chained.left) }

  -- and of the last
  pub chained_last : i + 1 ≡ length path → Wrote start 0 (chain_words path mark) (set out i (word_of (read (i + 1) (get_or path i 0) mark))) (i + 1)
  unfolding chain
  chained_last h =
      let end : length path ≤ suc i = omega arith in
      let here : drop i path ≡ get_or path i 0 ∷ [] = rw (drop-cons path i 0 (omega arith), drop_of_length-le path end) in
      record {
        after = omega (arith, length-map (chain 1 mark path) word_of, chain_length 1 mark path);
        text = rw here at chained.left;
      }

-- ---- what is below a path

-- a row of a word below another goes deeper by what is added to the word
below_row : (n w : ℕ) → below_word w ≡ true → word_of (record { depth = n + depth_in w; step = step_in w; mark = mark_in w; type = type_in w }) ≡ w + n
unfolding below_word
below_row n w h =
    let (_, rest) = (and-eq-true_iff (is_step (step_in w)) _).0 h in
    let (deep, low) = (and-eq-true_iff (ltb 0 (depth_in w)) _).0 rest in
    let small = ltb-true w (2 ^ 25) low in
    let no_entry : eqb (depth_in w) 0 ≡ false = ne_eqb (depth_in w) 0 (omega (arith, ltb-true 0 (depth_in w) deep)) in
    let no_type : w / 2 ^ 25 % 2 ^ 11 ≡ 0 = omega arith in
    let step : w / 64 % 2 ^ 19 ≡ w / 64 = omega arith in
    rw (no_entry, no_type, step, bit) (omega arith)
  where
    bit : cond (mark_in w) 32 0 ≡ 32 * (w / 32 % 2)
    bit = by_test (mark_in w) (λ e. rw e (omega (arith, eqb-true))) (λ e. rw e (omega (arith, eqb-false)))

-- and is a node
below_packed : (n w : ℕ) → 0 < n → below_word w ≡ true → n + depth_in w ≤ 24 → Packed (record { depth = n + depth_in w; step = step_in w; mark = mark_in w; type = type_in w })
unfolding below_word
below_packed n w some-step h near =
    let (step, rest) = (and-eq-true_iff (is_step (step_in w)) _).0 h in
    let (deep, low) = (and-eq-true_iff (ltb 0 (depth_in w)) _).0 rest in
    let small = ltb-true w (2 ^ 25) low in
    let more = ltb-true 0 (depth_in w) deep in
    let no_entry : eqb (depth_in w) 0 ≡ false = ne_eqb (depth_in w) 0 (omega arith) in
    let no_type : w / 2 ^ 25 % 2 ^ 11 ≡ 0 = omega arith in
    let untyped : type_in w ≡ none = rw (no_entry, no_type) in
    let not_top : eqb (n + depth_in w) 0 ≡ false = ne_eqb (n + depth_in w) 0 (omega arith) in
    record {
      whole = rw (not_top, ne_eqb (n + depth_in w) 1 (omega arith), step, untyped);
      near = near;
      plain = record { node = not_top; untyped = untyped };
    }

below_cons : (n w : ℕ) (ws : List ℕ) → all_below n (w ∷ ws) ≡ true → (below_word w ≡ true) × (n + depth_in w ≤ 24) × (all_below n ws ≡ true)
unfolding all_below
below_cons n w ws h =
    let (first, rest) = (and-eq-true_iff (below_word w && leb (n + depth_in w) most_steps) (all_below n ws)).0 h in
    let (below, near) = (and-eq-true_iff (below_word w) _).0 first in
    (below, leb-true (n + depth_in w) 24 near, rest)

deeper_packed : (n : ℕ) (ws : List ℕ) → 0 < n → all_below n ws ≡ true → Each Packed (deeper n (rows_of ws))
unfolding Each deeper
deeper_packed n [] some-step h = tt
deeper_packed n (w ∷ ws) some-step h =
    let (below, near, rest) = below_cons n w ws h in
    (below_packed n w some-step below near, deeper_packed n ws some-step rest)

-- The rows from i on are left to be written deeper, and lead to all of them.
pub record Lowered (start rows out : List ℕ) (by to i : ℕ) : Type 0 where
  pub below : all_below by (drop i rows) ≡ true
  pub left : sets out (to + i) (deeper_words by (drop i rows)) ≡ sets start to (deeper_words by rows)

pub lowered_first : (start rows : List ℕ) (by to : ℕ) → all_below by rows ≡ true → Lowered start rows start by to 0
lowered_first start rows by to h = record { below = h; left = rw add-zero }

module _ {start rows out : List ℕ} {by to i : ℕ} (lowered : Lowered start rows out by to i) where
  pub lowered_length : length out ≡ length start
  lowered_length =
      sym (length-sets out (to + i) (deeper_words by (drop i rows)))
      ∙ ap length lowered.left
      ∙ length-sets start to (deeper_words by rows)

  module _ (h : i < length rows) where
    next_below : (below_word (get_or rows i 0) ≡ true) × (by + depth_in (get_or rows i 0) ≤ 24) × (all_below by (drop (suc i) rows) ≡ true)
    next_below = below_cons by (get_or rows i 0) (drop (suc i) rows) (rw (drop-cons rows i 0 h) at lowered.below)

    -- a word and what is added to it are small
    pub lowered_small : (get_or rows i 0 < 2 ^ 25) × (by ≤ 24)
    unfolding below_word
    lowered_small =
        let (_, rest) = (and-eq-true_iff (is_step (step_in (get_or rows i 0))) _).0 next_below.0 in
        (ltb-true (get_or rows i 0) (2 ^ 25) ((and-eq-true_iff (ltb 0 (depth_in (get_or rows i 0))) _).0 rest).1, omega (arith, next_below.1))

    pub lowered_next : Lowered start rows (set out (to + i) (get_or rows i 0 + by)) by to (i + 1)
    unfolding deeper
    lowered_next = record {
      below = rw add-one next_below.2;
      left = rw (add-one, add-suc) (rw (drop-cons rows i 0 h, below_row by (get_or rows i 0) next_below.0) at lowered.left);
    }

  pub lowered_all : i ≡ length rows → Wrote start to (deeper_words by rows) out (to + i)
  unfolding deeper
  lowered_all h =
      let end : length rows ≤ i = omega arith in
      record {
        after = omega (arith, length-map (deeper by (rows_of rows)) word_of, deeper_length by (rows_of rows), length-map rows row_in);
        text = rw (drop_of_length-le rows end) at lowered.left;
      }

-- ---- a path with its leaf

-- a state has at most as many rows as its count
state_few : {trie : List ℕ} → IsState trie → length (rows_in trie) ≤ 1024
state_few {trie} state = simp (length-map, length-take) (omega (arith, state.few_rows))

-- a state that stays as it is
pub as_it_was : {trie : List ℕ} → IsState trie → Became (rows_in trie) trie true
as_it_was {trie} state = record { judged = sym (le-leb (length (rows_in trie)) 1024 (state_few state)); still = state; there = λ _. refl }

-- an empty run changes nothing
pub nothing_merged : {trie : List ℕ} (run : List ℕ) → IsState trie → length run ≡ 0 → Became (union (rows_in trie) (rows_of run)) trie true
nothing_merged {trie} [] state h = rw (union_nil_right (rows_in trie)) (as_it_was state)
nothing_merged (w ∷ run) state h = absurd (omega arith)

-- whether a path and its leaf give no node, by counts
pub no_trie_test : (path below : List ℕ) (mark : Bool) → is_no_trie path (leaf_of mark below) ≡ (eqb (length path) 1 && (not mark && eqb (length below) 0))
no_trie_test path below mark = rw (length-map below row_in)

-- they give none
pub no_run : (path below out : List ℕ) (mark : Bool) → is_no_trie path (leaf_of mark below) ≡ true →
    RunOf (to_root_access_trie_with_leaf path (leaf_of mark below)) out 0
unfolding to_root_access_trie_with_leaf all_nodes
no_run path below out mark e = rw e (record { inside = omega arith; packs = refl; nodes = refl })

-- the words of a path with its leaf: its chain, and what is below it
abbrev pub run_words : Path → List ℕ → Bool → List ℕ
run_words path below mark = chain_words path mark ++ deeper_words (length path) below

module _ (path below : List ℕ) (mark : Bool) where
  lengths : (length (chain_words path mark) ≡ length path) × (length (deeper_words (length path) below) ≡ length below)
  lengths = (
    length-map (chain 1 mark path) word_of ∙ chain_length 1 mark path,
    length-map (deeper (length path) (rows_of below)) word_of ∙ deeper_length (length path) (rows_of below) ∙ length-map below row_in,
  )

  module _ {out out₁ : List ℕ} {leaf : ℕ} (room : length path + length below ≤ length out) (first : Wrote out 0 (chain_words path mark) out₁ leaf) where
    -- there is room for what is below
    pub leaf_room : leaf + length below ≤ length out₁
    leaf_room = omega (arith, first.after, lengths, wrote_length first)

    module _ {out₂ : List ℕ} {end : ℕ} (second : Wrote out₁ leaf (deeper_words (length path) below) out₂ end) where
      whole : Wrote out 0 (run_words path below mark) out₂ end
      whole = wrote_more first second

      enough : length (run_words path below mark) ≤ length out
      enough = omega (arith, length-append (chain_words path mark) (deeper_words (length path) below), lengths)

      pub run_within : end ≤ length out₂
      run_within = omega (arith, wrote_length whole, whole.after, enough)

      -- what was written
      pub run_written : take end out₂ ≡ run_words path below mark
      run_written =
          let all : end ≡ length (run_words path below mark) = omega (arith, whole.after) in
          rw (all, whole.text) (taken_back out (run_words path below mark) enough)

  -- it packs the nodes of the path with its leaf
  pub run_nodes : IsPath path → all_below (length path) below ≡ true → is_no_trie path (leaf_of mark below) ≡ false →
      (rows_of (run_words path below mark) ≡ to_root_access_trie_with_leaf path (leaf_of mark below)) × (all_nodes (run_words path below mark) ≡ true)
  unfolding to_root_access_trie_with_leaf
  run_nodes good fit e =
      let rows = chain 1 mark path ++ deeper (length path) (rows_of below) in
      rw (e, ← map-append word_of (chain 1 mark path) (deeper (length path) (rows_of below)))
      (packed_nodes rows
      (each_append Packed (chain 1 mark path) (deeper (length path) (rows_of below)) (chain_packed mark path good)
      (deeper_packed (length path) below (path_some good) fit)))

  pub run_packs : {out : List ℕ} {end : ℕ} → IsPath path → all_below (length path) below ≡ true → is_no_trie path (leaf_of mark below) ≡ false →
      end ≤ length out → take end out ≡ run_words path below mark → RunOf (to_root_access_trie_with_leaf path (leaf_of mark below)) out end
  run_packs good fit e within written = record {
    inside = within;
    packs = ap rows_of written ∙ (run_nodes good fit e).0;
    nodes = ap all_nodes written ∙ (run_nodes good fit e).1;
  }

-- ---- several paths

-- the next path
next_paths : (code places : List ℕ) (i : ℕ) → i < length places → paths_at code (drop i places) ≡ path_at code (get_or places i 0) ∷ paths_at code (drop (suc i) places)
unfolding paths_at
next_paths code places i h = rw (drop-cons places i 0 h)

next_within : (code places : List ℕ) (i : ℕ) → i < length places → AllWithin code (drop i places) →
    (get_or places i 0 + 1 + get_or code (get_or places i 0) 0 / 64 ≤ length code) × AllWithin code (drop (suc i) places)
unfolding AllWithin
next_within code places i h within = rw (drop-cons places i 0 h) at within

-- ---- a path that is read

-- the kind of its root changes nothing else of its ids
rooted_length : (kind : ℕ) (ids : List ℕ) → length (rooted kind ids) ≡ length ids
rooted_length kind [] = refl
rooted_length kind (id ∷ fields) = refl

rooted_first : (kind : ℕ) (ids : List ℕ) → 0 < length ids → get_or (rooted kind ids) 0 0 ≡ kind * 65536 + get_or ids 0 0
rooted_first kind [] h = absurd (omega arith)
rooted_first kind (id ∷ fields) h = refl

rooted_later : (kind : ℕ) (ids : List ℕ) (i : ℕ) → 0 < i → get_or (rooted kind ids) i 0 ≡ get_or ids i 0
rooted_later kind [] i h = refl
rooted_later kind (id ∷ fields) zero h = absurd (omega arith)
rooted_later kind (id ∷ fields) (suc i) h = refl

module _ (code : List ℕ) (at : ℕ) (h : at + 1 + get_or code at 0 / 64 ≤ length code) where
  abbrev ids : List ℕ
  ids = take (get_or code at 0 / 64) (drop (at + 1) code)

  -- a path that stands in words has as many steps as its head says
  ids_many : length ids ≡ get_or code at 0 / 64
  ids_many = length-take-le (get_or code at 0 / 64) (drop (at + 1) code) (omega (arith, length-drop (at + 1) code))

  pub path_steps : length (path_at code at) ≡ get_or code at 0 / 64
  unfolding path_at
  path_steps = rooted_length (get_or code at 0 / 8 % 8) ids ∙ ids_many

  ids_there : (i : ℕ) → i < get_or code at 0 / 64 → get_or ids i 0 ≡ get_or code (at + 1 + i) 0
  ids_there i less = get_or-take (get_or code at 0 / 64) (drop (at + 1) code) i 0 less ∙ get_or-drop (at + 1) code i 0

  -- its root, and its fields
  pub path_first : 0 < get_or code at 0 / 64 → get_or (path_at code at) 0 0 ≡ get_or code at 0 / 8 % 8 * 65536 + get_or code (at + 1) 0
  unfolding path_at
  path_first some-step =
      rooted_first (get_or code at 0 / 8 % 8) ids (omega (arith, ids_many))
      ∙ ap (λ (id : ℕ). get_or code at 0 / 8 % 8 * 65536 + id) (ids_there 0 some-step ∙ rw add-zero)

  pub path_later : (i : ℕ) → 0 < i → i < get_or code at 0 / 64 → get_or (path_at code at) i 0 ≡ get_or code (at + 1 + i) 0
  unfolding path_at
  path_later i past less = rooted_later (get_or code at 0 / 8 % 8) ids i past ∙ ids_there i less

-- the first i steps of a path are read
pub record PathReading (path out : List ℕ) (i : ℕ) : Type 0 where
  pub so_many : i ≤ length path
  pub there : take i out ≡ take i path

pub reading_first : (path out : List ℕ) → PathReading path out 0
reading_first path out = record { so_many = omega arith; there = refl }

module _ {path out : List ℕ} {i : ℕ} (reading : PathReading path out i) where
  pub reading_next : {step : ℕ} → i < length path → i < length out → get_or path i 0 ≡ step → PathReading path (set out i step) (i + 1)
  reading_next {step} more room e = record {
    so_many = omega arith;
    there = rw (add-one, take-suc-set out i step room, take-suc path i 0 more, reading.there, e);
  }

  pub reading_all : length path ≤ i → take i out ≡ path
  reading_all h = reading.there ∙ take_all i path h

-- The paths from i on are left to be added, and lead to what all of them give.
pub record Adding (code places below : List ℕ) (mark : Bool) (start trie : List ℕ) (i : ℕ) : Type 0 where
  pub still : IsState trie
  pub within : AllWithin code (drop i places)
  pub good : AllPaths (paths_at code (drop i places))
  pub fit : AllFit (paths_at code (drop i places)) below
  pub left : add_paths (rows_in trie) (paths_at code (drop i places)) (leaf_of mark below) ≡ add_paths (rows_in start) (paths_at code places) (leaf_of mark below)

module _ {code places below : List ℕ} {mark : Bool} {start trie : List ℕ} {i : ℕ} (adding : Adding code places below mark start trie i) where
  abbrev all_added : List Row
  all_added = add_paths (rows_in start) (paths_at code places) (leaf_of mark below)

  module _ (h : i < length places) where
    abbrev path : Path
    path = path_at code (get_or places i 0)

    -- the next path stands in the words, is a path, and fits
    pub adding_within : get_or places i 0 + 1 + get_or code (get_or places i 0) 0 / 64 ≤ length code
    adding_within = (next_within code places i h adding.within).0

    pub adding_path : IsPath path
    unfolding Each
    adding_path = (rw (next_paths code places i h) at adding.good).0

    pub adding_fit : all_below (length path) below ≡ true
    unfolding AllFit
    adding_fit = (rw (next_paths code places i h) at adding.fit).0

    next_left : add_paths (add_access_path (rows_in trie) path (leaf_of mark below)) (paths_at code (drop (suc i) places)) (leaf_of mark below) ≡ all_added
    unfolding union_all
    next_left = rw (next_paths code places i h) at adding.left

    -- it was added
    pub adding_next : {trie' : List ℕ} → Became (add_access_path (rows_in trie) path (leaf_of mark below)) trie' true → Adding code places below mark start trie' (i + 1)
    unfolding Each AllFit
    adding_next {trie'} became = record {
      still = became.still;
      within = rw add-one (next_within code places i h adding.within).1;
      good = rw add-one (rw (next_paths code places i h) at adding.good).1;
      fit = rw add-one (rw (next_paths code places i h) at adding.fit).1;
      left = rw (add-one, became.there refl) next_left;
    }

    -- it makes too many nodes, and so do all of them
    pub adding_over : {trie' : List ℕ} → Became (add_access_path (rows_in trie) path (leaf_of mark below)) trie' false → Became all_added trie' false
    adding_over {trie'} became =
        let over = leb-false (length (add_access_path (rows_in trie) path (leaf_of mark below))) 1024 (sym became.judged) in
        let longer = all_length (add_access_path (rows_in trie) path (leaf_of mark below)) (path_tries (paths_at code (drop (suc i) places)) (leaf_of mark below)) in
        record {
          judged = sym (lt-leb (length all_added) 1024 (omega (arith, over, longer, ap length next_left)));
          still = became.still;
          there = λ no. absurd (false≢true no);
        }

  -- all were added
  pub adding_all : length places ≤ i → Became all_added trie true
  unfolding union_all paths_at
  adding_all h = let all : rows_in trie ≡ all_added = rw (drop_of_length-le places h) at adding.left in rw (← all) (as_it_was adding.still)

-- ---- how deep and how long paths are

-- what is left to be looked at
pub record DepthsPassed (code places : List ℕ) (below i : ℕ) : Type 0 where
  pub within : AllWithin code (drop i places)
  pub left : any_deep (paths_at code (drop i places)) below ≡ any_deep (paths_at code places) below

module _ {code places : List ℕ} {below i : ℕ} (looking : DepthsPassed code places below i) where
  module _ (h : i < length places) where
    pub looking_within : get_or places i 0 + 1 + get_or code (get_or places i 0) 0 / 64 ≤ length code
    looking_within = (next_within code places i h looking.within).0

    next_looked : (ltb 24 (get_or code (get_or places i 0) 0 / 64 + below) || any_deep (paths_at code (drop (suc i) places)) below) ≡ any_deep (paths_at code places) below
    unfolding any_deep
    next_looked = rw (next_paths code places i h, path_steps code (get_or places i 0) looking_within) at looking.left

    pub looking_deep : 24 < get_or code (get_or places i 0) 0 / 64 + below → true ≡ any_deep (paths_at code places) below
    looking_deep deep = rw (lt-ltb 24 (get_or code (get_or places i 0) 0 / 64 + below) deep) at next_looked

    pub looking_next : get_or code (get_or places i 0) 0 / 64 + below ≤ 24 → DepthsPassed code places below (i + 1)
    looking_next flat = record {
      within = rw add-one (next_within code places i h looking.within).1;
      left = rw add-one (rw (le-ltb 24 (get_or code (get_or places i 0) 0 / 64 + below) flat) at next_looked);
    }

  pub looking_all : length places ≤ i → false ≡ any_deep (paths_at code places) below
  unfolding any_deep paths_at
  looking_all h = rw (drop_of_length-le places h) at looking.left

-- what is left to be measured
pub record Longest (code places : List ℕ) (most i : ℕ) : Type 0 where
  pub within : AllWithin code (drop i places)
  pub left : larger most (longest (paths_at code (drop i places))) ≡ longest (paths_at code places)

pub longest_first : (code places : List ℕ) → AllWithin code places → Longest code places 0 0
longest_first code places within = record { within = within; left = simp larger_max (omega arith) }

module _ {code places : List ℕ} {most i : ℕ} (so_far : Longest code places most i) where
  module _ (h : i < length places) where
    pub longest_within : get_or places i 0 + 1 + get_or code (get_or places i 0) 0 / 64 ≤ length code
    longest_within = (next_within code places i h so_far.within).0

    pub longest_next : Longest code places (max most (get_or code (get_or places i 0) 0 / 64)) (i + 1)
    unfolding longest
    longest_next = rw (← larger_max most (get_or code (get_or places i 0) 0 / 64)) record {
      within = rw add-one (next_within code places i h so_far.within).1;
      left = rw add-one (regroup _ _ _ ∙ (rw (next_paths code places i h, path_steps code (get_or places i 0) longest_within) at so_far.left));
    }
      where
        regroup : (a b c : ℕ) → larger (larger a b) c ≡ larger a (larger b c)
        regroup a b c = simp larger_max (omega arith)

  pub longest_all : length places ≤ i → most ≡ longest (paths_at code places)
  unfolding longest paths_at
  longest_all h = sym (simp larger_max (omega arith)) ∙ (rw (drop_of_length-le places h) at so_far.left)
