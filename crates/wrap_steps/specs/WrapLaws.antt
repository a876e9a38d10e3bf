-- Laws of steps that wrap or push results: what each leaves on the stack. No contract cites this file.
use Rattle.std.specs.Prelude.{Some, None, ℕ, ◌+◌, ◌*◌, ◌-◌, ◌≤◌, ◌<◌, ◌≡◌, false, set, replicate}
use Rattle.std.proofs.Common.{arith, ◌∙◌, take_at}
use Rattle.std.proofs.Math.Path.{refl, sym, ap, subst}
use mathlib.Core.List.{List, [], ◌∷◌, ◌++◌, map-append, append_assoc, append-nil}
use Rattle.std.proofs.Math.Option.{Option, none, some}
use Rattle.std.proofs.Math.ListN.{length, take, drop, length-append, take-append-drop}
use Rattle.std.proofs.lemmas.List.{length-map}
use Rattle.std.proofs.lemmas.List.Edits.{sets-eq}
use Rattle.std.proofs.Math.Seq.{length-sets, length-take-le}
use Rattle.rules.specs.Numbers.{refused}
use Rattle.rules.specs.Tries.{Row, union}
use Rattle.rules.proofs.TrieLaws.{union_nil_left, union_nil_right}
use Rattle.rules.specs.Paths.{RecordLiteral, SetLiteral, no_field, field, nodes_of, nodes_of_fields, union_all}
use Rattle.rules.specs.Steps.{Result, result, judged, is_too_deep, union_results, two_step, set_step, drop_step, empty_paths, Wrapped, wrapped, rec_step}
use Rattle.rules.proofs.StepLaws.{Each, IsTrie, GoodResult, AllGood, each_split, each_map, empty_trie, union_trie, trie_commutative, trie_associative, trie_shallow, tries_trie}
use Rattle.words.specs.Runs.{Wrote}
use Rattle.wrapped_paths.specs.Code.{count_in, names_in, code, code_fields, codes, nodes_of_all, Standing, Measures}
use Rattle.wrapped_paths.specs.CodeLaws.{codes_append}
use Rattle.result_stack.specs.Stacks.{Stepped, stack_paths, stack_tries, trie_words, stacked, Held, Reached, Outcomes, Placed, TriesAt, TriesMergedFrom, Wraps, WrapsBy}
use Rattle.result_stack.specs.declared.Stack.{Stack}
use Rattle.result_stack.specs.StackLaws.{judged_nodes, judged_rows, judged_good, top_good, top_few, below_held, code_end}

-- ---- results that are wrapped

codes_split : (taken left : List Result) → codes (stack_paths (taken ++ left)) ≡ codes (stack_paths taken) ++ codes (stack_paths left)
codes_split taken left = ap codes (map-append (λ r. r.paths) taken left) ∙ codes_append (stack_paths taken) (stack_paths left)

tries_split : (taken left : List Result) → stacked (stack_tries (taken ++ left)) ≡ stacked (stack_tries taken) ++ stacked (stack_tries left)
unfolding stacked
tries_split [] left = refl
tries_split (r ∷ taken) left =
    rw (tries_split taken left) (sym (append_assoc (trie_words r.trie) (stacked (stack_tries taken)) (stacked (stack_tries left))))

-- so many results stand on top
pub top_of :
    {code_run tries : List ℕ} {stack : Stack} (count : ℕ) (results : List Result)
    → Held code_run tries stack results
    → Held code_run tries stack (take count results ++ drop count results)
top_of count results held = rw (take-append-drop count results) held

module _ {code_run tries : List ℕ} {stack : Stack} (taken left : List Result) {count : ℕ} (many : length taken ≡ count) (held : Held code_run tries stack (taken ++ left)) where
  taken_good : AllGood taken
  taken_good = (each_split GoodResult taken left held.good).0

  left_good : AllGood left
  left_good = (each_split GoodResult taken left held.good).1

  codes_there : drop stack.code code_run ≡ codes (stack_paths taken) ++ codes (stack_paths left)
  codes_there = held.layout.code_there ∙ codes_split taken left

  tries_there : drop stack.tries tries ≡ stacked (stack_tries taken) ++ stacked (stack_tries left)
  tries_there = held.layout.tries_there ∙ tries_split taken left

  tries_good : Each IsTrie (stack_tries taken)
  tries_good = each_map GoodResult IsTrie (λ r. r.trie) (λ r good. good.good_trie) taken taken_good

  pub wrap_standing : Standing code_run stack.code count
  wrap_standing = record {
    paths = stack_paths taken;
    rest = codes (stack_paths left);
    as_many = length-map taken (λ r. r.paths) ∙ many;
    coded = codes_there;
  }

  pub wrap_nodes : {end nodes : ℕ} → Measures code_run stack.code count end nodes → nodes ≡ nodes_of_all (stack_paths taken)
  wrap_nodes m = (m (stack_paths taken) (codes (stack_paths left)) (length-map taken (λ r. r.paths) ∙ many) codes_there).1

  module _ (some-taken : 0 < count) where
    pub wrap_tries : TriesAt tries stack.tries count
    wrap_tries = record {
      tries = stack_tries taken;
      rest = stacked (stack_tries left);
      some_trie = some-taken;
      as_many = length-map taken (λ r. r.trie) ∙ many;
      there = tries_there;
      few_rows = each_map GoodResult (λ trie. length trie ≤ 1024) (λ r. r.trie) (λ r good. good.few_rows) taken taken_good;
      good_tries = tries_good;
    }

    wrap_few : length left < 32
    wrap_few = omega (arith, held.few, length-append taken left)

    -- there is room for a head with its names
    pub wrap_room : 256 ≤ stack.code → count + 1 ≤ stack.code
    wrap_room room = omega (arith, held.few, length-append taken left)

    module _ {head : List ℕ} {wrapping : Result} (w : Wraps head taken wrapping) where
      pub wrap_over :
          {nodes : ℕ}
          → nodes ≡ nodes_of_all (stack_paths taken)
          → 256 ≤ nodes
          → (place : ℕ)
          → judged place wrapping left ≡ refused 15 place
      wrap_over e many_nodes place = judged_nodes place wrapping left wrap_few (omega (arith, w.nodes))

      module _ (few_nodes : nodes_of_all (stack_paths taken) < 256) where
        wrapped_nodes : nodes_of wrapping.paths ≤ 256
        wrapped_nodes = omega (arith, w.nodes)

        wrapped_shallow : is_too_deep wrapping.trie ≡ false
        wrapped_shallow = rw w.tries (trie_shallow _ (tries_trie [] (stack_tries taken) empty_trie tries_good))

        pub wrap_rows : (tries' : List ℕ) → TriesMergedFrom tries stack.tries count tries' None → (place : ℕ) → judged place wrapping left ≡ refused 4 place
        wrap_rows tries' m place =
            let over = m (stack_tries taken) (stacked (stack_tries left)) (length-map taken (λ r. r.trie) ∙ many) tries_good tries_there in
            judged_rows place wrapping left wrap_few wrapped_nodes wrapped_shallow (omega (arith, over, ap length w.tries))

        pub wrap_done :
            {code_run' tries' : List ℕ} {first start : ℕ}
            → TriesMergedFrom tries stack.tries count tries' (Some start)
            → Placed head code_run stack.code code_run' first
            → Reached (λ place. judged place wrapping left) code_run' tries'
            (record { code = first; tries = start; results = stack.results - count + 1 })
        unfolding codes stacked
        wrap_done m p =
            let h = m (stack_tries taken) (stacked (stack_tries left)) (length-map taken (λ r. r.trie) ∙ many) tries_good tries_there in
            record {
              after = wrapping ∷ left;
              reached = λ place.
                  judged_good place wrapping left wrap_few wrapped_nodes wrapped_shallow (omega (arith, h.fits, ap length w.tries));
              layout = record {
                in_code = omega (arith, p.starts, p.same_length, held.layout.in_code);
                in_tries = omega (arith, h.inside, h.same_length);
                code_there =
                    p.there
                    ∙ rw (codes_there, w.coded) (sym (append_assoc head (codes (stack_paths taken)) (codes (stack_paths left))));
                tries_there = h.there ∙ rw w.tries;
                as_many = omega (arith, held.layout.as_many, length-append taken left);
              };
            }

-- a union, and a set literal
pub union_wraps :
    (left right : Result)
    → IsTrie left.trie
    → IsTrie right.trie
    → Wraps (2 ∷ []) (right ∷ left ∷ []) (union_results left right)
unfolding code codes nodes_of nodes_of_all union_all
union_wraps left right tl tr = record {
  coded = rw append-nil;
  nodes = omega arith;
  tries = rw union_nil_left (trie_commutative left.trie right.trie tl tr);
}

pub set_wraps : (top : Result) → Wraps (3 ∷ []) (top ∷ []) (result top.trie (SetLiteral top.paths))
unfolding code codes nodes_of nodes_of_all union_all
set_wraps top = record { coded = rw append-nil; nodes = omega arith; tries = sym (union_nil_left top.trie) }

module _ {code_run tries : List ℕ} {stack : Stack} (results : List Result) (held : Held code_run tries stack results) where
  pub union_done :
      (code_run' tries' : List ℕ) (r : Stepped)
      → 2 ≤ stack.results
      → WrapsBy (2 ∷ []) 2 code_run tries stack code_run' tries' r
      → Outcomes (λ place. two_step union_results place results) code_run' tries' r
  unfolding Each
  union_done code_run' tries' r enough w = go results held
    where
      go :
          (results : List Result)
          → Held code_run tries stack results
          → Outcomes (λ place. two_step union_results place results) code_run' tries' r
      go [] held = absurd (omega (arith, held.layout.as_many))
      go (right ∷ []) held = absurd (omega (arith, held.layout.as_many))
      go (right ∷ left ∷ rest) held =
          w (right ∷ left ∷ []) rest (union_results left right) refl
          (union_wraps left right held.good.1.0.good_trie held.good.0.good_trie)
          held

  pub set_few : stack.results ≡ 0 → (place : ℕ) → set_step place results ≡ refused 6 place
  set_few few place = go results held.layout.as_many
    where
      go : (results : List Result) → stack.results ≡ length results → set_step place results ≡ refused 6 place
      go [] many = refl
      go (top ∷ rest) many = absurd (omega arith)

  pub set_done :
      (code_run' tries' : List ℕ) (r : Stepped)
      → 0 < stack.results
      → WrapsBy (3 ∷ []) 1 code_run tries stack code_run' tries' r
      → Outcomes (λ place. set_step place results) code_run' tries' r
  set_done code_run' tries' r enough w = go results held
    where
      go : (results : List Result) → Held code_run tries stack results → Outcomes (λ place. set_step place results) code_run' tries' r
      go [] held = absurd (omega (arith, held.layout.as_many))
      go (top ∷ rest) held = w (top ∷ []) rest (result top.trie (SetLiteral top.paths)) refl (set_wraps top) held

-- ---- record literals

-- what a record literal takes from the stack
record Wrapping (names : List ℕ) (taken left : List Result) (w : Wrapped) : Type 0 where
  leaves : w.left ≡ left
  named : names_in w.fields ≡ names
  counted : count_in w.fields ≡ length names
  coded : code_fields w.fields ≡ codes (stack_paths taken)
  nodes : nodes_of_fields w.fields ≡ nodes_of_all (stack_paths taken)
  good : IsTrie w.trie
  tries : (trie : List Row) → IsTrie trie → union_all trie (stack_tries taken) ≡ union trie w.trie

names_wrapped :
    (names : List ℕ) (taken left : List Result)
    → length taken ≡ length names
    → AllGood taken
    → (w : Wrapped) × (wrapped names (taken ++ left) ≡ some w) × Wrapping names taken left w
unfolding wrapped Each union_all names_in count_in code_fields codes nodes_of_fields nodes_of_all
names_wrapped [] [] left many good = (
  record { trie = []; fields = no_field; left = left },
  refl,
  record {
    leaves = refl;
    named = refl;
    counted = refl;
    coded = refl;
    nodes = refl;
    good = empty_trie;
    tries = λ trie t. sym (union_nil_right trie);
  },
)
names_wrapped [] (r ∷ taken) left many good = absurd (omega arith)
names_wrapped (name ∷ names) [] left many good = absurd (omega arith)
names_wrapped (name ∷ names) (r ∷ taken) left many good =
    let (w, e, k) = names_wrapped names taken left (omega arith) good.1 in (
      record { trie = union w.trie r.trie; fields = field name r.paths w.fields; left = w.left },
      rw e,
      record {
        leaves = k.leaves;
        named = rw k.named;
        counted = rw k.counted;
        coded = rw k.coded;
        nodes = rw k.nodes;
        good = union_trie w.trie r.trie k.good good.0.good_trie;
        tries = λ trie t.
            k.tries (union trie r.trie) (union_trie trie r.trie t good.0.good_trie)
            ∙ trie_associative trie r.trie w.trie t good.0.good_trie k.good
            ∙ rw (trie_commutative r.trie w.trie good.0.good_trie k.good);
      },
    )

names_few : (names : List ℕ) (results : List Result) → length results < length names → wrapped names results ≡ none
unfolding wrapped
names_few [] results few = absurd (omega arith)
names_few (name ∷ names) [] few = refl
names_few (name ∷ names) (r ∷ results) few = rw (names_few names results (omega arith))

module _ {code_run tries : List ℕ} {stack : Stack} (results : List Result) (held : Held code_run tries stack results) (names : List ℕ) where
  pub rec_few : stack.results < length names → (place : ℕ) → rec_step names place results ≡ refused 6 place
  rec_few few place = rw (names_few names results (omega (arith, held.layout.as_many)), rec_step)

  pub rec_done :
      (count : ℕ) (code_run' tries' : List ℕ) (r : Stepped)
      → length names ≡ count
      → count ≤ stack.results
      → WrapsBy ((4 + 64 * count) ∷ names) count code_run tries stack code_run' tries' r
      → Outcomes (λ place. rec_step names place results) code_run' tries' r
  unfolding code nodes_of
  rec_done count code_run' tries' r as_many enough by =
      let many : length (take count results) ≡ count = length-take-le count results (omega (arith, held.layout.as_many)) in
      let split : take count results ++ drop count results ≡ results = take-append-drop count results in
      let top = top_of count results held in
      let (w, e, k) = names_wrapped names (take count results) (drop count results) (many ∙ sym as_many) (taken_good (take count results) (drop count results) many top) in
      let wraps : Wraps ((4 + 64 * count) ∷ names) (take count results) (result w.trie (RecordLiteral w.fields)) =
      record {
        coded = rw (k.counted ∙ as_many, k.named, k.coded);
        nodes = rw k.nodes;
        tries = sym (k.tries [] empty_trie ∙ union_nil_left w.trie);
      } in
      let gives : wrapped names results ≡ some w = rw split at e in
      let outcome = by (take count results) (drop count results) (result w.trie (RecordLiteral w.fields)) many wraps top in
      subst
      (λ (o : Option Wrapped).
      Outcomes
      (λ place. elim o [ none ↦ refused 6 place | some w ↦ judged place (result w.trie (RecordLiteral w.fields)) w.left ])
      code_run'
      tries'
      r)
      (sym gives)
      (subst
      (λ (l : List Result). Outcomes (λ place. judged place (result w.trie (RecordLiteral w.fields)) l) code_run' tries' r)
      (sym k.leaves)
      outcome)

-- no name, and a head with names
pub rec_none :
    (results : List Result) (names code_run' tries' : List ℕ) (r : Stepped)
    → names ≡ []
    → Outcomes (λ place. judged place (result [] (RecordLiteral no_field)) results) code_run' tries' r
    → Outcomes (λ place. rec_step names place results) code_run' tries' r
unfolding wrapped
rec_none results names code_run' tries' r e outcome =
    subst (λ (l : List ℕ). Outcomes (λ place. rec_step l place results) code_run' tries' r) (sym e) outcome

pub rec_head :
    (w : ℕ) (names : List ℕ) {out' : List ℕ} {end : ℕ}
    → length names ≤ 32
    → Wrote (set (replicate 33 0) 0 w) 1 names out' end
    → take end out' ≡ w ∷ names
rec_head w names few written =
    let room : 1 + length names ≤ length (set (replicate {A = ℕ} 33 0) 0 w) = omega arith in
    rw (written.text, written.after, sets-eq names (set (replicate 33 0) 0 w) 1 room)
    (take_at (w ∷ names) _ (1 + length names) (omega arith))

pub head_room :
    (w : ℕ) (names : List ℕ) {out' : List ℕ} {end : ℕ}
    → length names ≤ 32
    → Wrote (set (replicate 33 0) 0 w) 1 names out' end
    → (end ≤ length out') × (end ≡ 1 + length names)
head_room w names few written =
    (omega (arith, written.after, ap length written.text, length-sets (set (replicate 33 0) 0 w) 1 names), written.after)

-- empty paths
pub drop_few :
    {code_run tries : List ℕ} {stack : Stack} (results : List Result)
    → Held code_run tries stack results
    → stack.results ≡ 0
    → (place : ℕ)
    → drop_step place results ≡ refused 6 place
drop_few [] held few place = refl
drop_few (top ∷ rest) held few place = absurd (omega (arith, held.layout.as_many))

pub drop_done :
    {code_run tries code_run' : List ℕ} {stack : Stack} {end nodes start : ℕ} (results : List Result)
    → Held code_run tries stack results
    → 0 < stack.results
    → Measures code_run stack.code 1 end nodes
    → Placed (0 ∷ []) code_run end code_run' start
    → Reached (λ place. drop_step place results) code_run' tries (record { code = start; tries = stack.tries; results = stack.results })
unfolding code codes nodes_of
drop_done [] held some_result m p = absurd (omega (arith, held.layout.as_many))
drop_done (top ∷ rest) held some_result m p =
    let under = (below_held held).layout in
    let put = rw (code_end held m) at p in
    record {
      after = empty_paths top.trie ∷ rest;
      reached = λ place.
          judged_good place (empty_paths top.trie) rest (top_few held) (omega arith) (trie_shallow top.trie (top_good held).good_trie) (top_good held).few_rows;
      layout = record {
        in_code = omega (arith, put.starts, put.same_length, under.in_code);
        in_tries = held.layout.in_tries;
        code_there = put.there ∙ rw under.code_there;
        tries_there = held.layout.tries_there;
        as_many = held.layout.as_many;
      };
    }
