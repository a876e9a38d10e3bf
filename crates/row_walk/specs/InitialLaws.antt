-- Laws of the first batch. No contract cites this file.
use Prim.Native.Nat.{ℕ, suc, ◌+◌, ◌-◌, ◌*◌, ◌≤◌, ◌<◌}
use Rattle.std.proofs.Math.Numerals.{add-one}
use native.Mathlib.Omega.{arith}
use Rattle.std.specs.Prelude.{◌≡◌, refl, not, ◌&&◌, leb, length, drop, get_or, set}
use Rattle.std.proofs.Common.{sym, ap, ◌∙◌, drop_of_length-le}
use Rattle.std.proofs.Math.Bool.{true, false, and-false, or-true}
use mathlib.Core.List.{List, [], ◌∷◌, ◌++◌, map, map-append}
use Rattle.std.proofs.Math.Option.{Option, none, some}
use borrow.Author.Tests.{le-leb, lt-leb, eq-eqb, ne_eqb}
use Rattle.std.proofs.Math.Dec.{eqb}
use Rattle.std.proofs.Math.ListN.{take}
use Rattle.std.proofs.lemmas.List.{length-map}
use Rattle.rules.specs.Facts.{by_test, by_option, both_true, compared}
use Rattle.rules.specs.Listing.{◌>>=◌}
use Rattle.rules.specs.Tries.{Row, ids, kind_of}
use Rattle.rules.specs.ValueRows.{ValueRow}
use Rattle.rules.specs.Loading.{Request, EntityRequest, Event, yielded, ancestor, bad, is_context_root, entity_named, at_roots, initial_entities, batch_of}
use Rattle.rules.specs.WalkRows.{MetRows, kept_rows_at, at_node_rows, walk_rows, in_context_rows}
use Rattle.rules.proofs.WalkRowLaws.{context_rows}
use Rattle.rows.specs.Words.{row_in, depth_in, step_in}
use Rattle.rows.specs.States.{rows_of}
use Rattle.values.specs.ValueWords.{value_rows_of, request_word}
use Rattle.words.specs.Runs.{Wrote}
use Rattle.words.specs.RunLaws.{wrote_length, wrote_more}
use Rattle.row_walk.specs.ScanLaws.{rows_left}
use Rattle.row_walk.specs.Batches.{yields, BatchWritten}
use Rattle.row_walk.specs.BatchLaws.{in_front, Gathered, gathered_row, gathered_all, remaining_below, remaining_past}
use Rattle.std.specs.Prelude.{Some, None}
use Rattle.row_walk.specs.Initial.{request_with, asks_at, ContextAt}
use Rattle.row_walk.specs.YieldLaws.{yields_append, batch_length, rows_below, one_node}
use Rattle.row_walk.specs.declared.initial.Request.{Request as Asked}

-- ---- a row that asks

module _ (depth : ℕ) (row : Row) where
  pub asks_above : row.depth ≤ depth → asks_at depth row ≡ false
  asks_above h = rw (ne_eqb row.depth (suc depth) (λ e. omega arith))

  pub asks_deeper : (row.depth ≡ suc depth → ⊥) → asks_at depth row ≡ false
  asks_deeper e = rw (ne_eqb row.depth (suc depth) e)

  module _ (here : row.depth ≡ suc depth) where
    pub asks_field : kind_of row.step ≡ 0 → asks_at depth row ≡ false
    asks_field e = rw (eq-eqb row.depth (suc depth) here, eq-eqb (kind_of row.step) 0 e)

    pub asks_root : (kind_of row.step ≡ 0 → ⊥) → asks_at depth row ≡ not (eqb (kind_of row.step) 4)
    asks_root other = rw (eq-eqb row.depth (suc depth) here, ne_eqb (kind_of row.step) 0 other)

-- the entity that a root names has a small id
pub named_small : (request : Request) (step : ℕ) → request.principal < ids → request.resource < ids → entity_named request step < ids
named_small request step h k =
    by_test (eqb (kind_of step) 1)
    (λ e. rw e h)
    (λ e.
    by_test (eqb (kind_of step) 2)
    (λ a. rw (e, a) (omega arith))
    (λ a. by_test (eqb (kind_of step) 3) (λ r. rw (e, a, r) k) (λ r. rw (e, a, r) (omega arith))))

-- ---- the context root

-- i rows are passed, and none is the context root
abbrev pub NoContext : List ℕ → ℕ → ℕ → ℕ → Type 0
NoContext nodes depth from i =
    (run : List ValueRow) → in_context_rows run depth from (rows_of (drop from nodes)) ≡ in_context_rows run depth i (rows_of (drop i nodes))

module _ (nodes : List ℕ) (depth from i : ℕ) (passed : NoContext nodes depth from i) where
  -- no row is left
  pub context_none : length nodes ≤ i → ContextAt nodes depth from (length nodes)
  unfolding in_context_rows
  context_none h = record {
    meets = λ run. passed run ∙ rw (drop_of_length-le nodes h) (sym (remaining_past nodes (length nodes) run (omega arith)));
  }

  module _ (inside : i < length nodes) where
    next : (run : List ValueRow) → in_context_rows run depth from (rows_of (drop from nodes))
        ≡ in_context_rows run depth i (row_in (get_or nodes i 0) ∷ rows_of (drop (i + 1) nodes))
    next run = passed run ∙ ap (in_context_rows run depth i) (rows_left row_in nodes i inside)

    -- the next row is not below the depth
    pub context_above : depth_in (get_or nodes i 0) ≤ depth → ContextAt nodes depth from (length nodes)
    unfolding in_context_rows
    context_above h = record {
      meets = λ run. next run ∙ rw (le-leb (depth_in (get_or nodes i 0)) depth h) (sym (remaining_past nodes (length nodes) run (omega arith)));
    }

    module _ (below : depth < depth_in (get_or nodes i 0)) where
      -- it is the context root
      pub context_here : depth_in (get_or nodes i 0) ≡ suc depth → kind_of (step_in (get_or nodes i 0)) ≡ 4 → ContextAt nodes depth from i
      unfolding in_context_rows
      context_here e k = record {
        meets = λ run.
            next run
            ∙ rw (lt-leb (depth_in (get_or nodes i 0)) depth below, eq-eqb (depth_in (get_or nodes i 0)) (suc depth) e, eq-eqb (kind_of (step_in (get_or nodes i 0))) 4 k)
            (rw (← add-one i, ← e) (sym (remaining_below nodes i run inside)));
      }

      -- it is another root, or deeper
      pub context_other : (kind_of (step_in (get_or nodes i 0)) ≡ 4 → ⊥) → NoContext nodes depth from (i + 1)
      unfolding in_context_rows
      context_other k run =
          next run
          ∙ rw (lt-leb (depth_in (get_or nodes i 0)) depth below, ne_eqb (kind_of (step_in (get_or nodes i 0))) 4 k, and-false, add-one i)

      pub context_deeper : (depth_in (get_or nodes i 0) ≡ suc depth → ⊥) → NoContext nodes depth from (i + 1)
      unfolding in_context_rows
      context_deeper e run =
          next run
          ∙ rw (lt-leb (depth_in (get_or nodes i 0)) depth below, ne_eqb (depth_in (get_or nodes i 0)) (suc depth) e, add-one i)

-- ---- the other roots

-- what the roots from a row on ask for
abbrev pub asked : Request → ℕ → List ℕ → ℕ → List Event
asked request depth nodes i = at_roots request depth i (rows_of (drop i nodes))

-- The rows of the roots that are passed are written, and there is room for the others.
pub record Asking (nodes : List ℕ) (request : Request) (depth from : ℕ) (out : List ℕ) (to : ℕ) (out' : List ℕ) (i at : ℕ) : Type 0 where
  pub room : at + yields (asked request depth nodes i) ≤ length out
  pub gathered : Gathered (asked request depth nodes from) out to (asked request depth nodes i) out' at

pub asking_length :
    {nodes : List ℕ} {request : Request} {depth from : ℕ} {out : List ℕ} {to : ℕ} {out' : List ℕ} {i at : ℕ}
    → Asking nodes request depth from out to out' i at
    → length out' ≡ length out
asking_length sofar = wrote_length sofar.gathered.wrote

module _ {nodes : List ℕ} {request : Request} {depth from : ℕ} {out : List ℕ} {to : ℕ} {out' : List ℕ} {i at : ℕ}
    (sofar : Asking nodes request depth from out to out' i at) where
  -- no row is left
  pub asking_last : length nodes ≤ i → BatchWritten out to out' (batch_of (asked request depth nodes from)) (Some at)
  unfolding at_roots
  asking_last h = gathered_all (rw (drop_of_length-le nodes h) at sofar.gathered)

  module _ (inside : i < length nodes) where
    left : asked request depth nodes i ≡ at_roots request depth i (row_in (get_or nodes i 0) ∷ rows_of (drop (i + 1) nodes))
    left = ap (at_roots request depth i) (rows_left row_in nodes i inside)

    -- the next row is not below the depth
    pub asking_above : depth_in (get_or nodes i 0) ≤ depth → BatchWritten out to out' (batch_of (asked request depth nodes from)) (Some at)
    unfolding at_roots
    asking_above h =
        let none_left : asked request depth nodes i ≡ [] = left ∙ rw (le-leb (depth_in (get_or nodes i 0)) depth h) in
        gathered_all (rw none_left at sofar.gathered)

    module _ (below : depth < depth_in (get_or nodes i 0)) where
      -- it is a root that asks
      here_asks : asks_at depth (row_in (get_or nodes i 0)) ≡ true → asked request depth nodes i
          ≡ yielded (record { id = entity_named request (step_in (get_or nodes i 0)); node = i }) ∷ asked request depth nodes (i + 1)
      unfolding at_roots
      here_asks e = left ∙ rw (lt-leb (depth_in (get_or nodes i 0)) depth below, e, add-one i)

      pub asking_room : asks_at depth (row_in (get_or nodes i 0)) ≡ true → at < length out
      unfolding yields
      asking_room e = omega (arith, rw (here_asks e) at sofar.room)

      pub asking_row : asks_at depth (row_in (get_or nodes i 0)) ≡ true →
          Asking nodes request depth from out to (set out' at (entity_named request (step_in (get_or nodes i 0)) + i * ids)) (i + 1) (at + 1)
      unfolding yields
      asking_row e = record {
        room = omega (arith, rw (here_asks e) at sofar.room);
        gathered = gathered_row (record { id = entity_named request (step_in (get_or nodes i 0)); node = i }) _ (rw (here_asks e) at sofar.gathered);
      }

      -- it is none
      here_none : asks_at depth (row_in (get_or nodes i 0)) ≡ false → asked request depth nodes i ≡ asked request depth nodes (i + 1)
      unfolding at_roots
      here_none e = left ∙ rw (lt-leb (depth_in (get_or nodes i 0)) depth below, e, add-one i)

      pub asking_other : asks_at depth (row_in (get_or nodes i 0)) ≡ false → Asking nodes request depth from out to out' (i + 1) at
      asking_other e = record { room = rw (here_none e) at sofar.room; gathered = rw (here_none e) at sofar.gathered }

-- ---- one batch after another

batch_append : (a b : List Event) → batch_of (a ++ b) ≡ (batch_of a >>= (λ rows. in_front rows (batch_of b)))
unfolding batch_of
batch_append [] b = go (batch_of b)
  where
    go : (o : Option (List EntityRequest)) → o ≡ in_front [] o
    go none = refl
    go (some rows) = refl
batch_append (yielded row ∷ a) b = rw (batch_append a b) (go (batch_of a) (batch_of b))
  where
    go : (o p : Option (List EntityRequest)) → ((o >>= (λ rows. in_front rows p)) >>= (λ rows. some (row ∷ rows)))
        ≡ ((o >>= (λ rows. some (row ∷ rows))) >>= (λ rows. in_front rows p))
    go none p = refl
    go (some rows) none = refl
    go (some rows) (some more) = refl
batch_append (ancestor e ∷ a) b = batch_append a b
batch_append (bad ∷ a) b = refl

module _ (a b : List Event) (out : List ℕ) (to : ℕ) (out₁ : List ℕ) where
  -- 14 in the first is 14
  pub written_bad : BatchWritten out to out₁ (batch_of a) None → BatchWritten out to out₁ (batch_of (a ++ b)) None
  written_bad h = rw (batch_append a b) (go (batch_of a) h)
    where
      go : (o : Option (List EntityRequest)) → BatchWritten out to out₁ o None → BatchWritten out to out₁ (o >>= (λ rows. in_front rows (batch_of b))) None
      go none h = h
      go (some rows) h = absurd h

  -- the first is written, with as many rows as it meets
  pub written_end : (end : ℕ) → BatchWritten out to out₁ (batch_of a) (Some end) → (end ≡ to + yields a) × (length out₁ ≡ length out)
  written_end end h =
      by_option (batch_of a)
      (λ e. absurd (rw e at h))
      (λ rows e.
      let wrote : Wrote out to (map request_word rows) out₁ end = rw e at h in
      (omega (arith, wrote.after, length-map rows request_word, batch_length a rows e), wrote_length wrote))

  -- both are written
  pub written_both : (end : ℕ) (out₂ : List ℕ) (end₂ : ℕ) →
      BatchWritten out to out₁ (batch_of a) (Some end) → BatchWritten out₁ end out₂ (batch_of b) (Some end₂) →
      BatchWritten out to out₂ (batch_of (a ++ b)) (Some end₂)
  written_both end out₂ end₂ h k = rw (batch_append a b) (go (batch_of a) (batch_of b) h k)
    where
      go : (o p : Option (List EntityRequest)) → BatchWritten out to out₁ o (Some end) → BatchWritten out₁ end out₂ p (Some end₂) →
          BatchWritten out to out₂ (o >>= (λ rows. in_front rows p)) (Some end₂)
      go none p h k = absurd h
      go (some rows) none h k = absurd k
      go (some rows) (some more) h k = rw (map-append request_word rows more) (wrote_more h k)

-- ---- the first batch

roots_same : (asked : Asked) (context : List ℕ) (depth node : ℕ) (rows : List Row) →
    at_roots (request_with asked context) depth node rows ≡ at_roots (request_with asked []) depth node rows
unfolding at_roots
roots_same asked context depth node [] = refl
roots_same asked context depth node (row ∷ rows) = rw (roots_same asked context depth (suc node) rows)

-- what is met in the context, by its rows, and then the other roots
pub initial_rows : (asked : Asked) (context : List ℕ) (depth node : ℕ) (rows : List Row) →
    initial_entities (request_with asked context) depth node rows
    ≡ in_context_rows (value_rows_of context) depth node rows ++ at_roots (request_with asked []) depth node rows
initial_rows asked context depth node rows =
    rw (context_rows (request_with asked context) (value_rows_of context) depth node rows refl, roots_same asked context depth node rows)

-- ---- how many rows the first batch has: each node yields at most one

module _ (request : Request) (depth : ℕ) where
  roots_yields : (node : ℕ) (rows : List Row) → yields (at_roots request depth node rows) ≤ rows_below depth rows
  unfolding at_roots rows_below yields
  roots_yields node [] = omega arith
  roots_yields node (row ∷ rows) =
      let rest = roots_yields (suc node) rows in
      by_test (leb row.depth depth)
      (λ e. rw e (omega arith))
      (λ e. by_test (asks_at depth row) (λ a. rw (e, a) (omega (arith, rest))) (λ a. rw (e, a) (omega (arith, rest))))

  -- a walk below a root, and the roots behind it
  below_root :
      (kept : List (Option (List ValueRow))) (node next : ℕ) (rows : List Row)
      → yields (walk_rows (suc depth) kept node rows) + yields (at_roots request depth next rows) ≤ rows_below depth rows
  unfolding walk_rows at_roots rows_below yields
  below_root kept node next [] = omega arith
  below_root kept node next (row ∷ rows) =
      let here : MetRows = at_node_rows (row.depth - suc depth) (kept_rows_at kept (row.depth - suc (suc depth))) row rows node in
      let behind : List (Option (List ValueRow)) = take (row.depth - suc depth) kept ++ (here.kept ∷ []) in
      compared (suc depth) row.depth
      (λ deeper.
      rw (
        lt-leb row.depth (suc depth) deeper,
        lt-leb row.depth depth (omega arith),
        ne_eqb row.depth (suc depth) (λ e. omega arith),
        yields_append here.events (walk_rows (suc depth) behind (suc node) rows),
      )
      (omega (
        arith,
        one_node row rows node (row.depth - suc depth) (kept_rows_at kept (row.depth - suc (suc depth))),
        below_root behind (suc node) (suc next) rows,
      )))
      (λ level. rw (le-leb row.depth (suc depth) level) (omega (arith, roots_yields next (row ∷ rows))))

  first_yields :
      (run : List ValueRow) (node : ℕ) (rows : List Row)
      → yields (in_context_rows run depth node rows) + yields (at_roots request depth node rows) ≤ rows_below depth rows
  unfolding in_context_rows at_roots rows_below yields
  first_yields run node [] = omega arith
  first_yields run node (row ∷ rows) =
      let rest = first_yields run (suc node) rows in
      by_test (leb row.depth depth)
      (λ e. rw e (omega arith))
      (λ e.
      by_test (eqb row.depth (suc depth) && is_context_root row.step)
      (λ context. rw (e, context, context_asks row context) (omega (arith, below_root (some run ∷ []) (suc node) (suc node) rows)))
      (λ other. by_test (asks_at depth row) (λ a. rw (e, other, a) (omega (arith, rest))) (λ a. rw (e, other, a) (omega (arith, rest)))))
    where
      context_asks : (row : Row) → eqb row.depth (suc depth) && is_context_root row.step ≡ true → asks_at depth row ≡ false
      context_asks row e =
          let (here, root) = both_true (eqb row.depth (suc depth)) (is_context_root row.step) e in
          rw (here, root, or-true)

pub initial_yields : (asked : Asked) (context : List ℕ) (depth node : ℕ) (rows : List Row) →
    yields (initial_entities (request_with asked context) depth node rows) ≤ rows_below depth rows
initial_yields asked context depth node rows =
    rw (initial_rows asked context depth node rows, yields_append (in_context_rows (value_rows_of context) depth node rows) (at_roots (request_with asked []) depth node rows))
    (first_yields (request_with asked []) depth (value_rows_of context) node rows)
