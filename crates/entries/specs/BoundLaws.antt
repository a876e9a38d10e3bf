-- Laws of the bound on trips: one pass over an entry's nodes finds it. No contract cites this file.
use Rattle.std.specs.Prelude.{ℕ, zero, suc, ◌+◌, ◌-◌, ◌^◌, ◌≤◌, ◌<◌, max, ◌≡◌, refl, true, false, cond, ◌&&◌, ltb, eqb, length, drop, get_or}
use Rattle.std.proofs.Common.{arith, sym, ap, ◌∙◌, get_or-drop, ltb-true, ltb-false, le-leb}
use Rattle.std.proofs.Math.Bool.{and-eq-true_iff}
use Rattle.std.proofs.lemmas.Bool.{false≢true, eqb-false, lt-leb}
use mathlib.Core.List.{List, [], ◌∷◌, nil≢cons, tail-eq_of_cons-eq}
use Rattle.std.proofs.Math.Option.{none, some}
use Rattle.std.proofs.Math.ListN.{length-drop}
use Rattle.rules.specs.Facts.{by_test, both_true}
use Rattle.rules.specs.Tries.{Row, is_entry, at, ordered, manifest}
use Rattle.rules.proofs.TrieLaws.{Ordered, ordered_true, length_at, step_at, above_at}
use Rattle.rules.specs.Typing.{is_field}
use Rattle.rules.specs.LoadCalls.{Entry, nodes_ahead, entry_for}
use Rattle.rules.specs.Trips.{
  TripBound as RulesBound,
  all_fields,
  is_primary,
  field_steps,
  primaries,
  most_fields,
  batch_bound,
  bound_of,
  no_trips,
  trip_bound,
}
use Rattle.rules.proofs.TripLaws.{entry_in_order}
use Rattle.rows.specs.States.{lawful_state, rows_in, words_of}
use Rattle.rows.specs.declared.Kind.TheVariants.{Manifest}
use Rattle.entries.specs.Bounds.{NodesOf, told, trip_bound_in}
use Rattle.words.specs.Replies.{Refused}
use Rattle.std.specs.Prelude.{Ok}

-- Whether a place is a primary node's, by each of its steps behind the root.

all-fields : (steps : List ℕ) → ((j : ℕ) → j < length steps → is_field (get_or steps j 0) ≡ true) → all_fields steps ≡ true
unfolding all_fields
all-fields [] h = refl
all-fields (step ∷ steps) h =
    (and-eq-true_iff (is_field step) (all_fields steps)).1 (h 0 (omega arith), all-fields steps (λ j less. h (suc j) (omega arith)))

field_at : (steps : List ℕ) (j : ℕ) → all_fields steps ≡ true → j < length steps → is_field (get_or steps j 0) ≡ true
unfolding all_fields
field_at [] j h less = absurd (omega arith)
field_at (step ∷ steps) zero h less = (both_true (is_field step) (all_fields steps) h).0
field_at (step ∷ steps) (suc j) h less = field_at steps j (both_true (is_field step) (all_fields steps) h).1 (omega arith)

is-primary :
    (place : List ℕ) → ((j : ℕ) → 2 ≤ j → j < length place → is_field (get_or place j 0) ≡ true) → is_primary place ≡ true
is-primary place h =
    all-fields (drop 2 place)
    (λ j less. rw (get_or-drop 2 place j 0) (h (2 + j) (omega arith) (omega (arith, length-drop 2 place))))

not_primary : (place : List ℕ) (j : ℕ) → 2 ≤ j → j < length place → is_field (get_or place j 0) ≡ false → is_primary place ≡ false
not_primary place j behind less other = by_test (is_primary place) (λ e. absurd (false≢true (sym other ∙ there e))) (λ e. e)
  where
    there : is_primary place ≡ true → is_field (get_or place j 0) ≡ true
    there e =
        let same : 2 + (j - 2) ≡ j = omega arith in
        rw (get_or-drop 2 place (j - 2) 0, same) at (field_at (drop 2 place) (j - 2) e (omega (arith, length-drop 2 place)))

-- The first n steps of a place lead to primary nodes, the request type counted, and the step behind them, if there is one, does not.
pub record Led (place : List ℕ) (n : ℕ) : Type 0 where
  pub fields_so_far : (j : ℕ) → 2 ≤ j → j < n → is_field (get_or place j 0) ≡ true
  pub stopped : n < length place → (2 ≤ n) × (is_field (get_or place n 0) ≡ false)

-- one more than the most field steps, or 0 where there is no primary node
unfoldable pub most_deep : List ℕ → List Row → ℕ
most_deep s [] = 0
most_deep s (row ∷ rows) =
    let rest : ℕ = most_deep (at s row) rows in
    cond (is_primary (at s row)) (max (field_steps (at s row) + 1) rest) rest

most-deep : (s : List ℕ) (rows : List Row) → most_fields s rows + 1 ≡ max 1 (most_deep s rows)
unfolding most_fields most_deep
most-deep s [] = refl
most-deep s (row ∷ rows) =
    by_test (is_primary (at s row))
    (λ e. rw e (omega (arith, most-deep (at s row) rows)))
    (λ e. rw e (most-deep (at s row) rows))

-- nodes with no entry among them: the first is none, and the others have none
no_entries : (row : Row) (rows : List Row) → nodes_ahead (row ∷ rows) ≡ row ∷ rows → (1 ≤ row.depth) × (nodes_ahead rows ≡ rows)
unfolding nodes_ahead
no_entries row rows h =
    by_test (is_entry row)
    (λ e. absurd (nil≢cons (rw e at h)))
    (λ e. (omega (arith, eqb-false row.depth 0 e), tail-eq_of_cons-eq (rw e at h)))

-- One pass over an entry's nodes: where it has come to, what the nodes that are left add to what it has found.
pub record Bounding (most : RulesBound) (nodes : List Row) (primary rows batches : ℕ) : Type 0 where
  pub last : List ℕ
  pub in_order : Ordered last nodes
  pub no_entry : nodes_ahead nodes ≡ nodes
  pub led : Led last primary
  pub all_rows : rows + primaries last nodes ≡ most.rows
  pub all_batches : max batches (most_deep last nodes) ≡ most.batches

-- before the first node
pub bounding_first : (request : ℕ) (nodes : List Row) → NodesOf request nodes → Bounding (bound_of request nodes) nodes 1 0 0
unfolding batch_bound most_deep Ordered
bounding_first request nodes h = record {
  last = request ∷ [];
  in_order = ordered_true (request ∷ []) nodes h.in_order;
  no_entry = h.no_entry;
  led = record { fields_so_far = λ j behind less. absurd (omega arith); stopped = λ less. absurd (omega arith) };
  all_rows = omega arith;
  all_batches = go nodes h;
}
  where
    go : (nodes : List Row) → NodesOf request nodes → max 0 (most_deep (request ∷ []) nodes) ≡ batch_bound (request ∷ []) nodes
    go [] h = refl
    go (row ∷ rows) h =
        let deep = (no_entries row rows h.no_entry).0 in
        let near = (ordered_true (request ∷ []) (row ∷ rows) h.in_order).1.near in
        let root : is_primary (at (request ∷ []) row) ≡ true =
        is-primary (at (request ∷ []) row) (λ j behind less. absurd (omega (arith, length_at (request ∷ []) row near))) in
        let some_node : 1 ≤ most_deep (request ∷ []) (row ∷ rows) = rw root (omega arith) in
        omega (arith, most-deep (request ∷ []) (row ∷ rows))

-- behind the last node
pub bounding_last :
    {most : RulesBound} {primary rows batches : ℕ}
    → Bounding most [] primary rows batches
    → (rows ≡ most.rows) × (batches ≡ most.batches)
unfolding primaries most_deep
bounding_last q = (omega (arith, q.all_rows), omega (arith, q.all_batches))

-- one node more
module _
    {most : RulesBound}
    {row : Row}
    {nodes : List Row}
    {primary rows batches : ℕ}
    (q : Bounding most (row ∷ nodes) primary rows batches)
  where
    near : row.depth ≤ length q.last
    unfolding Ordered
    near = q.in_order.1.near

    deep : 1 ≤ row.depth
    deep = (no_entries row nodes q.no_entry).0

    size : length (at q.last row) ≡ row.depth + 1
    size = length_at q.last row near

    -- down to the node its place has the steps of the place before
    above : (n : ℕ) → n ≤ primary → n ≤ row.depth → (j : ℕ) → 2 ≤ j → j < n → is_field (get_or (at q.last row) j 0) ≡ true
    above n few no_deeper j behind less =
        rw (above_at q.last row j near (omega arith)) (q.led.fields_so_far j behind (omega arith))

    -- a node that is no primary one adds nothing
    pass : (n : ℕ) → is_primary (at q.last row) ≡ false → Led (at q.last row) n → Bounding most nodes n rows batches
    unfolding Ordered primaries most_deep
    pass n other led = record {
      last = at q.last row;
      in_order = q.in_order.3;
      no_entry = (no_entries row nodes q.no_entry).1;
      led = led;
      all_rows = rw other at q.all_rows;
      all_batches = rw other at q.all_batches;
    }

    -- a node below one that is no primary node
    pub bounding_below : primary < row.depth → Bounding most nodes primary rows batches
    bounding_below h =
        let (behind, other) = q.led.stopped (omega (arith, near)) in
        let there : is_field (get_or (at q.last row) primary 0) ≡ false = rw (above_at q.last row primary near h) other in
        pass primary (not_primary (at q.last row) primary behind (omega (arith, size)) there)
        (record { fields_so_far = above primary (omega arith) (omega arith); stopped = λ _. (behind, there) })

    -- a node below a primary one, by no field
    pub bounding_other :
        row.depth ≤ primary → (row.depth ≡ 1 → ⊥) → is_field row.step ≡ false → Bounding most nodes row.depth rows batches
    bounding_other h no-root other =
        let there : is_field (get_or (at q.last row) row.depth 0) ≡ false = rw (step_at q.last row near) other in
        pass row.depth
        (not_primary (at q.last row) row.depth (omega (arith, deep)) (omega (arith, size)) there)
        (record { fields_so_far = above row.depth h (omega arith); stopped = λ _. (omega (arith, deep), there) })

    -- a primary node: a root, or a field below a primary node
    module _ (h : row.depth ≤ primary) (Led-on : 2 ≤ row.depth → is_field row.step ≡ true) where
      fields_down : (j : ℕ) → 2 ≤ j → j < row.depth + 1 → is_field (get_or (at q.last row) j 0) ≡ true
      fields_down j behind less =
          by_test (ltb j row.depth)
          (λ e. above row.depth h (omega arith) j behind (ltb-true j row.depth e))
          (λ e.
          let own : j ≡ row.depth = omega (arith, ltb-false j row.depth e) in
          rw (own, step_at q.last row near) (Led-on (omega arith)))

      pub bounding_primary :
          (deepest : ℕ) → deepest ≡ max batches row.depth → Bounding most nodes (row.depth + 1) (rows + 1) deepest
      unfolding Ordered primaries most_deep
      bounding_primary deepest larger =
          let primary-node = is-primary (at q.last row) (λ j behind less. fields_down j behind (omega (arith, size))) in
          let steps : field_steps (at q.last row) + 1 ≡ row.depth = omega (arith, length-drop 2 (at q.last row), size, deep) in
          record {
            last = at q.last row;
            in_order = q.in_order.3;
            no_entry = (no_entries row nodes q.no_entry).1;
            led = record { fields_so_far = fields_down; stopped = λ less. absurd (omega (arith, size)) };
            all_rows = omega (arith, rw primary-node at q.all_rows);
            all_batches = omega (arith, rw (primary-node, steps) at q.all_batches);
          }

-- The nodes of an entry of rows in order: no entry is among them.

ahead_once : (rows : List Row) → nodes_ahead (nodes_ahead rows) ≡ nodes_ahead rows
unfolding nodes_ahead
ahead_once [] = refl
ahead_once (row ∷ rows) = by_test (is_entry row) (λ e. rw e) (λ e. rw (e, e) (ap (λ more. row ∷ more) (ahead_once rows)))

entry_ends : (request n : ℕ) (rows : List Row) (entry : Entry) → entry_for request n rows ≡ some entry → nodes_ahead entry.nodes ≡ entry.nodes
unfolding entry_for
entry_ends request n [] entry e = let z : ◌≡◌ {A = ℕ} 0 1 = cc in absurd (omega arith)
entry_ends request n (row ∷ rows) entry e =
    by_test (is_entry row)
    (λ t.
    by_test (eqb row.step request)
    (λ u. let same : entry ≡ record { first = n; nodes = nodes_ahead rows } = cc (rw (t, u) at e) in rw same (ahead_once rows))
    (λ u. entry_ends request n rows entry (rw (t, u) at e)))
    (λ t. entry_ends request (suc n) rows entry (rw t at e))

pub found_nodes :
    (request : ℕ) (rows : List Row) (entry : Entry)
    → ordered [] rows ≡ true
    → entry_for request 0 rows ≡ some entry
    → NodesOf request entry.nodes
found_nodes request rows entry order e =
    record { in_order = entry_in_order request rows entry order e; no_entry = entry_ends request 0 rows entry e }

-- the bound with an entry and without
pub bound_none : (rows : List Row) (request : ℕ) → entry_for request 0 rows ≡ none → trip_bound rows request ≡ no_trips
unfolding trip_bound
bound_none rows request e = rw (e, trip_bound)

pub bound_some :
    (rows : List Row) (request : ℕ) (entry : Entry)
    → entry_for request 0 rows ≡ some entry
    → trip_bound rows request ≡ bound_of request entry.nodes
unfolding trip_bound
bound_some rows request entry e = rw (e, trip_bound)

-- the operation, by its tests
module _ (lent : List ℕ) (request : ℕ) where
  pub bound_short : length lent < words_of Manifest → trip_bound_in lent request ≡ Refused 31 0
  unfolding trip_bound_in
  bound_short h = rw (lt-leb (words_of Manifest) (length lent) h)

  module _ (long : words_of Manifest ≤ length lent) where
    pub bound_unlawful : (lawful_state manifest lent && ltb request (2 ^ 48)) ≡ false → trip_bound_in lent request ≡ Refused 1 0
    unfolding trip_bound_in
    bound_unlawful e = rw (le-leb (words_of Manifest) (length lent) long, e)

    pub bound_lawful :
        (lawful_state manifest lent && ltb request (2 ^ 48)) ≡ true
        → trip_bound_in lent request ≡ Ok (told (trip_bound (rows_in lent) request))
    unfolding trip_bound_in
    bound_lawful e = rw (le-leb (words_of Manifest) (length lent) long, e)
