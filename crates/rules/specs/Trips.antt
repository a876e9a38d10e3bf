-- Change request K10 ('Promise me the number of trips'): the primary trie of an entry, what its nodes number, and the bound on trips that
-- this gives. TripTheorems has what is promised of it.
use Rattle.std.specs.Prelude.{ℕ, zero, suc, ◌+◌, ◌-◌, ◌≤◌, ◌<◌, max, ◌≡◌, Bool, true, false, cond, not, ◌&&◌, List, [], ◌∷◌, ◌++◌, map, leb, eqb, length, take, drop}
use Rattle.std.proofs.Math.Option.{Option, none, some}
use Rattle.rules.specs.Numbers.{most_steps}
use Rattle.rules.specs.Tries.{Row, at}
use Rattle.rules.specs.Values.{Attributes, Entity}
use Rattle.rules.specs.Typing.{is_field}
use Rattle.rules.specs.Loading.{
  EntityRequest,
  Event,
  yielded,
  ancestor,
  bad,
  Load,
  trips_for,
  kept_at,
  at_node,
  LoadAnswer,
  done,
  refused_at,
  counted,
  Request,
  is_context_root,
  at_roots,
  initial_entities,
  remaining_entities,
  Loaded,
  loaded_as,
  Wanted,
  take_events,
  take_rows,
}
use Rattle.rules.specs.LoadCalls.{
  entry_for,
  Transcript,
  worked_out,
  Counts,
  Called,
  begin_load,
  hand_batch,
  take_batch,
  ask_ancestors,
  take_ancestors,
  result_of,
}

-- Each of a list, and each two of a list, the earlier first.
pub data EachOf {A : Type 0} (P : A → Type 0) : List A → Type 0 where
  none_left : EachOf P []
  and_each : {x : A} {xs : List A} → P x → EachOf P xs → EachOf P (x ∷ xs)

pub data Pairs {A : Type 0} (R : A → A → Type 0) : List A → Type 0 where
  no_pair : Pairs R []
  with : {x : A} {xs : List A} → EachOf (R x) xs → Pairs R xs → Pairs R (x ∷ xs)

-- no number twice
abbrev pub Distinct : List ℕ → Type 0
Distinct xs = Pairs (λ m n. m ≡ n → ⊥) xs

-- the nodes of rows that are asked for
abbrev pub nodes_asked : List EntityRequest → List ℕ
nodes_asked rows = map (λ row. row.node) rows

-- A node is of the primary trie, and of no ancestors trie, where all steps of its position after the first are fields. Its place is
-- its request type and then its position.
unfoldable pub all_fields : List ℕ → Bool
all_fields [] = true
all_fields (step ∷ steps) = is_field step && all_fields steps

abbrev pub is_primary : List ℕ → Bool
is_primary place = all_fields (drop 2 place)

-- the field steps of a primary node: all but its root
abbrev pub field_steps : List ℕ → ℕ
field_steps place = length (drop 2 place)

-- the place of the node of a number among rows after the place s
unfoldable pub place_at : List ℕ → List Row → ℕ → List ℕ
place_at s [] n = []
place_at s (row ∷ rows) zero = at s row
place_at s (row ∷ rows) (suc n) = place_at (at s row) rows n

-- the nodes of the primary trie, counted
unfoldable pub primaries : List ℕ → List Row → ℕ
primaries s [] = 0
primaries s (row ∷ rows) = let rest : ℕ = primaries (at s row) rows in cond (is_primary (at s row)) (suc rest) rest

-- the largest number of field steps at any of them
unfoldable pub most_fields : List ℕ → List Row → ℕ
most_fields s [] = 0
most_fields s (row ∷ rows) =
    let rest : ℕ = most_fields (at s row) rows in
    cond (is_primary (at s row)) (max (field_steps (at s row)) rest) rest

-- What a load for a request type takes at most: rows and batches, and the ancestors call on top.
pub record TripBound : Type 0 where
  pub rows : ℕ
  pub batches : ℕ
  pub ancestors : ℕ

-- 'batches never exceed one more than the largest number of field steps at any primary node'; with no node there are none
unfoldable pub batch_bound : List ℕ → List Row → ℕ
batch_bound s [] = 0
batch_bound s (row ∷ rows) = most_fields s (row ∷ rows) + 1

-- the bound for a manifest and a request type: 'Without an entry, or with an empty one, there are no batches. The one ancestors call,
-- made where there is an entry and no refusal before it, comes on top.'
abbrev pub no_trips : TripBound
no_trips = record { rows = 0; batches = 0; ancestors = 0 }

abbrev pub bound_of : ℕ → List Row → TripBound
bound_of type nodes = record { rows = primaries (type ∷ []) nodes; batches = batch_bound (type ∷ []) nodes; ancestors = 1 }

unfoldable pub trip_bound : List Row → ℕ → TripBound
trip_bound manifest type = elim (entry_for type 0 manifest) [ none ↦ no_trips | some entry ↦ bound_of type entry.nodes ]

-- A call of a load that is not refused: the transcript that it leaves, the batches that it hands out, the ancestors calls that it is, and
-- the counts that it reports. What the store answers is any answers and any sets.
pub data CallOf (t : Transcript) (load : Load) : Transcript → List (List EntityRequest) → ℕ → Counts → Type 0 where
  calls_batch : (c : Called (List EntityRequest)) → hand_batch t load ≡ done c → CallOf t load c.left (c.out ∷ []) 0 c.counts
  calls_answer :
      (answers : List (Option Entity)) (c : Called (List EntityRequest))
      → take_batch t load answers ≡ done c
      → CallOf t load c.left [] 0 c.counts
  calls_ancestors : (c : Called (List (List ℕ))) → ask_ancestors t load ≡ done c → CallOf t load c.left [] 1 c.counts
  calls_ancestors_answer :
      (sets : List (List ℕ)) (c : Called ℕ)
      → take_ancestors t load sets ≡ done c
      → CallOf t load c.left [] 0 c.counts
  calls_result : (c : Called (List Loaded)) → result_of t load ≡ done c → CallOf t load c.left [] 0 c.counts

-- The course of a load for a request, from begin on, call after call, as far as it has come: the batches handed out, the ancestors calls
-- made, and the counts last reported. A refused call changes nothing, so what it may follow is a course too.
pub data Course (manifest : List Row) (request : Request) : Transcript → List (List EntityRequest) → ℕ → Counts → Type 0 where
  begun : (t : Transcript) → begin_load manifest request ≡ done t → Course manifest request t [] 0 (record { batches = 0; rows = 0 })
  goes_on :
      {t u : Transcript} {load : Load} {handed more : List (List EntityRequest)} {calls call : ℕ} {told tells : Counts}
      → Course manifest request t handed calls told
      → worked_out t ≡ done load
      → CallOf t load u more call tells
      → Course manifest request u (handed ++ more) (calls + call) tells

-- all rows of some batches
unfoldable pub rows_handed : List (List EntityRequest) → List EntityRequest
rows_handed [] = []
rows_handed (rows ∷ batches) = rows ++ rows_handed batches

-- what has been asked is within a bound
pub record WithinBound (bound : TripBound) (handed : List (List EntityRequest)) (calls : ℕ) : Type 0 where
  pub rows : length (rows_handed handed) ≤ bound.rows
  pub batches : length handed ≤ bound.batches
  pub ancestors : calls ≤ bound.ancestors

-- and so are the counts that a call reports
abbrev pub CountsWithin : TripBound → Counts → Type 0
CountsWithin bound counts = (counts.batches ≤ bound.batches) × (counts.rows ≤ bound.rows)

-- a number is that of a primary node
pub record Primary (s : List ℕ) (nodes : List Row) (n : ℕ) : Type 0 where
  pub is-node : n < length nodes
  pub of_fields : is_primary (place_at s nodes n) ≡ true

-- What K10 promises of a load that has come so far, for any answers: no node has yielded two rows, and every row's node is a primary
-- one; rows asked, with those that wait, are at most the primary nodes; batches asked, with the one that waits, are at most one more
-- than the most field steps.
pub record BoundedTrips (s : List ℕ) (nodes : List Row) (sofar : Load) : Type 0 where
  pub once : Distinct (nodes_asked (sofar.asked ++ sofar.waiting))
  pub primary : EachOf (Primary s nodes) (nodes_asked (sofar.asked ++ sofar.waiting))
  pub all_rows : sofar.rows + length sofar.waiting ≤ primaries s nodes
  pub all_batches : sofar.batches + trips_for sofar.waiting ≤ most_fields s nodes + 1
  pub rows_each : sofar.batches + trips_for sofar.waiting ≤ sofar.rows + length sofar.waiting

-- How many of some rows lie below a depth, before the first that does not; and the number after a node's subtree.
unfoldable pub rows_below : ℕ → List Row → ℕ
rows_below depth [] = 0
rows_below depth (row ∷ rows) = let rest : ℕ = rows_below depth rows in cond (leb row.depth depth) 0 (suc rest)

abbrev pub past_row : ℕ → List Row → ℕ
past_row n [] = suc n
past_row n (row ∷ rows) = suc n + rows_below row.depth rows

abbrev pub past_subtree : List Row → ℕ → ℕ
past_subtree nodes n = past_row n (drop n nodes)

-- the nodes that a walk finds
unfoldable pub found_in : List Event → List ℕ
found_in [] = []
found_in (yielded row ∷ events) = row.node ∷ found_in events
found_in (ancestor e ∷ events) = found_in events
found_in (bad ∷ events) = found_in events

-- The nodes at which a walk looks: fields below something kept.
abbrev pub looks : Option Attributes → Row → Bool
looks none row = false
looks (some members) row = is_field row.step

unfoldable pub visits : ℕ → List (Option Attributes) → ℕ → List Row → List ℕ
visits depth kept node [] = []
visits depth kept node (row ∷ rows) =
    let above : Option Attributes = kept_at kept (row.depth - suc depth) in
    let rest : List ℕ = visits depth (take (row.depth - depth) kept ++ ((at_node above row rows node).kept ∷ [])) (suc node) rows in
    cond (leb row.depth depth) [] (cond (looks above row) (node ∷ rest) rest)

abbrev pub remaining_visits : List Row → ℕ → Attributes → List ℕ
remaining_visits nodes node attributes =
    elim (drop node nodes) [ [] ↦ [] | row ∷ rows ↦ visits row.depth (some attributes ∷ []) (suc node) rows ]

-- The nodes at which an ancestors walk looks: the context root and below it, the other roots, and then batch by batch, up to a refusal.
unfoldable pub context_visits : Request → ℕ → ℕ → List Row → List ℕ
context_visits request depth node [] = []
context_visits request depth node (row ∷ rows) =
    let rest : List ℕ = context_visits request depth (suc node) rows in
    cond (leb row.depth depth) []
    (cond (eqb row.depth (suc depth) && is_context_root row.step)
    (node ∷ visits (suc depth) (some request.context ∷ []) (suc node) rows)
    rest)

abbrev pub initial_visits : Request → ℕ → ℕ → List Row → List ℕ
initial_visits request depth node rows = context_visits request depth node rows ++ found_in (at_roots request depth node rows)

unfoldable pub row_visits : List Row → List Loaded → List EntityRequest → List ℕ
row_visits nodes slice [] = []
row_visits nodes slice (row ∷ rows) =
    (elim (loaded_as row.id slice) [ none ↦ [] | some value ↦ remaining_visits nodes row.node value.attributes ])
    ++ row_visits nodes slice rows

-- the nodes that rows find
unfoldable pub row_finds : List Row → List Loaded → List EntityRequest → List ℕ
row_finds nodes slice [] = []
row_finds nodes slice (row ∷ rows) =
    (elim (loaded_as row.id slice) [ none ↦ [] | some value ↦ found_in (remaining_entities nodes row.node value.attributes) ])
    ++ row_finds nodes slice rows

abbrev pub when_done : {A : Type 0} → LoadAnswer A → (A → List ℕ) → List ℕ
when_done (done a) next = next a
when_done (refused_at number place) next = []
when_done (counted expected got) next = []

unfoldable pub batch_visits : ℕ → List Row → List Loaded → ℕ → Wanted → List ℕ
batch_visits zero nodes slice place wanted = []
batch_visits (suc left) nodes slice place wanted =
    row_visits nodes slice wanted.next
    ++ when_done (take_rows nodes slice place wanted.next (record { ids = wanted.ids; next = [] })) (batch_visits left nodes slice place)

abbrev pub ancestors_visits : Request → List Row → List Loaded → ℕ → EntityRequest → List ℕ
ancestors_visits request nodes slice place row =
    elim (drop row.node nodes) [
      | [] ↦ []
      | node ∷ rows ↦
          initial_visits request node.depth (suc row.node) rows
          ++ when_done
          (take_events place (initial_entities request node.depth (suc row.node) rows) (record { ids = []; next = [] }))
          (batch_visits most_steps nodes slice place)
    ]

-- A node of an ancestors trie: at or below a root of a number from `from` on, whose subtree ends before `to`, one deeper than `depth`.
abbrev pub root_under : ℕ → List Row → Bool
root_under depth [] = false
root_under depth (row ∷ rows) = eqb row.depth (suc depth) && not (is_field row.step)

pub record Under (nodes : List Row) (depth from to n : ℕ) : Type 0 where
  pub root : ℕ
  pub is-root : root_under depth (drop root nodes) ≡ true
  pub low : from ≤ root
  pub high : past_subtree nodes root ≤ to
  pub first : root ≤ n
  pub last : past_subtree nodes n ≤ past_subtree nodes root

abbrev pub depth_of : List Row → ℕ
depth_of [] = 0
depth_of (row ∷ rows) = row.depth

-- What K10 promises of one ancestors walk: it looks at no node twice, and only at nodes of the ancestors trie of its row's node.
pub record WalkedOnce (nodes : List Row) (node : ℕ) (seen : List ℕ) : Type 0 where
  pub once : Distinct seen
  pub is-node : EachOf (Under nodes (depth_of (drop node nodes)) (suc node) (past_subtree nodes node)) seen
