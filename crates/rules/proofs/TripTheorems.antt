-- Change request K10, 'Promise me the number of trips': what is promised of every load, on the definitions of Trips, Loading and
-- LoadCalls. Only the statements need be read. `Course manifest request t handed calls told` says that a load for the request has come to
-- the transcript t by calls that were not refused, whatever the store answered: `handed` are the batches that it handed out, `calls` is how
-- many ancestors calls it made, and `told` the counts that the last call reported. A call that is refused changes nothing, so all this
-- holds up to a refusal too.
use Rattle.std.specs.Prelude.{ℕ, ◌≤◌, ◌≡◌, refl, true, List, [], ◌∷◌, length}
use Rattle.std.proofs.Common.{arith}
use Rattle.std.proofs.Math.Option.{none, some}
use Rattle.rules.specs.Tries.{Row, ordered}
use Rattle.rules.specs.Loading.{done, Request, EntityRequest, Load, Loaded}
use Rattle.rules.specs.LoadCalls.{Entry, entry_for, Transcript, worked_out, ended, Counts}
use Rattle.rules.specs.Trips.{
  CallOf,
  Course,
  rows_handed,
  nodes_asked,
  Distinct,
  EachOf,
  Primary,
  primaries,
  batch_bound,
  bound_of,
  trip_bound,
  WithinBound,
  CountsWithin,
  WalkedOnce,
  ancestors_visits,
}
use Rattle.rules.proofs.TripLaws.{ancestors_once}
use Rattle.rules.proofs.CourseLaws.{course_told, course_ended, course_bound, course_nodes, call_within}

none_handed : (handed : List (List EntityRequest)) → length handed ≤ 0 → handed ≡ []
none_handed [] h = refl
none_handed (rows ∷ handed) h = absurd (omega arith)

module _ {manifest : List Row} {request : Request} {t : Transcript} {handed : List (List EntityRequest)} {calls : ℕ} {told : Counts} where
  -- 1. What a call reports is what was asked for: the batches handed out, and the rows in them.
  pub reported_is_asked :
      Course manifest request t handed calls told → (told.batches ≡ length handed) × (told.rows ≡ length (rows_handed handed))
  reported_is_asked course = course_told course

  -- Of a manifest whose rows are in listing order, as those of every lawful one are:
  module _ (order : ordered [] manifest ≡ true) (course : Course manifest request t handed calls told) where
    -- 2. Rows, batches and ancestors calls are within the bound of the manifest and the request type.
    pub trips_bounded : WithinBound (trip_bound manifest request.type) handed calls
    trips_bounded = course_bound course order

    -- 3. 'No trie node yields more than one row', over all batches
    pub no_node_twice : Distinct (nodes_asked (rows_handed handed))
    no_node_twice = (course_nodes course order).0

    -- and each row's node is one of the entry's primary trie: 'ancestors tries not counted'
    pub primary_nodes_only :
        (entry : Entry)
        → entry_for request.type 0 manifest ≡ some entry
        → EachOf (Primary (request.type ∷ []) entry.nodes) (nodes_asked (rows_handed handed))
    primary_nodes_only entry found = rw found at (course_nodes course order).1

    -- 4. 'Without an entry, or with an empty one, there are no batches'; without one there is no ancestors call either.
    pub no_entry_no_trip : entry_for request.type 0 manifest ≡ none → (handed ≡ []) × (calls ≡ 0)
    unfolding trip_bound
    no_entry_no_trip missing =
        let b : WithinBound (record { rows = 0; batches = 0; ancestors = 0 }) handed calls = rw (missing, trip_bound) at trips_bounded in
        (none_handed handed b.batches, omega (arith, b.ancestors))

    pub empty_entry_no_batch : (entry : Entry) → entry_for request.type 0 manifest ≡ some entry → entry.nodes ≡ [] → handed ≡ []
    unfolding trip_bound batch_bound primaries
    empty_entry_no_batch entry found empty = none_handed handed (rw (found, trip_bound, empty) at trips_bounded.batches)

  -- 5. 'The one ancestors call, made where there is an entry and no refusal before it': a load that has ended made it.
  pub ancestors_call_made :
      Course manifest request t handed calls told → t.turn ≡ ended → calls ≡ (trip_bound manifest request.type).ancestors
  ancestors_call_made course over = course_ended course over

-- 6. Whatever transcript a call is made on, a forged one too: where it tells of a load, the counts that the call reports are within the
-- bound of the nodes that the transcript holds.
pub reported_within :
    (t : Transcript) (load : Load)
    → ordered (t.request.type ∷ []) t.nodes ≡ true
    → worked_out t ≡ done load
    → {u : Transcript} {more : List (List EntityRequest)} {call : ℕ} {tells : Counts}
    → CallOf t load u more call tells
    → CountsWithin (bound_of t.request.type t.nodes) tells
reported_within t load order worked call = call_within t load order worked call

-- 7. 'One ancestors walk visits no node of its ancestors trie twice', for any nodes, loaded entities and request.
pub no_ancestors_node_twice :
    (request : Request) (nodes : List Row) (slice : List Loaded) (place : ℕ) (row : EntityRequest)
    → WalkedOnce nodes row.node (ancestors_visits request nodes slice place row)
no_ancestors_node_twice = ancestors_once
