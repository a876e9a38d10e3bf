-- Worked bounds that the checker computes, and a load that reaches them all: the bounds of K10 are tight.
use Rattle.std.specs.Prelude.{ℕ, ◌≡◌, refl, true, false, List, [], ◌∷◌, ◌++◌}
use Rattle.std.proofs.Math.Option.{Option, none, some}
use Rattle.rules.specs.Tries.{Row, step_of, request_of, same_list}
use Rattle.rules.specs.Listing.{read}
use Rattle.rules.specs.Values.{
  entity_id,
  no_attribute,
  attribute,
  Entity,
  attribute_in,
  put_attribute,
  merged_values,
  merged_attributes,
  spelled,
  spelled_elements,
  spelled_attributes,
  values_in,
  values_in_elements,
  values_in_attributes,
}
use Rattle.rules.specs.Loading.{
  Request,
  EntityRequest,
  walk_nodes,
  kept_at,
  has_child,
  in_context,
  at_roots,
  batch_of,
  entered,
  loaded_as,
  take_answers,
  summed,
  ancestors_requests,
  take_events,
  take_rows,
  take_batches,
  with_id,
}
use Rattle.rules.specs.LoadCalls.{nodes_ahead, entry_for, ancestors_to_ask, ended, Transcript, transcript, after_answers}
use Rattle.rules.specs.Trips.{
  all_fields,
  primaries,
  most_fields,
  batch_bound,
  TripBound,
  trip_bound,
  calls_batch,
  calls_answer,
  calls_ancestors,
  calls_ancestors_answer,
  Course,
  begun,
  goes_on,
}

-- The clinic's entry: principal.1, 7.2, resource.3, and `principal in resource.3`, whose two nodes are of an ancestors trie. Before it
-- an entry of two nodes stands, and behind it one with none.
abbrev nodes : List Row
nodes =
    read 1 (step_of 1 0) false
    ∷ read 2 1 false
    ∷ read 2 (step_of 3 0) false
    ∷ read 3 3 true
    ∷ read 1 (step_of 3 0) false
    ∷ read 2 3 false
    ∷ read 1 (step_of 5 7) false
    ∷ read 2 2 false
    ∷ []

abbrev manifest : List Row
manifest =
    read 0 (request_of 10 499 20) false
    ∷ read 1 (step_of 1 0) false
    ∷ read 2 1 false
    ∷ (read 0 (request_of 10 500 20) false ∷ (nodes ++ (read 0 (request_of 10 501 20) false ∷ [])))

abbrev bound : ℕ → ℕ → ℕ → TripBound
bound rows batches ancestors = record { rows = rows; batches = batches; ancestors = ancestors }

-- six of the eight nodes are primary ones, and the deepest of them has one field step
pub clinic_bound : trip_bound manifest (request_of 10 500 20) ≡ bound 6 2 1
unfolding trip_bound batch_bound primaries most_fields all_fields nodes_ahead entry_for
clinic_bound = refl

-- an empty entry, and none
pub empty_bound : trip_bound manifest (request_of 10 501 20) ≡ bound 0 0 1
unfolding trip_bound batch_bound primaries nodes_ahead entry_for
empty_bound = refl

pub no_bound : trip_bound manifest (request_of 10 502 20) ≡ bound 0 0 0
unfolding trip_bound entry_for
no_bound = refl

-- A load whose store answers each attribute with an entity asks for a row at every primary node: both bounds are Reached.
abbrev request : Request
request = record { type = request_of 10 500 20; principal = 7; resource = 9; context = no_attribute }

abbrev row : ℕ → ℕ → EntityRequest
row id node = record { id = id; node = node }

abbrev naming : ℕ → ℕ → Option Entity
naming f e = some (record { parents = []; attributes = attribute f (entity_id e) no_attribute })

abbrev first-batch : List EntityRequest
first-batch = row 7 0 ∷ row 9 4 ∷ row 7 6 ∷ []

abbrev second_batch : List EntityRequest
second_batch = row 30 1 ∷ row 31 5 ∷ row 32 7 ∷ []

abbrev answers : List (Option Entity)
answers = naming 1 30 ∷ naming 3 31 ∷ naming 2 32 ∷ []

abbrev absent : List (Option Entity)
absent = none ∷ none ∷ none ∷ []

-- so far: both batches handed out and answered
abbrev Reached : Transcript → ℕ → Type 0
Reached t calls = Course manifest request t (first-batch ∷ second_batch ∷ []) calls (record { batches = 2; rows = 6 })

both_answered : Reached (transcript ancestors_to_ask request 2 nodes (answers ++ absent) []) 0
unfolding nodes_ahead entry_for walk_nodes kept_at has_child in_context at_roots batch_of attribute_in after_answers take_answers summed entered put_attribute merged_values merged_attributes spelled spelled_elements spelled_attributes values_in values_in_elements values_in_attributes same_list
both_answered =
    let one = goes_on (begun _ refl) refl (calls_batch _ refl) in
    let two = goes_on one refl (calls_answer answers _ refl) in
    let three = goes_on two refl (calls_batch _ refl) in
    goes_on three refl (calls_answer absent _ refl)

-- and then the ancestors call
pub both_reached : Reached (transcript ended request 2 nodes (answers ++ absent) []) 1
unfolding nodes_ahead entry_for walk_nodes kept_at has_child in_context at_roots batch_of attribute_in after_answers take_answers summed entered put_attribute merged_values merged_attributes spelled spelled_elements spelled_attributes values_in values_in_elements values_in_attributes same_list ancestors_requests take_events take_rows take_batches with_id loaded_as
both_reached = goes_on (goes_on both_answered refl (calls_ancestors _ refl)) refl (calls_ancestors_answer [] _ refl)
