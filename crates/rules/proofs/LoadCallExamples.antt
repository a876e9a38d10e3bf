-- The clinic's load as calls, one after the other, that the checker computes: the stall, and how the session goes on.
use Rattle.std.specs.Prelude.{ℕ, ◌≡◌, refl, true, false, List, [], ◌∷◌, ◌++◌}
use Rattle.std.proofs.Math.Option.{Option, none, some}
use Rattle.rules.specs.Tries.{Row, step_of, request_of, same_list}
use Rattle.rules.specs.Listing.{read}
use Rattle.rules.specs.Values.{Value, plain, entity_id, no_attribute, attribute, Entity, attribute_in, put_attribute, merged_values, merged_attributes, spelled, spelled_elements, spelled_attributes, values_in, values_in_elements, values_in_attributes}
use Rattle.rules.specs.Loading.{LoadAnswer, done, refused_at, counted, ◌then◌, Request, EntityRequest, Load, loaded, walk_nodes, kept_at, has_child, in_context, at_roots, batch_of, entered, loaded_as, take_answers, summed, ancestors_requests, take_events, take_rows, take_batches, with_id, with_ids, with_parents, with_ancestors}
use Rattle.rules.specs.LoadCalls.{nodes_ahead, entry_for, Turn, batch_waits, answers_awaited, ancestors_to_ask, ancestors_awaited, ended, Transcript, transcript, after_answers, worked_out, lawful_transcript, Called, called, begin_load, hand_batch, take_batch, ask_ancestors, take_ancestors, result_of}

-- The entry of the stall (LoadingExamples), behind another entry of two nodes.
abbrev nodes : List Row
nodes =
    read 1 (step_of 1 0) false
    ∷ read 2 1 false
    ∷ read 2 (step_of 3 0) false
    ∷ read 3 3 true
    ∷ read 1 (step_of 3 0) false
    ∷ read 2 3 false
    ∷ read 1 (step_of 5 7) false
    ∷ read 2 2 false
    ∷ []

abbrev manifest : List Row
manifest =
    read 0 (request_of 10 499 20) false
    ∷ read 1 (step_of 1 0) false
    ∷ read 2 1 false
    ∷ (read 0 (request_of 10 500 20) false ∷ (nodes ++ (read 0 (request_of 10 501 20) false ∷ [])))

abbrev request : ℕ → Request
request action = record { type = request_of 10 action 20; principal = 7; resource = 9; context = no_attribute }

abbrev copy : List ℕ → ℕ → Value → Option Entity
copy parents f value = some (record { parents = parents; attributes = attribute f value no_attribute })

abbrev row : ℕ → ℕ → EntityRequest
row id node = record { id = id; node = node }

-- a call on a transcript: the load is worked out first
abbrev calling : {Out : Type 0} → (Transcript → Load → LoadAnswer (Called Out)) → Transcript → LoadAnswer (Called Out)
calling call t = worked_out t then (λ load. call t load)

abbrev at : Turn → List (Option Entity) → List (List ℕ) → Transcript
at turn answers sets = transcript turn (request 500) 2 nodes answers sets

-- her two copies with the same parents, and with one parent more
abbrev same : List (Option Entity)
same = copy (1 ∷ []) 1 (plain 5) ∷ copy [] 3 (entity_id 4) ∷ copy (1 ∷ []) 2 (plain 6) ∷ []

abbrev differing : List (Option Entity)
differing = copy (1 ∷ []) 1 (plain 5) ∷ copy [] 3 (entity_id 4) ∷ copy (1 ∷ 2 ∷ []) 2 (plain 6) ∷ []

-- begin: the entry is the second, so its nodes are numbered from 2; a batch waits
pub begins : begin_load manifest (request 500) ≡ done (at batch_waits [] [])
unfolding nodes_ahead entry_for walk_nodes kept_at has_child in_context at_roots batch_of attribute_in
begins = refl

-- 'No entry: an empty slice, no trip.' 'An entry with no nodes': the ancestors call is made even with no rows.
pub no_entry : begin_load manifest (request 502) ≡ done (transcript ended (request 502) 0 [] [] [])
unfolding entry_for
no_entry = refl

pub empty_entry : begin_load manifest (request 501) ≡ done (transcript ancestors_to_ask (request 501) 10 [] [] [])
unfolding nodes_ahead entry_for walk_nodes kept_at has_child in_context at_roots batch_of attribute_in
empty_entry = refl

-- batch: the rows that wait, counted once they are handed out; a second time it is 16
pub hands :
    calling hand_batch (at batch_waits [] [])
    ≡ done (called (at answers_awaited [] []) (row 7 0 ∷ row 9 4 ∷ row 7 6 ∷ []) (record { batches = 1; rows = 3 }))
unfolding walk_nodes kept_at has_child in_context at_roots batch_of attribute_in after_answers
hands = refl

pub hands_once : calling hand_batch (at answers_awaited [] []) ≡ refused_at 16 0
unfolding walk_nodes kept_at has_child in_context at_roots batch_of attribute_in after_answers
hands_once = refl

-- answer: 12 with both counts; the stall is 13 at its row; with the same parents the session goes on
abbrev answering : List (Option Entity) → LoadAnswer (Called (List EntityRequest))
answering answers = calling (λ t load. take_batch t load answers) (at answers_awaited [] [])

pub too_few : answering (none ∷ none ∷ []) ≡ counted 3 2
unfolding walk_nodes kept_at has_child in_context at_roots batch_of attribute_in after_answers
too_few = refl

pub stall : answering differing ≡ refused_at 13 2
unfolding walk_nodes kept_at has_child in_context at_roots batch_of attribute_in after_answers take_answers summed entered put_attribute merged_values merged_attributes spelled spelled_elements spelled_attributes values_in values_in_elements values_in_attributes same_list
stall = refl

pub goes_on : answering same ≡ done (called (at batch_waits same []) (row 4 5 ∷ []) (record { batches = 1; rows = 3 }))
unfolding walk_nodes kept_at has_child in_context at_roots batch_of attribute_in after_answers take_answers summed entered put_attribute merged_values merged_attributes spelled spelled_elements spelled_attributes values_in values_in_elements values_in_attributes same_list
goes_on = refl

-- ancestors: one request a row ever asked; of her ancestors the clinic that the resource names is asked for
pub asks :
    calling ask_ancestors (at ancestors_to_ask (same ++ (none ∷ [])) [])
    ≡ done
    (called (at ancestors_awaited (same ++ (none ∷ [])) []) ((4 ∷ []) ∷ [] ∷ [] ∷ [] ∷ []) (record { batches = 2; rows = 4 }))
unfolding walk_nodes kept_at has_child in_context at_roots batch_of attribute_in after_answers take_answers summed entered put_attribute merged_values merged_attributes spelled spelled_elements spelled_attributes values_in values_in_elements values_in_attributes same_list ancestors_requests take_events take_rows take_batches with_id loaded_as
asks = refl

-- ancestors' answers: surplus sets are passed over; then the slice, with the answered ancestor among her parents
pub answers_ancestors :
    calling (λ t load. take_ancestors t load ((4 ∷ []) ∷ [] ∷ [] ∷ [] ∷ (8 ∷ []) ∷ [])) (at ancestors_awaited (same ++ (none ∷ [])) [])
    ≡ done (called (at ended (same ++ (none ∷ [])) ((4 ∷ []) ∷ [] ∷ [] ∷ [] ∷ [])) 4 (record { batches = 2; rows = 4 }))
unfolding walk_nodes kept_at has_child in_context at_roots batch_of attribute_in after_answers take_answers summed entered put_attribute merged_values merged_attributes spelled spelled_elements spelled_attributes values_in values_in_elements values_in_attributes same_list
answers_ancestors = refl

pub result :
    calling result_of (at ended (same ++ (none ∷ [])) ((4 ∷ []) ∷ []))
    ≡ done
    (called
    (at ended (same ++ (none ∷ [])) ((4 ∷ []) ∷ []))
    (loaded 7 (record { parents = 1 ∷ 4 ∷ []; attributes = attribute 1 (plain 5) (attribute 2 (plain 6) no_attribute) })
    ∷ loaded 9 (record { parents = []; attributes = attribute 3 (entity_id 4) no_attribute })
    ∷ [])
    (record { batches = 2; rows = 4 }))
unfolding walk_nodes kept_at has_child in_context at_roots batch_of attribute_in after_answers take_answers summed entered put_attribute merged_values merged_attributes spelled spelled_elements spelled_attributes values_in values_in_elements values_in_attributes same_list with_id with_ids with_parents with_ancestors
result = refl

-- A state that no load can have: rows wait, and the turn says that it has ended; half a batch is answered.
pub not_ended : lawful_transcript (at ended [] []) ≡ false
unfolding walk_nodes kept_at has_child in_context at_roots batch_of attribute_in after_answers
not_ended = refl

pub half_answered : lawful_transcript (at answers_awaited (none ∷ []) []) ≡ false
unfolding walk_nodes kept_at has_child in_context at_roots batch_of attribute_in after_answers
half_answered = refl

pub awaited : lawful_transcript (at answers_awaited [] []) ≡ true
unfolding walk_nodes kept_at has_child in_context at_roots batch_of attribute_in after_answers
awaited = refl
