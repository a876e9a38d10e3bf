-- Worked loads that the checker computes.
use Rattle.std.specs.Prelude.{ℕ, ◌≡◌, refl, true, false, List, [], ◌∷◌}
use Rattle.std.proofs.Math.Option.{Option, some}
use Rattle.rules.specs.Tries.{Row, step_of, request_of, same_list}
use Rattle.rules.specs.Listing.{read}
use Rattle.rules.specs.Values.{Value, plain, entity_id, no_attribute, attribute, Entity, attribute_in, put_attribute, merged_values, merged_attributes, spelled, spelled_elements, spelled_attributes, values_in, values_in_elements, values_in_attributes}
use Rattle.rules.specs.Loading.{done, refused_at, Request, EntityRequest, loaded, load_begun, after_batches, walk_nodes, kept_at, has_child, in_context, at_roots, batch_of, entered, loaded_as, take_answers, summed, ancestors_requests, take_events, take_rows, take_batches, with_id}

-- The clinic's stall: a policy names the principal, entity 7, as a literal too. Entry: principal.1, 7.2, and `principal in resource.3`.
abbrev nodes : List Row
nodes =
    read 1 (step_of 1 0) false
    ∷ read 2 1 false
    ∷ read 2 (step_of 3 0) false
    ∷ read 3 3 true
    ∷ read 1 (step_of 3 0) false
    ∷ read 2 3 false
    ∷ read 1 (step_of 5 7) false
    ∷ read 2 2 false
    ∷ []

abbrev request : Request
request = record { type = request_of 10 500 20; principal = 7; resource = 9; context = no_attribute }

abbrev copy : List ℕ → ℕ → Value → Option Entity
copy parents f value = some (record { parents = parents; attributes = attribute f value no_attribute })

abbrev row : ℕ → ℕ → EntityRequest
row id node = record { id = id; node = node }

-- the first batch asks for the principal, the resource and the literal: the principal twice, for different nodes
pub first-batch :
    load_begun request nodes
    ≡ done (record { waiting = row 7 0 ∷ row 9 4 ∷ row 7 6 ∷ []; asked = []; slice = []; sum = 0; batches = 0; rows = 0 })
unfolding walk_nodes kept_at has_child in_context at_roots batch_of attribute_in
first-batch = refl

-- the two copies of her differ by one parent: 13 at the third row
pub stall :
    after_batches nodes (load_begun request nodes) ((copy (1 ∷ []) 1 (plain 5) ∷ copy [] 3 (entity_id 4) ∷ copy (1 ∷ 2 ∷ []) 2 (plain 6) ∷ []) ∷ [])
    ≡ refused_at 13 2
unfolding walk_nodes kept_at has_child in_context at_roots batch_of attribute_in after_batches take_answers summed entered put_attribute merged_values merged_attributes spelled spelled_elements spelled_attributes values_in values_in_elements values_in_attributes same_list
stall = refl

-- with the same parents she loads, her two copies merged, and the clinic of the resource, entity 4, is asked for next
pub goes_on :
    after_batches nodes (load_begun request nodes) ((copy (1 ∷ []) 1 (plain 5) ∷ copy [] 3 (entity_id 4) ∷ copy (1 ∷ []) 2 (plain 6) ∷ []) ∷ [])
    ≡ done (record {
      waiting = row 4 5 ∷ [];
      asked = row 7 0 ∷ row 9 4 ∷ row 7 6 ∷ [];
      slice =
          loaded 7 (record { parents = 1 ∷ []; attributes = attribute 1 (plain 5) (attribute 2 (plain 6) no_attribute) })
          ∷ loaded 9 (record { parents = []; attributes = attribute 3 (entity_id 4) no_attribute })
          ∷ [];
      sum = 5;
      batches = 1;
      rows = 3;
    })
unfolding walk_nodes kept_at has_child in_context at_roots batch_of attribute_in after_batches take_answers summed entered put_attribute merged_values merged_attributes spelled spelled_elements spelled_attributes values_in values_in_elements values_in_attributes same_list
goes_on = refl

-- of her ancestors the one that field 3 of the resource names is asked for; the other rows ask for none
pub asked_for :
    ancestors_requests request nodes (loaded 9 (record { parents = []; attributes = attribute 3 (entity_id 4) no_attribute }) ∷ []) 0 (row 7 0 ∷ row 9 4 ∷ [])
    ≡ done ((4 ∷ []) ∷ [] ∷ [])
unfolding walk_nodes kept_at has_child in_context at_roots attribute_in ancestors_requests take_events take_rows take_batches with_id loaded_as
asked_for = refl
