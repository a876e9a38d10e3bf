-- Document 01, 'Loading': a load as a function of the manifest's entry, the request and the answers.
use Rattle.std.specs.Prelude.{ℕ, zero, suc, ◌+◌, ◌-◌, Bool, false, cond, not, ◌&&◌, ◌||◌, List, [], ◌∷◌, ◌++◌, leb, ltb, eqb, length, take, drop}
use Rattle.std.proofs.Math.Option.{Option, none, some}
use Rattle.rules.specs.Numbers.{most_steps}
use Rattle.rules.specs.Tries.{Row, kind_of, id_of, action_of}
use Rattle.rules.specs.Listing.{◌>>=◌}
use Rattle.rules.specs.Typing.{is_field}
use Rattle.rules.specs.Values.{
  Value,
  plain,
  extension,
  entity_id,
  set_of,
  record_of,
  Elements,
  no_element,
  element,
  Attributes,
  Entity,
  attribute_in,
  values_in_attributes,
  merged_entities,
}

-- What a call answers: done, refused with its number and place, or 12 with what was expected and what was got.
pub data LoadAnswer (A : Type 0) : Type 0 where
  done : A → LoadAnswer A
  refused_at : ℕ → ℕ → LoadAnswer A
  counted : ℕ → ℕ → LoadAnswer A

infixl 20 ◌then◌
abbrev pub ◌then◌ : {A B : Type 0} → LoadAnswer A → (A → LoadAnswer B) → LoadAnswer B
done a then next = next a
refused_at number place then next = refused_at number place
counted expected got then next = counted expected got

-- 'A request names its type triple, principal, resource and context value.'
pub record Request : Type 0 where
  pub type : ℕ
  pub principal : ℕ
  pub resource : ℕ
  pub context : Attributes

-- 'A batch is kept as rows, each an entity id and its trie node': the node by its place among the entry's.
pub record EntityRequest : Type 0 where
  pub id : ℕ
  pub node : ℕ

-- What a walk over values meets, in the order in which it meets it: an entity to ask for, an ancestor id in a marked set, or 14.
pub data Event : Type 0 where
  yielded : EntityRequest → Event
  ancestor : ℕ → Event
  bad : Event

-- Whether a node of a depth, with these rows behind it, has a child of some kind: a field, or a root of its ancestors trie.
unfoldable pub has_child : (ℕ → Bool) → ℕ → List Row → Bool
has_child test depth [] = false
has_child test depth (row ∷ rows) =
    let rest : Bool = has_child test depth rows in
    cond (leb row.depth depth) false ((eqb row.depth (suc depth) && test row.step) || rest)

abbrev pub has_field_child : Row → List Row → Bool
has_field_child row rows = has_child is_field row.depth rows

abbrev pub has_ancestors_trie : Row → List Row → Bool
has_ancestors_trie row rows = has_child (λ step. not (is_field step)) row.depth rows

-- 'a set with a mark must hold entity ids only, which become ancestors'
unfoldable pub ids_in : Elements → Option (List Event)
ids_in no_element = some []
ids_in (element (plain n) rest) = none
ids_in (element (extension n) rest) = none
ids_in (element (entity_id e) rest) = ids_in rest >>= (λ more. some (ancestor e ∷ more))
ids_in (element (set_of inner) rest) = none
ids_in (element (record_of inner) rest) = none

-- What a node comes to: what is met there, and the fields in which its children are looked up, if any.
pub record Met : Type 0 where
  pub events : List Event
  pub kept : Option Attributes

abbrev pub comes_to : List Event → Option Attributes → Met
comes_to events kept = record { events = events; kept = kept }

abbrev pub comes_to_nothing : Met
comes_to_nothing = comes_to [] none

abbrev pub refused14 : Met
refused14 = comes_to (bad ∷ []) none

abbrev pub or14 : Bool → Met → Met
or14 test otherwise = cond test refused14 otherwise

-- The value rule: 'an entity id yields a row; a record goes on by field; a set with a mark must hold entity ids only; children on a
-- set or on a value that is neither record nor entity, a mark on anything but entity or set, ancestors on anything but an entity: 14'.
abbrev pub value_rule : Row → List Row → ℕ → Value → Met
value_rule row rows node (plain n) = or14 (has_ancestors_trie row rows || (row.mark || has_field_child row rows)) comes_to_nothing
value_rule row rows node (extension n) = or14 (has_ancestors_trie row rows || (row.mark || has_field_child row rows)) comes_to_nothing
value_rule row rows node (entity_id e) = comes_to (yielded (record { id = e; node = node }) ∷ []) none
value_rule row rows node (set_of elements) =
    or14 (has_ancestors_trie row rows || has_field_child row rows)
    (cond row.mark (elim (ids_in elements) [ none ↦ refused14 | some ids ↦ comes_to ids none ]) comes_to_nothing)
value_rule row rows node (record_of members) = or14 (has_ancestors_trie row rows || row.mark) (comes_to [] (some members))

-- A node below others: a field is looked up in what its parent kept; 'an absent attribute is skipped'; a root enters an ancestors trie.
abbrev pub at_node : Option Attributes → Row → List Row → ℕ → Met
at_node none row rows node = comes_to_nothing
at_node (some members) row rows node =
    cond (is_field row.step) (elim (attribute_in (id_of row.step) members) [ none ↦ comes_to_nothing | some value ↦ value_rule row rows node value ]) comes_to_nothing

-- what is kept at a place, none past the end
unfoldable pub kept_at : List (Option Attributes) → ℕ → Option Attributes
kept_at [] n = none
kept_at (kept ∷ more) zero = kept
kept_at (kept ∷ more) (suc n) = kept_at more n

-- The walk: rows below a depth, in listing order, with what is kept for each depth from there on.
unfoldable pub walk_nodes : ℕ → List (Option Attributes) → ℕ → List Row → List Event
walk_nodes depth kept node [] = []
walk_nodes depth kept node (row ∷ rows) =
    let here : Met = at_node (kept_at kept (row.depth - suc depth)) row rows node in
    let rest : List Event = walk_nodes depth (take (row.depth - depth) kept ++ (here.kept ∷ [])) (suc node) rows in
    cond (leb row.depth depth) [] (here.events ++ rest)

-- `find_remaining_entities`: the children of a node, looked up among attributes
abbrev pub remaining_entities : List Row → ℕ → Attributes → List Event
remaining_entities nodes node attributes =
    elim (drop node nodes) [ [] ↦ [] | row ∷ rows ↦ walk_nodes row.depth (some attributes ∷ []) (suc node) rows ]

-- The entity that a root names.
abbrev pub entity_named : Request → ℕ → ℕ
entity_named request step =
    cond (eqb (kind_of step) 1) request.principal
    (cond (eqb (kind_of step) 2) (action_of request.type) (cond (eqb (kind_of step) 3) request.resource (id_of step)))

abbrev pub is_context_root : ℕ → Bool
is_context_root step = eqb (kind_of step) 4

-- the context root below a depth: its children, looked up in the context; 'a mark or an ancestors trie on the context root does nothing'
unfoldable pub in_context : Request → ℕ → ℕ → List Row → List Event
in_context request depth node [] = []
in_context request depth node (row ∷ rows) =
    let rest : List Event = in_context request depth (suc node) rows in
    cond (leb row.depth depth) []
    (cond (eqb row.depth (suc depth) && is_context_root row.step) (walk_nodes (suc depth) (some request.context ∷ []) (suc node) rows) rest)

-- the other roots below a depth
unfoldable pub at_roots : Request → ℕ → ℕ → List Row → List Event
at_roots request depth node [] = []
at_roots request depth node (row ∷ rows) =
    let rest : List Event = at_roots request depth (suc node) rows in
    let here : Event = yielded (record { id = entity_named request row.step; node = node }) in
    cond (leb row.depth depth) []
    (cond (eqb row.depth (suc depth) && not (is_field row.step || is_context_root row.step)) (here ∷ rest) rest)

-- `initial_entities_to_load`: 'the entities found in the context, then roots p, a, r, e in order'
abbrev pub initial_entities : Request → ℕ → ℕ → List Row → List Event
initial_entities request depth node rows = in_context request depth node rows ++ at_roots request depth node rows

-- A batch: the rows that are found; 'a batch's walk drops' ancestors. None is 14.
unfoldable pub batch_of : List Event → Option (List EntityRequest)
batch_of [] = some []
batch_of (yielded row ∷ events) = batch_of events >>= (λ rows. some (row ∷ rows))
batch_of (ancestor e ∷ events) = batch_of events
batch_of (bad ∷ events) = none

-- The slice, ascending by entity.
pub record Loaded : Type 0 where
  pub id : ℕ
  pub value : Entity

abbrev pub loaded : ℕ → Entity → Loaded
loaded id value = record { id = id; value = value }

unfoldable pub loaded_as : ℕ → List Loaded → Option Entity
loaded_as e [] = none
loaded_as e (l ∷ ls) = let rest : Option Entity = loaded_as e ls in cond (eqb l.id e) (some l.value) rest

-- an answered entity put into the slice, merged with the one that is there; None is 13
unfoldable pub entered : ℕ → Entity → List Loaded → Option (List Loaded)
entered e value [] = some (loaded e value ∷ [])
entered e value (l ∷ ls) =
    let rest : Option (List Loaded) = entered e value ls >>= (λ more. some (l ∷ more)) in
    cond (ltb e l.id) (some (loaded e value ∷ l ∷ ls))
    (cond (eqb e l.id) (merged_entities l.value value >>= (λ both. some (loaded e both ∷ ls))) rest)

-- What answers have given: the slice, and the rows found next.
pub record AnswersTaken : Type 0 where
  pub slice : List Loaded
  pub next : List EntityRequest

-- one row's answer: 14, then 13
abbrev pub take_answer : List Row → ℕ → EntityRequest → Option Entity → AnswersTaken → LoadAnswer AnswersTaken
take_answer nodes place row none gained = done gained
take_answer nodes place row (some value) gained =
    elim (batch_of (remaining_entities nodes row.node value.attributes)) [
      | none ↦ refused_at 14 place
      | some rows ↦
          elim (entered row.id value gained.slice) [
            | none ↦ refused_at 13 place
            | some slice ↦ done (record { slice = slice; next = gained.next ++ rows })
          ]
    ]

unfoldable pub take_answers : List Row → ℕ → List EntityRequest → List (Option Entity) → AnswersTaken → LoadAnswer AnswersTaken
take_answers nodes place [] answers gained = done gained
take_answers nodes place (row ∷ rows) [] gained = done gained
take_answers nodes place (row ∷ rows) (answer ∷ answers) gained =
    take_answer nodes place row answer gained then (λ more. take_answers nodes (suc place) rows answers more)

-- 'loaded values and parents .. summed over the load': the sum after answers, 15 at the first to pass 8,192
abbrev pub size_of_answer : Option Entity → ℕ
size_of_answer none = 0
size_of_answer (some value) = length value.parents + values_in_attributes value.attributes

unfoldable pub summed : {A : Type 0} → (A → ℕ) → ℕ → ℕ → List A → LoadAnswer ℕ
summed size place sum [] = done sum
summed size place sum (answer ∷ answers) =
    let rest : LoadAnswer ℕ = summed size (suc place) (sum + size answer) answers in
    cond (ltb 8192 (sum + size answer)) (refused_at 15 place) rest

-- Where a load has come to: the rows that wait, all rows asked before them, the slice, the sum, and the two counts.
pub record Load : Type 0 where
  pub waiting : List EntityRequest
  pub asked : List EntityRequest
  pub slice : List Loaded
  pub sum : ℕ
  pub batches : ℕ
  pub rows : ℕ

-- begin: 14 at 0
abbrev pub load_begun : Request → List Row → LoadAnswer Load
load_begun request nodes =
    elim (batch_of (initial_entities request 0 0 nodes)) [
      | none ↦ refused_at 14 0
      | some rows ↦ done (record { waiting = rows; asked = []; slice = []; sum = 0; batches = 0; rows = 0 })
    ]

-- 'When a batch is empty' no trip is made: rows that wait make one batch, and no rows none
abbrev pub trips_for : List EntityRequest → ℕ
trips_for [] = 0
trips_for (row ∷ rows) = 1

-- a batch handed out and its answers taken: '12, 15 (as answered, before merging), then by row 14, 13'
abbrev pub batch_answered : List Row → Load → List (Option Entity) → LoadAnswer Load
batch_answered nodes sofar answers =
    cond (eqb (length answers) (length sofar.waiting))
    (summed size_of_answer 0 sofar.sum answers then (λ sum.
    take_answers nodes 0 sofar.waiting answers (record { slice = sofar.slice; next = [] }) then (λ gained.
    done (record {
      waiting = gained.next;
      asked = sofar.asked ++ sofar.waiting;
      slice = gained.slice;
      sum = sum;
      batches = trips_for sofar.waiting + sofar.batches;
      rows = sofar.rows + length sofar.waiting;
    }))))
    (counted (length sofar.waiting) (length answers))

-- a load after the answers to its batches, in order
unfoldable pub after_batches : List Row → LoadAnswer Load → List (List (Option Entity)) → LoadAnswer Load
after_batches nodes sofar [] = sofar
after_batches nodes sofar (batch ∷ batches) = after_batches nodes (sofar then (λ s. batch_answered nodes s batch)) batches

-- The ancestors walk. Ids in a set of 256 places, ascending; 15 for the next one.
unfoldable pub with_id : ℕ → List ℕ → List ℕ
with_id e [] = e ∷ []
with_id e (x ∷ xs) = let rest : List ℕ = x ∷ with_id e xs in cond (ltb e x) (e ∷ x ∷ xs) (cond (eqb e x) (x ∷ xs) rest)

pub record Wanted : Type 0 where
  pub ids : List ℕ
  pub next : List EntityRequest

abbrev pub take_id : ℕ → ℕ → Wanted → LoadAnswer Wanted
take_id place e wanted =
    cond (ltb 256 (length (with_id e wanted.ids))) (refused_at 15 place) (done (record { ids = with_id e wanted.ids; next = wanted.next }))

unfoldable pub take_events : ℕ → List Event → Wanted → LoadAnswer Wanted
take_events place [] wanted = done wanted
take_events place (yielded row ∷ events) wanted =
    take_events place events (record { ids = wanted.ids; next = wanted.next ++ (row ∷ []) })
take_events place (ancestor e ∷ events) wanted = take_id place e wanted then take_events place events
take_events place (bad ∷ events) wanted = refused_at 14 place

abbrev pub is_marked : List Row → ℕ → Bool
is_marked nodes node = elim (drop node nodes) [ [] ↦ false | row ∷ rows ↦ row.mark ]

-- 'a row's mark before its children'
abbrev pub take_row : List Row → List Loaded → ℕ → EntityRequest → Wanted → LoadAnswer Wanted
take_row nodes slice place row wanted =
    (cond (is_marked nodes row.node) (take_id place row.id wanted) (done wanted))
    then
    (λ more.
    elim (loaded_as row.id slice) [
      | none ↦ done more
      | some value ↦ take_events place (remaining_entities nodes row.node value.attributes) more
    ])

unfoldable pub take_rows : List Row → List Loaded → ℕ → List EntityRequest → Wanted → LoadAnswer Wanted
take_rows nodes slice place [] wanted = done wanted
take_rows nodes slice place (row ∷ rows) wanted = take_row nodes slice place row wanted then take_rows nodes slice place rows

-- 'going in batches too': at most one a step of a position
unfoldable pub take_batches : ℕ → List Row → List Loaded → ℕ → Wanted → LoadAnswer (List ℕ)
take_batches zero nodes slice place wanted = done wanted.ids
take_batches (suc left) nodes slice place wanted =
    take_rows nodes slice place wanted.next (record { ids = wanted.ids; next = [] }) then take_batches left nodes slice place

-- `compute_ancestors_request`: the ids wanted for one row
abbrev pub ancestors_request : Request → List Row → List Loaded → ℕ → EntityRequest → LoadAnswer (List ℕ)
ancestors_request request nodes slice place row =
    elim (drop row.node nodes) [
      | [] ↦ done []
      | node ∷ rows ↦
          take_events place (initial_entities request node.depth (suc row.node) rows) (record { ids = []; next = [] })
          then
          take_batches most_steps nodes slice place
    ]

-- 'one ancestors request per row ever asked, in asking order'
unfoldable pub ancestors_requests : Request → List Row → List Loaded → ℕ → List EntityRequest → LoadAnswer (List (List ℕ))
ancestors_requests request nodes slice place [] = done []
ancestors_requests request nodes slice place (row ∷ rows) =
    ancestors_request request nodes slice place row then
    (λ ids. ancestors_requests request nodes slice (suc place) rows then (λ more. done (ids ∷ more)))

-- ids put among parents
unfoldable pub with_ids : List ℕ → List ℕ → List ℕ
with_ids [] parents = parents
with_ids (x ∷ xs) parents = with_ids xs (with_id x parents)

-- 'Each answered id becomes a parent of the entity if loaded. Answers pair with requests in order.'
unfoldable pub with_parents : ℕ → List ℕ → List Loaded → List Loaded
with_parents e ids [] = []
with_parents e ids (l ∷ ls) =
    let rest : List Loaded = with_parents e ids ls in
    let more : List ℕ = with_ids ids l.value.parents in
    cond (eqb l.id e) (loaded e (record { parents = more; attributes = l.value.attributes }) ∷ ls) (l ∷ rest)

unfoldable pub with_ancestors : List EntityRequest → List (List ℕ) → List Loaded → List Loaded
with_ancestors [] answers slice = slice
with_ancestors (row ∷ rows) [] slice = slice
with_ancestors (row ∷ rows) (ids ∷ answers) slice = with_ancestors rows answers (with_parents row.id ids slice)
