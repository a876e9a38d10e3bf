-- The words of proofs/SliceLaws.antt.
use Rattle.std.specs.Prelude.{ℕ, suc, ◌≤◌, ◌≡◌, cond, ltb, eqb, length}
use mathlib.Core.List.{List, [], ◌∷◌, ◌++◌}
use Rattle.std.proofs.Math.Option.{Option, none, some}
use Rattle.rules.specs.Values.{Entity, merged_entities}
use Rattle.rules.specs.MergeLaws.{merged_of}
use Rattle.rules.specs.Loading.{EntityRequest, Loaded, loaded, loaded_as, Load, with_ids}

-- The answers to the rows that ask for e, in order.
abbrev pub answer_to : ℕ → EntityRequest → Option Entity → List Entity
answer_to e row none = []
answer_to e row (some value) = cond (eqb row.id e) (value ∷ []) []

unfoldable pub answers_to : ℕ → List EntityRequest → List (Option Entity) → List Entity
answers_to e [] answers = []
answers_to e (row ∷ rows) [] = []
answers_to e (row ∷ rows) (answer ∷ answers) = answer_to e row answer ++ answers_to e rows answers

-- Entities in strictly ascending order, the first at least `least`.
unfoldable pub SliceFrom : ℕ → List Loaded → Type 0
SliceFrom least [] = Unit
SliceFrom least (l ∷ ls) = (least ≤ l.id) × SliceFrom (suc l.id) ls

-- The slice of some rows and their answers: it ascends, and it has exactly the entities answered, each as its answers come to.
pub record SliceOf (rows : List EntityRequest) (answers : List (Option Entity)) (slice : List Loaded) : Type 0 where
  pub ascends : SliceFrom 0 slice
  pub merged : (e : ℕ) → loaded_as e slice ≡ merged_of (answers_to e rows answers)
  pub answered : (e : ℕ) → loaded_as e slice ≡ none → answers_to e rows answers ≡ []

-- what is there after one answer more
abbrev pub with_answer : Option Entity → Entity → Option Entity
with_answer none value = some value
with_answer (some there-already) value = merged_entities there-already value

-- an entity put in its place, in place of the one of its id
unfoldable pub put : ℕ → Entity → List Loaded → List Loaded
put e value [] = loaded e value ∷ []
put e value (l ∷ ls) =
    let rest : List Loaded = l ∷ put e value ls in
    cond (ltb e l.id) (loaded e value ∷ l ∷ ls) (cond (eqb e l.id) (loaded e value ∷ ls) rest)

-- answers that come to nothing are none
abbrev pub NoneRefused : List Entity → Type 0
NoneRefused l = merged_of l ≡ none → l ≡ []

-- A load after some answers: its slice is that of the rows asked and those answers.
pub record LoadOf (answers : List (Option Entity)) (load : Load) : Type 0 where
  pub as_many : length load.asked ≡ length answers
  pub slice-of : SliceOf load.asked answers load.slice

-- The ids answered to the requests of the rows that ask for e, in order.
unfoldable pub ids_to : ℕ → List EntityRequest → List (List ℕ) → List ℕ
ids_to e [] answers = []
ids_to e (row ∷ rows) [] = []
ids_to e (row ∷ rows) (ids ∷ answers) = cond (eqb row.id e) ids [] ++ ids_to e rows answers

-- an entity with more parents
abbrev pub with_more : List ℕ → Entity → Entity
with_more ids value = record { parents = with_ids ids value.parents; attributes = value.attributes }
