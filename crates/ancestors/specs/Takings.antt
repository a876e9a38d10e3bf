-- What is wanted as a set and a run of words, and what taking events leaves.
use Rattle.std.specs.Prelude.{ℕ, ◌≤◌, ◌≡◌, cond, List, length, take, Option as Maybe, Some, None, Result, Ok, Err}
use Rattle.rules.specs.Tries.{Row}
use Rattle.rules.specs.Loading.{LoadAnswer, done, refused_at, EntityRequest, Wanted, take_id, is_marked}
use Rattle.slices.specs.Slices.{rows_asked}
use Rattle.ancestors.specs.Sets.{ids_of, IsSet}
use Rattle.ancestors.specs.declared.set.AncestorSet.{AncestorSet}
use Rattle.ancestors.specs.declared.events.Taken.{Taken}

-- what a set and the first words of a run want
abbrev pub wanted_in : AncestorSet → List ℕ → ℕ → Wanted
wanted_in set out len = record { ids = ids_of set; next = rows_asked (take len out) }

-- what is wanted with the ids of a set, or that there would be more than 256
abbrev pub put_at : ℕ → List EntityRequest → Maybe AncestorSet → LoadAnswer Wanted
put_at place next (Some set) = done (record { ids = ids_of set; next = next })
put_at place next None = refused_at 15 place

abbrev pub IsSetIn : Maybe AncestorSet → Type 0
IsSetIn (Some set) = IsSet set
IsSetIn None = Unit

-- What is taken at any place puts ids into a set, or there would be more than 256.
pub record Puts (answer : ℕ → Wanted → LoadAnswer Wanted) (set : AncestorSet) (r : Maybe AncestorSet) : Type 0 where
  pub is_set : IsSetIn r
  pub puts : (place : ℕ) (next : List EntityRequest) → answer place (record { ids = ids_of set; next = next }) ≡ put_at place next r

-- the answer at a place: what is wanted then, or a refusal
abbrev pub answer_at : ℕ → List ℕ → Result Taken ℕ → LoadAnswer Wanted
answer_at place out (Ok taken) = done (wanted_in taken.set out taken.end)
answer_at place out (Err number) = refused_at number place

abbrev pub TakenIn : ℕ → Result Taken ℕ → Type 0
TakenIn room (Ok taken) = IsSet taken.set × (taken.end ≤ room)
TakenIn room (Err number) = Unit

-- What is taken at any place is answered, and what is wanted then stands in the set and in the run.
pub record Takes (answer : ℕ → LoadAnswer Wanted) (out : List ℕ) (r : Result Taken ℕ) : Type 0 where
  pub answers : (place : ℕ) → answer place ≡ answer_at place out r
  pub taken : TakenIn (length out) r

-- the ids that a request asks for, or a refusal
abbrev pub ids_asked : ℕ → Result AncestorSet ℕ → LoadAnswer (List ℕ)
ids_asked place (Ok set) = done (ids_of set)
ids_asked place (Err number) = refused_at number place

abbrev pub AskedIn : Result AncestorSet ℕ → Type 0
AskedIn (Ok set) = IsSet set
AskedIn (Err number) = Unit

-- What is asked for at any place is answered.
pub record Asks (answer : ℕ → LoadAnswer (List ℕ)) (r : Result AncestorSet ℕ) : Type 0 where
  pub asks : (place : ℕ) → answer place ≡ ids_asked place r
  pub asked : AskedIn r

-- the first part of taking a row: its entity's id, where its node is marked
abbrev pub take_mark : List Row → ℕ → ℕ → ℕ → Wanted → LoadAnswer Wanted
take_mark nodes place node id wanted = cond (is_marked nodes node) (take_id place id wanted) (done wanted)
