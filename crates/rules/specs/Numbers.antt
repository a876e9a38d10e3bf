-- Document 01, 'Numbers given back': what a public operation answers, and its limits.
use Rattle.std.specs.Prelude.{ℕ, Bool, cond, List, [], ◌∷◌}
use Rattle.std.proofs.Math.Option.{Option, none, some}

-- 'Each returns its number and a place from 0'
pub data Answer (A : Type 0) : Type 0 where
  accepted : A → Answer A
  refused : ℕ → ℕ → Answer A

-- what is done next with what was accepted; a refusal stays
abbrev pub and_then : {A B : Type 0} → Answer A → (A → Answer B) → Answer B
and_then (accepted a) next = next a
and_then (refused number place) next = refused number place

-- the answer at a place by a refusal's number, if there is one
abbrev pub answer_by : {A : Type 0} → ℕ → A → Option ℕ → Answer A
answer_by place a none = accepted a
answer_by place a (some number) = refused number place

-- tests in the order in which they are judged, each with the number that is given where it holds: the first that holds
abbrev pub first_of : List (Bool × ℕ) → Option ℕ
first_of [] = none
first_of (test ∷ tests) = let rest : Option ℕ = first_of tests in cond test.0 (some test.1) rest

-- 3: 'a position would exceed 24 steps'
abbrev pub most_steps : ℕ
most_steps = 24
