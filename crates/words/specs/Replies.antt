-- What an operation on lent words answers: it is done, or refused with a number and a place (docs/FORMS.md, 'Numbers given back').
use Rattle.std.specs.Prelude.{ℕ, Result, Ok, Err}
use Rattle.words.specs.declared.Refusal.{Refusal}

-- a refusal, by its number and its place
abbrev pub refusal : ℕ → ℕ → Refusal
refusal number place = record { number = number; place = place }

abbrev pub Reply : Type 0
Reply = Result (Unit {0}) Refusal

abbrev pub Done : Reply
Done = Ok tt

-- also of an operation that answers with something else where it is done
abbrev pub Refused : {A : Type 0} → ℕ → ℕ → Result A Refusal
Refused number place = Err (refusal number place)
