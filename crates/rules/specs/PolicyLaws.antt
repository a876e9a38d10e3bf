-- The words of proofs/PolicyLaws.antt.
use Rattle.std.specs.Prelude.{ℕ, ◌^◌, ◌<◌, ◌≡◌}
use mathlib.Core.List.{List, [], ◌∷◌, ◌++◌}
use Rattle.std.proofs.Math.Option.{Option, none, some}
use Rattle.rules.specs.Numbers.{Answer, accepted, and_then}
use Rattle.rules.specs.Lines.{fold_lines}
use Rattle.rules.specs.Tries.{Row, ids}
use Rattle.rules.specs.Schema.{Item}
use Rattle.rules.specs.StepLaws.{AllGood}
use Rattle.rules.specs.Building.{build, accepted_of, Contributions}
use Rattle.rules.specs.Policies.{Begun, Policy, closed, policy_line, contributions_of}

-- a contribution behind those before it
abbrev pub gather_at : ℕ → List Row → List (List Row) → Answer (List (List Row))
gather_at place c cs = accepted (cs ++ (c ∷ []))

-- a contribution that has begun: its request type is one, and its results are good
abbrev pub GoodBegun : Option Begun → Type 0
GoodBegun none = Unit
GoodBegun (some b) = (b.request < ids ^ 3) × AllGood b.results

abbrev pub GoodPolicy : Policy (List (List Row)) → Type 0
GoodPolicy p = Contributions p.sofar × GoodBegun p.begun

-- contributions are all accepted by a manifest, and rows are their build
abbrev pub AllAdd : List Row → List (List Row) → List Row → Type 0
AllAdd m cs rows = (accepted_of m cs ≡ cs) × (rows ≡ build m cs)

-- contributions in front of what an answer gives
abbrev pub in_front : List (List Row) → Answer (List (List Row)) → Answer (List (List Row))
in_front cs answer = and_then answer (λ more. accepted (cs ++ more))

-- the lines from one on, and then the end
abbrev pub finish : {S : Type 0} → (ℕ → List Row → S → Answer S) → List Item → ℕ → List (List ℕ) → Policy S → Answer S
finish taking items place lines p = and_then (fold_lines (policy_line taking items) place lines p) (λ all. closed taking items all.lines all.state)

-- the contributions of policy texts, one text after the other
unfoldable pub contributions_of_all : List Item → List (List ℕ) → Answer (List (List Row))
contributions_of_all items [] = accepted []
contributions_of_all items (text ∷ texts) = and_then (contributions_of items text) (λ cs. in_front cs (contributions_of_all items texts))
