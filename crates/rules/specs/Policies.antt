-- docs/FORMS.md, 'Policy text': 'An `A` line, as in a listing, followed by the step lines of one contribution, again and again'.
use Rattle.std.specs.Prelude.{ℕ, cond, List, [], ◌∷◌, ◌++◌}
use Rattle.std.proofs.Math.Option.{Option, none, some}
use Rattle.rules.specs.Numbers.{Answer, accepted, refused, and_then}
use Rattle.rules.specs.Text.{fields_of}
use Rattle.rules.specs.Lines.{fold_text}
use Rattle.rules.specs.Tries.{Row, is_entry}
use Rattle.rules.specs.Listing.{row_of, ◌>>=◌}
use Rattle.rules.specs.Schema.{Item}
use Rattle.rules.specs.Steps.{Result, step_line, ended}
use Rattle.rules.specs.Building.{add}

-- the request type of an `A` line; no other line has one
abbrev pub request_in : List ℕ → Option ℕ
request_in line = do
  row ← row_of (fields_of line)
  cond (is_entry row) (some row.step) none

-- A contribution that has begun: its request type, and the results of its step lines so far.
pub record Begun : Type 0 where
  pub request : ℕ
  pub results : List Result

abbrev pub begin : ℕ → List Result → Begun
begin request results = record { request = request; results = results }

-- Where a policy text has come to: what the contributions that have ended came to, and the one that has begun, if any.
pub record Policy (S : Type 0) : Type 0 where
  pub sofar : S
  pub begun : Option Begun

abbrev pub policy : {S : Type 0} → S → Option Begun → Policy S
policy sofar begun = record { sofar = sofar; begun = begun }

-- A policy text, by what a contribution that ends at a line makes of what those before it came to.
module _ {S : Type 0} (taking : ℕ → List Row → S → Answer S) (items : List Item) where
  -- 'a contribution ends at the next `A` line or at the text's end, and that line's number is the place of not one result at the end'
  abbrev pub closed : ℕ → Policy S → Answer S
  closed place p =
      elim p.begun [
        | none ↦ accepted p.sofar
        | some b ↦ and_then (ended b.request place b.results) (λ rows. taking place rows p.sofar)
      ]

  -- 'A step line before any `A` line is 1'
  abbrev pub policy_step : ℕ → List ℕ → Policy S → Answer (Policy S)
  policy_step place line p =
      elim p.begun [
        | none ↦ refused 1 place
        | some b ↦
            and_then (step_line items place line b.results)
            (λ results. accepted (policy p.sofar (some (begin b.request results))))
      ]

  -- an `A` line ends the contribution before it and begins one; any other line is a step line
  abbrev pub policy_line : ℕ → List ℕ → Policy S → Answer (Policy S)
  policy_line place line p =
      elim (request_in line) [
        | none ↦ policy_step place line p
        | some request ↦ and_then (closed place p) (λ s. accepted (policy s (some (begin request []))))
      ]

  -- the whole text
  abbrev pub policy_text : List ℕ → S → Answer S
  policy_text text s = and_then (fold_text policy_line text (policy s none)) (λ all. closed all.lines all.state)

-- the contributions of a policy text, in order, or the first refusal
abbrev pub contributions_of : List Item → List ℕ → Answer (List (List Row))
contributions_of items text = policy_text (λ place c cs. accepted (cs ++ (c ∷ []))) items text []

-- 'that line's number is the place .. of 5 and 4 for adding'
abbrev pub add_at : ℕ → List Row → List Row → Answer (List Row)
add_at place c m = elim (add m c) [ accepted rows ↦ accepted rows | refused number _ ↦ refused number place ]

-- a policy text added to a manifest, all of its contributions in order or nothing: each is analysed and added in turn, up to the first
-- refusal
abbrev pub add_policy : List Item → List Row → List ℕ → Answer (List Row)
add_policy items m text = policy_text add_at items text m

-- policy texts added in order, all of them or nothing
unfoldable pub add_policies : List Item → List Row → List (List ℕ) → Answer (List Row)
add_policies items m [] = accepted m
add_policies items m (text ∷ texts) = and_then (add_policy items m text) (λ rows. add_policies items rows texts)
