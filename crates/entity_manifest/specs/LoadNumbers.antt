-- What the C names of loads answer: a refusal's number, or 0; and beside it three values.
use Rattle.std.specs.Prelude.{ℕ, ◌≡◌, List, [], ◌∷◌}
use Rattle.std.specs.Prelude.{Result, Ok, Err}
use Rattle.words.specs.declared.Refusal.{Refusal}
use Rattle.entries.specs.declared.trips.TripBound.{TripBound}
use Rattle.load_state.specs.Outcomes.{LoadOutcome, HandedOut, AnsweredAs, HandedAs}
use Rattle.load_state.specs.declared.LoadCounts.{LoadCounts}
use Rattle.load_state.specs.declared.LoadRefusal.{LoadRefusal}
use Rattle.load_state.specs.declared.LoadRefusal.TheVariants.{Refused as RefusedAt, Counted as CountedBy}
use Rattle.std.specs.Prelude.{Ok, Err}
use Rattle.load_state.specs.LoadReplies.{LoadReply, Done, Refused, Counted}

abbrev pub load_number : LoadReply → ℕ
load_number (Ok counts) = 0
load_number (Err (RefusedAt refusal)) = refusal.number
load_number (Err (CountedBy expected got)) = 12

abbrev pub load_values : LoadReply → List ℕ
load_values (Ok counts) = counts.count ∷ counts.batches ∷ counts.rows ∷ []
load_values (Err (RefusedAt refusal)) = refusal.place ∷ 0 ∷ 0 ∷ []
load_values (Err (CountedBy expected got)) = 0 ∷ expected ∷ got ∷ []

-- a bound on trips as a reply
abbrev pub bound_reply : Result TripBound Refusal → LoadReply
bound_reply (Ok most) = Done most.ancestors most.batches most.rows
bound_reply (Err refusal) = Refused refusal.number refusal.place

-- what a call answers and leaves, told: its number, the values beside it, and the lent buffer
pub record CallTold (outcome : LoadOutcome) (number : ℕ) (values buffer : List ℕ) : Type 0 where
  pub as_number : number ≡ load_number outcome.reply
  pub beside : values ≡ load_values outcome.reply
  pub left : buffer ≡ outcome.buffer

-- of a call that hands something out, the state and what is handed out
pub record HandTold (outcome : HandedOut) (number : ℕ) (values state out : List ℕ) : Type 0 where
  pub as_number : number ≡ load_number outcome.reply
  pub beside : values ≡ load_values outcome.reply
  pub left : state ≡ outcome.state
  pub handed : out ≡ outcome.out

-- a reply that is told tells the outcome
pub call_told :
    {outcome : LoadOutcome} {reply : LoadReply} {number : ℕ} {values buffer : List ℕ}
    → AnsweredAs outcome reply buffer
    → (number ≡ load_number reply) × (values ≡ load_values reply)
    → CallTold outcome number values buffer
call_told said spoken = record { as_number = rw said.0 at spoken.0; beside = rw said.0 at spoken.1; left = said.1 }

pub hand_told :
    {outcome : HandedOut} {reply : LoadReply} {number : ℕ} {values state out : List ℕ}
    → HandedAs outcome reply state out
    → (number ≡ load_number reply) × (values ≡ load_values reply)
    → HandTold outcome number values state out
hand_told said spoken =
    record { as_number = rw said.0 at spoken.0; beside = rw said.0 at spoken.1; left = said.1; handed = said.2 }
