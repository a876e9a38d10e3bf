-- Calls one after the other on one lent buffer: what they leave in it, and what each of them answers.
use Rattle.std.specs.Prelude.{ℕ, ◌≤◌, ◌≡◌, length}
use mathlib.Core.List.{List, [], ◌∷◌, map, Memᴰ as Member}
use Rattle.rules.specs.Numbers.{Answer, accepted, refused}
use Rattle.rules.specs.Tries.{Row}
use Rattle.words.specs.Runs.{Outcome}
use Rattle.words.specs.Replies.{Reply, Done, Refused}
use Rattle.rows.specs.States.{Lent, rows_in}
use Rattle.rows.specs.declared.Kind.TheVariants.{Contribution, Manifest}
use Rattle.listing.specs.Outcomes.{write_in}
use Rattle.manifest.specs.Outcomes.{empty_in, add_in}
use Rattle.analysis.specs.Outcomes.{analyse_in}
use Rattle.analysis.specs.Outcomes.{add_policy_in}

-- what a buffer holds after calls that each take one of some things
unfoldable pub left_by : {A : Type 0} → (List ℕ → A → Outcome) → List ℕ → List A → List ℕ
left_by call buffer [] = buffer
left_by call buffer (a ∷ more) = left_by call (call buffer a).buffer more

-- what each of these calls answers
unfoldable pub replies_by : {A : Type 0} → (List ℕ → A → Outcome) → List ℕ → List A → List Reply
replies_by call buffer [] = []
replies_by call buffer (a ∷ more) = (call buffer a).reply ∷ replies_by call (call buffer a).buffer more

-- every reply is Done
unfoldable pub AllDone : List Reply → Type 0
AllDone [] = Unit
AllDone (reply ∷ replies) = (reply ≡ Done) × AllDone replies

-- an empty manifest is made in a buffer, and then contributions are added to it
abbrev pub built_in : List ℕ → List (List ℕ) → List ℕ
built_in out cs = left_by add_in (empty_in out).buffer cs

abbrev pub build_replies : List ℕ → List (List ℕ) → List Reply
build_replies out cs = replies_by add_in (empty_in out).buffer cs

-- an empty manifest is made in a buffer, and then policy texts are added to it
abbrev pub policies_in : List ℕ → List ℕ → List (List ℕ) → List ℕ
policies_in schema out texts = left_by (λ m text. add_policy_in schema text m) (empty_in out).buffer texts

abbrev pub policy_replies : List ℕ → List ℕ → List (List ℕ) → List Reply
policy_replies schema out texts = replies_by (λ m text. add_policy_in schema text m) (empty_in out).buffer texts

-- the bytes that writing a manifest's listing leaves in a text
abbrev pub written_by : List ℕ → List ℕ → List ℕ
written_by m text = (write_in Manifest m text).buffer

-- what adding on rows answers, as a reply
abbrev pub reply_of : Answer (List Row) → Reply
reply_of (accepted rows) = Done
reply_of (refused number place) = Refused number place

-- every one of some buffers is a lent contribution
unfoldable pub AllLent : List (List ℕ) → Type 0
AllLent [] = Unit
AllLent (c ∷ cs) = Lent Contribution c (rows_in c) × AllLent cs

-- A request type, a step text for it, and the buffer that it is analysed into.
pub record StepJob : Type 0 where
  pub request : ℕ
  pub steps : List ℕ
  pub out : List ℕ

abbrev pub analysed_by : List ℕ → StepJob → Outcome
analysed_by schema job = analyse_in schema job.request job.steps job.out

-- the contributions that jobs leave, and what the calls answer
abbrev pub contributions_in : List ℕ → List StepJob → List (List ℕ)
contributions_in schema jobs = map (λ job. (analysed_by schema job).buffer) jobs

abbrev pub analyses_in : List ℕ → List StepJob → List Reply
analyses_in schema jobs = map (λ job. (analysed_by schema job).reply) jobs

-- one of some jobs is for this request type and step text
abbrev pub StepsAsked : ℕ → List ℕ → List StepJob → Type 0
StepsAsked request steps jobs = (out : List ℕ) × Member (record { request = request; steps = steps; out = out }) jobs

-- the buffer of each has room for a contribution
unfoldable pub AllRoomy : List StepJob → Type 0
AllRoomy [] = Unit
AllRoomy (job ∷ jobs) = (1026 ≤ length job.out) × AllRoomy jobs
