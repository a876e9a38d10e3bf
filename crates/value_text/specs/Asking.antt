-- What the first line of a request is read as, and what reading a request's text answers and leaves.
use Rattle.std.specs.Prelude.{ℕ, cond, List, ◌∷◌, map, leb, length, Option as Maybe, Some, None, Result, Ok}
use Rattle.std.proofs.Math.Option.{Option, none, some}
use Rattle.std.proofs.lemmas.List.Edits.{sets}
use Rattle.rules.specs.Numbers.{Answer, accepted, refused}
use Rattle.rules.specs.Text.{decimal_of}
use Rattle.rules.specs.Tries.{request_of}
use Rattle.rules.specs.ValueTexts.{Asked, RequestRead, read_request}
use Rattle.values.specs.ValueWords.{value_word}
use Rattle.words.specs.Replies.{Refused}
use Rattle.words.specs.declared.Refusal.{Refusal}
use Rattle.value_text.specs.declared.request.Request.{Request}
use Rattle.value_text.specs.Fields.{first_by, only_by}
use Rattle.value_text.specs.Outcomes.{value_words}

-- what a first line was read as
abbrev pub asked : ℕ → ℕ → ℕ → Asked
asked type principal resource = record { type = type; principal = principal; resource = resource }

abbrev pub asked_in : Request → Asked
asked_in r = asked r.request_type r.principal r.resource

abbrev pub asked_read : Maybe Request → Option Asked
asked_read (Some r) = some (asked_in r)
asked_read None = none

-- the fields of a request behind its letter: the last, the last two, and so on
abbrev pub resource_fields : ℕ → ℕ → ℕ → ℕ → List (List ℕ) → Option Asked
resource_fields p a r principal = only_by decimal_of (λ resource. some (asked (request_of p a r) principal resource))

abbrev pub principal_fields : ℕ → ℕ → ℕ → List (List ℕ) → Option Asked
principal_fields p a r = first_by decimal_of (resource_fields p a r)

abbrev pub resource_type_fields : ℕ → ℕ → List (List ℕ) → Option Asked
resource_type_fields p a = first_by decimal_of (principal_fields p a)

abbrev pub action_fields : ℕ → List (List ℕ) → Option Asked
action_fields p = first_by decimal_of (resource_type_fields p)

abbrev pub asked_fields : List (List ℕ) → Option Asked
asked_fields = first_by decimal_of action_fields

-- What reading a request answers, and what the lent state then holds.
pub record RequestOutcome : Type 0 where
  pub reply : Result Request Refusal
  pub buffer : List ℕ

abbrev pub refusing_request : ℕ → ℕ → List ℕ → RequestOutcome
refusing_request number place out = record { reply = Refused number place; buffer = out }

abbrev pub request_in : Asked → Request
request_in a = record { request_type = a.type; principal = a.principal; resource = a.resource }

-- reading: 31, then what the text gives by line
abbrev pub storing_request : List ℕ → Answer RequestRead → RequestOutcome
storing_request out (accepted request) = record {
  reply = Ok (request_in request.asked);
  buffer = sets out 0 (length request.context ∷ map value_word request.context);
}
storing_request out (refused number place) = refusing_request number place out

unfoldable pub read_request_in : List ℕ → List ℕ → RequestOutcome
read_request_in text out = cond (leb value_words (length out)) (storing_request out (read_request text)) (refusing_request 31 0 out)
