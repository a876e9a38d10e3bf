-- The state of a load in words (docs/FORMS.md, 'Load state'): its parts, and which of them are of their form.
use Rattle.std.specs.Prelude.{ℕ, ◌+◌, ◌^◌, Bool, cond, ◌&&◌, List, ltb, eqb, take, drop, get_or}
use Rattle.std.specs.Result.{is_ok}
use Rattle.rules.specs.Tries.{ids}
use Rattle.rules.specs.ValueRowTests.{attributes_from, lawful_value_rows}
use Rattle.rules.specs.Loading.{Request}
use Rattle.rules.specs.LoadCalls.{Turn, batch_waits, answers_awaited, ancestors_to_ask, ancestors_awaited, ended}
use Rattle.rows.specs.Words.{step_in}
use Rattle.rows.specs.States.{lawful_entry}
use Rattle.values.specs.ValueWords.{value_rows_of}
use Rattle.answers.specs.Answers.{lent_from, checked_as}
use Rattle.answers.specs.declared.Lending.{Lending}
use Rattle.answers.specs.declared.Lending.TheVariants.{Answers, Sets}

-- the one length of a load's state, and of a context
abbrev pub load_words : ℕ
load_words = 36874

abbrev pub context_words : ℕ
context_words = 8193

-- 'A request names its type triple, principal, resource and context value': numbers that are ids
abbrev pub is_request : ℕ → ℕ → ℕ → Bool
is_request triple principal resource = ltb triple (ids ^ 3) && (ltb principal ids && ltb resource ids)

abbrev pub request_of : ℕ → ℕ → ℕ → List ℕ → Request
request_of triple principal resource rows =
    record { type = triple; principal = principal; resource = resource; context = attributes_from 1 (value_rows_of rows) }

abbrev pub turn_number : Turn → ℕ
turn_number batch_waits = 1
turn_number answers_awaited = 2
turn_number ancestors_to_ask = 3
turn_number ancestors_awaited = 4
turn_number ended = 5

-- a batch waits where rows do
abbrev pub first_turn : ℕ → ℕ
first_turn waiting = cond (eqb waiting 0) 3 1

-- The parts of a lent state: the entry's rows, the context's, and the words of answers and of sets of ancestor ids.
abbrev pub entry_in : List ℕ → List ℕ
entry_in state = take (get_or state 5 0) (drop 9 state)

abbrev pub context_in : List ℕ → List ℕ
context_in state = take (get_or state 6 0) (drop 4106 state)

abbrev pub answer_words : List ℕ → List ℕ
answer_words state = take 12288 (drop 12298 state)

abbrev pub set_words : List ℕ → List ℕ
set_words state = take 12288 (drop 24586 state)

-- a turn, and a request's numbers
unfoldable pub good_head : List ℕ → Bool
good_head state = (ltb 0 (get_or state 0 0) && ltb (get_or state 0 0) 6) && is_request (get_or state 1 0) (get_or state 2 0) (get_or state 3 0)

-- no entry, or the rows of an entry of the request's type, whose nodes are among a manifest's 4,096
unfoldable pub good_entry : List ℕ → Bool
good_entry state =
    cond (eqb (get_or state 5 0) 0) (eqb (get_or state 4 0) 0)
    (ltb (get_or state 5 0) 4098
    && (lawful_entry (entry_in state) && (eqb (step_in (get_or state 9 0)) (get_or state 1 0) && ltb (get_or state 4 0 + get_or state 5 0) 4098)))

unfoldable pub good_context : List ℕ → Bool
good_context state = ltb (get_or state 6 0) context_words && lawful_value_rows (value_rows_of (context_in state))

-- answers and sets that are of their form
unfoldable pub good_lent : Lending → ℕ → List ℕ → Bool
good_lent lent count words = ltb count 4097 && is_ok (checked_as (lent_from lent 0 count words))

unfoldable pub good_parts : List ℕ → Bool
good_parts state =
    good_head state
    && (good_entry state
    && (good_context state
    && (good_lent Answers (get_or state 7 0) (answer_words state) && good_lent Sets (get_or state 8 0) (set_words state))))
