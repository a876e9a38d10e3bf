-- What begin answers and leaves, in words.
use Rattle.std.specs.Prelude.{ℕ, Bool, false, cond, ◌&&◌, List, [], ◌∷◌, map, leb, ltb, length, get_or}
use Rattle.std.proofs.Math.Option.{Option, none, some}
use Rattle.std.proofs.lemmas.List.Edits.{sets}
use Rattle.rules.specs.Tries.{Row, manifest}
use Rattle.rules.specs.Listing.{read}
use Rattle.rules.specs.ValueRowTests.{lawful_value_rows}
use Rattle.rules.specs.Loading.{LoadAnswer, done, refused_at, counted, Load, load_begun}
use Rattle.rules.specs.LoadCalls.{Entry, Transcript, begin_load, batch_waits, answers_awaited, ancestors_to_ask, ancestors_awaited, ended, turn_for}
use Rattle.words.specs.Runs.{words_in}
use Rattle.rows.specs.Words.{word_of}
use Rattle.rows.specs.States.{lawful_state, rows_in}
use Rattle.values.specs.ValueWords.{value_rows_of}
use Rattle.load_state.specs.LoadStates.{load_words, context_words, is_request, request_of, turn_number}
use Rattle.load_state.specs.Outcomes.{LoadOutcome, refusing_call, counting_call}
use Rattle.load_state.specs.LoadReplies.{Done}

-- the one length of a manifest
abbrev pub manifest_words : ℕ
manifest_words = 4161

-- a context of at most 8,192 rows, which are those of a record
unfoldable pub lawful_context : List ℕ → Bool
lawful_context context = ltb (get_or context 0 0) context_words && lawful_value_rows (value_rows_of (words_in context))

-- the words of an entry: its own row and its nodes
abbrev pub entry_words : ℕ → List Row → List ℕ
entry_words triple nodes = map word_of (read 0 triple false ∷ nodes)

-- a load's first words, the entry and the context stored in a state; what lies between stays
abbrev pub begun_state : List ℕ → ℕ → ℕ → ℕ → ℕ → ℕ → List ℕ → List ℕ → List ℕ
begun_state state turn triple principal resource first entry context =
    sets
    (sets
    (sets state 0 (turn ∷ triple ∷ principal ∷ resource ∷ first ∷ length entry ∷ length context ∷ 0 ∷ 0 ∷ []))
    9 entry)
    4106 context

-- the same by the entry, as the code goes
module _ (triple principal resource : ℕ) (context state : List ℕ) where
  abbrev pub begun_with : ℕ → List Row → LoadAnswer Load → LoadOutcome
  begun_with first nodes (done load) =
      record {
        reply = Done (length nodes) 0 0;
        buffer = begun_state state (turn_number (turn_for load)) triple principal resource first (entry_words triple nodes) context;
      }
  begun_with first nodes (refused_at number place) = refusing_call number place state
  begun_with first nodes (counted expected got) = counting_call expected got state

  abbrev pub begun_by : Option Entry → LoadOutcome
  begun_by none = record { reply = Done 0 0 0; buffer = begun_state state 5 triple principal resource 0 [] context }
  begun_by (some entry) = begun_with entry.first entry.nodes (load_begun (request_of triple principal resource context) entry.nodes)

-- what begin stores of the transcript that it comes to (LoadCalls): no entry's rows where the load has ended at once
abbrev pub entry_rows : Transcript → List ℕ
entry_rows t =
    elim t.turn [
      | batch_waits ↦ entry_words t.request.type t.nodes
      | answers_awaited ↦ entry_words t.request.type t.nodes
      | ancestors_to_ask ↦ entry_words t.request.type t.nodes
      | ancestors_awaited ↦ entry_words t.request.type t.nodes
      | ended ↦ []
    ]

abbrev pub storing_load : List ℕ → List ℕ → LoadAnswer Transcript → LoadOutcome
storing_load context state (done t) =
    record {
      reply = Done (length t.nodes) 0 0;
      buffer =
          begun_state state (turn_number t.turn) t.request.type t.request.principal t.request.resource t.first (entry_rows t)
          context;
    }
storing_load context state (refused_at number place) = refusing_call number place state
storing_load context state (counted expected got) = counting_call expected got state

-- 31, then 1 at 0 for the manifest, the request or the context, then 14
unfoldable pub begin_in : List ℕ → ℕ → ℕ → ℕ → List ℕ → List ℕ → LoadOutcome
begin_in lent triple principal resource context state =
    cond (leb manifest_words (length lent) && (leb context_words (length context) && leb load_words (length state)))
    (cond (lawful_state manifest lent && (is_request triple principal resource && lawful_context context))
    (storing_load (words_in context) state (begin_load (rows_in lent) (request_of triple principal resource (words_in context))))
    (refusing_call 1 0 state))
    (refusing_call 31 0 state)
