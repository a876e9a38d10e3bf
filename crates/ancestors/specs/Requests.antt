-- All ancestors requests as words, and what the call that writes them answers and leaves.
use Rattle.std.specs.Prelude.{ℕ, ◌+◌, ◌*◌, ◌/◌, ◌%◌, ◌≤◌, ◌≡◌, Bool, false, length}
use mathlib.Core.List.{List, [], ◌∷◌, ◌++◌, flatten}
use Rattle.std.proofs.lemmas.List.Edits.{sets}
use Rattle.rules.specs.Tries.{Row, ids}
use Rattle.rules.specs.Loading.{LoadAnswer, done, refused_at, counted, EntityRequest, has_ancestors_trie, ancestors_requests}
use Rattle.rows.specs.States.{rows_of}
use Rattle.words.specs.Replies.{Reply, Done, Refused}
use Rattle.row_walk.specs.Initial.{request_with as request_of}
use Rattle.row_walk.specs.declared.initial.Request.{Request as Asked}
use Rattle.ancestors.specs.declared.requests.AncestorsRequest.{AncestorsRequest}
use Rattle.ancestors.specs.SliceWords.{slice_in}
use Rattle.slices.specs.Slices.{rows_asked}

-- the requests for all rows that were asked
abbrev pub all_requests : Asked → List ℕ → List ℕ → List ℕ → List ℕ → LoadAnswer (List (List ℕ))
all_requests request context nodes slice asked =
    ancestors_requests (request_of request context) (rows_of nodes) (slice_in slice) 0 (rows_asked asked)

-- whether some root stands right below the first of some rows: whether it has an ancestors trie
abbrev pub roots_below : List Row → Bool
roots_below [] = false
roots_below (row ∷ rows) = has_ancestors_trie row rows

-- a request's head: its entity, and 65,536 times the count of its ids
abbrev pub head_of : ℕ → ℕ → ℕ
head_of id count = id + count * ids

-- what a head says
abbrev pub request_in : ℕ → AncestorsRequest
request_in word = record { id = word % ids; count = word / ids }

unfoldable pub heads : List EntityRequest → List (List ℕ) → List ℕ
heads [] lists = []
heads (row ∷ rows) [] = []
heads (row ∷ rows) (wanted ∷ lists) = head_of row.id (length wanted) ∷ heads rows lists

-- 'Ancestors requests out': the count, the heads, and the ids of each
abbrev pub request_words : List ℕ → List (List ℕ) → List ℕ
request_words asked lists = length asked ∷ (heads (rows_asked asked) lists ++ flatten lists)

-- whether all are done
abbrev pub JudgedAs : LoadAnswer (List (List ℕ)) → Reply → Type 0
JudgedAs (done lists) reply = reply ≡ Done
JudgedAs (refused_at number place) reply = reply ≡ Refused number place
JudgedAs (counted expected got) reply = ⊥

-- all are done, and there is room for them
pub record MayWrite (answer : LoadAnswer (List (List ℕ))) (asked out : List ℕ) : Type 0 where
  pub lists : List (List ℕ)
  pub is_done : answer ≡ done lists
  pub room : 1 + length asked + length (flatten lists) ≤ length out

abbrev pub WrittenAs : LoadAnswer (List (List ℕ)) → List ℕ → List ℕ → List ℕ → Type 0
WrittenAs answer asked out out' = (lists : List (List ℕ)) → answer ≡ done lists → out' ≡ sets out 0 (request_words asked lists)

-- there is room for them, if all are done
abbrev pub RoomFor : LoadAnswer (List (List ℕ)) → List ℕ → List ℕ → Type 0
RoomFor answer asked out = (lists : List (List ℕ)) → answer ≡ done lists → 1 + length asked + length (flatten lists) ≤ length out

-- What the call answers, and what the buffer then holds.
abbrev pub RequestsAnswered : LoadAnswer (List (List ℕ)) → List ℕ → List ℕ → List ℕ → Reply → Type 0
RequestsAnswered (done lists) asked out out' reply = (reply ≡ Done) × (out' ≡ sets out 0 (request_words asked lists))
RequestsAnswered (refused_at number place) asked out out' reply = (reply ≡ Refused number place) × (out' ≡ out)
RequestsAnswered (counted expected got) asked out out' reply = ⊥
