-- Laws of what an ancestors walk meets first. No contract cites this file.
use Rattle.std.specs.Prelude.{ℕ, suc, ◌+◌, ◌≤◌, ◌<◌, ◌≡◌, List, [], ◌∷◌, ◌++◌, map, leb, length, take, drop}
use Rattle.std.proofs.Common.{arith, ◌∙◌, append_assoc, append-nil, length-append, take_at, length-take-le}
use Rattle.std.proofs.lemmas.List.{map-append, length-map}
use Rattle.std.proofs.Math.Option.{some}
use Rattle.std.proofs.lemmas.List.Edits.{sets, sets-eq}
use Rattle.rules.specs.Facts.{by_test, by_option}
use Rattle.rules.specs.Tries.{Row, ids}
use Rattle.rules.specs.Loading.{done, Request, EntityRequest, Event, Wanted, entity_named, at_roots, initial_entities, batch_of, ◌then◌, take_events}
use Rattle.rules.specs.WalkRows.{remaining_rows}
use Rattle.rows.specs.States.{rows_of}
use Rattle.values.specs.ValueWords.{value_rows_of, row_asked, request_word}
use Rattle.words.specs.Runs.{Wrote}
use Rattle.words.specs.RunLaws.{wrote_length}
use Rattle.row_walk.specs.Batches.{yields, BatchWritten}
use Rattle.row_walk.specs.Initial.{request_with as request_of, asks_at, ContextAt}
use Rattle.row_walk.specs.InitialLaws.{initial_rows}
use Rattle.row_walk.specs.declared.initial.Request.{Request as Asked}
use Rattle.row_walk.specs.YieldLaws.{yields_append, batch_length}
use Rattle.row_walk.specs.SmallLaws.{SmallRows, small_roots, batch_small, rows_again}
use Rattle.ancestors.specs.Sets.{IsSet}
use Rattle.slices.specs.Slices.{rows_asked}
use Rattle.ancestors.specs.Takings.{wanted_in, Takes}
use Rattle.ancestors.specs.declared.set.AncestorSet.{AncestorSet}
use Rattle.std.specs.Prelude.{Some, Result, Ok, Err}
use Rattle.ancestors.specs.declared.events.Taken.{Taken}
use Rattle.ancestors.specs.TakingLaws.{take-append, takes_same, takes_refused, takes_then}

-- words that are written behind the rows that wait
taken_more : (out : List ℕ) (at : ℕ) (words : List ℕ) → at + length words ≤ length out → take (at + length words) (sets out at words) ≡ take at out ++ words
taken_more out at words room =
    rw (sets-eq words out at room)
    (take_at (take at out ++ words) (drop (at + length words) out) (at + length words)
    (omega (arith, length-append (take at out) words, length-take-le at out (omega arith))))

-- roots are rows only
roots_take :
    (place : ℕ) (request : Request) (depth node : ℕ) (rows : List Row) (found : List EntityRequest) (wanted : Wanted)
    → batch_of (at_roots request depth node rows) ≡ some found
    → take_events place (at_roots request depth node rows) wanted ≡ done (record { ids = wanted.ids; next = wanted.next ++ found })
unfolding at_roots batch_of take_events
roots_take place request depth node [] found wanted e = let same : [] ≡ found = cc in rw (← same, append-nil wanted.next)
roots_take place request depth node (row ∷ rows) found wanted e =
    by_test (leb row.depth depth)
    (λ above. let same : [] ≡ found = cc (rw above at e) in rw (above, ← same, append-nil wanted.next))
    (λ below.
    by_test (asks_at depth row)
    (λ asks.
    by_option (batch_of (at_roots request depth (suc node) rows))
    (λ none_there. absurd (let z : ◌≡◌ {A = ℕ} 0 1 = cc (rw (below, asks, none_there) at e) in omega arith))
    (λ more there.
    let here : EntityRequest = record { id = entity_named request row.step; node = node } in
    let same : here ∷ more ≡ found = cc (rw (below, asks, there) at e) in
    rw (below, asks, ← same)
    (roots_take place request depth (suc node) rows more (record { ids = wanted.ids; next = wanted.next ++ (here ∷ []) }) there
    ∙ rw (append_assoc wanted.next (here ∷ []) more))))
    (λ other. rw (below, other) (roots_take place request depth (suc node) rows found wanted (rw (below, other) at e))))

-- the rows of the roots, written behind those that wait
pub roots_takes :
    (request : Request) (depth node : ℕ) (rows : List Row) (set : AncestorSet) (out : List ℕ) (at : ℕ) (out' : List ℕ) (end : ℕ)
    → request.principal < ids
    → request.resource < ids
    → IsSet set
    → at + yields (at_roots request depth node rows) ≤ length out
    → BatchWritten out at out' (batch_of (at_roots request depth node rows)) (Some end)
    → Takes (λ place. take_events place (at_roots request depth node rows) (wanted_in set out at)) out' (Ok (record { set = set; end = end }))
roots_takes request depth node rows set out at out' end h k is room written =
    by_option (batch_of (at_roots request depth node rows))
    (λ e. absurd (rw e at written))
    (λ found e.
    let wrote : Wrote out at (map request_word found) out' end = rw e at written in
    let small : SmallRows found = batch_small (at_roots request depth node rows) found e (small_roots request depth node rows h k) in
    let waits : rows_asked (take end out') ≡ rows_asked (take at out) ++ found =
    rw (wrote.after, wrote.text, taken_more out at (map request_word found) (omega (arith, fits found e)))
    (map-append row_asked (take at out) (map request_word found) ∙ rw (rows_again found small)) in
    record {
      answers = λ place. roots_take place request depth node rows found (wanted_in set out at) e ∙ rw waits;
      taken = (is, omega (arith, wrote.after, wrote_length wrote, fits found e));
    })
  where
    fits : (found : List EntityRequest) → batch_of (at_roots request depth node rows) ≡ some found → at + length (map request_word found) ≤ length out
    fits found e = omega (arith, length-map found request_word, batch_length (at_roots request depth node rows) found e)

-- ---- the context, and then the roots

module _ (nodes : List ℕ) (depth from : ℕ) (asked : Asked) (context : List ℕ) (root : ℕ) (at-root : ContextAt nodes depth from root) where
  abbrev initial : List Event
  initial = initial_entities (request_of asked context) depth from (rows_of (drop from nodes))

  abbrev inside : List Event
  inside = remaining_rows (rows_of nodes) root (value_rows_of context)

  abbrev roots : List Event
  roots = at_roots (request_of asked []) depth from (rows_of (drop from nodes))

  split : initial ≡ inside ++ roots
  split = initial_rows asked context depth from (rows_of (drop from nodes)) ∙ rw (at-root.meets (value_rows_of context))

  pub initial_room : yields initial ≡ yields inside + yields roots
  initial_room = rw split (yields_append inside roots)

  module _ (wanted : Wanted) {out : List ℕ} {r : Result Taken ℕ} (first : Takes (λ place. take_events place inside wanted) out r) where
    both : (place : ℕ) → take_events place initial wanted ≡ take_events place inside wanted then take_events place roots
    both place = rw split (take-append place inside roots wanted)

    pub initial_refused : {number : ℕ} → r ≡ Err number → Takes (λ place. take_events place initial wanted) out (Err number)
    initial_refused is = takes_same both (takes_refused first (λ place. take_events place roots) is)

    pub initial_then : {taken : Taken} {out₂ : List ℕ} {r₂ : Result Taken ℕ} → r ≡ Ok taken →
        Takes (λ place. take_events place roots (wanted_in taken.set out taken.end)) out₂ r₂ → Takes (λ place. take_events place initial wanted) out₂ r₂
    initial_then is second = takes_same both (takes_then first is (λ place. take_events place roots) second)
