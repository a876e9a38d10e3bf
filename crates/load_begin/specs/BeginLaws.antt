-- Laws of begin. No contract cites this file.
use Rattle.std.specs.Prelude.{ℕ, zero, suc, ◌+◌, ◌/◌, ◌%◌, ◌^◌, ◌≤◌, ◌<◌, ◌≡◌, refl, true, false, not, ◌&&◌, List, [], ◌∷◌, leb, ltb, length, take, drop, get_or}
use Rattle.std.proofs.Common.{arith, add-one, sym, ap₂, drop-cons, eq-eqb, ne_eqb, ltb-true, leb-true}
use Rattle.std.proofs.Math.Bool.{and-eq-true_iff}
use Rattle.std.proofs.Math.Option.{Option, none, some}
use Rattle.std.proofs.lemmas.List.{length-map}
use Rattle.std.proofs.lemmas.Bool.{eqb-false, not-true}
use Rattle.rules.specs.Tries.{Row, manifest, ordered, entries_in, nodes_in}
use Rattle.rules.specs.ValueRowTests.{lawful_value_rows}
use Rattle.values.specs.ValueWords.{value_rows_of, request_word}
use Rattle.rules.specs.Listing.{read}
use Rattle.rules.specs.Loading.{LoadAnswer, done, refused_at, Request, EntityRequest, Load, load_begun, batch_of, initial_entities, counted, ◌then◌}
use Rattle.rules.specs.LoadCalls.{Entry, entry_for, ended, transcript, begin_load, turn_for}
use Rattle.words.specs.Runs.{words_in}
use Rattle.rows.specs.Words.{depth_in, mark_in, step_in, is_word, word_of}
use Rattle.rows.specs.WordLaws.{entry_word, all_words_cons, word_at, words_rows}
use Rattle.rows.specs.States.{all_words, lawful_state, rows_in, rows_of}
use Rattle.rows.specs.StateLaws.{rows_lawful}
use Rattle.row_walk.specs.Batches.{BatchWritten}
use Rattle.std.specs.Prelude.{Option as Maybe, Some, None}
use Rattle.batches.specs.Replays.{first_load}
use Rattle.load_state.specs.LoadStates.{context_words, load_words, is_request, request_of, turn_number, first_turn}
use Rattle.load_state.specs.Outcomes.{LoadOutcome, AnsweredAs}
use Rattle.load_state.specs.LoadReplies.{Done, Refused}
use Rattle.load_begin.specs.Begins.{entry_rows, storing_load, manifest_words, lawful_context, begun_by, begin_in, entry_words, begun_state, begun_with}

-- what a first batch comes to
abbrev first_or14 : Option (List EntityRequest) → LoadAnswer Load
first_or14 none = refused_at 14 0
first_or14 (some rows) = done (first_load rows)

first_or : (request : Request) (nodes : List Row) → load_begun request nodes ≡ first_or14 (batch_of (initial_entities request 0 0 nodes))
first_or request nodes = go (batch_of (initial_entities request 0 0 nodes))
  where
    go :
        (o : Option (List EntityRequest))
        → ◌≡◌ {A = LoadAnswer Load} (elim o [ none ↦ refused_at 14 0 | some rows ↦ done (first_load rows) ]) (first_or14 o)
    go none = refl
    go (some rows) = refl

turn_of : (rows : List EntityRequest) → turn_number (turn_for (first_load rows)) ≡ first_turn (length rows)
turn_of [] = refl
turn_of (row ∷ rows) = rw (ne_eqb (suc (length rows)) 0 (λ e. omega arith))

-- A load that begins with an entry, by its first batch.
module _ (triple principal resource : ℕ) (context state : List ℕ) (first : ℕ) (nodes : List Row) (out out' : List ℕ) where
  abbrev pub first_batch : Option (List EntityRequest)
  first_batch = batch_of (initial_entities (request_of triple principal resource context) 0 0 nodes)

  abbrev pub to_begin : LoadOutcome
  to_begin = begun_with triple principal resource context state first nodes (load_begun (request_of triple principal resource context) nodes)

  pub begun_bad : (r : Maybe ℕ) → BatchWritten out 0 out' first_batch r → r ≡ None → AnsweredAs to_begin (Refused 14 0) state
  begun_bad r h e = rw (first_or (request_of triple principal resource context) nodes) (go first_batch (rw e at h))
    where
      go :
          (o : Option (List EntityRequest))
          → BatchWritten out 0 out' o None
          → AnsweredAs (begun_with triple principal resource context state first nodes (first_or14 o)) (Refused 14 0) state
      go none h = (refl, refl)
      go (some rows) h = absurd h

  pub begun_to :
      (r : Maybe ℕ) {waiting : ℕ} (turn count : ℕ) (entry state' : List ℕ)
      → BatchWritten out 0 out' first_batch r
      → r ≡ Some waiting
      → turn ≡ first_turn waiting
      → count ≡ length nodes
      → entry ≡ entry_words triple nodes
      → state' ≡ begun_state state turn triple principal resource first entry context
      → AnsweredAs to_begin (Done count 0 0) state'
  begun_to r {waiting} turn count entry state' h e turns counts words stored =
      rw (first_or (request_of triple principal resource context) nodes) (go first_batch (rw e at h))
    where
      go :
          (o : Option (List EntityRequest))
          → BatchWritten out 0 out' o (Some waiting)
          → AnsweredAs (begun_with triple principal resource context state first nodes (first_or14 o)) (Done count 0 0) state'
      go none h = absurd h
      go (some rows) h =
          let few : waiting ≡ length rows = omega (arith, h.after, length-map rows request_word) in
          (rw counts, rw (stored, words, turns, few, turn_of rows))

-- The entry's own row and its nodes, as they stand in a manifest's words.

all_none : all_words [] ≡ true
unfolding all_words
all_none = refl

all_words_take : (n : ℕ) (words : List ℕ) → all_words words ≡ true → all_words (take n words) ≡ true
all_words_take zero words h = all_none
all_words_take (suc n) [] h = all_none
all_words_take (suc n) (w ∷ words) h =
    let (good, rest) = (all_words_cons w words).0 h in
    (all_words_cons w (take n words)).1 (good, all_words_take n words rest)

all_words_drop : (n : ℕ) (words : List ℕ) → all_words words ≡ true → all_words (drop n words) ≡ true
all_words_drop zero words h = h
all_words_drop (suc n) [] h = h
all_words_drop (suc n) (w ∷ words) h = all_words_drop n words ((all_words_cons w words).0 h).1

-- the word of an entry's own row
own_word : (w triple : ℕ) → is_word w ≡ true → depth_in w ≡ 0 → step_in w ≡ triple → w ≡ word_of (read 0 triple false)
own_word w triple good depth step =
    let (small, unmarked) = (and-eq-true_iff (ltb (step_in w) (2 ^ 48)) (not (mark_in w))).0 (rw (entry_word w depth) at good) in
    let bit : w / 32 % 2 ≡ 1 → ⊥ = eqb-false (w / 32 % 2) 1 (not-true (mark_in w) unmarked) in
    let high : w / 64 ≡ triple = rw (eq-eqb (depth_in w) 0 depth) at step in
    omega arith

pub own_words :
    (words : List ℕ) (triple at n : ℕ)
    → all_words words ≡ true
    → at + 1 + n ≤ length words
    → depth_in (get_or words at 0) ≡ 0
    → step_in (get_or words at 0) ≡ triple
    → take (n + 1) (drop at words) ≡ entry_words triple (rows_of (take n (drop (at + 1) words)))
own_words words triple at n good room depth step =
    let inside : at < length words = omega arith in
    let front : drop at words ≡ get_or words at 0 ∷ drop (at + 1) words = rw (add-one, drop-cons words at 0 inside) in
    let own = own_word (get_or words at 0) triple (word_at words at good inside) depth step in
    let nodes = words_rows (take n (drop (at + 1) words)) (all_words_take n (drop (at + 1) words) (all_words_drop (at + 1) words good)) in
    rw (add-one, front) (ap₂ (λ w ws. w ∷ ws) own (sym nodes))

-- what begin stores is the transcript that it comes to
entry-rows :
    (request : Request) (first : ℕ) (nodes : List Row) (waiting : List EntityRequest) (load : Load)
    → load.waiting ≡ waiting
    → entry_rows (transcript (turn_for load) request first nodes [] []) ≡ entry_words request.type nodes
entry-rows request first nodes [] load e = rw e
entry-rows request first nodes (row ∷ rows) load e = rw e

begun_load :
    (rows : List Row) (triple principal resource : ℕ) (context state : List ℕ)
    → storing_load context state (begin_load rows (request_of triple principal resource context))
    ≡ begun_by triple principal resource context state (entry_for triple 0 rows)
begun_load rows triple principal resource context state = go (entry_for triple 0 rows)
  where
    begun :
        (first : ℕ) (nodes : List Row) (answer : LoadAnswer Load)
        → storing_load context state
        (answer then (λ load. done (transcript (turn_for load) (request_of triple principal resource context) first nodes [] [])))
        ≡ begun_with triple principal resource context state first nodes answer
    begun first nodes (done load) =
        rw (entry-rows (request_of triple principal resource context) first nodes load.waiting load refl)
    begun first nodes (refused_at number place) = refl
    begun first nodes (counted expected got) = refl

    go :
        (o : Option Entry)
        → storing_load context state
        (elim o [
          | none ↦ done (transcript ended (request_of triple principal resource context) 0 [] [] [])
          | some entry ↦
              load_begun (request_of triple principal resource context) entry.nodes then
              (λ load. done (transcript (turn_for load) (request_of triple principal resource context) entry.first entry.nodes [] []))
        ])
        ≡ begun_by triple principal resource context state o
    go none = refl
    go (some entry) = begun entry.first entry.nodes (load_begun (request_of triple principal resource context) entry.nodes)

-- begin, by its tests
module _ (lent : List ℕ) (triple principal resource : ℕ) (context state : List ℕ) where
  pub begin_short :
      (leb manifest_words (length lent) && (leb context_words (length context) && leb load_words (length state))) ≡ false
      → AnsweredAs (begin_in lent triple principal resource context state) (Refused 31 0) state
  unfolding begin_in
  begin_short e = rw e (refl, refl)

  module _ (long : (leb manifest_words (length lent) && (leb context_words (length context) && leb load_words (length state))) ≡ true) where
    pub begin_unlawful :
        (lawful_state manifest lent && (is_request triple principal resource && lawful_context context)) ≡ false
        → AnsweredAs (begin_in lent triple principal resource context state) (Refused 1 0) state
    unfolding begin_in
    begin_unlawful e = rw (long, e) (refl, refl)

    pub begin_lawful :
        (lawful_state manifest lent && (is_request triple principal resource && lawful_context context)) ≡ true
        → begin_in lent triple principal resource context state
        ≡ begun_by triple principal resource (words_in context) state (entry_for triple 0 (rows_in lent))
    unfolding begin_in
    begin_lawful e = rw (long, e) (begun_load (rows_in lent) triple principal resource (words_in context) state)

-- what lawful parts say
pub context_few : (context : List ℕ) → lawful_context context ≡ true → get_or context 0 0 < 8193
unfolding lawful_context
context_few context h =
    ltb-true (get_or context 0 0) 8193
    ((and-eq-true_iff (ltb (get_or context 0 0) 8193) (lawful_value_rows (value_rows_of (words_in context)))).0 h).0

pub manifest_nodes : (lent : List ℕ) → lawful_state manifest lent ≡ true → nodes_in (rows_in lent) ≤ 4096
manifest_nodes lent h =
    let limits = ((and-eq-true_iff (ordered [] (rows_in lent)) (leb (entries_in (rows_in lent)) 64 && leb (nodes_in (rows_in lent)) 4096)).0 (rows_lawful manifest lent h)).1 in
    leb-true (nodes_in (rows_in lent)) 4096 ((and-eq-true_iff (leb (entries_in (rows_in lent)) 64) (leb (nodes_in (rows_in lent)) 4096)).0 limits).1
