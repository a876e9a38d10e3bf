-- Laws of an entry in a manifest's words. No contract cites this file.
use Rattle.std.specs.Prelude.{ℕ, zero, suc, ◌+◌, ◌≤◌, ◌<◌, ◌≡◌, refl, List, [], ◌∷◌, eqb, length, take, drop, get_or}
use Rattle.std.proofs.Common.{arith, add-one, ap, ◌∙◌, length-drop, drop_of_length-le, drop-cons, length-take-le}
use Rattle.std.proofs.Math.Option.{Option, none, some}
use Rattle.std.proofs.lemmas.List.{length-map}
use borrow.Author.Tests.{eq-eqb, ne_eqb}
use Rattle.rules.specs.Facts.{by_test}
use Rattle.rules.specs.Tries.{Row, is_entry, count, nodes_in}
use Rattle.rules.specs.LoadCalls.{Entry, nodes_ahead, entry_for}
use Rattle.rows.specs.Words.{depth_in, step_in, row_in}
use Rattle.rows.specs.States.{rows_of}
use Rattle.entries.specs.Entries.{EntryAt, FoundAs}
use Rattle.entries.specs.declared.entry.EntryPlace.{EntryPlace}
use Rattle.std.specs.Prelude.{Option as Maybe, Some, None}

-- the first words are nodes, so many
abbrev pub EntryAhead : List ℕ → ℕ → Type 0
EntryAhead words i = (j : ℕ) → j < i → depth_in (get_or words j 0) ≡ 0 → ⊥

tail_ahead : (w : ℕ) (words : List ℕ) (i : ℕ) → EntryAhead (w ∷ words) (suc i) → EntryAhead words i
tail_ahead w words i h j less = h (suc j) (omega arith)

-- a node in front of others
front : (rows : List Row) {more : List Row} (row : Row) → (row.depth ≡ 0 → ⊥) → nodes_ahead rows ≡ more → nodes_ahead (row ∷ rows) ≡ row ∷ more
unfolding nodes_ahead
front rows row n e = rw (ne_eqb row.depth 0 n) (ap (λ rest. row ∷ rest) e)

-- they are those in front of an entry, or all
pub ahead_of :
    (words : List ℕ) (i : ℕ)
    → EntryAhead words i
    → i < length words
    → depth_in (get_or words i 0) ≡ 0
    → nodes_ahead (rows_of words) ≡ rows_of (take i words)
unfolding nodes_ahead
ahead_of [] i h less e = absurd (omega arith)
ahead_of (w ∷ words) zero h less e = rw (eq-eqb (depth_in w) 0 e)
ahead_of (w ∷ words) (suc i) h less e =
    front (rows_of words) (row_in w) (h 0 (omega arith)) (ahead_of words i (tail_ahead w words i h) (omega arith) e)

pub ahead_all : (words : List ℕ) → EntryAhead words (length words) → nodes_ahead (rows_of words) ≡ rows_of words
unfolding nodes_ahead
ahead_all [] h = refl
ahead_all (w ∷ words) h = front (rows_of words) (row_in w) (h 0 (omega arith)) (ahead_all words (tail_ahead w words (length words) h))

-- a look at one row: another's entry, a node, the entry itself
module _ (row : Row) (rows : List Row) (request nodes : ℕ) where
  pub passed_entry :
      row.depth ≡ 0 → (row.step ≡ request → ⊥) → entry_for request nodes (row ∷ rows) ≡ entry_for request nodes rows
  unfolding entry_for
  passed_entry e other = rw (eq-eqb row.depth 0 e, ne_eqb row.step request other)

  pub passed_node : (row.depth ≡ 0 → ⊥) → entry_for request nodes (row ∷ rows) ≡ entry_for request (suc nodes) rows
  unfolding entry_for
  passed_node e = rw (ne_eqb row.depth 0 e)

  pub met_entry :
      row.depth ≡ 0
      → row.step ≡ request
      → entry_for request nodes (row ∷ rows) ≡ some (record { first = nodes; nodes = nodes_ahead rows })
  unfolding entry_for
  met_entry e same = rw (eq-eqb row.depth 0 e, eq-eqb row.step request same)

-- the row at a place, and those behind it
pub next_rows : (words : List ℕ) (i : ℕ) → i < length words → rows_of (drop i words) ≡ row_in (get_or words i 0) ∷ rows_of (drop (i + 1) words)
next_rows words i less = rw (add-one, drop-cons words i 0 less)

-- no row is left
pub no_entry : (words : List ℕ) (request nodes i : ℕ) → length words ≤ i → entry_for request nodes (rows_of (drop i words)) ≡ none
unfolding entry_for
no_entry words request nodes i h = rw (drop_of_length-le words h)

-- the entry's own row stands at a place, and its nodes behind it
pub found_entry :
    (words part : List ℕ) (request nodes i n : ℕ)
    → part ≡ drop (i + 1) words
    → i < length words
    → depth_in (get_or words i 0) ≡ 0
    → step_in (get_or words i 0) ≡ request
    → entry_for request 0 (rows_of words) ≡ some (record { first = nodes; nodes = nodes_ahead (rows_of (drop (i + 1) words)) })
    → nodes_ahead (rows_of part) ≡ rows_of (take n part)
    → n ≤ length part
    → FoundAs words request (entry_for request 0 (rows_of words)) (Some (record { first = nodes; at = i; nodes = n }))
found_entry words part request nodes i n same inside depth step e ahead few =
    rw e (
      record { first = nodes; at = i; nodes = n },
      refl,
      record {
        number = refl;
        own_depth = depth;
        own_step = step;
        rows = rw same at ahead;
        within = omega (arith, ap length same, length-drop (i + 1) words);
      },
    )

-- an entry has no more nodes than the manifest
ahead_few : (rows : List Row) → length (nodes_ahead rows) ≤ nodes_in rows
unfolding nodes_ahead count
ahead_few [] = omega arith
ahead_few (row ∷ rows) = by_test (is_entry row) (λ e. rw e (omega arith)) (λ e. rw e (omega (arith, ahead_few rows)))

pub entry_few : (request nodes : ℕ) (rows : List Row) (entry : Entry) → entry_for request nodes rows ≡ some entry → length entry.nodes ≤ nodes_in rows
unfolding entry_for count
entry_few request nodes [] entry e = let z : ◌≡◌ {A = ℕ} 0 1 = cc in absurd (omega arith)
entry_few request nodes (row ∷ rows) entry e =
    by_test (is_entry row)
    (λ t.
    by_test (eqb row.step request)
    (λ u.
    let same : entry ≡ record { first = nodes; nodes = nodes_ahead rows } = cc (rw (t, u) at e) in
    rw (t, same) (ahead_few rows))
    (λ u. rw t (entry_few request nodes rows entry (rw (t, u) at e))))
    (λ t. rw t (omega (arith, entry_few request (suc nodes) rows entry (rw t at e))))

-- what an answer says of the entry
pub found_missing : (words : List ℕ) (request : ℕ) (o : Option Entry) (r : Maybe EntryPlace) → FoundAs words request o r → r ≡ None → o ≡ none
found_missing words request none r h e = refl
found_missing words request (some entry) r (place, is, here) e = cc

pub found_found :
    (words : List ℕ) (request : ℕ) (o : Option Entry) (r : Maybe EntryPlace) {place : EntryPlace}
    → FoundAs words request o r
    → r ≡ Some place
    → (entry : Entry) × (o ≡ some entry) × EntryAt words request entry place
found_found words request none r h e = absurd (cc)
found_found words request (some entry) r {place} (place', is, here) e =
    let same : place' ≡ place = cc in
    (entry, refl, rw same at here)

pub entry_count : (words : List ℕ) (request : ℕ) (entry : Entry) (place : EntryPlace) → EntryAt words request entry place → length entry.nodes ≡ place.nodes
entry_count words request entry place here =
    rw here.rows
    (length-map (take place.nodes (drop (place.at + 1) words)) row_in
    ∙ length-take-le place.nodes (drop (place.at + 1) words) (simp length-drop (omega (arith, here.within))))
