-- Laws of lent states and of what the operations of `trie` answer (States). No contract cites this file.
use Rattle.std.specs.Prelude.{ℕ, ◌+◌, ◌≤◌, ◌<◌, ◌≡◌, refl, Bool, true, false, cond, ◌&&◌, List, [], ◌∷◌, ltb, leb, eqb, length, get_or}
use Rattle.std.proofs.Common.{arith, le-leb, ltb-true, leb-true, eqb-true, length-take, length-drop}
use Rattle.std.proofs.lemmas.Bool.{lt-leb}
use Rattle.std.proofs.lemmas.List.{length-map}
use Rattle.rules.specs.Facts.{by_test, both_true}
use Rattle.rules.specs.Tries.{Row, Form, count, entries_in, nodes_in, is_entry, ordered, found, lawful}
use Rattle.words.specs.Runs.{words_in}
use Rattle.rows.specs.States.{form_of, words_of, all_words, rows_in, lawful_state, held_as, has_of}
use Rattle.rows.specs.declared.Kind.{Kind}
use Rattle.rows.specs.declared.Kind.TheVariants.{Contribution, Manifest}
use Rattle.words.specs.Replies.{Refused}
use Rattle.std.specs.Prelude.{Ok}

-- ---- a lawful state

-- the test of `lawful` that rows are few enough for a form
abbrev limited : Form → List Row → Bool
limited form rows = cond form.single (eqb (entries_in rows) 1) (leb (entries_in rows) form.entries) && leb (nodes_in rows) form.nodes

module _ (form : Form) (state : List ℕ) (h : lawful_state form state ≡ true) where
  judged : (ltb (get_or state 0 0) (length state) ≡ true) × ((all_words (words_in state) && lawful form (rows_in state)) ≡ true)
  unfolding lawful_state
  judged = both_true (ltb (get_or state 0 0) (length state)) (all_words (words_in state) && lawful form (rows_in state)) h

  -- its count is below its length
  pub count_within : get_or state 0 0 < length state
  count_within = ltb-true (get_or state 0 0) (length state) judged.0

  -- its words pack rows
  pub words_good : all_words (words_in state) ≡ true
  words_good = (both_true (all_words (words_in state)) (lawful form (rows_in state)) judged.1).0

  -- its rows are lawful
  pub rows_lawful : lawful form (rows_in state) ≡ true
  rows_lawful = (both_true (all_words (words_in state)) (lawful form (rows_in state)) judged.1).1

  -- its rows are in order
  pub rows_ordered : ordered [] (rows_in state) ≡ true
  rows_ordered = (both_true (ordered [] (rows_in state)) _ rows_lawful).0

  -- and are few enough
  rows_limited : limited form (rows_in state) ≡ true
  rows_limited = (both_true (ordered [] (rows_in state)) _ rows_lawful).1

-- rows with at most as many entries and nodes as a form has
abbrev pub Within : Form → List Row → Type 0
Within form rows = (entries_in rows ≤ form.entries) × (nodes_in rows ≤ form.nodes)

-- a lawful state of a kind is within the kind's limits
pub limits_kept : (kind : Kind) (state : List ℕ) → lawful_state (form_of kind) state ≡ true → Within (form_of kind) (rows_in state)
limits_kept kind state h = go kind (rows_in state) (rows_limited (form_of kind) state h)
  where
    go : (kind : Kind) (rows : List Row) → limited (form_of kind) rows ≡ true → Within (form_of kind) rows
    go Contribution rows h =
        let (one, few) = both_true (eqb (entries_in rows) 1) (leb (nodes_in rows) 1024) h in
        omega (arith, eqb-true, leb-true)
    go Manifest rows h =
        let (types, few) = both_true (leb (entries_in rows) 64) (leb (nodes_in rows) 4096) h in
        omega (arith, leb-true)

-- a kind's length holds its count of rows, its entries and its nodes
pub kind_room : (kind : Kind) → 1 + ((form_of kind).entries + (form_of kind).nodes) ≡ words_of kind
kind_room Contribution = refl
kind_room Manifest = refl

-- no kind is longer than a manifest
pub kind_most : (kind : Kind) → words_of kind ≤ 4161
kind_most Contribution = omega arith
kind_most Manifest = omega arith

-- entries and nodes are all rows
pub all_rows : (rows : List Row) → entries_in rows + nodes_in rows ≡ length rows
unfolding count
all_rows [] = refl
all_rows (row ∷ rows) = by_test (is_entry row) (λ e. rw e (omega (arith, all_rows rows))) (λ e. rw e (omega (arith, all_rows rows)))

-- a state that counts more rows than its kind has room for is not lawful
pub lawful_many : (kind : Kind) (state : List ℕ) → words_of kind ≤ get_or state 0 0 → lawful_state (form_of kind) state ≡ false
lawful_many kind state many =
    by_test (lawful_state (form_of kind) state)
    (λ e.
    let held : get_or state 0 0 < length state = count_within (form_of kind) state e in
    let counted : length (rows_in state) ≡ get_or state 0 0 = simp (length-map, length-take, length-drop) (omega arith) in
    absurd (omega (arith, limits_kept kind state e, kind_room kind, all_rows (rows_in state), counted)))
    (λ e. e)

-- ---- places, by what was tested

module _ (kind : Kind) (state place : List ℕ) where
  pub has_short : length state < words_of kind → has_of kind state place ≡ Refused 31 0
  unfolding has_of
  has_short h = rw (lt-leb (words_of kind) (length state) h)

  module _ (long : words_of kind ≤ length state) where
    pub has_unlawful : lawful_state (form_of kind) state ≡ false → has_of kind state place ≡ Refused 1 0
    unfolding has_of
    has_unlawful e = rw (le-leb (words_of kind) (length state) long, e)

    pub has_lawful : lawful_state (form_of kind) state ≡ true → has_of kind state place ≡ Ok (held_as (found [] (rows_in state) place))
    unfolding has_of
    has_lawful e = rw (le-leb (words_of kind) (length state) long, e)
