-- Laws of writing lines byte by byte, and of their length. No contract cites this file.
use Rattle.std.specs.Prelude.{ℕ, ◌+◌, ◌*◌, ◌^◌, ◌≤◌, ◌<◌, Bool, true, false, cond, List, [], ◌∷◌, ◌++◌, ◌≡◌, refl, ◌≢◌, leb, ltb, length, get_or, drop}
use Rattle.std.proofs.Math.Numerals.{add-one}
use Rattle.std.proofs.Common.{arith, ◌∙◌, ltb-true, leb-true, ne_eqb, drop_of_length-le, length-append, drop-cons}
use Rattle.std.proofs.Math.Path.{sym}
use Rattle.std.proofs.lemmas.List.Edits.{sets}
use Rattle.std.proofs.Math.Seq.{length-sets, append_snoc}
use Rattle.rules.specs.Facts.{by_test, both_true}
use Rattle.rules.specs.Text.{bytes, decimal, LF, TAB}
use Rattle.rules.proofs.TextLaws.{length_decimal, length_decimal_in}
use Rattle.rules.specs.Tries.{Row, is_entry, is_row, kind_of, id_of, principal_of, action_of, resource_of, at, count, entries_in, nodes_in}
use Rattle.rules.proofs.TrieLaws.{Ordered, node_step}
use Rattle.rules.specs.Listing.{line_of, letters, fields_for, listing, read}
use Rattle.rows.specs.Words.{depth_in, step_in, mark_in, row_in, is_word}
use Rattle.rows.specs.WordLaws.{is-row}
use Rattle.rows.specs.States.{rows_of}
use Rattle.listing_lines.specs.Lines.{line_for}
use Rattle.words.specs.Runs.{Wrote}
use Rattle.words.specs.RunLaws.{wrote_length, wrote_more, wrote_left}

-- ---- lines

-- a field before others
pub wrote_field :
    (field more : List ℕ) (fields : List (List ℕ)) {out out₁ out₂ : List ℕ} {at at₁ at₂ : ℕ}
    → Wrote out at (field ++ (TAB ∷ [])) out₁ at₁
    → Wrote out₁ at₁ (line_of (more ∷ fields)) out₂ at₂
    → Wrote out at (line_of (field ∷ more ∷ fields)) out₂ at₂
unfolding line_of
wrote_field field more fields first rest = rw append_snoc at (wrote_more first rest)

-- the last field
pub wrote_last : (field : List ℕ) {out out' : List ℕ} {at at' : ℕ} → Wrote out at (field ++ (LF ∷ [])) out' at' → Wrote out at (line_of (field ∷ [])) out' at'
unfolding line_of
wrote_last field w = w

-- the length of a line, field by field
length_field : (field more : List ℕ) (fields : List (List ℕ)) → length (line_of (field ∷ more ∷ fields)) ≡ length field + (1 + length (line_of (more ∷ fields)))
unfolding line_of
length_field field more fields = rw length-append (omega arith)

length_last : (field : List ℕ) → length (line_of (field ∷ [])) ≡ length field + 1
unfolding line_of
length_last field = length-append field (LF ∷ [])

-- the digit of a mark is one byte
length_mark : (mark : Bool) → length (cond mark (bytes "1") (bytes "0")) ≡ 1
length_mark true = refl
length_mark false = refl

-- the length of an entry's line, and of a node's
entry_length : (row : Row) → is_entry row ≡ true →
    length (line_for row) ≡ 5 + length (decimal (principal_of row.step)) + length (decimal (action_of row.step)) + length (decimal (resource_of row.step))
entry_length row e = rw e (simp (length_field, length_last) (omega arith))

node_length : (row : Row) → is_entry row ≡ false → length (line_for row) ≡ 8 + length (decimal row.depth) + length (decimal (id_of row.step))
node_length row e = rw e (simp (length_field, length_last, length_mark) (omega arith))

-- the fields of a node's line after the first
abbrev pub node_fields : ℕ → ℕ → Bool → List (List ℕ)
node_fields depth step mark =
    decimal depth ∷ (get_or letters (kind_of step) 0 ∷ []) ∷ decimal (id_of step) ∷ cond mark (bytes "1") (bytes "0") ∷ []

pub node-fields : (depth step : ℕ) (mark : Bool) → 0 < depth → fields_for (read depth step mark) ≡ bytes "N" ∷ node_fields depth step mark
node-fields depth step mark h = rw (ne_eqb depth 0 (omega arith))

-- the fields of a line fit from a place on
pub record LineRoom (out : List ℕ) (at : ℕ) (fields : List (List ℕ)) : Type 0 where
  pub fits : at + length (line_of fields) ≤ length out

-- so do the first and the byte that ends it
pub field_room : {out field : List ℕ} {fields : List (List ℕ)} {at : ℕ} → LineRoom out at (field ∷ fields) → at + length field < length out
field_room {out} {field} {fields} {at} room = go fields room.fits
  where
    go : (fields : List (List ℕ)) → at + length (line_of (field ∷ fields)) ≤ length out → at + length field < length out
    go [] h = omega (arith, length_last field)
    go (more ∷ fields) h = omega (arith, length_field field more fields)

-- and the others after that
pub room_left :
    {out field more out' : List ℕ} {fields : List (List ℕ)} {at at' : ℕ}
    → LineRoom out at (field ∷ more ∷ fields)
    → Wrote out at (field ++ (TAB ∷ [])) out' at'
    → LineRoom out' at' (more ∷ fields)
room_left {field} {more} {fields} room w =
    record { fits = omega (arith, room.fits, length_field field more fields, length-append field (TAB ∷ []), wrote_length w) }

-- ---- runs of rows

-- The lines of the words from i on are left to be written from a place on, and lead to those of all words.
pub record Leads (start words out : List ℕ) (at i : ℕ) : Type 0 where
  pub left : Wrote out at (listing (rows_of (drop i words))) (sets start 0 (listing (rows_of words))) (length (listing (rows_of words)))

module _ {start words out : List ℕ} {at i : ℕ} (leads : Leads start words out at i) where
  -- the length stays
  pub leads_length : length out ≡ length start
  leads_length = sym (wrote_length leads.left) ∙ length-sets start 0 (listing (rows_of words))

  -- past the last
  pub leads_all : length words ≤ i → Wrote start 0 (listing (rows_of words)) out at
  unfolding listing
  leads_all h = let none_left = rw (drop_of_length-le words h) at leads.left in record { after = omega (arith, none_left.after); text = sym none_left.text }

  module _ (h : i < length words) where
    -- the next line, and those after it
    next_line :
        Wrote out at (line_for (row_in (get_or words i 0)) ++ listing (rows_of (drop (i + 1) words))) (sets start 0 (listing (rows_of words))) (length (listing (rows_of words)))
    unfolding listing
    next_line = rw add-one (rw (drop-cons words i 0 h) at leads.left)

    pub leads_room : length (listing (rows_of words)) ≤ length start → at + length (line_for (row_in (get_or words i 0))) ≤ length out
    leads_room room =
        omega (arith, leads_length, next_line.after, length-append (line_for (row_in (get_or words i 0))) (listing (rows_of (drop (i + 1) words))))

    pub leads_next : {out' : List ℕ} {at' : ℕ} → Wrote out at (line_for (row_in (get_or words i 0))) out' at' → Leads start words out' at' (i + 1)
    leads_next w = record { left = wrote_left w next_line }

-- ---- rows by themselves

-- a node's step is of six kinds
node_kind : (row : Row) → is_row row ≡ true → is_entry row ≡ false → kind_of row.step ≤ 5
node_kind row whole e = leb-true _ _ (both_true (leb (kind_of row.step) 5) _ (node_step row whole e)).0

-- The line of a word, by the parts that were read from it.
module _ (w : ℕ) {depth step : ℕ} (depths : depth ≡ depth_in w) (steps : step ≡ step_in w) where
  pub node_line : {mark : Bool} → mark ≡ mark_in w → line_for (row_in w) ≡ line_for (read depth step mark)
  node_line marks = rw (depths, steps, marks)

  pub node_word_kind : is_word w ≡ true → depth ≢ 0 → kind_of step ≤ 5
  node_word_kind h n = rw steps (node_kind (row_in w) (is-row w h) (ne_eqb (depth_in w) 0 (λ e. n (depths ∙ e))))

-- an entry's line has at most 20 bytes, and a node's at most 15
entry_short : (row : Row) → is_row row ≡ true → is_entry row ≡ true → length (line_for row) ≤ 20
entry_short row whole e =
    let small : row.step < 2 ^ 48 = ltb-true _ _ (both_true (ltb row.step (2 ^ 48)) _ (rw e at whole)).0 in
    omega (
      arith,
      entry_length row e,
      length_decimal (principal_of row.step) (omega arith),
      length_decimal (action_of row.step) (omega arith),
      length_decimal (resource_of row.step) (omega arith),
    )

node_short : (row : Row) → is_entry row ≡ false → row.depth ≤ 24 → length (line_for row) ≤ 15
node_short row e near =
    omega (arith, node_length row e, length_decimal_in 19 1 row.depth (omega arith), length_decimal (id_of row.step) (omega arith))

-- so a listing has at most 20 bytes for each entry and 15 for each node
pub listing_short : (s : List ℕ) (rows : List Row) → Ordered s rows → length (listing rows) ≤ 20 * entries_in rows + 15 * nodes_in rows
unfolding listing count Ordered
listing_short s [] o = omega arith
listing_short s (row ∷ rows) o =
    let rest = listing_short (at s row) rows o.3 in
    rw length-append
    (by_test (is_entry row)
    (λ e. rw e (omega (arith, rest, rw e at (entry_short row o.0 e))))
    (λ e. rw e (omega (arith, rest, rw e at (node_short row e o.2)))))
