-- Document 01, 'Listing': the text of a manifest and of a contribution, written and read.
use Rattle.std.specs.Prelude.{ℕ, ◌+◌, Bool, true, false, cond, not, ◌&&◌, List, [], ◌∷◌, ◌++◌, leb, ltb, eqb, length, get_or}
use Rattle.std.proofs.Math.Option.{Option, none, some}
use Rattle.rules.specs.Numbers.{Answer, accepted, refused, first_of, most_steps}
use Rattle.rules.specs.Text.{bytes, byte_of, LF, TAB, lines_of, fields_of, decimal_of, decimal}
use Rattle.rules.specs.Tries.{
  Row,
  Form,
  step_of,
  kind_of,
  id_of,
  is_row,
  is_entry,
  request_of,
  principal_of,
  action_of,
  resource_of,
  at,
  follows,
}

-- Writing.

-- fields parted by one tab, the line ended by LF
unfoldable pub line_of : List (List ℕ) → List ℕ
line_of [] = LF ∷ []
line_of (field ∷ []) = field ++ (LF ∷ [])
line_of (field ∷ more ∷ fields) = field ++ (TAB ∷ line_of (more ∷ fields))

-- 'step is `f` (field) or a root `p a r c e`'
abbrev pub letters : List ℕ
letters = bytes "fparce"

-- '`A` principal-type action resource-type opens an entry. `N` depth step id mark is a node'
abbrev pub fields_for : Row → List (List ℕ)
fields_for row =
    cond (is_entry row)
    (bytes "A" ∷ decimal (principal_of row.step) ∷ decimal (action_of row.step) ∷ decimal (resource_of row.step) ∷ [])
    (bytes "N"
    ∷ decimal row.depth
    ∷ (get_or letters (kind_of row.step) 0 ∷ [])
    ∷ decimal (id_of row.step)
    ∷ cond row.mark (bytes "1") (bytes "0")
    ∷ [])

-- 'Zero entries is the empty text. Node types are not written.'
unfoldable pub listing : List Row → List ℕ
listing [] = []
listing (row ∷ rows) = line_of (fields_for row) ++ listing rows

-- Reading. Each field of a line has a meaning, or the line is not of the stated form.

infixl 20 ◌>>=◌
abbrev pub ◌>>=◌ : {A B : Type 0} → Option A → (A → Option B) → Option B
none >>= then = none
some a >>= then = then a

-- a field that is one letter
abbrev pub is_letter : ℕ → List ℕ → Bool
is_letter letter [] = false
is_letter letter (byte ∷ []) = eqb byte letter
is_letter letter (byte ∷ more ∷ field) = false

-- the place of a field's letter among some letters
unfoldable pub place_in : List ℕ → List ℕ → Option ℕ
place_in [] field = none
place_in (x ∷ xs) field =
    let rest : Option ℕ = place_in xs field >>= (λ n. some (n + 1)) in
    cond (is_letter x field) (some 0) rest

abbrev pub mark_of : List ℕ → Option Bool
mark_of field = do
  n ← decimal_of field
  cond (eqb n 0) (some false) (cond (eqb n 1) (some true) none)

-- a row as it is read: 'node types are not written', so it has none
abbrev pub read : ℕ → ℕ → Bool → Row
read depth step mark = record { depth = depth; step = step; mark = mark; type = none }

abbrev pub of_form : Row → Option Row
of_form row = cond (is_row row) (some row) none

abbrev pub entry_of : List ℕ → List ℕ → List ℕ → Option Row
entry_of principal action resource = do
  p ← decimal_of principal
  a ← decimal_of action
  r ← decimal_of resource
  some (read 0 (request_of p a r) false)

-- 'also depth 0, `f` at depth 1' is 1
abbrev pub node_of : List ℕ → List ℕ → List ℕ → List ℕ → Option Row
node_of depth step id mark = do
  d ← decimal_of depth
  kind ← place_in letters step
  i ← decimal_of id
  m ← mark_of mark
  cond (eqb d 0) none (of_form (read d (step_of kind i) m))

-- the row of a line, by its fields
unfoldable pub row_of : List (List ℕ) → Option Row
row_of [] = none
row_of (a ∷ []) = none
row_of (a ∷ b ∷ []) = none
row_of (a ∷ b ∷ c ∷ []) = none
row_of (word ∷ b ∷ c ∷ d ∷ []) = cond (is_letter (byte_of "A") word) (entry_of b c d) none
row_of (word ∷ b ∷ c ∷ d ∷ e ∷ []) = cond (is_letter (byte_of "N") word) (node_of b c d e) none
row_of (a ∷ b ∷ c ∷ d ∷ e ∷ f ∷ more) = none

-- Where a run of rows has come to: the last row's place, and how many entries and nodes there are.
pub record Sofar : Type 0 where
  pub place : List ℕ
  pub entries : ℕ
  pub nodes : ℕ

abbrev pub start : Sofar
start = record { place = []; entries = 0; nodes = 0 }

abbrev pub past : Sofar → Row → Sofar
past sofar row = record {
  place = at sofar.place row;
  entries = cond (is_entry row) (sofar.entries + 1) sofar.entries;
  nodes = cond (is_entry row) sofar.nodes (sofar.nodes + 1);
}

-- 'by line: 1, 2, 3, 5, 4'. The number that a row gives after others, if any. A second entry of a contribution is
-- not of its form; an `N` row_in_front any `A` is one deeper than there is a place.
abbrev pub refusal : Form → Sofar → Row → Option ℕ
refusal form sofar row =
    first_of
    (((form.single && is_entry row) && ltb 0 sofar.entries, 1)
    ∷ (not (follows sofar.place row), 2)
    ∷ (ltb most_steps row.depth, 3)
    ∷ (is_entry row && leb form.entries sofar.entries, 5)
    ∷ (not (is_entry row) && leb form.nodes sofar.nodes, 4)
    ∷ [])

-- a row in front of what the lines after it give
abbrev pub row_in_front : Row → Answer (List Row) → Answer (List Row)
row_in_front row (accepted rows) = accepted (row ∷ rows)
row_in_front row (refused number place) = refused number place

-- the lines from one on, line after line, 'and within a line 1, 2, 3, 5, 4'. What stands last is no line where it is empty,
-- and otherwise a line without LF
unfoldable pub rows_from : Form → Sofar → ℕ → List (List ℕ) → Answer (List Row)
rows_from form sofar place [] = accepted []
rows_from form sofar place (line ∷ []) = cond (eqb (length line) 0) (accepted []) (refused 1 place)
rows_from form sofar place (line ∷ next ∷ lines) =
    elim (row_of (fields_of line)) [
      | none ↦ refused 1 place
      | some row ↦
          elim (refusal form sofar row) [
            | none ↦ row_in_front row (rows_from form (past sofar row) (place + 1) (next ∷ lines))
            | some number ↦ refused number place
          ]
    ]

-- 'no line at all is 1 at 0' for a contribution
abbrev pub entered_by : Form → Answer (List Row) → Answer (List Row)
entered_by form (accepted []) = cond form.single (refused 1 0) (accepted [])
entered_by form (accepted (row ∷ rows)) = accepted (row ∷ rows)
entered_by form (refused number place) = refused number place

-- a text read: its rows, or the number and the line of the first refusal
abbrev pub read_listing : Form → List ℕ → Answer (List Row)
read_listing form text = entered_by form (rows_from form start 0 (lines_of text))
