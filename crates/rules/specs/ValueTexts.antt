-- docs/FORMS.md, 'Value', 'Request' and 'Store': the texts of values, read line after line.
use Rattle.std.specs.Prelude.{ℕ, suc, ◌+◌, ◌-◌, Bool, true, false, cond, ◌&&◌, List, [], ◌∷◌, ◌++◌, map, leb, ltb, eqb, length}
use Rattle.std.proofs.Math.Option.{Option, none, some}
use Rattle.rules.specs.Numbers.{Answer, accepted, refused, and_then}
use Rattle.rules.specs.Text.{bytes, byte_of, lines_of, fields_of, decimal_of}
use Rattle.rules.specs.Lines.{fold_lines}
use Rattle.rules.specs.Tries.{request_of}
use Rattle.rules.specs.Listing.{◌>>=◌, is_letter, place_in}
use Rattle.rules.specs.ValueRows.{ValueRow, value_row}
use Rattle.rules.specs.ValueRowTests.{Level, level, is_value_row, inside_value, fits_level, in_turn, level_at, levels_after}

-- ---- a value

-- 'kind: `n`, `x`, `e`, `s` or `r`', in the order of the kinds of a row
abbrev pub kind_letters : List ℕ
kind_letters = bytes "nxesr"

-- `V` depth key kind number; 'a set 0, a record 0'
abbrev pub value_row_from : List ℕ → List ℕ → List ℕ → List ℕ → Option ValueRow
value_row_from depth key kind number = do
  d ← decimal_of depth
  k ← decimal_of key
  letter ← place_in kind_letters kind
  n ← decimal_of number
  cond (is_value_row (value_row d k letter n)) (some (value_row d k letter n)) none

-- the row of a line, by its fields
unfoldable pub value_row_of : List (List ℕ) → Option ValueRow
value_row_of [] = none
value_row_of (a ∷ []) = none
value_row_of (a ∷ b ∷ []) = none
value_row_of (a ∷ b ∷ c ∷ []) = none
value_row_of (a ∷ b ∷ c ∷ d ∷ []) = none
value_row_of (word ∷ b ∷ c ∷ d ∷ e ∷ []) = cond (is_letter (byte_of "V") word) (value_row_from b c d e) none
value_row_of (a ∷ b ∷ c ∷ d ∷ e ∷ f ∷ more) = none

-- Where the reading of a value has come to: the levels at which a row may come, from depth 1 on, and the rows so far.
pub record ValueRead : Type 0 where
  pub levels : List Level
  pub rows : List ValueRow

abbrev pub field_level : List Level
field_level = level false 0 ∷ []

abbrev pub no_rows : ValueRead
no_rows = record { levels = field_level; rows = [] }

-- 'from 1; at most one deeper than the row before, and deeper only behind a set or a record'; 'the names in one record ascend strictly;
-- of a set's elements 0, 1, 2 .. in order'
abbrev pub may_come : List Level → ValueRow → Bool
may_come levels x = leb 1 x.depth && (ltb (x.depth - 1) (length levels) && fits_level (level_at 1 levels x.depth) x)

abbrev pub with_row : ValueRead → ValueRow → ValueRead
with_row sofar x = record { levels = levels_after 1 sofar.levels x; rows = sofar.rows ++ (x ∷ []) }

-- a row behind others
abbrev pub row_taken : ValueRead → ValueRow → Option ValueRead
row_taken sofar x = cond (may_come sofar.levels x) (some (with_row sofar x)) none

-- 'More than 8,192 rows are 1 at the first line too many'
abbrev pub most_rows : ℕ
most_rows = 8192

abbrev pub has_room : ValueRead → Bool
has_room sofar = ltb (length sofar.rows) most_rows

-- 'whatever is not described here is refused with 1, at its place'
abbrev pub or_one : {A : Type 0} → ℕ → Option A → Answer A
or_one place none = refused 1 place
or_one place (some a) = accepted a

-- a line of a value
abbrev pub value_line : ℕ → List ℕ → ValueRead → Answer ValueRead
value_line place line sofar =
    or_one place (value_row_of (fields_of line) >>= (λ x. cond (has_room sofar) (row_taken sofar x) none))

-- 'The elements of a set ascend strictly by their rows': the places of those elements that are not above the one before them in their set,
-- the first row standing at a place.
unfoldable pub unordered : List Level → ℕ → List ValueRow → List ℕ
unordered levels place [] = []
unordered levels place (x ∷ rows) =
    let rest : List ℕ = unordered (levels_after 1 levels x) (suc place) rows in
    let next : ℕ = suc place + length (inside_value x.depth rows) in
    cond (in_turn (level_at 1 levels x.depth) x rows) rest (next ∷ rest)

-- the lesser of two places, if there are any, and the least of some
abbrev pub lesser : Option ℕ → Option ℕ → Option ℕ
lesser none o = o
lesser (some n) none = some n
lesser (some n) (some m) = some (cond (ltb n m) n m)

unfoldable pub least_of : List ℕ → Option ℕ
least_of [] = none
least_of (n ∷ ns) = lesser (some n) (least_of ns)

-- 'In a text the order of elements is judged once every line has passed: 1 at the own line of the first element that is not above the one
-- before it.'
abbrev pub unless_at : {A : Type 0} → A → Option ℕ → Answer A
unless_at a none = accepted a
unless_at a (some place) = refused 1 place

abbrev pub in_order : ℕ → List ValueRow → Answer (List ValueRow)
in_order place rows = unless_at rows (least_of (unordered field_level place rows))

-- the lines of a value from a place on
abbrev pub value_from_lines : ℕ → List (List ℕ) → Answer (List ValueRow)
value_from_lines place lines = and_then (fold_lines value_line place lines no_rows) (λ all. in_order place all.state.rows)

-- a value's text read: its rows, or 1 and the line
abbrev pub read_value : List ℕ → Answer (List ValueRow)
read_value text = value_from_lines 0 (lines_of text)

-- ---- a request

-- Of a `Q` line: the request type, the principal and the resource.
pub record Asked : Type 0 where
  pub type : ℕ
  pub principal : ℕ
  pub resource : ℕ

-- `Q` principal-type action resource-type principal resource
abbrev pub asked_from : List ℕ → List ℕ → List ℕ → List ℕ → List ℕ → Option Asked
asked_from principal_type action resource_type principal resource = do
  p ← decimal_of principal_type
  a ← decimal_of action
  r ← decimal_of resource_type
  by ← decimal_of principal
  on ← decimal_of resource
  some (record { type = request_of p a r; principal = by; resource = on })

unfoldable pub asked_of : List (List ℕ) → Option Asked
asked_of [] = none
asked_of (a ∷ []) = none
asked_of (a ∷ b ∷ []) = none
asked_of (a ∷ b ∷ c ∷ []) = none
asked_of (a ∷ b ∷ c ∷ d ∷ []) = none
asked_of (a ∷ b ∷ c ∷ d ∷ e ∷ []) = none
asked_of (word ∷ b ∷ c ∷ d ∷ e ∷ f ∷ []) = cond (is_letter (byte_of "Q") word) (asked_from b c d e f) none
asked_of (a ∷ b ∷ c ∷ d ∷ e ∷ f ∷ g ∷ more) = none

-- A request as it is read, its context the rows of a record.
pub record RequestRead : Type 0 where
  pub asked : Asked
  pub context : List ValueRow

abbrev pub request_read : Asked → List ValueRow → RequestRead
request_read asked context = record { asked = asked; context = context }

-- the first line, and the context's behind it; no line, or a first one without LF, is 1 at 0
abbrev pub request_lines : List (List ℕ) → Answer RequestRead
request_lines [] = refused 1 0
request_lines (line ∷ []) = refused 1 0
request_lines (line ∷ next ∷ lines) =
    and_then (or_one 0 (asked_of (fields_of line)))
    (λ asked. and_then (value_from_lines 1 (next ∷ lines)) (λ rows. accepted (request_read asked rows)))

abbrev pub read_request : List ℕ → Answer RequestRead
read_request text = request_lines (lines_of text)

-- ---- a store

-- What a line of a store says.
pub data StoreLine : Type 0 where
  entity_line parent_line ancestor_line : ℕ → StoreLine
  attribute_line : ValueRow → StoreLine

-- `E`, `P` or `U` and an id, otherwise a value's line
abbrev pub id_line : List ℕ → ℕ → Option StoreLine
id_line word id =
    cond (is_letter (byte_of "E") word) (some (entity_line id))
    (cond (is_letter (byte_of "P") word) (some (parent_line id)) (cond (is_letter (byte_of "U") word) (some (ancestor_line id)) none))

unfoldable pub store_line_of : List (List ℕ) → Option StoreLine
store_line_of [] = none
store_line_of (a ∷ []) = none
store_line_of (word ∷ id ∷ []) = decimal_of id >>= id_line word
store_line_of (a ∷ b ∷ c ∷ more) = value_row_of (a ∷ b ∷ c ∷ more) >>= (λ x. some (attribute_line x))

-- An entity as it is read: its parents, its ancestors, and the value of its attributes.
pub record EntityRead : Type 0 where
  pub id : ℕ
  pub parents : List ℕ
  pub ancestors : List ℕ
  pub value : ValueRead

abbrev pub entity_read : ℕ → List ℕ → List ℕ → ValueRead → EntityRead
entity_read id parents ancestors value = record { id = id; parents = parents; ancestors = ancestors; value = value }

-- 'Entities, parents (`P`) and ancestors (`U`) each ascend strictly': an id is above the last one before it
unfoldable pub is_above : List ℕ → ℕ → Bool
is_above [] id = true
is_above (last ∷ []) id = ltb last id
is_above (first ∷ next ∷ more) id = is_above (next ∷ more) id

-- parents stand before ancestors, and both before the value
abbrev pub without_rows : EntityRead → Bool
without_rows e = eqb (length e.value.rows) 0

abbrev pub of_entity : StoreLine → EntityRead → Option EntityRead
of_entity (entity_line id) e = none
of_entity (parent_line id) e =
    cond (without_rows e && (eqb (length e.ancestors) 0 && is_above e.parents id))
    (some (entity_read e.id (e.parents ++ (id ∷ [])) e.ancestors e.value))
    none
of_entity (ancestor_line id) e =
    cond (without_rows e && is_above e.ancestors id)
    (some (entity_read e.id e.parents (e.ancestors ++ (id ∷ [])) e.value))
    none
of_entity (attribute_line x) e = row_taken e.value x >>= (λ value. some (entity_read e.id e.parents e.ancestors value))

-- Where the reading of a store has come to: the last entity, if there is one, and those before it.
pub record StoreRead : Type 0 where
  pub earlier : List EntityRead
  pub last : Option EntityRead

abbrev pub store_read : List EntityRead → Option EntityRead → StoreRead
store_read earlier last = record { earlier = earlier; last = last }

abbrev pub entities_in : StoreRead → List EntityRead
entities_in sofar = elim sofar.last [ none ↦ sofar.earlier | some e ↦ sofar.earlier ++ (e ∷ []) ]

-- an `E` line begins an entity, any other line is of the last one
abbrev pub of_last : StoreLine → StoreRead → Option StoreRead
of_last said sofar = do
  e ← sofar.last
  next ← of_entity said e
  some (store_read sofar.earlier (some next))

abbrev pub of_store : StoreLine → StoreRead → Option StoreRead
of_store (entity_line id) sofar =
    cond (is_above (map (λ e. e.id) (entities_in sofar)) id) (some (store_read (entities_in sofar) (some (entity_read id [] [] no_rows)))) none
of_store (parent_line id) sofar = of_last (parent_line id) sofar
of_store (ancestor_line id) sofar = of_last (ancestor_line id) sofar
of_store (attribute_line x) sofar = of_last (attribute_line x) sofar

abbrev pub store_line : ℕ → List ℕ → StoreRead → Answer StoreRead
store_line place line sofar = or_one place (store_line_of (fields_of line) >>= (λ said. of_store said sofar))

-- the places of elements that are not above the one before them, in all entities, the first entity's own line standing at a place
unfoldable pub unordered_in : ℕ → List EntityRead → List ℕ
unordered_in place [] = []
unordered_in place (e ∷ es) =
    let rows : ℕ = suc place + length e.parents + length e.ancestors in
    unordered field_level rows e.value.rows ++ unordered_in (rows + length e.value.rows) es

-- a store's text read: its entities in order, or 1 and the line
abbrev pub store_in_order : List EntityRead → Answer (List EntityRead)
store_in_order es = unless_at es (least_of (unordered_in 0 es))

abbrev pub read_store : List ℕ → Answer (List EntityRead)
read_store text = and_then (fold_lines store_line 0 (lines_of text) (store_read [] none)) (λ all. store_in_order (entities_in all.state))
