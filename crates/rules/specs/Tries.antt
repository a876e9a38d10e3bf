-- Document 01, 'Tries and positions': steps and their order, positions, rows, what a run of rows has, lawful rows, union.
use Rattle.std.specs.Prelude.{ℕ, suc, ◌+◌, ◌*◌, ◌/◌, ◌%◌, ◌^◌, ◌≡◌, ◌⊎◌, Bool, true, false, cond, not, ◌&&◌, ◌||◌, List, [], ◌∷◌, ◌++◌, leb, ltb, eqb, length, take, get_or}
use Rattle.std.proofs.Math.Option.{Option, none, some}
use Rattle.rules.specs.Numbers.{Answer, accepted, refused, most_steps}

-- 'Names, entities and entity types are ids 0..65,535'
abbrev pub ids : ℕ
ids = 65536

-- A step is a field or a root: 'principal, action, resource, context or a literal entity'. It is one number, 65,536 times the
-- place of its kind in the order f p a r c e and then its id, so the order of siblings is the order of numbers.
abbrev pub fields : ℕ
fields = 0

abbrev pub literals : ℕ
literals = 5

abbrev pub step_of : ℕ → ℕ → ℕ
step_of kind id = kind * ids + id

abbrev pub kind_of : ℕ → ℕ
kind_of step = step / ids

abbrev pub id_of : ℕ → ℕ
id_of step = step % ids

-- 'id 0 for p, a, r, c'
abbrev pub is_step : ℕ → Bool
is_step step = leb (kind_of step) literals && (eqb (id_of step) 0 || (eqb (kind_of step) fields || eqb (kind_of step) literals))

abbrev pub is_root : ℕ → Bool
is_root step = is_step step && not (eqb (kind_of step) fields)

-- A request type, 'principal-type action resource-type', is one number too, and the order of triples is the order of numbers.
abbrev pub request_of : ℕ → ℕ → ℕ → ℕ
request_of principal action resource = (principal * ids + action) * ids + resource

abbrev pub principal_of : ℕ → ℕ
principal_of request = request / ids / ids

abbrev pub action_of : ℕ → ℕ
action_of request = request / ids % ids

abbrev pub resource_of : ℕ → ℕ
resource_of request = request % ids

-- A manifest is a run of rows in listing order: one for each entry, at depth 0 with its request type in the place of a step,
-- and one for each node, at the depth that is its position's length. A node's type is there once it is typed.
pub record Row : Type 0 where
  pub depth : ℕ
  pub step : ℕ
  pub mark : Bool
  pub type : Option ℕ

abbrev pub is_entry : Row → Bool
is_entry row = eqb row.depth 0

-- a type number, 'types 0..1,023' or one of two more for the entry's principal and resource (Typing), or none
abbrev pub is_type : Option ℕ → Bool
is_type none = true
is_type (some t) = ltb t 1026

abbrev pub untyped : Option ℕ → Bool
untyped none = true
untyped (some t) = false

-- a row by itself: an entry's has neither mark nor type, and a position begins with a root
abbrev pub is_row : Row → Bool
is_row row =
    cond (is_entry row)
    (ltb row.step (ids ^ 3) && (not row.mark && untyped row.type))
    ((cond (eqb row.depth 1) (is_root row.step) (is_step row.step)) && is_type row.type)

-- What is kept for each depth down to a row that keeps k: as much of what was kept as lies above the row, and then k.
abbrev pub kept_with : {K : Type 0} → List K → Row → K → List K
kept_with kept row k = take row.depth kept ++ (k ∷ [])

-- A place in a manifest is a request type and then a position of its trie, as one list.
-- The place of a row that comes after the place s: each row keeps its own step.
abbrev pub at : List ℕ → Row → List ℕ
at s row = kept_with s row row.step

-- 'Listing': 'nodes in preorder; siblings strictly in order'. A row may come after the place s where it is at most one
-- deeper and, if it is not deeper, past the last earlier sibling. Case *L, with the request type (10, 500, 20) written q:
--
--   place before      row             place after        may it come?
--   (none)            A 10 500 20     q                  at depth 0, and no place is before it
--   q                 N 1 p           q, p               one deeper
--   q, p              N 2 f 7         q, p, f7           one deeper
--   q, p, f7          N 2 r           q, p, r            not deeper: r is past f7
--   q, p, r           N 3 f 3         q, p, r, f3        one deeper
--   q, p, r, f3       N 1 r           q, r               not deeper: r is past p
--   q, r              N 2 f 3         q, r, f3           one deeper
abbrev pub follows : List ℕ → Row → Bool
follows s row = cond (ltb row.depth (length s)) (ltb (get_or s row.depth 0) row.step) (eqb row.depth (length s))

-- 'A trie is a set of positions closed under taking prefixes, plus a set of marks on some of them.'
-- The places that rows after s have, and those that they mark.
unfoldable pub Has : List ℕ → List Row → List ℕ → Type 0
Has s [] place = ⊥
Has s (row ∷ rows) place = (place ≡ at s row) ⊎ Has (at s row) rows place

unfoldable pub Marked : List ℕ → List Row → List ℕ → Type 0
Marked s [] place = ⊥
Marked s (row ∷ rows) place = ((place ≡ at s row) × (row.mark ≡ true)) ⊎ Marked (at s row) rows place

-- Rows in listing order after the place s, none deeper than 24 steps.
unfoldable pub ordered : List ℕ → List Row → Bool
ordered s [] = true
ordered s (row ∷ rows) =
    let rest : Bool = ordered (at s row) rows in
    cond (is_row row && (follows s row && leb row.depth most_steps)) rest false

-- How many rows pass a test: the entries, and the nodes.
unfoldable pub count : (Row → Bool) → List Row → ℕ
count test [] = 0
count test (row ∷ rows) = let rest : ℕ = count test rows in cond (test row) (suc rest) rest

abbrev pub entries_in : List Row → ℕ
entries_in rows = count is_entry rows

abbrev pub nodes_in : List Row → ℕ
nodes_in rows = count (λ row. not (is_entry row)) rows

-- What a run may hold: a manifest at most 64 entries and 4,096 nodes, a contribution its single entry and 1,024 nodes.
pub record Form : Type 0 where
  pub single : Bool
  pub entries : ℕ
  pub nodes : ℕ

abbrev pub manifest : Form
manifest = record { single = false; entries = 64; nodes = 4096 }

abbrev pub contribution : Form
contribution = record { single = true; entries = 1; nodes = 1024 }

-- A lawful state.
abbrev pub lawful : Form → List Row → Bool
lawful form rows =
    ordered [] rows
    && (cond form.single (eqb (entries_in rows) 1) (leb (entries_in rows) form.entries) && leb (nodes_in rows) form.nodes)

-- whether two lists are equal
unfoldable pub same_list : List ℕ → List ℕ → Bool
same_list [] [] = true
same_list [] (y ∷ ys) = false
same_list (x ∷ xs) [] = false
same_list (x ∷ xs) (y ∷ ys) = eqb x y && same_list xs ys

-- The mark of a place that rows after s have, if they have it.
unfoldable pub found : List ℕ → List Row → List ℕ → Option Bool
found s [] place = none
found s (row ∷ rows) place =
    let rest : Option Bool = found (at s row) rows place in
    cond (same_list (at s row) place) (some row.mark) rest

-- Of two next rows the deeper comes first; at one depth the smaller step; otherwise they are the same node.
pub data Next : Type 0 where
  first second same : Next

unfoldable pub next : Row → Row → Next
next x y =
    cond (ltb y.depth x.depth) first
    (cond (ltb x.depth y.depth) second
    (cond (ltb x.step y.step) first
    (cond (ltb y.step x.step) second same)))

-- 'a mark likewise': if either has it. 'Node types are not merged: the left one stays where both have the node.'
abbrev pub joined : Row → Row → Row
joined x y = record { depth = x.depth; step = x.step; mark = x.mark || y.mark; type = x.type }

-- Union: take the next row of either, again and again. With x and y the next rows, it is
--   union [] b                  = b, and union a [] = a;
--   union (x ∷ a) (y ∷ b)       = x ∷ union a (y ∷ b)  where x comes first, and y ∷ union (x ∷ a) b where y does;
--   union (x ∷ a) (y ∷ b)       = joined x y ∷ union a b  where both are the same node.
-- It is written as two functions because each falls on a list of its own.
unfoldable pub union_onto : Row → (List Row → List Row) → List Row → List Row → List Row
union_onto x rest a [] = x ∷ a
union_onto x rest a (y ∷ b) =
    elim (next x y) [ first ↦ x ∷ rest (y ∷ b) | second ↦ y ∷ union_onto x rest a b | same ↦ joined x y ∷ rest b ]

unfoldable pub union : List Row → List Row → List Row
union [] b = b
union (x ∷ a) b = union_onto x (union a) a b

-- Union within the limits: 'a 65th request type' is 5, then 'over 1,024 nodes in a contribution or 4,096 in a manifest' is 4, both
-- judged on the union.
abbrev pub union_within : Form → List Row → List Row → Answer (List Row)
union_within form a b =
    cond (ltb form.entries (entries_in (union a b))) (refused 5 0)
    (cond (ltb form.nodes (nodes_in (union a b))) (refused 4 0) (accepted (union a b)))
