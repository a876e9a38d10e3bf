-- The walk of Loading over a trie's rows and a run of value rows.
use Rattle.std.specs.Prelude.{ℕ, zero, suc, ◌-◌, Bool, cond, ◌&&◌, ◌||◌, List, [], ◌∷◌, ◌++◌, leb, ltb, eqb, take, drop}
use Rattle.std.proofs.Math.Option.{Option, none, some}
use Rattle.rules.specs.Tries.{Row, id_of}
use Rattle.rules.specs.Listing.{◌>>=◌}
use Rattle.rules.specs.ValueRows.{ValueRow, set_kind}
use Rattle.rules.specs.Typing.{is_field}
use Rattle.rules.specs.Loading.{Event, yielded, ancestor, bad, has_field_child, has_ancestors_trie, is_context_root}

-- The rows of a run from a field's on, if that field lies at that depth before a row above it.
unfoldable pub field_row : ℕ → ℕ → List ValueRow → List ValueRow
field_row depth f [] = []
field_row depth f (x ∷ rows) =
    let rest : List ValueRow = field_row depth f rows in
    cond (ltb x.depth depth) [] (cond (eqb x.depth depth && eqb f x.key) (x ∷ rows) rest)

-- 'a set with a mark must hold entity ids only': the elements at that depth
unfoldable pub ids_at : ℕ → List ValueRow → Option (List Event)
ids_at depth [] = some []
ids_at depth (x ∷ rows) =
    let rest : Option (List Event) = ids_at depth rows in
    let more : Option (List Event) = cond (eqb x.kind 2) (rest >>= (λ ids. some (ancestor x.number ∷ ids))) none in
    cond (ltb x.depth depth) (some []) (cond (eqb x.depth depth) more rest)

-- What a node comes to: what is met there, and the rows behind the record's in which its children are looked up, if any.
pub record MetRows : Type 0 where
  pub events : List Event
  pub kept : Option (List ValueRow)

abbrev pub comes_to : List Event → Option (List ValueRow) → MetRows
comes_to events kept = record { events = events; kept = kept }

abbrev pub comes_to_nothing : MetRows
comes_to_nothing = comes_to [] none

abbrev pub or14 : Bool → MetRows → MetRows
or14 test otherwise = cond test (comes_to (bad ∷ []) none) otherwise

-- The value rule: a value's row at a depth, and the rows behind it.
abbrev pub row_rule : Row → List Row → ℕ → ℕ → ValueRow → List ValueRow → MetRows
row_rule row rows node depth x behind =
    cond (ltb x.kind 2) (or14 (has_ancestors_trie row rows || (row.mark || has_field_child row rows)) comes_to_nothing)
    (cond (eqb x.kind 2) (comes_to (yielded (record { id = x.number; node = node }) ∷ []) none)
    (cond (eqb x.kind set_kind)
    (or14 (has_ancestors_trie row rows || has_field_child row rows)
    (cond row.mark (elim (ids_at (suc depth) behind) [ none ↦ comes_to (bad ∷ []) none | some ids ↦ comes_to ids none ]) comes_to_nothing))
    (or14 (has_ancestors_trie row rows || row.mark) (comes_to [] (some behind)))))

abbrev pub rule_at : Row → List Row → ℕ → ℕ → List ValueRow → MetRows
rule_at row rows node depth [] = comes_to_nothing
rule_at row rows node depth (x ∷ behind) = row_rule row rows node depth x behind

-- A node below others: a field is looked up at its depth, behind the row of its parent's record.
abbrev pub at_node_rows : ℕ → Option (List ValueRow) → Row → List Row → ℕ → MetRows
at_node_rows depth none row rows node = comes_to_nothing
at_node_rows depth (some run) row rows node =
    cond (is_field row.step) (rule_at row rows node depth (field_row depth (id_of row.step) run)) comes_to_nothing

-- what is kept at a place, none past the end
unfoldable pub kept_rows_at : List (Option (List ValueRow)) → ℕ → Option (List ValueRow)
kept_rows_at [] n = none
kept_rows_at (kept ∷ more) zero = kept
kept_rows_at (kept ∷ more) (suc n) = kept_rows_at more n

-- The walk: what is kept for each depth is the rows behind a record's row. The first that is kept are fields at depth 1.
unfoldable pub walk_rows : ℕ → List (Option (List ValueRow)) → ℕ → List Row → List Event
walk_rows depth kept node [] = []
walk_rows depth kept node (row ∷ rows) =
    let here : MetRows = at_node_rows (row.depth - depth) (kept_rows_at kept (row.depth - suc depth)) row rows node in
    let rest : List Event = walk_rows depth (take (row.depth - depth) kept ++ (here.kept ∷ [])) (suc node) rows in
    cond (leb row.depth depth) [] (here.events ++ rest)

-- `find_remaining_entities`: the children of a node, looked up among attributes
abbrev pub remaining_rows : List Row → ℕ → List ValueRow → List Event
remaining_rows nodes node attributes =
    elim (drop node nodes) [ [] ↦ [] | row ∷ rows ↦ walk_rows row.depth (some attributes ∷ []) (suc node) rows ]

-- the context root below a depth: its children, looked up in the context
unfoldable pub in_context_rows : List ValueRow → ℕ → ℕ → List Row → List Event
in_context_rows context depth node [] = []
in_context_rows context depth node (row ∷ rows) =
    let rest : List Event = in_context_rows context depth (suc node) rows in
    cond (leb row.depth depth) []
    (cond (eqb row.depth (suc depth) && is_context_root row.step) (walk_rows (suc depth) (some context ∷ []) (suc node) rows) rest)
