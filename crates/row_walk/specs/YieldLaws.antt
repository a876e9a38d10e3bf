-- Laws of how many rows are met. No contract cites this file.
use Rattle.std.specs.Prelude.{ℕ, suc, ◌+◌, ◌-◌, ◌≤◌, ◌≡◌, refl, true, false, cond, ◌||◌, leb, ltb, eqb, length, take, drop}
use native.Mathlib.Omega.{arith}
use Rattle.std.proofs.Common.{ap, length-drop}
use Rattle.std.proofs.Math.Bool.{Bool}
use mathlib.Core.List.{List, [], ◌∷◌, ◌++◌}
use Rattle.std.proofs.Math.Option.{Option, none, some}
use Rattle.rules.specs.Facts.{by_test, by_option}
use Rattle.rules.specs.Tries.{Row, id_of}
use Rattle.rules.specs.ValueRows.{ValueRow}
use Rattle.rules.specs.Typing.{is_field}
use Rattle.rules.specs.Loading.{EntityRequest, Event, yielded, ancestor, bad, has_field_child, has_ancestors_trie, batch_of}
use Rattle.rules.specs.WalkRows.{field_row, ids_at, MetRows, comes_to, comes_to_nothing, or14, row_rule, rule_at, at_node_rows, kept_rows_at, walk_rows, remaining_rows}
use Rattle.row_walk.specs.Batches.{yields}

pub yields_append : (a b : List Event) → yields (a ++ b) ≡ yields a + yields b
unfolding yields
yields_append [] b = omega arith
yields_append (yielded row ∷ a) b = omega (arith, yields_append a b)
yields_append (ancestor e ∷ a) b = yields_append a b
yields_append (bad ∷ a) b = yields_append a b

-- a batch has as many rows
pub batch_length : (events : List Event) (rows : List EntityRequest) → batch_of events ≡ some rows → length rows ≡ yields events
unfolding batch_of yields
batch_length [] rows e = let same : [] ≡ rows = cc in rw (← same)
batch_length (yielded row ∷ events) rows e =
    by_option (batch_of events)
    (λ none_there. let z : ◌≡◌ {A = ℕ} 0 1 = cc (rw none_there at e) in absurd (omega arith))
    (λ more there.
    let same : row ∷ more ≡ rows = cc (rw there at e) in
    rw (← same) (ap suc (batch_length events more there)))
batch_length (ancestor x ∷ events) rows e = batch_length events rows e
batch_length (bad ∷ events) rows e = let z : ◌≡◌ {A = ℕ} 0 1 = cc in absurd (omega arith)

-- how many rows lie below a depth, up to one that does not
unfoldable pub rows_below : ℕ → List Row → ℕ
rows_below depth [] = 0
rows_below depth (row ∷ rows) = let rest : ℕ = suc (rows_below depth rows) in cond (leb row.depth depth) 0 rest

pub below_length : (depth : ℕ) (rows : List Row) → rows_below depth rows ≤ length rows
unfolding rows_below
below_length depth [] = omega arith
below_length depth (row ∷ rows) = by_test (leb row.depth depth) (λ e. rw e (omega arith)) (λ e. rw e (omega (arith, below_length depth rows)))

-- the ids in a set are no rows
yields_held : (depth : ℕ) (rows : List ValueRow) (ids : List Event) → ids_at depth rows ≡ some ids → yields ids ≡ 0
unfolding ids_at yields
yields_held depth [] ids e = let same : [] ≡ ids = cc in rw (← same)
yields_held depth (x ∷ rows) ids e =
    by_test (ltb x.depth depth)
    (λ above. let same : [] ≡ ids = cc (rw above at e) in rw (← same))
    (λ not-above.
    by_test (eqb x.depth depth)
    (λ here.
    by_test (eqb x.kind 2)
    (λ entity.
    by_option (ids_at depth rows)
    (λ none_there. let z : ◌≡◌ {A = ℕ} 0 1 = cc (rw (not-above, here, entity, none_there) at e) in absurd (omega arith))
    (λ more there.
    let same : ancestor x.number ∷ more ≡ ids = cc (rw (not-above, here, entity, there) at e) in
    rw (← same) (yields_held depth rows more there)))
    (λ other. let z : ◌≡◌ {A = ℕ} 0 1 = cc (rw (not-above, here, other) at e) in absurd (omega arith)))
    (λ deeper. yields_held depth rows ids (rw (not-above, deeper) at e)))

-- a node yields at most one row
abbrev pub AtMostOne : MetRows → Type 0
AtMostOne met = yields met.events ≤ 1

one_nothing : AtMostOne comes_to_nothing
unfolding yields
one_nothing = omega arith

one_unless : (t : Bool) (met : MetRows) → AtMostOne met → AtMostOne (or14 t met)
unfolding yields
one_unless true met h = omega arith
one_unless false met h = h

one-cond : (t : Bool) (met other : MetRows) → AtMostOne met → AtMostOne other → AtMostOne (cond t met other)
one-cond true met other h k = h
one-cond false met other h k = k

module _ (row : Row) (rows : List Row) (node depth : ℕ) where
  one_ids : (o : Option (List Event)) → ((ids : List Event) → o ≡ some ids → yields ids ≡ 0) →
      AtMostOne (elim o [ none ↦ comes_to (bad ∷ []) none | some ids ↦ comes_to ids none ])
  unfolding yields
  one_ids none h = omega arith
  one_ids (some ids) h = omega (arith, h ids refl)

  one_row : (x : ValueRow) (behind : List ValueRow) → AtMostOne (row_rule row rows node depth x behind)
  unfolding yields
  one_row x behind =
      let roots : Bool = has_ancestors_trie row rows in
      let children : Bool = has_field_child row rows in
      let ids : MetRows = elim (ids_at (suc depth) behind) [ none ↦ comes_to (bad ∷ []) none | some ids ↦ comes_to ids none ] in
      let plain_met : MetRows = or14 (roots || (row.mark || children)) comes_to_nothing in
      let entity_met : MetRows = comes_to (yielded (record { id = x.number; node = node }) ∷ []) none in
      let set_met : MetRows = or14 (roots || children) (cond row.mark ids comes_to_nothing) in
      let record_met : MetRows = or14 (roots || row.mark) (comes_to [] (some behind)) in
      let of_ids : AtMostOne ids = one_ids (ids_at (suc depth) behind) (yields_held (suc depth) behind) in
      let of-set : AtMostOne set_met =
      one_unless (roots || children) (cond row.mark ids comes_to_nothing) (one-cond row.mark ids comes_to_nothing of_ids one_nothing) in
      one-cond (ltb x.kind 2) plain_met (cond (eqb x.kind 2) entity_met (cond (eqb x.kind 3) set_met record_met))
      (one_unless (roots || (row.mark || children)) comes_to_nothing one_nothing)
      (one-cond (eqb x.kind 2) entity_met (cond (eqb x.kind 3) set_met record_met) (omega arith)
      (one-cond (eqb x.kind 3) set_met record_met of-set (one_unless (roots || row.mark) (comes_to [] (some behind)) (omega arith))))

  one_found : (found : List ValueRow) → AtMostOne (rule_at row rows node depth found)
  one_found [] = one_nothing
  one_found (x ∷ behind) = one_row x behind

  pub one_node : (kept : Option (List ValueRow)) → AtMostOne (at_node_rows depth kept row rows node)
  one_node none = one_nothing
  one_node (some run) = one-cond (is_field row.step) (rule_at row rows node depth (field_row depth (id_of row.step) run)) comes_to_nothing
      (one_found (field_row depth (id_of row.step) run)) one_nothing

-- so a walk meets at most one for each row below its depth
pub walk_yields :
    (depth : ℕ) (kept : List (Option (List ValueRow))) (node : ℕ) (rows : List Row) → yields (walk_rows depth kept node rows) ≤ rows_below depth rows
unfolding walk_rows rows_below yields
walk_yields depth kept node [] = omega arith
walk_yields depth kept node (row ∷ rows) =
    let here : MetRows = at_node_rows (row.depth - depth) (kept_rows_at kept (row.depth - suc depth)) row rows node in
    by_test (leb row.depth depth)
    (λ e. rw e (omega arith))
    (λ e.
    rw (e, yields_append here.events (walk_rows depth (take (row.depth - depth) kept ++ (here.kept ∷ [])) (suc node) rows))
    (omega (
      arith,
      one_node row rows node (row.depth - depth) (kept_rows_at kept (row.depth - suc depth)),
      walk_yields depth (take (row.depth - depth) kept ++ (here.kept ∷ [])) (suc node) rows,
    )))

-- and the children of a node at most one for each node behind it
pub remaining_yields :
    (nodes : List Row) (node : ℕ) (run : List ValueRow) → yields (remaining_rows nodes node run) ≤ length nodes - node
unfolding yields
remaining_yields nodes node run =
    go (drop node nodes) (omega (arith, length-drop node nodes))
  where
    go : (rest : List Row) → length rest ≤ length nodes - node →
        yields (elim rest [ [] ↦ [] | row ∷ rows ↦ walk_rows row.depth (some run ∷ []) (suc node) rows ]) ≤ length nodes - node
    go [] h = omega arith
    go (row ∷ rows) h = omega (arith, walk_yields row.depth (some run ∷ []) (suc node) rows, below_length row.depth rows)
