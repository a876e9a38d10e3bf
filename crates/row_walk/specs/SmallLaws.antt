-- Laws of ids: those that a walk over words of values meets are below 65,536. No contract cites this file.
use Rattle.std.specs.Prelude.{ℕ, zero, suc, ◌-◌, ◌<◌, ◌≡◌, true, false, cond, ◌&&◌, ◌||◌, leb, ltb, eqb, take, drop}
use Rattle.std.proofs.Common.{arith}
use Rattle.std.proofs.Math.Path.{refl}
use Rattle.std.proofs.Math.Bool.{Bool}
use mathlib.Core.List.{List, [], ◌∷◌, ◌++◌, map}
use Rattle.std.proofs.Math.Option.{Option, none, some}
use Rattle.rules.specs.Facts.{by_test, by_option}
use Rattle.rules.specs.Tries.{Row, ids, id_of}
use Rattle.rules.specs.ValueRows.{ValueRow}
use Rattle.rules.specs.Typing.{is_field}
use Rattle.rules.specs.Loading.{Request, EntityRequest, Event, yielded, ancestor, bad, has_field_child, has_ancestors_trie, is_context_root, at_roots, initial_entities, batch_of}
use Rattle.rules.specs.WalkRows.{
  field_row,
  ids_at,
  MetRows,
  comes_to,
  comes_to_nothing,
  or14,
  row_rule,
  rule_at,
  at_node_rows,
  kept_rows_at,
  walk_rows,
  remaining_rows,
  in_context_rows,
}
use Rattle.values.specs.ValueWords.{value_rows_of, row_asked, request_word}
use Rattle.values.specs.ValueWordLaws.{request_again}
use Rattle.row_walk.specs.Initial.{request_with, asks_at}
use Rattle.row_walk.specs.InitialLaws.{named_small, initial_rows}
use Rattle.row_walk.specs.declared.initial.Request.{Request as Asked}

-- rows whose numbers are small, and what is kept of them
unfoldable pub SmallRun : List ValueRow → Type 0
SmallRun [] = Unit
SmallRun (x ∷ rows) = (x.number < ids) × SmallRun rows

abbrev pub SmallKept : Option (List ValueRow) → Type 0
SmallKept none = Unit
SmallKept (some run) = SmallRun run

unfoldable pub SmallAll : List (Option (List ValueRow)) → Type 0
SmallAll [] = Unit
SmallAll (kept ∷ more) = SmallKept kept × SmallAll more

-- events and rows whose ids are small
unfoldable pub SmallEvents : List Event → Type 0
SmallEvents [] = Unit
SmallEvents (yielded row ∷ events) = (row.id < ids) × SmallEvents events
SmallEvents (ancestor e ∷ events) = (e < ids) × SmallEvents events
SmallEvents (bad ∷ events) = SmallEvents events

unfoldable pub SmallRows : List EntityRequest → Type 0
SmallRows [] = Unit
SmallRows (row ∷ rows) = (row.id < ids) × SmallRows rows

-- a word's number is small
pub words_small : (words : List ℕ) → SmallRun (value_rows_of words)
unfolding SmallRun
words_small [] = tt
words_small (w ∷ words) = (omega arith, words_small words)

small_append : (a b : List Event) → SmallEvents a → SmallEvents b → SmallEvents (a ++ b)
unfolding SmallEvents
small_append [] b h k = k
small_append (yielded row ∷ a) b h k = (h.0, small_append a b h.1 k)
small_append (ancestor e ∷ a) b h k = (h.0, small_append a b h.1 k)
small_append (bad ∷ a) b h k = small_append a b h k

-- what is kept for each depth
small_at : (kept : List (Option (List ValueRow))) (n : ℕ) → SmallAll kept → SmallKept (kept_rows_at kept n)
unfolding SmallAll kept_rows_at
small_at [] n h = tt
small_at (k ∷ kept) zero h = h.0
small_at (k ∷ kept) (suc n) h = small_at kept n h.1

small_more : (n : ℕ) (kept : List (Option (List ValueRow))) (k : Option (List ValueRow)) → SmallAll kept → SmallKept k → SmallAll (take n kept ++ (k ∷ []))
unfolding SmallAll
small_more zero kept k h s = (s, tt)
small_more (suc n) [] k h s = (s, tt)
small_more (suc n) (other ∷ kept) k h s = (h.0, small_more n kept k h.1 s)

-- what is found in rows
small_field : (depth f : ℕ) (run : List ValueRow) → SmallRun run → SmallRun (field_row depth f run)
unfolding SmallRun field_row
small_field depth f [] h = tt
small_field depth f (x ∷ rows) h =
    by_test (ltb x.depth depth)
    (λ e. rw e tt)
    (λ e. by_test (eqb x.depth depth && eqb f x.key) (λ g. rw (e, g) h) (λ g. rw (e, g) (small_field depth f rows h.1)))

small_ids : (depth : ℕ) (rows : List ValueRow) (found : List Event) → ids_at depth rows ≡ some found → SmallRun rows → SmallEvents found
unfolding ids_at SmallRun SmallEvents
small_ids depth [] found e h = let same : [] ≡ found = cc in rw (← same) tt
small_ids depth (x ∷ rows) found e h =
    by_test (ltb x.depth depth)
    (λ above. let same : [] ≡ found = cc (rw above at e) in rw (← same) tt)
    (λ not-above.
    by_test (eqb x.depth depth)
    (λ here.
    by_test (eqb x.kind 2)
    (λ entity.
    by_option (ids_at depth rows)
    (λ none_there. let z : ◌≡◌ {A = ℕ} 0 1 = cc (rw (not-above, here, entity, none_there) at e) in absurd (omega arith))
    (λ more there.
    let same : ancestor x.number ∷ more ≡ found = cc (rw (not-above, here, entity, there) at e) in
    rw (← same) (h.0, small_ids depth rows more there h.1)))
    (λ other. let z : ◌≡◌ {A = ℕ} 0 1 = cc (rw (not-above, here, other) at e) in absurd (omega arith)))
    (λ deeper. small_ids depth rows found (rw (not-above, deeper) at e) h.1))

-- what a node comes to
abbrev SmallMet : MetRows → Type 0
SmallMet met = SmallEvents met.events × SmallKept met.kept

small_nothing : SmallMet comes_to_nothing
unfolding SmallEvents
small_nothing = (tt, tt)

small_unless : (t : Bool) (met : MetRows) → SmallMet met → SmallMet (or14 t met)
unfolding SmallEvents
small_unless true met h = (tt, tt)
small_unless false met h = h

small_cond : (t : Bool) (met other : MetRows) → SmallMet met → SmallMet other → SmallMet (cond t met other)
small_cond true met other h k = h
small_cond false met other h k = k

module _ (row : Row) (rows : List Row) (node depth : ℕ) where
  small_set : (o : Option (List Event)) → ((found : List Event) → o ≡ some found → SmallEvents found) →
      SmallMet (elim o [ none ↦ comes_to (bad ∷ []) none | some found ↦ comes_to found none ])
  unfolding SmallEvents
  small_set none h = (tt, tt)
  small_set (some found) h = (h found refl, tt)

  small_row : (x : ValueRow) (behind : List ValueRow) → SmallRun (x ∷ behind) → SmallMet (row_rule row rows node depth x behind)
  unfolding SmallEvents SmallRun
  small_row x behind small =
      let roots : Bool = has_ancestors_trie row rows in
      let children : Bool = has_field_child row rows in
      let set_ids : MetRows = elim (ids_at (suc depth) behind) [ none ↦ comes_to (bad ∷ []) none | some found ↦ comes_to found none ] in
      let plain_met : MetRows = or14 (roots || (row.mark || children)) comes_to_nothing in
      let entity_met : MetRows = comes_to (yielded (record { id = x.number; node = node }) ∷ []) none in
      let set_met : MetRows = or14 (roots || children) (cond row.mark set_ids comes_to_nothing) in
      let record_met : MetRows = or14 (roots || row.mark) (comes_to [] (some behind)) in
      let of_ids : SmallMet set_ids = small_set (ids_at (suc depth) behind) (λ found e. small_ids (suc depth) behind found e small.1) in
      let of-set : SmallMet set_met =
      small_unless (roots || children) (cond row.mark set_ids comes_to_nothing) (small_cond row.mark set_ids comes_to_nothing of_ids small_nothing) in
      small_cond (ltb x.kind 2) plain_met (cond (eqb x.kind 2) entity_met (cond (eqb x.kind 3) set_met record_met))
      (small_unless (roots || (row.mark || children)) comes_to_nothing small_nothing)
      (small_cond (eqb x.kind 2) entity_met (cond (eqb x.kind 3) set_met record_met) ((small.0, tt), tt)
      (small_cond (eqb x.kind 3) set_met record_met of-set (small_unless (roots || row.mark) (comes_to [] (some behind)) (tt, small.1))))

  small_found : (found : List ValueRow) → SmallRun found → SmallMet (rule_at row rows node depth found)
  small_found [] h = small_nothing
  small_found (x ∷ behind) h = small_row x behind h

  small_node : (kept : Option (List ValueRow)) → SmallKept kept → SmallMet (at_node_rows depth kept row rows node)
  small_node none h = small_nothing
  small_node (some run) h =
      small_cond (is_field row.step) (rule_at row rows node depth (field_row depth (id_of row.step) run)) comes_to_nothing
      (small_found (field_row depth (id_of row.step) run) (small_field depth (id_of row.step) run h)) small_nothing

pub walk_small :
    (depth : ℕ) (kept : List (Option (List ValueRow))) (node : ℕ) (rows : List Row) → SmallAll kept → SmallEvents (walk_rows depth kept node rows)
unfolding walk_rows SmallEvents
walk_small depth kept node [] h = tt
walk_small depth kept node (row ∷ rows) h =
    let here : MetRows = at_node_rows (row.depth - depth) (kept_rows_at kept (row.depth - suc depth)) row rows node in
    let (events, keeps) = small_node row rows node (row.depth - depth) (kept_rows_at kept (row.depth - suc depth)) (small_at kept (row.depth - suc depth) h) in
    by_test (leb row.depth depth)
    (λ e. rw e tt)
    (λ e.
    rw e
    (small_append here.events (walk_rows depth (take (row.depth - depth) kept ++ (here.kept ∷ [])) (suc node) rows) events
    (walk_small depth (take (row.depth - depth) kept ++ (here.kept ∷ [])) (suc node) rows (small_more (row.depth - depth) kept here.kept h keeps))))

-- what is met among attributes
pub remaining_small : (nodes : List Row) (node : ℕ) (words : List ℕ) → SmallEvents (remaining_rows nodes node (value_rows_of words))
unfolding SmallEvents SmallAll
remaining_small nodes node words = go (drop node nodes)
  where
    go : (rest : List Row) → SmallEvents (elim rest [ [] ↦ [] | row ∷ rows ↦ walk_rows row.depth (some (value_rows_of words) ∷ []) (suc node) rows ])
    go [] = tt
    go (row ∷ rows) = walk_small row.depth (some (value_rows_of words) ∷ []) (suc node) rows (words_small words, tt)

-- the rows of a batch
pub batch_small : (events : List Event) (rows : List EntityRequest) → batch_of events ≡ some rows → SmallEvents events → SmallRows rows
unfolding batch_of SmallEvents SmallRows
batch_small [] rows e h = let same : [] ≡ rows = cc in rw (← same) tt
batch_small (yielded row ∷ events) rows e h =
    by_option (batch_of events)
    (λ none_there. let z : ◌≡◌ {A = ℕ} 0 1 = cc (rw none_there at e) in absurd (omega arith))
    (λ more there. let same : row ∷ more ≡ rows = cc (rw there at e) in rw (← same) (h.0, batch_small events more there h.1))
batch_small (ancestor x ∷ events) rows e h = batch_small events rows e h.1
batch_small (bad ∷ events) rows e h = let z : ◌≡◌ {A = ℕ} 0 1 = cc in absurd (omega arith)

-- so they are read back from their words
pub rows_again : (rows : List EntityRequest) → SmallRows rows → map row_asked (map request_word rows) ≡ rows
unfolding SmallRows
rows_again [] h = refl
rows_again (row ∷ rows) h = rw (request_again row h.0, rows_again rows h.1)

-- ---- the first batch

small_context : (words : List ℕ) (depth node : ℕ) (rows : List Row) → SmallEvents (in_context_rows (value_rows_of words) depth node rows)
unfolding in_context_rows SmallEvents SmallAll
small_context words depth node [] = tt
small_context words depth node (row ∷ rows) =
    by_test (leb row.depth depth)
    (λ e. rw e tt)
    (λ e.
    by_test (eqb row.depth (suc depth) && is_context_root row.step)
    (λ root. rw (e, root) (walk_small (suc depth) (some (value_rows_of words) ∷ []) (suc node) rows (words_small words, tt)))
    (λ other. rw (e, other) (small_context words depth (suc node) rows)))

pub small_roots :
    (request : Request) (depth node : ℕ) (rows : List Row)
    → request.principal < ids
    → request.resource < ids
    → SmallEvents (at_roots request depth node rows)
unfolding at_roots SmallEvents
small_roots request depth node [] h k = tt
small_roots request depth node (row ∷ rows) h k =
    let rest = small_roots request depth (suc node) rows h k in
    by_test (leb row.depth depth)
    (λ e. rw e tt)
    (λ e. by_test (asks_at depth row) (λ a. rw (e, a) (named_small request row.step h k, rest)) (λ a. rw (e, a) rest))

pub initial_small :
    (asked : Asked) (context : List ℕ) (depth node : ℕ) (rows : List Row)
    → asked.principal < ids
    → asked.resource < ids
    → SmallEvents (initial_entities (request_with asked context) depth node rows)
initial_small asked context depth node rows h k =
    rw (initial_rows asked context depth node rows)
    (small_append (in_context_rows (value_rows_of context) depth node rows) (at_roots (request_with asked []) depth node rows)
    (small_context context depth node rows)
    (small_roots (request_with asked []) depth node rows h k))
