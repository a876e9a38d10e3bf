-- The walk over a run of value rows meets what the walk over the fields that are read from it meets.
use Rattle.std.specs.Prelude.{ℕ, zero, suc, ◌+◌, ◌-◌, ◌≤◌, ◌<◌, ◌≡◌, refl, ◌⊎◌, Bool, true, false, cond, ◌||◌, List, [], ◌∷◌, ◌++◌, leb, eqb, length, take, drop}
use Rattle.std.proofs.Common.{arith, add-zero, sym, ap, ◌∙◌, inl, inr, leb-false, lt-ltb, le-ltb, eq-eqb, ne_eqb}
use Rattle.std.proofs.Math.Option.{Option, none, some}
use Rattle.rules.specs.Facts.{by_test, compared}
use Rattle.rules.specs.Tries.{Row, id_of}
use Rattle.rules.specs.Listing.{◌>>=◌}
use Rattle.rules.specs.Values.{Value, Elements, element, Attributes, attribute_in}
use Rattle.rules.specs.ValueRows.{ValueRow, attribute_rows}
use Rattle.rules.specs.ValueRowTests.{value_from, elements_from, attributes_from}
use Rattle.rules.proofs.ValueRowTestLaws.{read_value, read_run}
use Rattle.rules.specs.Typing.{is_field}
use Rattle.rules.specs.Loading.{Request, Event, ancestor, bad, has_field_child, has_ancestors_trie, ids_in, comes_to as met_fields, or14 as unless_fields, value_rule, at_node, kept_at, walk_nodes, remaining_entities, in_context}
use Rattle.rules.specs.WalkRows.{field_row, ids_at, MetRows, comes_to, comes_to_nothing, or14, row_rule, rule_at, at_node_rows, kept_rows_at, walk_rows, remaining_rows, in_context_rows}
pub use Rattle.rules.specs.WalkRowLaws.{row_value, read_kept, read_met, read_all}

-- a number is below another, the same or above it
ordered : {A : Type 0} (m n : ℕ) → (m < n → A) → (m ≡ n → A) → (n < m → A) → A
ordered m n less equal more = compared m n less (λ h. compared n m more (λ k. equal (omega arith)))

-- The field that the scan finds is the one that is read.

pub field-row : (d f : ℕ) (rows : List ValueRow) → attribute_in f (attributes_from d rows) ≡ row_value d (field_row d f rows)
unfolding attribute_in elements_from field_row
field-row d f [] = refl
field-row d f (x ∷ rows) =
    let rest = field-row d f rows in
    ordered x.depth d
    (λ h. rw lt-ltb)
    (λ h. rw (le-ltb x.depth d (omega arith), eq-eqb x.depth d h) (by_test (eqb f x.key) (λ e. rw e) (λ e. rw (e, rest))))
    (λ h. rw (le-ltb x.depth d (omega arith), ne_eqb x.depth d (λ e. omega arith), rest))

-- The ids in a set.

ids_element :
    (x : ValueRow) (kind : ℕ) (a : Elements) (b : Attributes) (rest : Elements)
    → x.kind ≡ kind
    → ids_in (element (value_from x a b) rest) ≡ cond (eqb x.kind 2) (ids_in rest >>= (λ ids. some (ancestor x.number ∷ ids))) none
unfolding ids_in
ids_element x zero a b rest e = rw e
ids_element x (suc zero) a b rest e = rw e
ids_element x (suc (suc zero)) a b rest e = rw e
ids_element x (suc (suc (suc zero))) a b rest e = rw e
ids_element x (suc (suc (suc (suc kind)))) a b rest e =
    rw (ne_eqb x.kind 0 (λ z. omega arith), ne_eqb x.kind 1 (λ z. omega arith), ne_eqb x.kind 2 (λ z. omega arith), ne_eqb x.kind 3 (λ z. omega arith))

pub ids-at : (d : ℕ) (rows : List ValueRow) → ids_in (elements_from d rows) ≡ ids_at d rows
unfolding ids_in elements_from ids_at
ids-at d [] = refl
ids-at d (x ∷ rows) =
    let rest = ids-at d rows in
    ordered x.depth d
    (λ h. rw lt-ltb)
    (λ h. rw (le-ltb x.depth d (omega arith), eq-eqb x.depth d h, ids_element x x.kind (elements_from (suc d) rows) (attributes_from (suc d) rows) (elements_from d rows) refl, rest))
    (λ h. rw (le-ltb x.depth d (omega arith), ne_eqb x.depth d (λ e. omega arith), rest))

-- What a node comes to is the same, with the fields that are read from what is kept.

read_unless : (d : ℕ) (t : Bool) (m : MetRows) → unless_fields t (read_met d m) ≡ read_met d (or14 t m)
read_unless d true m = refl
read_unless d false m = refl

module _ (Node-row : Row) (node-rows : List Row) (node d : ℕ) where
  read_ids :
      (t : Bool) (o : Option (List Event))
      → (cond t (elim o [ none ↦ met_fields (bad ∷ []) none | some ids ↦ met_fields ids none ]) (met_fields [] none))
      ≡ read_met (suc d) (cond t (elim o [ none ↦ comes_to (bad ∷ []) none | some ids ↦ comes_to ids none ]) comes_to_nothing)
  read_ids true none = refl
  read_ids true (some ids) = refl
  read_ids false o = refl

  rule_row :
      (x : ValueRow) (kind : ℕ) (behind : List ValueRow)
      → x.kind ≡ kind
      → value_rule Node-row node-rows node (read_value d x behind) ≡ read_met (suc d) (row_rule Node-row node-rows node d x behind)
  rule_row x zero behind e = rw e (read_unless (suc d) (has_ancestors_trie Node-row node-rows || (Node-row.mark || has_field_child Node-row node-rows)) comes_to_nothing)
  rule_row x (suc zero) behind e = rw e (read_unless (suc d) (has_ancestors_trie Node-row node-rows || (Node-row.mark || has_field_child Node-row node-rows)) comes_to_nothing)
  rule_row x (suc (suc zero)) behind e = rw e
  rule_row x (suc (suc (suc zero))) behind e =
      rw (e, ids-at (suc d) behind, read_ids Node-row.mark (ids_at (suc d) behind))
      (read_unless (suc d) (has_ancestors_trie Node-row node-rows || has_field_child Node-row node-rows)
      (cond Node-row.mark (elim (ids_at (suc d) behind) [ none ↦ comes_to (bad ∷ []) none | some ids ↦ comes_to ids none ]) comes_to_nothing))
  rule_row x (suc (suc (suc (suc kind)))) behind e =
      rw (ne_eqb x.kind 0 (λ z. omega arith), ne_eqb x.kind 1 (λ z. omega arith), ne_eqb x.kind 2 (λ z. omega arith), ne_eqb x.kind 3 (λ z. omega arith), le-ltb x.kind 2 (omega arith))
      (read_unless (suc d) (has_ancestors_trie Node-row node-rows || Node-row.mark) (comes_to [] (some behind)))

  rule-at :
      (o : Option Value) (run : List ValueRow)
      → o ≡ row_value d run
      → (elim o [ none ↦ met_fields [] none | some value ↦ value_rule Node-row node-rows node value ])
      ≡ read_met (suc d) (rule_at Node-row node-rows node d run)
  rule-at o [] e = rw e
  rule-at o (x ∷ behind) e = rw e (rule_row x x.kind behind refl)

  node_met :
      (kept : Option (List ValueRow))
      → at_node (read_kept d kept) Node-row node-rows node ≡ read_met (suc d) (at_node_rows d kept Node-row node-rows node)
  node_met none = refl
  node_met (some run) = by_test (is_field Node-row.step)
      (λ e. rw e (rule-at (attribute_in (id_of Node-row.step) (attributes_from d run)) (field_row d (id_of Node-row.step) run) (field-row d (id_of Node-row.step) run)))
      (λ e. rw e)

-- What is kept for each depth.

kept-at : (d n : ℕ) (kept : List (Option (List ValueRow))) → kept_at (read_all d kept) n ≡ read_kept (d + n) (kept_rows_at kept n)
unfolding kept_at kept_rows_at
kept-at d n [] = refl
kept-at d zero (k ∷ kept) = rw (add-zero d)
kept-at d (suc n) (k ∷ kept) =
    let e : suc d + n ≡ d + suc n = omega arith in
    kept-at (suc d) n kept ∙ ap (λ m. read_kept m (kept_rows_at kept n)) e

kept_short : (n : ℕ) (kept : List (Option (List ValueRow))) → (kept_rows_at kept n ≡ none) ⊎ (n < length kept)
unfolding kept_rows_at
kept_short n [] = inl refl
kept_short zero (k ∷ kept) = inr (omega arith)
kept_short (suc n) (k ∷ kept) = go (kept_short n kept)
  where
    go : (kept_rows_at kept n ≡ none) ⊎ (n < length kept) → (kept_rows_at kept n ≡ none) ⊎ (suc n < suc (length kept))
    go (inl e) = inl e
    go (inr h) = inr (omega arith)

-- one more is kept at its own depth, unless it is none
kept_more :
    (d n : ℕ) (kept : List (Option (List ValueRow))) (o : Option (List ValueRow))
    → (o ≡ none) ⊎ (n ≤ length kept)
    → take n (read_all d kept) ++ (read_kept (d + n) o ∷ []) ≡ read_all d (take n kept ++ (o ∷ []))
kept_more d zero kept o h = rw (add-zero d)
kept_more d (suc n) [] o (inl e) = rw e
kept_more d (suc n) [] o (inr h) = absurd (omega arith)
kept_more d (suc n) (k ∷ kept) o h =
    let e : suc d + n ≡ d + suc n = omega arith in
    rw (← e, kept_more (suc d) n kept o (go h))
  where
    go : (o ≡ none) ⊎ (suc n ≤ suc (length kept)) → (o ≡ none) ⊎ (n ≤ length kept)
    go (inl e) = inl e
    go (inr h) = inr (omega arith)

none_kept :
    (row : Row) (rows : List Row) (node d : ℕ) (k : Option (List ValueRow))
    → k ≡ none
    → (at_node_rows d k row rows node).kept ≡ none
none_kept row rows node d k e = rw e

pub walk-rows :
    (depth : ℕ) (kept : List (Option (List ValueRow))) (node : ℕ) (rows : List Row)
    → walk_nodes depth (read_all 1 kept) node rows ≡ walk_rows depth kept node rows
unfolding walk_nodes walk_rows
walk-rows depth kept node [] = refl
walk-rows depth kept node (row ∷ rows) =
    let o : Option (List ValueRow) =
    (at_node_rows (row.depth - depth) (kept_rows_at kept (row.depth - suc depth)) row rows node).kept in
    by_test (leb row.depth depth)
    (λ e. rw e)
    (λ e.
    let less : depth < row.depth = leb-false row.depth depth e in
    let at : 1 + (row.depth - suc depth) ≡ row.depth - depth = omega arith in
    let here = kept-at 1 (row.depth - suc depth) kept ∙ ap (λ m. read_kept m (kept_rows_at kept (row.depth - suc depth))) at in
    let come = node_met row rows node (row.depth - depth) (kept_rows_at kept (row.depth - suc depth)) in
    let more = kept_more 1 (row.depth - depth) kept o (go less (kept_short (row.depth - suc depth) kept)) in
    let next : 1 + (row.depth - depth) ≡ suc (row.depth - depth) = omega arith in
    rw (e, here, come, ← next, more, walk-rows depth (take (row.depth - depth) kept ++ (o ∷ [])) (suc node) rows))
  where
    go :
        depth < row.depth
        → (kept_rows_at kept (row.depth - suc depth) ≡ none) ⊎ (row.depth - suc depth < length kept)
        → ((at_node_rows (row.depth - depth) (kept_rows_at kept (row.depth - suc depth)) row rows node).kept ≡ none) ⊎ (row.depth - depth ≤ length kept)
    go less (inl e) = inl (none_kept row rows node (row.depth - depth) (kept_rows_at kept (row.depth - suc depth)) e)
    go less (inr h) = inr (omega arith)

-- What is met among attributes, and in the context.

pub remaining-rows :
    (nodes : List Row) (node : ℕ) (run : List ValueRow)
    → remaining_entities nodes node (attributes_from 1 run) ≡ remaining_rows nodes node run
remaining-rows nodes node run = go (drop node nodes)
  where
    go :
        (rest : List Row)
        → ◌≡◌ {A = List Event}
        (elim rest [ [] ↦ [] | r ∷ rows ↦ walk_nodes r.depth (some (attributes_from 1 run) ∷ []) (suc node) rows ])
        (elim rest [ [] ↦ [] | r ∷ rows ↦ walk_rows r.depth (some run ∷ []) (suc node) rows ])
    go [] = refl
    go (r ∷ rows) = walk-rows r.depth (some run ∷ []) (suc node) rows

pub context_rows :
    (request : Request) (run : List ValueRow) (depth node : ℕ) (rows : List Row)
    → request.context ≡ attributes_from 1 run
    → in_context request depth node rows ≡ in_context_rows run depth node rows
unfolding in_context in_context_rows
context_rows request run depth node [] e = refl
context_rows request run depth node (row ∷ rows) e =
    rw (context_rows request run depth (suc node) rows e, e, walk-rows (suc depth) (some run ∷ []) (suc node) rows)

pub remaining_fields :
    (nodes : List Row) (node : ℕ) (f : Attributes) → remaining_entities nodes node f ≡ remaining_rows nodes node (attribute_rows 1 f)
remaining_fields nodes node f = ap (remaining_entities nodes node) (sym (read_run 1 f)) ∙ remaining-rows nodes node (attribute_rows 1 f)

-- A scan under way, for the code's loops: one row on, or the end.

pub scan_above : (d f : ℕ) (x : ValueRow) (rows : List ValueRow) → x.depth < d → field_row d f (x ∷ rows) ≡ []
unfolding field_row
scan_above d f x rows h = rw lt-ltb

pub scan_here :
    (d f : ℕ) (x : ValueRow) (rows : List ValueRow) → x.depth ≡ d → f ≡ x.key → field_row d f (x ∷ rows) ≡ x ∷ rows
unfolding field_row
scan_here d f x rows h k = rw (le-ltb x.depth d (omega arith), eq-eqb x.depth d h, eq-eqb f x.key k)

pub scan_deeper :
    (d f : ℕ) (x : ValueRow) (rows : List ValueRow) → d < x.depth → field_row d f (x ∷ rows) ≡ field_row d f rows
unfolding field_row
scan_deeper d f x rows h = rw (le-ltb x.depth d (omega arith), ne_eqb x.depth d (λ e. omega arith))

pub scan_other :
    (d f : ℕ) (x : ValueRow) (rows : List ValueRow)
    → x.depth ≡ d
    → (f ≡ x.key → ⊥)
    → field_row d f (x ∷ rows) ≡ field_row d f rows
unfolding field_row
scan_other d f x rows h k = rw (le-ltb x.depth d (omega arith), eq-eqb x.depth d h, ne_eqb f x.key k)

pub ids_above : (d : ℕ) (x : ValueRow) (rows : List ValueRow) → x.depth < d → ids_at d (x ∷ rows) ≡ some []
unfolding ids_at
ids_above d x rows h = rw lt-ltb

pub ids_deeper : (d : ℕ) (x : ValueRow) (rows : List ValueRow) → d < x.depth → ids_at d (x ∷ rows) ≡ ids_at d rows
unfolding ids_at
ids_deeper d x rows h = rw (le-ltb x.depth d (omega arith), ne_eqb x.depth d (λ e. omega arith))

pub ids_entity :
    (d : ℕ) (x : ValueRow) (rows : List ValueRow)
    → x.depth ≡ d
    → x.kind ≡ 2
    → ids_at d (x ∷ rows) ≡ (ids_at d rows >>= (λ ids. some (ancestor x.number ∷ ids)))
unfolding ids_at
ids_entity d x rows h k = rw (le-ltb x.depth d (omega arith), eq-eqb x.depth d h, eq-eqb x.kind 2 k)

pub ids_other :
    (d : ℕ) (x : ValueRow) (rows : List ValueRow) → x.depth ≡ d → (x.kind ≡ 2 → ⊥) → ids_at d (x ∷ rows) ≡ none
unfolding ids_at
ids_other d x rows h k = rw (le-ltb x.depth d (omega arith), eq-eqb x.depth d h, ne_eqb x.kind 2 k)
