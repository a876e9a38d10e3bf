-- Laws of the value rule, case by case. No contract cites this file.
use Rattle.std.specs.Prelude.{ℕ, suc, ◌+◌, ◌≤◌, ◌<◌, ◌≡◌, refl, Bool, true, false, cond, ◌||◌, List, [], ◌∷◌, ltb, eqb}
use Rattle.std.proofs.Common.{arith, lt-ltb, le-ltb, eq-eqb, ne_eqb}
use Rattle.std.proofs.Math.Option.{none, some}
use Rattle.rules.specs.Facts.{compared}
use Rattle.rules.specs.Tries.{Row, kind_of, id_of}
use Rattle.rules.specs.ValueRows.{ValueRow}
use Rattle.rules.specs.Loading.{yielded, bad, has_field_child, has_ancestors_trie}
use Rattle.rules.specs.WalkRows.{field_row, ids_at, MetRows, comes_to, comes_to_nothing, or14, row_rule, rule_at, at_node_rows}
use Rattle.row_walk.specs.RowWalks.{ancestors_at, ids_if_held}

module _ (row : Row) (rows : List Row) (node depth : ℕ) (x : ValueRow) (behind : List ValueRow) where
  -- an entity's id
  pub rule_entity : x.kind ≡ 2 → row_rule row rows node depth x behind ≡ comes_to (yielded (record { id = x.number; node = node }) ∷ []) none
  rule_entity e = rw e

  module _ (other : x.kind ≡ 2 → ⊥) where
    pub rule_roots : has_ancestors_trie row rows ≡ true → row_rule row rows node depth x behind ≡ comes_to (bad ∷ []) none
    rule_roots e = rw (e, ne_eqb x.kind 2 other) (go (ltb x.kind 2) (eqb x.kind 3))
      where
        go : (t u : Bool) → ◌≡◌ {A = MetRows} (cond t (comes_to (bad ∷ []) none) (cond u (comes_to (bad ∷ []) none) (comes_to (bad ∷ []) none))) (comes_to (bad ∷ []) none)
        go true u = refl
        go false true = refl
        go false false = refl

    module _ (no-roots : has_ancestors_trie row rows ≡ false) where
      -- a record, or what is past it
      pub rule_record : 3 < x.kind → row_rule row rows node depth x behind ≡ or14 row.mark (comes_to [] (some behind))
      rule_record h = rw (no-roots, le-ltb x.kind 2 (omega arith), ne_eqb x.kind 2 other, ne_eqb x.kind 3 (λ e. omega arith))

      -- a value below it
      plain_rule : x.kind < 2 → row_rule row rows node depth x behind ≡ or14 (row.mark || has_field_child row rows) comes_to_nothing
      plain_rule h = rw (no-roots, lt-ltb x.kind 2 h)

      set_rule : x.kind ≡ 3 → row_rule row rows node depth x behind ≡ or14 (has_field_child row rows)
          (cond row.mark (elim (ids_at (suc depth) behind) [ none ↦ comes_to (bad ∷ []) none | some ids ↦ comes_to ids none ]) comes_to_nothing)
      set_rule e = rw (no-roots, e)

      module _ (low : x.kind ≤ 3) where
        pub rule_fields : has_field_child row rows ≡ true → row_rule row rows node depth x behind ≡ comes_to (bad ∷ []) none
        rule_fields e =
            compared x.kind 2
            (λ h. rw (plain_rule h, e) (go row.mark))
            (λ h. rw (set_rule (omega (arith, other)), e))
          where
            go : (mark : Bool) → or14 (mark || true) comes_to_nothing ≡ comes_to (bad ∷ []) none
            go true = refl
            go false = refl

        module _ (no_fields : has_field_child row rows ≡ false) where
          pub rule_unmarked : row.mark ≡ false → row_rule row rows node depth x behind ≡ comes_to_nothing
          rule_unmarked e =
              compared x.kind 2
              (λ h. rw (plain_rule h, e, no_fields))
              (λ h. rw (set_rule (omega (arith, other)), no_fields, e))

          pub rule_plain : x.kind < 2 → row.mark ≡ true → row_rule row rows node depth x behind ≡ comes_to (bad ∷ []) none
          rule_plain h e = rw (plain_rule h, e)

          pub rule_set :
              (held : Bool)
              → 2 ≤ x.kind
              → row.mark ≡ true
              → ids_at (depth + 1) behind ≡ ids_if_held held (depth + 1) behind
              → row_rule row rows node depth x behind
              ≡ cond held (comes_to (ancestors_at (depth + 1) behind) none) (comes_to (bad ∷ []) none)
          rule_set held h e told =
              let next : depth + 1 ≡ suc depth = omega arith in
              rw next (rw (set_rule (omega (arith, other)), no_fields, e, rw next at told) (go held))
            where
              go : (held : Bool) → (elim (ids_if_held held (suc depth) behind) [ none ↦ comes_to (bad ∷ []) none | some ids ↦ comes_to ids none ])
                  ≡ cond held (comes_to (ancestors_at (suc depth) behind) none) (comes_to (bad ∷ []) none)
              go true = refl
              go false = refl

-- At a node: what is kept is some rows, the node is a root, or its field is looked up.

module _ (depth : ℕ) (run : List ValueRow) (row : Row) (rows : List Row) (node : ℕ) where
  pub node_root : (kind_of row.step ≡ 0 → ⊥) → at_node_rows depth (some run) row rows node ≡ comes_to_nothing
  node_root other = rw (ne_eqb (kind_of row.step) 0 other)

  pub node_field :
      {found : List ValueRow}
      → kind_of row.step ≡ 0
      → found ≡ field_row depth (id_of row.step) run
      → at_node_rows depth (some run) row rows node ≡ rule_at row rows node depth found
  node_field e same = rw (eq-eqb (kind_of row.step) 0 e, same)
