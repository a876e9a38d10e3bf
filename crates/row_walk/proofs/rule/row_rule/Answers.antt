-- `row_walk::rule::row_rule` meets its contract: each return is a case of the value rule.
use native.Mathlib.Omega.{arith}
use Prim.Native.Nat.{◌+◌, ◌≤◌}
use mathlib.Core.Path.{◌≡◌, sym, ◌∙◌}
use mathlib.Core.Bool.{false, cond}
use mathlib.Core.List.{[], ◌∷◌}
use mathlib.Core.Option.{none}
use lib.ListN.{drop, get_or}
use Rattle.rules.specs.WalkRows.{comes_to, row_rule}
use Rattle.rules.specs.Loading.{bad, has_field_child, has_ancestors_trie}
use Rattle.rows.specs.Words.{row_in}
use Rattle.rows.specs.States.{rows_of}
use Rattle.values.specs.ValueWords.{value_row_in, value_rows_of}
use Rattle.row_walk.specs.RowWalks.{ancestors_at}
use Rattle.row_walk.specs.RuleLaws.{rule_entity, rule_roots, rule_record, rule_fields, rule_unmarked, rule_plain, rule_set}
use Rattle.row_walk.proofs.rule.row_rule.Goals as goal
use Rattle.row_walk.proofs.rule.row_rule.Goals.{After-has_child, After-has_child-2, After-holds_ids, Else-has_child, Else-has_child-2}

-- the children that are roots, and those that are fields
roots : (c : After-has_child) → has_ancestors_trie (row_in (get_or c.args.nodes.now c.args.node 0)) (rows_of (drop (c.args.node + 1) c.args.nodes.now)) ≡ c.has_child.result
roots c = rw (← c.depth.ensures) (sym c.has_child.ensures)

children : (c : After-has_child-2) → has_field_child (row_in (get_or c.args.nodes.now c.args.node 0)) (rows_of (drop (c.args.node + 1) c.args.nodes.now)) ≡ c.has_child-2.result
children c = rw (← c.depth-2.ensures) (sym c.has_child-2.ensures)

-- a value that is no entity, at a node whose children are no roots
no-roots : (c : Else-has_child) → (has_ancestors_trie (row_in (get_or c.args.nodes.now c.args.node 0)) (rows_of (drop (c.args.node + 1) c.args.nodes.now)) ≡ c.has_child.result) → (has_ancestors_trie (row_in (get_or c.args.nodes.now c.args.node 0)) (rows_of (drop (c.args.node + 1) c.args.nodes.now)) ≡ false) × ((value_row_in (get_or c.args.values.now c.args.at 0)).kind ≡ 2 → ⊥)
no-roots c roots-here = (roots-here ∙ c.if-has_child.false, λ e. c.if-kind-eq-ENTITY.false (c.kind-kind.ensures ∙ e))

-- nor fields, where it is no record
no-children : (c : Else-has_child-2) → (has_field_child (row_in (get_or c.args.nodes.now c.args.node 0)) (rows_of (drop (c.args.node + 1) c.args.nodes.now)) ≡ c.has_child-2.result) → (has_field_child (row_in (get_or c.args.nodes.now c.args.node 0)) (rows_of (drop (c.args.node + 1) c.args.nodes.now)) ≡ false) × ((value_row_in (get_or c.args.values.now c.args.at 0)).kind ≤ 3)
no-children c children-here = (children-here ∙ c.if-has_child-2.false, omega arith)

-- a marked set holds ids only, or not
set-said : (c : After-holds_ids) → ((has_field_child (row_in (get_or c.args.nodes.now c.args.node 0)) (rows_of (drop (c.args.node + 1) c.args.nodes.now)) ≡ false) × ((value_row_in (get_or c.args.values.now c.args.at 0)).kind ≤ 3)) → ((has_ancestors_trie (row_in (get_or c.args.nodes.now c.args.node 0)) (rows_of (drop (c.args.node + 1) c.args.nodes.now)) ≡ false) × ((value_row_in (get_or c.args.values.now c.args.at 0)).kind ≡ 2 → ⊥)) → row_rule (row_in (get_or c.args.nodes.now c.args.node 0)) (rows_of (drop (c.args.node + 1) c.args.nodes.now)) c.args.node c.args.depth (value_row_in (get_or c.args.values.now c.args.at 0)) (value_rows_of (drop (c.args.at + 1) c.args.values.now))
    ≡ cond c.holds_ids.result (comes_to (ancestors_at (c.args.depth + 1) (value_rows_of (drop (c.args.at + 1) c.args.values.now))) none) (comes_to (bad ∷ []) none)
set-said c no-children-here no-roots-here =
    let (none_there, other) = no-roots-here in
    let (no_field, low) = no-children-here in
    rule_set (row_in (get_or c.args.nodes.now c.args.node 0)) (rows_of (drop (c.args.node + 1) c.args.nodes.now)) _ _ (value_row_in (get_or c.args.values.now c.args.at 0)) (value_rows_of (drop (c.args.at + 1) c.args.values.now)) other none_there low no_field c.holds_ids.result (omega arith)
    (sym c.is_marked-2.ensures ∙ c.if-not-is_marked.false)
    c.holds_ids.ensures

pub returns-then-kind-eq-ENTITY : goal.returns-then-kind-eq-ENTITY
returns-then-kind-eq-ENTITY c =
    record {
      means = rw c.number.ensures (sym (rule_entity (row_in (get_or c.args.nodes.now c.args.node 0)) (rows_of (drop (c.args.node + 1) c.args.nodes.now)) _ c.args.depth (value_row_in (get_or c.args.values.now c.args.at 0)) (value_rows_of (drop (c.args.at + 1) c.args.values.now)) (omega arith)));
      small = omega arith;
    }

pub returns-then-has_child : goal.returns-then-has_child
returns-then-has_child c =
    record {
      means = sym (rule_roots (row_in (get_or c.args.nodes.now c.args.node 0)) (rows_of (drop (c.args.node + 1) c.args.nodes.now)) _ _ (value_row_in (get_or c.args.values.now c.args.at 0)) (value_rows_of (drop (c.args.at + 1) c.args.values.now)) (λ e. c.if-kind-eq-ENTITY.false (c.kind-kind.ensures ∙ e)) (roots (goal.at.returns-then-has_child c).After-has_child ∙ c.if-has_child.true));
      small = tt;
    }

pub returns-then-is_marked : goal.returns-then-is_marked
returns-then-is_marked c =
    let (none_there, other) = no-roots (goal.at.returns-then-is_marked c).Else-has_child (roots (goal.at.returns-then-is_marked c).After-has_child) in
    record {
      means = sym (rule_record (row_in (get_or c.args.nodes.now c.args.node 0)) (rows_of (drop (c.args.node + 1) c.args.nodes.now)) _ _ (value_row_in (get_or c.args.values.now c.args.at 0)) (value_rows_of (drop (c.args.at + 1) c.args.values.now)) other none_there (omega arith) ∙ rw (sym c.is_marked.ensures ∙ c.if-is_marked.true));
      small = tt;
    }

pub returns-then-kind-gt-SET : goal.returns-then-kind-gt-SET
returns-then-kind-gt-SET c =
    let (none_there, other) = no-roots (goal.at.returns-then-kind-gt-SET c).Else-has_child (roots (goal.at.returns-then-kind-gt-SET c).After-has_child) in
    record {
      means = sym (rule_record (row_in (get_or c.args.nodes.now c.args.node 0)) (rows_of (drop (c.args.node + 1) c.args.nodes.now)) _ _ (value_row_in (get_or c.args.values.now c.args.at 0)) (value_rows_of (drop (c.args.at + 1) c.args.values.now)) other none_there (omega arith) ∙ rw (sym c.is_marked.ensures ∙ c.if-is_marked.false));
      small = tt;
    }

pub returns-then-has_child-2 : goal.returns-then-has_child-2
returns-then-has_child-2 c =
    let (none_there, other) = no-roots (goal.at.returns-then-has_child-2 c).Else-has_child (roots (goal.at.returns-then-has_child-2 c).After-has_child) in
    record {
      means = sym (rule_fields (row_in (get_or c.args.nodes.now c.args.node 0)) (rows_of (drop (c.args.node + 1) c.args.nodes.now)) _ _ (value_row_in (get_or c.args.values.now c.args.at 0)) (value_rows_of (drop (c.args.at + 1) c.args.values.now)) other none_there (omega arith) (children (goal.at.returns-then-has_child-2 c).After-has_child-2 ∙ c.if-has_child-2.true));
      small = tt;
    }

pub returns-then-not-is_marked : goal.returns-then-not-is_marked
returns-then-not-is_marked c =
    let (none_there, other) = no-roots (goal.at.returns-then-not-is_marked c).Else-has_child (roots (goal.at.returns-then-not-is_marked c).After-has_child) in
    let (no_field, low) = no-children (goal.at.returns-then-not-is_marked c).Else-has_child-2 (children (goal.at.returns-then-not-is_marked c).After-has_child-2) in
    record {
      means = sym (rule_unmarked (row_in (get_or c.args.nodes.now c.args.node 0)) (rows_of (drop (c.args.node + 1) c.args.nodes.now)) _ _ (value_row_in (get_or c.args.values.now c.args.at 0)) (value_rows_of (drop (c.args.at + 1) c.args.values.now)) other none_there low no_field (sym c.is_marked-2.ensures ∙ c.if-not-is_marked.true));
      small = tt;
    }

pub returns-then-kind-lt-ENTITY : goal.returns-then-kind-lt-ENTITY
returns-then-kind-lt-ENTITY c =
    let (none_there, other) = no-roots (goal.at.returns-then-kind-lt-ENTITY c).Else-has_child (roots (goal.at.returns-then-kind-lt-ENTITY c).After-has_child) in
    let (no_field, low) = no-children (goal.at.returns-then-kind-lt-ENTITY c).Else-has_child-2 (children (goal.at.returns-then-kind-lt-ENTITY c).After-has_child-2) in
    record {
      means = sym (rule_plain (row_in (get_or c.args.nodes.now c.args.node 0)) (rows_of (drop (c.args.node + 1) c.args.nodes.now)) _ _ (value_row_in (get_or c.args.values.now c.args.at 0)) (value_rows_of (drop (c.args.at + 1) c.args.values.now)) other none_there low no_field (omega arith) (sym c.is_marked-2.ensures ∙ c.if-not-is_marked.false));
      small = tt;
    }

pub returns-then-holds_ids : goal.returns-then-holds_ids
returns-then-holds_ids c = record { means = sym (set-said (goal.at.returns-then-holds_ids c).After-holds_ids (no-children (goal.at.returns-then-holds_ids c).Else-has_child-2 (children (goal.at.returns-then-holds_ids c).After-has_child-2)) (no-roots (goal.at.returns-then-holds_ids c).Else-has_child (roots (goal.at.returns-then-holds_ids c).After-has_child)) ∙ rw c.if-holds_ids.true); small = tt }

pub returns : goal.returns
returns c = record { means = sym (set-said (goal.at.returns c).After-holds_ids (no-children (goal.at.returns c).Else-has_child-2 (children (goal.at.returns c).After-has_child-2)) (no-roots (goal.at.returns c).Else-has_child (roots (goal.at.returns c).After-has_child)) ∙ rw c.if-holds_ids.false); small = tt }
