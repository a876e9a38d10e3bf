-- `row_walk::rule::find_remaining_entities_value` meets its contract: nothing is kept, the node is no field, or its field is looked up.
use native.Mathlib.Omega.{arith}
use Prim.Native.Nat.{◌+◌}
use mathlib.Core.Path.{◌≡◌, sym, ◌∙◌}
use lib.ListN.{drop, get_or, drop_of_length-le}
use Rattle.rules.specs.Tries.{kind_of, id_of}
use Rattle.rules.specs.WalkRows.{rule_at, at_node_rows}
use Rattle.rows.specs.Words.{row_in}
use Rattle.rows.specs.States.{rows_of}
use Rattle.values.specs.ValueWords.{value_row_in, value_rows_of}
use Rattle.row_walk.specs.RowWalks.{kept_in}
use Rattle.row_walk.specs.ScanLaws.{rows_left}
use Rattle.row_walk.specs.RuleLaws.{node_root, node_field}
use Rattle.row_walk.proofs.rule.find_remaining_entities_value.Goals as goal
use Rattle.row_walk.proofs.rule.find_remaining_entities_value.Goals.{After-field_row-at, After-from-step}

-- the step's parts
parts : (c : After-from-step) → let step = (row_in (get_or c.args.nodes.now c.args.node 0)).step in
    (c.from-step.result.kind ≡ kind_of step) × (c.from-step.result.id ≡ id_of step)
parts c = rw (← c.step.ensures) c.from-step.ensures

-- the field's row is looked up in what is kept
looked : (c : After-field_row-at) → (let step = (row_in (get_or c.args.nodes.now c.args.node 0)).step in (c.from-step.result.kind ≡ kind_of step) × (c.from-step.result.id ≡ id_of step)) → at_node_rows c.args.depth (kept_in c.args.values.now c.args.kept) (row_in (get_or c.args.nodes.now c.args.node 0)) (rows_of (drop (c.args.node + 1) c.args.nodes.now)) c.args.node
    ≡ rule_at (row_in (get_or c.args.nodes.now c.args.node 0)) (rows_of (drop (c.args.node + 1) c.args.nodes.now)) c.args.node c.args.depth (value_rows_of (drop c.field_row-at.result c.args.values.now))
looked c parts-here =
    let (kind, id) = parts-here in
    rw c.in-Some.is
    (node_field c.args.depth _ (row_in (get_or c.args.nodes.now c.args.node 0)) (rows_of (drop (c.args.node + 1) c.args.nodes.now)) c.args.node (omega arith) (rw id at c.field_row-at.ensures.values_value))

pub returns-in_default : goal.returns-in_default
returns-in_default c = record { means = rw c.in_default.is; small = tt }

pub returns-then-step-ne0 : goal.returns-then-step-ne0
returns-then-step-ne0 c =
    record {
      means = rw c.in-Some.is (sym (node_root c.args.depth _ (row_in (get_or c.args.nodes.now c.args.node 0)) _ c.args.node (λ e. c.if-step-ne0.true ((parts (goal.at.returns-then-step-ne0 c).After-from-step).0 ∙ e))));
      small = tt;
    }

pub returns-then-at-values : goal.returns-then-at-values
returns-then-at-values c =
    record {
      means = c.row_rule.ensures.means ∙ sym (looked (goal.at.returns-then-at-values c).After-field_row-at (parts (goal.at.returns-then-at-values c).After-from-step) ∙ rw (rows_left value_row_in c.args.values.now c.field_row-at.result c.if-at-values.true));
      small = c.row_rule.ensures.small;
    }

pub returns : goal.returns
returns c =
    record {
      means = sym (looked (goal.at.returns c).After-field_row-at (parts (goal.at.returns c).After-from-step) ∙ rw (drop_of_length-le c.args.values.now c.if-at-values.false));
      small = tt;
    }
