-- `load_state::working::work_out` meets its contract: where the parts are good, the load is worked out from them.
use Prim.Native.Nat.{◌+◌, ◌-◌, ◌≤◌}
use native.Mathlib.Nat.{add-sub_cancel_left}
use native.Mathlib.Omega.{arith}
use mathlib.Core.Path.{◌≡◌, sym, ◌∙◌}
use mathlib.Core.Bool.{true}
use lib.ListN.{take, drop, get_or, length-take}
use Rattle.load_state.specs.LoadStates.{good_parts}
use Rattle.load_state.specs.Transcripts.{node_words, load_in}
use Rattle.load_state.specs.WorkedLaws.{GoodParts, good-parts, nodes_part, from_within, nodes_few}
use Rattle.load_state.proofs.working.work_out.Goals as goal
use Rattle.load_state.proofs.working.work_out.Goals.{After-nodes_from-from, Else-not-has_good_parts}

-- the parts are good
good : (c : Else-not-has_good_parts) → good_parts c.args.state.now ≡ true
good c = sym c.has_good_parts.ensures ∙ c.if-not-has_good_parts.false

parts : (c : Else-not-has_good_parts) → GoodParts c.args.state.now
parts c = good-parts c.args.state.now (good c)

-- where the nodes begin, and that they are the entry's
within : (c : After-nodes_from-from) → let count = get_or c.args.state.now 5 0 in (c.nodes_from-from.result ≤ 10) × (c.nodes_from-from.result ≤ 9 + count)
within c = rw c.nodes_from-from.ensures (from_within (get_or c.args.state.now 5 0))

nodes :
    (c : After-nodes_from-from) →
    take (9 + get_or c.args.state.now 5 0 - c.nodes_from-from.result) (drop c.nodes_from-from.result c.args.state.now) ≡ node_words c.args.state.now
nodes c = rw c.nodes_from-from.ensures (nodes_part c.args.state.now (get_or c.args.state.now 5 0))

pub returns-then-not-has_good_parts : goal.returns-then-not-has_good_parts
unfolding load_in
returns-then-not-has_good_parts c =
    rw (sym c.has_good_parts.ensures ∙ c.if-not-has_good_parts.true) tt

pub overflow_add-end : goal.overflow_add-end
overflow_add-end c =
    omega (arith, (parts (goal.at.overflow_add-end c).Else-not-has_good_parts).few_rows)

pub overflow_add-last : goal.overflow_add-last
overflow_add-last c =
    omega (arith, (parts (goal.at.overflow_add-last c).Else-not-has_good_parts).few_values)

pub offset_bounds-state-from : goal.offset_bounds-state-from
offset_bounds-state-from c =
    omega (arith, (within (goal.at.offset_bounds-state-from c).After-nodes_from-from).0)

pub slice_bounds-work_out_load-count : goal.slice_bounds-work_out_load-count
slice_bounds-work_out_load-count c =
    omega (arith, (within (goal.at.slice_bounds-work_out_load-count c).After-nodes_from-from).1)

pub slice_bounds-work_out_load-start : goal.slice_bounds-work_out_load-start
slice_bounds-work_out_load-start c =
    omega (arith, (within (goal.at.slice_bounds-work_out_load-start c).After-nodes_from-from).1)

pub slice_bounds-work_out_load-end : goal.slice_bounds-work_out_load-end
slice_bounds-work_out_load-end c =
    omega (arith, (parts (goal.at.slice_bounds-work_out_load-end c).Else-not-has_good_parts).few_rows, c.requires.in_bounds.0)

pub slice_bounds-work_out_load-end-2 : goal.slice_bounds-work_out_load-end-2
slice_bounds-work_out_load-end-2 c =
    omega (arith, (parts (goal.at.slice_bounds-work_out_load-end-2 c).Else-not-has_good_parts).few_values, c.requires.in_bounds.0)

pub work_out_load-requires : goal.work_out_load-requires
work_out_load-requires c =
    let good-ones = parts (goal.at.work_out_load-requires c).Else-not-has_good_parts in
    rw (nodes (goal.at.work_out_load-requires c).After-nodes_from-from) (record {
      nodes_len_bound = (nodes_few c.args.state.now good-ones.few_rows, good-ones.small);
      by_index = (_, good-ones.order);
      all_read = (good-ones.read, omega (arith, good-ones.few_answers, c.requires.in_bounds_2.0));
      in_bounds = (c.requires.in_bounds.1, omega (arith, length-take 12288 (drop 12298 c.args.state.now), c.has_good_parts.auto.levels, c.requires.in_bounds_2.1));
    })

pub returns : goal.returns
unfolding load_in
returns c =
    let count = get_or c.args.state.now 6 0 in
    rw (good (goal.at.returns c).Else-not-has_good_parts) (rw (nodes (goal.at.returns c).After-nodes_from-from, add-sub_cancel_left 4106 count) at c.work_out_load.ensures)
