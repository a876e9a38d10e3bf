-- `load_ancestors::requests::write_requests` meets its contract: the requests go by the state's parts and the slice that was written.
use Prim.Native.Nat.{◌+◌, ◌-◌, ◌≤◌}
use native.Mathlib.Nat.{add-sub_cancel_left}
use native.Mathlib.Omega.{arith}
use mathlib.Core.Path.{◌≡◌, sym, ap, ◌∙◌}
use lib.ListN.{take, drop, get_or}
use lib.Seq.{length-take-le}
use Rattle.rules.specs.Loading.{Load}
use Rattle.load_state.specs.Transcripts.{node_words}
use Rattle.load_state.specs.WorkedLaws.{nodes_part, from_within, nodes_few}
use Rattle.load_ends.specs.LoadedLaws.{read_same, read_parts, rows_are}
use Rattle.load_ancestors.specs.RequestCallLaws.{asking_room}
use Rattle.load_ancestors.proofs.requests.write_requests.Goals as goal
use Rattle.load_ancestors.proofs.requests.write_requests.Goals.{After-nodes_from-from}

-- where the nodes begin, and that they are the entry's
within : (c : After-nodes_from-from) → let count = get_or c.args.state.now 5 0 in (c.nodes_from-from.result ≤ 10) × (c.nodes_from-from.result ≤ 9 + count)
within c = rw c.nodes_from-from.ensures (from_within (get_or c.args.state.now 5 0))

nodes :
    (c : After-nodes_from-from) →
    take (9 + get_or c.args.state.now 5 0 - c.nodes_from-from.result) (drop c.nodes_from-from.result c.args.state.now) ≡ node_words c.args.state.now
nodes c = rw c.nodes_from-from.ensures (nodes_part c.args.state.now (get_or c.args.state.now 5 0))

pub overflow_add-end : goal.overflow_add-end
overflow_add-end c = omega (arith, (read_parts c.requires.read_to).few_rows)

pub overflow_add-last : goal.overflow_add-last
overflow_add-last c = omega (arith, (read_parts c.requires.read_to).few_values)

pub offset_bounds-state-from : goal.offset_bounds-state-from
offset_bounds-state-from c = omega (arith, (within (goal.at.offset_bounds-state-from c).After-nodes_from-from).0)

pub slice_bounds-compute_ancestors_requests-count : goal.slice_bounds-compute_ancestors_requests-count
slice_bounds-compute_ancestors_requests-count c = omega (arith, (within (goal.at.slice_bounds-compute_ancestors_requests-count c).After-nodes_from-from).1)

pub slice_bounds-compute_ancestors_requests-start : goal.slice_bounds-compute_ancestors_requests-start
slice_bounds-compute_ancestors_requests-start c = omega (arith, (within (goal.at.slice_bounds-compute_ancestors_requests-start c).After-nodes_from-from).1)

pub slice_bounds-compute_ancestors_requests-end : goal.slice_bounds-compute_ancestors_requests-end
slice_bounds-compute_ancestors_requests-end c = omega (arith, (read_parts c.requires.read_to).few_rows, c.requires.in_bounds.0)

pub slice_bounds-compute_ancestors_requests-end-2 : goal.slice_bounds-compute_ancestors_requests-end-2
slice_bounds-compute_ancestors_requests-end-2 c = sym (length-take-le _ _ c.write_slice-stop.ensures.slice.0)

pub slice_bounds-compute_ancestors_requests-end-3 : goal.slice_bounds-compute_ancestors_requests-end-3
slice_bounds-compute_ancestors_requests-end-3 c = omega (arith, (read_parts c.requires.read_to).few_values, c.requires.in_bounds.0)

pub compute_ancestors_requests-requires : goal.compute_ancestors_requests-requires
compute_ancestors_requests-requires c =
    let parts = read_parts c.requires.read_to in
    rw (nodes (goal.at.compute_ancestors_requests-requires c).After-nodes_from-from, c.write_slice-stop.ensures.rows_stay) record { nodes_len_bound = (nodes_few c.args.state.now parts.few_rows, parts.small.0, parts.small.1); room_for = λ lists is. omega (arith, asking_room c.requires.read_to _ lists c.requires.in_bounds.1 (rw (c.write_slice-stop.ensures.slice.1 c.requires.read_to.load c.requires.read_to.told, rows_are c.requires.read_to) at is), c.requires.in_bounds.2) }

pub returns : goal.returns
returns c load told =
    let asked_are = rows_are c.requires.read_to ∙ ap (λ (l : Load). l.asked) (read_same c.requires.read_to told) in
    rw (nodes (goal.at.returns c).After-nodes_from-from, add-sub_cancel_left 4106 (get_or c.args.state.now 6 0), c.write_slice-stop.ensures.rows_stay, c.write_slice-stop.ensures.slice.1 load told, asked_are) at c.compute_ancestors_requests.ensures
