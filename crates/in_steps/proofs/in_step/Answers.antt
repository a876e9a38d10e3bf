-- `in_steps::in_step` meets its contract: the left result's trie takes the left paths with the ancestors of the right ones, and then the
-- right result's trie.
use Prim.Native.Nat.{◌+◌, ◌-◌}
use mathlib.Core.Path.{◌≡◌, refl, sym, ◌∙◌}
use mathlib.Core.List.{List, ◌∷◌}
use native.Mathlib.Omega.{arith}
use lib.ListN.{take, drop}
use lib.Seq.{length-take-le}
use Rattle.rules.specs.Steps.{Result, in_result}
use Rattle.rules.proofs.TypeLaws.{longest}
use Rattle.wrapped_paths.specs.Code.{code, codes, paths_at, Found}
use Rattle.path_tries.specs.Nodes.{any_deep}
use Rattle.result_stack.specs.Stacks.{stack_paths, Held}
use Rattle.in_steps.specs.AncestorLaws.{held_two, longest_short, in_judging, in_over, in_rows, in_done}
use Rattle.result_stack.specs.JudgingLaws.{judging_deep, copied_top, judging_nodes, run_rows}
use Rattle.result_stack.specs.StackLaws.{at_within, below_held, top_code, top_good, top_stands, top_standing, top_at, code_end, tries_end, two_few, code_end_room, tries_end_room}
use Rattle.in_steps.proofs.in_step.Goals as goal
use Rattle.in_steps.proofs.in_step.Goals.{After-is_too_deep, After-paths_in-left_paths, After-paths_in-right_paths, Else-stack-lt2}

-- the two results on top
two :
    (c : Else-stack-lt2) (results : List Result)
    → Held c.args.code.now c.args.tries.now c.args.stack results
    → (right : Result) × (left : Result) × (rest : List Result) × (results ≡ right ∷ left ∷ rest)
    × Held c.args.code.now c.args.tries.now c.args.stack (right ∷ left ∷ rest)
two c results held = held_two results held (omega (arith, c.if-stack-lt2.false))

-- their paths
found_right :
    (c : After-paths_in-right_paths) (right : Result) (rest : List Result)
    → Held c.args.code.now c.args.tries.now c.args.stack (right ∷ rest)
    → Found c.args.code.now right.paths c.paths_in-right_paths.new.places c.paths_in-right_paths.result
found_right c right rest held = c.paths_in-right_paths.ensures right.paths (codes (stack_paths rest)) (top_code held) (top_good held).good_paths

found_left :
    (c : After-paths_in-left_paths) (right left : Result) (rest : List Result)
    → Held c.args.code.now c.args.tries.now c.args.stack (right ∷ left ∷ rest)
    → Found c.args.code.now left.paths c.paths_in-left_paths.new.places c.paths_in-left_paths.result
found_left c right left rest held =
    (rw (code_end held c.measure-left_code.ensures) at c.paths_in-left_paths.ensures) left.paths (codes (stack_paths rest)) (top_code (below_held held)) (top_good (below_held held)).good_paths

-- whether they are too deep
deep-told :
    (c : After-is_too_deep) → any_deep (paths_at c.args.code.now (take c.paths_in-left_paths.result c.paths_in-left_paths.new.places)) (longest (paths_at c.args.code.now (take c.paths_in-right_paths.result c.paths_in-right_paths.new.places))) ≡ c.is_too_deep.result
deep-told c = sym (c.is_too_deep.ensures ∙ rw c.longest.ensures)

pub returns-then-stack-lt2 : goal.returns-then-stack-lt2
returns-then-stack-lt2 c results held place =
    two_few results held in_result c.if-stack-lt2.true place

pub paths_in-right_paths-requires : goal.paths_in-right_paths-requires
paths_in-right_paths-requires c =
    let (right, left, rest, same, held) = two (goal.at.paths_in-right_paths-requires c).Else-stack-lt2 c.requires.holding.results c.requires.holding.held in
    (top_stands held, refl)

pub measure-left_code-requires : goal.measure-left_code-requires
measure-left_code-requires c =
    let (right, left, rest, same, held) = two (goal.at.measure-left_code-requires c).Else-stack-lt2 c.requires.holding.results c.requires.holding.held in
    top_standing held

pub paths_in-left_paths-requires : goal.paths_in-left_paths-requires
paths_in-left_paths-requires c =
    let (right, left, rest, same, held) = two (goal.at.paths_in-left_paths-requires c).Else-stack-lt2 c.requires.holding.results c.requires.holding.held in
    (rw (code_end held c.measure-left_code.ensures) (top_stands (below_held held)), refl)

pub slice_bounds-left_places-end : goal.slice_bounds-left_places-end
slice_bounds-left_places-end c =
    let (right, left, rest, same, held) = two (goal.at.slice_bounds-left_places-end c).Else-stack-lt2 c.requires.holding.results c.requires.holding.held in
    (found_left (goal.at.slice_bounds-left_places-end c).After-paths_in-left_paths right left rest held).in_places

pub slice_bounds-left-end : goal.slice_bounds-left-end
slice_bounds-left-end c =
    let (right, left, rest, same, held) = two (goal.at.slice_bounds-left-end c).Else-stack-lt2 c.requires.holding.results c.requires.holding.held in
    sym (length-take-le c.paths_in-left_paths.result c.paths_in-left_paths.new.places (found_left (goal.at.slice_bounds-left-end c).After-paths_in-left_paths right left rest held).in_places)

pub slice_bounds-right_places-end : goal.slice_bounds-right_places-end
slice_bounds-right_places-end c =
    let (right, left, rest, same, held) = two (goal.at.slice_bounds-right_places-end c).Else-stack-lt2 c.requires.holding.results c.requires.holding.held in
    (found_right (goal.at.slice_bounds-right_places-end c).After-paths_in-right_paths right (left ∷ rest) held).in_places

pub slice_bounds-right-end : goal.slice_bounds-right-end
slice_bounds-right-end c =
    let (right, left, rest, same, held) = two (goal.at.slice_bounds-right-end c).Else-stack-lt2 c.requires.holding.results c.requires.holding.held in
    sym (length-take-le c.paths_in-right_paths.result c.paths_in-right_paths.new.places (found_right (goal.at.slice_bounds-right-end c).After-paths_in-right_paths right (left ∷ rest) held).in_places)

pub longest-requires : goal.longest-requires
longest-requires c =
    let (right, left, rest, same, held) = two (goal.at.longest-requires c).Else-stack-lt2 c.requires.holding.results c.requires.holding.held in
    (found_right (goal.at.longest-requires c).After-paths_in-right_paths right (left ∷ rest) held).within

pub is_too_deep-requires : goal.is_too_deep-requires
is_too_deep-requires c =
    let (right, left, rest, same, held) = two (goal.at.is_too_deep-requires c).Else-stack-lt2 c.requires.holding.results c.requires.holding.held in
    ((found_left (goal.at.is_too_deep-requires c).After-paths_in-left_paths right left rest held).within, rw c.longest.ensures (longest_short (paths_at c.args.code.now (take c.paths_in-right_paths.result c.paths_in-right_paths.new.places)) (rw (found_right (goal.at.is_too_deep-requires c).After-paths_in-right_paths right (left ∷ rest) held).there (top_good held).good_paths)))

pub returns-then-is_too_deep : goal.returns-then-is_too_deep
returns-then-is_too_deep c results held place =
    let (right, left, rest, same, h) = two (goal.at.returns-then-is_too_deep c).Else-stack-lt2 results held in
    rw same
    (judging_deep (in_judging h (found_left (goal.at.returns-then-is_too_deep c).After-paths_in-left_paths right left rest h).there (found_right (goal.at.returns-then-is_too_deep c).After-paths_in-right_paths right (left ∷ rest) h).there)
    (deep-told (goal.at.returns-then-is_too_deep c).After-is_too_deep ∙ c.if-is_too_deep.true) place)

pub trie_end-left_tries-requires : goal.trie_end-left_tries-requires
trie_end-left_tries-requires c =
    let (right, left, rest, same, held) = two (goal.at.trie_end-left_tries-requires c).Else-stack-lt2 c.requires.holding.results c.requires.holding.held in
    top_at held

pub copy_trie-requires : goal.copy_trie-requires
copy_trie-requires c =
    let (right, left, rest, same, held) = two (goal.at.copy_trie-requires c).Else-stack-lt2 c.requires.holding.results c.requires.holding.held in
    (rw (tries_end held c.trie_end-left_tries.ensures.0) (top_at (below_held held)), c.requires.trie_length)

pub with_ancestors_required-requires : goal.with_ancestors_required-requires
with_ancestors_required-requires c =
    let (right, left, rest, same, held) = two (goal.at.with_ancestors_required-requires c).Else-stack-lt2 c.requires.holding.results c.requires.holding.held in record { paths_to_add = record { state = c.copy_trie.ensures.0; within = (found_left (goal.at.with_ancestors_required-requires c).After-paths_in-left_paths right left rest held).within; all_paths = rw (found_left (goal.at.with_ancestors_required-requires c).After-paths_in-left_paths right left rest held).there (top_good (below_held held)).good_paths }; all_within = ((found_right (goal.at.with_ancestors_required-requires c).After-paths_in-right_paths right (left ∷ rest) held).within, (rw (found_right (goal.at.with_ancestors_required-requires c).After-paths_in-right_paths right (left ∷ rest) held).there (top_good held).good_paths)); right_value = (deep-told (goal.at.with_ancestors_required-requires c).After-is_too_deep ∙ c.if-is_too_deep.false) }

pub shape_of-trie-then-not-with_ancestors_required : goal.shape_of-trie-then-not-with_ancestors_required
shape_of-trie-then-not-with_ancestors_required c = c.with_ancestors_required.auto.trie ∙ c.copy_trie.auto.out

pub returns-then-not-with_ancestors_required : goal.returns-then-not-with_ancestors_required
returns-then-not-with_ancestors_required c results held place =
    let (right, left, rest, same, h) = two (goal.at.returns-then-not-with_ancestors_required c).Else-stack-lt2 results held in
    rw same
    (in_over h
    (found_left (goal.at.returns-then-not-with_ancestors_required c).After-paths_in-left_paths right left rest h).there
    (found_right (goal.at.returns-then-not-with_ancestors_required c).After-paths_in-right_paths right (left ∷ rest) h).there
    (deep-told (goal.at.returns-then-not-with_ancestors_required c).After-is_too_deep ∙ c.if-is_too_deep.false)
    c.copy_trie.new.out
    (copied_top (below_held h) (rw (tries_end h c.trie_end-left_tries.ensures.0) at c.copy_trie.ensures))
    c.with_ancestors_required.ensures
    (c.if-not-with_ancestors_required.true) place)

pub offset_bounds-tries-right_tries : goal.offset_bounds-tries-right_tries
offset_bounds-tries-right_tries c =
    let (right, left, rest, same, held) = two (goal.at.offset_bounds-tries-right_tries c).Else-stack-lt2 c.requires.holding.results c.requires.holding.held in
    omega (arith, at_within (top_at held))

pub union_into-requires : goal.union_into-requires
union_into-requires c =
    let (right, left, rest, same, held) = two (goal.at.union_into-requires c).Else-stack-lt2 c.requires.holding.results c.requires.holding.held in
    (c.with_ancestors_required.ensures.still, judging_nodes held c.trie_end-left_tries.ensures.0)

pub shape_of-trie-then-not-union_into : goal.shape_of-trie-then-not-union_into
shape_of-trie-then-not-union_into c = c.union_into.auto.trie ∙ c.with_ancestors_required.auto.trie ∙ c.copy_trie.auto.out

pub returns-then-not-union_into : goal.returns-then-not-union_into
returns-then-not-union_into c results held place =
    let (right, left, rest, same, h) = two (goal.at.returns-then-not-union_into c).Else-stack-lt2 results held in
    rw same
    (in_rows h
    (found_left (goal.at.returns-then-not-union_into c).After-paths_in-left_paths right left rest h).there
    (found_right (goal.at.returns-then-not-union_into c).After-paths_in-right_paths right (left ∷ rest) h).there
    (deep-told (goal.at.returns-then-not-union_into c).After-is_too_deep ∙ c.if-is_too_deep.false)
    c.copy_trie.new.out
    (copied_top (below_held h) (rw (tries_end h c.trie_end-left_tries.ensures.0) at c.copy_trie.ensures))
    c.with_ancestors_required.ensures
    (c.if-not-with_ancestors_required.false)
    (take (c.trie_end-left_tries.result - (c.args.stack.tries + 1)) (drop (c.args.stack.tries + 1) c.args.tries.now))
    (run_rows h c.trie_end-left_tries.ensures.0)
    c.union_into.ensures
    (c.if-not-union_into.true) place)

pub measure-code_end-requires : goal.measure-code_end-requires
measure-code_end-requires c =
    let (right, left, rest, same, held) = two (goal.at.measure-code_end-requires c).Else-stack-lt2 c.requires.holding.results c.requires.holding.held in
    rw (code_end held c.measure-left_code.ensures) (top_standing (below_held held))

pub trie_end-tries_end-requires : goal.trie_end-tries_end-requires
trie_end-tries_end-requires c =
    let (right, left, rest, same, held) = two (goal.at.trie_end-tries_end-requires c).Else-stack-lt2 c.requires.holding.results c.requires.holding.held in
    rw (tries_end held c.trie_end-left_tries.ensures.0) (top_at (below_held held))

pub overflow_sub-stack : goal.overflow_sub-stack
overflow_sub-stack c =
    omega (arith, c.if-stack-lt2.false)

pub replace-requires : goal.replace-requires
replace-requires c =
    let (right, left, rest, same, held) = two (goal.at.replace-requires c).Else-stack-lt2 c.requires.holding.results c.requires.holding.held in
    let code_room = code_end_room (below_held held) (omega (arith, c.requires.holding.code_room)) (code_end (below_held held) (rw (code_end held c.measure-left_code.ensures) at c.measure-code_end.ensures)) in
    let tries_room = tries_end_room (below_held held) (omega (arith, c.requires.holding.tries_room)) (tries_end (below_held held) (rw (tries_end held c.trie_end-left_tries.ensures.0) at c.trie_end-tries_end.ensures.0)) in
    record {
      paths_fit = code_room;
      trie_fits = (c.union_into.ensures.still, (omega (arith, c.union_into.ensures.still.few_rows, tries_room.0), tries_room.1));
    }

pub shape_of-trie : goal.shape_of-trie
shape_of-trie c = c.union_into.auto.trie ∙ c.with_ancestors_required.auto.trie ∙ c.copy_trie.auto.out

pub returns : goal.returns
unfolding code
returns c results held =
    let (right, left, rest, same, h) = two (goal.at.returns c).Else-stack-lt2 results held in
    rw same
    (in_done h
    (found_left (goal.at.returns c).After-paths_in-left_paths right left rest h).there
    (found_right (goal.at.returns c).After-paths_in-right_paths right (left ∷ rest) h).there
    (deep-told (goal.at.returns c).After-is_too_deep ∙ c.if-is_too_deep.false)
    c.copy_trie.new.out
    (copied_top (below_held h) (rw (tries_end h c.trie_end-left_tries.ensures.0) at c.copy_trie.ensures))
    c.with_ancestors_required.ensures
    (c.if-not-with_ancestors_required.false)
    (take (c.trie_end-left_tries.result - (c.args.stack.tries + 1)) (drop (c.args.stack.tries + 1) c.args.tries.now))
    (run_rows h c.trie_end-left_tries.ensures.0)
    c.union_into.ensures
    (c.if-not-union_into.false)
    (code_end (below_held h) (rw (code_end h c.measure-left_code.ensures) at c.measure-code_end.ensures))
    (tries_end (below_held h) (rw (tries_end h c.trie_end-left_tries.ensures.0) at c.trie_end-tries_end.ensures.0))
    (rw c.word.ensures at c.replace.ensures))
