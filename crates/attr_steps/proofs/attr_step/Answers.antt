-- `attr_steps::attr_step` meets its contract: the paths that gained the field go into the top's trie.
use mathlib.Core.Path.{◌≡◌, refl, sym, ◌∙◌}
use mathlib.Core.List.{List, ◌∷◌}
use native.Mathlib.Omega.{arith}
use lib.Seq.{length-take-le}
use Rattle.rules.specs.Steps.{Result}
use Rattle.wrapped_paths.specs.Code.{codes, Grew}
use Rattle.result_stack.specs.Stacks.{stack_paths, Held}
use Rattle.attr_steps.specs.AttrStepLaws.{attr_grows, attr_few, attr_set, attr_room, attr_judging, attr_paths, attr_rows, attr_done}
use Rattle.result_stack.specs.JudgingLaws.{judging_deep, copied_top}
use Rattle.result_stack.specs.StackLaws.{top_code, top_good, top_standing, top_at, code_end, tries_end, held_top, tries_end_room}
use Rattle.attr_steps.proofs.attr_step.Goals as goal
use Rattle.attr_steps.proofs.attr_step.Goals.{Else-stack-eq0, In-Some}

-- the result on top
topped :
    (c : Else-stack-eq0) (results : List Result)
    → Held c.args.code.now c.args.tries.now c.args.stack results
    → (top : Result) × (rest : List Result) × (results ≡ top ∷ rest) × Held c.args.code.now c.args.tries.now c.args.stack (top ∷ rest)
topped c results held = held_top results held (omega (arith, c.if-stack-eq0.false))

-- its paths after the step
grew :
    (c : In-Some) (top : Result) (rest : List Result)
    → Held c.args.code.now c.args.tries.now c.args.stack (top ∷ rest)
    → Grew
    c.args.name
    top.paths
    c.get_or_has_attr.new.out
    c.get_or_has_attr.new.places
    c.in-Some.extended.words
    c.in-Some.extended.grown
grew c top rest held = (rw c.in-Some.is at c.get_or_has_attr.ensures) top.paths (codes (stack_paths rest)) (top_code held) (top_good held).good_paths

pub returns-then-stack-eq0 : goal.returns-then-stack-eq0
returns-then-stack-eq0 c results held place =
    attr_few c.args.name results held c.if-stack-eq0.true place

pub overflow_cast-name : goal.overflow_cast-name
overflow_cast-name c = omega (arith, c.requires.name_bound.0)

pub get_or_has_attr-requires : goal.get_or_has_attr-requires
get_or_has_attr-requires c =
    let (top, rest, same, held) = topped (goal.at.get_or_has_attr-requires c).Else-stack-eq0 c.requires.working.holding.results c.requires.working.holding.held in
    (attr_grows held c.args.name c.requires.working.holding.code_room c.requires.name_bound.1, refl)

pub returns-in_default : goal.returns-in_default
returns-in_default c results held place =
    let (top, rest, same, h) = topped (goal.at.returns-in_default c).Else-stack-eq0 results held in
    let none_there = (rw c.in_default.is at c.get_or_has_attr.ensures) top.paths (codes (stack_paths rest)) (top_code h) (top_good h).good_paths in
    rw same (attr_set h c.args.name none_there place)

pub slice_bounds-places-end : goal.slice_bounds-places-end
slice_bounds-places-end c =
    let (top, rest, same, held) = topped (goal.at.slice_bounds-places-end c).Else-stack-eq0 c.requires.working.holding.results c.requires.working.holding.held in
    (grew (goal.at.slice_bounds-places-end c).In-Some top rest held).in_places

pub slice_bounds-grown-end : goal.slice_bounds-grown-end
slice_bounds-grown-end c =
    let (top, rest, same, held) = topped (goal.at.slice_bounds-grown-end c).Else-stack-eq0 c.requires.working.holding.results c.requires.working.holding.held in
    sym (length-take-le c.in-Some.extended.grown c.get_or_has_attr.new.places (grew (goal.at.slice_bounds-grown-end c).In-Some top rest held).in_places)

pub is_too_deep-requires : goal.is_too_deep-requires
is_too_deep-requires c =
    let (top, rest, same, held) = topped (goal.at.is_too_deep-requires c).Else-stack-eq0 c.requires.working.holding.results c.requires.working.holding.held in
    ((grew (goal.at.is_too_deep-requires c).In-Some top rest held).within, omega arith)

pub returns-then-is_too_deep : goal.returns-then-is_too_deep
returns-then-is_too_deep c results held place =
    let (top, rest, same, h) = topped (goal.at.returns-then-is_too_deep c).Else-stack-eq0 results held in
    rw same (judging_deep (attr_judging h c.args.name c.requires.name_bound.0 (grew (goal.at.returns-then-is_too_deep c).In-Some top rest h)) (sym c.is_too_deep.ensures ∙ c.if-is_too_deep.true) place)

pub copy_trie-requires : goal.copy_trie-requires
copy_trie-requires c =
    let (top, rest, same, held) = topped (goal.at.copy_trie-requires c).Else-stack-eq0 c.requires.working.holding.results c.requires.working.holding.held in
    (top_at held, c.requires.working.trie_length)

pub restore_global_trie_invariant-requires : goal.restore_global_trie_invariant-requires
restore_global_trie_invariant-requires c =
    let (top, rest, same, held) = topped (goal.at.restore_global_trie_invariant-requires c).Else-stack-eq0 c.requires.working.holding.results c.requires.working.holding.held in
    record {
      state = c.copy_trie.ensures.0;
      within = (grew (goal.at.restore_global_trie_invariant-requires c).In-Some top rest held).within;
      all_paths = attr_paths held c.args.name c.requires.name_bound.0 (grew (goal.at.restore_global_trie_invariant-requires c).In-Some top rest held) (sym c.is_too_deep.ensures ∙ c.if-is_too_deep.false);
    }

pub shape_of-trie-then-not-restore_global_trie_invariant : goal.shape_of-trie-then-not-restore_global_trie_invariant
shape_of-trie-then-not-restore_global_trie_invariant c = c.restore_global_trie_invariant.auto.trie ∙ c.copy_trie.auto.out

pub returns-then-not-restore_global_trie_invariant : goal.returns-then-not-restore_global_trie_invariant
returns-then-not-restore_global_trie_invariant c results held place =
    let (top, rest, same, h) = topped (goal.at.returns-then-not-restore_global_trie_invariant c).Else-stack-eq0 results held in
    rw same
    (attr_rows h c.args.name c.requires.name_bound.0 (grew (goal.at.returns-then-not-restore_global_trie_invariant c).In-Some top rest h)
    (sym c.is_too_deep.ensures ∙ c.if-is_too_deep.false)
    c.copy_trie.new.out
    (copied_top h c.copy_trie.ensures) c.restore_global_trie_invariant.ensures
    (c.if-not-restore_global_trie_invariant.true) place)

pub measure-code_end-requires : goal.measure-code_end-requires
measure-code_end-requires c =
    let (top, rest, same, held) = topped (goal.at.measure-code_end-requires c).Else-stack-eq0 c.requires.working.holding.results c.requires.working.holding.held in
    top_standing held

pub trie_end-tries_end-requires : goal.trie_end-tries_end-requires
trie_end-tries_end-requires c =
    let (top, rest, same, held) = topped (goal.at.trie_end-tries_end-requires c).Else-stack-eq0 c.requires.working.holding.results c.requires.working.holding.held in
    top_at held

pub slice_bounds-replace-end : goal.slice_bounds-replace-end
slice_bounds-replace-end c =
    let (top, rest, same, held) = topped (goal.at.slice_bounds-replace-end c).Else-stack-eq0 c.requires.working.holding.results c.requires.working.holding.held in
    (grew (goal.at.slice_bounds-replace-end c).In-Some top rest held).in_out

pub slice_bounds-replace-end-2 : goal.slice_bounds-replace-end-2
slice_bounds-replace-end-2 c =
    let (top, rest, same, held) = topped (goal.at.slice_bounds-replace-end-2 c).Else-stack-eq0 c.requires.working.holding.results c.requires.working.holding.held in
    sym (length-take-le c.in-Some.extended.words c.get_or_has_attr.new.out (grew (goal.at.slice_bounds-replace-end-2 c).In-Some top rest held).in_out)

pub replace-requires : goal.replace-requires
replace-requires c =
    let (top, rest, same, held) = topped (goal.at.replace-requires c).Else-stack-eq0 c.requires.working.holding.results c.requires.working.holding.held in
    let room = tries_end_room held c.requires.working.holding.tries_room (tries_end held c.trie_end-tries_end.ensures.0) in
    record {
      paths_fit = attr_room held c.args.name c.requires.name_bound.0 (grew (goal.at.replace-requires c).In-Some top rest held) c.requires.working.holding.code_room (code_end held c.measure-code_end.ensures);
      trie_fits = (c.restore_global_trie_invariant.ensures.still, (omega (arith, c.restore_global_trie_invariant.ensures.still.few_rows, room.0), room.1));
    }

pub shape_of-paths : goal.shape_of-paths
shape_of-paths c = c.get_or_has_attr.auto.out

pub shape_of-trie : goal.shape_of-trie
shape_of-trie c = c.restore_global_trie_invariant.auto.trie ∙ c.copy_trie.auto.out

pub returns : goal.returns
returns c results held =
    let (top, rest, same, h) = topped (goal.at.returns c).Else-stack-eq0 results held in
    rw same
    (attr_done h c.args.name c.requires.name_bound.0 (grew (goal.at.returns c).In-Some top rest h)
    (sym c.is_too_deep.ensures ∙ c.if-is_too_deep.false)
    c.copy_trie.new.out
    (copied_top h c.copy_trie.ensures) c.restore_global_trie_invariant.ensures
    (c.if-not-restore_global_trie_invariant.false) c.measure-code_end.ensures c.trie_end-tries_end.ensures.0
    c.replace.ensures)
