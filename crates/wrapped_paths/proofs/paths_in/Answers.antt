-- `wrapped_paths::paths_in` meets its contract: at each turn the paths that were noted and those ahead are all paths.
use Prim.Native.Nat.{◌+◌, ◌-◌, ◌≤◌}
use native.Mathlib.Omega.{arith}
use mathlib.Core.Path.{sym, ◌∙◌}
use lib.ListN.{length}
use Rattle.wrapped_paths.specs.Code.{size_of, wraps_of}
use Rattle.wrapped_paths.specs.CodeLaws.{Seen, searching_first, name_searched, seen_few, seen_more, seen_within, seen_room, seen_next}
use Rattle.wrapped_paths.proofs.paths_in.Goals as goal
use Rattle.wrapped_paths.proofs.paths_in.Goals.{After-of-head, After-wraps, At-loop-left}

-- the paths that were noted of those that stand there, and what is left
seen :
    (c : At-loop-left) →
    Seen c.args.code.now c.requires.0.rest c.requires.0.paths c.loop-left.places c.loop-left.from c.loop-left.left c.loop-left.found
seen c = c.loop-left.invariant.1 c.requires.0.paths c.requires.0.rest c.requires.0.coded c.requires.0.good_paths

-- the next head's words are there
room : (c : After-of-head) → (Seen c.args.code.now c.requires.0.rest c.requires.0.paths c.loop-left.places c.loop-left.from c.loop-left.left c.loop-left.found) → c.loop-left.from + (1 + size_of c.of-head.result) ≤ length c.args.code.now
room c seen-here = seen_room seen-here c.loop-left-test.true c.of-head.ensures.value

-- what is left after it
after : (c : After-wraps) → (Seen c.args.code.now c.requires.0.rest c.requires.0.paths c.loop-left.places c.loop-left.from c.loop-left.left c.loop-left.found) → Seen c.args.code.now c.requires.0.rest c.requires.0.paths c.note_path-found.new.places (c.loop-left.from + (1 + size_of c.of-head.result)) (c.loop-left.left - 1 + wraps_of c.of-head.result) c.note_path-found.result
after c seen-here = seen_next seen-here c.loop-left-test.true c.of-head.ensures.value c.note_path-found.ensures

pub loop-left-init : goal.loop-left-init
loop-left-init c = (c.requires.1, searching_first _ _ _)

pub offset_bounds-code-from : goal.offset_bounds-code-from
offset_bounds-code-from c = omega (arith, seen_within (seen (goal.at.offset_bounds-code-from c).At-loop-left) c.loop-left-test.true)

pub bounds-code-from : goal.bounds-code-from
bounds-code-from c = seen_within (seen (goal.at.bounds-code-from c).At-loop-left) c.loop-left-test.true

pub note_path-found-requires : goal.note_path-found-requires
note_path-found-requires c = omega (arith, seen_more (seen (goal.at.note_path-found-requires c).At-loop-left) c.loop-left-test.true, c.loop-left.invariant.0, c.requires.0.few_nodes)

pub words-from-requires : goal.words-from-requires
words-from-requires c = c.of-head.ensures.result_bound

pub overflow_add-from : goal.overflow_add-from
overflow_add-from c = omega (arith, room (goal.at.overflow_add-from c).After-of-head (seen (goal.at.overflow_add-from c).At-loop-left), c.words-from.ensures)

pub overflow_add-left : goal.overflow_add-left
overflow_add-left c = omega (arith, seen_few (after (goal.at.overflow_add-left c).After-wraps (seen (goal.at.overflow_add-left c).At-loop-left)), c.wraps.ensures)

pub loop-left-smaller : goal.loop-left-smaller
loop-left-smaller c = omega (arith, room (goal.at.loop-left-smaller c).After-of-head (seen (goal.at.loop-left-smaller c).At-loop-left), c.words-from.ensures)

pub loop-left-preserved : goal.loop-left-preserved
loop-left-preserved c = (c.note_path-found.auto.places ∙ c.loop-left.invariant.0, λ paths rest e good. rw (c.words-from.ensures, c.wraps.ensures) (seen_next (c.loop-left.invariant.1 paths rest e good) c.loop-left-test.true c.of-head.ensures.value c.note_path-found.ensures))

pub shape_of-places : goal.shape_of-places
shape_of-places c = c.loop-left.invariant.0 ∙ sym c.requires.1

pub returns : goal.returns
returns c = name_searched c.args.at c.loop-left.invariant.1 c.loop-left-test.false
