-- `wrapped_paths::measure` meets its contract: at each turn as many wrapped paths as are left stand ahead.
use Rattle.wrapped_paths.specs.Code.{size_of, wraps_of}
use Prim.Native.Nat.{◌+◌, ◌-◌, ◌≤◌}
use native.Mathlib.Omega.{arith}
use lib.ListN.{length}
use Rattle.wrapped_paths.specs.CodeLaws.{HeadsLeft, measuring_first, measured, left_few, nodes_few, left_within, left_room, left_next}
use Rattle.wrapped_paths.proofs.measure.Goals as goal
use Rattle.wrapped_paths.proofs.measure.Goals.{After-words-from, After-wraps, At-loop-left}

-- what is left of the paths that stand there
standing :
    (c : At-loop-left) →
    let a = c.args in
    HeadsLeft a.code.now c.requires.paths c.requires.rest a.at c.loop-left.from c.loop-left.left c.loop-left.nodes
standing c = c.loop-left.invariant c.requires.paths c.requires.rest c.requires.as_many c.requires.coded

-- the next head's words are there
room : (c : After-words-from) → (let a = c.args in HeadsLeft a.code.now c.requires.paths c.requires.rest a.at c.loop-left.from c.loop-left.left c.loop-left.nodes) → c.loop-left.from + c.words-from.result ≤ length c.args.code.now
room c standing-here = rw c.words-from.ensures (left_room standing-here c.loop-left-test.true c.of-head.ensures.value)

-- what is left after it
after : (c : After-wraps) → (let a = c.args in HeadsLeft a.code.now c.requires.paths c.requires.rest a.at c.loop-left.from c.loop-left.left c.loop-left.nodes) → HeadsLeft c.args.code.now c.requires.paths c.requires.rest c.args.at (c.loop-left.from + (1 + size_of c.of-head.result)) (c.loop-left.left - 1 + wraps_of c.of-head.result) (c.loop-left.nodes + 1)
after c standing-here = left_next standing-here c.loop-left-test.true c.of-head.ensures.value

pub loop-left-init : goal.loop-left-init
loop-left-init c = measuring_first _ _ _

pub offset_bounds-code-from : goal.offset_bounds-code-from
offset_bounds-code-from c = omega (arith, left_within (standing (goal.at.offset_bounds-code-from c).At-loop-left) c.loop-left-test.true)

pub bounds-code-from : goal.bounds-code-from
bounds-code-from c = left_within (standing (goal.at.bounds-code-from c).At-loop-left) c.loop-left-test.true

pub words-from-requires : goal.words-from-requires
words-from-requires c = c.of-head.ensures.result_bound

pub overflow_add-from : goal.overflow_add-from
overflow_add-from c = omega (arith, room (goal.at.overflow_add-from c).After-words-from (standing (goal.at.overflow_add-from c).At-loop-left))

pub overflow_add-left : goal.overflow_add-left
overflow_add-left c = omega (arith, left_few (after (goal.at.overflow_add-left c).After-wraps (standing (goal.at.overflow_add-left c).At-loop-left)), c.wraps.ensures)

pub overflow_add-nodes : goal.overflow_add-nodes
overflow_add-nodes c = omega (arith, nodes_few (after (goal.at.overflow_add-nodes c).After-wraps (standing (goal.at.overflow_add-nodes c).At-loop-left)) c.requires.coded)

pub loop-left-smaller : goal.loop-left-smaller
loop-left-smaller c = omega (arith, room (goal.at.loop-left-smaller c).After-words-from (standing (goal.at.loop-left-smaller c).At-loop-left), c.words-from.ensures)

pub loop-left-preserved : goal.loop-left-preserved
loop-left-preserved c = λ paths rest many e. rw (c.words-from.ensures, c.wraps.ensures) (left_next (c.loop-left.invariant paths rest many e) c.loop-left-test.true c.of-head.ensures.value)

pub returns : goal.returns
returns c = measured c.loop-left.invariant c.loop-left-test.false
