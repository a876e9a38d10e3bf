-- `wrapped_paths::get_or_has_attr` meets its contract: at each turn what is written and what is ahead, extended, are the whole.
use Prim.Native.Nat.{◌-◌, ◌+◌, ◌≤◌}
use native.Mathlib.Omega.{arith}
use mathlib.Core.Path.{refl, sym, ◌∙◌}
use lib.ListN.{length}
use Rattle.rules.proofs.StepLaws.{grown_in}
use Rattle.wrapped_paths.specs.Code.{code}
use Rattle.std.specs.Prelude.{Some}
use Rattle.wrapped_paths.specs.Turns.{Turned, sides_of}
use Rattle.wrapped_paths.specs.AttrLaws.{all_grown, ExtendingPaths, extending_first, going_few, extending_done, going_within, going_more, going_refused, going_room, going_fits, going_on, going_turn}
use Rattle.wrapped_paths.proofs.get_or_has_attr.Goals as goal
use Rattle.wrapped_paths.proofs.get_or_has_attr.Goals.{After-sides, At-loop-left, In_ok-moved}

-- what was made of the paths that stand there, and what is left
going :
    (c : At-loop-left) →
    ExtendingPaths c.args.code.now c.requires.0.result.rest c.args.name c.requires.0.result.paths c.loop-left.out c.loop-left.places c.loop-left.from c.loop-left.to c.loop-left.left c.loop-left.grown
going c = c.loop-left.invariant.1.1 c.requires.0.result.paths c.requires.0.result.rest c.requires.0.result.coded (all_grown c.args.name c.requires.0.result.paths c.ranges.name.fits c.requires.0.result.good_paths)

large :
    (c : At-loop-left) →
    length (code c.requires.0.result.paths) + length (grown_in c.args.name c.requires.0.result.paths) ≤ length c.loop-left.out
large c = omega (arith, c.requires.0.fits, c.loop-left.invariant.0)

-- a turn
turned :
    (c : In_ok-moved) →
    let a = c.args in
    Turned a.code.now c.loop-left.from a.name c.loop-left.out c.loop-left.to c.extend.new.out (Some c.in_ok-moved.moved)
turned c = rw c.in_ok-moved.was at c.extend.ensures

fits : (c : In_ok-moved) → (ExtendingPaths c.args.code.now c.requires.0.result.rest c.args.name c.requires.0.result.paths c.loop-left.out c.loop-left.places c.loop-left.from c.loop-left.to c.loop-left.left c.loop-left.grown) → (length (code c.requires.0.result.paths) + length (grown_in c.args.name c.requires.0.result.paths) ≤ length c.loop-left.out) → c.in_ok-moved.moved.to ≤ length c.loop-left.out
fits c going-here large-here = going_fits going-here c.loop-left-test.true large-here (turned c)

-- what is left after it
after : (c : After-sides) → (let a = c.args in Turned a.code.now c.loop-left.from a.name c.loop-left.out c.loop-left.to c.extend.new.out (Some c.in_ok-moved.moved)) → (ExtendingPaths c.args.code.now c.requires.0.result.rest c.args.name c.requires.0.result.paths c.loop-left.out c.loop-left.places c.loop-left.from c.loop-left.to c.loop-left.left c.loop-left.grown) → (c.in_ok-moved.moved.to ≤ length c.loop-left.out) → ExtendingPaths c.args.code.now c.requires.0.result.rest c.args.name c.requires.0.result.paths c.extend.new.out c.note_path-grown.new.places c.in_ok-moved.moved.from c.in_ok-moved.moved.to (c.loop-left.left - 1 + sides_of c.of-head.result) c.note_path-grown.result
after c turned-here going-here fits-here = going_turn going-here c.loop-left-test.true c.of-head.ensures.value turned-here fits-here c.note_path-grown.ensures

pub loop-left-init : goal.loop-left-init
loop-left-init c = (refl, (c.requires.1, extending_first _ _ _ _ _))

pub offset_bounds-code-from : goal.offset_bounds-code-from
offset_bounds-code-from c = omega (arith, going_within (going (goal.at.offset_bounds-code-from c).At-loop-left) c.loop-left-test.true)

pub bounds-code-from : goal.bounds-code-from
bounds-code-from c = going_within (going (goal.at.bounds-code-from c).At-loop-left) c.loop-left-test.true

pub extend-requires : goal.extend-requires
extend-requires c = (going_room (going (goal.at.extend-requires c).At-loop-left) c.loop-left-test.true (large (goal.at.extend-requires c).At-loop-left), c.of-head.ensures.value)

pub shape_of-out-in_err-moved : goal.shape_of-out-in_err-moved
shape_of-out-in_err-moved c = c.extend.auto.out ∙ c.loop-left.invariant.0

pub shape_of-places-in_err-moved : goal.shape_of-places-in_err-moved
shape_of-places-in_err-moved c = c.loop-left.invariant.1.0 ∙ sym c.requires.1

pub returns-in_err-moved : goal.returns-in_err-moved
returns-in_err-moved c = rw c.from_residual.ensures λ paths rest e good. going_refused (c.loop-left.invariant.1.1 paths rest e (all_grown _ paths c.ranges.name.fits good)) c.loop-left-test.true c.extend.new.out (rw c.in_err-moved.was at c.extend.ensures)

pub note_path-grown-requires : goal.note_path-grown-requires
note_path-grown-requires c = omega (arith, going_more (going (goal.at.note_path-grown-requires c).At-loop-left) c.loop-left-test.true, c.loop-left.invariant.1.0, c.requires.0.result.few_nodes)

pub overflow_add-left : goal.overflow_add-left
overflow_add-left c = omega (arith, going_few (after (goal.at.overflow_add-left c).After-sides (turned (goal.at.overflow_add-left c).In_ok-moved) (going (goal.at.overflow_add-left c).At-loop-left) (fits (goal.at.overflow_add-left c).In_ok-moved (going (goal.at.overflow_add-left c).At-loop-left) (large (goal.at.overflow_add-left c).At-loop-left))), c.sides.ensures)

pub loop-left-smaller : goal.loop-left-smaller
loop-left-smaller c = omega (arith, going_within (going (goal.at.loop-left-smaller c).At-loop-left) c.loop-left-test.true, going_on (going (goal.at.loop-left-smaller c).At-loop-left) c.loop-left-test.true (turned (goal.at.loop-left-smaller c).In_ok-moved))

pub loop-left-preserved : goal.loop-left-preserved
loop-left-preserved c = (c.extend.auto.out ∙ c.loop-left.invariant.0, (c.note_path-grown.auto.places ∙ c.loop-left.invariant.1.0, λ paths rest e good. rw c.sides.ensures (going_turn (c.loop-left.invariant.1.1 paths rest e good) c.loop-left-test.true c.of-head.ensures.value (turned (goal.at.loop-left-preserved c).In_ok-moved) (fits (goal.at.loop-left-preserved c).In_ok-moved (going (goal.at.loop-left-preserved c).At-loop-left) (large (goal.at.loop-left-preserved c).At-loop-left)) c.note_path-grown.ensures)))

pub shape_of-out : goal.shape_of-out
shape_of-out c = c.loop-left.invariant.0

pub shape_of-places : goal.shape_of-places
shape_of-places c = c.loop-left.invariant.1.0 ∙ sym c.requires.1

pub returns : goal.returns
returns c = λ paths rest e good. extending_done (c.loop-left.invariant.1.1 paths rest e (all_grown _ paths c.ranges.name.fits good)) c.loop-left-test.false
