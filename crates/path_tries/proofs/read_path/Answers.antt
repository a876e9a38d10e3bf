-- `path_tries::read_path` meets its contract: the first i steps are those of the path.
use Prim.Native.Nat.{◌+◌, ◌≤◌, ◌<◌}
use native.Mathlib.Omega.{arith}
use mathlib.Core.Path.{◌≡◌, refl, sym, ◌∙◌}
use lib.ListN.{length, length-set}
use Rattle.wrapped_paths.specs.Code.{steps_at, AllWithin, path_at}
use Rattle.path_tries.specs.NodeLaws.{path_some, path_steps, path_first, path_later, reading_first, reading_next, reading_all}
use Rattle.path_tries.proofs.read_path.Goals as goal
use Rattle.path_tries.proofs.read_path.Goals.{After-from-in-loop-i, Start}

-- all of the path stands in the words, and there is room for it
there : (c : Start) → c.args.at + 1 + steps_at c.args.code.now c.args.at ≤ length c.args.code.now
unfolding AllWithin
there c = c.requires.0.0

many : (c : Start) → length (path_at c.args.code.now c.args.at) ≡ steps_at c.args.code.now c.args.at
many c = path_steps c.args.code.now c.args.at (there c)

few : (c : Start) → (0 < steps_at c.args.code.now c.args.at) × (steps_at c.args.code.now c.args.at ≤ length c.args.path.now)
few c = (omega (arith, many c, path_some c.requires.1.0), omega (arith, many c, c.requires.1.0.short, c.requires.1.1))

pub overflow_add-first : goal.overflow_add-first
overflow_add-first c = omega (arith, there (goal.at.overflow_add-first c).Start)

pub steps_at-steps-requires : goal.steps_at-steps-requires
steps_at-steps-requires c = omega (arith, there (goal.at.steps_at-steps-requires c).Start)

pub offset_bounds-code-at : goal.offset_bounds-code-at
offset_bounds-code-at c = omega (arith, there (goal.at.offset_bounds-code-at c).Start)

pub bounds-code-at : goal.bounds-code-at
bounds-code-at c = omega (arith, there (goal.at.bounds-code-at c).Start)

pub overflow_mul-path : goal.overflow_mul-path
overflow_mul-path c = omega (arith, c.from.ensures)

pub offset_bounds-code-first : goal.offset_bounds-code-first
offset_bounds-code-first c = omega (arith, there (goal.at.offset_bounds-code-first c).Start, few (goal.at.offset_bounds-code-first c).Start)

pub bounds-code-first : goal.bounds-code-first
bounds-code-first c = omega (arith, there (goal.at.bounds-code-first c).Start, few (goal.at.bounds-code-first c).Start)

pub overflow_add-path : goal.overflow_add-path
overflow_add-path c = omega (arith, c.from.ensures, c.from-2.ensures)

pub bounds-path-0 : goal.bounds-path-0
bounds-path-0 c = omega (arith, few (goal.at.bounds-path-0 c).Start)

pub loop-i-init : goal.loop-i-init
loop-i-init c =
    let a = c.args in
    let root = path_first a.code.now a.at (there (goal.at.loop-i-init c).Start) (few (goal.at.loop-i-init c).Start).0 in (
      refl,
      (
        omega arith,
        reading_next (reading_first (path_at a.code.now a.at) a.path.now) (omega (arith, many (goal.at.loop-i-init c).Start, few (goal.at.loop-i-init c).Start)) (omega (arith, few (goal.at.loop-i-init c).Start)) (root ∙ rw (c.from.ensures, c.from-2.ensures)),
      ),
    )

pub overflow_add-first-in-loop-i : goal.overflow_add-first-in-loop-i
overflow_add-first-in-loop-i c = omega (arith, there (goal.at.overflow_add-first-in-loop-i c).Start, c.loop-i-test.true, c.steps_at-steps.ensures)

pub offset_bounds-code-first-in-loop-i : goal.offset_bounds-code-first-in-loop-i
offset_bounds-code-first-in-loop-i c = omega (arith, there (goal.at.offset_bounds-code-first-in-loop-i c).Start, c.loop-i-test.true, c.steps_at-steps.ensures)

pub bounds-code-first-in-loop-i : goal.bounds-code-first-in-loop-i
bounds-code-first-in-loop-i c = omega (arith, there (goal.at.bounds-code-first-in-loop-i c).Start, c.loop-i-test.true, c.steps_at-steps.ensures)

-- the next step has a place
room : (c : After-from-in-loop-i) → ((0 < steps_at c.args.code.now c.args.at) × (steps_at c.args.code.now c.args.at ≤ length c.args.path.now)) → c.loop-i.i < length c.loop-i.path
room c few-here = omega (arith, few-here, c.loop-i-test.true, c.steps_at-steps.ensures, simp length-set at c.loop-i.invariant.0)

pub offset_bounds-path-i : goal.offset_bounds-path-i
offset_bounds-path-i c = omega (arith, room (goal.at.offset_bounds-path-i c).After-from-in-loop-i (few (goal.at.offset_bounds-path-i c).Start), simp length-set at c.loop-i.invariant.0, c.requires.1.1)

pub bounds-path-i : goal.bounds-path-i
bounds-path-i c = room (goal.at.bounds-path-i c).After-from-in-loop-i (few (goal.at.bounds-path-i c).Start)

pub loop-i-preserved : goal.loop-i-preserved
loop-i-preserved c =
    let field = path_later c.args.code.now c.args.at (there (goal.at.loop-i-preserved c).Start) c.loop-i.i c.loop-i.invariant.1.0 (omega (arith, c.loop-i-test.true, c.steps_at-steps.ensures)) in (
      simp length-set (simp length-set at c.loop-i.invariant.0),
      (omega arith, reading_next c.loop-i.invariant.1.1 (omega (arith, many (goal.at.loop-i-preserved c).Start, c.loop-i-test.true, c.steps_at-steps.ensures)) (room (goal.at.loop-i-preserved c).After-from-in-loop-i (few (goal.at.loop-i-preserved c).Start)) (field ∙ sym c.from-in-loop-i.ensures)),
    )

pub shape_of-path : goal.shape_of-path
shape_of-path c = simp length-set at c.loop-i.invariant.0

pub returns : goal.returns
returns c =
    let end : c.loop-i.i ≡ c.steps_at-steps.result = omega (arith, few (goal.at.returns c).Start, c.steps_at-steps.ensures) in (
      omega (arith, c.loop-i.invariant.1.1.so_many, c.requires.1.0.short, c.requires.1.1, simp length-set at c.loop-i.invariant.0),
      rw (← end) (reading_all c.loop-i.invariant.1.1 (omega (arith, many (goal.at.returns c).Start, c.loop-i-test.false, c.steps_at-steps.ensures))),
    )
