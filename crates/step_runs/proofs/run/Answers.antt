-- `step_runs::run` meets its contract: the lines that were passed came to the results that the stack holds.
use Prim.Native.Nat.{ℕ, ◌≤◌, ◌<◌}
use native.Mathlib.Omega.{arith}
use mathlib.Core.Path.{◌≡◌, refl, sym, ◌∙◌}
use lib.ListN.{length, length-replicate}
use Rattle.std.proofs.lemmas.Result.{err_from_is_err_and}
use Rattle.text.proofs.Laws.{whole_within}
use Rattle.text.specs.declared.Line.TheVariants.{Whole}
use Rattle.step_runs.specs.StepRunLaws.{running_none, running_all, running_cut, running_ends, running_next}
use Rattle.step_runs.proofs.run.Goals as goal
use Rattle.step_runs.proofs.run.Goals.{In-Whole}

-- the LF that was found stands in the text
within : (c : In-Whole) → (c.loop-at.at ≤ c.in-Whole.end) × (c.in-Whole.end < length c.args.text.now)
within c = whole_within _ _ _ _ c.at.ensures c.in-Whole.is

pub loop-at-init : goal.loop-at-init
loop-at-init c = (
  running_none c.args.types.now.words.now c.args.text.now c.args.code.now c.args.tries.now c.new-stack.result c.new-stack.ensures,
  ((refl, (refl, refl)), (refl, length-replicate {A = ℕ} 1026 0)),
)

pub shape_of-code-in_default : goal.shape_of-code-in_default
shape_of-code-in_default c = c.loop-at.invariant.1.0.0

pub shape_of-tries-in_default : goal.shape_of-tries-in_default
shape_of-tries-in_default c = c.loop-at.invariant.1.0.1.0

pub shape_of-paths-in_default : goal.shape_of-paths-in_default
shape_of-paths-in_default c = c.loop-at.invariant.1.0.1.1

pub returns-in_default : goal.returns-in_default
returns-in_default c =
    let unended : (end : ℕ) → c.at.result ≡ Whole end → ⊥ = c.in_default.not-Whole in
    rw c.at-in_default.ensures (running_cut c.loop-at.invariant.0 c.at.ensures unended c.loop-at-test.true)

pub slice_bounds-step_line-count : goal.slice_bounds-step_line-count
slice_bounds-step_line-count c = omega (arith, within (goal.at.slice_bounds-step_line-count c).In-Whole)

pub slice_bounds-step_line-start : goal.slice_bounds-step_line-start
slice_bounds-step_line-start c = omega (arith, within (goal.at.slice_bounds-step_line-start c).In-Whole)

pub slice_bounds-step_line-end : goal.slice_bounds-step_line-end
slice_bounds-step_line-end c = omega (arith, within (goal.at.slice_bounds-step_line-end c).In-Whole)

pub slice_bounds-step_line-end-in-loop-at : goal.slice_bounds-step_line-end-in-loop-at
slice_bounds-step_line-end-in-loop-at c = sym c.loop-at.invariant.1.1.0

pub slice_bounds-step_line-end-in-loop-at-2 : goal.slice_bounds-step_line-end-in-loop-at-2
slice_bounds-step_line-end-in-loop-at-2 c = sym c.loop-at.invariant.1.1.1

pub step_line-requires : goal.step_line-requires
step_line-requires c =
    record { results = c.loop-at.invariant.0.results; held = c.loop-at.invariant.0.held; few_words = omega (arith, c.loop-at.invariant.1.0.0, c.requires.0); scratch = λ n in_code few. omega (arith, c.requires.1 n (omega (arith, c.loop-at.invariant.1.0.0)) few, c.loop-at.invariant.1.0.1.1); names-length = c.loop-at.invariant.1.1.0; trie_length = c.loop-at.invariant.1.1.1 }

pub shape_of-code-in_err-stack : goal.shape_of-code-in_err-stack
shape_of-code-in_err-stack c = c.step_line.auto.code ∙ c.loop-at.invariant.1.0.0

pub shape_of-tries-in_err-stack : goal.shape_of-tries-in_err-stack
shape_of-tries-in_err-stack c = c.step_line.auto.tries ∙ c.loop-at.invariant.1.0.1.0

pub shape_of-paths-in_err-stack : goal.shape_of-paths-in_err-stack
shape_of-paths-in_err-stack c = c.step_line.auto.paths ∙ c.loop-at.invariant.1.0.1.1

pub returns-in_err-stack : goal.returns-in_err-stack
returns-in_err-stack c =
    let handed = err_from_is_err_and c.from_residual.result c.from_residual.ensures.1 in
    rw (handed.1, handed.2)
    (running_ends c.loop-at.invariant.0 c.at.ensures c.in-Whole.is _ _ c.in_err-stack.field-0.0 (rw c.in_err-stack.was at c.step_line.ensures) c.step_line.auto.code c.step_line.auto.tries)

pub overflow_add-at : goal.overflow_add-at
overflow_add-at c = omega (arith, within (goal.at.overflow_add-at c).In-Whole, c.well_formed.1.1.1.0)

pub overflow_add-lines : goal.overflow_add-lines
overflow_add-lines c = omega (arith, within (goal.at.overflow_add-lines c).In-Whole, c.loop-at.invariant.0.came.lines_passed, c.well_formed.1.1.1.0)

pub loop-at-smaller : goal.loop-at-smaller
loop-at-smaller c = omega (arith, within (goal.at.loop-at-smaller c).In-Whole)

pub loop-at-preserved : goal.loop-at-preserved
loop-at-preserved c = (
  running_next c.loop-at.invariant.0 c.at.ensures c.in-Whole.is (rw c.in_ok-stack.was at c.step_line.ensures),
  (
    (c.step_line.auto.code ∙ c.loop-at.invariant.1.0.0, (c.step_line.auto.tries ∙ c.loop-at.invariant.1.0.1.0, c.step_line.auto.paths ∙ c.loop-at.invariant.1.0.1.1)),
    (c.step_line.auto.names ∙ c.loop-at.invariant.1.1.0, c.step_line.auto.trie ∙ c.loop-at.invariant.1.1.1),
  ),
)

pub shape_of-code : goal.shape_of-code
shape_of-code c = c.loop-at.invariant.1.0.0

pub shape_of-tries : goal.shape_of-tries
shape_of-tries c = c.loop-at.invariant.1.0.1.0

pub shape_of-paths : goal.shape_of-paths
shape_of-paths c = c.loop-at.invariant.1.0.1.1

pub returns : goal.returns
returns c = running_all c.loop-at.invariant.0 c.loop-at-test.false
