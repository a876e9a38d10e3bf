-- `policy_runs::run_policy` meets its contract: the lines that were passed came to what the buffers hold, and at the end the contribution ends.
use Prim.Native.Nat.{ℕ, ◌≤◌, ◌<◌}
use native.Mathlib.Omega.{arith}
use mathlib.Core.Path.{◌≡◌, refl, sym, ◌∙◌}
use lib.ListN.{length, length-replicate}
use Rattle.std.proofs.lemmas.Result.{err_from_is_err_and}
use Rattle.text.proofs.Laws.{whole_within}
use Rattle.text.specs.declared.Line.TheVariants.{Whole}
use Rattle.policy_runs.specs.PolicyRunLaws.{running_begins, running_uncut, running_request, running_stops, running_takes, running_ends, running_unended}
use Rattle.policy_runs.proofs.run_policy.Goals as goal
use Rattle.policy_runs.proofs.run_policy.Goals.{In-Whole}

-- the LF that was found stands in the text
within : (c : In-Whole) → (c.loop-at.at ≤ c.in-Whole.end) × (c.in-Whole.end < length c.args.text.now)
within c = whole_within _ _ _ _ c.at.ensures c.in-Whole.is

pub loop-at-init : goal.loop-at-init
loop-at-init c =
    let a = c.args in (
      running_begins a.types.now.words.now a.text.now a.rows.now a.code.now a.tries.now c.requires.lent,
      ((refl, (refl, (refl, refl))), ((refl, length-replicate {A = ℕ} 1026 0), (length-replicate {A = ℕ} 1026 0, length-replicate {A = ℕ} 4161 0))),
    )

pub shape_of-rows-in_default : goal.shape_of-rows-in_default
shape_of-rows-in_default c = c.loop-at.invariant.1.0.0

pub shape_of-code-in_default : goal.shape_of-code-in_default
shape_of-code-in_default c = c.loop-at.invariant.1.0.1.0

pub shape_of-tries-in_default : goal.shape_of-tries-in_default
shape_of-tries-in_default c = c.loop-at.invariant.1.0.1.1.0

pub shape_of-paths-in_default : goal.shape_of-paths-in_default
shape_of-paths-in_default c = c.loop-at.invariant.1.0.1.1.1

pub returns-in_default : goal.returns-in_default
returns-in_default c =
    let unended : (end : ℕ) → c.at.result ≡ Whole end → ⊥ = c.in_default.not-Whole in
    rw c.at-in_default.ensures (running_uncut c.loop-at.invariant.0 c.at.ensures unended c.loop-at-test.true)

pub request_at-requires : goal.request_at-requires
request_at-requires c = c.loop-at-test.true

pub slice_bounds-take_line-count : goal.slice_bounds-take_line-count
slice_bounds-take_line-count c = omega (arith, within (goal.at.slice_bounds-take_line-count c).In-Whole)

pub slice_bounds-take_line-start : goal.slice_bounds-take_line-start
slice_bounds-take_line-start c = omega (arith, within (goal.at.slice_bounds-take_line-start c).In-Whole)

pub slice_bounds-take_line-end : goal.slice_bounds-take_line-end
slice_bounds-take_line-end c = omega (arith, within (goal.at.slice_bounds-take_line-end c).In-Whole)

pub slice_bounds-take_line-end-in-loop-at : goal.slice_bounds-take_line-end-in-loop-at
slice_bounds-take_line-end-in-loop-at c = sym c.loop-at.invariant.1.1.0.0

pub slice_bounds-take_line-end-in-loop-at-2 : goal.slice_bounds-take_line-end-in-loop-at-2
slice_bounds-take_line-end-in-loop-at-2 c = sym c.loop-at.invariant.1.1.0.1

pub slice_bounds-take_line-end-in-loop-at-3 : goal.slice_bounds-take_line-end-in-loop-at-3
slice_bounds-take_line-end-in-loop-at-3 c = sym c.loop-at.invariant.1.1.1.0

pub slice_bounds-take_line-end-in-loop-at-4 : goal.slice_bounds-take_line-end-in-loop-at-4
slice_bounds-take_line-end-in-loop-at-4 c = sym c.loop-at.invariant.1.1.1.1

pub take_line-requires : goal.take_line-requires
take_line-requires c =
    record {
      opens = running_request c.loop-at.invariant.0 c.at.ensures c.in-Whole.is c.request_at.ensures;
      ready = record { results = c.loop-at.invariant.0.results; held = c.loop-at.invariant.0.held; small = c.loop-at.invariant.0.small; few_words = omega (arith, c.loop-at.invariant.1.0.1.0, c.requires.code_len_bound.0); scratch = λ n in_code few. omega (arith, c.requires.code_len_bound.1 n (omega (arith, c.loop-at.invariant.1.0.1.0)) few, c.loop-at.invariant.1.0.1.1.1); names-length = c.loop-at.invariant.1.1.0.0; trie_length = c.loop-at.invariant.1.1.0.1 };
      room_to_add = record { contribution_room = omega (arith, c.loop-at.invariant.1.1.1.0); united_room = omega (arith, c.loop-at.invariant.1.1.1.1); lent = c.loop-at.invariant.0.lent };
    }

pub shape_of-rows-in_err-begun : goal.shape_of-rows-in_err-begun
shape_of-rows-in_err-begun c = c.take_line.auto.rows ∙ c.loop-at.invariant.1.0.0

pub shape_of-code-in_err-begun : goal.shape_of-code-in_err-begun
shape_of-code-in_err-begun c = c.take_line.auto.code ∙ c.loop-at.invariant.1.0.1.0

pub shape_of-tries-in_err-begun : goal.shape_of-tries-in_err-begun
shape_of-tries-in_err-begun c = c.take_line.auto.tries ∙ c.loop-at.invariant.1.0.1.1.0

pub shape_of-paths-in_err-begun : goal.shape_of-paths-in_err-begun
shape_of-paths-in_err-begun c = c.take_line.auto.paths ∙ c.loop-at.invariant.1.0.1.1.1

pub returns-in_err-begun : goal.returns-in_err-begun
returns-in_err-begun c =
    let handed = err_from_is_err_and c.from_residual.result c.from_residual.ensures.1 in
    rw (handed.1, handed.2)
    (running_stops c.loop-at.invariant.0 c.at.ensures c.in-Whole.is _ _ c.take_line.new.rows c.take_line.new.code c.take_line.new.tries c.in_err-begun.field-0.0 (rw c.in_err-begun.was at c.take_line.ensures) c.loop-at.invariant.1.0.1.0 c.loop-at.invariant.1.0.1.1.0)

pub overflow_add-at : goal.overflow_add-at
overflow_add-at c = omega (arith, within (goal.at.overflow_add-at c).In-Whole, c.well_formed.1.1.1.0)

pub overflow_add-lines : goal.overflow_add-lines
overflow_add-lines c = omega (arith, within (goal.at.overflow_add-lines c).In-Whole, c.loop-at.invariant.0.came.lines_passed, c.well_formed.1.1.1.0)

pub loop-at-smaller : goal.loop-at-smaller
loop-at-smaller c = omega (arith, within (goal.at.loop-at-smaller c).In-Whole)

pub loop-at-preserved : goal.loop-at-preserved
loop-at-preserved c = (
  running_takes c.loop-at.invariant.0 c.at.ensures c.in-Whole.is (rw c.in_ok-begun.was at c.take_line.ensures),
  (
    (c.take_line.auto.rows ∙ c.loop-at.invariant.1.0.0, (c.take_line.auto.code ∙ c.loop-at.invariant.1.0.1.0, (c.take_line.auto.tries ∙ c.loop-at.invariant.1.0.1.1.0, c.take_line.auto.paths ∙ c.loop-at.invariant.1.0.1.1.1))),
    ((c.take_line.auto.names ∙ c.loop-at.invariant.1.1.0.0, c.take_line.auto.trie ∙ c.loop-at.invariant.1.1.0.1), (c.take_line.auto.contribution ∙ c.loop-at.invariant.1.1.1.0, c.take_line.auto.united ∙ c.loop-at.invariant.1.1.1.1)),
  ),
)

pub slice_bounds-close-end : goal.slice_bounds-close-end
slice_bounds-close-end c = sym c.loop-at.invariant.1.1.1.0

pub slice_bounds-close-end-2 : goal.slice_bounds-close-end-2
slice_bounds-close-end-2 c = sym c.loop-at.invariant.1.1.1.1

pub close-requires : goal.close-requires
close-requires c =
    record { fact = (record { code = _; results = c.loop-at.invariant.0.results; held = c.loop-at.invariant.0.held; small = c.loop-at.invariant.0.small }, c.loop-at.invariant.0.lent); in_bounds = (omega (arith, c.loop-at.invariant.1.1.1.0), omega (arith, c.loop-at.invariant.1.1.1.1)) }

pub shape_of-rows : goal.shape_of-rows
shape_of-rows c = c.close.auto.rows ∙ c.loop-at.invariant.1.0.0

pub shape_of-code : goal.shape_of-code
shape_of-code c = c.loop-at.invariant.1.0.1.0

pub shape_of-tries : goal.shape_of-tries
shape_of-tries c = c.loop-at.invariant.1.0.1.1.0

pub shape_of-paths : goal.shape_of-paths
shape_of-paths c = c.loop-at.invariant.1.0.1.1.1

pub returns : goal.returns
returns c = running_ends c.loop-at.invariant.0 c.loop-at-test.false (rw c.in_ok-close.was at c.close.ensures)

pub shape_of-rows-in_err-close : goal.shape_of-rows-in_err-close
shape_of-rows-in_err-close c = c.close.auto.rows ∙ c.loop-at.invariant.1.0.0

pub shape_of-code-in_err-close : goal.shape_of-code-in_err-close
shape_of-code-in_err-close c = c.loop-at.invariant.1.0.1.0

pub shape_of-tries-in_err-close : goal.shape_of-tries-in_err-close
shape_of-tries-in_err-close c = c.loop-at.invariant.1.0.1.1.0

pub shape_of-paths-in_err-close : goal.shape_of-paths-in_err-close
shape_of-paths-in_err-close c = c.loop-at.invariant.1.0.1.1.1

pub returns-in_err-close : goal.returns-in_err-close
returns-in_err-close c =
    let handed = err_from_is_err_and c.from_residual-in_err-close.result c.from_residual-in_err-close.ensures.1 in
    rw (handed.1, handed.2) (running_unended c.loop-at.invariant.0 c.loop-at-test.false (rw c.in_err-close.was at c.close.ensures))
