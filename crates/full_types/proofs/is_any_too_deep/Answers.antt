-- `full_types::is_any_too_deep` meets its contract: no path that is passed goes too deep.
use Prim.Native.Nat.{◌+◌, ◌≤◌, ◌<◌}
use mathlib.Core.Path.{◌≡◌}
use native.Mathlib.Omega.{arith}
use lib.ListN.{length, get_or}
use Rattle.wrapped_paths.specs.Code.{steps_at}
use Rattle.type_table.specs.Tables.{type_depth}
use Rattle.full_types.specs.Pairs.{pair_place, pair_type}
use Rattle.full_types.specs.FullLaws.{looking_none, pairs_looked, pairs_deep, pairs_look_next, pair_at}
use Rattle.full_types.proofs.is_any_too_deep.Goals as goal
use Rattle.full_types.proofs.is_any_too_deep.Goals.{After-size_at, After-steps_at, In-loop-word}

-- the next pair is one
pair :
    (c : In-loop-word) →
    let args = c.args in
    (pair_place (get_or args.pairs.now c.loop-word.word-index 0) + 1 + steps_at args.code.now (pair_place (get_or args.pairs.now c.loop-word.word-index 0)) ≤ length args.code.now) × (pair_type (get_or args.pairs.now c.loop-word.word-index 0) < 1024)
pair c = pair_at c.args.code.now 1024 c.args.pairs.now c.loop-word.word-index c.requires.0 c.loop-word-test.true

pub loop-word-init : goal.loop-word-init
loop-word-init c = looking_none _ _ _

-- the steps of its path, and the depth of its type's trie
steps : (c : After-steps_at) →
    let args = c.args in
    c.steps_at.result ≡ steps_at args.code.now (pair_place (get_or args.pairs.now c.loop-word.word-index 0))
steps c = rw c.of-pair.ensures.0 at c.steps_at.ensures

deep : (c : After-size_at) →
    let args = c.args in
    c.size_at.result.depth ≡ type_depth (get_or args.table.now (pair_type (get_or args.pairs.now c.loop-word.word-index 0)) 0)
deep c = rw c.of-pair.ensures.1 at c.size_at.ensures.1.0

pub steps_at-requires : goal.steps_at-requires
steps_at-requires c = omega (arith, pair (goal.at.steps_at-requires c).In-loop-word, c.of-pair.ensures)

pub size_at-requires : goal.size_at-requires
size_at-requires c = omega (arith, pair (goal.at.size_at-requires c).In-loop-word, c.of-pair.ensures)

pub overflow_add-steps_at : goal.overflow_add-steps_at
overflow_add-steps_at c = omega (arith, pair (goal.at.overflow_add-steps_at c).In-loop-word, steps (goal.at.overflow_add-steps_at c).After-steps_at, deep (goal.at.overflow_add-steps_at c).After-size_at)

pub returns-then-steps_at-size_at-gt-STEPS : goal.returns-then-steps_at-size_at-gt-STEPS
returns-then-steps_at-size_at-gt-STEPS c = pairs_deep c.loop-word.invariant c.loop-word-test.true (rw (steps (goal.at.returns-then-steps_at-size_at-gt-STEPS c).After-steps_at, deep (goal.at.returns-then-steps_at-size_at-gt-STEPS c).After-size_at) at c.if-steps_at-size_at-gt-STEPS.true)

pub loop-word-preserved : goal.loop-word-preserved
loop-word-preserved c = pairs_look_next c.loop-word.invariant c.loop-word-test.true (rw (steps (goal.at.loop-word-preserved c).After-steps_at, deep (goal.at.loop-word-preserved c).After-size_at) at c.if-steps_at-size_at-gt-STEPS.false)

pub returns : goal.returns
returns c = pairs_looked c.loop-word.invariant c.loop-word-test.false
