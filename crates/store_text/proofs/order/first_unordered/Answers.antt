-- `store_text::order::first_unordered` meets its contract: the entities that were passed have no element out of order, and the first that
-- has one has the least place.
use Prim.Native.Nat.{◌-◌, ◌≤◌, ◌<◌}
use native.Mathlib.Omega.{arith}
use mathlib.Core.Path.{◌∙◌}
use lib.ListN.{length, take, drop, length-drop}
use lib.Seq.{length-take-le}
use Rattle.store_text.specs.OrderLaws.{Parts, passing_all, next_pass, passing_found, passing_next}
use Rattle.store_text.proofs.order.first_unordered.Goals as goal
use Rattle.store_text.proofs.order.first_unordered.Goals.{After-run_end-end, In-Some}

-- where the parts of the next entity end
parts : (c : After-run_end-end) →
    Parts c.args.words.now c.loop-i.i c.run_end-parents_end.result c.run_end-start.result
    c.run_end-end.result
parts c = record {
  more = c.loop-i-test.true;
  parents = c.run_end-parents_end.ensures.0;
  ancestors = c.run_end-start.ensures.0;
  rows = c.run_end-end.ensures.0;
}

-- in their order, and inside the words
ends : (c : After-run_end-end) →
    (c.loop-i.i < c.run_end-parents_end.result)
    × (c.run_end-parents_end.result ≤ c.run_end-start.result)
    × (c.run_end-start.result ≤ c.run_end-end.result)
    × (c.run_end-end.result ≤ length c.args.words.now)
ends c =
    let p = parts c in
    (omega (arith, p.parents), omega (arith, p.ancestors), omega (arith, p.rows), c.run_end-end.ensures.1)

pub first_misplaced-requires : goal.first_misplaced-requires
first_misplaced-requires c =
    let (es, holds) = c.requires.0 in (
      next_pass (parts (goal.at.first_misplaced-requires c).After-run_end-end) (c.loop-i.invariant.2 es holds),
      omega (
        arith,
        c.requires.1,
        c.loop-i.invariant.0,
        ends (goal.at.first_misplaced-requires c).After-run_end-end,
        length-take-le (c.run_end-end.result - c.run_end-start.result) (drop c.run_end-start.result c.args.words.now) (omega (arith, ends (goal.at.first_misplaced-requires c).After-run_end-end, length-drop c.run_end-start.result c.args.words.now)),
      ),
    )

-- an element out of order is one of its own
own : (c : In-Some) → c.in-Some.first < c.run_end-end.result - c.run_end-start.result
own c =
    let there : c.in-Some.first < length (take (c.run_end-end.result - c.run_end-start.result) (drop c.run_end-start.result c.args.words.now)) = c.first_misplaced.ensures.within _ c.in-Some.is in
    omega (arith, there, length-take-le (c.run_end-end.result - c.run_end-start.result) (drop c.run_end-start.result c.args.words.now) (omega (arith, c.run_end-end.ensures.1, length-drop c.run_end-start.result c.args.words.now)))

pub returns-in-Some : goal.returns-in-Some
returns-in-Some c =
    let here = own (goal.at.returns-in-Some c).In-Some in
    passing_found (parts (goal.at.returns-in-Some c).After-run_end-end) c.first_misplaced.ensures c.in-Some.is here
    (omega (arith, here, ends (goal.at.returns-in-Some c).After-run_end-end)) c.loop-i.invariant.2

pub loop-i-preserved : goal.loop-i-preserved
loop-i-preserved c = (
  c.first_misplaced.auto.levels ∙ c.loop-i.invariant.0,
  (ends (goal.at.loop-i-preserved c).After-run_end-end).3,
  λ es holds. passing_next (parts (goal.at.loop-i-preserved c).After-run_end-end) c.first_misplaced.ensures c.in_default.is (c.loop-i.invariant.2 es holds),
)

pub returns : goal.returns
returns c =
    passing_all c.args.words.now c.loop-i.i c.loop-i-test.false c.loop-i.invariant.2
