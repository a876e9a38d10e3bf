-- `values::lawful::is_lawful` meets its contract: the rows that are passed came at the levels that the front of `levels` keeps.
use Prim.Native.Nat.{◌<◌}
use native.Mathlib.Omega.{arith}
use mathlib.Core.Path.{◌≡◌, refl, sym, ◌∙◌}
use lib.ListN.{length, take, length-set}
use lib.Seq.{length-take-le}
use mathlib.Core.Bool.{true}
use Rattle.values.specs.Lawful.{levels_in, comes_at}
use Rattle.values.specs.LawfulLaws.{passed_none, passed_all, passed_bad, passed_depth, passed_next}
use Rattle.values.proofs.lawful.is_lawful.Goals as goal
use Rattle.values.proofs.lawful.is_lawful.Goals.{At-loop-i, Else-not-comes, In-loop-i}

pub loop-i-init : goal.loop-i-init
loop-i-init c = (refl, passed_none c.args.words.now c.args.levels.now (omega arith))

-- the levels have the length that they had, so there is room for those that are open, and for one more
room : (c : At-loop-i) → length c.loop-i.levels ≡ length c.args.levels.now
room c = c.loop-i.invariant.0 ∙ length-set c.args.levels.now 0 0

levels-fit : (c : In-loop-i) → c.loop-i.len < length c.loop-i.levels
levels-fit c = omega (arith, (let room-here : length c.loop-i.levels ≡ length c.args.levels.now = c.loop-i.invariant.0 ∙ length-set c.args.levels.now 0 0 in room-here))

pub slice_bounds-comes-end : goal.slice_bounds-comes-end
slice_bounds-comes-end c = omega (arith, levels-fit (goal.at.slice_bounds-comes-end c).In-loop-i)

pub slice_bounds-comes-end-in-loop-i : goal.slice_bounds-comes-end-in-loop-i
slice_bounds-comes-end-in-loop-i c =
    sym (length-take-le c.loop-i.len c.loop-i.levels (omega (arith, levels-fit (goal.at.slice_bounds-comes-end-in-loop-i c).In-loop-i)))

pub shape_of-levels-then-not-comes : goal.shape_of-levels-then-not-comes
shape_of-levels-then-not-comes c = room (goal.at.shape_of-levels-then-not-comes c).At-loop-i

pub returns-then-not-comes : goal.returns-then-not-comes
returns-then-not-comes c =
    passed_bad c.loop-i.invariant.1 c.loop-i-test.true (sym c.comes.ensures ∙ c.if-not-comes.true)

next_row :
    (c : Else-not-comes) →
    comes_at c.args.words.now c.loop-i.i (levels_in (take c.loop-i.len c.loop-i.levels)) ≡ true
next_row c = sym c.comes.ensures ∙ c.if-not-comes.false

pub open_levels-len-requires : goal.open_levels-len-requires
open_levels-len-requires c =
    let (below, near) = passed_depth c.loop-i.invariant.1 c.loop-i-test.true (omega (arith, levels-fit (goal.at.open_levels-len-requires c).In-loop-i)) (next_row (goal.at.open_levels-len-requires c).Else-not-comes) in
    (below, omega (arith, levels-fit (goal.at.open_levels-len-requires c).In-loop-i, near))

pub loop-i-preserved : goal.loop-i-preserved
loop-i-preserved c = (
  c.open_levels-len.auto.levels ∙ c.loop-i.invariant.0,
  passed_next c.loop-i.invariant.1 c.loop-i-test.true (omega (arith, levels-fit (goal.at.loop-i-preserved c).In-loop-i)) (next_row (goal.at.loop-i-preserved c).Else-not-comes) c.open_levels-len.ensures,
)

pub shape_of-levels : goal.shape_of-levels
shape_of-levels c = room (goal.at.shape_of-levels c).At-loop-i

pub returns : goal.returns
returns c = passed_all c.loop-i.invariant.1 c.loop-i-test.false
