-- `values::lawful::is_ahead` meets its contract: where the next row that is not deeper is an element, the two own rows decide, and then what
-- is inside them. Assumes nothing.
use Prim.Native.Nat.{◌+◌, ◌<◌}
use native.Mathlib.Omega.{arith}
use mathlib.Core.Path.{◌≡◌, sym, ◌∙◌}
use lib.ListN.{length, get_or}
use Rattle.values.specs.ValueWords.{depth_from}
use Rattle.values.specs.Lawful.{PastInside}
use Rattle.values.specs.LawfulLaws.{ahead_last, ahead_above, runs_earlier, ahead_own, ahead_inside}
use Rattle.values.proofs.lawful.is_ahead.Goals as goal
use Rattle.values.proofs.lawful.is_ahead.Goals.{After-past-next, Else-depth, Else-next-words}

-- the next row that is not deeper
next_row :
    (c : After-past-next) →
    PastInside c.args.words.now (c.args.at + 1) (depth_from (get_or c.args.words.now c.args.at 0)) c.past-next.result
next_row c = rw c.depth-depth.ensures at c.past-next.ensures

pub returns-then-next-words : goal.returns-then-next-words
returns-then-next-words c = ahead_last _ _ _ (next_row (goal.at.returns-then-next-words c).After-past-next) c.if-next-words.true

next-inside : (c : Else-next-words) → c.past-next.result < length c.args.words.now
next-inside c = omega (arith, ((let next_row-here : PastInside c.args.words.now (c.args.at + 1) (depth_from (get_or c.args.words.now c.args.at 0)) c.past-next.result = rw c.depth-depth.ensures at c.past-next.ensures in next_row-here)).within)

pub returns-then-depth : goal.returns-then-depth
returns-then-depth c =
    ahead_above _ _ _ (next_row (goal.at.returns-then-depth c).After-past-next) (next-inside (goal.at.returns-then-depth c).Else-next-words) (λ e. omega arith)

-- it is an element
next_level :
    (c : Else-depth) →
    depth_from (get_or c.args.words.now c.past-next.result 0)
    ≡ depth_from (get_or c.args.words.now c.args.at 0)
next_level c = omega arith

pub returns-then-x-y : goal.returns-then-x-y
returns-then-x-y c =
    rw (c.unkeyed-x.ensures, c.unkeyed-y.ensures)
    (ahead_own _ _ _ (next_row (goal.at.returns-then-x-y c).After-past-next) (next-inside (goal.at.returns-then-x-y c).Else-next-words) (next_level (goal.at.returns-then-x-y c).Else-depth)
    (λ e. c.if-x-y.true (c.unkeyed-x.ensures ∙ e ∙ sym c.unkeyed-y.ensures)))

pub returns : goal.returns
returns c =
    runs_earlier _ _ c.lt.result c.lt.ensures
    ∙ sym
    (ahead_inside _ _ _ (next_row (goal.at.returns c).After-past-next) (next-inside (goal.at.returns c).Else-next-words) (next_level (goal.at.returns c).Else-depth)
    (sym c.unkeyed-x.ensures ∙ c.if-x-y.false ∙ c.unkeyed-y.ensures)
    (rw c.depth-depth.ensures at c.past-end.ensures))
