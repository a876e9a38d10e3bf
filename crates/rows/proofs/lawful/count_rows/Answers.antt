-- `rows::lawful::count_rows` meets its contract: the rows that are passed are in order and counted, and the front of `path` is the place of
-- the last.
use native.Mathlib.Omega.{arith}
use mathlib.Core.Bool.{true}
use mathlib.Core.Path.{◌≡◌, refl, sym, ◌∙◌}
use lib.ListN.{take, get_or, length-set}
use Rattle.rows.specs.States.{may_follow}
use Rattle.rows.proofs.LawfulLaws.{passed_bad, passed_row, passed_all, follow_depth, place_stored}
use Rattle.rows.proofs.lawful.count_rows.Goals as goal
use Rattle.rows.proofs.lawful.count_rows.Goals.{Else-not-may_follow}

pub returns-then-not-may_follow : goal.returns-then-not-may_follow
returns-then-not-may_follow c =
    passed_bad c.loop-word.invariant.2 c.loop-word-test.true refl (sym c.may_follow.ensures ∙ c.if-not-may_follow.true)

-- the next row may come after the last
next_row :
    (c : Else-not-may_follow) →
    may_follow (take c.loop-word.len c.loop-word.path) (get_or c.args.words.now c.loop-word.word-index 0) ≡ true
next_row c = sym c.may_follow.ensures ∙ c.if-not-may_follow.false

pub bounds-path-at : goal.bounds-path-at
bounds-path-at c = omega (arith, follow_depth _ _ (next_row (goal.at.bounds-path-at c).Else-not-may_follow))

pub loop-word-preserved : goal.loop-word-preserved
loop-word-preserved c =
    let next = next_row (goal.at.loop-word-preserved c).Else-not-may_follow in (
      omega (arith, follow_depth _ _ next),
      simp length-set c.loop-word.invariant.1,
      rw (c.depth-at.ensures, c.step.ensures, ← place_stored c.loop-word.path c.loop-word.len _ (omega arith) (omega arith) next)
          (passed_row c.loop-word.invariant.2 c.loop-word-test.true refl next c.with-size.ensures.counted (omega arith)),
    )

pub returns : goal.returns
returns c = passed_all c.loop-word.invariant.2 c.loop-word-test.false
