-- `value_text::rows::first_misplaced` meets its contract: the least place of the rows that are passed, with those that are left, is that of all.
use Prim.Native.Nat.{◌<◌}
use native.Mathlib.Omega.{arith}
use mathlib.Core.Path.{◌≡◌, refl, ◌∙◌}
use lib.ListN.{length, length-set}
use Rattle.rules.specs.Facts.{compared}
use Rattle.value_text.specs.RowLaws.{ordering_none, ordering_found, ordering_none_found, ordering_in_turn, ordering_depth, ordering_lower, ordering_kept}
use Rattle.value_text.proofs.rows.first_misplaced.Goals as goal
use Rattle.value_text.proofs.rows.first_misplaced.Goals.{At-loop-i, in-Some, in_default}

pub loop-i-init : goal.loop-i-init
loop-i-init c =
    (refl, ordering_none c.args.words.now c.args.levels.now (omega (arith, c.requires.1)) c.requires.0)

-- the levels have the length that they had
kept : (c : At-loop-i) → length c.loop-i.levels ≡ length c.args.levels.now
kept c = c.loop-i.invariant.0 ∙ length-set c.args.levels.now 0 0

room : (c : At-loop-i) → length c.args.words.now < length c.loop-i.levels
room c = omega (arith, kept c, c.requires.1)

pub overflow_sub-own : goal.overflow_sub-own
overflow_sub-own c =
    omega (arith, c.depth.ensures, ordering_depth c.loop-i.invariant.1 c.loop-i-test.true (room (goal.at.overflow_sub-own c).At-loop-i))

pub bounds-levels-own : goal.bounds-levels-own
bounds-levels-own c =
    omega (arith, c.depth.ensures, ordering_depth c.loop-i.invariant.1 c.loop-i-test.true (room (goal.at.bounds-levels-own c).At-loop-i))

pub open_levels-requires : goal.open_levels-requires
open_levels-requires c =
    let (below, near, few) = ordering_depth c.loop-i.invariant.1 c.loop-i-test.true (room (goal.at.open_levels-requires c).At-loop-i) in
    (below, omega (arith, room (goal.at.open_levels-requires c).At-loop-i, c.loop-i.invariant.1.few, c.loop-i-test.true))

pub loop-i-preserved : goal.loop-i-preserved
loop-i-preserved c =
    let fits = room (goal.at.loop-i-preserved c).At-loop-i in
    let found = rw c.depth.ensures at c.misplaced.ensures in (
      c.open_levels.auto.levels ∙ c.loop-i.invariant.0,
      elim c.match-misplaced.branch [
        | in-Some w ↦
            compared w.in-Some.next c.loop-i.least
            (λ h.
            let same : c.match-misplaced.least ≡ w.in-Some.next = omega (arith, w.least-is, w.min-least.ensures) in
            rw same (ordering_lower c.loop-i.invariant.1 c.loop-i-test.true fits found c.open_levels.ensures w.in-Some.is h))
            (λ h.
            let same : c.match-misplaced.least ≡ c.loop-i.least = omega (arith, w.least-is, w.min-least.ensures) in
            rw same (ordering_kept c.loop-i.invariant.1 c.loop-i-test.true fits found c.open_levels.ensures w.in-Some.is h))
        | in_default w ↦ rw w.least-is (ordering_in_turn c.loop-i.invariant.1 c.loop-i-test.true fits found c.open_levels.ensures w.in_default.is)
      ],
    )

pub returns-then-least-words : goal.returns-then-least-words
returns-then-least-words c = ordering_found c.loop-i.invariant.1 c.loop-i-test.false c.if-least-words.true

pub returns-else-least-words : goal.returns-else-least-words
returns-else-least-words c = ordering_none_found c.loop-i.invariant.1 c.loop-i-test.false c.if-least-words.false
