-- `rows::place::find` meets its contract. The loop's invariant: the rows from `i` on have the answer, and `matched` is how many of the
-- place's steps lead to the row before them.
use Prim.Native.Nat.{◌+◌}
use native.Mathlib.Omega.{arith}
use mathlib.Core.List.{[], ◌∷◌}
use mathlib.Core.Path.{◌≡◌, sym, ◌∙◌}
use native.Mathlib.Numerals.{add-one}
use lib.Seq.{drop-cons}
use lib.ListN.{drop, get_or, drop_of_length-le}
use Rattle.rules.specs.Tries.{found}
use Rattle.rules.proofs.PlaceLaws.{Sought, sought_first, sought_last, sought_below, sought_other, sought_step, sought_here}
use Rattle.rows.specs.States.{rows_of}
use Rattle.rows.specs.Words.{row_in}
use Rattle.rows.proofs.place.find.Goals as goal
use Rattle.rows.proofs.place.find.Goals.{After-depth-depth, then-depth-matched+then-depth-place+then-place-depth+else-matched-place, then-depth-matched+then-depth-place+else-place-depth, then-depth-matched+else-depth-place, else-depth-matched}

pub loop-word-init : goal.loop-word-init
loop-word-init c = (omega arith, sought_first _ _ c.requires)

-- the row at `i` is the next
next_row :
    (c : After-depth-depth) →
    let args = c.args in
    Sought
    (found [] (rows_of args.words.now) args.place.now)
    (row_in (get_or args.words.now c.loop-word.word-index 0) ∷ rows_of (drop (c.loop-word.word-index + 1) args.words.now))
    args.place.now
    c.loop-word.matched
next_row c =
    let next : drop c.loop-word.word-index c.args.words.now ≡ get_or c.args.words.now c.loop-word.word-index 0 ∷ drop (c.loop-word.word-index + 1) c.args.words.now = rw (add-one, drop-cons c.args.words.now c.loop-word.word-index 0 c.loop-word-test.true) in
    rw next at c.loop-word.invariant.1

pub returns-then-matched-place : goal.returns-then-matched-place
returns-then-matched-place c =
    let same = (rw c.depth-depth.ensures at c.if-place-depth.true) ∙ c.step.ensures in
    rw (sought_here (next_row (goal.at.returns-then-matched-place c).After-depth-depth) (omega arith) (omega arith) same (omega arith), c.is_marked.ensures)

pub loop-word-preserved : goal.loop-word-preserved
loop-word-preserved c =
    let q = next_row (goal.at.loop-word-preserved c).After-depth-depth in (
      omega arith,
      elim c.if-depth-matched.branch [
        | then-depth-matched+then-depth-place+then-place-depth+else-matched-place w ↦ rw (w.matched-is, c.depth-depth.ensures) (sought_step q (omega arith) (omega arith) ((rw c.depth-depth.ensures at w.if-place-depth.true) ∙ w.step.ensures) (omega arith))
        | then-depth-matched+then-depth-place+else-place-depth w ↦ rw (w.matched-is, c.depth-depth.ensures) (sought_other q (omega arith) (λ _ e. w.if-place-depth.false (rw c.depth-depth.ensures (e ∙ sym w.step.ensures))))
        | then-depth-matched+else-depth-place w ↦ rw (w.matched-is, c.depth-depth.ensures) (sought_other q (omega arith) (λ h. omega arith))
        | else-depth-matched w ↦ rw w.matched-is (sought_below q (omega arith))
      ],
    )

pub returns : goal.returns
returns c =
    rw (sought_last (rw (drop_of_length-le c.args.words.now c.loop-word-test.false) at c.loop-word.invariant.1))
