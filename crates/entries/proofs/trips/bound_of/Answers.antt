-- `entries::trips::bound_of` meets its contract. The loop's invariant: the nodes from `i` on add to `rows` and `batches` what is left of
-- the bound, and `primary` steps of the last node's place lead to primary nodes.
use Prim.Native.Nat.{ℕ, ◌+◌, ◌≤◌}
use native.Mathlib.Omega.{arith}
use borrow.Author.Tests.{eq-eqb, ne_eqb}
use mathlib.Core.Bool.{true}
use mathlib.Core.List.{◌∷◌}
use mathlib.Core.Path.{◌≡◌, ◌∙◌}
use lib.ListN.{drop, get_or, drop_of_length-le}
use Rattle.rules.specs.Trips.{bound_of}
use Rattle.rules.specs.Typing.{is_field}
use Rattle.rows.specs.Words.{row_in, depth_in, step_in}
use Rattle.rows.specs.States.{rows_of}
use Rattle.entries.specs.Bounds.{NodesOf}
use Rattle.entries.specs.EntryLaws.{next_rows}
use Rattle.entries.specs.BoundLaws.{Bounding, bounding_first, bounding_last, bounding_below, bounding_other, bounding_primary}
use Rattle.entries.proofs.trips.bound_of.Goals as goal
use Rattle.entries.proofs.trips.bound_of.Goals.{After-depth-depth, then-depth-primary+then-depth-eq1, then-depth-eq1-via-then-depth-eq1, then-depth-eq1-via-else-depth-eq1+then-parts-eq0, then-depth-primary+else-depth-eq1+else-parts-eq0, else-depth-primary}

pub loop-word-init : goal.loop-word-init
loop-word-init c = (omega arith, λ request h. bounding_first request _ h)

-- the node at `i` is the next
next-node :
    (c : After-depth-depth) →
    (request : ℕ)
    → NodesOf request (rows_of c.args.nodes.now)
    → Bounding (bound_of request (rows_of c.args.nodes.now)) (row_in (get_or c.args.nodes.now c.loop-word.word-index 0) ∷ rows_of (drop (c.loop-word.word-index + 1) c.args.nodes.now)) c.loop-word.primary c.loop-word.rows c.loop-word.batches
next-node c request h =
    rw (next_rows c.args.nodes.now c.loop-word.word-index (omega arith)) at (c.loop-word.invariant.1 request h)

pub loop-word-preserved : goal.loop-word-preserved
loop-word-preserved c =
    let word = get_or c.args.nodes.now c.loop-word.word-index 0 in
    let next : (request : ℕ) → NodesOf request (rows_of c.args.nodes.now) → Bounding (bound_of request (rows_of c.args.nodes.now)) (row_in word ∷ rows_of (drop (c.loop-word.word-index + 1) c.args.nodes.now)) c.loop-word.primary c.loop-word.rows c.loop-word.batches =
    next-node (goal.at.loop-word-preserved c).After-depth-depth in
    elim c.if-depth-primary.branch [
      | then-depth-primary+then-depth-eq1 w ↦
          -- a node below the root that is kept is a field
          let kept_field : 2 ≤ depth_in word → is_field (step_in word) ≡ true = λ deep.
          elim w.then-depth-eq1.branch [
            | then-depth-eq1-via-then-depth-eq1 v ↦ absurd (omega (arith, c.depth-depth.ensures))
            | then-depth-eq1-via-else-depth-eq1+then-parts-eq0 v ↦ rw (← w.step.ensures, ← w.from-parts.ensures.0) (eq-eqb _ 0 v.if-parts-eq0.true)
          ] in (
            omega arith,
            λ request h.
                rw (w.primary-is, w.rows-is, w.batches-is, c.depth-depth.ensures)
                (bounding_primary (next request h) (omega arith) kept_field _ (rw c.depth-depth.ensures at w.max-batches.ensures)),
          )
      | then-depth-primary+else-depth-eq1+else-parts-eq0 w ↦ (
        omega arith,
        λ request h.
            rw (w.primary-is, w.rows-is, w.batches-is, c.depth-depth.ensures)
            (bounding_other (next request h) (omega arith) (λ e. w.if-depth-eq1.false (c.depth-depth.ensures ∙ e)) (rw (← w.step.ensures, ← w.from-parts.ensures.0) (ne_eqb _ 0 w.if-parts-eq0.false))),
      )
      | else-depth-primary w ↦ (omega arith, λ request h. rw (w.primary-is, w.rows-is, w.batches-is) (bounding_below (next request h) (omega arith)))
    ]

pub returns : goal.returns
returns c request h =
    let (rows, batches) = bounding_last (rw (drop_of_length-le c.args.nodes.now c.loop-word-test.false) at (c.loop-word.invariant.1 request h)) in
    rw (rows, batches)
