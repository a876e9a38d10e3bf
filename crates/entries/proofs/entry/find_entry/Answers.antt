-- `entries::entry::find_entry` meets its contract: the entry is none of those that were passed, and their nodes are counted.
use Prim.Native.Nat.{◌+◌, ◌-◌}
use native.Mathlib.Omega.{arith}
use native.Mathlib.Numerals.{add-one}
use mathlib.Core.List.{◌∷◌}
use mathlib.Core.Path.{◌≡◌, refl, sym, ◌∙◌}
use lib.ListN.{length, take, drop, get_or, length-drop}
use lib.Seq.{take_all}
use Rattle.rules.specs.LoadCalls.{entry_for}
use Rattle.rows.specs.Words.{row_in}
use Rattle.rows.specs.States.{rows_of}
use Rattle.entries.specs.EntryLaws.{found_entry, passed_entry, passed_node, met_entry, next_rows, no_entry}
use Rattle.entries.proofs.entry.find_entry.Goals as goal
use Rattle.entries.proofs.entry.find_entry.Goals.{After-depth, then-depth-eq0+else-step-request, else-depth-eq0}

-- the row that is looked at, and those behind it
next : (c : After-depth) →
    entry_for c.args.request 0 (rows_of c.args.rows.now)
    ≡ entry_for c.args.request c.loop-at.nodes (row_in (get_or c.args.rows.now c.loop-at.at 0) ∷ rows_of (drop (c.loop-at.at + 1) c.args.rows.now))
next c = rw (next_rows c.args.rows.now c.loop-at.at (omega arith)) at c.loop-at.invariant.1

pub returns-then-step-request : goal.returns-then-step-request
returns-then-step-request c =
    let depth = sym c.depth.ensures ∙ c.if-depth-eq0.true in
    let step = sym c.step.ensures ∙ c.if-step-request.true in
    found_entry c.args.rows.now (take (length c.args.rows.now - (c.loop-at.at + 1)) (drop (c.loop-at.at + 1) c.args.rows.now)) c.args.request c.loop-at.nodes c.loop-at.at c.nodes_ahead.result
    (take_all (length c.args.rows.now - (c.loop-at.at + 1)) (drop (c.loop-at.at + 1) c.args.rows.now) (omega (arith, length-drop (c.loop-at.at + 1) c.args.rows.now)))
    (omega arith)
    depth
    step
    (next (goal.at.returns-then-step-request c).After-depth ∙ met_entry (row_in (get_or c.args.rows.now c.loop-at.at 0)) (rows_of (drop (c.loop-at.at + 1) c.args.rows.now)) c.args.request c.loop-at.nodes depth step)
    c.nodes_ahead.ensures.0 c.nodes_ahead.ensures.1

pub loop-at-preserved : goal.loop-at-preserved
loop-at-preserved c =
    let row = row_in (get_or c.args.rows.now c.loop-at.at 0) in
    let behind = rows_of (drop (c.loop-at.at + 1) c.args.rows.now) in
    let look = next (goal.at.loop-at-preserved c).After-depth in
    elim c.if-depth-eq0.branch [
      | then-depth-eq0+else-step-request w ↦ (
        omega arith,
        rw w.nodes-is
            (look
            ∙ passed_entry row behind c.args.request c.loop-at.nodes (sym c.depth.ensures ∙ w.if-depth-eq0.true)
            (λ e. w.if-step-request.false (w.step.ensures ∙ e))),
      )
      | else-depth-eq0 w ↦ (
        omega arith,
        rw (w.nodes-is, add-one c.loop-at.nodes)
            (look ∙ passed_node row behind c.args.request c.loop-at.nodes (λ e. w.if-depth-eq0.false (c.depth.ensures ∙ e))),
      )
    ]

pub returns : goal.returns
returns c =
    rw (c.loop-at.invariant.1 ∙ no_entry c.args.rows.now c.args.request c.loop-at.nodes c.loop-at.at (omega arith)) refl
