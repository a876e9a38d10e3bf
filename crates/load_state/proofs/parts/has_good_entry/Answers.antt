-- `load_state::parts::has_good_entry` meets its contract by its tests.
use Prim.Native.Nat.{◌+◌}
use native.Mathlib.Nat.{add-sub_cancel_left}
use native.Mathlib.Omega.{arith}
use mathlib.Core.Path.{◌≡◌, sym, ◌∙◌}
use mathlib.Core.Bool.{true}
use borrow.Author.Tests.{eq-eqb, ne_eqb, lt-ltb, le-ltb}
use lib.ListN.{get_or}
use Rattle.rows.specs.Words.{step_in}
use Rattle.rows.specs.States.{lawful_entry}
use Rattle.load_state.specs.LoadStates.{good_entry, entry_in}
use Rattle.load_state.proofs.parts.has_good_entry.Goals as goal
use Rattle.load_state.proofs.parts.has_good_entry.Goals.{After-is_lawful_entry, Else-not-is_lawful_entry}

-- the entry's rows are judged
judged : (c : After-is_lawful_entry) → lawful_entry (entry_in c.args.state.now) ≡ c.is_lawful_entry.result
judged c = sym (rw (add-sub_cancel_left 9 (get_or c.args.state.now 5 0)) at c.is_lawful_entry.ensures)

lawful : (c : Else-not-is_lawful_entry) → (lawful_entry (entry_in c.args.state.now) ≡ c.is_lawful_entry.result) → lawful_entry (entry_in c.args.state.now) ≡ true
lawful c judged-here = judged-here ∙ c.if-not-is_lawful_entry.false

pub returns-then-count-eq0 : goal.returns-then-count-eq0
unfolding good_entry
returns-then-count-eq0 c = rw (eq-eqb (get_or c.args.state.now 5 0) 0 c.if-count-eq0.true)

pub returns-then-count-gt-ENTRY_ROWS : goal.returns-then-count-gt-ENTRY_ROWS
unfolding good_entry
returns-then-count-gt-ENTRY_ROWS c =
    let count = get_or c.args.state.now 5 0 in
    rw (ne_eqb count 0 c.if-count-eq0.false, le-ltb count 4098 (omega (arith, c.if-count-gt-ENTRY_ROWS.true)))

pub returns-then-not-is_lawful_entry : goal.returns-then-not-is_lawful_entry
unfolding good_entry
returns-then-not-is_lawful_entry c =
    let count = get_or c.args.state.now 5 0 in
    rw (ne_eqb count 0 c.if-count-eq0.false, lt-ltb count 4098 (omega (arith, c.if-count-gt-ENTRY_ROWS.false)), judged (goal.at.returns-then-not-is_lawful_entry c).After-is_lawful_entry ∙ c.if-not-is_lawful_entry.true)

pub returns-then-step-state : goal.returns-then-step-state
unfolding good_entry
returns-then-step-state c =
    let count = get_or c.args.state.now 5 0 in
    rw (ne_eqb count 0 c.if-count-eq0.false, lt-ltb count 4098 (omega (arith, c.if-count-gt-ENTRY_ROWS.false)), lawful (goal.at.returns-then-step-state c).Else-not-is_lawful_entry (judged (goal.at.returns-then-step-state c).After-is_lawful_entry), ne_eqb (step_in (get_or c.args.state.now 9 0)) (get_or c.args.state.now 1 0) (λ e. c.if-step-state.true (c.step.ensures ∙ e)))

pub returns-then-first-gt-NODES : goal.returns-then-first-gt-NODES
unfolding good_entry
returns-then-first-gt-NODES c =
    let count = get_or c.args.state.now 5 0 in
    rw (ne_eqb count 0 c.if-count-eq0.false, lt-ltb count 4098 (omega (arith, c.if-count-gt-ENTRY_ROWS.false)), lawful (goal.at.returns-then-first-gt-NODES c).Else-not-is_lawful_entry (judged (goal.at.returns-then-first-gt-NODES c).After-is_lawful_entry), eq-eqb (step_in (get_or c.args.state.now 9 0)) (get_or c.args.state.now 1 0) (sym c.step.ensures ∙ c.if-step-state.false), le-ltb (get_or c.args.state.now 4 0 + count) 4098 (omega (arith, c.if-first-gt-NODES.true)))

pub returns : goal.returns
unfolding good_entry
returns c =
    let count = get_or c.args.state.now 5 0 in
    rw (ne_eqb count 0 c.if-count-eq0.false, lt-ltb count 4098 (omega (arith, c.if-count-gt-ENTRY_ROWS.false)), lawful (goal.at.returns c).Else-not-is_lawful_entry (judged (goal.at.returns c).After-is_lawful_entry), eq-eqb (step_in (get_or c.args.state.now 9 0)) (get_or c.args.state.now 1 0) (sym c.step.ensures ∙ c.if-step-state.false))
