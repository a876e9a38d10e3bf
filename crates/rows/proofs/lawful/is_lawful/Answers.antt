-- `rows::lawful::is_lawful` meets its contract: the part that is passed on has the state's words, and each test is one of `lawful_state`'s.
use native.Mathlib.Nat.{add-sub_cancel}
use native.Mathlib.Omega.{arith}
use borrow.Author.Tests.{le-leb, lt-leb}
use mathlib.Core.Bool.{cond, and-true, and-false}
use mathlib.Core.Path.{◌≡◌, sym, ◌∙◌}
use lib.Dec.{leb, eqb}
use Rattle.rows.specs.States.{form_of, lawful_state}
use Rattle.rows.specs.StateLaws.{lawful_many}
use Rattle.rows.proofs.LawfulLaws.{limits_met, lawful_short, lawful_unordered, lawful_counted}
use Rattle.rows.proofs.lawful.is_lawful.Goals as goal
use Rattle.rows.proofs.lawful.is_lawful.Goals.{In-Some, Else-limits-found}

pub returns-then-state-eq0 : goal.returns-then-state-eq0
returns-then-state-eq0 c = sym (lawful_short _ _ (omega arith))

pub returns-then-words-count : goal.returns-then-words-count
returns-then-words-count c = sym (lawful_many c.args.kind _ (omega (arith, c.words.ensures)))

pub returns-then-room-count : goal.returns-then-room-count
returns-then-room-count c = sym (lawful_short _ _ (omega arith))

pub returns-in_default : goal.returns-in_default
returns-in_default c =
    sym (lawful_unordered _ _ (omega arith) (rw add-sub_cancel) (sym c.in_default.is ∙ c.count_rows.ensures))

-- the state is judged by what `count_rows` found
found-judged :
    (c : In-Some) →
    let a = c.args in
    lawful_state (form_of a.kind) a.state.now ≡ limits_met (form_of a.kind) c.in-Some.found.entries c.in-Some.found.nodes
found-judged c = lawful_counted _ _ (omega arith) (rw add-sub_cancel) (sym c.in-Some.is ∙ c.count_rows.ensures)

pub returns-then-limits-found : goal.returns-then-limits-found
returns-then-limits-found c =
    let over = lt-leb _ _ c.if-limits-found.true in
    sym (found-judged (goal.at.returns-then-limits-found c).In-Some ∙ rw (← c.limits-limits.ensures.2, over, and-false))

-- rows in order with nodes limits_met the limit are judged by their entries
entries-judged :
    (c : Else-limits-found) →
    let a = c.args in
    lawful_state (form_of a.kind) a.state.now ≡ cond c.limits-limits.result.single (eqb c.in-Some.found.entries 1) (leb c.in-Some.found.entries c.limits-limits.result.entries)
entries-judged c =
    let (single, entries, nodes) = c.limits-limits.ensures in
    lawful_counted _ _ (omega arith) (rw add-sub_cancel) (sym c.in-Some.is ∙ c.count_rows.ensures)
    ∙ rw (← single, ← entries, ← nodes, le-leb _ _ c.if-limits-found.false, and-true)

pub returns-then-limits : goal.returns-then-limits
returns-then-limits c = sym (entries-judged (goal.at.returns-then-limits c).Else-limits-found ∙ rw c.if-limits.true)

pub returns : goal.returns
returns c = sym (entries-judged (goal.at.returns c).Else-limits-found ∙ rw c.if-limits.false)
