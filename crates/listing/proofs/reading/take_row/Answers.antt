-- `listing::reading::take_row` meets its contract: a row that is not refused is passed: its step is in the path, and its word behind the others.
use native.Mathlib.Omega.{arith}
use borrow.Author.Tests.{eq-eqb, ne_eqb}
use mathlib.Core.Option.{none}
use mathlib.Core.Path.{◌≡◌, refl, sym, ap, ◌∙◌}
use Rattle.rules.specs.Listing.{read, refusal}
use Rattle.listing.specs.Reads.{form_for, sofar_in, refused_by}
use Rattle.listing.specs.ReadLaws.{row_passed}
use Rattle.listing.proofs.reading.take_row.Goals as goal
use Rattle.listing.proofs.reading.take_row.Goals.{In_ok-judge}

-- past the judgement it is not refused
unrefused : (c : In_ok-judge) → refusal (form_for c.args.limits)
    (sofar_in c.args.sofar c.args.path.now) (read c.args.row.depth c.args.row.step c.args.row.marked) ≡ none
unrefused c = sym c.judge.ensures ∙ ap refused_by c.in_ok-judge.was

pub overflow_add-end : goal.overflow_add-end
overflow_add-end c = omega (arith, c.requires.row_room)

pub returns-then-at-eq0 : goal.returns-then-at-eq0
returns-then-at-eq0 c =
    let flat = eq-eqb c.args.row.depth 0 c.if-at-eq0.true in
    row_passed c.args.limits c.args.sofar c.args.path.now c.args.rows.now (read c.args.row.depth c.args.row.step c.args.row.marked) c.requires.row_room
    (unrefused (goal.at.returns-then-at-eq0 c).In_ok-judge)
    (c.entry.ensures ∙ rw (c.if-at-eq0.true, c.requires.row_fits.1 c.if-at-eq0.true)) (omega arith) (rw flat) (rw flat)

pub returns : goal.returns
returns c =
    let deep = ne_eqb c.args.row.depth 0 c.if-at-eq0.false in
    row_passed c.args.limits c.args.sofar c.args.path.now c.args.rows.now (read c.args.row.depth c.args.row.step c.args.row.marked) c.requires.row_room
    (unrefused (goal.at.returns c).In_ok-judge)
    c.node.ensures refl (rw deep) (rw deep)
