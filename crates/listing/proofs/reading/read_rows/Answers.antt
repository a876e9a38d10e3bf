-- `listing::reading::read_rows` meets its contract: the lines that were passed came to the rows whose words are stored.
use Rattle.std.specs.Prelude.{Result, Ok, Err}
use Rattle.words.specs.Replies.{refusal}
use Rattle.listing.specs.declared.reading.Sofar.{Sofar}
use Prim.Native.Nat.{ℕ, ◌≤◌, ◌<◌}
use native.Mathlib.Omega.{arith}
use mathlib.Core.Option.{some}
use mathlib.Core.Path.{◌≡◌, refl, sym, ap, ◌∙◌}
use lib.ListN.{length}
use Rattle.rules.specs.Listing.{read}
use Rattle.listing_lines.specs.Lines.{row_read, row_at}
use Rattle.listing.specs.ReadLaws.{reading_all, reading_unread, reading_within, reading_fits, reading_stopped, reading_next}
use Rattle.std.proofs.lemmas.Result.{err_from_is_err_and}
use Rattle.listing.proofs.reading.read_rows.Goals as goal
use Rattle.listing.proofs.reading.read_rows.Goals.{In_ok-row, In_ok-sofar, In_err-sofar}

row-read : (c : In_ok-row) → let row = c.in_ok-row.row in row_at c.args.text.now c.loop-at.at ≡ some (read row.depth row.step row.marked, row.end)
row-read c = sym c.read_row.ensures ∙ ap row_read c.in_ok-row.ensures.ok_part

within : (c : In_ok-row) → (c.loop-at.at ≤ c.in_ok-row.row.end) × (c.in_ok-row.row.end < length c.args.text.now)
within c = reading_within c.loop-at.invariant.0 (row-read c)

pub returns-in_err-row-clause-rows_after : goal.returns-in_err-row-clause-rows_after
returns-in_err-row-clause-rows_after c =
    let p = err_from_is_err_and c.from_residual.result c.from_residual.ensures.1 in
    let unread = sym c.read_row.ensures ∙ ap row_read c.in_err-row.ensures.ok_part in
    let v : c.in_err-row.field-0.0 ≡ refusal 1 c.loop-at.line = let z = rw c.in_err-row.ensures.ok_part at c.in_err-row.ensures.value in cc in
    rw (p.1, p.2, v) (reading_unread c.loop-at.invariant.0 unread c.loop-at-test.true)

pub take_row-requires-clause-row_fits : goal.take_row-requires-clause-row_fits
take_row-requires-clause-row_fits c = reading_fits c.loop-at.invariant.0 (row-read (goal.at.take_row-requires-clause-row_fits c).In_ok-row)

-- what the row gave, by what that came to with the line beside a refusal
took_err : (c : In_err-sofar) (r : Result Sofar ℕ) → c.take_row.result ≡ r → (number : ℕ) × (c.take_row.result ≡ Err number) × (c.in_err-sofar.field-0.0 ≡ refusal number c.loop-at.line)
took_err c (Ok next) e = absurd (let w = rw e at c.in_err-sofar.ensures.cases in let z : ◌≡◌ {A = ℕ} 0 1 = cc in omega arith)
took_err c (Err number) e = (number, e, let mapped = rw e at c.in_err-sofar.ensures.cases in grind arith)

pub returns-in_err-sofar-clause-rows_after : goal.returns-in_err-sofar-clause-rows_after
returns-in_err-sofar-clause-rows_after c =
    let p = err_from_is_err_and c.from_residual-in_err-sofar.result c.from_residual-in_err-sofar.ensures.1 in
    let y = took_err (goal.at.returns-in_err-sofar-clause-rows_after c).In_err-sofar c.take_row.result refl in
    rw (p.1, p.2, y.2) (reading_stopped c.loop-at.invariant.0 (row-read (goal.at.returns-in_err-sofar-clause-rows_after c).In_ok-row) (rw y.1 at c.take_row.ensures))

took_ok : (c : In_ok-sofar) (r : Result Sofar ℕ) → c.take_row.result ≡ r → c.take_row.result ≡ Ok c.in_ok-sofar.sofar
took_ok c (Ok next) e = let w = rw e at c.in_ok-sofar.ensures.cases in cc
took_ok c (Err number) e = absurd (rw e at c.in_ok-sofar.ensures.cases)

pub overflow_add-at : goal.overflow_add-at
overflow_add-at c = omega (arith, within (goal.at.overflow_add-at c).In_ok-row)

pub loop-at-preserved : goal.loop-at-preserved
loop-at-preserved c =
    let (reading, kept) = c.loop-at.invariant in
    let passed = rw (took_ok (goal.at.loop-at-preserved c).In_ok-sofar c.take_row.result refl) at c.take_row.ensures in (
      reading_next reading (row-read (goal.at.loop-at-preserved c).In_ok-row) passed,
      c.take_row.auto.rows ∙ kept,
    )

pub returns : goal.returns
returns c =
    record { rows_after = reading_all c.loop-at.invariant.0 c.loop-at-test.false; result_bound = omega (arith, c.loop-at.invariant.0.room) }
