-- `policy_runs::request_at` meets its contract: the row of an `A` line is an entry, at depth 0.
use mathlib.Core.Path.{sym, ap, ◌∙◌}
use borrow.Author.Tests.{eq-eqb, ne_eqb}
use Rattle.listing_lines.specs.Lines.{row_read}
use Rattle.policy_runs.specs.PolicyRuns.{request_of_row}
use Rattle.policy_runs.proofs.request_at.Goals as goal

pub returns-in_err-row : goal.returns-in_err-row
returns-in_err-row c = rw c.from_residual.ensures (ap request_of_row (sym (ap row_read c.in_err-row.was) ∙ c.read_row.ensures))

pub returns-then-row-ne0 : goal.returns-then-row-ne0
returns-then-row-ne0 c =
    rw (ne_eqb c.in_ok-row.row.depth 0 c.if-row-ne0.true) at (ap request_of_row (sym (ap row_read c.in_ok-row.was) ∙ c.read_row.ensures))

pub returns : goal.returns
returns c =
    rw (eq-eqb c.in_ok-row.row.depth 0 c.if-row-ne0.false) at (ap request_of_row (sym (ap row_read c.in_ok-row.was) ∙ c.read_row.ensures))
