-- `value_text::line::parse` meets its contract: a line whose first field is `V` is read by the fields behind it.
use mathlib.Core.Path.{sym, ap, ◌∙◌}
use Rattle.rules.specs.Text.{fields_of}
use Rattle.rules.specs.Listing.{◌>>=◌}
use Rattle.value_text.specs.Fields.{behind_read, row_fields}
use Rattle.value_text.specs.LineLaws.{row_behind}
use Rattle.value_text.proofs.line.parse.Goals as goal

pub returns-in_err-at : goal.returns-in_err-at
returns-in_err-at c =
    rw c.from_residual.ensures
    (sym
    (row_behind (fields_of c.args.line.now)
    ∙ ap (λ o. o >>= row_fields) (sym c.after_letter.ensures ∙ ap (behind_read c.args.line.now) c.in_err-at.was)))

pub returns : goal.returns
returns c =
    c.row_at.ensures
    ∙ sym
    (row_behind (fields_of c.args.line.now)
    ∙ ap (λ o. o >>= row_fields) (sym c.after_letter.ensures ∙ ap (behind_read c.args.line.now) c.in_ok-at.was))
