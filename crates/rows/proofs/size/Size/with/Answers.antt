-- `rows::size::Size::with` meets its contract: the row is counted as what it is.
use mathlib.Core.Path.{sym, ◌∙◌}
use Rattle.rows.specs.CountLaws.{counted_entry, counted_node}
use Rattle.rows.proofs.size.Size.with.Goals as goal

pub returns-then-depth-eq0-clause-counted : goal.returns-then-depth-eq0-clause-counted
returns-then-depth-eq0-clause-counted c = λ words rest counted. counted_entry counted (sym c.depth.ensures ∙ c.if-depth-eq0.true)

pub returns-else-depth-eq0-clause-counted : goal.returns-else-depth-eq0-clause-counted
returns-else-depth-eq0-clause-counted c =
    λ words rest counted. counted_node counted (λ e. c.if-depth-eq0.false (c.depth.ensures ∙ e))
