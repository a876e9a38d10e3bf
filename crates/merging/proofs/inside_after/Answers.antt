-- `merging::inside_after` meets its contract: by the set that the pass is inside, and by the row's kind.
use mathlib.Core.Path.{sym, ◌∙◌}
use Rattle.merging.specs.MergeLaws.{opened_inside, opened_set, opened_none}
use Rattle.merging.proofs.inside_after.Goals as goal

pub returns-then-is_some : goal.returns-then-is_some
returns-then-is_some c = opened_inside _ c.args.row.word c.inside_at-here.ensures (sym c.is_some.ensures ∙ c.if-is_some.true)

pub returns-then-kind-eq-SET : goal.returns-then-kind-eq-SET
returns-then-kind-eq-SET c =
    rw c.depth.ensures
    (opened_set _ c.args.row.word c.inside_at-here.ensures (sym c.is_some.ensures ∙ c.if-is_some.false) (sym c.kind.ensures ∙ c.if-kind-eq-SET.true))

pub returns : goal.returns
returns c =
    opened_none _ c.args.row.word c.inside_at-here.ensures (sym c.is_some.ensures ∙ c.if-is_some.false)
    (λ e. c.if-kind-eq-SET.false (c.kind.ensures ∙ e))
