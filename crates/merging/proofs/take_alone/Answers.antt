-- `merging::take_alone` meets its contract: by the set that the pass is inside.
use mathlib.Core.Path.{sym, ◌∙◌}
use Rattle.merging.specs.MergeLaws.{alone_outside, alone_inside}
use Rattle.merging.proofs.take_alone.Goals as goal

pub returns-then-is_some : goal.returns-then-is_some
returns-then-is_some c = alone_inside _ _ _ _ c.inside_at.ensures (sym c.is_some.ensures ∙ c.if-is_some.true)

pub returns : goal.returns
returns c = alone_outside _ _ _ _ c.inside_at.ensures (sym c.is_some.ensures ∙ c.if-is_some.false)
