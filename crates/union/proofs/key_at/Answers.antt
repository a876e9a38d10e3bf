-- `union::key_at` meets its contract: a row has its key, and past the last is the end.
use mathlib.Core.Path.{sym, ◌∙◌}
use Rattle.union.specs.MergeLaws.{key_in, key_past}
use Rattle.union.proofs.key_at.Goals as goal

pub returns-then-at-rows : goal.returns-then-at-rows
returns-then-at-rows c = c.key.ensures ∙ sym (key_in _ _ c.if-at-rows.true)

pub returns-else-at-rows : goal.returns-else-at-rows
returns-else-at-rows c = sym (key_past _ _ c.if-at-rows.false)
