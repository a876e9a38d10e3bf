-- `node_types::fate::has_fields` meets its contract: the next row, where there is one, says it.
use Prim.Native.Nat.{◌+◌}
use mathlib.Core.Path.{ap, sym, ◌∙◌}
use Rattle.node_types.specs.FateLaws.{fields_none, fields_level, fields_kind}
use Rattle.node_types.proofs.fate.has_fields.Goals as goal

pub returns-then-rows-next : goal.returns-then-rows-next
returns-then-rows-next c = fields_none c.args.rows.now c.args.i c.if-rows-next.true

pub returns-then-depth : goal.returns-then-depth
returns-then-depth c =
    fields_level c.args.rows.now c.args.i c.if-rows-next.false
    (λ e. c.if-depth.true (c.depth.ensures ∙ e ∙ ap (λ d. d + 1) (sym c.depth-2.ensures)))

pub returns : goal.returns
returns c =
    rw (c.from.ensures.0, c.step.ensures)
    (fields_kind c.args.rows.now c.args.i c.if-rows-next.false
    (sym c.depth.ensures ∙ c.if-depth.false ∙ ap (λ d. d + 1) c.depth-2.ensures))
