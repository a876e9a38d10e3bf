-- `store_text::taking::take_line` meets its contract: each kind of line is taken as the rules say.
use Prim.Native.Nat.{◌+◌}
use native.Mathlib.Omega.{arith}
use mathlib.Core.Option.{some}
use mathlib.Core.Path.{◌≡◌, sym, ap, ◌∙◌}
use borrow.Author.Tests.{lt-leb, le-leb}
use Rattle.rules.specs.Text.{fields_of}
use Rattle.rules.specs.ValueTexts.{store_line_of, entity_line, parent_line, ancestor_line}
use Rattle.store_text.specs.Lines.{line_said, line_read}
use Rattle.store_text.specs.LineLaws.{line_formed}
use Rattle.store_text.specs.StandingLaws.{took-id, first_level}
use Rattle.store_text.proofs.taking.take_line.Goals as goal
use Rattle.store_text.proofs.taking.take_line.Goals.{In-Ancestor, In-Entity, In-Parent}

-- what the line was read as
entity-read : (c : In-Entity) → store_line_of (fields_of c.args.line.now) ≡ some (entity_line c.in-Entity.id)
entity-read c = sym c.parse_line.ensures ∙ ap line_read c.in_ok-said.was ∙ ap (λ l. some (line_said l)) c.in-Entity.is

parent-read : (c : In-Parent) → store_line_of (fields_of c.args.line.now) ≡ some (parent_line c.in-Parent.id)
parent-read c = sym c.parse_line.ensures ∙ ap line_read c.in_ok-said.was ∙ ap (λ l. some (line_said l)) c.in-Parent.is

ancestor-read : (c : In-Ancestor) → store_line_of (fields_of c.args.line.now) ≡ some (ancestor_line c.in-Ancestor.id)
ancestor-read c = sym c.parse_line.ensures ∙ ap line_read c.in_ok-said.was ∙ ap (λ l. some (line_said l)) c.in-Ancestor.is

pub returns-then-id-before : goal.returns-then-id-before
returns-then-id-before c =
    let a = c.args in
    record { levels_after = rw (entity-read (goal.at.returns-then-id-before c).In-Entity, lt-leb a.before.next c.in-Entity.id c.if-id-before.true); result_bound = omega arith }

pub overflow_add-result : goal.overflow_add-result
overflow_add-result c = omega (arith, (line_formed _ (entity-read (goal.at.overflow_add-result c).In-Entity)).1)

pub overflow_add-id : goal.overflow_add-id
overflow_add-id c = omega (arith, (line_formed _ (parent-read (goal.at.overflow_add-id c).In-Parent)).1)

pub overflow_add-id-in-Ancestor : goal.overflow_add-id-in-Ancestor
overflow_add-id-in-Ancestor c = omega (arith, (line_formed _ (ancestor-read (goal.at.overflow_add-id-in-Ancestor c).In-Ancestor)).1)

pub returns-in_err-said : goal.returns-in_err-said
returns-in_err-said c =
    rw c.from_residual.ensures (record { levels_after = rw (sym c.parse_line.ensures ∙ ap line_read c.in_err-said.was); result_bound = omega arith })

pub returns-else-id-before : goal.returns-else-id-before
returns-else-id-before c =
    let a = c.args in record { levels_after = rw (entity-read (goal.at.returns-else-id-before c).In-Entity, le-leb a.before.next c.in-Entity.id c.if-id-before.false, first_level a.levels.now (omega (arith, c.requires))); result_bound = omega arith }

pub returns-in-Parent : goal.returns-in-Parent
returns-in-Parent c =
    let a = c.args in
    let (taken, few) = took-id a.before (c.in-Parent.id + 65536) a.levels.now c.take_id.ensures in
    record { levels_after = taken ∙ rw (parent-read (goal.at.returns-in-Parent c).In-Parent); result_bound = few }

pub returns-in-Ancestor : goal.returns-in-Ancestor
returns-in-Ancestor c =
    let a = c.args in
    let (taken, few) = took-id a.before (c.in-Ancestor.id + 131072) a.levels.now c.take_id-in-Ancestor.ensures in
    record { levels_after = taken ∙ rw (ancestor-read (goal.at.returns-in-Ancestor c).In-Ancestor); result_bound = few }

pub returns-in-Attribute : goal.returns-in-Attribute
returns-in-Attribute c =
    record { levels_after = c.take_attribute.ensures.levels_after ∙ rw (sym c.parse_line.ensures ∙ ap line_read c.in_ok-said.was ∙ ap (λ l. some (line_said l)) c.in-Attribute.is); result_bound = c.take_attribute.ensures.result_bound }
