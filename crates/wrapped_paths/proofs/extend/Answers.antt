-- `wrapped_paths::extend` meets its contract: what is done with a head is what it says.
use mathlib.Core.Logic.{inl, inr}
use mathlib.Core.Path.{sym, ◌∙◌}
use Rattle.wrapped_paths.specs.AttrLaws.{room_within, room_out, room_path, room_literal, turned_empty, turned_union, turned_path, turned_record, turned_set}
use Rattle.wrapped_paths.proofs.extend.Goals as goal

pub keep_head-moved-requires : goal.keep_head-moved-requires
keep_head-moved-requires c = (room_within c.requires.0, room_out c.requires.0)

pub grow_path-moved-requires : goal.grow_path-moved-requires
grow_path-moved-requires c = room_path c.requires.0 c.in-AccessPath.kind c.in-AccessPath.steps (sym c.requires.1 ∙ c.in-AccessPath.is)

pub take_field-moved-requires : goal.take_field-moved-requires
take_field-moved-requires c =
    rw c.from.ensures (room_literal c.requires.0 c.in-RecordLiteral.fields (sym c.requires.1 ∙ c.in-RecordLiteral.is))

pub returns-in-Empty : goal.returns-in-Empty
returns-in-Empty c =
    let a = c.args in
    elim c.in-Empty.is [
      | inl e ↦ turned_empty a.code.now a.out.now c.keep_head-moved.new.out a.at a.name a.to c.keep_head-moved.result (sym c.requires.1 ∙ e) c.keep_head-moved.ensures
      | inr e ↦ turned_union a.code.now a.out.now c.keep_head-moved.new.out a.at a.name a.to c.keep_head-moved.result (sym c.requires.1 ∙ e) c.keep_head-moved.ensures
    ]

pub returns-in-AccessPath : goal.returns-in-AccessPath
returns-in-AccessPath c = let a = c.args in turned_path a.code.now a.out.now c.grow_path-moved.new.out a.at a.name a.to c.grow_path-moved.result c.in-AccessPath.kind c.in-AccessPath.steps (sym c.requires.1 ∙ c.in-AccessPath.is) c.grow_path-moved.ensures

pub returns-in-SetLiteral : goal.returns-in-SetLiteral
returns-in-SetLiteral c = let a = c.args in turned_set a.code.now a.out.now a.out.now a.at a.name a.to (sym c.requires.1 ∙ c.in-SetLiteral.is)

pub returns-in-RecordLiteral : goal.returns-in-RecordLiteral
returns-in-RecordLiteral c =
    let a = c.args in
    turned_record a.code.now a.out.now c.take_field-moved.new.out a.at a.name a.to c.take_field-moved.result c.in-RecordLiteral.fields (sym c.requires.1 ∙ c.in-RecordLiteral.is) (rw c.from.ensures at c.take_field-moved.ensures)
