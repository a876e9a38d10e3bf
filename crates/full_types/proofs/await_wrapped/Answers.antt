-- `full_types::await_wrapped` meets its contract: what waits after a head is what its kind says.
use native.Mathlib.Omega.{arith}
use mathlib.Core.Logic.{inl, inr}
use mathlib.Core.Path.{sym, ◌∙◌}
use lib.ListN.{length-set}
use Rattle.schema.specs.Items.{items_of}
use Rattle.full_types.specs.RequiredLaws.{empty_stacked, path_stacked, union_stacked, set_awaited, record_awaited, meeting_room, meeting_as}
use Rattle.full_types.proofs.await_wrapped.Goals as goal

pub bounds-waiting-left : goal.bounds-waiting-left
bounds-waiting-left c = omega (arith, meeting_room (meeting_as c.requires c.in-Union.is))

pub bounds-waiting-left-in-Union : goal.bounds-waiting-left-in-Union
bounds-waiting-left-in-Union c =
    rw length-set (omega (arith, meeting_room (meeting_as c.requires c.in-Union.is)))

pub await_set-requires : goal.await_set-requires
await_set-requires c = (c.requires.known, omega (arith, meeting_room c.requires))

pub await_record-requires : goal.await_record-requires
await_record-requires c =
    meeting_as c.requires c.in-RecordLiteral.is

pub returns-in-Empty : goal.returns-in-Empty
returns-in-Empty c =
    let a = c.args in
    elim c.in-Empty.is [
      | inl e ↦ empty_stacked a.code.now (items_of a.types.now.words.now) a.at a.t a.waiting.now a.left (sym e ∙ c.requires.said) (omega (arith, meeting_room c.requires))
      | inr (kind, steps, e) ↦ path_stacked a.code.now (items_of a.types.now.words.now) a.at a.t a.waiting.now a.left (sym e ∙ c.requires.said) (omega (arith, meeting_room c.requires))
    ]

pub returns-in-Union : goal.returns-in-Union
returns-in-Union c =
    union_stacked c.args.code.now (items_of c.args.types.now.words.now) c.args.at c.args.t c.args.waiting.now c.args.left
    (sym c.in-Union.is ∙ c.requires.said)
    (omega (arith, meeting_room (meeting_as c.requires c.in-Union.is)))

pub returns-in-SetLiteral : goal.returns-in-SetLiteral
returns-in-SetLiteral c =
    set_awaited c.args.code.now (items_of c.args.types.now.words.now) c.args.at c.args.t c.args.waiting.now c.args.left
    c.await_set.new.waiting
    c.await_set.result
    (sym c.in-SetLiteral.is ∙ c.requires.said)
    c.await_set.ensures

pub returns-in-RecordLiteral : goal.returns-in-RecordLiteral
returns-in-RecordLiteral c =
    record_awaited c.args.code.now (items_of c.args.types.now.words.now) c.args.at c.args.t c.args.waiting.now c.args.left
    c.await_record.new.waiting
    c.await_record.result
    (sym c.in-RecordLiteral.is ∙ c.requires.said)
    c.await_record.ensures
