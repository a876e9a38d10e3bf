-- `answers::is_entity` meets its contract: test by test.
use native.Mathlib.Omega.{arith}
use native.Mathlib.Nat.{add-sub_cancel_left}
use mathlib.Core.Path.{sym, ◌∙◌}
use lib.Seq.{length-take-le}
use Rattle.answers.specs.AnswerLaws.{other_flag, too_long, bad_parents, by_rows}
use Rattle.answers.proofs.is_entity.Goals as goal

pub returns-then-head-ne1 : goal.returns-then-head-ne1
returns-then-head-ne1 c = let args = c.args in sym (other_flag args.head args.words.now c.if-head-ne1.true)

pub returns-then-words-end : goal.returns-then-words-end
returns-then-words-end c =
    let args = c.args in
    sym (too_long args.head args.words.now c.if-head-ne1.false c.if-words-end.true)

pub slice_bounds-is_id_set-end : goal.slice_bounds-is_id_set-end
slice_bounds-is_id_set-end c = sym (length-take-le _ _ (omega arith))

pub returns-then-not-is_id_set : goal.returns-then-not-is_id_set
returns-then-not-is_id_set c =
    sym (bad_parents _ _ c.if-head-ne1.false c.if-words-end.false (sym c.is_id_set.ensures ∙ c.if-not-is_id_set.true))

pub returns : goal.returns
returns c =
    rw add-sub_cancel_left at c.is_lawful.ensures
    ∙ sym (by_rows _ _ c.if-head-ne1.false c.if-words-end.false (sym c.is_id_set.ensures ∙ c.if-not-is_id_set.false))
