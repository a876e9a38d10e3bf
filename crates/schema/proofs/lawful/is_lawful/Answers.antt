-- `schema::lawful::is_lawful` meets its contract: the part that is passed on has the state's words, and each test is one of `lawful_schema`'s.
use native.Mathlib.Omega.{arith}
use mathlib.Core.Path.{sym, ◌∙◌}
use Rattle.schema.specs.ItemLaws.{schema_too_short, lawful_over, lawful_words}
use native.Mathlib.Nat.{add-sub_cancel}
use Rattle.schema.proofs.lawful.is_lawful.Goals as goal

pub returns-then-state-lt-WORDS : goal.returns-then-state-lt-WORDS
returns-then-state-lt-WORDS c = sym (schema_too_short c.args.state.now c.if-state-lt-WORDS.true)

pub returns-then-count-gt142336 : goal.returns-then-count-gt142336
returns-then-count-gt142336 c =
    sym (lawful_over c.args.state.now (omega arith) (omega arith))

pub returns : goal.returns
returns c =
    (simp add-sub_cancel at c.are_items.ensures) ∙ sym (lawful_words c.args.state.now (omega arith) (omega arith))
