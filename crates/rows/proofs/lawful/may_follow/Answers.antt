-- `rows::lawful::may_follow` meets its contract: each test that it makes is one of `may_follow`'s, at the step that stands in the path.
use native.Mathlib.Omega.{arith}
use mathlib.Core.Bool.{true}
use mathlib.Core.Path.{◌≡◌, sym, ◌∙◌}
use Rattle.rows.specs.Words.{is_word}
use Rattle.rows.specs.States.{may_follow}
use Rattle.rows.proofs.LawfulLaws.{follow_deep, follow_above, follow_level}
use Rattle.rows.proofs.lawful.may_follow.Goals as goal
use Rattle.rows.proofs.lawful.may_follow.Goals.{Else-not-is_word}

pub returns-then-not-is_word : goal.returns-then-not-is_word
unfolding may_follow
returns-then-not-is_word c =
    rw (sym c.is_word.ensures ∙ c.if-not-is_word.true)

pub returns-then-depth-gt-STEPS : goal.returns-then-depth-gt-STEPS
returns-then-depth-gt-STEPS c = sym (follow_deep _ _ (omega arith))

-- past the first test the word packs a row
whole : (c : Else-not-is_word) → is_word c.args.row.word ≡ true
whole c = sym c.is_word.ensures ∙ c.if-not-is_word.false

pub returns-then-at-path : goal.returns-then-at-path
returns-then-at-path c =
    rw (c.depth-depth.ensures, c.step.ensures)
    (sym (follow_above c.args.path.now _ (whole (goal.at.returns-then-at-path c).Else-not-is_word) (omega arith) (omega arith)))

pub returns : goal.returns
returns c =
    rw c.depth-depth.ensures
    (sym (follow_level c.args.path.now _ (whole (goal.at.returns c).Else-not-is_word) (omega arith) (omega arith)))
