-- `rows::row::Row::joined` meets its contract: each branch is a case of `joined_word`, and 32 fits where the left row is not marked.
use mathlib.Core.Path.{◌≡◌, sym, ◌∙◌}
use mathlib.Core.Bool.{true, false}
use Rattle.rows.specs.Words.{mark_in, joined_word}
use Rattle.rows.proofs.row.Row.joined.Goals as goal
use Rattle.rows.proofs.row.Row.joined.Goals.{After-is_marked-2}

pub returns-then-is_marked : goal.returns-then-is_marked
unfolding joined_word
returns-then-is_marked c = let marked = sym c.is_marked.ensures ∙ c.if-is_marked.true in rw marked

-- the left row is not marked
unmarked : (c : After-is_marked-2) → mark_in c.args.self.word ≡ false
unmarked c = sym c.is_marked.ensures ∙ c.if-is_marked.false

pub returns-then-is_marked-2 : goal.returns-then-is_marked-2
unfolding joined_word
returns-then-is_marked-2 c = rw (unmarked (goal.at.returns-then-is_marked-2 c).After-is_marked-2, marked)
  where
    marked : mark_in c.args.right.word ≡ true
    marked = sym c.is_marked-2.ensures ∙ c.if-is_marked-2.true

pub returns : goal.returns
unfolding joined_word
returns c = rw (unmarked (goal.at.returns c).After-is_marked-2, unmarked-right)
  where
    unmarked-right : mark_in c.args.right.word ≡ false
    unmarked-right = sym c.is_marked-2.ensures ∙ c.if-is_marked-2.false
