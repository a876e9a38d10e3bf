-- `load_state::turns::sets_fit` meets its contract: their count is judged, and then their sum.
use mathlib.Core.Path.{◌≡◌, refl, ◌∙◌}
use Rattle.std.specs.Prelude.{ℕ, Result, Ok, Err}
use Rattle.std.specs.Result.{is_ok}
use borrow.Author.Tests.{lt-leb, le-leb}
use Rattle.rules.specs.LoadCalls.{is_summed}
use Rattle.answers.specs.Answers.{sum_in}
use Rattle.load_state.proofs.turns.sets_fit.Goals as goal

pub returns-then-asked-count : goal.returns-then-asked-count
returns-then-asked-count c = let a = c.args in rw (lt-leb a.count a.asked c.if-asked-count.true)

within : (r : Result ℕ ℕ) → is_ok r ≡ is_summed (sum_in r)
within (Ok sum) = refl
within (Err place) = refl

pub returns : goal.returns
returns c =
    let a = c.args in
    rw (le-leb a.count a.asked c.if-asked-count.false, c.sum.ensures) (c.is_ok.ensures.value ∙ within c.sum.result)
