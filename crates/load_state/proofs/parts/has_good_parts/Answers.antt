-- `load_state::parts::has_good_parts` meets its contract: the first part that is not of its form decides.
use native.Mathlib.Omega.{arith}
use mathlib.Core.Path.{◌≡◌, sym, ◌∙◌}
use mathlib.Core.Bool.{true}
use lib.ListN.{drop, get_or, length-take}
use Rattle.answers.specs.declared.Lending.TheVariants.{Answers}
use Rattle.load_state.specs.LoadStates.{good_head, good_entry, good_context, good_lent, good_parts, answer_words}
use Rattle.load_state.proofs.parts.has_good_parts.Goals as goal
use Rattle.load_state.proofs.parts.has_good_parts.Goals.{Else-not-has_good_context, Else-not-has_good_entry, Else-not-has_good_head, Else-not-has_good_lent}

-- the parts that were passed
head : (c : Else-not-has_good_head) → good_head c.args.state.now ≡ true
head c = sym c.has_good_head.ensures ∙ c.if-not-has_good_head.false

entry : (c : Else-not-has_good_entry) → good_entry c.args.state.now ≡ true
entry c = sym c.has_good_entry.ensures ∙ c.if-not-has_good_entry.false

context : (c : Else-not-has_good_context) → good_context c.args.state.now ≡ true
context c = sym c.has_good_context.ensures ∙ c.if-not-has_good_context.false

answered : (c : Else-not-has_good_lent) → good_lent Answers (get_or c.args.state.now 7 0) (answer_words c.args.state.now) ≡ true
answered c = sym c.has_good_lent.ensures ∙ c.if-not-has_good_lent.false

pub returns-then-not-has_good_head : goal.returns-then-not-has_good_head
unfolding good_parts
returns-then-not-has_good_head c = rw (sym c.has_good_head.ensures ∙ c.if-not-has_good_head.true)

pub returns-then-not-has_good_entry : goal.returns-then-not-has_good_entry
unfolding good_parts
returns-then-not-has_good_entry c = rw (head (goal.at.returns-then-not-has_good_entry c).Else-not-has_good_head, sym c.has_good_entry.ensures ∙ c.if-not-has_good_entry.true)

pub returns-then-not-has_good_context : goal.returns-then-not-has_good_context
unfolding good_parts
returns-then-not-has_good_context c = rw (head (goal.at.returns-then-not-has_good_context c).Else-not-has_good_head, entry (goal.at.returns-then-not-has_good_context c).Else-not-has_good_entry, sym c.has_good_context.ensures ∙ c.if-not-has_good_context.true)

pub has_good_lent-requires : goal.has_good_lent-requires
has_good_lent-requires c =
    omega (arith, length-take 12288 (drop 12298 c.args.state.now), c.has_good_context.auto.levels, c.requires.1)

pub returns-then-not-has_good_lent : goal.returns-then-not-has_good_lent
unfolding good_parts
returns-then-not-has_good_lent c =
    rw (head (goal.at.returns-then-not-has_good_lent c).Else-not-has_good_head, entry (goal.at.returns-then-not-has_good_lent c).Else-not-has_good_entry, context (goal.at.returns-then-not-has_good_lent c).Else-not-has_good_context, sym c.has_good_lent.ensures ∙ c.if-not-has_good_lent.true)

pub has_good_lent-requires-2 : goal.has_good_lent-requires-2
has_good_lent-requires-2 c =
    omega (arith, length-take 12288 (drop 24586 c.args.state.now), c.has_good_context.auto.levels, c.has_good_lent.auto.levels, c.requires.1)

pub returns : goal.returns
unfolding good_parts
returns c = rw (head (goal.at.returns c).Else-not-has_good_head, entry (goal.at.returns c).Else-not-has_good_entry, context (goal.at.returns c).Else-not-has_good_context, answered (goal.at.returns c).Else-not-has_good_lent) c.has_good_lent-2.ensures
