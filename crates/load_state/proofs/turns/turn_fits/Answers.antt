-- `load_state::turns::turn_fits` meets its contract: the turn decides which tests are made.
use native.Mathlib.Omega.{arith}
use borrow.Author.Tests.{lt-ltb, eq-eqb, ne_eqb}
use lib.ListN.{get_or}
use Rattle.rules.specs.Facts.{compared}
use Rattle.answers.specs.declared.Lending.TheVariants.{Sets}
use Rattle.load_state.specs.LoadStates.{set_words}
use Rattle.load_state.specs.WorkedLaws.{items_counted}
use Rattle.load_state.specs.TurnLaws.{waits_fits, asks_fits, ended_fits}
use Rattle.load_state.proofs.turns.turn_fits.Goals as goal

pub returns-then-waiting-eq0 : goal.returns-then-waiting-eq0
returns-then-waiting-eq0 c load waiting asked sum =
    rw (waits_fits (get_or c.args.state.now 0 0) load _ c.requires.in_bounds.1 c.if-turn-lt3.true, waiting, c.if-waiting-eq0.true)

pub returns-then-turn-lt3 : goal.returns-then-turn-lt3
returns-then-turn-lt3 c load waiting asked sum =
    rw (
      waits_fits (get_or c.args.state.now 0 0) load _ c.requires.in_bounds.1 c.if-turn-lt3.true,
      waiting,
      lt-ltb 0 c.args.waiting (omega (arith, c.if-waiting-eq0.false)),
      items_counted Sets (get_or c.args.state.now 8 0) (set_words c.args.state.now) c.requires.all_read,
    )

pub returns-then-waiting-ne0 : goal.returns-then-waiting-ne0
returns-then-waiting-ne0 c load waiting asked sum =
    compared (get_or c.args.state.now 0 0) 5
    (λ less. rw (asks_fits (get_or c.args.state.now 0 0) load _ (omega arith) less, waiting, ne_eqb c.args.waiting 0 c.if-waiting-ne0.true))
    (λ more. rw (ended_fits (get_or c.args.state.now 0 0) load _ more, waiting, ne_eqb c.args.waiting 0 c.if-waiting-ne0.true))

pub returns-then-turn-lt5 : goal.returns-then-turn-lt5
returns-then-turn-lt5 c load waiting asked sum =
    rw (
      asks_fits (get_or c.args.state.now 0 0) load _ (omega (arith, c.if-turn-lt3.false)) c.if-turn-lt5.true,
      waiting,
      eq-eqb c.args.waiting 0 (omega (arith, c.if-waiting-ne0.false)),
      items_counted Sets (get_or c.args.state.now 8 0) (set_words c.args.state.now) c.requires.all_read,
    )

pub returns : goal.returns
returns c load waiting asked sum =
    rw (
      ended_fits (get_or c.args.state.now 0 0) load _ (omega (arith, c.if-turn-lt5.false)),
      waiting,
      eq-eqb c.args.waiting 0 (omega (arith, c.if-waiting-ne0.false)),
      items_counted Sets (get_or c.args.state.now 8 0) (set_words c.args.state.now) c.requires.all_read,
      asked,
      sum,
    )
    c.sets_fit.ensures
