-- `load_state::turns::read_load` meets its contract: a load that is worked out is the state's where its turn fits.
use Prim.Native.Nat.{◌-◌}
use native.Mathlib.Omega.{arith}
use mathlib.Core.Path.{◌≡◌, sym, ◌∙◌}
use lib.ListN.{get_or, length}
use Rattle.rules.specs.Loading.{done, Load}
use Rattle.rows.specs.States.{rows_of}
use Rattle.batches.specs.TakingLaws.{load_lengths}
use Rattle.load_state.specs.LoadStates.{answer_words}
use Rattle.load_state.specs.Transcripts.{node_words, load_in, CameTo}
use Rattle.load_state.specs.TurnLaws.{worked_load, worked_none_told, lent_none, lent_fits, lent_misfits, told_parts}
use Rattle.load_state.proofs.turns.read_load.Goals as goal
use Rattle.load_state.proofs.turns.read_load.Goals.{In_ok-load}

-- the load that the answers lead to
came :
    (c : In_ok-load) →
    (load : Load)
    × (load_in c.args.state.now ≡ done load)
    × CameTo (answer_words c.args.state.now) c.work_out.new.rows c.work_out.new.places (get_or c.args.state.now 7 0) (rows_of (node_words c.args.state.now)) load
    c.in_ok-load.load.asked c.in_ok-load.load.end c.in_ok-load.load.batches c.in_ok-load.load.sum
came c =
    worked_load (answer_words c.args.state.now) _ _ (get_or c.args.state.now 7 0) _ (load_in c.args.state.now) c.work_out.result _ c.work_out.ensures c.in_ok-load.was

-- and how many of its rows were asked and wait
lengths :
    (c : In_ok-load) →
    (length (came c).0.waiting ≡ c.in_ok-load.load.end - c.in_ok-load.load.asked)
    × (length (came c).0.asked ≡ c.in_ok-load.load.asked)
lengths c =
    let (load, told, at) = came c in
    let (asked, waiting) = load_lengths _ _ _ _ _ _ at.s load at.at in
    (omega (arith, waiting, at.all_asked), omega (arith, asked, at.all_asked))

pub returns-in_err-load : goal.returns-in_err-load
returns-in_err-load c =
    rw c.from_residual.ensures
    (lent_none c.args.state.now
    (worked_none_told (answer_words c.args.state.now) _ _ _ _ _ c.work_out.result c.work_out.ensures c.in_err-load.was))

pub overflow_sub-load : goal.overflow_sub-load
overflow_sub-load c = let (load, told, at) = came (goal.at.overflow_sub-load c).In_ok-load in omega (arith, at.all_asked, at.at.ahead)

pub turn_fits-requires : goal.turn_fits-requires
turn_fits-requires c =
    let (load, told, at) = came (goal.at.turn_fits-requires c).In_ok-load in
    let parts = told_parts c.args.state.now load told in
    record { in_bounds = (c.requires.in_bounds.0, parts.turn, at.few); all_read = parts.sets_read }

pub returns-then-turn_fits : goal.returns-then-turn_fits
returns-then-turn_fits c =
    let (load, told, at) = came (goal.at.returns-then-turn_fits c).In_ok-load in
    let fits = c.turn_fits.ensures load (lengths (goal.at.returns-then-turn_fits c).In_ok-load).0 (lengths (goal.at.returns-then-turn_fits c).In_ok-load).1 (sym at.total) in
    rw (lent_fits c.args.state.now load told (sym fits ∙ c.if-turn_fits.true)) at

pub returns-else-turn_fits : goal.returns-else-turn_fits
returns-else-turn_fits c =
    let (load, told, at) = came (goal.at.returns-else-turn_fits c).In_ok-load in
    let fits = c.turn_fits.ensures load (lengths (goal.at.returns-else-turn_fits c).In_ok-load).0 (lengths (goal.at.returns-else-turn_fits c).In_ok-load).1 (sym at.total) in
    lent_misfits c.args.state.now load told (sym fits ∙ c.if-turn_fits.false)
