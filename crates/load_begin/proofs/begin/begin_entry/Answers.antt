-- `load_begin::begin::begin_entry` meets its contract: 14 of the first batch, or the load is stored with its turn.
use Prim.Native.Nat.{◌+◌, ◌-◌, ◌≤◌}
use native.Mathlib.Omega.{arith}
use native.Mathlib.Nat.{add-sub_cancel_left}
use mathlib.Core.Path.{◌≡◌, sym, ◌∙◌}
use lib.ListN.{length, replicate, take, drop, length-take, length-drop, length-map}
use lib.Seq.{length-take-le}
use Rattle.rows.specs.Words.{row_in}
use Rattle.rows.specs.States.{rows_of}
use Rattle.row_walk.specs.YieldLaws.{below_length}
use Rattle.row_walk.specs.InitialLaws.{initial_yields}
use Rattle.load_begin.specs.BeginLaws.{begun_bad, begun_to}
use Rattle.load_begin.proofs.begin.begin_entry.Goals as goal

pub initial_entities_to_load-requires : goal.initial_entities_to_load-requires
initial_entities_to_load-requires c =
    let a = c.args in
    let nodes = take (a.at + 1 + a.count - (a.at + 1)) (drop (a.at + 1) a.rows.now) in
    let few : length nodes ≤ 4096 = omega (arith, length-take (a.at + 1 + a.count - (a.at + 1)) (drop (a.at + 1) a.rows.now), c.requires.count_in_bounds.1.0) in record { nodes_len_bound = (omega arith, c.requires.principal_bound.0, c.requires.principal_bound.1.0); nodes_in_bounds = omega (arith, initial_yields a.request a.context.now 0 0 (rows_of nodes), below_length 0 (rows_of nodes), length-map nodes row_in) }

pub returns-in_default : goal.returns-in_default
returns-in_default c =
    let a = c.args in
    begun_bad a.request.triple a.request.principal a.request.resource a.context.now a.state.now a.first (rows_of (take a.count (drop (a.at + 1) a.rows.now))) (replicate 4096 0) c.initial_entities_to_load.new.out c.initial_entities_to_load.result
    (rw (add-sub_cancel_left (a.at + 1) a.count) at c.initial_entities_to_load.ensures) c.in_default.is

pub returns : goal.returns
returns c =
    let a = c.args in
    let words = a.rows.now in
    let size : a.at + 1 + a.count - a.at ≡ a.count + 1 = omega arith in
    begun_to a.request.triple a.request.principal a.request.resource a.context.now a.state.now a.first (rows_of (take a.count (drop (a.at + 1) words))) (replicate 4096 0) c.initial_entities_to_load.new.out c.initial_entities_to_load.result
    c.turn_for-turn.result a.count (take (a.at + 1 + a.count - a.at) (drop a.at words)) _
    (rw (add-sub_cancel_left (a.at + 1) a.count) at c.initial_entities_to_load.ensures)
    c.in-Some.is
    c.turn_for-turn.ensures
    (sym (length-map (take a.count (drop (a.at + 1) words)) row_in ∙ length-take-le a.count (drop (a.at + 1) words) (simp length-drop (omega (arith, c.requires.count_in_bounds.0)))))
    (rw size c.requires.rows_value)
    c.store_begun.ensures
