-- `full_types::full_type_required` meets its contract: at each turn the pairs so far and what those ahead give that wait are the whole.
use Prim.Native.Nat.{◌+◌, ◌-◌, ◌≤◌}
use native.Mathlib.Omega.{arith}
use mathlib.Core.Path.{sym, ◌∙◌}
use lib.ListN.{length, get_or}
use Rattle.schema.specs.Items.{items_of}
use Rattle.type_table.specs.Tables.{KnownType}
use Rattle.full_types.specs.Required.{PathsStacked}
use Rattle.std.specs.Prelude.{Some}
use Rattle.type_table.specs.TypeTableLaws.{known_type}
use Rattle.full_types.specs.RequiredLaws.{TypesWait, walking_first, waits_done, waits_few, waits_within, waits_room, waits_pairs, waits_standing, waits_meeting, waits_on, waits_passed, waits_known, waits_none, waits_next, refers}
use Rattle.full_types.proofs.full_type_required.Goals as goal
use Rattle.full_types.proofs.full_type_required.Goals.{After-words-from, At-loop-left, Else-next-eq-PASSED_OVER, In_ok-more}

-- the pairs so far of the paths that stand there, and what waits
waits :
    (c : At-loop-left) →
    TypesWait c.args.code.now c.requires.1.result.rest (items_of c.args.types.now.words.now) c.requires.1.result.paths c.args.t c.args.at c.loop-left.waiting c.loop-left.pairs c.loop-left.from c.loop-left.left c.loop-left.count
waits c = c.loop-left.invariant.all c.requires.1.result.paths c.requires.1.result.rest c.requires.1.result.coded c.requires.1.result.good_paths

known : (c : Else-next-eq-PASSED_OVER) → (TypesWait c.args.code.now c.requires.1.result.rest (items_of c.args.types.now.words.now) c.requires.1.result.paths c.args.t c.args.at c.loop-left.waiting c.loop-left.pairs c.loop-left.from c.loop-left.left c.loop-left.count) → KnownType c.args.types.now.words.now c.args.types.now.table.now (get_or c.loop-left.waiting (c.loop-left.left - 1) 0)
known c waits-here = record {
  types = (known_type c.args.types.now c.requires.0).types;
  known = waits_known waits-here c.loop-left-test.true c.if-next-eq-PASSED_OVER.false;
}

stacked :
    (c : In_ok-more) →
    let args = c.args in
    PathsStacked
    args.code.now
    (items_of args.types.now.words.now)
    c.loop-left.from
    (get_or c.loop-left.waiting (c.loop-left.left - 1) 0)
    c.loop-left.waiting
    (c.loop-left.left - 1)
    c.await_wrapped.new.waiting
    (Some c.in_ok-more.more)
stacked c = rw c.in_ok-more.was at c.await_wrapped.ensures

room : (c : After-words-from) → (TypesWait c.args.code.now c.requires.1.result.rest (items_of c.args.types.now.words.now) c.requires.1.result.paths c.args.t c.args.at c.loop-left.waiting c.loop-left.pairs c.loop-left.from c.loop-left.left c.loop-left.count) → c.loop-left.from + c.words-from.result ≤ length c.args.code.now
room c waits-here =
    rw c.words-from.ensures (waits_room waits-here c.loop-left-test.true c.of-head.ensures.value)

pub loop-left-init : goal.loop-left-init
loop-left-init c =
    walking_first c.args.code.now c.args.types.now.words.now c.args.pairs.now c.args.at (known_type c.args.types.now c.requires.0) c.requires.1.places

pub offset_bounds-waiting-left : goal.offset_bounds-waiting-left
offset_bounds-waiting-left c = omega (arith, waits_few (waits (goal.at.offset_bounds-waiting-left c).At-loop-left), c.requires.1.result.few_nodes)

pub bounds-waiting-left : goal.bounds-waiting-left
bounds-waiting-left c = omega (arith, waits_few (waits (goal.at.bounds-waiting-left c).At-loop-left), c.requires.1.result.few_nodes)

pub measure-from-requires : goal.measure-from-requires
measure-from-requires c = waits_standing (waits (goal.at.measure-from-requires c).At-loop-left) c.loop-left-test.true

pub loop-left-smaller-then-next-eq-PASSED_OVER : goal.loop-left-smaller-then-next-eq-PASSED_OVER
loop-left-smaller-then-next-eq-PASSED_OVER c =
    omega (
      arith,
      waits_within (waits (goal.at.loop-left-smaller-then-next-eq-PASSED_OVER c).At-loop-left) c.loop-left-test.true,
      waits_on (waits (goal.at.loop-left-smaller-then-next-eq-PASSED_OVER c).At-loop-left) c.loop-left-test.true c.measure-from.ensures,
    )

pub loop-left-preserved-then-next-eq-PASSED_OVER : goal.loop-left-preserved-then-next-eq-PASSED_OVER
loop-left-preserved-then-next-eq-PASSED_OVER c =
    record {
      stack = c.loop-left.invariant.stack;
      places = c.loop-left.invariant.places;
      all = λ paths rest e good. waits_passed (c.loop-left.invariant.all paths rest e good) c.loop-left-test.true c.measure-from.ensures c.if-next-eq-PASSED_OVER.true;
    }

pub offset_bounds-code-from : goal.offset_bounds-code-from
offset_bounds-code-from c = omega (arith, waits_within (waits (goal.at.offset_bounds-code-from c).At-loop-left) c.loop-left-test.true)

pub bounds-code-from : goal.bounds-code-from
bounds-code-from c = waits_within (waits (goal.at.bounds-code-from c).At-loop-left) c.loop-left-test.true

pub slice_bounds-await_wrapped-end : goal.slice_bounds-await_wrapped-end
slice_bounds-await_wrapped-end c = sym c.loop-left.invariant.stack

pub await_wrapped-requires : goal.await_wrapped-requires
await_wrapped-requires c =
    waits_meeting (waits (goal.at.await_wrapped-requires c).At-loop-left) c.loop-left-test.true {types = c.args.types.now} c.of-head.ensures.value (omega (arith, (known (goal.at.await_wrapped-requires c).Else-next-eq-PASSED_OVER (waits (goal.at.await_wrapped-requires c).At-loop-left)).known, c.args.types.now.good.all_types))
    (omega (arith, c.loop-left.invariant.stack, c.requires.1.result.few_nodes))

pub shape_of-pairs-in_err-more : goal.shape_of-pairs-in_err-more
shape_of-pairs-in_err-more c =
    c.loop-left.invariant.places ∙ sym c.requires.1.places

pub returns-in_err-more : goal.returns-in_err-more
returns-in_err-more c =
    rw c.from_residual.ensures
    (λ paths rest e good.
    waits_none (c.loop-left.invariant.all paths rest e good) c.loop-left-test.true c.if-next-eq-PASSED_OVER.false (refers (known (goal.at.returns-in_err-more c).Else-next-eq-PASSED_OVER (waits (goal.at.returns-in_err-more c).At-loop-left)))
    c.await_wrapped.new.waiting
    (rw c.in_err-more.was at c.await_wrapped.ensures))

pub note_pair-count-requires : goal.note_pair-count-requires
note_pair-count-requires c =
    let type = refers (known (goal.at.note_pair-count-requires c).Else-next-eq-PASSED_OVER (waits (goal.at.note_pair-count-requires c).At-loop-left)) in
    record {
      place = omega (arith, waits_within (waits (goal.at.note_pair-count-requires c).At-loop-left) c.loop-left-test.true, c.requires.1.short);
      type = omega (arith, type.known, type.few);
      room = omega (arith, waits_pairs (waits (goal.at.note_pair-count-requires c).At-loop-left) c.loop-left-test.true, c.loop-left.invariant.places, c.requires.1.result.few_nodes);
    }

pub words-from-requires : goal.words-from-requires
words-from-requires c = c.of-head.ensures.result_bound

pub overflow_add-from : goal.overflow_add-from
overflow_add-from c = omega (arith, room (goal.at.overflow_add-from c).After-words-from (waits (goal.at.overflow_add-from c).At-loop-left))

pub loop-left-smaller : goal.loop-left-smaller
loop-left-smaller c = omega (arith, room (goal.at.loop-left-smaller c).After-words-from (waits (goal.at.loop-left-smaller c).At-loop-left), c.words-from.ensures)

pub loop-left-preserved : goal.loop-left-preserved
loop-left-preserved c =
    record {
      stack = c.await_wrapped.auto.waiting ∙ c.loop-left.invariant.stack;
      places = c.note_pair-count.auto.pairs ∙ c.loop-left.invariant.places;
      all =
          λ paths rest e good.
          rw c.words-from.ensures
          (waits_next (c.loop-left.invariant.all paths rest e good) c.loop-left-test.true c.if-next-eq-PASSED_OVER.false (refers (known (goal.at.loop-left-preserved c).Else-next-eq-PASSED_OVER (waits (goal.at.loop-left-preserved c).At-loop-left)))
          c.await_wrapped.new.waiting
          c.of-head.ensures.value
          (omega (arith, waits_few (waits (goal.at.loop-left-preserved c).At-loop-left), c.loop-left.invariant.stack, c.requires.1.result.few_nodes))
          (stacked (goal.at.loop-left-preserved c).In_ok-more)
          c.note_pair-count.ensures);
    }

pub shape_of-pairs : goal.shape_of-pairs
shape_of-pairs c = c.loop-left.invariant.places ∙ sym c.requires.1.places

pub returns : goal.returns
returns c = λ paths rest e good. waits_done (c.loop-left.invariant.all paths rest e good) c.loop-left-test.false
