-- `ancestors::rounds::take_batches` meets its contract: the rounds that are left say what the whole comes to.
use native.Mathlib.Omega.{arith}
use Prim.Native.Nat.{◌+◌, ◌-◌, ◌≤◌}
use mathlib.Core.Path.{◌≡◌, refl, sym, ◌∙◌}
use lib.ListN.{length}
use lib.Seq.{length-take-le}
use Rattle.std.proofs.lemmas.Result.{err_from_is_err_and}
use Rattle.ancestors.specs.RoundLaws.{rounds_over, rounds_ended, rounds_few, rounds_refused, round_end, rounds_next}
use Rattle.ancestors.proofs.rounds.take_batches.Goals as goal
use Rattle.ancestors.proofs.rounds.take_batches.Goals.{In_ok-taken}

pub loop-init : goal.loop-init
loop-init c =
    record {
      is_set = c.requires.set.0;
      same_rows = refl;
      same_found = refl;
      rows_room = c.requires.nodes_in_bounds.0;
      found_room = c.requires.nodes_in_bounds.1;
      within = c.requires.set.1;
      waits = c.requires.waits;
      sofar = λ place. refl;
    }

pub shape_of-rows-then-len-eq0 : goal.shape_of-rows-then-len-eq0
shape_of-rows-then-len-eq0 c = c.loop.invariant.same_rows

pub shape_of-found-then-len-eq0 : goal.shape_of-found-then-len-eq0
shape_of-found-then-len-eq0 c = c.loop.invariant.same_found

pub returns-then-len-eq0 : goal.returns-then-len-eq0
returns-then-len-eq0 c = rounds_ended _ _ c.loop.invariant c.if-len-eq0.true

pub slice_bounds-take_rows-end : goal.slice_bounds-take_rows-end
slice_bounds-take_rows-end c = c.loop.invariant.within

pub slice_bounds-take_rows-end-in-loop : goal.slice_bounds-take_rows-end-in-loop
slice_bounds-take_rows-end-in-loop c = sym (length-take-le c.loop.len c.loop.rows c.loop.invariant.within)

pub take_rows-requires : goal.take_rows-requires
take_rows-requires c =
    record { set = (c.loop.invariant.is_set, c.requires.set.2); rows_in_bounds = omega (arith, rounds_few _ _ c.loop.invariant, c.loop.invariant.found_room) }

pub shape_of-rows-in_err-taken : goal.shape_of-rows-in_err-taken
shape_of-rows-in_err-taken c = c.loop.invariant.same_rows

pub shape_of-found-in_err-taken : goal.shape_of-found-in_err-taken
shape_of-found-in_err-taken c = c.take_rows.auto.out ∙ c.loop.invariant.same_found

pub returns-in_err-taken : goal.returns-in_err-taken
returns-in_err-taken c =
    let (_, is, same) = err_from_is_err_and c.from_residual.result c.from_residual.ensures.1 in
    rw (is, same) (rounds_refused _ _ c.loop.invariant (omega (arith, c.loop-test.true)) c.take_rows.ensures c.in_err-taken.was)

-- the rows that wait then fit
fits : (c : In_ok-taken) →
    (c.in_ok-taken.taken.end ≤ length c.args.nodes.now) × (c.in_ok-taken.taken.end ≤ length c.take_rows.new.out)
fits c = round_end _ _ c.loop.invariant (omega (arith, c.loop-test.true)) c.take_rows.ensures c.in_ok-taken.was

pub slice_bounds-copy_words-end : goal.slice_bounds-copy_words-end
slice_bounds-copy_words-end c = (fits (goal.at.slice_bounds-copy_words-end c).In_ok-taken).1

pub slice_bounds-copy_words-end-in-loop : goal.slice_bounds-copy_words-end-in-loop
slice_bounds-copy_words-end-in-loop c = sym (length-take-le c.in_ok-taken.taken.end c.take_rows.new.out (fits (goal.at.slice_bounds-copy_words-end-in-loop c).In_ok-taken).1)

pub copy_words-requires : goal.copy_words-requires
copy_words-requires c =
    omega (
      arith,
      fits (goal.at.copy_words-requires c).In_ok-taken,
      length-take-le c.in_ok-taken.taken.end c.take_rows.new.out (fits (goal.at.copy_words-requires c).In_ok-taken).1,
      c.loop.invariant.rows_room,
    )

pub loop-preserved : goal.loop-preserved
loop-preserved c =
    let one_less : 24 - (c.loop.counter + 1) ≡ 24 - c.loop.counter - 1 = omega arith in
    rw one_less (rounds_next _ _ c.loop.invariant (omega (arith, c.loop-test.true)) c.take_rows.ensures c.in_ok-taken.was
    c.take_rows.auto.out c.copy_words.ensures.text)

pub returns-after-loop : goal.returns-after-loop
returns-after-loop c = rounds_over _ _ c.loop.invariant (omega (arith, c.loop-test.false))
