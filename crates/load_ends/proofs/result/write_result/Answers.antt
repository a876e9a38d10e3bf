-- `load_ends::result::write_result` meets its contract: the answers and the sets come to the slice, which is written behind its count.
use Prim.Native.Nat.{◌≤◌}
use native.Mathlib.Omega.{arith}
use mathlib.Core.Path.{sym}
use lib.ListN.{length}
use lib.Seq.{length-take-le}
use Rattle.load_ends.specs.LoadedLaws.{read_parts, read_few, read_inside, rows_are}
use Rattle.load_ends.specs.SliceFitLaws.{read_slice, ended_sets, ended_fit}
use Rattle.load_ends.specs.ResultLaws.{result_handed}
use Rattle.load_ends.proofs.result.write_result.Goals as goal
use Rattle.load_ends.proofs.result.write_result.Goals.{After-place}

-- the places of the sets are stored
roomy : (c : After-place) → 4096 ≤ length c.place.new.places
roomy c = omega (arith, c.place.auto.places)

pub place-requires : goal.place-requires
place-requires c = let parts = read_parts c.requires.read_to in (parts.sets_read, omega (arith, parts.few_sets))

pub slice_bounds-build_slice-end-2 : goal.slice_bounds-build_slice-end-2
slice_bounds-build_slice-end-2 c = sym (length-take-le _ _ (read_inside c.requires.read_to))

pub slice_bounds-build_slice-end-3 : goal.slice_bounds-build_slice-end-3
slice_bounds-build_slice-end-3 c = sym (length-take-le _ _ (omega (arith, read_few c.requires.read_to)))

pub slice_bounds-set_places-end : goal.slice_bounds-set_places-end
slice_bounds-set_places-end c = omega (arith, (read_parts c.requires.read_to).few_sets, roomy (goal.at.slice_bounds-set_places-end c).After-place)

pub slice_bounds-build_slice-end-5 : goal.slice_bounds-build_slice-end-5
slice_bounds-build_slice-end-5 c = sym (length-take-le _ _ (omega (arith, (read_parts c.requires.read_to).few_sets, roomy (goal.at.slice_bounds-build_slice-end-5 c).After-place)))

pub build_slice-built-requires : goal.build_slice-built-requires
build_slice-built-requires c =
    ended_fit c.requires.read_to (omega arith) c.requires.in_bounds.1 _ c.place.new.places c.place.ensures (roomy (goal.at.build_slice-built-requires c).After-place) _ _ c.requires.in_bounds.2 (omega arith)

pub bounds-out-0 : goal.bounds-out-0
bounds-out-0 c = omega (arith, c.build_slice-built.auto.out, c.requires.in_bounds.2)

pub returns : goal.returns
returns c =
    let sets_are = ended_sets c.requires.read_to (omega arith) c.requires.in_bounds.1 _ c.place.new.places c.place.ensures (roomy (goal.at.returns c).After-place) in
    result_handed c.requires.read_to c.requires.in_bounds.1 (rw (rows_are c.requires.read_to, sets_are)) (c.build_slice-built.ensures c.requires.read_to.load.slice (read_slice c.requires.read_to (omega arith)))
