-- `slices::entity::merge_more` meets its contract: the two runs are merged into the scratch, and copied back.
use native.Mathlib.Omega.{arith}
use mathlib.Core.Path.{refl, sym}
use Prim.Native.Nat.{◌+◌, ◌≤◌}
use lib.ListN.{length-take}
use lib.Seq.{length-take-le}
use Rattle.slices.specs.Slices.{row_count}
use Rattle.slices.specs.MergedLaws.{more_merges, more_few, more_wrote}
use Rattle.slices.proofs.entity.merge_more.Goals as goal
use Rattle.slices.proofs.entity.merge_more.Goals.{In-Some}

-- there are no more rows than both had
few : (c : In-Some) → c.in-Some.merged
    ≤ c.args.size + row_count c.args.words.now c.args.place
few c =
    more_few _ _ _ _ _ _ c.requires c.rows_start-start.ensures c.rows_end-end.ensures refl _ _ c.merge_values.ensures
    c.in-Some.is

pub returns-in_default : goal.returns-in_default
returns-in_default c =
    absurd (more_merges _ _ _ _ _ _
    c.requires
    c.rows_start-start.ensures
    c.rows_end-end.ensures refl _ _
    c.merge_values.ensures c.in_default.is)

pub slice_bounds-copy_words-end : goal.slice_bounds-copy_words-end
slice_bounds-copy_words-end c =
    omega (arith, few (goal.at.slice_bounds-copy_words-end c).In-Some, c.requires.scratch_room)

pub slice_bounds-copy_words-end-2 : goal.slice_bounds-copy_words-end-2
slice_bounds-copy_words-end-2 c =
    sym (length-take-le _ _ (omega
    (arith, few (goal.at.slice_bounds-copy_words-end-2 c).In-Some, c.requires.scratch_room)))

pub copy_words-requires : goal.copy_words-requires
copy_words-requires c =
    simp length-take (omega (
      arith,
      few (goal.at.copy_words-requires c).In-Some,
      c.requires.room,
    ))

pub returns : goal.returns
returns c =
    more_wrote _ _ _ _ _ _ c.requires c.rows_start-start.ensures c.rows_end-end.ensures refl _ _ c.merge_values.ensures c.in-Some.is _ _ c.copy_words.ensures
