-- `slices::entity::Group::write_entity` meets its contract: its parents, its rows behind them, and its head in front.
use Prim.Native.Nat.{◌<◌, ◌^◌}
use native.Mathlib.Omega.{arith}
use lib.ListN.{length, length-set}
use borrow.Author.Rules.{rules}
use Rattle.slices.specs.EntityLaws.{entity_parents, entity_rows, parents_small, size_small, entity_inside, entity_written}
use Rattle.slices.proofs.entity.Group.write_entity.Goals as goal
use Rattle.slices.proofs.entity.Group.write_entity.Goals.{After-slice_known-4-1, After-slice_known-6-1}

small-parents : (c : After-slice_known-4-1) → c.write_parents-parents.result < 2 ^ 16
small-parents c =
    parents_small c.requires
    _ _ c.write_parents-parents.ensures

small_size : (c : After-slice_known-6-1) → c.write_rows-size.result < 2 ^ 16
small_size c =
    size_small c.requires _ _ c.write_parents-parents.ensures _ _ c.write_rows-size.ensures.wrote c.write_rows-size.ensures.upper_bound

-- the head goes inside the output
inside : (c : After-slice_known-6-1)
    → c.args.to < length c.write_rows-size.new.out
inside c =
    entity_inside c.requires _ _ c.write_parents-parents.ensures _ _ c.write_rows-size.ensures.wrote c.write_rows-size.ensures.upper_bound

pub write_parents-parents-requires : goal.write_parents-parents-requires
write_parents-parents-requires c = entity_parents c.requires

pub overflow_add-from : goal.overflow_add-from
overflow_add-from c =
    omega (
      arith,
      small-parents (goal.at.overflow_add-from c).After-slice_known-4-1,
      c.requires.room,
      c.well_formed,
    )

pub write_rows-size-requires : goal.write_rows-size-requires
write_rows-size-requires c =
    entity_rows c.requires _ _ c.write_parents-parents.ensures _ (search rules)

pub word-requires : goal.word-requires
word-requires c = (
  omega (arith, c.requires.id),
  omega (arith, small-parents (goal.at.word-requires c).After-slice_known-4-1),
  omega (arith, small_size (goal.at.word-requires c).After-slice_known-6-1),
)

pub offset_bounds-out-to : goal.offset_bounds-out-to
offset_bounds-out-to c = omega (arith, inside (goal.at.offset_bounds-out-to c).After-slice_known-6-1)

pub bounds-out-to : goal.bounds-out-to
bounds-out-to c = inside (goal.at.bounds-out-to c).After-slice_known-6-1

pub overflow_add-result : goal.overflow_add-result
overflow_add-result c =
    omega (
      arith,
      small-parents (goal.at.overflow_add-result c).After-slice_known-4-1,
      small_size (goal.at.overflow_add-result c).After-slice_known-6-1,
      c.requires.room,
      c.well_formed,
    )

pub shape_of-out : goal.shape_of-out
shape_of-out c = simp length-set (search rules)

pub returns : goal.returns
returns c =
    rw c.word.ensures
    (entity_written c.requires _ _ c.write_parents-parents.ensures _ _ c.write_rows-size.ensures.wrote c.write_rows-size.ensures.upper_bound)
