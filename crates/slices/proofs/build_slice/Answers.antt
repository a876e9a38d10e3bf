-- `slices::build_slice` meets its contract: of the entities that the keys before `from` ask for, those with an answer are written.
use native.Mathlib.Omega.{arith}
use borrow.Author.Rules.{rules}
use mathlib.Core.Path.{refl, sym, ap, ◌∙◌}
use lib.ListN.{length}
use lib.Seq.{length-take-le}
use Rattle.slices.specs.HeardLaws.{answer_some, answer_none}
use Rattle.slices.specs.GroupLaws.{sorted_many, keys_sort, keys_sorted}
use Rattle.slices.specs.BuildLaws.{fit_again, groups_none, groups_all, own_heard, groups_passed, group_counts, group_fit, groups_next}
use Rattle.slices.proofs.build_slice.Goals as goal

pub write_keys-requires : goal.write_keys-requires
write_keys-requires c = (omega (arith, c.requires.few_rows), c.requires.few_rows)

pub sort_keys-requires : goal.sort_keys-requires
sort_keys-requires c = keys_sort _ c.requires.few_rows _ c.write_keys.ensures (omega (arith, c.requires.few_rows)) c.requires.sort_room

pub slice_bounds-sorted-end : goal.slice_bounds-sorted-end
slice_bounds-sorted-end c = sym (length-take-le _ _ (search rules))

pub loop-from-init : goal.loop-from-init
loop-from-init c = (
  keys_sorted _ c.requires.few_rows _ c.write_keys.ensures (omega (arith, c.requires.few_rows)) c.sort_keys.ensures,
  refl,
  groups_none (fit_again c.requires c.sort_keys.auto.spare),
)

pub offset_bounds-sorted-from : goal.offset_bounds-sorted-from
offset_bounds-sorted-from c = omega (arith, c.loop-from-test.true, c.loop-from.invariant.1, c.requires.few_rows)

pub bounds-sorted-from : goal.bounds-sorted-from
bounds-sorted-from c = omega (arith, c.loop-from-test.true, ap length c.loop-from.invariant.0, sorted_many c.args.rows.now c.requires.few_rows, c.loop-from.invariant.1)

pub group_end-behind-requires : goal.group_end-behind-requires
group_end-behind-requires c = omega (arith, c.loop-from-test.true, ap length c.loop-from.invariant.0, sorted_many c.args.rows.now c.requires.few_rows, c.loop-from.invariant.1)

pub offset_bounds-sorted-from-in-loop-from : goal.offset_bounds-sorted-from-in-loop-from
offset_bounds-sorted-from-in-loop-from c = omega (arith, c.loop-from-test.true, c.loop-from.invariant.1, c.requires.few_rows)

pub slice_bounds-group-count : goal.slice_bounds-group-count
slice_bounds-group-count c = omega (arith, c.group_end-behind.ensures.some)

pub slice_bounds-group-start : goal.slice_bounds-group-start
slice_bounds-group-start c = omega (arith, c.group_end-behind.ensures.some)

pub slice_bounds-group-end : goal.slice_bounds-group-end
slice_bounds-group-end c = c.group_end-behind.ensures.inside

pub next_answer-requires : goal.next_answer-requires
next_answer-requires c = (rw c.loop-from.invariant.0 (own_heard (fit_again c.requires c.sort_keys.auto.spare) c.loop-from.invariant.2 (rw c.loop-from.invariant.0 at c.group_end-behind.ensures)), omega arith)

pub write_entity-end-requires : goal.write_entity-end-requires
write_entity-end-requires c =
    rw c.loop-from.invariant.0 (group_fit (fit_again c.requires c.sort_keys.auto.spare) c.loop-from.invariant.2 (rw c.loop-from.invariant.0 at c.group_end-behind.ensures) (answer_some _ _ _ _ _ (rw c.loop-from.invariant.0 at c.next_answer.ensures) (sym c.is_some.ensures ∙ c.if-is_some.true)))

pub overflow_add-count : goal.overflow_add-count
overflow_add-count c = omega (arith, group_counts (fit_again c.requires c.sort_keys.auto.spare) c.loop-from.invariant.2 (rw c.loop-from.invariant.0 at c.group_end-behind.ensures))

pub loop-from-smaller-then-is_some : goal.loop-from-smaller-then-is_some
loop-from-smaller-then-is_some c = omega (arith, c.loop-from-test.true, c.group_end-behind.ensures.some)

pub loop-from-preserved-then-is_some : goal.loop-from-preserved-then-is_some
loop-from-preserved-then-is_some c = (
  c.loop-from.invariant.0,
  c.loop-from.invariant.1,
  groups_next (fit_again c.requires c.sort_keys.auto.spare) c.loop-from.invariant.2 (rw c.loop-from.invariant.0 at c.group_end-behind.ensures) (answer_some _ _ _ _ _ (rw c.loop-from.invariant.0 at c.next_answer.ensures) (sym c.is_some.ensures ∙ c.if-is_some.true)) _ _ _ (search rules) (search rules) (rw c.loop-from.invariant.0 at c.write_entity-end.ensures),
)

pub loop-from-smaller : goal.loop-from-smaller
loop-from-smaller c = omega (arith, c.loop-from-test.true, c.group_end-behind.ensures.some)

pub loop-from-preserved : goal.loop-from-preserved
loop-from-preserved c = (
  c.loop-from.invariant.0,
  c.loop-from.invariant.1,
  groups_passed (fit_again c.requires c.sort_keys.auto.spare) c.loop-from.invariant.2 (rw c.loop-from.invariant.0 at c.group_end-behind.ensures) (answer_none _ _ _ _ _ (rw c.loop-from.invariant.0 at c.next_answer.ensures) (sym c.is_some.ensures ∙ c.if-is_some.false)),
)

pub shape_of-out : goal.shape_of-out
shape_of-out c = c.loop-from.invariant.2.built.kept

pub shape_of-scratch : goal.shape_of-scratch
shape_of-scratch c = c.loop-from.invariant.2.built.scratch_kept ∙ c.sort_keys.auto.spare

pub returns : goal.returns
returns c =
    groups_all (fit_again c.requires c.sort_keys.auto.spare) c.loop-from.invariant.2 (omega (arith, sorted_many c.args.rows.now c.requires.few_rows, c.loop-from.invariant.1, c.loop-from-test.false))
