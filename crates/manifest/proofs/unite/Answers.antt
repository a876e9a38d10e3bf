-- `manifest::unite` meets its contract: the parts that it passes on are the rows of the two states.
use mathlib.Core.Logic.{inl}
use Prim.Native.Nat.{◌<◌}
use native.Mathlib.Nat.{add-sub_cancel}
use native.Mathlib.Omega.{arith}
use lib.ListN.{length, get_or}
use Rattle.rows.specs.StateLaws.{count_within, words_good}
use Rattle.manifest.proofs.unite.Goals as goal
use Rattle.manifest.proofs.unite.Goals.{Start}

-- the counts lie within the states
manifest-count : (c : Start) → get_or c.args.manifest.now 0 0 < length c.args.manifest.now
manifest-count c = count_within _ _ c.requires.0

other-count : (c : Start) → get_or c.args.other.now 0 0 < length c.args.other.now
other-count c = count_within _ _ c.requires.1.1

pub bounds-manifest-0 : goal.bounds-manifest-0
bounds-manifest-0 c = omega (arith, manifest-count (goal.at.bounds-manifest-0 c).Start)

pub overflow_add-manifest_end : goal.overflow_add-manifest_end
overflow_add-manifest_end c = omega (arith, manifest-count (goal.at.overflow_add-manifest_end c).Start)

pub bounds-other-0 : goal.bounds-other-0
bounds-other-0 c = omega (arith, other-count (goal.at.bounds-other-0 c).Start)

pub overflow_add-other_end : goal.overflow_add-other_end
overflow_add-other_end c = omega (arith, other-count (goal.at.overflow_add-other_end c).Start)

pub slice_bounds-union_rows-end : goal.slice_bounds-union_rows-end
slice_bounds-union_rows-end c = omega (arith, manifest-count (goal.at.slice_bounds-union_rows-end c).Start)

pub slice_bounds-union_rows-end-2 : goal.slice_bounds-union_rows-end-2
slice_bounds-union_rows-end-2 c = omega (arith, other-count (goal.at.slice_bounds-union_rows-end-2 c).Start)

pub union_rows-requires : goal.union_rows-requires
union_rows-requires c = (rw add-sub_cancel (words_good _ _ c.requires.0), rw add-sub_cancel (words_good _ _ c.requires.1.1), inl c.requires.2)

pub returns : goal.returns
returns c = simp add-sub_cancel at c.union_rows.ensures
