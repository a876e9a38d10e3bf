-- `wrapped_paths::grow_path` meets its contract: a head for one step more, the steps, and the field.
use Prim.Native.Nat.{◌<◌}
use native.Mathlib.Omega.{arith}
use mathlib.Core.Path.{◌≡◌, ◌∙◌}
use lib.ListN.{length, length-set, length-take}
use Rattle.wrapped_paths.specs.AttrLaws.{path_gained}
use Rattle.wrapped_paths.proofs.grow_path.Goals as goal
use Rattle.wrapped_paths.proofs.grow_path.Goals.{After-slice_known-2-1}

-- the output keeps its length, and the field has a place in it
kept : (c : After-slice_known-2-1) → length c.copy_words-last.new.out ≡ length c.args.out.now
kept c = c.copy_words-last.auto.out ∙ simp length-set

last_within : (c : After-slice_known-2-1) → c.copy_words-last.result < length c.copy_words-last.new.out
last_within c = let after = simp length-take at c.copy_words-last.ensures.after in omega (arith, kept c, c.requires)

pub copy_words-last-requires : goal.copy_words-last-requires
copy_words-last-requires c = simp (length-set, length-take) (omega arith)

pub bounds-out-last : goal.bounds-out-last
bounds-out-last c = omega (arith, last_within (goal.at.bounds-out-last c).After-slice_known-2-1)

pub shape_of-out : goal.shape_of-out
shape_of-out c = simp length-set (kept (goal.at.shape_of-out c).After-slice_known-2-1)

pub returns : goal.returns
returns c = λ path rest rooted many e. let a = c.args in path_gained a.code.now rest path a.out.now c.copy_words-last.new.out a.at a.kind a.steps a.name a.to c.copy_words-last.result c.ranges.name.fits rooted many e (rw c.word.ensures at c.copy_words-last.ensures)
