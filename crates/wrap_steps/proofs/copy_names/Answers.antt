-- `wrap_steps::copy_names` meets its contract: the first i names are copied.
use Prim.Native.Nat.{◌<◌}
use native.Mathlib.Omega.{arith}
use mathlib.Core.Path.{◌≡◌}
use lib.ListN.{length}
use Rattle.words.specs.RunLaws.{copying_first, copying_length, copying_next, copying_all}
use Rattle.rules.proofs.StepLaws.{each_at}
use Rattle.wrap_steps.proofs.copy_names.Goals as goal

pub loop-i-init : goal.loop-i-init
loop-i-init c = copying_first _ _ _

pub overflow_cast-out : goal.overflow_cast-out
overflow_cast-out c = record { fits = each_at (λ f. f < 65536) c.args.names.now c.loop-i.i 0 c.requires.1 c.loop-i-test.true }

pub overflow_add-out : goal.overflow_add-out
overflow_add-out c = omega (arith, copying_length c.loop-i.invariant, c.requires.0)

pub offset_bounds-out-to : goal.offset_bounds-out-to
offset_bounds-out-to c = omega (arith, copying_length c.loop-i.invariant, c.requires.0)

pub bounds-out-to : goal.bounds-out-to
bounds-out-to c = omega (arith, copying_length c.loop-i.invariant, c.requires.0)

pub loop-i-preserved : goal.loop-i-preserved
loop-i-preserved c = copying_next c.loop-i.invariant c.loop-i-test.true

pub overflow_add-result : goal.overflow_add-result
overflow_add-result c = omega (arith, c.loop-i.invariant.so_many, c.requires.0)

pub shape_of-out : goal.shape_of-out
shape_of-out c = copying_length c.loop-i.invariant

pub returns : goal.returns
returns c = let end : c.loop-i.i ≡ length c.args.names.now = omega arith in rw end at (copying_all c.loop-i.invariant c.loop-i-test.false)
