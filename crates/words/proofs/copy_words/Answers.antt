-- `words::copy_words` meets its contract: the first i items are copied.
use mathlib.Core.Path.{◌≡◌, sym}
use native.Mathlib.Omega.{arith}
use lib.ListN.{length}
use Rattle.words.specs.RunLaws.{copying_first, copying_item, copying_all}
use Rattle.words.proofs.copy_words.Goals as goal

pub loop-i-init : goal.loop-i-init
loop-i-init g c = copying_first _ _ _

pub loop-i-preserved : goal.loop-i-preserved
loop-i-preserved g c = rw (sym c.index-words-i.is) at (copying_item c.loop-i.invariant c.index-words-i.result c.loop-i-test.true)

pub returns : goal.returns
returns g c =
    let end : c.loop-i.i ≡ length c.args.words.now = omega (arith, c.loop-i-test.false, c.loop-i.auto.i-end) in
    rw end at (copying_all c.loop-i.invariant c.loop-i-test.false)
