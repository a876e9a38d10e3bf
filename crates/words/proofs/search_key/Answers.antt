-- `words::search_key` meets its contract: the words that are passed have lower keys.
use native.Mathlib.Omega.{arith}
use mathlib.Core.Path.{◌≡◌, sym, ◌∙◌}
use Rattle.words.specs.KeyLaws.{sought_all, sought_found, sought_missing, sought_next}
use lib.ListN.{length, get_or}
use Rattle.words.specs.Keys.{key_in}
use Rattle.words.proofs.search_key.Goals as goal
use Rattle.words.proofs.search_key.Goals.{After-key_of-there}

-- the key of the next word
there :
    (c : After-key_of-there) →
    c.key_of-there.result ≡ key_in (get_or c.args.words.now c.loop-i.i 0)
there c = c.key_of-there.ensures

pub returns-then-there-key : goal.returns-then-there-key
returns-then-there-key c =
    sought_found c.loop-i.invariant c.loop-i-test.true (sym (there (goal.at.returns-then-there-key c).After-key_of-there) ∙ c.if-there-key.true)

pub returns-then-key-there : goal.returns-then-key-there
returns-then-key-there c =
    sought_missing c.loop-i.invariant c.loop-i-test.true (λ e. c.if-there-key.false (there (goal.at.returns-then-key-there c).After-key_of-there ∙ e)) (omega (arith, there (goal.at.returns-then-key-there c).After-key_of-there))

pub loop-i-preserved : goal.loop-i-preserved
loop-i-preserved c =
    sought_next c.loop-i.invariant c.loop-i-test.true (λ e. c.if-there-key.false (there (goal.at.loop-i-preserved c).After-key_of-there ∙ e)) (omega (arith, there (goal.at.loop-i-preserved c).After-key_of-there))

pub returns : goal.returns
returns c =
    let end : c.loop-i.i ≡ length c.args.words.now = omega arith in
    rw end at (sought_all c.loop-i.invariant c.loop-i-test.false)
