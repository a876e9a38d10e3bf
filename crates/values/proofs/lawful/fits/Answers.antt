-- `values::lawful::fits` meets its contract: by whether the level is of a set. Assumes nothing.
use native.Mathlib.Omega.{arith}
use mathlib.Core.Path.{◌∙◌}
use Rattle.values.specs.LawfulLaws.{fits_record, fits_other, fits_set}
use Rattle.values.proofs.lawful.fits.Goals as goal

pub returns-then-level-eq0 : goal.returns-then-level-eq0
returns-then-level-eq0 c =
    rw c.key.ensures (fits_record c.args.words.now c.args.at c.args.level c.if-level-eq0.true)

pub returns-then-key-least : goal.returns-then-key-least
returns-then-key-least c =
    fits_other c.args.words.now c.args.at c.args.level c.if-level-eq0.false
    (λ e. c.if-key-least.true (c.key-2.ensures ∙ e))

pub returns : goal.returns
returns c =
    c.is_ahead.ensures
    ∙ fits_set c.args.words.now c.args.at c.args.level c.if-level-eq0.false (omega arith)
