-- `load_begin::begin::store_begun` meets its contract: three runs that are copied.
use native.Mathlib.Omega.{arith}
use mathlib.Core.Path.{ap, ◌∙◌}
use lib.Seq.{sets}
use Rattle.words.specs.RunLaws.{wrote_length}
use Rattle.load_begin.proofs.begin.store_begun.Goals as goal

pub copy_words-requires-2 : goal.copy_words-requires-2
copy_words-requires-2 c = omega (arith, wrote_length c.copy_words.ensures, c.requires)

pub copy_words-requires-3 : goal.copy_words-requires-3
copy_words-requires-3 c =
    omega (arith, wrote_length c.copy_words.ensures, wrote_length c.copy_words-2.ensures, c.requires)

pub shape_of-state : goal.shape_of-state
shape_of-state c = wrote_length c.copy_words-3.ensures ∙ wrote_length c.copy_words-2.ensures ∙ wrote_length c.copy_words.ensures

pub returns : goal.returns
returns c =
    c.copy_words-3.ensures.text
    ∙ ap (λ l. sets l 4106 c.args.context.now) (c.copy_words-2.ensures.text ∙ ap (λ l. sets l 9 c.args.entry.now) c.copy_words.ensures.text)
