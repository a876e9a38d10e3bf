-- `schema_text::reading::take_line` meets its contract: the line's item, where it may come next, is passed: its word goes behind the others.
use native.Mathlib.Omega.{arith}
use mathlib.Core.Path.{◌≡◌, sym, ap, ◌∙◌}
use mathlib.Core.Option.{some}
use mathlib.Core.Bool.{true}
use Rattle.rules.specs.Text.{fields_of}
use Rattle.rules.specs.Schema.{item_of, fits}
use Rattle.schema.specs.Items.{item_for}
use Rattle.schema_text.specs.Fields.{item_read}
use Rattle.schema.specs.Bounds.{known_for}
use Rattle.schema_text.specs.ReadLaws.{item_fits, item_passed}
use Rattle.schema_text.proofs.reading.take_line.Goals as goal
use Rattle.schema_text.proofs.reading.take_line.Goals.{Else-not-fits, In_ok-item}

-- the item that the line was read as
item-read : (c : In_ok-item) → item_of (fields_of c.args.line.now) ≡ some (item_for c.in_ok-item.item)
item-read c = sym c.parse.ensures ∙ ap item_read c.in_ok-item.was

-- past the second test it may come next
may-follow : (c : Else-not-fits) → fits (known_for c.args.known) (item_for c.in_ok-item.item) ≡ true
may-follow c = sym c.fits.ensures ∙ c.if-not-fits.false

pub word-requires : goal.word-requires
word-requires c = omega (arith, item_fits _ _ (item-read (goal.at.word-requires c).In_ok-item))

pub beyond-requires : goal.beyond-requires
beyond-requires c = record { item_value = may-follow (goal.at.beyond-requires c).Else-not-fits; bounded = (c.requires.bounded, (item_fits _ _ (item-read (goal.at.beyond-requires c).In_ok-item)).2) }

pub returns : goal.returns
returns c =
    item_passed c.args.count c.args.known c.args.line.now c.args.stores c.args.out.now (item_for c.in_ok-item.item) c.requires (item-read (goal.at.returns c).In_ok-item) (may-follow (goal.at.returns c).Else-not-fits)
    c.word.ensures c.keep_word.ensures c.beyond.ensures.result_value c.beyond.ensures.bounded_2
