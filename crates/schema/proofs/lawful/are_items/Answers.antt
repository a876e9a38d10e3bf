-- `schema::lawful::are_items` meets its contract: the words that are passed say lines that may stand one after the other.
use mathlib.Core.Path.{◌≡◌, sym, ◌∙◌}
use Rattle.rules.specs.Schema.{fits}
use Rattle.schema.specs.Bounds.{known_for}
use Rattle.schema.specs.Items.{item_for, is_item}
use Rattle.schema.specs.ItemLaws.{judged_none, judged_all, judged_bad, judged_stray, judged_next, item_key}
use mathlib.Core.Bool.{true}
use Rattle.schema.proofs.lawful.are_items.Goals as goal
use Rattle.schema.proofs.lawful.are_items.Goals.{Else-not-fits, Else-not-is_item}

pub loop-word-init : goal.loop-word-init
loop-word-init c = rw c.new-known.ensures (judged_none c.args.words.now)

pub returns-then-not-is_item : goal.returns-then-not-is_item
returns-then-not-is_item c =
    sym (judged_bad c.loop-word.invariant c.loop-word-test.true c.from-item.ensures (sym c.is_item.ensures ∙ c.if-not-is_item.true))

-- past the first test the word says an item, past the second it may stand there
an_item : (c : Else-not-is_item) → is_item (item_for c.from-item.result) ≡ true
an_item c = sym c.is_item.ensures ∙ c.if-not-is_item.false

may-follow :
    (c : Else-not-fits) →
    fits (known_for c.loop-word.known) (item_for c.from-item.result) ≡ true
may-follow c = sym c.fits.ensures ∙ c.if-not-fits.false

pub returns-then-not-fits : goal.returns-then-not-fits
returns-then-not-fits c =
    sym (judged_stray c.loop-word.invariant c.loop-word-test.true c.from-item.ensures (an_item (goal.at.returns-then-not-fits c).Else-not-is_item) (sym c.fits.ensures ∙ c.if-not-fits.true))

pub beyond-known-requires : goal.beyond-known-requires
beyond-known-requires c =
    let it = item_for c.from-item.result in
    record { item_value = may-follow (goal.at.beyond-known-requires c).Else-not-fits; bounded = (c.loop-word.invariant.bounded, item_key it (an_item (goal.at.beyond-known-requires c).Else-not-is_item)) }

pub loop-word-preserved : goal.loop-word-preserved
loop-word-preserved c =
    rw c.beyond-known.ensures.result_value
    (judged_next c.loop-word.invariant c.loop-word-test.true c.from-item.ensures (an_item (goal.at.loop-word-preserved c).Else-not-is_item) (may-follow (goal.at.loop-word-preserved c).Else-not-fits))

pub returns : goal.returns
returns c = sym (judged_all c.loop-word.invariant c.loop-word-test.false)
