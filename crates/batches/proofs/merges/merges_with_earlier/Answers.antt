-- `batches::merges::merges_with_earlier` meets its contract: the answers of the rows that were passed merge.
use native.Mathlib.Omega.{arith}
use mathlib.Core.Path.{refl, sym, ◌∙◌}
use Rattle.batches.specs.Hearings.{heard_at}
use Rattle.batches.specs.HearingLaws.{all_stand, merged_none, merged_more, merged_not, merged-all}
use Rattle.batches.proofs.merges.merges_with_earlier.Goals as goal

pub loop-i-init : goal.loop-i-init
loop-i-init c = let a = c.args in (merged_none a.words.now a.rows.now a.places.now a.id (heard_at a.words.now a.at), refl)

pub offset_bounds-places-i : goal.offset_bounds-places-i
offset_bounds-places-i c = omega (arith, c.requires.rows_len.0)

pub bounds-places-i : goal.bounds-places-i
bounds-places-i c = omega (arith, c.requires.rows_len.0)

pub agrees_if_asked-requires : goal.agrees_if_asked-requires
agrees_if_asked-requires c =
    let a = c.args in
    let (lengths, (stand, here)) = c.requires.rows_len in
    (all_stand a.words.now a.places.now c.loop-i.i stand (omega (arith, lengths)), here, omega (arith, c.requires.words_in_bounds))

pub returns-then-not-agrees_if_asked : goal.returns-then-not-agrees_if_asked
returns-then-not-agrees_if_asked c =
    let a = c.args in
    merged_not a.words.now a.rows.now a.places.now a.id (heard_at a.words.now a.at) c.loop-i.i c.loop-i.invariant.0 c.requires.rows_len.0
    (omega arith) (sym c.agrees_if_asked.ensures ∙ c.if-not-agrees_if_asked.true)

pub loop-i-preserved : goal.loop-i-preserved
loop-i-preserved c =
    let a = c.args in (
      merged_more a.words.now a.rows.now a.places.now a.id (heard_at a.words.now a.at) c.loop-i.i c.loop-i.invariant.0 c.requires.rows_len.0
          (omega arith) (sym c.agrees_if_asked.ensures ∙ c.if-not-agrees_if_asked.false),
      c.agrees_if_asked.auto.scratch ∙ c.loop-i.invariant.1,
    )

pub returns : goal.returns
returns c =
    let a = c.args in
    merged-all a.words.now a.rows.now a.places.now a.id (heard_at a.words.now a.at) c.loop-i.i c.loop-i.invariant.0 c.requires.rows_len.0 (omega arith)
