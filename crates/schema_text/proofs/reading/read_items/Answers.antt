-- `schema_text::reading::read_items` meets its contract: the lines that were passed came to the items whose words are stored, or only judged.
use native.Mathlib.Omega.{arith}
use mathlib.Core.Path.{◌≡◌, ◌∙◌}
use Prim.Native.Nat.{ℕ, ◌≤◌, ◌<◌}
use lib.ListN.{length}
use Rattle.text.specs.declared.Line.TheVariants.{Whole}
use Rattle.text.proofs.Laws.{whole_within}
use Rattle.schema_text.specs.ReadLaws.{items_all, reading_cut, items_stopped, items_next}
use Rattle.std.proofs.lemmas.Result.{err_from_is_err_and}
use Rattle.words.specs.Replies.{refusal}
use Rattle.schema_text.proofs.reading.read_items.Goals as goal
use Rattle.schema_text.proofs.reading.read_items.Goals.{In-Whole}

-- the LF that was found stands in the text
within : (c : In-Whole) → (c.loop-at.at ≤ c.in-Whole.end) × (c.in-Whole.end < length c.args.text.now)
within c = whole_within _ _ _ _ c.at.ensures c.in-Whole.is

pub returns-in_default : goal.returns-in_default
returns-in_default c =
    let unended : (end : ℕ) → c.at.result ≡ Whole end → ⊥ = c.in_default.not-Whole in
    reading_cut c.loop-at.invariant.0 c.at.ensures unended c.loop-at-test.true

pub slice_bounds-take_line-end : goal.slice_bounds-take_line-end
slice_bounds-take_line-end c = omega (arith, within (goal.at.slice_bounds-take_line-end c).In-Whole)

pub returns-in_err-known : goal.returns-in_err-known
returns-in_err-known c =
    let handed = err_from_is_err_and c.from_residual.result c.from_residual.ensures.1 in
    let given = rw c.in_err-known.ensures.ok_part at c.in_err-known.ensures.value in
    let same : c.in_err-known.field-0.0 ≡ refusal 1 c.loop-at.count = cc in
    rw (handed.1, handed.2, same)
    (items_stopped c.loop-at.invariant.0 c.at.ensures c.in-Whole.is (rw c.in_err-known.ensures.ok_part at c.take_line.ensures))

pub loop-at-preserved : goal.loop-at-preserved
loop-at-preserved c =
    let (reading, kept) = c.loop-at.invariant in
    let passed = rw c.in_ok-known.ensures.ok_part at c.take_line.ensures in
    (items_next reading c.at.ensures c.in-Whole.is passed, c.take_line.auto.out ∙ kept)

pub returns : goal.returns
returns c = items_all c.loop-at.invariant.0 c.loop-at-test.false
