-- `store_text::runs::run_end` meets its contract: all words that were passed are of the part.
use native.Mathlib.Omega.{arith}
use mathlib.Core.Path.{◌≡◌, refl, sym, ap, ◌∙◌}
use lib.ListN.{length}
use denote.Enum.Bare.{differs_true}
use Rattle.store_text.specs.contracts.runs.Part.{the_type}
use Rattle.std.proofs.Common.{rules}
use Rattle.store_text.specs.Runs.{part_number}
use Rattle.store_text.specs.declared.runs.Part.{Part}
use Rattle.store_text.specs.declared.runs.Part.TheVariants.{Own, Parents, Ancestors, Rows}
use Rattle.store_text.specs.RunLaws.{run_none, run_stops, run_more}
use Rattle.store_text.proofs.runs.run_end.Goals as goal

-- parts with one number are one
same_number : (p q : Part) → part_number p ≡ part_number q → p ≡ q
same_number Own Own e = refl
same_number Own Parents e = absurd (omega arith)
same_number Own Ancestors e = absurd (omega arith)
same_number Own Rows e = absurd (omega arith)
same_number Parents Own e = absurd (omega arith)
same_number Parents Parents e = refl
same_number Parents Ancestors e = absurd (omega arith)
same_number Parents Rows e = absurd (omega arith)
same_number Ancestors Own e = absurd (omega arith)
same_number Ancestors Parents e = absurd (omega arith)
same_number Ancestors Ancestors e = refl
same_number Ancestors Rows e = absurd (omega arith)
same_number Rows Own e = absurd (omega arith)
same_number Rows Parents e = absurd (omega arith)
same_number Rows Ancestors e = absurd (omega arith)
same_number Rows Rows e = refl

pub returns-then-ne : goal.returns-then-ne
returns-then-ne c =
    let a = c.args in
    let other : c.part_of.result ≡ a.part → ⊥ = differs_true the_type _ _ (sym c.ne.ensures ∙ c.if-ne.true) in
    let stops = run_stops (part_number a.part) a.words.now c.loop-i.i c.loop-i-test.true (λ same. other (same_number _ _ (c.part_of.ensures ∙ same))) in
    (omega (arith, c.loop-i.invariant.1, stops), c.loop-i.invariant.0)

pub loop-i-preserved : goal.loop-i-preserved
loop-i-preserved c =
    let a = c.args in
    let same : c.part_of.result ≡ a.part = search rules in
    let more = run_more (part_number a.part) a.words.now c.loop-i.i c.loop-i-test.true (sym c.part_of.ensures ∙ ap part_number same) in
    (omega (arith, c.loop-i-test.true), omega (arith, c.loop-i.invariant.1, more))

pub returns : goal.returns
returns c =
    let a = c.args in
    let end : c.loop-i.i ≡ length a.words.now = omega (arith, c.loop-i.invariant.0, c.loop-i-test.false) in
    (omega (arith, end, c.loop-i.invariant.1, run_none (part_number a.part) a.words.now c.loop-i.i c.loop-i-test.false), omega arith)
