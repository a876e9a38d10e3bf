-- `manifest::unite_in_place` meets its contract: each test that fails gives its refusal.
use Prim.Native.Nat.{◌≤◌}
use mathlib.Core.Bool.{true}
use mathlib.Core.Path.{◌≡◌, sym, ◌∙◌}
use native.Mathlib.Omega.{arith}
use lib.ListN.{length}
use Rattle.rules.specs.Tries.{manifest}
use Rattle.rows.specs.States.{form_of, words_of, lawful_state}
use Rattle.words.specs.RunLaws.{by_parts}
use Rattle.manifest.specs.UniteLaws.{unite_short_m, unite_short_other, unite_unlawful_m, unite_unlawful_other, unite_lawful}
use Rattle.manifest.proofs.unite_in_place.Goals as goal
use Rattle.manifest.proofs.unite_in_place.Goals.{Else-not-is_lawful, Else-not-is_lawful-2, Else-other-words}

-- what the tests that were passed say
long-other : (c : Else-other-words) → let s = c.args in words_of s.kind ≤ length s.other.now
long-other c = omega (arith, c.words.ensures, c.if-other-words.false)

lawful-m : (c : Else-not-is_lawful) → lawful_state manifest c.args.manifest.now ≡ true
lawful-m c = sym c.is_lawful.ensures ∙ c.if-not-is_lawful.false

lawful-other : (c : Else-not-is_lawful-2) → let s = c.args in lawful_state (form_of s.kind) s.other.now ≡ true
lawful-other c = sym c.is_lawful-2.ensures ∙ c.if-not-is_lawful-2.false

pub returns-then-manifest-lt-WORDS : goal.returns-then-manifest-lt-WORDS
returns-then-manifest-lt-WORDS c = let a = c.args in by_parts (unite_short_m a.kind a.manifest.now a.other.now c.if-manifest-lt-WORDS.true)

pub returns-then-other-words : goal.returns-then-other-words
returns-then-other-words c = let a = c.args in by_parts (unite_short_other a.kind a.manifest.now a.other.now c.if-manifest-lt-WORDS.false (omega (arith, c.words.ensures, c.if-other-words.true)))

pub returns-then-not-is_lawful : goal.returns-then-not-is_lawful
returns-then-not-is_lawful c = let a = c.args in by_parts (unite_unlawful_m a.kind a.manifest.now a.other.now c.if-manifest-lt-WORDS.false (long-other (goal.at.returns-then-not-is_lawful c).Else-other-words) (sym c.is_lawful.ensures ∙ c.if-not-is_lawful.true))

pub returns-then-not-is_lawful-2 : goal.returns-then-not-is_lawful-2
returns-then-not-is_lawful-2 c = let a = c.args in by_parts (unite_unlawful_other a.kind a.manifest.now a.other.now c.if-manifest-lt-WORDS.false (long-other (goal.at.returns-then-not-is_lawful-2 c).Else-other-words) (lawful-m (goal.at.returns-then-not-is_lawful-2 c).Else-not-is_lawful) (sym c.is_lawful-2.ensures ∙ c.if-not-is_lawful-2.true))

pub returns : goal.returns
returns c =
    let a = c.args in
    let e = by_parts (unite_lawful a.kind a.manifest.now a.other.now c.if-manifest-lt-WORDS.false (long-other (goal.at.returns c).Else-other-words) (lawful-m (goal.at.returns c).Else-not-is_lawful) (lawful-other (goal.at.returns c).Else-not-is_lawful-2)) in
    (c.unite_lawful.ensures.0 ∙ e.0, c.unite_lawful.ensures.1 ∙ e.1)
