-- `union::union` meets its contract: each test that fails gives its refusal, and what is left is the union of the rows.
use mathlib.Core.Logic.{inl}
use Prim.Native.Nat.{◌≤◌, ◌<◌}
use mathlib.Core.Bool.{true}
use mathlib.Core.Path.{◌≡◌, sym, ◌∙◌}
use native.Mathlib.Nat.{add-sub_cancel}
use native.Mathlib.Omega.{arith}
use lib.ListN.{length, get_or}
use Rattle.rows.specs.States.{form_of, words_of, lawful_state}
use Rattle.words.specs.RunLaws.{by_parts}
use Rattle.rows.specs.StateLaws.{count_within, words_good}
use Rattle.union.specs.UnionLaws.{union_short_a, union_short_b, union_short_out, union_unlawful_a, union_unlawful_b, union_lawful}
use Rattle.union.proofs.union.Goals as goal
use Rattle.union.proofs.union.Goals.{Else-a-words, Else-b-words, Else-not-is_lawful, Else-not-is_lawful-2, Else-out-words}

-- what the tests that were passed say
long-a : (c : Else-a-words) → let s = c.args in words_of s.kind ≤ length s.a.now
long-a c = omega (arith, c.words-words.ensures, c.if-a-words.false)

long-b : (c : Else-b-words) → let s = c.args in words_of s.kind ≤ length s.b.now
long-b c = omega (arith, c.words-words.ensures, c.if-b-words.false)

long-out : (c : Else-out-words) → let s = c.args in words_of s.kind ≤ length s.out.now
long-out c = omega (arith, c.words-words.ensures, c.if-out-words.false)

lawful-a : (c : Else-not-is_lawful) → let s = c.args in lawful_state (form_of s.kind) s.a.now ≡ true
lawful-a c = sym c.is_lawful.ensures ∙ c.if-not-is_lawful.false

lawful-b : (c : Else-not-is_lawful-2) → let s = c.args in lawful_state (form_of s.kind) s.b.now ≡ true
lawful-b c = sym c.is_lawful-2.ensures ∙ c.if-not-is_lawful-2.false

-- the counts lie within the states
count-a : (c : Else-not-is_lawful-2) → (let s = c.args in lawful_state (form_of s.kind) s.a.now ≡ true) → let s = c.args in get_or s.a.now 0 0 < length s.a.now
count-a c lawful-a-here = count_within _ _ lawful-a-here

count-b : (c : Else-not-is_lawful-2) → let s = c.args in get_or s.b.now 0 0 < length s.b.now
count-b c = count_within _ _ (lawful-b c)

pub returns-then-a-words : goal.returns-then-a-words
returns-then-a-words c = let s = c.args in by_parts (union_short_a s.kind s.a.now s.b.now s.out.now (omega (arith, c.words-words.ensures, c.if-a-words.true)))

pub returns-then-b-words : goal.returns-then-b-words
returns-then-b-words c = let s = c.args in by_parts (union_short_b s.kind s.a.now s.b.now s.out.now (long-a (goal.at.returns-then-b-words c).Else-a-words) (omega (arith, c.words-words.ensures, c.if-b-words.true)))

pub returns-then-out-words : goal.returns-then-out-words
returns-then-out-words c = let s = c.args in by_parts (union_short_out s.kind s.a.now s.b.now s.out.now (long-a (goal.at.returns-then-out-words c).Else-a-words) (long-b (goal.at.returns-then-out-words c).Else-b-words) (omega (arith, c.words-words.ensures, c.if-out-words.true)))

pub returns-then-not-is_lawful : goal.returns-then-not-is_lawful
returns-then-not-is_lawful c = let s = c.args in by_parts (union_unlawful_a s.kind s.a.now s.b.now s.out.now (long-a (goal.at.returns-then-not-is_lawful c).Else-a-words) (long-b (goal.at.returns-then-not-is_lawful c).Else-b-words) (long-out (goal.at.returns-then-not-is_lawful c).Else-out-words) (sym c.is_lawful.ensures ∙ c.if-not-is_lawful.true))

pub returns-then-not-is_lawful-2 : goal.returns-then-not-is_lawful-2
returns-then-not-is_lawful-2 c = let s = c.args in by_parts (union_unlawful_b s.kind s.a.now s.b.now s.out.now (long-a (goal.at.returns-then-not-is_lawful-2 c).Else-a-words) (long-b (goal.at.returns-then-not-is_lawful-2 c).Else-b-words) (long-out (goal.at.returns-then-not-is_lawful-2 c).Else-out-words) (lawful-a (goal.at.returns-then-not-is_lawful-2 c).Else-not-is_lawful) (sym c.is_lawful-2.ensures ∙ c.if-not-is_lawful-2.true))

pub bounds-a-0 : goal.bounds-a-0
bounds-a-0 c = omega (arith, count-a (goal.at.bounds-a-0 c).Else-not-is_lawful-2 (lawful-a (goal.at.bounds-a-0 c).Else-not-is_lawful))

pub overflow_add-a_end : goal.overflow_add-a_end
overflow_add-a_end c = omega (arith, count-a (goal.at.overflow_add-a_end c).Else-not-is_lawful-2 (lawful-a (goal.at.overflow_add-a_end c).Else-not-is_lawful))

pub bounds-b-0 : goal.bounds-b-0
bounds-b-0 c = omega (arith, count-b (goal.at.bounds-b-0 c).Else-not-is_lawful-2)

pub overflow_add-b_end : goal.overflow_add-b_end
overflow_add-b_end c = omega (arith, count-b (goal.at.overflow_add-b_end c).Else-not-is_lawful-2)

pub slice_bounds-union_rows-end : goal.slice_bounds-union_rows-end
slice_bounds-union_rows-end c = omega (arith, count-a (goal.at.slice_bounds-union_rows-end c).Else-not-is_lawful-2 (lawful-a (goal.at.slice_bounds-union_rows-end c).Else-not-is_lawful))

pub slice_bounds-union_rows-end-2 : goal.slice_bounds-union_rows-end-2
slice_bounds-union_rows-end-2 c = omega (arith, count-b (goal.at.slice_bounds-union_rows-end-2 c).Else-not-is_lawful-2)

pub union_rows-requires : goal.union_rows-requires
union_rows-requires c = (rw add-sub_cancel (words_good _ _ (lawful-a (goal.at.union_rows-requires c).Else-not-is_lawful)), rw add-sub_cancel (words_good _ _ (lawful-b (goal.at.union_rows-requires c).Else-not-is_lawful-2)), inl (long-out (goal.at.union_rows-requires c).Else-out-words))

pub returns : goal.returns
returns c =
    let s = c.args in
    let e = by_parts (union_lawful s.kind s.a.now s.b.now s.out.now (long-a (goal.at.returns c).Else-a-words) (long-b (goal.at.returns c).Else-b-words) (long-out (goal.at.returns c).Else-out-words) (lawful-a (goal.at.returns c).Else-not-is_lawful) (lawful-b (goal.at.returns c).Else-not-is_lawful-2)) in
    let stored = simp add-sub_cancel at c.union_rows.ensures in
    (stored.0 ∙ e.0, stored.1 ∙ e.1)
