-- `rows::place::has` meets its contract: each test that fails gives its refusal, and what is left is the search in the state's rows.
use Prim.Native.Nat.{◌≤◌, ◌<◌}
use mathlib.Core.Bool.{true}
use mathlib.Core.Path.{◌≡◌, sym, ap, ◌∙◌}
use Rattle.std.specs.Prelude.{Ok}
use native.Mathlib.Nat.{add-sub_cancel}
use native.Mathlib.Omega.{arith}
use lib.ListN.{length, get_or}
use Rattle.rows.specs.States.{form_of, words_of, lawful_state}
use Rattle.rows.specs.StateLaws.{count_within, rows_ordered, has_short, has_unlawful, has_lawful}
use Rattle.rows.proofs.place.has.Goals as goal
use Rattle.rows.proofs.place.has.Goals.{Else-not-is_lawful, Else-state-words}

-- what the tests that were passed say
long : (c : Else-state-words) → let s = c.args in words_of s.kind ≤ length s.state.now
long c = omega (arith, c.words.ensures, c.if-state-words.false)

lawful-state : (c : Else-not-is_lawful) → let s = c.args in lawful_state (form_of s.kind) s.state.now ≡ true
lawful-state c = sym c.is_lawful.ensures ∙ c.if-not-is_lawful.false

count-in : (c : Else-not-is_lawful) → let s = c.args in get_or s.state.now 0 0 < length s.state.now
count-in c = count_within _ _ (lawful-state c)

pub returns-then-state-words : goal.returns-then-state-words
returns-then-state-words c = sym (has_short _ _ _ (omega (arith, c.words.ensures, c.if-state-words.true)))

pub returns-then-not-is_lawful : goal.returns-then-not-is_lawful
returns-then-not-is_lawful c = sym (has_unlawful _ _ _ (long (goal.at.returns-then-not-is_lawful c).Else-state-words) (sym c.is_lawful.ensures ∙ c.if-not-is_lawful.true))

pub overflow_add-end : goal.overflow_add-end
overflow_add-end c = omega (arith, count-in (goal.at.overflow_add-end c).Else-not-is_lawful)

pub slice_bounds-find-end : goal.slice_bounds-find-end
slice_bounds-find-end c = omega (arith, count-in (goal.at.slice_bounds-find-end c).Else-not-is_lawful)

pub find-requires : goal.find-requires
find-requires c = rw add-sub_cancel (rows_ordered _ _ (lawful-state (goal.at.find-requires c).Else-not-is_lawful))

pub returns : goal.returns
returns c =
    let searched = simp add-sub_cancel at c.find.ensures in
    ap Ok searched ∙ sym (has_lawful _ _ _ (long (goal.at.returns c).Else-state-words) (lawful-state (goal.at.returns c).Else-not-is_lawful))
