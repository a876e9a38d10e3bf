-- `entries::trips::trip_bound` meets its contract: each test that fails gives its refusal, and what is left is the bound of the rows.
use Prim.Native.Nat.{◌^◌, ◌≤◌, ◌<◌}
use native.Mathlib.Nat.{add-sub_cancel}
use native.Mathlib.Omega.{arith}
use mathlib.Core.Bool.{true}
use mathlib.Core.Path.{◌≡◌, sym, ◌∙◌, ap}
use borrow.Author.Tests.{lt-ltb, le-ltb}
use lib.ListN.{length, get_or}
use Rattle.rules.specs.Tries.{manifest}
use Rattle.rows.specs.States.{lawful_state}
use Rattle.rows.specs.StateLaws.{count_within, rows_ordered}
use Rattle.entries.specs.BoundLaws.{bound_short, bound_unlawful, bound_lawful}
use Rattle.std.specs.Prelude.{Ok}
use Rattle.entries.proofs.trips.trip_bound.Goals as goal
use Rattle.entries.proofs.trips.trip_bound.Goals.{Else-manifest-words, Else-not-is_lawful}

-- what the tests that were passed say
long : (c : Else-manifest-words) → 4161 ≤ length c.args.manifest.now
long c = omega (arith, c.words.ensures, c.if-manifest-words.false)

lawful-state : (c : Else-not-is_lawful) → lawful_state manifest c.args.manifest.now ≡ true
lawful-state c = sym c.is_lawful.ensures ∙ c.if-not-is_lawful.false

count-in : (c : Else-not-is_lawful) → get_or c.args.manifest.now 0 0 < length c.args.manifest.now
count-in c = count_within _ _ ((let lawful-state-here : lawful_state manifest c.args.manifest.now ≡ true = sym c.is_lawful.ensures ∙ c.if-not-is_lawful.false in lawful-state-here))

pub returns-then-manifest-words : goal.returns-then-manifest-words
returns-then-manifest-words c = sym (bound_short _ _ (omega (arith, c.words.ensures, c.if-manifest-words.true)))

pub returns-then-not-is_lawful : goal.returns-then-not-is_lawful
returns-then-not-is_lawful c =
    let a = c.args in
    sym (bound_unlawful a.manifest.now a.request (long (goal.at.returns-then-not-is_lawful c).Else-manifest-words) (rw (sym c.is_lawful.ensures ∙ c.if-not-is_lawful.true)))

pub returns-then-request-ge281474976710656 : goal.returns-then-request-ge281474976710656
returns-then-request-ge281474976710656 c =
    sym (bound_unlawful _ _ (long (goal.at.returns-then-request-ge281474976710656 c).Else-manifest-words) (rw (lawful-state (goal.at.returns-then-request-ge281474976710656 c).Else-not-is_lawful, le-ltb _ (2 ^ 48) c.if-request-ge281474976710656.true)))

pub overflow_add-end : goal.overflow_add-end
overflow_add-end c = omega (arith, count-in (goal.at.overflow_add-end c).Else-not-is_lawful)

pub slice_bounds-bound_in-end : goal.slice_bounds-bound_in-end
slice_bounds-bound_in-end c = omega (arith, count-in (goal.at.slice_bounds-bound_in-end c).Else-not-is_lawful)

pub bound_in-requires : goal.bound_in-requires
bound_in-requires c = rw add-sub_cancel (rows_ordered _ _ (lawful-state (goal.at.bound_in-requires c).Else-not-is_lawful))

pub returns : goal.returns
returns c =
    let bound = simp add-sub_cancel at c.bound_in.ensures in
    ap Ok bound
    ∙ sym (bound_lawful _ _ (long (goal.at.returns c).Else-manifest-words) (rw (lawful-state (goal.at.returns c).Else-not-is_lawful, lt-ltb _ (2 ^ 48) c.if-request-ge281474976710656.false)))
