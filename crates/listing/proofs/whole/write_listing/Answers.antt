-- `listing::whole::write_listing` meets its contract: each test that fails gives its refusal, and what is left is the listing of the rows.
use Prim.Native.Nat.{◌≤◌, ◌<◌}
use mathlib.Core.Bool.{true}
use mathlib.Core.Path.{◌≡◌, sym, ◌∙◌}
use native.Mathlib.Nat.{add-sub_cancel, le_trans}
use native.Mathlib.Omega.{arith}
use lib.ListN.{length, get_or}
use Rattle.rows.specs.States.{form_of, words_of, lawful_state}
use Rattle.rows.specs.StateLaws.{count_within, words_good}
use Rattle.listing.specs.Outcomes.{bytes_of}
use Rattle.listing.specs.WriteLaws.{listing_fits, text_parts, write_short_state, write_short_out, write_unlawful, write_lawful}
use Rattle.listing.proofs.whole.write_listing.Goals as goal
use Rattle.listing.proofs.whole.write_listing.Goals.{Else-not-is_lawful, Else-out-text_len, Else-state-words}

-- what the tests that were passed say
long-state : (c : Else-state-words) → let s = c.args in words_of s.kind ≤ length s.state.now
long-state c = omega (arith, c.words.ensures, c.if-state-words.false)

long-out : (c : Else-out-text_len) → let s = c.args in bytes_of s.kind ≤ length s.out.now
long-out c = omega (arith, c.text_len.ensures, c.if-out-text_len.false)

lawful : (c : Else-not-is_lawful) → let s = c.args in lawful_state (form_of s.kind) s.state.now ≡ true
lawful c = sym c.is_lawful.ensures ∙ c.if-not-is_lawful.false

-- the count lies within the state
count : (c : Else-not-is_lawful) → let s = c.args in get_or s.state.now 0 0 < length s.state.now
count c = count_within _ _ (lawful c)

pub returns-then-state-words : goal.returns-then-state-words
returns-then-state-words c = let s = c.args in text_parts (write_short_state s.kind s.state.now s.out.now (omega (arith, c.words.ensures, c.if-state-words.true)))

pub returns-then-out-text_len : goal.returns-then-out-text_len
returns-then-out-text_len c =
    let s = c.args in
    text_parts (write_short_out s.kind s.state.now s.out.now (long-state (goal.at.returns-then-out-text_len c).Else-state-words) (omega (arith, c.text_len.ensures, c.if-out-text_len.true)))

pub returns-then-not-is_lawful : goal.returns-then-not-is_lawful
returns-then-not-is_lawful c =
    let s = c.args in
    text_parts (write_unlawful s.kind s.state.now s.out.now (long-state (goal.at.returns-then-not-is_lawful c).Else-state-words) (long-out (goal.at.returns-then-not-is_lawful c).Else-out-text_len) (sym c.is_lawful.ensures ∙ c.if-not-is_lawful.true))

pub overflow_add-end : goal.overflow_add-end
overflow_add-end c = omega (arith, count (goal.at.overflow_add-end c).Else-not-is_lawful)

pub slice_bounds-write_rows-end : goal.slice_bounds-write_rows-end
slice_bounds-write_rows-end c = omega (arith, count (goal.at.slice_bounds-write_rows-end c).Else-not-is_lawful)

pub write_rows-requires : goal.write_rows-requires
write_rows-requires c =
    let s = c.args in (
      rw add-sub_cancel (words_good (form_of s.kind) s.state.now (lawful (goal.at.write_rows-requires c).Else-not-is_lawful)),
      rw add-sub_cancel (le_trans (listing_fits s.kind s.state.now (lawful (goal.at.write_rows-requires c).Else-not-is_lawful)) (long-out (goal.at.write_rows-requires c).Else-out-text_len)),
    )

pub returns : goal.returns
returns c =
    let s = c.args in
    text_parts (write_lawful s.kind s.state.now s.out.now (long-state (goal.at.returns c).Else-state-words) (long-out (goal.at.returns c).Else-out-text_len) (lawful (goal.at.returns c).Else-not-is_lawful) (simp add-sub_cancel at c.write_rows.ensures))
