-- `analysis::analyse` meets its contract: each test that fails gives its refusal, and what is left is what the text gives.
use Prim.Native.Nat.{◌^◌, ◌≤◌, ◌<◌}
use mathlib.Core.Bool.{true}
use mathlib.Core.Path.{◌≡◌, sym, ◌∙◌}
use native.Mathlib.Nat.{add-sub_cancel}
use native.Mathlib.Omega.{arith}
use borrow.Author.Tests.{lt-ltb, le-ltb}
use lib.ListN.{length, get_or, take, drop, length-drop}
use lib.Seq.{length-take-le}
use lib.Dec.{ltb}
use Rattle.words.specs.RunLaws.{by_parts}
use Rattle.schema.specs.Items.{lawful_schema, items_in}
use Rattle.rules.specs.Steps.{analyse}
use Rattle.analysis.specs.Outcomes.{analyse_in}
use Rattle.analysis.specs.AnswerLaws.{short_schema, short_out, unlawful_schema, unlawful_else, all_lawful}
use Rattle.schema.specs.ItemLaws.{lawful_count, lawful-items}
use Rattle.analysis.proofs.analyse.Goals as goal
use Rattle.analysis.proofs.analyse.Goals.{After-shared_slice_known-3-1, Else-not-is_lawful, Else-out-words, Else-request-gt-LAST_REQUEST, Else-schema-lt-WORDS}

-- what the tests that were passed say
long : (c : Else-schema-lt-WORDS) → 142337 ≤ length c.args.schema.now
long c = omega (arith, c.if-schema-lt-WORDS.false)

room : (c : Else-out-words) → 1026 ≤ length c.args.out.now
room c = omega (arith, c.words.ensures, c.if-out-words.false)

lawful : (c : Else-not-is_lawful) → lawful_schema c.args.schema.now ≡ true
lawful c = sym c.is_lawful.ensures ∙ c.if-not-is_lawful.false

request : (c : Else-request-gt-LAST_REQUEST) → c.args.request < 2 ^ 48
request c = omega (arith, c.if-request-gt-LAST_REQUEST.false)

-- the count lies within the schema
counted : (c : After-shared_slice_known-3-1) → (lawful_schema c.args.schema.now ≡ true) → (142337 ≤ length c.args.schema.now) → (get_or c.args.schema.now 0 0 < 142337) × (142337 ≤ length c.args.schema.now)
counted c lawful-here long-here = (lawful_count _ lawful-here, long-here)

pub returns-then-schema-lt-WORDS : goal.returns-then-schema-lt-WORDS
unfolding analyse_in
returns-then-schema-lt-WORDS c =
    let s = c.args in
    by_parts (short_schema s.schema.now 1026 (ltb s.request (2 ^ 48)) s.out.now (analyse (items_in s.schema.now) s.request s.text.now) (omega (arith, c.if-schema-lt-WORDS.true)))

pub returns-then-out-words : goal.returns-then-out-words
unfolding analyse_in
returns-then-out-words c =
    let s = c.args in
    by_parts (short_out s.schema.now 1026 (ltb s.request (2 ^ 48)) s.out.now (analyse (items_in s.schema.now) s.request s.text.now) (long (goal.at.returns-then-out-words c).Else-schema-lt-WORDS) (omega (arith, c.words.ensures, c.if-out-words.true)))

pub returns-then-not-is_lawful : goal.returns-then-not-is_lawful
unfolding analyse_in
returns-then-not-is_lawful c =
    let s = c.args in
    by_parts (unlawful_schema s.schema.now 1026 (ltb s.request (2 ^ 48)) s.out.now (analyse (items_in s.schema.now) s.request s.text.now) (long (goal.at.returns-then-not-is_lawful c).Else-schema-lt-WORDS) (room (goal.at.returns-then-not-is_lawful c).Else-out-words) (sym c.is_lawful.ensures ∙ c.if-not-is_lawful.true))

pub returns-then-request-gt-LAST_REQUEST : goal.returns-then-request-gt-LAST_REQUEST
unfolding analyse_in
returns-then-request-gt-LAST_REQUEST c =
    let s = c.args in
    by_parts (unlawful_else s.schema.now 1026 (ltb s.request (2 ^ 48)) s.out.now (analyse (items_in s.schema.now) s.request s.text.now) (long (goal.at.returns-then-request-gt-LAST_REQUEST c).Else-schema-lt-WORDS) (room (goal.at.returns-then-request-gt-LAST_REQUEST c).Else-out-words) (lawful (goal.at.returns-then-request-gt-LAST_REQUEST c).Else-not-is_lawful) (le-ltb s.request (2 ^ 48) (omega (arith, c.if-request-gt-LAST_REQUEST.true))))

pub overflow_add-end : goal.overflow_add-end
overflow_add-end c = omega (arith, counted (goal.at.overflow_add-end c).After-shared_slice_known-3-1 (lawful (goal.at.overflow_add-end c).Else-not-is_lawful) (long (goal.at.overflow_add-end c).Else-schema-lt-WORDS))

pub slice_bounds-answer-end : goal.slice_bounds-answer-end
slice_bounds-answer-end c = omega (arith, counted (goal.at.slice_bounds-answer-end c).After-shared_slice_known-3-1 (lawful (goal.at.slice_bounds-answer-end c).Else-not-is_lawful) (long (goal.at.slice_bounds-answer-end c).Else-schema-lt-WORDS))

pub answer-requires : goal.answer-requires
answer-requires c =
    let fits = counted (goal.at.answer-requires c).After-shared_slice_known-3-1 (lawful (goal.at.answer-requires c).Else-not-is_lawful) (long (goal.at.answer-requires c).Else-schema-lt-WORDS) in
    let few : length (take (get_or c.args.schema.now 0 0) (drop 1 c.args.schema.now)) ≡ get_or c.args.schema.now 0 0 = length-take-le (get_or c.args.schema.now 0 0) (drop 1 c.args.schema.now) (simp length-drop (omega (arith, fits))) in
    record { words_value = (rw add-sub_cancel (lawful-items _ (lawful (goal.at.answer-requires c).Else-not-is_lawful)), rw add-sub_cancel (omega (arith, few, fits))); job_lent = (request (goal.at.answer-requires c).Else-request-gt-LAST_REQUEST, room (goal.at.answer-requires c).Else-out-words) }

pub returns : goal.returns
unfolding analyse_in
returns c =
    let s = c.args in
    let answered = all_lawful s.schema.now 1026 (ltb s.request (2 ^ 48)) s.out.now (analyse (items_in s.schema.now) s.request s.text.now) (long (goal.at.returns c).Else-schema-lt-WORDS) (room (goal.at.returns c).Else-out-words) (lawful (goal.at.returns c).Else-not-is_lawful) (lt-ltb s.request (2 ^ 48) (request (goal.at.returns c).Else-request-gt-LAST_REQUEST)) in
    rw answered (simp add-sub_cancel at c.answer.ensures)
