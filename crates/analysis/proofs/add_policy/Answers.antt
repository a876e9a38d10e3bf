-- `analysis::add_policy` meets its contract: each test that fails gives its refusal, and what is left is what the text gives.
use Prim.Native.Nat.{◌≤◌, ◌<◌}
use mathlib.Core.Bool.{true}
use mathlib.Core.Path.{◌≡◌, refl, sym, ◌∙◌}
use native.Mathlib.Nat.{add-sub_cancel}
use native.Mathlib.Omega.{arith}
use lib.ListN.{length, get_or, take, drop, length-drop}
use lib.Seq.{length-take-le}
use Rattle.rules.specs.Tries.{manifest}
use Rattle.rules.specs.Policies.{add_policy}
use Rattle.words.specs.RunLaws.{by_parts}
use Rattle.rows.specs.States.{lawful_state, rows_in}
use Rattle.schema.specs.Items.{lawful_schema, items_in}
use Rattle.analysis.specs.Outcomes.{add_policy_in}
use Rattle.analysis.specs.AnswerLaws.{short_schema, short_out, unlawful_schema, unlawful_else, all_lawful}
use Rattle.schema.specs.ItemLaws.{lawful_count, lawful-items}
use Rattle.analysis.proofs.add_policy.Goals as goal
use Rattle.analysis.proofs.add_policy.Goals.{Else-manifest-lt-WORDS, Else-not-is_lawful, Else-not-is_lawful-2, Else-schema-lt-WORDS}

-- what the tests that were passed say
long : (c : Else-schema-lt-WORDS) → 142337 ≤ length c.args.schema.now
long c = omega (arith, c.if-schema-lt-WORDS.false)

room : (c : Else-manifest-lt-WORDS) → 4161 ≤ length c.args.manifest.now
room c = omega (arith, c.if-manifest-lt-WORDS.false)

lawful : (c : Else-not-is_lawful) → lawful_schema c.args.schema.now ≡ true
lawful c = sym c.is_lawful.ensures ∙ c.if-not-is_lawful.false

lawful-m : (c : Else-not-is_lawful-2) → lawful_state manifest c.args.manifest.now ≡ true
lawful-m c = sym c.is_lawful-2.ensures ∙ c.if-not-is_lawful-2.false

-- the count lies within the schema
counted : (c : Else-not-is_lawful-2) → (lawful_schema c.args.schema.now ≡ true) → (142337 ≤ length c.args.schema.now) → (get_or c.args.schema.now 0 0 < 142337) × (142337 ≤ length c.args.schema.now)
counted c lawful-here long-here = (lawful_count _ lawful-here, long-here)

pub returns-then-schema-lt-WORDS : goal.returns-then-schema-lt-WORDS
unfolding add_policy_in
returns-then-schema-lt-WORDS c = let s = c.args in by_parts (short_schema s.schema.now 4161 (lawful_state manifest s.manifest.now) s.manifest.now (add_policy (items_in s.schema.now) (rows_in s.manifest.now) s.text.now) (omega (arith, c.if-schema-lt-WORDS.true)))

pub returns-then-manifest-lt-WORDS : goal.returns-then-manifest-lt-WORDS
unfolding add_policy_in
returns-then-manifest-lt-WORDS c = let s = c.args in by_parts (short_out s.schema.now 4161 (lawful_state manifest s.manifest.now) s.manifest.now (add_policy (items_in s.schema.now) (rows_in s.manifest.now) s.text.now) (long (goal.at.returns-then-manifest-lt-WORDS c).Else-schema-lt-WORDS) (omega (arith, c.if-manifest-lt-WORDS.true)))

pub returns-then-not-is_lawful : goal.returns-then-not-is_lawful
unfolding add_policy_in
returns-then-not-is_lawful c = let s = c.args in by_parts (unlawful_schema s.schema.now 4161 (lawful_state manifest s.manifest.now) s.manifest.now (add_policy (items_in s.schema.now) (rows_in s.manifest.now) s.text.now) (long (goal.at.returns-then-not-is_lawful c).Else-schema-lt-WORDS) (room (goal.at.returns-then-not-is_lawful c).Else-manifest-lt-WORDS) (sym c.is_lawful.ensures ∙ c.if-not-is_lawful.true))

pub returns-then-not-is_lawful-2 : goal.returns-then-not-is_lawful-2
unfolding add_policy_in
returns-then-not-is_lawful-2 c = let s = c.args in by_parts (unlawful_else s.schema.now 4161 (lawful_state manifest s.manifest.now) s.manifest.now (add_policy (items_in s.schema.now) (rows_in s.manifest.now) s.text.now) (long (goal.at.returns-then-not-is_lawful-2 c).Else-schema-lt-WORDS) (room (goal.at.returns-then-not-is_lawful-2 c).Else-manifest-lt-WORDS) (lawful (goal.at.returns-then-not-is_lawful-2 c).Else-not-is_lawful) (sym c.is_lawful-2.ensures ∙ c.if-not-is_lawful-2.true))

pub overflow_add-end : goal.overflow_add-end
overflow_add-end c = omega (arith, counted (goal.at.overflow_add-end c).Else-not-is_lawful-2 (lawful (goal.at.overflow_add-end c).Else-not-is_lawful) (long (goal.at.overflow_add-end c).Else-schema-lt-WORDS))

pub slice_bounds-answer-end : goal.slice_bounds-answer-end
slice_bounds-answer-end c = omega (arith, counted (goal.at.slice_bounds-answer-end c).Else-not-is_lawful-2 (lawful (goal.at.slice_bounds-answer-end c).Else-not-is_lawful) (long (goal.at.slice_bounds-answer-end c).Else-schema-lt-WORDS))

pub answer-requires : goal.answer-requires
answer-requires c =
    let fits = counted (goal.at.answer-requires c).Else-not-is_lawful-2 (lawful (goal.at.answer-requires c).Else-not-is_lawful) (long (goal.at.answer-requires c).Else-schema-lt-WORDS) in
    let few : length (take (get_or c.args.schema.now 0 0) (drop 1 c.args.schema.now)) ≡ get_or c.args.schema.now 0 0 = length-take-le (get_or c.args.schema.now 0 0) (drop 1 c.args.schema.now) (simp length-drop (omega (arith, fits))) in record { words_value = (rw add-sub_cancel (lawful-items _ (lawful (goal.at.answer-requires c).Else-not-is_lawful)), rw add-sub_cancel (omega (arith, few, fits))); job_lent = record { long = room (goal.at.answer-requires c).Else-manifest-lt-WORDS; lawful-state = lawful-m (goal.at.answer-requires c).Else-not-is_lawful-2; has_rows = refl } }

pub returns : goal.returns
unfolding add_policy_in
returns c =
    let s = c.args in
    let answered = all_lawful s.schema.now 4161 (lawful_state manifest s.manifest.now) s.manifest.now (add_policy (items_in s.schema.now) (rows_in s.manifest.now) s.text.now) (long (goal.at.returns c).Else-schema-lt-WORDS) (room (goal.at.returns c).Else-manifest-lt-WORDS) (lawful (goal.at.returns c).Else-not-is_lawful) (lawful-m (goal.at.returns c).Else-not-is_lawful-2) in
    rw answered (simp add-sub_cancel at c.answer.ensures)
