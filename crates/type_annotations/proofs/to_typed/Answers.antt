-- `type_annotations::to_typed` meets its contract: each test that fails gives its refusal, and what is left is typed.
use Prim.Native.Nat.{◌≤◌, ◌<◌}
use native.Mathlib.Nat.{add-sub_cancel}
use native.Mathlib.Omega.{arith}
use mathlib.Core.Bool.{true}
use mathlib.Core.Path.{◌≡◌, refl, sym, ◌∙◌}
use lib.ListN.{length, take, drop, get_or, length-drop}
use lib.Seq.{length-take-le}
use Rattle.rules.specs.Tries.{manifest}
use Rattle.words.specs.RunLaws.{by_parts}
use Rattle.rows.specs.States.{lawful_state}
use Rattle.rows.specs.StateLaws.{count_within, words_good, rows_ordered}
use Rattle.rows.specs.LentLaws.{lent_few}
use Rattle.rows.specs.declared.Kind.TheVariants.{Manifest}
use Rattle.schema.specs.Items.{lawful_schema}
use Rattle.schema.specs.ItemLaws.{lawful_count, lawful-items}
use Rattle.type_annotations.specs.TypedLaws.{typed_short, typed_short_state, typed_short_out, typed_unlawful, typed_unlawful_state, typed_lawful}
use Rattle.type_annotations.proofs.to_typed.Goals as goal
use Rattle.type_annotations.proofs.to_typed.Goals.{Else-manifest-words, Else-not-is_lawful, Else-not-is_lawful-2, Else-out-words, Else-schema-lt-WORDS}

-- what the tests that were passed say
long : (c : Else-schema-lt-WORDS) → 142337 ≤ length c.args.schema.now
long c = omega (arith, c.if-schema-lt-WORDS.false)

whole : (c : Else-manifest-words) → 4161 ≤ length c.args.manifest.now
whole c = omega (arith, c.words.ensures, c.if-manifest-words.false)

room : (c : Else-out-words) → 4161 ≤ length c.args.out.now
room c = omega (arith, c.words-2.ensures, c.if-out-words.false)

lawful : (c : Else-not-is_lawful) → lawful_schema c.args.schema.now ≡ true
lawful c = sym c.is_lawful.ensures ∙ c.if-not-is_lawful.false

lawful_rows : (c : Else-not-is_lawful-2) → lawful_state manifest c.args.manifest.now ≡ true
lawful_rows c = sym c.is_lawful-2.ensures ∙ c.if-not-is_lawful-2.false

pub returns-then-schema-lt-WORDS : goal.returns-then-schema-lt-WORDS
returns-then-schema-lt-WORDS c = let a = c.args in by_parts (typed_short a.schema.now a.manifest.now a.out.now (omega (arith, c.if-schema-lt-WORDS.true)))

pub returns-then-manifest-words : goal.returns-then-manifest-words
returns-then-manifest-words c =
    let a = c.args in
    by_parts (typed_short_state a.schema.now a.manifest.now a.out.now (long (goal.at.returns-then-manifest-words c).Else-schema-lt-WORDS) (omega (arith, c.words.ensures, c.if-manifest-words.true)))

pub returns-then-out-words : goal.returns-then-out-words
returns-then-out-words c =
    let a = c.args in
    by_parts
    (typed_short_out a.schema.now a.manifest.now a.out.now (long (goal.at.returns-then-out-words c).Else-schema-lt-WORDS) (whole (goal.at.returns-then-out-words c).Else-manifest-words) (omega (arith, c.words-2.ensures, c.if-out-words.true)))

pub returns-then-not-is_lawful : goal.returns-then-not-is_lawful
returns-then-not-is_lawful c =
    let a = c.args in
    by_parts
    (typed_unlawful a.schema.now a.manifest.now a.out.now (long (goal.at.returns-then-not-is_lawful c).Else-schema-lt-WORDS) (whole (goal.at.returns-then-not-is_lawful c).Else-manifest-words) (room (goal.at.returns-then-not-is_lawful c).Else-out-words)
    (sym c.is_lawful.ensures ∙ c.if-not-is_lawful.true))

pub returns-then-not-is_lawful-2 : goal.returns-then-not-is_lawful-2
returns-then-not-is_lawful-2 c =
    let a = c.args in
    by_parts
    (typed_unlawful_state a.schema.now a.manifest.now a.out.now (long (goal.at.returns-then-not-is_lawful-2 c).Else-schema-lt-WORDS) (whole (goal.at.returns-then-not-is_lawful-2 c).Else-manifest-words) (room (goal.at.returns-then-not-is_lawful-2 c).Else-out-words) (lawful (goal.at.returns-then-not-is_lawful-2 c).Else-not-is_lawful)
    (sym c.is_lawful-2.ensures ∙ c.if-not-is_lawful-2.true))

-- the counts lie within what is lent
rows_few : (c : Else-not-is_lawful-2) → (4161 ≤ length c.args.manifest.now) → get_or c.args.manifest.now 0 0 < 4161
rows_few c whole-here = (lent_few Manifest c.args.manifest.now _ (record { long = whole-here; lawful-state = lawful_rows c; has_rows = refl })).1

counted : (c : Else-not-is_lawful-2) → (lawful_schema c.args.schema.now ≡ true) → let a = c.args in (get_or a.schema.now 0 0 < 142337) × (get_or a.manifest.now 0 0 < length a.manifest.now)
counted c lawful-here = (lawful_count _ lawful-here, count_within _ _ (lawful_rows c))

pub overflow_add-end : goal.overflow_add-end
overflow_add-end c = omega (arith, counted (goal.at.overflow_add-end c).Else-not-is_lawful-2 (lawful (goal.at.overflow_add-end c).Else-not-is_lawful))

pub overflow_add-last : goal.overflow_add-last
overflow_add-last c = omega (arith, counted (goal.at.overflow_add-last c).Else-not-is_lawful-2 (lawful (goal.at.overflow_add-last c).Else-not-is_lawful))

pub slice_bounds-type_manifest-end : goal.slice_bounds-type_manifest-end
slice_bounds-type_manifest-end c = omega (arith, counted (goal.at.slice_bounds-type_manifest-end c).Else-not-is_lawful-2 (lawful (goal.at.slice_bounds-type_manifest-end c).Else-not-is_lawful), long (goal.at.slice_bounds-type_manifest-end c).Else-schema-lt-WORDS)

pub slice_bounds-type_manifest-end-2 : goal.slice_bounds-type_manifest-end-2
slice_bounds-type_manifest-end-2 c = omega (arith, counted (goal.at.slice_bounds-type_manifest-end-2 c).Else-not-is_lawful-2 (lawful (goal.at.slice_bounds-type_manifest-end-2 c).Else-not-is_lawful))

pub type_manifest-requires : goal.type_manifest-requires
type_manifest-requires c =
    let a = c.args in
    let (items, rows) = counted (goal.at.type_manifest-requires c).Else-not-is_lawful-2 (lawful (goal.at.type_manifest-requires c).Else-not-is_lawful) in
    let few : length (take (get_or a.schema.now 0 0) (drop 1 a.schema.now)) < 142337 =
    rw (length-take-le (get_or a.schema.now 0 0) (drop 1 a.schema.now) (simp length-drop (omega (arith, items, long (goal.at.type_manifest-requires c).Else-schema-lt-WORDS)))) items in
    let few_rows : length (take (get_or a.manifest.now 0 0) (drop 1 a.manifest.now)) ≤ 4160 =
    rw (length-take-le (get_or a.manifest.now 0 0) (drop 1 a.manifest.now) (simp length-drop (omega (arith, rows))))
    (omega (arith, rows_few (goal.at.type_manifest-requires c).Else-not-is_lawful-2 (whole (goal.at.type_manifest-requires c).Else-manifest-words))) in
    rw (add-sub_cancel, add-sub_cancel) (record {
      words_value = (lawful-items _ (lawful (goal.at.type_manifest-requires c).Else-not-is_lawful), (few, few_rows));
      rows_value = (words_good _ _ (lawful_rows (goal.at.type_manifest-requires c).Else-not-is_lawful-2), (rows_ordered _ _ (lawful_rows (goal.at.type_manifest-requires c).Else-not-is_lawful-2), room (goal.at.type_manifest-requires c).Else-out-words));
    })

pub returns : goal.returns
returns c =
    let a = c.args in
    let answered = typed_lawful a.schema.now a.manifest.now a.out.now (long (goal.at.returns c).Else-schema-lt-WORDS) (whole (goal.at.returns c).Else-manifest-words) (room (goal.at.returns c).Else-out-words) (lawful (goal.at.returns c).Else-not-is_lawful) (lawful_rows (goal.at.returns c).Else-not-is_lawful-2) in
    rw answered (simp add-sub_cancel at c.type_manifest.ensures)
