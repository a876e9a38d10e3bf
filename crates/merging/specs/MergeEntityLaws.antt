-- Laws that tie the merge over words to the merge of entities (rules' Values). No contract cites this file.
use Rattle.std.specs.Prelude.{ℕ, ◌≤◌, ◌<◌, ◌≡◌, refl, true, false, cond, List, [], ◌∷◌, map, eqb, ltb, leb}
use Rattle.std.proofs.Common.{arith, sym, ◌∙◌, eqb-true, ltb-true, leb-true}
use Rattle.std.proofs.Math.Option.{Option, none, some, some-ne-none}
use Rattle.std.proofs.lemmas.List.{length-map}
use Rattle.rules.specs.Facts.{by_test, both_true, cond-true, cond-some}
use Rattle.rules.specs.Tries.{same_list}
use Rattle.rules.specs.Listing.{◌>>=◌}
use Rattle.rules.specs.Values.{Attributes, merged_attributes, Entity, merged_entities}
use Rattle.rules.specs.ValueRows.{ValueRow, attribute_rows}
use Rattle.rules.specs.ValueRowTests.{Level, level, attributes_from, is_value_row, levels_after, passes, lawful_value_rows}
use Rattle.rules.proofs.ValueRowTestLaws.{lawful_merge, lawful_merged}
use Rattle.words.specs.Runs.{Wrote}
use Rattle.values.specs.ValueWords.{depth_from, key_from, kind_from, number_from, value_row_in, value_rows_of, value_word}
use Rattle.merging.specs.Merges.{WroteRows, MergedInto, merged_entity_rows}
use Rattle.std.specs.Prelude.{Some, None}

-- ---- rows and their words

-- a row by itself is the row of its word
row_again : (x : ValueRow) → is_value_row x ≡ true → value_row_in (value_word x) ≡ x
row_again x h =
    let (kinds, more) = both_true (leb x.kind 4) _ h in
    let (keys, last) = both_true (ltb x.key 65536) _ more in
    parts (leb-true x.kind 4 kinds) (ltb-true x.key 65536 keys) (numbers last)
  where
    numbers : cond (ltb x.kind 3) (ltb x.number 65536) (eqb x.number 0) ≡ true → x.number < 65536
    numbers last =
        by_test (ltb x.kind 3)
        (λ e. ltb-true x.number 65536 (rw e at last))
        (λ e. let none_there : x.number ≡ 0 = eqb-true x.number 0 (rw e at last) in omega arith)

    parts : x.kind ≤ 4 → x.key < 65536 → x.number < 65536 → value_row_in (value_word x) ≡ x
    parts kind key number =
        let depths : depth_from (value_word x) ≡ x.depth = omega arith in
        let keys : key_from (value_word x) ≡ x.key = omega arith in
        let kinds : kind_from (value_word x) ≡ x.kind = omega arith in
        let numbers : number_from (value_word x) ≡ x.number = omega arith in
        λ i. record { depth = depths i; key = keys i; kind = kinds i; number = numbers i }

rows_again : (base : ℕ) (levels : List Level) (rows : List ValueRow) → passes base levels rows ≡ true → value_rows_of (map value_word rows) ≡ rows
unfolding passes
rows_again base levels [] h = refl
rows_again base levels (x ∷ rows) h =
    let (here, rest) = (cond-true _ (passes base (levels_after base levels x) rows)).0 h in
    rw (row_again x (both_true (is_value_row x) _ here).0, rows_again base (levels_after base levels x) rows rest)

-- the rows of a run that passes are those of their words
pub lawful_words : (rows : List ValueRow) → lawful_value_rows rows ≡ true → value_rows_of (map value_word rows) ≡ rows
lawful_words rows h = rows_again 1 (level false 0 ∷ []) rows h

-- ---- what an answer says

pub merged_to :
    (o : Option (List ValueRow)) (out out' : List ℕ) (to end : ℕ)
    → MergedInto o out to out' (Some end)
    → (rows : List ValueRow) × (o ≡ some rows) × WroteRows rows out to out' (Some end)
merged_to none out out' to end h = let z : ◌≡◌ {A = ℕ} 0 1 = cc h.answer in absurd (omega arith)
merged_to (some rows) out out' to end h = (rows, refl, h)

pub merged_different : (o : Option (List ValueRow)) (out out' : List ℕ) (to : ℕ) → MergedInto o out to out' None → o ≡ none
merged_different none out out' to h = refl
merged_different (some rows) out out' to h = let z : ◌≡◌ {A = ℕ} 0 1 = cc h.answer in absurd (omega arith)

-- ---- entities

abbrev entity : List ℕ → Attributes → Entity
entity parents attributes = record { parents = parents; attributes = attributes }

-- the entity of its parents and the words of its attributes
abbrev pub entity_of : List ℕ → List ℕ → Entity
entity_of parents words = entity parents (attributes_from 1 (value_rows_of words))

-- two entities merged: the words of the attributes, which are lawful again, were written
pub record WroteEntity (left_parents left right_parents right out : List ℕ) (to : ℕ) (out' : List ℕ) (end : ℕ) : Type 0 where
  pub words : List ℕ
  pub wrote : Wrote out to words out' end
  pub good : lawful_value_rows (value_rows_of words) ≡ true
  pub merged : merged_entities (entity_of left_parents left) (entity_of right_parents right) ≡ some (entity_of left_parents words)

module _
    (left_parents left right_parents right : List ℕ)
    (good_left : lawful_value_rows (value_rows_of left) ≡ true)
    (good_right : lawful_value_rows (value_rows_of right) ≡ true) where
  -- for runs that pass, rows come of it exactly where the entities merge, and then they are the rows of the merged attributes
  pub merged_rows :
      merged_entity_rows left_parents left right_parents right
      ≡ (merged_entities (entity_of left_parents left) (entity_of right_parents right) >>= (λ both. some (attribute_rows 1 both.attributes)))
  merged_rows =
      by_test (same_list left_parents right_parents)
      (λ e.
      rw e
      (lawful_merge (value_rows_of left) (value_rows_of right) good_left good_right
      ∙ go (merged_attributes (attributes_from 1 (value_rows_of left)) (attributes_from 1 (value_rows_of right)))))
      (λ e. rw e)
    where
      go :
          (o : Option Attributes)
          → (o >>= (λ both. some (attribute_rows 1 both)))
          ≡ ((o >>= (λ both. some (entity left_parents both))) >>= (λ both. some (attribute_rows 1 both.attributes)))
      go none = refl
      go (some both) = refl

  merged_with :
      (rows : List ValueRow)
      → same_list left_parents right_parents ≡ true
      → merged_attributes (attributes_from 1 (value_rows_of left)) (attributes_from 1 (value_rows_of right)) ≡ some (attributes_from 1 rows)
      → value_rows_of (map value_word rows) ≡ rows
      → merged_entities (entity_of left_parents left) (entity_of right_parents right) ≡ some (entity_of left_parents (map value_word rows))
  merged_with rows parents attributes again = rw (parents, attributes, again)

  -- where the answer is a place, the merged entity's words stand before it
  pub merged_written :
      (out out' : List ℕ) (to end : ℕ)
      → MergedInto (merged_entity_rows left_parents left right_parents right) out to out' (Some end)
      → WroteEntity left_parents left right_parents right out to out' end
  merged_written out out' to end h =
      let (rows, is, wrote) = merged_to (merged_entity_rows left_parents left right_parents right) out out' to end h in
      let (parents, pass) = cond-some (same_list left_parents right_parents) _ rows is in
      let (good, attributes) = lawful_merged (value_rows_of left) (value_rows_of right) rows good_left good_right pass in
      let again = lawful_words rows good in
      record {
        words = map value_word rows;
        wrote = record { after = cc (wrote.answer, length-map rows value_word); text = wrote.text };
        good = rw again good;
        merged = merged_with rows parents attributes again;
      }

  -- where it is that they differ, the entities do not merge
  pub merged_apart :
      (out out' : List ℕ) (to : ℕ)
      → MergedInto (merged_entity_rows left_parents left right_parents right) out to out' None
      → merged_entities (entity_of left_parents left) (entity_of right_parents right) ≡ none
  merged_apart out out' to h =
      go (merged_entities (entity_of left_parents left) (entity_of right_parents right))
      (sym merged_rows ∙ merged_different (merged_entity_rows left_parents left right_parents right) out out' to h)
    where
      go : (o : Option Entity) → (o >>= (λ both. some (attribute_rows 1 both.attributes))) ≡ none → o ≡ none
      go none e = refl
      go (some both) e = absurd (some-ne-none _ e)
