-- Laws of answers that were heard. No contract cites this file.
use Rattle.std.specs.Prelude.{ℕ, zero, suc, ◌+◌, ◌≤◌, ◌<◌, ◌≡◌, refl, true, false, cond, ◌&&◌, List, [], ◌∷◌, map, eqb, length, take, drop, get_or}
use Rattle.std.proofs.Common.{arith, add-one, sym, ◌∙◌, length-drop, drop_of_length-le, drop-cons, drop-drop, eq-eqb, ne_eqb}
use Rattle.std.proofs.Math.Option.{Option, none, some}
use Rattle.rules.specs.Facts.{by_test, compared}
use Rattle.rules.specs.Values.{Entity}
use Rattle.rules.specs.Loading.{EntityRequest}
use Rattle.rules.proofs.MergeLaws.{each_merges}
use Rattle.rules.proofs.SliceLaws.{answers_to, test_none, test_other, test_same}
use Rattle.rules.specs.ValueRows.{ValueRow}
use Rattle.rules.specs.ValueRowTests.{lawful_value_rows}
use Rattle.values.specs.ValueWords.{value_rows_of, row_asked}
use Rattle.answers.specs.Answers.{read_item, answer_at, head_in, is_entity, entity_in, id_set, StandsAt}
use Rattle.answers.specs.AnswerLaws.{entity_parts}
use Rattle.answers.specs.declared.Head.{Head}
use Rattle.answers.specs.declared.Lending.TheVariants.{Answers}
use Rattle.merging.specs.Merges.{MergedInto, merged_entity_rows}
use Rattle.merging.specs.MergeEntityLaws.{entity_of, merged_written, merged_apart}
use Rattle.std.specs.Prelude.{Option as Maybe, Some, None}
use Rattle.std.specs.Option.{is_some}
use Rattle.batches.specs.Hearings.{heard_at, AnswerStands, AllStand, agree, agrees_if_asked, merges_with}

-- an answer begins with a head
pub standing_within : (words : List ℕ) (at : ℕ) → AnswerStands words at → at < length words
standing_within words at (read, e) =
    compared at (length words) (λ less. less)
    (λ not-less.
    let nothing : answer_at (drop at words) ≡ none = rw (drop_of_length-le words not-less) in
    let z : ◌≡◌ {A = ℕ} 0 1 = cc in
    absurd (omega arith))

-- where the head is 0 the entity is absent
pub standing_absent : (words : List ℕ) (at : ℕ) → AnswerStands words at → get_or words at 0 ≡ 0 → heard_at words at ≡ none
standing_absent words at s e = rw (drop-cons words at 0 (standing_within words at s), eq-eqb (get_or words at 0) 0 e)

-- otherwise its parents and its attributes' rows stand behind the head
pub record Present (words : List ℕ) (at : ℕ) (head : Head) : Type 0 where
  pub fits : at + 1 + head.parents + head.rows ≤ length words
  pub ids_ascend : id_set 0 (take head.parents (drop (at + 1) words)) ≡ true
  pub good : lawful_value_rows (value_rows_of (take head.rows (drop (at + 1 + head.parents) words))) ≡ true
  pub is :
      heard_at words at
      ≡ some (entity_of (take head.parents (drop (at + 1) words)) (take head.rows (drop (at + 1 + head.parents) words)))

pub standing_present : (words : List ℕ) (at : ℕ) → AnswerStands words at → (get_or words at 0 ≡ 0 → ⊥) → Present words at (head_in (get_or words at 0))
standing_present words at (read, e) other =
    let less = standing_within words at (read, e) in
    let head = head_in (get_or words at 0) in
    let front : drop at words ≡ get_or words at 0 ∷ drop (at + 1) words = rw (add-one, drop-cons words at 0 less) in
    let test : cond (is_entity head (drop (at + 1) words)) (some (record { item = some (entity_in head (drop (at + 1) words)); size = 1 + (head.parents + head.rows) })) none ≡ some read =
    rw (front, ne_eqb (get_or words at 0) 0 other) at e in
    by_test (is_entity head (drop (at + 1) words))
    (λ t.
    let parts = entity_parts head (drop (at + 1) words) t in
    let behind : drop head.parents (drop (at + 1) words) ≡ drop (at + 1 + head.parents) words = drop-drop head.parents (at + 1) words in
    record {
      fits = omega (arith, parts.fits, length-drop (at + 1) words);
      ids_ascend = parts.parents;
      good = rw behind at parts.rows;
      is = rw (front, ne_eqb (get_or words at 0) 0 other, t, behind);
    })
    (λ t. let z : ◌≡◌ {A = ℕ} 0 1 = cc (rw t at test) in absurd (omega arith))

-- the answers at two places, both present, merge or do not; so many words are taken of each
module _
    (words : List ℕ) (left right : ℕ) (a b : Head)
    (one : Present words left a)
    (other : Present words right b)
    (left-parents left_rows right-parents right-rows : ℕ)
    (sizes : (left-parents ≡ a.parents) × (left_rows ≡ a.rows) × (right-parents ≡ b.parents) × (right-rows ≡ b.rows))
  where
    abbrev pub merging : Option (List ValueRow)
    merging =
        merged_entity_rows (take left-parents (drop (left + 1) words)) (take left_rows (drop (left + 1 + a.parents) words))
        (take right-parents (drop (right + 1) words)) (take right-rows (drop (right + 1 + b.parents) words))

    good_left : lawful_value_rows (value_rows_of (take left_rows (drop (left + 1 + a.parents) words))) ≡ true
    good_left = rw sizes.1 one.good

    good_right : lawful_value_rows (value_rows_of (take right-rows (drop (right + 1 + b.parents) words))) ≡ true
    good_right = rw sizes.3 other.good

    is_left :
        heard_at words left ≡ some (entity_of (take left-parents (drop (left + 1) words)) (take left_rows (drop (left + 1 + a.parents) words)))
    is_left = rw (sizes.0, sizes.1) one.is

    is_right :
        heard_at words right
        ≡ some (entity_of (take right-parents (drop (right + 1) words)) (take right-rows (drop (right + 1 + b.parents) words)))
    is_right = rw (sizes.2, sizes.3) other.is

    -- what the merge of their words answers says whether they merge
    pub agree_tested : (out out' : List ℕ) (r : Maybe ℕ) → MergedInto merging out 0 out' r → is_some r ≡ agree (heard_at words left) (heard_at words right)
    agree_tested out out' (Some end) h =
        let written =
        merged_written (take left-parents (drop (left + 1) words)) (take left_rows (drop (left + 1 + a.parents) words))
        (take right-parents (drop (right + 1) words)) (take right-rows (drop (right + 1 + b.parents) words))
        good_left good_right out out' 0 end h in
        rw (is_left, is_right, written.merged)
    agree_tested out out' None h =
        let apart =
        merged_apart (take left-parents (drop (left + 1) words)) (take left_rows (drop (left + 1 + a.parents) words))
        (take right-parents (drop (right + 1) words)) (take right-rows (drop (right + 1 + b.parents) words))
        good_left good_right out out' 0 h in
        rw (is_left, is_right, apart)

-- an absent answer merges with any
pub agree_absent : (left : Option Entity) {right : Option Entity} → right ≡ none → true ≡ agree left right
agree_absent none e = refl
agree_absent (some value) e = rw e

-- no row asks for anything
no_answers : (e : ℕ) (answers : List (Option Entity)) (value : Entity) → each_merges (answers_to e [] answers) value ≡ true
unfolding answers_to each_merges
no_answers e answers value = refl

-- one row and its answer more to merge with
pub merges_more :
    (e : ℕ) (row : EntityRequest) (rows : List EntityRequest) (answer : Option Entity) (answers : List (Option Entity)) (v : Option Entity)
    → merges_with (answers_to e (row ∷ rows) (answer ∷ answers)) v
    ≡ (agrees_if_asked e row answer v && merges_with (answers_to e rows answers) v)
merges_more e row rows none answers none = by_test (eqb row.id e) (λ t. rw t) (λ t. rw t)
merges_more e row rows (some w) answers none = by_test (eqb row.id e) (λ t. rw t) (λ t. rw t)
merges_more e row rows none answers (some v) =
    test_none e v row rows answers ∙ by_test (eqb row.id e) (λ t. rw t) (λ t. rw t)
merges_more e row rows (some w) answers (some v) =
    by_test (eqb row.id e)
    (λ t. test_same e v row rows answers w t ∙ rw t)
    (λ t. test_other e v row rows answers w t ∙ rw t)

-- each of some places has an answer
pub all_stand : (words places : List ℕ) (i : ℕ) → AllStand words places → i < length places → AnswerStands words (get_or places i 0)
unfolding AllStand
all_stand words [] i h less = absurd (omega arith)
all_stand words (at ∷ places) zero h less = h.0
all_stand words (at ∷ places) (suc i) h less = all_stand words places i h.1 (omega arith)

-- What a loop over the rows keeps: those that were passed merge.
pub record MergedSofar (words rows places : List ℕ) (e : ℕ) (v : Option Entity) (i : ℕ) : Type 0 where
  pub within : i ≤ length rows
  pub left :
      merges_with (answers_to e (map row_asked rows) (map (heard_at words) places)) v
      ≡ merges_with (answers_to e (map row_asked (drop i rows)) (map (heard_at words) (drop i places))) v

module _ (words rows places : List ℕ) (e : ℕ) (v : Option Entity) where
  pub merged_none : MergedSofar words rows places e v 0
  merged_none = record { within = omega arith; left = refl }

  module _ (i : ℕ) (h : MergedSofar words rows places e v i) (same : length rows ≡ length places) where
    next_row :
        i < length rows
        → merges_with (answers_to e (map row_asked rows) (map (heard_at words) places)) v
        ≡ (agrees_if_asked e (row_asked (get_or rows i 0)) (heard_at words (get_or places i 0)) v
        && merges_with (answers_to e (map row_asked (drop (i + 1) rows)) (map (heard_at words) (drop (i + 1) places))) v)
    next_row less =
        let r : drop i rows ≡ get_or rows i 0 ∷ drop (i + 1) rows = rw (add-one, drop-cons rows i 0 less) in
        let p : drop i places ≡ get_or places i 0 ∷ drop (i + 1) places = rw (add-one, drop-cons places i 0 (omega arith)) in
        h.left
        ∙ rw (r, p)
        (merges_more e (row_asked (get_or rows i 0)) (map row_asked (drop (i + 1) rows)) (heard_at words (get_or places i 0))
        (map (heard_at words) (drop (i + 1) places)) v)

    pub merged_more :
        i < length rows
        → agrees_if_asked e (row_asked (get_or rows i 0)) (heard_at words (get_or places i 0)) v ≡ true
        → MergedSofar words rows places e v (i + 1)
    merged_more less t = record { within = omega arith; left = next_row less ∙ rw t }

    pub merged_not :
        i < length rows
        → agrees_if_asked e (row_asked (get_or rows i 0)) (heard_at words (get_or places i 0)) v ≡ false
        → false ≡ merges_with (answers_to e (map row_asked rows) (map (heard_at words) places)) v
    merged_not less t = sym (next_row less ∙ rw t)

    pub merged-all : length rows ≤ i → true ≡ merges_with (answers_to e (map row_asked rows) (map (heard_at words) places)) v
    merged-all end = sym (h.left ∙ rw (drop_of_length-le rows end) (none_asked v))
      where
        none_asked : (v : Option Entity) → merges_with (answers_to e [] (map (heard_at words) (drop i places))) v ≡ true
        none_asked none = refl
        none_asked (some value) = no_answers e (map (heard_at words) (drop i places)) value

-- Answers whose places were stored stand there, and are those that are heard.
pub placed_heard :
    (words places : List ℕ) (items : List (Option Entity))
    → ((k : ℕ) (d : Option Entity) → k < length items → StandsAt Answers words (get_or places k 0) (get_or items k d))
    → length items ≤ length places
    → AllStand words (take (length items) places) × (map (heard_at words) (take (length items) places) ≡ items)
unfolding AllStand
placed_heard words places [] stands fits = (tt, refl)
placed_heard words [] (item ∷ items) stands fits = absurd (omega arith)
placed_heard words (at ∷ places) (item ∷ items) stands fits =
    let (size, here) = stands 0 none (omega arith) in
    let (all, heard) = placed_heard words places items (λ k d less. stands (suc k) d (omega arith)) (omega arith) in
    let this : heard_at words at ≡ item = rw here in
    (((read_item item size, here), all), rw (this, heard))
