-- Laws of an entity's answers merged one after the other, and written. No contract cites this file.
use Rattle.std.specs.Prelude.{ℕ, suc, ◌+◌, ◌≤◌, ◌≡◌, true, List, [], ◌∷◌, ◌++◌, map, length, take, drop, get_or, set}
use Rattle.std.proofs.Common.{arith, sym, ◌∙◌, append_assoc, length-drop, length-take-le, take_at, drop_at, set-set}
use Rattle.std.proofs.Math.Path.{refl, ap}
use Rattle.std.proofs.Math.Option.{none, some, some-injective, none-ne-some}
use Rattle.std.proofs.lemmas.List.{length-map}
use Rattle.std.proofs.lemmas.List.Edits.{sets, sets-eq}
use Rattle.std.proofs.Math.Seq.{length-sets}
use Rattle.rules.specs.Values.{Entity, merged_entities, values_in_attributes}
use Rattle.rules.specs.ValueRows.{ValueRow, attribute_rows, merge_rows}
use Rattle.rules.proofs.PlaceLaws.{same-list}
use Rattle.rules.proofs.StepLaws.{Each}
use Rattle.rules.proofs.ValueRowLaws.{fields_no_left}
use Rattle.rules.specs.ValueRowTests.{attributes_from, passes, lawful_value_rows}
use Rattle.rules.proofs.ValueRowTestLaws.{read_run, lawful_read, lawful_rows_count, lawful_merge, lawful_merged}
use Rattle.rules.proofs.MergeLaws.{bind_given, GoodEntity, MergedFrom, merged_from, merged_all, merged_of}
use Rattle.words.specs.Runs.{Wrote}
use Rattle.words.specs.SeqLaws.{set_before}
use Rattle.values.specs.ValueWords.{value_row_in, value_rows_of, value_word}
use Rattle.values.specs.ValueWordLaws.{word_again}
use Rattle.merging.specs.MergeEntityLaws.{entity_of, lawful_words}
use Rattle.slices.specs.Slices.{parent_count, row_count, parents_at, rows_at, entity_at, EntityStands, answers_for, row_words}
use Rattle.slices.specs.Writing.{answers_after, FirstAnswer, MayMerge, RowsFit, rows_in}
use Rattle.slices.specs.HeardLaws.{answers_for_good}
use Rattle.slices.specs.MergedLaws.{sized}

-- ---- words

-- words that a row each packs are those rows' words
words_again : (words : List ℕ) → map value_word (value_rows_of words) ≡ words
words_again [] = refl
words_again (w ∷ words) = rw (word_again w, words_again words)

-- what is written stands there
pub wrote_back : {out held out' : List ℕ} {from at : ℕ} → Wrote out from held out' at → from + length held ≤ length out
    → take (length held) (drop from out') ≡ held
wrote_back {out} {held} {from} wrote room =
    rw (
      wrote.text,
      sets-eq held out from room,
      append_assoc (take from out) held (drop (from + length held) out),
      drop_at
          (take from out) (held ++ drop (from + length held) out) from (length-take-le from out (omega arith)),
    )
    (take_at held (drop (from + length held) out) (length held) refl)

-- as many words or more, written over others
sets_over : (l : List ℕ) (i : ℕ) (xs ys : List ℕ) → length xs ≤ length ys → sets (sets l i xs) i ys ≡ sets l i ys
sets_over l i [] ys h = refl
sets_over l i (x ∷ xs) [] h = absurd (omega arith)
sets_over l i (x ∷ xs) (y ∷ ys) h =
    rw (set_before (set l i x) i y (suc i) xs (omega arith), set-set l i x y) (sets_over (set l i y) (suc i) xs ys (omega arith))

pub wrote_over :
    {out xs ys out₁ out₂ : List ℕ} {from at₁ at₂ : ℕ}
    → length xs ≤ length ys
    → Wrote out from xs out₁ at₁
    → Wrote out₁ from ys out₂ at₂
    → Wrote out from ys out₂ at₂
wrote_over {out} {xs} {ys} {from = from} h first second =
    record { after = second.after; text = second.text ∙ rw first.text (sets_over out from xs ys h) }

-- ---- an answer in words

module _ {words : List ℕ} {place : ℕ} (stands : EntityStands words place) where
  pub parents_count : length (parents_at words place) ≡ parent_count words place
  parents_count = length-take-le _ _ (omega (arith, stands.fits, length-drop (place + 1) words))

  pub rows_count : length (rows_at words place) ≡ row_count words place
  rows_count = length-take-le _ _ (omega (arith, stands.fits, length-drop (place + 1 + parent_count words place) words))

  pub values_count : values_in_attributes (entity_at words place).attributes ≡ row_count words place
  values_count = sym (lawful_rows_count (value_rows_of (rows_at words place)) stands.lawful) ∙ length-map (rows_at words place) value_row_in
      ∙ rows_count

-- ---- one answer more

-- what is held merges with it, to rows that are held then
record Step (p held right : List ℕ) (rest : List Entity) (value : Entity) : Type 0 where
  pub rows : List ValueRow
  pub pass : merge_rows none (value_rows_of held) (value_rows_of right) ≡ some rows
  pub lawful : lawful_value_rows (value_rows_of (map value_word rows)) ≡ true
  pub again : merged_all (entity_of p (map value_word rows)) rest ≡ some value

step :
    (p held q right : List ℕ) (rest : List Entity) (value : Entity)
    → lawful_value_rows (value_rows_of held) ≡ true
    → lawful_value_rows (value_rows_of right) ≡ true
    → merged_all (entity_of p held) (entity_of q right ∷ rest) ≡ some value
    → Step p held right rest value
unfolding merged_all
step p held q right rest value good-held good_right e =
    let (both, given, more) = bind_given (merged_entities (entity_of p held) (entity_of q right)) _ e in
    go both (merged_from (entity_of p held) (entity_of q right) both given) more
  where
    go : (both : Entity) → MergedFrom (entity_of p held) (entity_of q right) both → merged_all both rest ≡ some value
        → Step p held right rest value
    go both parts more =
        let pass : merge_rows none (value_rows_of held) (value_rows_of right) ≡ some (attribute_rows 1 both.attributes) =
        lawful_merge (value_rows_of held) (value_rows_of right) good-held good_right ∙ rw parts.both_attributes in
        let good = (lawful_merged (value_rows_of held) (value_rows_of right) _ good-held good_right pass).0 in
        let words = lawful_words (attribute_rows 1 both.attributes) good in
        record {
          rows = attribute_rows 1 both.attributes;
          pass = pass;
          lawful = rw words good;
          again = rw (words, read_run 1 both.attributes, ← parts.same_as_first) more;
        }

-- ---- all answers

-- all that merge have the same parents
pub all_parents : (a : Entity) (l : List Entity) (m : Entity) → merged_all a l ≡ some m → m.parents ≡ a.parents
unfolding merged_all
all_parents a [] m e = ap (λ (v : Entity). v.parents) (sym (some-injective a m e))
all_parents a (b ∷ l) m e =
    let (ab, given, rest) = bind_given (merged_entities a b) _ e in
    all_parents ab l m rest ∙ (merged_from a b ab given).same_as_first

-- what they come to is what they come to behind an entity without attributes
behind_none : (p : List ℕ) (a : Entity) (l : List Entity) → GoodEntity a → p ≡ a.parents → merged_all (entity_of p []) (a ∷ l)
    ≡ merged_all a l
unfolding merged_all attributes_from
behind_none p a l good e =
    rw (e, (same-list a.parents a.parents).1 refl, fields_no_left a.attributes good.fields_ascend)

from_none :
    (l : List Entity) (value : Entity)
    → Each GoodEntity l
    → merged_of l ≡ some value
    → merged_all (entity_of value.parents []) l ≡ some value
unfolding merged_of Each
from_none [] value good e = absurd (none-ne-some value e)
from_none (a ∷ l) value good e = behind_none value.parents a l good.0 (all_parents a l value e) ∙ e

-- The answers before row k are merged, and their rows are held from a place of the output on.
pub record MergedTo
    (words rows places : List ℕ) (e : ℕ) (out : List ℕ) (from : ℕ) (scratch out' scratch' : List ℕ) (size k : ℕ)
    : Type 0 where
  pub inside : k ≤ length rows
  pub held : List ℕ
  pub wrote : Wrote out from held out' (from + size)
  pub lawful : lawful_value_rows (value_rows_of held) ≡ true
  pub left :
      (value : Entity)
      → merged_of (answers_for words rows places e) ≡ some value
      → merged_all (entity_of value.parents held) (answers_after words rows places e k) ≡ some value
  pub few : size + rows_in (answers_after words rows places e k) ≤ rows_in (answers_for words rows places e)
  pub scratch_kept : length scratch' ≡ length scratch

module _
    {words rows places : List ℕ} {e : ℕ} {out : List ℕ} {from : ℕ} {scratch : List ℕ}
    (fit : RowsFit words rows places e out from scratch)
  where
    -- none are merged
    pub merged_none : MergedTo words rows places e out from scratch out scratch 0 0
    unfolding passes
    merged_none = record {
      inside = omega arith;
      held = [];
      wrote = record { after = refl; text = refl };
      lawful = refl;
      left = λ value given. from_none _ value (answers_for_good fit.heard e) given;
      few = omega arith;
      scratch_kept = refl;
    }

    module _ {out' scratch' : List ℕ} {size k : ℕ} (sofar : MergedTo words rows places e out from scratch out' scratch' size k) where
      held_count : length sofar.held ≡ size
      held_count = omega (arith, sofar.wrote.after)

      pub merged_few : size ≤ rows_in (answers_for words rows places e)
      merged_few = omega (arith, sofar.few)

      -- no answer is left
      pub merged-all :
          answers_after words rows places e k ≡ []
          → (value : Entity)
          → merged_of (answers_for words rows places e) ≡ some value
          → Wrote out from (row_words value) out' (from + size)
      unfolding merged_all
      merged-all none_left value given =
          let is : entity_of value.parents sofar.held
          ≡ value = some-injective _ _ (rw none_left at (sofar.left value given)) in
          let rows : attribute_rows 1 value.attributes ≡ value_rows_of sofar.held =
          ap (λ (v : Entity). attribute_rows 1 v.attributes) (sym is) ∙ (lawful_read (value_rows_of sofar.held) sofar.lawful).0 in
          rw (rows, words_again sofar.held) sofar.wrote

      -- the next answer
      module _ {next : ℕ} (found : FirstAnswer words rows places e k next) where
        next_stands : EntityStands words (get_or places next 0)
        next_stands = fit.heard.stands next found.inside found.present

        next_step :
            Step fit.value.parents sofar.held (rows_at words (get_or places next 0)) (answers_after words rows places e (next + 1))
            fit.value
        next_step =
            step _ sofar.held (parents_at words (get_or places next 0)) (rows_at words (get_or places next 0)) _ fit.value sofar.lawful
            next_stands.lawful
            (rw found.answers at (sofar.left fit.value fit.merged))

        room_left :
            size + (row_count words (get_or places next 0) + rows_in (answers_after words rows places e (next + 1)))
            ≤ rows_in (answers_for words rows places e)
        unfolding rows_in
        room_left = let few = rw found.answers at sofar.few in omega (arith, values_count next_stands)

        held_there : take size (drop from out') ≡ sofar.held
        held_there = rw (← held_count) (wrote_back sofar.wrote (omega (arith, held_count, room_left, fit.room)))

        pub may_merge : MayMerge words (get_or places next 0) out' from size scratch'
        may_merge = record {
          stands = next_stands;
          rows = next_step.rows;
          merged = rw held_there next_step.pass;
          room = omega (arith, room_left, fit.room, ap length sofar.wrote.text, length-sets out from sofar.held);
          scratch_room = omega (arith, room_left, fit.scratch_room, sofar.scratch_kept);
        }

        pub merged_next :
            {out'' scratch'' : List ℕ} {size' : ℕ}
            → length scratch'' ≡ length scratch'
            → ((rows : List ValueRow)
            → merge_rows none (value_rows_of (take size (drop from out'))) (value_rows_of (rows_at words (get_or places next 0))) ≡ some rows
            → Wrote out' from (map value_word rows) out'' (from + size'))
            → MergedTo words rows places e out from scratch out'' scratch'' size' (next + 1)
        merged_next {size' = size'} kept wrote =
            let here = wrote next_step.rows (rw held_there next_step.pass) in
            let sizes = sized none _ _ next_step.rows next_step.pass in
            let words_count = length-map next_step.rows value_word in
            let held_rows = length-map sofar.held value_row_in in
            let right-rows = length-map (rows_at words (get_or places next 0)) value_row_in in
            let count : length next_step.rows ≡ size' = omega (arith, here.after) in
            record {
              inside = omega (arith, found.inside);
              held = map value_word next_step.rows;
              wrote = wrote_over (omega (arith, sizes.low)) sofar.wrote here;
              lawful = next_step.lawful;
              left = λ value given. rw (← some-injective _ _ (sym fit.merged ∙ given)) next_step.again;
              few = omega (arith, sizes.high, held_count, rows_count next_stands, room_left);
              scratch_kept = kept ∙ sofar.scratch_kept;
            }
