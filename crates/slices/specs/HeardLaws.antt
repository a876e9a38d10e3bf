-- Laws of rows and their answers in words. No contract cites this file.
use Rattle.std.specs.Prelude.{ℕ, suc, ◌+◌, ◌%◌, ◌≤◌, ◌<◌, ◌≡◌, refl, ◌≢◌, true, false, cond, not, List, [], ◌∷◌, ◌++◌, eqb, length, drop, get_or}
use Rattle.std.proofs.Common.{add-one, arith, sym, ap, ◌∙◌, drop_of_length-le, drop-cons}
use Rattle.std.specs.Prelude.{Option as Maybe, Some, None}
use Rattle.std.specs.Option.{is_some}
use Rattle.std.proofs.Math.Option.{none, some}
use Rattle.std.proofs.lemmas.Bool.{eqb-false, not-true}
use Rattle.rules.specs.Facts.{by_test, both_true}
use Rattle.rules.specs.Values.{Entity}
use Rattle.rules.proofs.StepLaws.{Each, each_map}
use Rattle.rules.proofs.ValueRowLaws.{Every}
use Rattle.rules.proofs.ValueRowTestLaws.{lawful_read}
use Rattle.rules.proofs.MergeLaws.{GoodEntity}
use Rattle.rules.proofs.SliceLaws.{answer_to, answers_to, answers_good as good-answers}
use Rattle.values.specs.ValueWords.{row_asked}
use Rattle.answers.specs.AnswerLaws.{set_ids}
use Rattle.slices.specs.Slices.{entity_at, answer_in, rows_asked, answers_in, EntityStands, Heard, answers_for}
use Rattle.slices.specs.Writing.{asks_for, answers_after, FirstAnswer, AnswerFound}

-- ---- a row and its answer

module _ {words rows places : List ℕ} (heard : Heard words rows places) {k : ℕ} (h : k < length rows) where
  -- in front of those behind them
  asked_next : rows_asked (drop k rows) ≡ row_asked (get_or rows k 0) ∷ rows_asked (drop (k + 1) rows)
  asked_next = rw (add-one k, drop-cons rows k 0 h)

  answers_next : answers_in words (drop k places) ≡ answer_in words (get_or places k 0) ∷ answers_in words (drop (k + 1) places)
  answers_next = rw (add-one k, drop-cons places k 0 (omega (arith, heard.as_many)))

  pub answers_split :
      (e : ℕ)
      → answers_after words rows places e k
      ≡ answer_to e (row_asked (get_or rows k 0)) (answer_in words (get_or places k 0)) ++ answers_after words rows places e (k + 1)
  unfolding answers_to
  answers_split e = rw (asked_next, answers_next)

-- ---- answers are good entities

-- an entity that stands in words
pub stands_good : {words : List ℕ} {place : ℕ} → EntityStands words place → GoodEntity (entity_at words place)
stands_good {words} {place} stands =
    record { ids_ascend = set_ids 0 _ stands.ids_ascend; fields_ascend = (lawful_read _ stands.lawful).2 }

pub each_at : {A : Type 0} (P : A → Type 0) (l : List A) (d : A) → ((k : ℕ) → k < length l → P (get_or l k d)) → Each P l
unfolding Each
each_at P [] d h = tt
each_at P (a ∷ l) d h = (h 0 (omega arith), each_at P l d (λ k less. h (suc k) (omega arith)))

module _ {words rows places : List ℕ} (heard : Heard words rows places) where
  pub answers_good : Each (Every GoodEntity) (answers_in words places)
  answers_good =
      each_map (λ place. Every GoodEntity (answer_in words place)) (Every GoodEntity) (answer_in words) (λ place h. h) places
      (each_at _ places 0 (λ k less.
      by_test (eqb (get_or words (get_or places k 0) 0) 0)
      (λ t. rw t tt)
      (λ t. rw t (stands_good (heard.stands k (omega (arith, heard.as_many)) (eqb-false _ 0 t))))))

  pub answers_for_good : (e : ℕ) → Each GoodEntity (answers_for words rows places e)
  answers_for_good e = good-answers e (rows_asked rows) (answers_in words places) answers_good

-- ---- the next answer to an entity

-- what the test says
module _ (row head e : ℕ) (value : Entity) where
  asks_not : asks_for row head e ≡ false → answer_to e (row_asked row) (cond (eqb head 0) none (some value)) ≡ []
  asks_not h =
      by_test (eqb head 0)
      (λ t. rw t)
      (λ t. by_test (eqb (row % 65536) e) (λ u. let z : ◌≡◌ {A = ℕ} 0 1 = cc (rw (t, u) at h) in absurd (omega arith)) (λ u. rw (t, u)))

  asks_yes : asks_for row head e ≡ true → answer_to e (row_asked row) (cond (eqb head 0) none (some value)) ≡ value ∷ []
  asks_yes h =
      let (own, there) = both_true (eqb (row % 65536) e) (not (eqb head 0)) h in
      let present : eqb head 0 ≡ false = not-true (eqb head 0) there in
      rw (present, own)

  asks_present : asks_for row head e ≡ true → head ≢ 0
  asks_present h = eqb-false head 0 (not-true (eqb head 0) (both_true (eqb (row % 65536) e) (not (eqb head 0)) h).1)

-- the rows before k gave none from `from` on
pub record Passed (words rows places : List ℕ) (e from k : ℕ) : Type 0 where
  pub after : from ≤ k
  pub inside : k ≤ length rows
  pub left : answers_after words rows places e from ≡ answers_after words rows places e k

pub passed_none : {words rows places : List ℕ} {e from : ℕ} → from ≤ length rows → Passed words rows places e from from
passed_none h = record { after = omega arith; inside = h; left = refl }

module _ {words rows places : List ℕ} {e from k : ℕ} (sofar : Passed words rows places e from k) where
  pub passed_all : length rows ≤ k → answers_after words rows places e from ≡ []
  unfolding answers_to
  passed_all h = sofar.left ∙ rw (drop_of_length-le rows h)

  module _ (heard : Heard words rows places) (h : k < length rows) where
    pub passed_next :
        asks_for (get_or rows k 0) (get_or words (get_or places k 0) 0) e ≡ false → Passed words rows places e from (k + 1)
    passed_next test = record {
      after = omega (arith, sofar.after);
      inside = omega arith;
      left = sofar.left ∙ answers_split heard h e ∙ rw (asks_not (get_or rows k 0) _ e (entity_at words (get_or places k 0)) test);
    }

    pub passed_found :
        asks_for (get_or rows k 0) (get_or words (get_or places k 0) 0) e ≡ true → FirstAnswer words rows places e from k
    passed_found test = record {
      after = sofar.after;
      inside = h;
      present = asks_present (get_or rows k 0) _ e (entity_at words (get_or places k 0)) test;
      answers = sofar.left ∙ answers_split heard h e ∙ rw (asks_yes (get_or rows k 0) _ e (entity_at words (get_or places k 0)) test);
    }

-- the first answer is one
pub first_some : {words rows places : List ℕ} {e k : ℕ} → FirstAnswer words rows places e 0 k → answers_for words rows places e ≢ []
first_some found none_there = let n = ap length (sym found.answers ∙ none_there) in omega arith

-- a search tells whether there is one
pub answer_some : (words rows places : List ℕ) (e : ℕ) (r : Maybe ℕ) → AnswerFound words rows places e 0 r → is_some r ≡ true → answers_for words rows places e ≢ []
answer_some words rows places e (Some k) found t = first_some found
answer_some words rows places e None found t = let z : ◌≡◌ {A = ℕ} 0 1 = cc in absurd (omega arith)

pub answer_none : (words rows places : List ℕ) (e : ℕ) (r : Maybe ℕ) → AnswerFound words rows places e 0 r → is_some r ≡ false → answers_for words rows places e ≡ []
answer_none words rows places e (Some k) found t = let z : ◌≡◌ {A = ℕ} 0 1 = cc in absurd (omega arith)
answer_none words rows places e None found t = found
