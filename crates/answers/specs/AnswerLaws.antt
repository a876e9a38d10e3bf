-- Laws of answers and sets of ids in words. No contract cites this file.
use Rattle.std.specs.Prelude.{ℕ, suc, ◌+◌, ◌-◌, ◌≤◌, ◌<◌, ◌≡◌, refl, Bool, true, false, cond, ◌&&◌, ◌≢◌, List, [], ◌∷◌, eqb, leb, ltb, length, take, drop, get_or, set}
use Rattle.std.proofs.Common.{add-zero, sym, ap, ◌∙◌, drop_of_length-le, length-take, length-drop, length-set, drop-cons, drop-drop, get_or-drop, length-take-le, take_all, get_or-set_same, get_or-set_other}
use Rattle.std.proofs.Math.Nat.{sub-zero}
use Rattle.std.proofs.Math.Numerals.{add-one}
use native.Mathlib.Omega.{arith}
use Rattle.std.specs.Prelude.{Some, None, Result, Ok, Err}
use Rattle.std.proofs.Math.Option.{Option, none, some, none-ne-some}
use Rattle.std.proofs.lemmas.List.{length-map, take-set-le}
use borrow.Author.Tests.{lt-ltb, le-ltb, le-leb, lt-leb, eq-eqb, ne_eqb, eqb-true, leb-true}
use Rattle.rules.specs.Facts.{by_test, by_option, both_true, cond-true, cond-some, compared}
use Rattle.rules.specs.Numbers.{Answer, accepted, refused, and_then}
use Rattle.rules.specs.Tries.{ids}
use Rattle.rules.proofs.MergeLaws.{IdsFrom}
use Rattle.rules.specs.ValueRowTests.{lawful_value_rows}
use Rattle.rules.proofs.ValueRowTestLaws.{lawful_rows_count}
use Rattle.rules.specs.Loading.{done, refused_at, summed}
use Rattle.values.specs.ValueWords.{value_row_in, value_rows_of}
use Rattle.answers.specs.Answers.{id_set, ReadItem, read_item, head_in, parent_words, attribute_words, is_entity, entity_in, answer_with, answer_at, set_with, set_at, front_of, checked_as, with_first, read_from, ItemOf, item_at, size_of_item, lent_from, lent_items, words_behind, AllRead, read_items, HasScratch, StandsAt, PlacedAt}
use Rattle.answers.specs.declared.Head.{Head}
use Rattle.answers.specs.declared.Lending.{Lending}
use Rattle.answers.specs.declared.Lending.TheVariants.{Answers, Sets}

-- ---- ids

-- i words are passed, and the others say whether all are a set of ids
pub record IdsTo (words : List ℕ) (i least : ℕ) : Type 0 where
  pub inside : i ≤ length words
  pub left : id_set 0 words ≡ id_set least (drop i words)

module _ {words : List ℕ} {i least : ℕ} (sofar : IdsTo words i least) where
  -- no word is left
  pub ids_all : length words ≤ i → id_set 0 words ≡ true
  unfolding id_set
  ids_all h = sofar.left ∙ rw (drop_of_length-le words h)

  module _ (more : i < length words) where
    words_left : drop i words ≡ get_or words i 0 ∷ drop (i + 1) words
    words_left = rw (add-one, drop-cons words i 0)

    -- the next word does not ascend
    pub ids_low : get_or words i 0 < least → id_set 0 words ≡ false
    unfolding id_set
    ids_low h = sofar.left ∙ rw (words_left, lt-leb least (get_or words i 0) h)

    module _ (high : least ≤ get_or words i 0) where
      -- it is no id
      pub ids_over : 65536 ≤ get_or words i 0 → id_set 0 words ≡ false
      unfolding id_set
      ids_over h = sofar.left ∙ rw (words_left, le-leb least (get_or words i 0) high, le-ltb (get_or words i 0) 65536 h)

      -- it is the next id
      pub ids_next : get_or words i 0 < 65536 → IdsTo words (i + 1) (get_or words i 0 + 1)
      unfolding id_set
      ids_next h = record {
        inside = omega arith;
        left = sofar.left ∙ rw (words_left, le-leb least (get_or words i 0) high, lt-ltb (get_or words i 0) 65536 h, add-one (get_or words i 0));
      }

-- ---- one at the front of words

-- ids that pass the test ascend
pub set_ids : (least : ℕ) (words : List ℕ) → id_set least words ≡ true → IdsFrom least words
unfolding id_set IdsFrom
set_ids least [] h = tt
set_ids least (id ∷ words) h =
    let (test, rest) = (cond-true (leb least id && ltb id ids) (id_set (suc id) words)).0 h in
    (leb-true least id (both_true (leb least id) (ltb id ids) test).0, set_ids (suc id) words rest)

-- what the test of an entity says, part by part
pub record EntityParts (head : Head) (words : List ℕ) : Type 0 where
  pub flag : head.flag ≡ 1
  pub fits : head.parents + head.rows ≤ length words
  pub parents : id_set 0 (parent_words head words) ≡ true
  pub rows : lawful_value_rows (value_rows_of (attribute_words head words)) ≡ true

pub entity_parts : (head : Head) (words : List ℕ) → is_entity head words ≡ true → EntityParts head words
entity_parts head words h =
    let forms = id_set 0 (parent_words head words) && lawful_value_rows (value_rows_of (attribute_words head words)) in
    let first = both_true (eqb head.flag 1) (leb (head.parents + head.rows) (length words) && forms) h in
    let second = both_true (leb (head.parents + head.rows) (length words)) forms first.1 in
    let third = both_true (id_set 0 (parent_words head words)) (lawful_value_rows (value_rows_of (attribute_words head words))) second.1 in
    record {
      flag = eqb-true head.flag 1 first.0;
      fits = leb-true (head.parents + head.rows) (length words) second.0;
      parents = third.0;
      rows = third.1;
    }

-- its size follows from its head, and it ends within the words
pub record Headed (lent : Lending) (words : List ℕ) (next : ReadItem (ItemOf lent)) : Type 0 where
  pub inside : 0 < length words
  pub size : next.size ≡ 1 + words_behind lent (get_or words 0 0)
  pub within : next.size ≤ length words
  pub worth : size_of_item lent next.item ≡ words_behind lent (get_or words 0 0)

module _ (word : ℕ) (words : List ℕ) where
  absent_headed : word ≡ 0 → Headed Answers (word ∷ words) (read_item none 1)
  absent_headed e = record { inside = omega arith; size = rw e; within = omega arith; worth = rw e }

  entity_headed :
      is_entity (head_in word) words ≡ true →
      Headed Answers (word ∷ words) (read_item (some (entity_in (head_in word) words)) (1 + words_behind Answers word))
  entity_headed h =
      let entity = entity_parts (head_in word) words h in
      let rows = attribute_words (head_in word) words in
      record {
        inside = omega arith;
        size = refl;
        within = omega arith;
        worth =
            omega (
              arith,
              length-take-le (head_in word).parents words (omega arith),
              length-take-le (head_in word).rows (drop (head_in word).parents words)
                  (omega (arith, length-drop (head_in word).parents words)),
              length-map rows value_row_in,
              lawful_rows_count (value_rows_of rows) entity.rows,
            );
      }

  set_headed : leb word (length words) ≡ true → Headed Sets (word ∷ words) (read_item (take word words) (1 + word))
  set_headed h =
      let fits : word ≤ length words = leb-true _ _ h in
      record { inside = omega arith; size = refl; within = omega arith; worth = length-take-le word words fits }

pub some_same : {A : Type 0} {a b : A} → some a ≡ some b → a ≡ b
some_same e = cc

pub headed : (lent : Lending) (words : List ℕ) (next : ReadItem (ItemOf lent)) → item_at lent words ≡ some next → Headed lent words next
headed Answers [] next e = absurd (none-ne-some next e)
headed Answers (word ∷ words) next e =
    by_test (eqb word 0)
    (λ t. let same : read_item none 1 ≡ next = some_same (rw t at e) in rw same at (absent_headed word words (eqb-true word 0 t)))
    (λ t. let found = cond-some _ _ _ (rw t at e) in rw (some_same found.1) at (entity_headed word words found.0))
headed Sets [] next e = absurd (none-ne-some next e)
headed Sets (word ∷ words) next e =
    let found = cond-some _ _ _ e in
    rw (some_same found.1) at (set_headed word words (both_true _ _ found.0).0)

-- nothing stands in no words
pub nothing_at : (lent : Lending) (words : List ℕ) → length words ≡ 0 → item_at lent words ≡ none
nothing_at Answers [] e = refl
nothing_at Sets [] e = refl
nothing_at lent (word ∷ words) e = absurd (omega arith)

-- the test of an entity, part by part
module _ (head : Head) (words : List ℕ) where
  pub other_flag : head.flag ≢ 1 → is_entity head words ≡ false
  other_flag other = rw (ne_eqb head.flag 1 other)

  module _ (flag : head.flag ≡ 1) where
    pub too_long : length words < head.parents + head.rows → is_entity head words ≡ false
    too_long h = rw (eq-eqb head.flag 1 flag, lt-leb (head.parents + head.rows) (length words) h)

    module _ (fits : head.parents + head.rows ≤ length words) where
      pub bad_parents : id_set 0 (parent_words head words) ≡ false → is_entity head words ≡ false
      bad_parents bad = rw (eq-eqb head.flag 1 flag, le-leb (head.parents + head.rows) (length words) fits, bad)

      pub by_rows :
          id_set 0 (parent_words head words) ≡ true
          → is_entity head words ≡ lawful_value_rows (value_rows_of (attribute_words head words))
      by_rows good = rw (eq-eqb head.flag 1 flag, le-leb (head.parents + head.rows) (length words) fits, good)

-- an absent entity, and one by its test
pub front_absent : (words : List ℕ) → 0 < length words → get_or words 0 0 ≡ 0 → front_of (answer_at words) ≡ Some 1
front_absent [] h e = absurd (omega arith)
front_absent (word ∷ words) h e = rw e

pub front_entity :
    (words : List ℕ) (t : Bool)
    → 0 < length words
    → get_or words 0 0 ≢ 0
    → is_entity (head_in (get_or words 0 0)) (take (length words - 1) (drop 1 words)) ≡ t
    → front_of (answer_at words) ≡ cond t (Some (1 + words_behind Answers (get_or words 0 0))) None
front_entity [] t h present e = absurd (omega arith)
front_entity (word ∷ words) t h present e = tested t (rw (take_all (suc (length words) - 1) words (omega arith)) at e)
  where
    tested :
        (t : Bool) → is_entity (head_in word) words ≡ t
        → front_of (answer_with word words) ≡ cond t (Some (1 + words_behind Answers word)) None
    tested true e = rw (ne_eqb word 0 present, e)
    tested false e = rw (ne_eqb word 0 present, e)

-- a set by the tests of its parts
pub front_set_long : (words : List ℕ) → 0 < length words → length words ≤ get_or words 0 0 → front_of (set_at words) ≡ None
front_set_long [] h k = absurd (omega arith)
front_set_long (count ∷ words) h k = rw (lt-leb count (length words) (omega arith))

pub front_set_ids :
    (words : List ℕ) (t : Bool)
    → get_or words 0 0 < length words
    → id_set 0 (take (1 + get_or words 0 0 - 1) (drop 1 words)) ≡ t
    → front_of (set_at words) ≡ cond t (Some (1 + get_or words 0 0)) None
front_set_ids [] t h e = absurd (omega arith)
front_set_ids (count ∷ words) t h e = let all : 1 + count - 1 ≡ count = omega arith in tested t (rw all at e)
  where
    tested : (t : Bool) → id_set 0 (take count words) ≡ t → front_of (set_with count words) ≡ cond t (Some (1 + count)) None
    tested true e = rw (le-leb count (length words) (omega arith), e)
    tested false e = rw (le-leb count (length words) (omega arith), e)

-- ---- one after the other

rest_read : {A : Type 0} (next : ReadItem A) (rest : Answer (ReadItem (List A))) → AllRead (and_then rest (λ more. accepted (with_first next more))) → AllRead rest
rest_read next (accepted all) h = tt
rest_read next (refused number place) h = h

rest_items :
    {A : Type 0} (next : ReadItem A) (rest : Answer (ReadItem (List A)))
    → AllRead rest
    → read_items (and_then rest (λ more. accepted (with_first next more))) ≡ next.item ∷ read_items rest
rest_items next (accepted all) h = refl
rest_items next (refused number place) h = absurd h

module _ {A : Type 0} (one : List ℕ → Option (ReadItem A)) where
  -- of some that are all of their form, the next and the others
  record Ahead (place left : ℕ) (words : List ℕ) : Type 0 where
    pub next : ReadItem A
    pub stands : one words ≡ some next
    pub fine : AllRead (read_from one (place + 1) left (drop next.size words))
    pub items : read_items (read_from one place (suc left) words) ≡ next.item ∷ read_items (read_from one (place + 1) left (drop next.size words))

  module _ (place left : ℕ) (words : List ℕ) where
    -- the first is not of its form, or it is and the others decide
    pub reads_wrong : one words ≡ none → read_from one place (suc left) words ≡ refused 1 place
    unfolding read_from
    reads_wrong e = rw (e, read_from)

    pub reads_next :
        {next : ReadItem A} → one words ≡ some next
        → read_from one place (suc left) words
        ≡ and_then (read_from one (place + 1) left (drop next.size words)) (λ more. accepted (with_first next more))
    unfolding read_from
    reads_next e = rw (e, read_from)

    ahead : AllRead (read_from one place (suc left) words) → Ahead place left words
    ahead h =
        by_option (one words)
        (λ e. absurd (rw (reads_wrong e) at h))
        (λ next e.
        let rest = read_from one (place + 1) left (drop next.size words) in
        let fine = rest_read next rest (rw (reads_next e) at h) in
        record { next = next; stands = e; fine = fine; items = rw (reads_next e) (rest_items next rest fine) })

-- k of them are passed, and the next stands at a place; all are of their form
pub record PassedTo (lent : Lending) (words : List ℕ) (count k at : ℕ) : Type 0 where
  pub few : k ≤ count
  pub fine : AllRead (lent_from lent k (count - k) (drop at words))
  pub items : drop k (lent_items lent count words) ≡ read_items (lent_from lent k (count - k) (drop at words))

pub passed_none : (lent : Lending) (words : List ℕ) (count : ℕ) → AllRead (lent_from lent 0 count words) → PassedTo lent words count 0 0
passed_none lent words count h = record { few = omega arith; fine = rw sub-zero h; items = rw sub-zero }

-- the next of them, with its head, and those behind it
pub record NextItem (lent : Lending) (words : List ℕ) (count k at : ℕ) : Type 0 where
  pub item : ItemOf lent
  pub stands : StandsAt lent words at item
  pub inside : at < length words
  pub within : at + (1 + words_behind lent (get_or words at 0)) ≤ length words
  pub worth : size_of_item lent item ≡ words_behind lent (get_or words at 0)
  pub items : drop k (lent_items lent count words) ≡ item ∷ drop (k + 1) (lent_items lent count words)
  pub passed : PassedTo lent words count (k + 1) (at + (1 + words_behind lent (get_or words at 0)))

module _ (lent : Lending) (words : List ℕ) (count k at : ℕ) (passed : PassedTo lent words count k at) where
  pub passed_next : k < count → NextItem lent words count k at
  passed_next more =
      let left : count - k ≡ suc (count - (k + 1)) = omega arith in
      onward left (ahead (item_at lent) k (count - (k + 1)) (drop at words) (rw left at passed.fine))
    where
      onward : count - k ≡ suc (count - (k + 1)) → Ahead (item_at lent) k (count - (k + 1)) (drop at words) → NextItem lent words count k at
      onward left found =
          let all = lent_items lent count words in
          let next = found.next in
          let head = headed lent (drop at words) next found.stands in
          let word : get_or (drop at words) 0 0 ≡ get_or words at 0 = get_or-drop at words 0 0 ∙ rw add-zero in
          let size : next.size ≡ 1 + words_behind lent (get_or words at 0) = rw word at head.size in
          let others = read_items (lent_from lent (k + 1) (count - (k + 1)) (drop (at + next.size) words)) in
          let here : drop k all ≡ next.item ∷ others
          = passed.items ∙ rw (left, ← drop-drop next.size at words) found.items in
          let rest : drop (k + 1) all ≡ others = sym (drop-drop 1 k all) ∙ rw here in
          let onto : PassedTo lent words count (k + 1) (at + next.size)
          = record { few = omega arith; fine = rw (← drop-drop next.size at words) found.fine; items = rest } in
          record {
            item = next.item;
            stands = (next.size, found.stands);
            inside = omega (arith, head.inside, length-drop at words);
            within = omega (arith, head.within, head.inside, length-drop at words);
            worth = rw word at head.worth;
            items = rw rest here;
            passed = rw size at onto;
          }

  -- none is left
  pub passed_all : count ≤ k → drop k (lent_items lent count words) ≡ []
  unfolding read_from
  passed_all h = let left : count - k ≡ 0 = omega arith in passed.items ∙ rw left

-- ---- the look at all

abbrev checked_from : {A : Type 0} → ℕ → Answer (ReadItem (List A)) → Result ℕ ℕ
checked_from at (accepted all) = Ok (at + all.size)
checked_from at (refused number place) = Err place

checked_from_none : {A : Type 0} (answer : Answer (ReadItem (List A))) → checked_as answer ≡ checked_from 0 answer
checked_from_none (accepted all) = ap {B = Result ℕ ℕ} Ok (omega arith)
checked_from_none (refused number place) = refl

checked_in_front :
    {A : Type 0} (at : ℕ) (next : ReadItem A) (rest : Answer (ReadItem (List A)))
    → checked_from at (and_then rest (λ more. accepted (with_first next more))) ≡ checked_from (at + next.size) rest
checked_in_front at next (accepted all) = ap {B = Result ℕ ℕ} Ok (omega arith)
checked_in_front at next (refused number place) = refl

-- k of them are of their form, and the others decide
pub record CheckedTo (lent : Lending) (words : List ℕ) (count k at : ℕ) : Type 0 where
  pub few : k ≤ count
  pub inside : at ≤ length words
  pub left : checked_as (lent_from lent 0 count words) ≡ checked_from at (lent_from lent k (count - k) (drop at words))

pub checked_none : (lent : Lending) (words : List ℕ) (count : ℕ) → CheckedTo lent words count 0 0
checked_none lent words count =
    record { few = omega arith; inside = omega arith; left = rw sub-zero (checked_from_none (lent_from lent 0 count words)) }

-- scratch for words serves for a part of them
pub scratch_part :
    (lent : Lending) (words levels scratch : List ℕ) (at : ℕ)
    → HasScratch lent words levels
    → length scratch ≡ length levels
    → HasScratch lent (take (length words - at) (drop at words)) scratch
scratch_part Answers words levels scratch at h e = simp (length-take, length-drop) (omega arith)
scratch_part Sets words levels scratch at h e = tt

-- what a look at the front says of what stands there
front_wrong : {A : Type 0} (o : Option (ReadItem A)) → front_of o ≡ None → o ≡ none
front_wrong none e = refl
front_wrong (some next) e = absurd (let z : ◌≡◌ {A = ℕ} 0 1 = cc in omega arith)

front_takes : {A : Type 0} (o : Option (ReadItem A)) {size : ℕ} → front_of o ≡ Some size → (next : ReadItem A) × (o ≡ some next) × (next.size ≡ size)
front_takes none e = absurd (let z : ◌≡◌ {A = ℕ} 0 1 = cc in omega arith)
front_takes (some next) e = (next, refl, cc)

module _ {lent : Lending} {words : List ℕ} {count k at : ℕ} (sofar : CheckedTo lent words count k at) where
  pub checked_all : count ≤ k → checked_as (lent_from lent 0 count words) ≡ Ok at
  unfolding read_from
  checked_all h = let none_left : count - k ≡ 0 = omega arith in sofar.left ∙ rw (none_left, add-zero)

  module _ (more : k < count) where
    left_behind : count - k ≡ suc (count - (k + 1))
    left_behind = omega arith

    lent_behind : take (length words - at) (drop at words) ≡ drop at words
    lent_behind = take_all (length words - at) (drop at words) (omega (arith, length-drop at words))

    -- the next is not of its form, or it takes so many words
    pub checked_wrong :
        front_of (item_at lent (take (length words - at) (drop at words))) ≡ None
        → checked_as (lent_from lent 0 count words) ≡ Err k
    checked_wrong e =
        let wrong = front_wrong (item_at lent (drop at words)) (rw lent_behind at e) in
        sofar.left ∙ rw (left_behind, reads_wrong (item_at lent) k (count - (k + 1)) (drop at words) wrong)

    pub checked_next :
        {size : ℕ} → front_of (item_at lent (take (length words - at) (drop at words))) ≡ Some size
        → CheckedTo lent words count (k + 1) (at + size)
    checked_next e =
        let (next, stands, size) = front_takes (item_at lent (drop at words)) (rw lent_behind at e) in
        let rest = lent_from lent (k + 1) (count - (k + 1)) (drop next.size (drop at words)) in
        let onto : CheckedTo lent words count (k + 1) (at + next.size)
        = record {
          few = omega arith;
          inside = omega (arith, (headed lent (drop at words) next stands).within, length-drop at words);
          left =
              sofar.left
              ∙ rw (left_behind, reads_next (item_at lent) k (count - (k + 1)) (drop at words) stands)
              (checked_in_front at next rest ∙ rw drop-drop);
        } in
        rw size at onto

-- ---- the sum

-- k of them are summed
pub record SumTo (lent : Lending) (words : List ℕ) (count sum k at total : ℕ) : Type 0 where
  pub passed : PassedTo lent words count k at
  pub low : total ≤ 8192
  pub left : summed (size_of_item lent) 0 sum (lent_items lent count words) ≡ summed (size_of_item lent) k total (drop k (lent_items lent count words))

module _ {lent : Lending} {words : List ℕ} {count sum k at total : ℕ} (sofar : SumTo lent words count sum k at total) where
  pub sum_all : count ≤ k → summed (size_of_item lent) 0 sum (lent_items lent count words) ≡ done total
  unfolding summed
  sum_all h = sofar.left ∙ rw (passed_all lent words count k at sofar.passed h)

  module _ (next : NextItem lent words count k at) where
    -- the next passes the limit, or does not
    pub sum_over :
        8192 < total + words_behind lent (get_or words at 0)
        → summed (size_of_item lent) 0 sum (lent_items lent count words) ≡ refused_at 15 k
    unfolding summed
    sum_over h = sofar.left ∙ rw (next.items, next.worth, lt-ltb 8192 (total + words_behind lent (get_or words at 0)) h)

    pub sum_next :
        total + words_behind lent (get_or words at 0) ≤ 8192
        → SumTo lent words count sum (k + 1) (at + (1 + words_behind lent (get_or words at 0))) (total + words_behind lent (get_or words at 0))
    unfolding summed
    sum_next h = record {
      passed = next.passed;
      low = h;
      left = sofar.left ∙ rw (next.items, next.worth, le-ltb 8192 (total + words_behind lent (get_or words at 0)) h, add-one k);
    }

-- ---- the places

-- the places of k of them are stored
pub record PlacesTo (lent : Lending) (words : List ℕ) (count to : ℕ) (places : List ℕ) (k at : ℕ) (stored : List ℕ) : Type 0 where
  pub passed : PassedTo lent words count k at
  pub long : length stored ≡ length places
  pub stands : (j : ℕ) (d : ItemOf lent) → j < k → StandsAt lent words (get_or stored (to + j) 0) (get_or (lent_items lent count words) j d)
  pub before : take to stored ≡ take to places

module _
    {lent : Lending} {words : List ℕ} {count to : ℕ} {places : List ℕ} {k at : ℕ} {stored : List ℕ}
    (sofar : PlacesTo lent words count to places k at stored)
  where
    pub places_all : count ≤ k → PlacedAt lent words (lent_items lent count words) places to stored
    places_all h =
        let all = lent_items lent count words in
        let none_left : length all - k ≡ 0 = sym (length-drop k all) ∙ ap length (passed_all lent words count k at sofar.passed h) in
        record { stands = λ j d i. sofar.stands j d (omega arith); before = sofar.before }

    pub places_next :
        to + count ≤ length places
        → k < count
        → (next : NextItem lent words count k at)
        → PlacesTo lent words count to places (k + 1) (at + (1 + words_behind lent (get_or words at 0))) (set stored (to + k) at)
    places_next room more next = record {
      passed = next.passed;
      long = length-set stored (to + k) at ∙ sofar.long;
      stands = λ j d i. compared j k (λ h. earlier j d h) (λ h. let here : j ≡ k = omega arith in rw here (own d));
      before = take-set-le to stored (to + k) at (omega arith) ∙ sofar.before;
    }
      where
        earlier : (j : ℕ) (d : ItemOf lent) → j < k → StandsAt lent words (get_or (set stored (to + k) at) (to + j) 0) (get_or (lent_items lent count words) j d)
        earlier j d h = rw (get_or-set_other stored (to + k) (to + j) at 0 (λ e. omega arith)) (sofar.stands j d h)

        own : (d : ItemOf lent) → StandsAt lent words (get_or (set stored (to + k) at) (to + k) 0) (get_or (lent_items lent count words) k d)
        own d =
            let item : get_or (lent_items lent count words) k d ≡ next.item
            = sym (rw add-zero at (get_or-drop k (lent_items lent count words) 0 d)) ∙ ap (λ rest. get_or rest 0 d) next.items in
            rw (get_or-set_same stored (to + k) at 0 (omega (arith, sofar.long)), item) next.stands
