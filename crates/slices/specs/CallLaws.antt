-- Laws for a caller: that answers and sets are heard, how many words they take, and that what was built is a slice. No contract cites this file.
use Rattle.std.specs.Prelude.{ℕ, suc, ◌+◌, ◌≤◌, ◌<◌, ◌≡◌, refl, ◌≢◌, List, [], ◌∷◌, ◌++◌, map, eqb, ltb, length, take, drop, get_or}
use Rattle.std.proofs.Common.{arith, sym, ap, ◌∙◌, append_assoc, length-drop, drop-drop, drop_at, length-take-le, eqb-true}
use Rattle.std.proofs.Math.Option.{Option, none, some, some-injective}
use Rattle.std.proofs.lemmas.List.Edits.{sets-eq}
use Rattle.std.proofs.lemmas.Bool.{eqb-false}
use Rattle.rules.specs.Facts.{by_test, compared}
use Rattle.rules.proofs.StepLaws.{Each}
use Rattle.rules.specs.Values.{Entity}
use Rattle.rules.proofs.MergeLaws.{bind_given, merged_of}
use Rattle.rules.specs.Loading.{done, EntityRequest, Loaded, loaded, loaded_as, size_of_answer, summed, with_ids, with_ancestors}
use Rattle.rules.proofs.SliceLaws.{answers_to, SliceFrom, SliceOf, ids_to, ancestors_loaded, ancestors_ascend, before_first}
use Rattle.answers.specs.Answers.{read_item, StandsAt}
use Rattle.answers.specs.AnswerLaws.{headed, set_ids}
use Rattle.answers.specs.LentLaws.{absent_stands, entity_stands, set_stands}
use Rattle.answers.specs.declared.Lending.TheVariants.{Answers, Sets}
use Rattle.slices.specs.Slices.{
  parent_count,
  row_count,
  rows_at,
  answer_in,
  rows_asked,
  answers_in,
  EntityStands,
  Heard,
  slice_words,
  set_in,
  sets_in,
  SetsHeard,
  answer_size,
  total,
  SliceFit,
  WroteSlice,
  FitsHead,
  SliceStands,
}
use Rattle.slices.specs.IdLaws.{ids_sizes}
use Rattle.slices.specs.EntityLaws.{merged_some, sizes_enough}
use Rattle.slices.specs.BuildLaws.{loaded_other, loaded_own, id_small, words_all, words_next}
use Rattle.slices.specs.declared.Built.{Built}

-- ---- answers and sets that stand at places

-- a list is what is read at its places
read_at :
    {A : Type 0} (f : ℕ → A) (places : List ℕ) (items : List A) (d : A)
    → length places ≡ length items
    → ((k : ℕ) → k < length items → f (get_or places k 0) ≡ get_or items k d)
    → map f places ≡ items
read_at f [] [] d same h = refl
read_at f [] (x ∷ items) d same h = absurd (omega arith)
read_at f (p ∷ places) [] d same h = absurd (omega arith)
read_at f (p ∷ places) (x ∷ items) d same h =
    rw (h 0 (omega arith), read_at f places items d (omega arith) (λ k less. h (suc k) (omega arith)))

module _ (words : List ℕ) (place : ℕ) where
  answer_inside : (answer : Option Entity) → StandsAt Answers words place answer → place < length words
  answer_inside answer (size, e) = omega
      (arith, (headed Answers (drop place words) (read_item answer size) e).inside, length-drop place words)

  set_inside : (set : List ℕ) → StandsAt Sets words place set → place < length words
  set_inside set (size, e) = omega (arith, (headed Sets (drop place words) (read_item set size) e).inside, length-drop place words)

  rows_are : rows_at words place ≡ take (row_count words place) (drop (parent_count words place) (drop (place + 1) words))
  rows_are = rw (drop-drop (parent_count words place) (place + 1) words)

  answer_is : (answer : Option Entity) → StandsAt Answers words place answer → answer_in words place ≡ answer
  answer_is answer stands =
      by_test (eqb (get_or words place 0) 0)
      (λ t. rw t (sym (absent_stands words place answer stands (eqb-true (get_or words place 0) 0 t))))
      (λ t. rw (t, rows_are) (sym (entity_stands words place answer stands (eqb-false (get_or words place 0) 0 t)).0))

  answer_entity : (answer : Option Entity) → StandsAt Answers words place answer → get_or words place 0 ≢ 0 → EntityStands words place
  answer_entity answer stands present =
      let parts = (entity_stands words place answer stands present).1 in
      record {
        fits = omega (arith, parts.fits, answer_inside answer stands, length-drop (place + 1) words);
        ids_ascend = parts.parents;
        lawful = rw rows_are parts.rows;
      }

-- answers by their places are heard, and are those that are read there
module _ (words rows places : List ℕ) (answers : List (Option Entity))
    (as_many : length places ≡ length rows) (counted : length answers ≡ length rows)
    (stands : (k : ℕ) → k < length answers → StandsAt Answers words (get_or places k 0) (get_or answers k none))
  where
    pub answers_heard : Heard words rows places
    answers_heard = record {
      as_many = as_many;
      inside = λ k less. answer_inside words (get_or places k 0) _ (stands k (omega arith));
      stands = λ k less present. answer_entity words (get_or places k 0) _ (stands k (omega arith)) present;
    }

    pub answers_are : answers_in words places ≡ answers
    answers_are = read_at (answer_in words) places answers none (omega arith) (λ k less. answer_is words (get_or places k 0) _ (stands k less))

-- and sets
module _ (rows sets-words places : List ℕ) (sets_read : List (List ℕ))
    (as_many : length places ≤ length rows) (counted : length sets_read ≡ length places)
    (stands : (k : ℕ) → k < length sets_read → StandsAt Sets sets-words (get_or places k 0) (get_or sets_read k []))
  where
    set_at : (k : ℕ) → k < length sets_read → set_in sets-words (get_or places k 0) ≡ get_or sets_read k []
    set_at k less = sym (set_stands sets-words (get_or places k 0) _ (stands k less)).0

    pub sets_heard : SetsHeard rows sets-words places
    sets_heard = record {
      as_many = as_many;
      fits = λ k less.
          let h : k < length sets_read = omega arith in
          omega (
            arith,
            (set_stands sets-words (get_or places k 0) _ (stands k h)).1,
            set_inside sets-words (get_or places k 0) _ (stands k h),
            length-drop (get_or places k 0 + 1) sets-words,
          );
      ids_ascend = λ k less.
          let h : k < length sets_read = omega arith in
          rw (set_at k h) (set_ids 0 _ (set_stands sets-words (get_or places k 0) _ (stands k h)).2);
    }

    pub sets_are : sets_in sets-words places ≡ sets_read
    sets_are = read_at (set_in sets-words) places sets_read [] (omega arith) set_at

-- ---- how many words they take

-- a word for each answer's head, and what is summed
pub answers_total : (answers : List (Option Entity)) → total (map answer_size answers) ≤ length answers + total (map size_of_answer answers)
unfolding total
answers_total [] = omega arith
answers_total (none ∷ answers) = omega (arith, answers_total answers)
answers_total (some value ∷ answers) = omega (arith, answers_total answers)

pub summed_total :
    {A : Type 0} (size : A → ℕ) (place sum : ℕ) (items : List A) (all : ℕ)
    → summed size place sum items ≡ done all
    → all ≡ sum + total (map size items)
unfolding summed total
summed_total size place sum [] all e = let same : sum ≡ all = cc in omega arith
summed_total size place sum (x ∷ items) all e =
    by_test (ltb 8192 (sum + size x))
    (λ t. let z : ◌≡◌ {A = ℕ} 0 1 = cc (rw t at e) in absurd (omega arith))
    (λ t. let rest = summed_total size (suc place) (sum + size x) items all (rw t at e) in omega arith)

-- ---- what was built

pub no_ancestors : (rows : List EntityRequest) (slice : List Loaded) → with_ancestors rows [] slice ≡ slice
unfolding with_ancestors
no_ancestors [] slice = refl
no_ancestors (row ∷ rows) slice = refl

-- what holds of each entity that is loaded holds of the entities of an ascending slice
pub each_loaded :
    (P : Loaded → Type 0) (least : ℕ) (slice : List Loaded)
    → SliceFrom least slice
    → ((e : ℕ) (value : Entity) → loaded_as e slice ≡ some value → P (loaded e value))
    → Each P slice
unfolding SliceFrom Each
each_loaded P least [] h each = tt
each_loaded P least (l ∷ ls) h each = (
  each l.id l.value (loaded_own l ls l.id refl),
  each_loaded P (suc l.id) ls h.1 (λ e value given.
      compared l.id e
      (λ less. each e value (loaded_other l ls e (λ same. omega arith) ∙ given))
      (λ not-less. let z : ◌≡◌ {A = ℕ} 0 1 = cc (before_first e (suc l.id) ls (omega arith) h.1) in absurd (omega arith))),
)

module _ {words rows places sets-words set-places out : List ℕ} {to : ℕ} {scratch : List ℕ}
    (fit : SliceFit words rows places sets-words set-places out to scratch)
  where
    heads_fit :
        (slice : List Loaded)
        → SliceOf (rows_asked rows) (answers_in words places) slice
        → Each FitsHead (with_ancestors (rows_asked rows) (sets_in sets-words set-places) slice)
    heads_fit slice slice_of =
        each_loaded FitsHead 0 _ (ancestors_ascend (rows_asked rows) (sets_in sets-words set-places) 0 slice slice_of.ascends)
        (λ e value given.
        let (m, there, is) = bind_given (loaded_as e slice) _
        (sym (ancestors_loaded (rows_asked rows) (sets_in sets-words set-places) slice e) ∙ given) in
        let merged : merged_of (answers_to e (rows_asked rows) (answers_in words places)) ≡ some m = sym (slice_of.merged e) ∙ there in
        let more = words_next words rows places sets-words set-places 0 e (omega arith) in
        let ids = ids_to e (rows_asked rows) (sets_in sets-words set-places) in
        let parents : length (with_ids ids m.parents)
        ≡ length value.parents = ap (λ (v : Entity). length v.parents) (some-injective _ _ is) in (
          id_small e rows (answers_in words places) (λ none_there. merged_some _ m merged none_there),
          omega (
            arith,
            parents,
            (ids_sizes ids m.parents).1,
            sizes_enough _ m merged,
            more,
            words_all words rows places sets-words set-places (suc e),
            fit.few,
          ),
        ))

    -- from its place on there stands a slice, in which an entity may be looked for
    pub built_stands :
        (slice : List Loaded) {out' : List ℕ} {built : Built}
        → SliceOf (rows_asked rows) (answers_in words places) slice
        → WroteSlice (with_ancestors (rows_asked rows) (sets_in sets-words set-places) slice) out to out' built
        → SliceStands (drop to out') built.count (with_ancestors (rows_asked rows) (sets_in sets-words set-places) slice)
    built_stands slice slice_of wrote =
        let run = slice_words (with_ancestors (rows_asked rows) (sets_in sets-words set-places) slice) in
        let room : to + length run ≤ length out = omega (arith, wrote.wrote.after, wrote.inside) in
        record {
          behind = drop (to + length run) out;
          stands =
              rw (wrote.wrote.text, sets-eq run out to room, append_assoc (take to out) run (drop (to + length run) out))
              (drop_at (take to out) (run ++ drop (to + length run) out) to (length-take-le to out (omega arith)));
          counted = wrote.counted;
          heads = heads_fit slice slice_of;
        }
