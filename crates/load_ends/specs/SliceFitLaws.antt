-- Laws of the slice of a load that was read: its answers are heard, and there is room for it. No contract cites this file.
use Rattle.std.specs.Prelude.{ℕ, zero, suc, ◌+◌, ◌≤◌, ◌<◌, ◌≡◌, refl, true, List, [], ◌∷◌, map, leb, eqb, length, take, get_or}
use Rattle.std.proofs.Common.{zero-add, arith, sym, ap, ◌∙◌, length-take-le, get_or-take, leb-true}
use Rattle.std.proofs.Math.Option.{Option, none}
use Rattle.std.proofs.lemmas.List.{length-map}
use Rattle.rules.specs.Facts.{both_true}
use Rattle.rules.specs.Values.{Entity}
use Rattle.rules.specs.Loading.{LoadAnswer, done, refused_at, counted, summed, size_of_answer}
use Rattle.rules.specs.LoadCalls.{is_summed}
use Rattle.rules.proofs.SliceLaws.{SliceOf}
use Rattle.answers.specs.Answers.{lent_items, StandsAt, PlacedAt}
use Rattle.answers.specs.declared.Lending.TheVariants.{Answers, Sets}
use Rattle.batches.specs.Hearings.{heard_at, heard_before, AnswerStands}
use Rattle.batches.specs.HearingLaws.{all_stand}
use Rattle.slices.specs.Slices.{rows_asked, answers_in, Heard, sets_in, answer_size, total, SliceFit}
use Rattle.slices.specs.CallLaws.{answers_heard, answers_are, sets_heard, sets_are, answers_total, summed_total}
use Rattle.load_state.specs.LoadStates.{answer_words, set_words}
use Rattle.load_state.specs.WorkedLaws.{items_counted, sum_few}
use Rattle.load_state.specs.TurnLaws.{ended_fits, lent_told}
use Rattle.load_ends.specs.Ends.{ReadTo}
use Rattle.load_ends.specs.LoadedLaws.{read_parts, read_few, read_asked, read_inside, rows_are, read_summed}

-- ---- the answers

-- an element of a list that is mapped
map_at : {A : Type 0} (f : ℕ → A) (l : List ℕ) (k : ℕ) (d : A) → k < length l → get_or (map f l) k d ≡ f (get_or l k 0)
map_at f [] k d less = absurd (omega arith)
map_at f (x ∷ l) zero d less = refl
map_at f (x ∷ l) (suc k) d less = map_at f l k d (omega arith)

standing_is : (words : List ℕ) (at : ℕ) → AnswerStands words at → StandsAt Answers words at (heard_at words at)
standing_is words at (item, e) = (item.size, rw e)

module _ {state rows places : List ℕ} {asked batches sum : ℕ} (read : ReadTo state rows places asked batches sum) (room : 4096 ≤ length places) where
  abbrev words : List ℕ
  words = answer_words state

  abbrev heards : List (Option Entity)
  heards = heard_before words places asked

  rows_many : length (take asked rows) ≡ asked
  rows_many = length-take-le asked rows (read_inside read)

  places_many : length (take asked places) ≡ asked
  places_many = length-take-le asked places (omega (arith, read_few read))

  heards_many : length heards ≡ asked
  heards_many = length-map (take asked places) (heard_at words) ∙ places_many

  stands : (k : ℕ) → k < length heards → StandsAt Answers words (get_or (take asked places) k 0) (get_or heards k none)
  stands k less =
      let inside : k < length (take asked places) = omega (arith, heards_many, places_many) in
      rw (map_at (heard_at words) (take asked places) k none inside)
      (standing_is words (get_or (take asked places) k 0)
      (all_stand words (take asked places) k (rw read.came.all_asked read.came.stand) inside))

  pub read_heard : Heard words (take asked rows) (take asked places)
  read_heard = answers_heard words (take asked rows) (take asked places) heards (places_many ∙ sym rows_many) (heards_many ∙ sym rows_many) stands

  answers_read : answers_in words (take asked places) ≡ heards
  answers_read = answers_are words (take asked rows) (take asked places) heards (places_many ∙ sym rows_many) (heards_many ∙ sym rows_many) stands

  -- they come to the load's slice
  pub read_slice : SliceOf (rows_asked (take asked rows)) (answers_in words (take asked places)) read.load.slice
  read_slice = rw (rows_are read, answers_read, read.came.all_asked) read.came.at.load_of.slice-of

  heards_are : heards ≡ lent_items Answers (get_or state 7 0) words
  heards_are = rw read.came.all_asked read.came.heard

  -- and take a word for each row, and what was summed
  pub read_size : total (map answer_size (answers_in words (take asked places))) ≤ 4096 + read.load.sum
  read_size =
      let all = summed_total size_of_answer 0 0 (lent_items Answers (get_or state 7 0) words) read.load.sum (read_summed read) in
      rw answers_read (omega (arith, answers_total heards, heards_many, read_few read, ap (λ l. total (map size_of_answer l)) heards_are, all))

  -- with no sets there is room for it
  pub asking_fit :
      (out scratch : List ℕ)
      → 12288 ≤ length out
      → 12288 ≤ length scratch
      → SliceFit words (take asked rows) (take asked places) [] [] out 0 scratch
  unfolding total
  asking_fit out scratch out-room scratch_room =
      record {
        heard = read_heard;
        sets_heard = record { as_many = omega arith; fits = λ k less. absurd (omega arith); ids_ascend = λ k less. absurd (omega arith) };
        slice = read.load.slice;
        slice-of = read_slice;
        few_rows = omega (arith, rows_many, read_few read);
        sort_room = omega (arith, rows_many, read_few read);
        few = omega (arith, read_size, read.came.total, read.came.few);
        room = omega (arith, read_size, read.came.total, read.came.few);
        scratch_room = omega (arith, read_size, read.came.total, read.came.few);
      }

-- ---- the sets

summed_done : (o : LoadAnswer ℕ) → is_summed o ≡ true → (all : ℕ) × (o ≡ done all)
summed_done (done all) e = (all, refl)
summed_done (refused_at number place) e = let z : ◌≡◌ {A = ℕ} 0 1 = cc in absurd (omega arith)
summed_done (counted expected got) e = let z : ◌≡◌ {A = ℕ} 0 1 = cc in absurd (omega arith)

module _ {state rows places : List ℕ} {asked batches sum : ℕ} (read : ReadTo state rows places asked batches sum) (room : 4096 ≤ length places)
    (late : 5 ≤ get_or state 0 0)
    (before set-places : List ℕ)
    (placed : PlacedAt Sets (set_words state) (lent_items Sets (get_or state 8 0) (set_words state)) before 0 set-places)
    (set_room : 4096 ≤ length set-places)
  where
    abbrev sets_lent : List (List ℕ)
    sets_lent = lent_items Sets (get_or state 8 0) (set_words state)

    abbrev first_places : List ℕ
    first_places = take (get_or state 8 0) set-places

    -- at the end there are no more sets than rows, and all sums are within the limit
    ended_sums : (length sets_lent ≤ length read.load.asked) × ((all : ℕ) × (summed length 0 read.load.sum sets_lent ≡ done all))
    ended_sums =
        let fits = sym (ended_fits (get_or state 0 0) read.load sets_lent late) ∙ (lent_told state read.load read.told).1 in
        let (few, sums) = both_true (leb (length sets_lent) (length read.load.asked)) _ (both_true (eqb (length read.load.waiting) 0) _ fits).1 in
        (leb-true _ _ few, summed_done _ sums)

    sets_many : length sets_lent ≡ get_or state 8 0
    sets_many = items_counted Sets (get_or state 8 0) (set_words state) (read_parts read).sets_read

    first_many : length first_places ≡ get_or state 8 0
    first_many = length-take-le (get_or state 8 0) set-places (omega (arith, (read_parts read).few_sets))

    sets_within : length first_places ≤ length (take asked rows)
    sets_within = omega (arith, first_many, sets_many, ended_sums.0, read_asked read, length-take-le asked rows (read_inside read))

    set_at : (k : ℕ) → k < length sets_lent → StandsAt Sets (set_words state) (get_or first_places k 0) (get_or sets_lent k [])
    set_at k less =
        rw (get_or-take (get_or state 8 0) set-places k 0 (omega (arith, sets_many))) (rw zero-add at (placed.stands k [] less))

    pub ended_sets : sets_in (set_words state) first_places ≡ sets_lent
    ended_sets = sets_are (take asked rows) (set_words state) first_places sets_lent sets_within (sets_many ∙ sym first_many) set_at

    -- how many words all take
    all_few :
        total (map answer_size (answers_in (answer_words state) (take asked places))) + total (map length (sets_in (set_words state) first_places)) ≤ 12288
    all_few =
        let (all, sums) = ended_sums.1 in
        let small : read.load.sum ≤ 8192 = omega (arith, read.came.total, read.came.few) in
        rw ended_sets
        (omega (
          arith,
          read_size read room,
          summed_total length 0 read.load.sum sets_lent all sums,
          sum_few length 0 read.load.sum sets_lent all small sums,
        ))

    pub ended_fit :
        (out scratch : List ℕ)
        → 12289 ≤ length out
        → 12288 ≤ length scratch
        → SliceFit (answer_words state) (take asked rows) (take asked places) (set_words state) first_places out 1 scratch
    ended_fit out scratch out-room scratch_room = record {
      heard = read_heard read room;
      sets_heard = sets_heard (take asked rows) (set_words state) first_places sets_lent sets_within (sets_many ∙ sym first_many) set_at;
      slice = read.load.slice;
      slice-of = read_slice read room;
      few_rows = omega (arith, rows_many read room, read_few read);
      sort_room = omega (arith, rows_many read room, read_few read);
      few = omega (arith, all_few);
      room = omega (arith, all_few);
      scratch_room = omega (arith, all_few);
    }
