-- Laws of a batch's answers taken one after the other in words. No contract cites this file.
use Rattle.std.specs.Prelude.{ℕ, suc, ◌+◌, ◌-◌, ◌≤◌, ◌<◌, ◌≡◌, eqb, length, take, drop, get_or}
use Rattle.std.proofs.Common.{arith, add-one, sym, ap, ◌∙◌, length-drop, length-take-le, drop-cons, drop-drop, take-add, take_at, take-take, drop_at, get_or-take, eqb-true}
use Rattle.std.proofs.Math.Nat.{sub_self}
use Rattle.std.proofs.Math.Path.{refl}
use mathlib.Core.List.{List, [], ◌∷◌, ◌++◌, map, map-append}
use Rattle.std.proofs.Math.Option.{Option}
use Rattle.std.proofs.lemmas.List.{length-map}
use Rattle.std.proofs.lemmas.Bool.{eqb-false}
use Rattle.rules.specs.Facts.{by_test}
use Rattle.rules.specs.Tries.{Row}
use Rattle.rules.proofs.StepLaws.{Each}
use Rattle.rules.specs.Values.{Entity}
use Rattle.rules.proofs.ValueRowLaws.{Every}
use Rattle.rules.proofs.ValueRowTestLaws.{lawful_read}
use Rattle.rules.specs.Loading.{LoadAnswer, done, refused_at, counted, ◌then◌, EntityRequest, AnswersTaken, Load, take_answers}
use Rattle.rules.proofs.LoadLaws.{rows_fit_so_far}
use Rattle.rules.proofs.MergeLaws.{GoodEntity}
use Rattle.rules.proofs.TakeLaws.{taken_by, all_taken_by, taken_append, taken_one, slices_after, takes_by}
use Rattle.values.specs.ValueWords.{value_rows_of, row_asked, request_word}
use Rattle.answers.specs.Answers.{head_in}
use Rattle.answers.specs.AnswerLaws.{set_ids}
use Rattle.words.specs.Runs.{Wrote}
use Rattle.words.specs.Replies.{Refused}
use Rattle.words.specs.RunLaws.{wrote_length, wrote_more}
use Rattle.words.specs.SeqLaws.{take-sets}
use Rattle.batches.specs.Hearings.{heard_at, asked_before, heard_before, asked_in, heard_in, AnswerStands, AllStand}
use Rattle.batches.specs.HearingLaws.{standing_absent, standing_present, all_stand}
use Rattle.batches.specs.Takes.{StaysBefore, TakenInto, LoadAt}
use Rattle.std.specs.Prelude.{Ok}

-- Answers that stand are good.

pub standing_good : (words : List ℕ) (at : ℕ) → AnswerStands words at → Every GoodEntity (heard_at words at)
standing_good words at s =
    by_test (eqb (get_or words at 0) 0)
    (λ t. rw (standing_absent words at s (eqb-true (get_or words at 0) 0 t)) tt)
    (λ t.
    let head = head_in (get_or words at 0) in
    let there = standing_present words at s (eqb-false (get_or words at 0) 0 t) in
    let run = take head.rows (drop (at + 1 + head.parents) words) in
    rw there.is
    (record {
      ids_ascend = set_ids 0 (take head.parents (drop (at + 1) words)) there.ids_ascend;
      fields_ascend = (lawful_read (value_rows_of run) there.good).2;
    }))

pub all_good : (words places : List ℕ) → AllStand words places → Each (Every GoodEntity) (map (heard_at words) places)
unfolding AllStand Each
all_good words [] h = tt
all_good words (at ∷ places) h = (standing_good words at h.0, all_good words places h.1)

pub stand_split : (words l m : List ℕ) → AllStand words (l ++ m) → AllStand words l × AllStand words m
unfolding AllStand
stand_split words [] m h = (tt, h)
stand_split words (at ∷ l) m h = let (left, right) = stand_split words l m h.1 in ((h.0, left), right)

-- Parts of a list.

-- what stands before a place, in two parts
pub front_split : (l : List ℕ) (from i : ℕ) → from ≤ i → take i l ≡ take from l ++ take (i - from) (drop from l)
front_split l from i le =
    let whole : from + (i - from) ≡ i = omega arith in
    rw whole at (take-add from (i - from) l)

-- the answers before a row stand, and its own
pub stand_at :
    (words places : List ℕ) (i to : ℕ)
    → i < to
    → to ≤ length places
    → AllStand words (take to places)
    → AllStand words (take i places) × AnswerStands words (get_or places i 0)
stand_at words places i to less inside h = (
  (stand_split words (take i places) (take (to - i) (drop i places)) (rw (front_split places i to (omega arith)) at h)).0,
  rw (get_or-take to places i 0 less) at (all_stand words (take to places) i h (omega (arith, length-take-le to places inside))),
)

-- what stands between two places, in two parts, and its first
pub part_split :
    (l : List ℕ) (from i to : ℕ)
    → from ≤ i
    → i ≤ to
    → take (to - from) (drop from l) ≡ take (i - from) (drop from l) ++ take (to - i) (drop i l)
part_split l from i to le less =
    let whole : (i - from) + (to - i) ≡ to - from = omega arith in
    let place : from + (i - from) ≡ i = omega arith in
    rw (whole, drop-drop (i - from) from l, place) at (take-add (i - from) (to - i) (drop from l))

part_first :
    (l : List ℕ) (i to : ℕ) → i < to → i < length l → take (to - i) (drop i l) ≡ get_or l i 0 ∷ take (to - (i + 1)) (drop (i + 1) l)
part_first l i to less inside =
    let count : to - i ≡ suc (to - (i + 1)) = omega arith in
    rw (count, drop-cons l i 0 inside, add-one)

pub part_length : (l : List ℕ) (from i : ℕ) → from ≤ i → i ≤ length l → length (take (i - from) (drop from l)) ≡ i - from
part_length l from i le inside = length-take-le (i - from) (drop from l) (omega (arith, length-drop from l))

-- how many rows were asked, and how many wait
pub load_lengths :
    (nodes : List Row) (words rows places : List ℕ) (from to : ℕ) (s : List ℕ) (load : Load)
    → LoadAt words rows places from to s nodes load
    → (length load.asked ≡ from) × (length load.waiting ≡ to - from)
load_lengths nodes words rows places from to s load at = (
  rw at.asked_are (length-map (take from rows) row_asked ∙ length-take-le from rows (omega (arith, at.ahead, at.fits))),
  rw at.waiting_are (length-map (take (to - from) (drop from rows)) row_asked ∙ part_length rows from to at.ahead at.fits),
)

-- The loop over a batch's rows.
module _ (nodes : List Row) (words rows places : List ℕ) (from to : ℕ) where
  -- what the batch's answers come to, up to a row
  abbrev pub taken_up_to : ℕ → LoadAnswer (List EntityRequest)
  taken_up_to i =
      all_taken_by nodes (asked_before rows from) (heard_before words places from) 0 (asked_in rows from to) (heard_in words places from i)

  -- What the loop keeps: what was taken is written behind the rows.
  pub record TakenSoFar (i : ℕ) (out : List ℕ) (end : ℕ) : Type 0 where
    pub from_on : from ≤ i
    pub up-to : i ≤ to
    pub found : List EntityRequest
    pub taken : taken_up_to i ≡ done found
    pub wrote : Wrote rows to (map request_word found) out end

  nothing_taken :
      (asked waiting : List EntityRequest) (before : List (Option Entity)) → all_taken_by nodes asked before 0 waiting [] ≡ done []
  unfolding all_taken_by
  nothing_taken asked [] before = refl
  nothing_taken asked (row ∷ waiting) before = refl

  pub taking_none : from ≤ to → TakenSoFar from rows to
  taking_none le =
      record {
        from_on = omega arith;
        up-to = le;
        found = [];
        taken = rw (sub_self from) (nothing_taken (asked_before rows from) (asked_in rows from to) (heard_before words places from));
        wrote = record { after = omega arith; text = refl };
      }

  module _ (inside : to ≤ length places) (fits : to ≤ length rows) (i : ℕ) (on : from ≤ i) (less : i < to) where
    heard_length : length (heard_in words places from i) ≡ i - from
    heard_length = length-map (take (i - from) (drop from places)) (heard_at words) ∙ part_length places from i on (omega arith)

    asked_length : length (asked_in rows from i) ≡ length (heard_in words places from i)
    asked_length =
        length-map (take (i - from) (drop from rows)) row_asked ∙ part_length rows from i on (omega arith) ∙ sym heard_length

    heard_next : heard_in words places from (i + 1) ≡ heard_in words places from i ++ (heard_at words (get_or places i 0) ∷ [])
    heard_next =
        let one : i + 1 - i ≡ suc 0 = omega arith in
        let split = rw (one, drop-cons places i 0 (omega arith)) at (part_split places from i (i + 1) on (omega arith)) in
        ap (map (heard_at words)) split
        ∙ map-append (heard_at words) (take (i - from) (drop from places)) (get_or places i 0 ∷ [])

    asked_next :
        asked_in rows from to ≡ asked_in rows from i ++ (row_asked (get_or rows i 0) ∷ asked_in rows (i + 1) to)
    asked_next =
        let split = rw (part_first rows i to less (omega arith)) at (part_split rows from i to on (omega arith)) in
        ap (map row_asked) split
        ∙ map-append row_asked (take (i - from) (drop from rows)) (get_or rows i 0 ∷ take (to - (i + 1)) (drop (i + 1) rows))

    asked_front : asked_before rows from ++ asked_in rows from i ≡ asked_before rows i
    asked_front =
        sym (map-append row_asked (take from rows) (take (i - from) (drop from rows)))
        ∙ ap (map row_asked) (sym (front_split rows from i on))

    heard_front : heard_before words places from ++ heard_in words places from i ≡ heard_before words places i
    heard_front =
        sym (map-append (heard_at words) (take from places) (take (i - from) (drop from places)))
        ∙ ap (map (heard_at words)) (sym (front_split places from i on))

    -- one answer more
    pub taken_next :
        taken_up_to (i + 1)
        ≡ (taken_up_to i then
        (λ found.
        taken_by nodes (asked_before rows i) (heard_before words places i) (i - from) (row_asked (get_or rows i 0))
        (heard_at words (get_or places i 0))
        then
        (λ more. done (found ++ more))))
    taken_next =
        let n : ℕ = length (heard_in words places from i) in
        let rest : List EntityRequest = row_asked (get_or rows i 0) ∷ asked_in rows (i + 1) to in
        let split =
        taken_append nodes (asked_before rows from) (heard_before words places from) 0 (asked_in rows from to) (heard_in words places from i)
        (heard_at words (get_or places i 0) ∷ []) in
        let taken : take n (asked_in rows from to) ≡ asked_in rows from i =
        rw asked_next (take_at (asked_in rows from i) rest n asked_length) in
        let left : drop n (asked_in rows from to) ≡ rest = rw asked_next (drop_at (asked_in rows from i) rest n asked_length) in
        let place : 0 + n ≡ i - from = omega (arith, heard_length) in
        rw heard_next
        (split
        ∙ rw (
          taken,
          left,
          place,
          asked_front,
          heard_front,
          taken_one nodes (asked_before rows i) (heard_before words places i) (i - from) (row_asked (get_or rows i 0)) (asked_in rows (i + 1) to)
              (heard_at words (get_or places i 0)),
        ))

    module _ (out : List ℕ) (end : ℕ) (xs : List ℕ) (wrote : Wrote rows to xs out end) where
      -- the rows that wait are as they were
      waits_on : (asked_before out i ≡ asked_before rows i) × (get_or out i 0 ≡ get_or rows i 0)
      waits_on =
          let same : take to out ≡ take to rows = rw wrote.text (take-sets to rows to xs (omega arith)) in
          let before : take i out ≡ take i rows = rw wrote.text (take-sets i rows to xs (omega arith)) in (
            ap (map row_asked) before,
            sym (get_or-take to out i 0 less) ∙ ap (λ (l : List ℕ). get_or l i 0) same ∙ get_or-take to rows i 0 less,
          )

  -- a batch is taken, or a row of it is refused, which refuses the batch
  module _
      (inside : to ≤ length places) (fits : to ≤ length rows) (i : ℕ) (less : i < to)
      (out : List ℕ) (end : ℕ)
      (sofar : TakenSoFar i out end)
    where
      abbrev pub taken_here : LoadAnswer (List EntityRequest)
      taken_here =
          taken_by nodes (asked_before out i) (heard_before words places i) (i - from) (row_asked (get_or out i 0))
          (heard_at words (get_or places i 0))

      -- what the row before the place comes to
      here_next : taken_up_to (i + 1) ≡ (taken_here then (λ more. done (sofar.found ++ more)))
      here_next =
          let (before, row) = waits_on inside fits i sofar.from_on less out end (map request_word sofar.found) sofar.wrote in
          rw (before, row) (rw sofar.taken at (taken_next inside fits i sofar.from_on less))

      pub taking_more : (out' : List ℕ) (end' : ℕ) → TakenInto taken_here out end out' (Ok end') → TakenSoFar (i + 1) out' end'
      taking_more out' end' = go taken_here here_next
        where
          go :
              (o : LoadAnswer (List EntityRequest))
              → taken_up_to (i + 1) ≡ (o then (λ more. done (sofar.found ++ more)))
              → TakenInto o out end out' (Ok end')
              → TakenSoFar (i + 1) out' end'
          go (done more) e h =
              record {
                from_on = omega (arith, sofar.from_on);
                up-to = omega arith;
                found = sofar.found ++ more;
                taken = e;
                wrote = rw (map-append request_word sofar.found more) (wrote_more sofar.wrote h);
              }
          go (refused_at number place) e h = absurd h
          go (counted expected got) e h = absurd h

      pub taking_refused :
          (out' : List ℕ) (number place : ℕ) → TakenInto taken_here out end out' (Refused number place)
          → TakenInto (taken_up_to to) rows to out' (Refused number place)
      taking_refused out' number place = go taken_here here_next
        where
          stays : StaysBefore out end out' → StaysBefore rows to out'
          stays h =
              let after : to ≤ end = omega (arith, sofar.wrote.after) in
              let front : take to out' ≡ take to out =
              sym (take-take to end out' after) ∙ ap (take to) h.front ∙ take-take to end out after in
              record {
                front = front ∙ rw sofar.wrote.text (take-sets to rows to (map request_word sofar.found) (omega arith));
                size = h.size ∙ wrote_length sofar.wrote;
              }

          go :
              (o : LoadAnswer (List EntityRequest))
              → taken_up_to (i + 1) ≡ (o then (λ more. done (sofar.found ++ more)))
              → TakenInto o out end out' (Refused number place)
              → TakenInto (taken_up_to to) rows to out' (Refused number place)
          go (done more) e h = absurd h
          go (refused_at n p) e h =
              let heard : heard_in words places from to ≡ heard_in words places from (i + 1) ++ heard_in words places (i + 1) to =
              ap (map (heard_at words)) (part_split places from (i + 1) to (omega (arith, sofar.from_on)) (omega arith))
              ∙ map-append (heard_at words) (take (i + 1 - from) (drop from places)) (take (to - (i + 1)) (drop (i + 1) places)) in
              let whole : taken_up_to to ≡ refused_at n p =
              rw heard
              (taken_append nodes (asked_before rows from) (heard_before words places from) 0 (asked_in rows from to)
              (heard_in words places from (i + 1)) (heard_in words places (i + 1) to)
              ∙ rw e) in
              rw whole (h.0, h.1, stays h.2)
          go (counted expected got) e h = absurd h

  pub taking_all : (i : ℕ) (out : List ℕ) (end : ℕ) → to ≤ i → TakenSoFar i out end → TakenInto (taken_up_to to) rows to out (Ok end)
  taking_all i out end last sofar =
      let same : i ≡ to = omega (arith, sofar.up-to) in
      let whole : taken_up_to to ≡ done sofar.found = rw same at sofar.taken in
      rw whole sofar.wrote

  -- there are no more rows than nodes
  module _ (s : List ℕ) (load : Load) (at : LoadAt words rows places from to s nodes load) (stand : AllStand words (take to places)) where
    good_in :
        (i : ℕ)
        → from ≤ i
        → i ≤ to
        → Each (Every GoodEntity) (heard_before words places from) × Each (Every GoodEntity) (heard_in words places from i)
    good_in i on le =
        let (front, back) = stand_split words (take i places) (take (to - i) (drop i places)) (rw (front_split places i to le) at stand) in
        let (first, second) =
        stand_split words (take from places) (take (i - from) (drop from places)) (rw (front_split places from i on) at front) in
        (all_good words (take from places) first, all_good words (take (i - from) (drop from places)) second)

    -- the answers up to a row, taken by the load's slice, come to the same
    pub load_takes :
        (i : ℕ)
        → from ≤ i
        → i ≤ to
        → take_answers nodes 0 load.waiting (heard_in words places from i) (record { slice = load.slice; next = [] })
        ≡ (taken_up_to i then
        (λ found.
        done (record { slice = slices_after load.waiting (heard_in words places from i) load.slice; next = found })))
    load_takes i on le =
        let (earlier, good) = good_in i on le in
        rw (← at.asked_are, ← at.waiting_are)
        (takes_by nodes load.asked (heard_before words places from) 0 load.waiting (heard_in words places from i)
        (record { slice = load.slice; next = [] }) at.load_of.as_many at.load_of.slice-of earlier good)

    pub taking_room : (i : ℕ) (out : List ℕ) (end : ℕ) → TakenSoFar i out end → end ≤ length nodes
    taking_room i out end sofar =
        let gained : AnswersTaken =
        record { slice = slices_after load.waiting (heard_in words places from i) load.slice; next = sofar.found } in
        let room =
        rows_fit_so_far s nodes at.order load (heard_in words places from i) gained at.going
        (load_takes i sofar.from_on sofar.up-to ∙ rw sofar.taken) in
        let (asked, waiting) = load_lengths nodes words rows places from to s load at in
        omega (arith, room, asked, waiting, sofar.wrote.after, length-map sofar.found request_word, sofar.from_on, sofar.up-to)
