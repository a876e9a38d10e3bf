-- Laws of taking a batch's answers. No contract cites this file.
use Rattle.std.specs.Prelude.{ℕ, suc, ◌+◌, ◌-◌, ◌≤◌, ◌<◌, ◌≡◌, refl, true, length, drop, get_or}
use Rattle.std.proofs.Common.{add-zero, zero-add, arith, sym, ◌∙◌, length-drop, drop_of_length-le, take_at, drop_at, length-take-le, ne_eqb}
use Rattle.std.proofs.Math.Path.{ap}
use mathlib.Core.List.{List, [], ◌∷◌, ◌++◌, map, map-append, append-nil, append_assoc}
use Rattle.std.proofs.Math.Option.{Option}
use Rattle.std.proofs.Math.ListN.{take}
use Rattle.std.proofs.lemmas.List.{length-map}
use Rattle.std.proofs.lemmas.List.Edits.{sets, sets-eq}
use Rattle.std.proofs.Math.Seq.{take_all, length-sets}
use Rattle.rules.specs.Numbers.{Answer, accepted, refused}
use Rattle.rules.specs.Tries.{Row}
use Rattle.rules.specs.Values.{Entity}
use Rattle.rules.specs.Loading.{LoadAnswer, done, refused_at, counted, ◌then◌, EntityRequest, Load, batch_answered, summed, size_of_answer, trips_for}
use Rattle.rules.specs.LoadCalls.{turn_for, is_summed}
use Rattle.rows.specs.Words.{row_in}
use Rattle.rows.specs.States.{rows_of}
use Rattle.values.specs.ValueWords.{request_word}
use Rattle.answers.specs.Answers.{ReadItem, read_item, read_from, AllRead, lent_from, lent_items, item_at, PlacedAt}
use Rattle.answers.specs.LentLaws.{joined, all_joined, all_summed, any_place}
use Rattle.answers.specs.declared.Lending.TheVariants.{Answers}
use Rattle.batches.specs.Hearings.{heard_at, heard_before, heard_in, AllStand}
use Rattle.batches.specs.Takes.{TakenInto, LoadAt}
use Rattle.batches.specs.TakingLaws.{front_split, taken_up_to}
use Rattle.batches.specs.ReplayLaws.{load_after, batch_comes, trips_some}
use Rattle.std.specs.Prelude.{Result, Ok}
use Rattle.words.specs.declared.Refusal.{Refusal}
use Rattle.words.specs.Replies.{Refused as Not-taken}
use Rattle.load_state.specs.LoadStates.{turn_number, first_turn, answer_words}
use Rattle.load_state.specs.Transcripts.{node_words, lent_load, CameTo, LentTo}
use Rattle.load_state.specs.WorkedLaws.{GoodParts, placed_heard, items_counted, sum_few, nodes_few}
use Rattle.load_state.specs.TurnLaws.{lent_came, lent_told, told_parts}
use Rattle.std.specs.Prelude.{Some}
use Rattle.load_state.specs.CameLaws.{came_waiting, came_rows, came_ahead, came_few}
use Rattle.load_state.specs.Outcomes.{AnsweredAs, words_of}
use Rattle.load_state.specs.LoadReplies.{Done, Refused}
use Rattle.loader.specs.Calls.{taken_into}

-- ---- answers behind others

-- those that are read, where all are of their form
pub record Whole (count : ℕ) (words : List ℕ) : Type 0 where
  pub all : ReadItem (List (Option Entity))
  pub fine : lent_from Answers 0 count words ≡ accepted all
  pub items : lent_items Answers count words ≡ all.item
  pub size : words_of Answers count words ≡ all.size

pub all_whole : (count : ℕ) (words : List ℕ) → AllRead (lent_from Answers 0 count words) → Whole count words
all_whole count words = go (lent_from Answers 0 count words) refl
  where
    go :
        (answer : Answer (ReadItem (List (Option Entity)))) → lent_from Answers 0 count words ≡ answer → AllRead answer → Whole count words
    go (accepted all) e h = record { all = all; fine = e; items = rw e; size = rw e }
    go (refused number place) e h = absurd h

-- words that are copied whole
pub copied_whole : (out words : List ℕ) → length out ≡ length words → sets out 0 words ≡ words
copied_whole out words same =
    let short : length out ≤ length words = omega arith in
    sets-eq words out 0 (omega arith) ∙ rw (zero-add (length words), drop_of_length-le out short, append-nil words)

-- answers stored behind those before them are read one after the other
module _ (old fresh : List ℕ) (a m : ℕ) (was : Whole a old) (new : Whole m fresh)
    (whole : new.all.size ≡ length fresh) (room : was.all.size + length fresh ≤ length old)
  where
    abbrev both : List ℕ
    both = sets old was.all.size fresh

    fresh_first : (behind : List ℕ) → lent_from Answers a m (fresh ++ behind) ≡ accepted new.all
    unfolding read_from
    fresh_first behind =
        let copy = all_joined Answers 0 behind 0 m fresh new.fine in
        let front : take new.all.size fresh ≡ fresh = take_all new.all.size fresh (omega arith) in
        let same : joined new.all (read_item [] 0) ≡ new.all = rw (append-nil new.all.item, add-zero) in
        any_place (item_at Answers) 0 a m (fresh ++ behind) ((rw (add-zero m, front) at copy) ∙ ap accepted same)

    pub both_whole : lent_from Answers 0 (a + m) both ≡ accepted (joined was.all new.all)
    both_whole =
        let behind = drop (was.all.size + length fresh) old in
        let copy = all_joined Answers m (fresh ++ behind) 0 a old was.fine in
        let words : both ≡ take was.all.size old ++ (fresh ++ behind) =
        sets-eq fresh old was.all.size room ∙ append_assoc (take was.all.size old) fresh behind in
        rw words (copy ∙ rw (zero-add a, fresh_first behind))

-- ---- the load, with all answers in words of their own

module _ {old rows places : List ℕ} {count : ℕ} {nodes : List Row} {load : Load} {asked end batches sum : ℕ}
    (came : CameTo old rows places count nodes load asked end batches sum)
    (words places' : List ℕ) (given : List (Option Entity))
    (read : AllRead (lent_from Answers 0 end words))
    (items : lent_items Answers end words ≡ lent_items Answers count old ++ given)
    (placed : PlacedAt Answers words (lent_items Answers end words) places 0 places')
    (fits : end ≤ length places')
    (was_count : length (lent_items Answers count old) ≡ count)
  where
    heard : heard_before words places' end ≡ lent_items Answers count old ++ given
    heard = (placed_heard end words places places' read placed fits).0 ∙ items

    pub all_stand : AllStand words (take end places')
    all_stand = (placed_heard end words places places' read placed fits).1

    old_count : length (lent_items Answers count old) ≡ asked
    old_count = was_count ∙ sym came.all_asked

    split : heard_before words places' asked ++ heard_in words places' asked end ≡ lent_items Answers count old ++ given
    split =
        sym (map-append (heard_at words) (take asked places') (take (end - asked) (drop asked places')))
        ∙ ap (map (heard_at words)) (sym (front_split places' asked end (came_ahead came)))
        ∙ heard

    heard_count : length (heard_before words places' asked) ≡ asked
    heard_count =
        length-map (take asked places') (heard_at words) ∙ length-take-le asked places' (omega (arith, came_ahead came))

    heard_old : heard_before words places' asked ≡ heard_before old places count
    heard_old =
        sym (take_at (heard_before words places' asked) (heard_in words places' asked end) asked heard_count)
        ∙ ap (take asked) split
        ∙ take_at (lent_items Answers count old) given asked old_count
        ∙ sym came.heard

    pub heard_new : heard_in words places' asked end ≡ given
    heard_new =
        sym (drop_at (heard_before words places' asked) (heard_in words places' asked end) asked heard_count)
        ∙ ap (drop asked) split
        ∙ drop_at (lent_items Answers count old) given asked old_count

    -- the same load
    pub load_joined : LoadAt words rows places' asked end came.s nodes load
    load_joined = record {
      ahead = came_ahead came;
      fits = came.at.fits;
      order = came.at.order;
      asked_are = rw came.all_asked came.at.asked_are;
      waiting_are = rw came.all_asked came.at.waiting_are;
      load_of = rw heard_old came.at.load_of;
      going = came.at.going;
    }

-- ---- answers that are given to a load

-- the words of the answers before them
pub old_words : (state : List ℕ) → 36874 ≤ length state → length (answer_words state) ≡ 12288
old_words state long = length-take-le 12288 (drop 12298 state) (omega (arith, length-drop 12298 state))

-- The load that they are given to, the answers before them and themselves as they are read, and that there is room for all.
pub record GivenTo (state rows places fresh : List ℕ) (asked end batches sum : ℕ) : Type 0 where
  pub load : Load
  pub lent : lent_load state ≡ done load
  pub came : CameTo (answer_words state) rows places (get_or state 7 0) (rows_of (node_words state)) load asked end batches sum
  pub parts : GoodParts state
  pub was : Whole (get_or state 7 0) (answer_words state)
  pub new : Whole (end - asked) fresh
  pub whole : new.all.size ≡ length fresh
  pub total : ℕ
  pub sums : summed size_of_answer 0 sum (lent_items Answers (end - asked) fresh) ≡ done total
  pub used : was.all.size ≡ asked + sum
  pub nodes : length (rows_of (node_words state)) ≤ 4096
  pub room : asked + sum + length fresh ≤ 12288

is-summed : (answer : LoadAnswer ℕ) → is_summed answer ≡ true → (total : ℕ) × (answer ≡ done total)
is-summed (done total) e = (total, refl)
is-summed (refused_at number place) e = let z : ◌≡◌ {A = ℕ} 0 1 = cc in absurd (omega arith)
is-summed (counted expected got) e = let z : ◌≡◌ {A = ℕ} 0 1 = cc in absurd (omega arith)

pub given_to :
    (state rows places fresh : List ℕ) (asked end batches sum : ℕ)
    → LentTo (lent_load state) (answer_words state) rows places (get_or state 7 0) (rows_of (node_words state)) (Some (record { asked = asked; end = end; batches = batches; sum = sum }))
    → AllRead (lent_from Answers 0 (end - asked) fresh)
    → words_of Answers (end - asked) fresh ≡ length fresh
    → is_summed (summed size_of_answer 0 sum (lent_items Answers (end - asked) fresh)) ≡ true
    → GivenTo state rows places fresh asked end batches sum
given_to state rows places fresh asked end batches sum lent read size summed-up =
    let (load, lends, came) = lent_came (answer_words state) rows places (get_or state 7 0) (rows_of (node_words state)) (lent_load state) (Some (record { asked = asked; end = end; batches = batches; sum = sum })) _ lent refl in
    let parts = told_parts state load (lent_told state load lends).0 in
    let was = all_whole (get_or state 7 0) (answer_words state) parts.read in
    let new = all_whole (end - asked) fresh read in
    let (total, sums) = is-summed (summed size_of_answer 0 sum (lent_items Answers (end - asked) fresh)) summed-up in
    let used = all_summed Answers 0 (get_or state 7 0) (answer_words state) was.fine 0 0 sum (rw was.items at came.sums) in
    let taken = all_summed Answers 0 (end - asked) fresh new.fine 0 sum total (ap (summed size_of_answer 0 sum) (sym new.items) ∙ sums) in
    let nodes : length (rows_of (node_words state)) ≤ 4096 = omega (arith, nodes_few state parts.few_rows, length-map (node_words state) row_in) in
    record {
      load = load;
      lent = lends;
      came = came;
      parts = parts;
      was = was;
      new = new;
      whole = sym new.size ∙ size;
      total = total;
      sums = sums;
      used = omega (arith, used, came.all_asked);
      nodes = nodes;
      room =
          omega (
            arith,
            used,
            taken,
            came.all_asked,
            sym new.size ∙ size,
            came_ahead came,
            came_few came,
            nodes,
            sum_few size_of_answer 0 sum (lent_items Answers (end - asked) fresh) total came.few sums,
          );
    }

module _ {state rows places fresh : List ℕ} {asked end batches sum : ℕ} (g : GivenTo state rows places fresh asked end batches sum) where
  -- all answers in words of their own
  module _ (long : 36874 ≤ length state) (words : List ℕ) (are : words ≡ sets (answer_words state) (asked + sum) fresh) where
    words_whole : lent_from Answers 0 end words ≡ accepted (joined g.was.all g.new.all)
    words_whole =
        let size : get_or state 7 0 + (end - asked) ≡ end = omega (arith, g.came.all_asked, came_ahead g.came) in
        let both =
        both_whole (answer_words state) fresh (get_or state 7 0) (end - asked) g.was g.new g.whole
        (omega (arith, g.used, g.room, old_words state long)) in
        rw (are, sym g.used) (rw size at both)

    pub words_read : AllRead (lent_from Answers 0 end words)
    words_read = rw words_whole tt

    words_items : lent_items Answers end words ≡ lent_items Answers (get_or state 7 0) (answer_words state) ++ lent_items Answers (end - asked) fresh
    words_items = rw (words_whole, g.was.items, g.new.items)

    pub words_length : length words ≡ 12288
    words_length = rw are (length-sets (answer_words state) (asked + sum) fresh ∙ old_words state long)

    module _ (places' : List ℕ) (placed : PlacedAt Answers words (lent_items Answers end words) places 0 places') (fits : end ≤ length places') where
      abbrev given : List (Option Entity)
      given = lent_items Answers (end - asked) fresh

      was_count : length (lent_items Answers (get_or state 7 0) (answer_words state)) ≡ get_or state 7 0
      was_count = items_counted Answers (get_or state 7 0) (answer_words state) g.parts.read

      pub given_stand : AllStand words (take end places')
      given_stand = all_stand g.came words places' given words_read words_items placed fits was_count

      pub given_at : LoadAt words rows places' asked end g.came.s (rows_of (node_words state)) g.load
      given_at = load_joined g.came words places' given words_read words_items placed fits was_count

      new_heard : heard_in words places' asked end ≡ given
      new_heard = heard_new g.came words places' given words_read words_items placed fits was_count

      heard_sums : summed size_of_answer 0 g.load.sum (heard_in words places' asked end) ≡ done g.total
      heard_sums = rw (new_heard, sym g.came.total) g.sums

      abbrev taken : LoadAnswer (List EntityRequest)
      taken = taken_up_to (rows_of (node_words state)) words rows places' asked end end

      abbrev next : List EntityRequest → Load
      next = load_after (rows_of (node_words state)) words rows places' asked end g.came.s g.load given_at given_stand fits g.total heard_sums

      -- what the answers lead to
      abbrev pub answered_load : LoadAnswer Load
      answered_load = lent_load state then (λ load. batch_answered (rows_of (node_words state)) load given)

      leads : answered_load ≡ (taken then (λ found. done (next found)))
      leads =
          rw g.lent
          (ap (batch_answered (rows_of (node_words state)) g.load) (sym new_heard)
          ∙ batch_comes (rows_of (node_words state)) words rows places' asked end g.came.s g.load given_at given_stand fits g.total heard_sums)

      pub given_refused :
          (rows' : List ℕ) (r : Result ℕ Refusal) (number place : ℕ)
          → TakenInto taken rows end rows' r
          → r ≡ Not-taken number place
          → AnsweredAs (taken_into state fresh end (asked + sum) answered_load) (Refused number place) state
      given_refused rows' r number place h told = rw leads (go taken (rw told at h))
        where
          go :
              (o : LoadAnswer (List EntityRequest))
              → TakenInto o rows end rows' (Not-taken number place)
              → AnsweredAs (taken_into state fresh end (asked + sum) (o then (λ found. done (next found)))) (Refused number place) state
          go (done found) h = absurd h
          go (refused_at n p) h = (rw (h.0, h.1), refl)
          go (counted expected got) h = absurd h

      module _ (rows' : List ℕ) (r : Result ℕ Refusal) (to : ℕ) (h : TakenInto taken rows end rows' r) (told : r ≡ Ok to) where
        pub given_ahead : end ≤ to
        given_ahead = go taken (rw told at h)
          where
            go : (o : LoadAnswer (List EntityRequest)) → TakenInto o rows end rows' (Ok to) → end ≤ to
            go (done found) h = omega (arith, h.after)
            go (refused_at n p) h = absurd h
            go (counted expected got) h = absurd h

        pub given_taken :
            asked < end
            → (turn : ℕ) (state' : List ℕ)
            → turn ≡ first_turn (to - end)
            → state' ≡ sets (sets (sets state 0 (turn ∷ [])) 7 (end ∷ [])) (12298 + (asked + sum)) fresh
            → AnsweredAs (taken_into state fresh end (asked + sum) answered_load) (Done (to - end) (batches + 1) end) state'
        given_taken less turn state' turns stored = rw leads (go taken (rw told at h))
          where
            turn-after : (found : List EntityRequest) → turn_number (turn_for (next found)) ≡ first_turn (length found)
            turn-after [] = refl
            turn-after (row ∷ found) = rw (ne_eqb (suc (length found)) 0 (λ e. omega arith))

            go :
                (o : LoadAnswer (List EntityRequest))
                → TakenInto o rows end rows' (Ok to)
                → AnsweredAs (taken_into state fresh end (asked + sum) (o then (λ found. done (next found)))) (Done (to - end) (batches + 1) end) state'
            go (done found) h =
                let few : length found ≡ to - end = omega (arith, h.after, length-map found request_word) in
                let trip : trips_for g.load.waiting + g.load.batches ≡ batches + 1 =
                rw (trips_some g.load.waiting (omega (arith, came_waiting g.came))) (omega (arith, g.came.trips)) in
                let all : g.load.rows + length g.load.waiting ≡ end =
                omega (arith, came_rows g.came, came_waiting g.came, came_ahead g.came) in
                (rw (few, trip, all), rw (stored, turns, sym few) (ap (λ t. sets (sets (sets state 0 (t ∷ [])) 7 (end ∷ [])) (12298 + (asked + sum)) fresh) (sym (turn-after found))))
            go (refused_at n p) h = absurd h
            go (counted expected got) h = absurd h
