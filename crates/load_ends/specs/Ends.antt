-- What ancestors' answers and result answer and leave, in words.
use Rattle.std.specs.Prelude.{ℕ, ◌≡◌, cond, ◌&&◌, List, [], ◌∷◌, leb, eqb, length, take, get_or}
use Rattle.std.proofs.lemmas.List.Edits.{sets}
use Rattle.rules.specs.Loading.{LoadAnswer, done, refused_at, counted, ◌then◌, Load, Loaded}
use Rattle.rules.specs.LoadCalls.{Turn, Called, out_of_turn, take_ancestors, result_of}
use Rattle.rows.specs.States.{rows_of}
use Rattle.answers.specs.Answers.{lent_from}
use Rattle.answers.specs.declared.Lending.TheVariants.{Sets}
use Rattle.slices.specs.Slices.{slice_words}
use Rattle.load_state.specs.LoadStates.{load_words, turn_number, answer_words}
use Rattle.load_state.specs.Transcripts.{node_words, transcript_in, lent_load, CameTo}
use Rattle.load_state.specs.Outcomes.{LoadOutcome, refusing_call, counting_call, lent_words, behind_count, given, given_in, words_of}
use Rattle.load_state.specs.LoadReplies.{Done}

-- A load that was read: it is the state's, so many rows were asked in so many batches, and their answers come to a sum.
pub record ReadTo (state rows places : List ℕ) (asked batches sum : ℕ) : Type 0 where
  pub load : Load
  pub end : ℕ
  pub told : lent_load state ≡ done load
  pub came : CameTo (answer_words state) rows places (get_or state 7 0) (rows_of (node_words state)) load asked end batches sum

-- ---- ancestors' answers

module _ (state words : List ℕ) where
  -- the sets that are kept are stored as they were lent, behind the turn and their count
  abbrev pub sets_stored : Turn → ℕ → List ℕ
  sets_stored turn kept =
      sets (sets (sets state 0 (turn_number turn ∷ [])) 8 (kept ∷ [])) 24586 (take (words_of Sets kept words) words)

  abbrev pub storing_sets : LoadAnswer (Called ℕ) → LoadOutcome
  storing_sets (done called) =
      record {
        reply = Done called.out called.counts.batches called.counts.rows;
        buffer = sets_stored called.left.turn called.out;
      }
  storing_sets (refused_at number place) = refusing_call number place state
  storing_sets (counted expected got) = counting_call expected got state

  -- 1 by set, 15
  abbrev pub taking_sets : ℕ → Load → LoadOutcome
  taking_sets count load = storing_sets (given (lent_from Sets 0 count words) then take_ancestors (transcript_in state) load)

module _ (state lent : List ℕ) where
  -- 31, 1, 16, 1 by set, 15
  unfoldable pub ancestors_answer_in : LoadOutcome
  ancestors_answer_in =
      cond (leb load_words (length state) && leb lent_words (length lent))
      (storing_sets state (behind_count lent)
      (lent_load state then
      (λ load. cond (eqb (get_or state 0 0) 4) (given_in Sets lent then take_ancestors (transcript_in state) load) out_of_turn)))
      (refusing_call 31 0 state)

-- ---- result

-- the one length of 'Slice out'
abbrev pub slice_room : ℕ
slice_room = 12289

module _ (out : List ℕ) where
  abbrev pub handing_slice : LoadAnswer (Called (List Loaded)) → LoadOutcome
  handing_slice (done called) =
      record {
        reply = Done (length called.out) called.counts.batches called.counts.rows;
        buffer = sets out 0 (length called.out ∷ slice_words called.out);
      }
  handing_slice (refused_at number place) = refusing_call number place out
  handing_slice (counted expected got) = counting_call expected got out

module _ (state out : List ℕ) where
  -- 31, 1, 16; the state stays
  unfoldable pub result_in : LoadOutcome
  result_in =
      cond (leb load_words (length state) && leb slice_room (length out))
      (handing_slice out (lent_load state then result_of (transcript_in state)))
      (refusing_call 31 0 out)
