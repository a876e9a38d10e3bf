-- What answer answers and leaves, in words.
use Rattle.std.specs.Prelude.{ℕ, ◌+◌, cond, ◌&&◌, List, [], ◌∷◌, leb, eqb, length, take, get_or}
use Rattle.std.proofs.lemmas.List.Edits.{sets}
use Rattle.rules.specs.Loading.{LoadAnswer, done, refused_at, counted, ◌then◌, EntityRequest, Load}
use Rattle.rules.specs.LoadCalls.{turn_for, Called, out_of_turn, take_batch}
use Rattle.answers.specs.declared.Lending.TheVariants.{Answers}
use Rattle.load_state.specs.LoadStates.{load_words, turn_number, answer_words}
use Rattle.load_state.specs.Transcripts.{transcript_in, lent_load}
use Rattle.load_state.specs.Outcomes.{LoadOutcome, refusing_call, counting_call, lent_words, behind_count, given_in, words_of}
use Rattle.load_state.specs.LoadReplies.{Done}

-- answers that are taken are stored behind those before them, as they were lent; with these, there are so many
abbrev pub taken_into : List ℕ → List ℕ → ℕ → ℕ → LoadAnswer Load → LoadOutcome
taken_into state fresh count used (done next) =
    record {
      reply = Done (length next.waiting) next.batches next.rows;
      buffer = sets (sets (sets state 0 (turn_number (turn_for next) ∷ [])) 7 (count ∷ [])) (12298 + used) fresh;
    }
taken_into state fresh count used (refused_at number place) = refusing_call number place state
taken_into state fresh count used (counted expected got) = counting_call expected got state

abbrev pub taken_from : List ℕ → List ℕ → LoadAnswer Load → LoadOutcome
taken_from state lent =
    taken_into state
    (take (words_of Answers (get_or lent 0 0) (behind_count lent)) (behind_count lent))
    (get_or state 7 0 + get_or lent 0 0)
    (words_of Answers (get_or state 7 0) (answer_words state))

module _ (state lent : List ℕ) where
  abbrev pub storing_answers : LoadAnswer (Called (List EntityRequest)) → LoadOutcome
  storing_answers (done called) =
      record {
        reply = Done (length called.out) called.counts.batches called.counts.rows;
        buffer =
            sets
            (sets (sets state 0 (turn_number called.left.turn ∷ [])) 7 (length called.left.answers ∷ []))
            (12298 + words_of Answers (get_or state 7 0) (answer_words state))
            (take (words_of Answers (get_or lent 0 0) (behind_count lent)) (behind_count lent));
      }
  storing_answers (refused_at number place) = refusing_call number place state
  storing_answers (counted expected got) = counting_call expected got state

  -- 31, 1, 16, 1 by row, 12, 15, then by row 14, 13
  unfoldable pub answer_in : LoadOutcome
  answer_in =
      cond (leb load_words (length state) && leb lent_words (length lent))
      (storing_answers
      (lent_load state then
      (λ load. cond (eqb (get_or state 0 0) 2) (given_in Answers lent then take_batch (transcript_in state) load) out_of_turn)))
      (refusing_call 31 0 state)
