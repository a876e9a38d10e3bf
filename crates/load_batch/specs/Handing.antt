-- What batch answers and leaves, in words.
use Rattle.std.specs.Prelude.{ℕ, ◌+◌, cond, ◌&&◌, List, [], ◌∷◌, map, leb, length}
use Rattle.std.proofs.lemmas.List.Edits.{sets}
use Rattle.rules.specs.Loading.{LoadAnswer, done, refused_at, counted, ◌then◌, EntityRequest}
use Rattle.rules.specs.LoadCalls.{Called, hand_batch}
use Rattle.values.specs.ValueWords.{request_word}
use Rattle.load_state.specs.LoadStates.{load_words, turn_number}
use Rattle.load_state.specs.Transcripts.{transcript_in, lent_load}
use Rattle.load_state.specs.Outcomes.{HandedOut, refusing_out, counting_out}
use Rattle.load_state.specs.LoadReplies.{Done}

-- the one length of 'batch rows out'
abbrev pub batch_words : ℕ
batch_words = 4096

-- a row with its node's number among all nodes of the manifest
abbrev pub numbered : ℕ → EntityRequest → EntityRequest
numbered first row = record { id = row.id; node = first + row.node }

module _ (state out : List ℕ) where
  abbrev pub handing_batch : LoadAnswer (Called (List EntityRequest)) → HandedOut
  handing_batch (done called) =
      record {
        reply = Done (length called.out) called.counts.batches called.counts.rows;
        state = sets state 0 (turn_number called.left.turn ∷ []);
        out = sets out 0 (map (λ row. request_word (numbered called.left.first row)) called.out);
      }
  handing_batch (refused_at number place) = refusing_out number place state out
  handing_batch (counted expected got) = counting_out expected got state out

  -- 31, 1, 16
  unfoldable pub batch_in : HandedOut
  batch_in =
      cond (leb load_words (length state) && leb batch_words (length out))
      (handing_batch (lent_load state then hand_batch (transcript_in state)))
      (refusing_out 31 0 state out)
