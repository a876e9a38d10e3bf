-- What ancestors answers and leaves, in words.
use Rattle.std.specs.Prelude.{ℕ, cond, ◌&&◌, leb, length}
use mathlib.Core.List.{List, [], ◌∷◌, ◌++◌, flatten}
use Rattle.std.proofs.lemmas.List.Edits.{sets}
use Rattle.rules.specs.Loading.{LoadAnswer, done, refused_at, counted, EntityRequest, Load}
use Rattle.rules.specs.LoadCalls.{Called, ask_ancestors}
use Rattle.ancestors.specs.Requests.{heads}
use Rattle.load_state.specs.LoadStates.{load_words, turn_number}
use Rattle.load_state.specs.Transcripts.{transcript_in, lent_load}
use Rattle.load_state.specs.Outcomes.{HandedOut, refusing_out, counting_out}
use Rattle.load_state.specs.LoadReplies.{Done}

-- the one length of 'Ancestors requests out'
abbrev pub requests_words : ℕ
requests_words = 528385

-- the count, a head for each row ever asked, and then the ids of each
abbrev pub requests_out : List EntityRequest → List (List ℕ) → List ℕ
requests_out rows lists = length rows ∷ (heads rows lists ++ flatten lists)

module _ (state out : List ℕ) where
  abbrev pub handing_requests : List EntityRequest → LoadAnswer (Called (List (List ℕ))) → HandedOut
  handing_requests rows (done called) =
      record {
        reply = Done (length called.out) called.counts.batches called.counts.rows;
        state = sets state 0 (turn_number called.left.turn ∷ []);
        out = sets out 0 (requests_out rows called.out);
      }
  handing_requests rows (refused_at number place) = refusing_out number place state out
  handing_requests rows (counted expected got) = counting_out expected got state out

  abbrev pub asking_of : LoadAnswer Load → HandedOut
  asking_of (done load) = handing_requests load.asked (ask_ancestors (transcript_in state) load)
  asking_of (refused_at number place) = refusing_out number place state out
  asking_of (counted expected got) = counting_out expected got state out

  -- 31, 1, 16, then by request the first of 14 and 15 met
  unfoldable pub ancestors_in : HandedOut
  ancestors_in =
      cond (leb load_words (length state) && leb requests_words (length out)) (asking_of (lent_load state)) (refusing_out 31 0 state out)
