-- Laws of what ancestors' answers comes to, test by test. No contract cites this file.
use Rattle.std.specs.Prelude.{◌≡◌, true, false, ◌&&◌, List, ℕ, leb, eqb, length, get_or}
use Rattle.rules.specs.Loading.{done, refused_at, Load}
use Rattle.load_state.specs.Transcripts.{lent_load}
use Rattle.load_state.specs.Outcomes.{refusing_call, behind_count}
use Rattle.load_ends.specs.Ends.{taking_sets, ancestors_answer_in}

module _ (state lent : List ℕ) where
  pub answer_short :
      (leb 36874 (length state) && leb 24577 (length lent)) ≡ false → ancestors_answer_in state lent ≡ refusing_call 31 0 state
  unfolding ancestors_answer_in
  answer_short h = rw h

  module _ (long : (leb 36874 (length state) && leb 24577 (length lent)) ≡ true) where
    pub answer_unlawful : lent_load state ≡ refused_at 1 0 → ancestors_answer_in state lent ≡ refusing_call 1 0 state
    unfolding ancestors_answer_in
    answer_unlawful e = rw (long, e)

    module _ (load : Load) (told : lent_load state ≡ done load) where
      pub answer_early : eqb (get_or state 0 0) 4 ≡ false → ancestors_answer_in state lent ≡ refusing_call 16 0 state
      unfolding ancestors_answer_in
      answer_early h = rw (long, told, h)

      pub answer_taken : eqb (get_or state 0 0) 4 ≡ true → ancestors_answer_in state lent ≡ taking_sets state (behind_count lent) (get_or lent 0 0) load
      unfolding ancestors_answer_in
      answer_taken h = rw (long, told, h)
