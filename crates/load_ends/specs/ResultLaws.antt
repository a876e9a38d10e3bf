-- Laws of what result comes to. No contract cites this file.
use Rattle.std.specs.Prelude.{ℕ, ◌≤◌, ◌<◌, ◌≡◌, true, false, ◌&&◌, List, ◌∷◌, leb, eqb, length, get_or, set}
use Rattle.std.proofs.Common.{arith, eq-eqb, ne_eqb}
use Rattle.std.proofs.lemmas.List.Edits.{sets}
use Rattle.std.proofs.lemmas.Bool.{eqb-false}
use Rattle.rules.specs.Facts.{by_test}
use Rattle.rules.specs.Loading.{done, refused_at, ◌then◌, Load, Loaded, with_ancestors}
use Rattle.rules.specs.LoadCalls.{called, counts_at, ended, result_of}
use Rattle.words.specs.SeqLaws.{set_before}
use Rattle.slices.specs.Slices.{slice_words, WroteSlice}
use Rattle.slices.specs.declared.Built.{Built}
use Rattle.load_state.specs.Transcripts.{transcript_in, lent_load}
use Rattle.load_state.specs.Outcomes.{refusing_call, AnsweredAs}
use Rattle.load_state.specs.LoadReplies.{Done}
use Rattle.load_ends.specs.Ends.{ReadTo, handing_slice, result_in}
use Rattle.load_ends.specs.LoadedLaws.{read_rows}

module _ (state : List ℕ) (load : Load) where
  pub result_early : 0 < get_or state 0 0 → get_or state 0 0 < 5 → result_of (transcript_in state) load ≡ refused_at 16 0
  result_early some_turn early =
      let turn = get_or state 0 0 in
      by_test (eqb turn 1)
      (λ t. rw t)
      (λ t.
      by_test (eqb turn 2)
      (λ u. rw (t, u))
      (λ u.
      by_test (eqb turn 3)
      (λ v. rw (t, u, v))
      (λ v. rw (t, u, v, eq-eqb turn 4 (omega (arith, eqb-false turn 1 t, eqb-false turn 2 u, eqb-false turn 3 v))))))

  pub result_ended :
      5 ≤ get_or state 0 0
      → result_of (transcript_in state) load
      ≡ done (called (transcript_in state) (with_ancestors load.asked (transcript_in state).sets load.slice) (counts_at ended load))
  result_ended late =
      let turn = get_or state 0 0 in
      rw (
        ne_eqb turn 1 (λ e. omega arith),
        ne_eqb turn 2 (λ e. omega arith),
        ne_eqb turn 3 (λ e. omega arith),
        ne_eqb turn 4 (λ e. omega arith),
      )

-- a slice that is written behind its count
pub slice_counted :
    {slice : List Loaded} {out out' : List ℕ} {built : Built}
    → WroteSlice slice out 1 out' built
    → set out' 0 built.count ≡ sets out 0 (length slice ∷ slice_words slice)
slice_counted {slice} {out} wrote = rw (wrote.wrote.text, wrote.counted) (set_before out 0 (length slice) 1 (slice_words slice) (omega arith))

-- so is the slice of a load that has ended, with the answered ancestors
pub result_handed :
    {state rows places : List ℕ} {asked batches sum : ℕ} (read : ReadTo state rows places asked batches sum)
    → 5 ≤ get_or state 0 0
    → {slice : List Loaded} {out out' : List ℕ} {built : Built}
    → slice ≡ with_ancestors read.load.asked (transcript_in state).sets read.load.slice
    → WroteSlice slice out 1 out' built
    → AnsweredAs (handing_slice out (lent_load state then result_of (transcript_in state))) (Done built.count batches asked) (set out' 0 built.count)
result_handed {state} {rows} {places} {asked} {batches} read late {slice} {out} {out'} {built} is wrote =
    let all : WroteSlice (with_ancestors read.load.asked (transcript_in state).sets read.load.slice) out 1 out' built = rw is at wrote in
    rw (read.told, result_ended state read.load late) (
      cc (all.counted, read.came.trips, read_rows read),
      slice_counted all,
    )

module _ (state out : List ℕ) where
  pub result_short : (leb 36874 (length state) && leb 12289 (length out)) ≡ false → result_in state out ≡ refusing_call 31 0 out
  unfolding result_in
  result_short h = rw h

  pub result_long :
      (leb 36874 (length state) && leb 12289 (length out)) ≡ true
      → result_in state out ≡ handing_slice out (lent_load state then result_of (transcript_in state))
  unfolding result_in
  result_long h = rw h
