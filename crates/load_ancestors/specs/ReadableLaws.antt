-- Laws of the slice of a load that was read: its words are read back. No contract cites this file.
use Rattle.std.specs.Prelude.{ℕ, ◌≤◌, ◌≡◌, List, [], ◌∷◌, map, eqb, length, take, get_or}
use Rattle.std.proofs.Common.{arith, sym, ◌∙◌, eqb-true}
use Rattle.std.proofs.Math.Option.{Option, none, some, none-ne-some, some-injective}
use Rattle.std.proofs.lemmas.Bool.{eqb-false}
use Rattle.rules.specs.Facts.{by_test}
use Rattle.rules.proofs.StepLaws.{Each}
use Rattle.rules.specs.Values.{Entity, merged_entities}
use Rattle.rules.specs.ValueRows.{attribute_rows}
use Rattle.rules.proofs.ValueRowLaws.{Every}
use Rattle.rules.specs.ValueRowTests.{ProperFields}
use Rattle.rules.proofs.ValueRowTestLaws.{lawful_read, proper_passes, merged_proper}
use Rattle.rules.proofs.MergeLaws.{bind_given, merged_from, merged_all, merged_of}
use Rattle.rules.specs.Loading.{EntityRequest, Loaded, loaded_as, with_ancestors}
use Rattle.rules.proofs.SliceLaws.{answers_to, SliceOf}
use Rattle.words.specs.RunLaws.{taken_back}
use Rattle.values.specs.ValueWords.{value_rows_of}
use Rattle.merging.specs.MergeEntityLaws.{lawful_words}
use Rattle.batches.specs.Hearings.{heard_at, AnswerStands, AllStand}
use Rattle.batches.specs.HearingLaws.{standing_absent, standing_present}
use Rattle.slices.specs.Slices.{rows_asked, row_words, slice_words, SliceFit, FitsHead, WroteSlice}
use Rattle.slices.specs.CallLaws.{no_ancestors, each_loaded, built_stands}
use Rattle.slices.specs.declared.Built.{Built}
use Rattle.ancestors.specs.SliceWords.{slice_in}
use Rattle.ancestors.specs.SliceReadLaws.{slice_again}
use Rattle.load_state.specs.LoadStates.{answer_words}
use Rattle.load_ends.specs.Ends.{ReadTo}
use Rattle.load_ends.specs.SliceFitLaws.{read_slice}

-- ---- the attributes of a slice are proper

abbrev Proper : Entity → Type 0
Proper e = ProperFields 0 e.attributes

-- those of answers that stand are
standing_proper : (words : List ℕ) (at : ℕ) → AnswerStands words at → Every Proper (heard_at words at)
standing_proper words at s =
    by_test (eqb (get_or words at 0) 0)
    (λ t. rw (standing_absent words at s (eqb-true (get_or words at 0) 0 t)) tt)
    (λ t.
    let there = standing_present words at s (eqb-false (get_or words at 0) 0 t) in
    rw there.is (lawful_read _ there.good).1)

all_proper : (words places : List ℕ) → AllStand words places → Each (Every Proper) (map (heard_at words) places)
unfolding AllStand Each
all_proper words [] h = tt
all_proper words (at ∷ places) h = (standing_proper words at h.0, all_proper words places h.1)

answers_proper :
    (e : ℕ) (rows : List EntityRequest) (answers : List (Option Entity))
    → Each (Every Proper) answers
    → Each Proper (answers_to e rows answers)
unfolding answers_to Each
answers_proper e [] answers good = tt
answers_proper e (row ∷ rows) [] good = tt
answers_proper e (row ∷ rows) (none ∷ answers) good = answers_proper e rows answers good.1
answers_proper e (row ∷ rows) (some value ∷ answers) good =
    by_test (eqb row.id e)
    (λ t. rw t (good.0, answers_proper e rows answers good.1))
    (λ t. rw t (answers_proper e rows answers good.1))

-- and merging keeps them so
merged-all : (a : Entity) (l : List Entity) (m : Entity) → Each Proper (a ∷ l) → merged_all a l ≡ some m → Proper m
unfolding merged_all Each
merged-all a [] m good e = rw (some-injective a m e) at good.0
merged-all a (b ∷ l) m good e =
    let (ab, first, rest) = bind_given (merged_entities a b) _ e in
    let both = merged_proper a.attributes b.attributes ab.attributes good.0 good.1.0 (merged_from a b ab first).both_attributes in
    merged-all ab l m (both, good.1.1) rest

loaded_proper :
    (rows : List EntityRequest) (answers : List (Option Entity)) (slice : List Loaded) (e : ℕ) (value : Entity)
    → Each (Every Proper) answers
    → SliceOf rows answers slice
    → loaded_as e slice ≡ some value
    → Proper value
unfolding merged_of
loaded_proper rows answers slice e value good h is =
    go (answers_to e rows answers) (answers_proper e rows answers good) (sym (h.merged e) ∙ is)
  where
    go : (l : List Entity) → Each Proper l → merged_of l ≡ some value → Proper value
    go [] good-l f = absurd (none-ne-some value f)
    go (a ∷ l) good-l f = merged-all a l value good-l f

-- ---- so it is read back

each_two : {A : Type 0} (P Q : A → Type 0) (xs : List A) → Each P xs → Each Q xs → Each (λ x. P x × Q x) xs
unfolding Each
each_two P Q [] h k = tt
each_two P Q (x ∷ xs) h k = ((h.0, k.0), each_two P Q xs h.1 k.1)

-- the rows of a value are those of their words
abbrev RowsAgain : Loaded → Type 0
RowsAgain l = value_rows_of (row_words l.value) ≡ attribute_rows 1 l.value.attributes

module _ {state rows places : List ℕ} {asked batches sum : ℕ} (read : ReadTo state rows places asked batches sum) (room : 4096 ≤ length places) where
  rows_again : Each RowsAgain read.load.slice
  rows_again =
      let of-load = read.came.at.load_of.slice-of in
      each_loaded RowsAgain 0 read.load.slice of-load.ascends
      (λ e value given.
      lawful_words (attribute_rows 1 value.attributes)
      (proper_passes value.attributes
      (loaded_proper read.load.asked _ read.load.slice e value (all_proper (answer_words state) _ read.came.stand) of-load given)))

  pub read_again :
      {out scratch out' : List ℕ} {built : Built}
      → SliceFit (answer_words state) (take asked rows) (take asked places) [] [] out 0 scratch
      → WroteSlice (with_ancestors (rows_asked (take asked rows)) [] read.load.slice) out 0 out' built
      → slice_in (take built.end out') ≡ read.load.slice
  read_again {out} {scratch} {out'} {built} fit wrote =
      let slice = read.load.slice in
      let same : with_ancestors (rows_asked (take asked rows)) [] slice ≡ slice = no_ancestors (rows_asked (take asked rows)) slice in
      let heads : Each FitsHead slice = rw same at (built_stands fit slice (read_slice read room) wrote).heads in
      let own : WroteSlice slice out 0 out' built = rw same at wrote in
      let ends : built.end ≡ length (slice_words slice) = omega (arith, own.wrote.after) in
      let front : take built.end out' ≡ slice_words slice =
      rw (ends, own.wrote.text) (taken_back out (slice_words slice) (omega (arith, own.inside))) in
      rw front (slice_again slice (each_two FitsHead RowsAgain slice heads rows_again))
