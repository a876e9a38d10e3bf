-- Laws of the answered ancestors among an entity's parents. No contract cites this file.
use Rattle.std.specs.Prelude.{ℕ, zero, suc, ◌+◌, ◌-◌, ◌%◌, ◌≤◌, ◌<◌, ◌≡◌, refl, List, [], ◌∷◌, ◌++◌, length, take, drop, get_or}
use Rattle.std.proofs.Common.{add-one, arith, sym, ap, ◌∙◌, length-append, length-drop, drop_of_length-le, length-take-le, eq-eqb, ne_eqb}
use Rattle.std.proofs.lemmas.List.Edits.{sets}
use Rattle.std.proofs.Math.Seq.{drop-cons}
use Rattle.std.proofs.lemmas.List.{set-get_or}
use Rattle.rules.proofs.MergeLaws.{IdsFrom}
use Rattle.rules.specs.Loading.{EntityRequest, with_ids}
use Rattle.rules.proofs.SliceLaws.{ids_to, ids_from, ids_append}
use Rattle.words.specs.Runs.{Wrote}
use Rattle.words.specs.RunLaws.{taken_back, wrote_length}
use Rattle.slices.specs.Slices.{rows_asked, set_in, ids_for}
use Rattle.slices.specs.Writing.{ids_of_row, ids_after, IdsFit, MayUnite, MayUniteAll}
use Rattle.slices.specs.IdLaws.{ids_sizes}
use Rattle.slices.specs.WriteLaws.{wrote_back, wrote_over}

-- ---- what stands already

-- words that stand at a place may be written there
sets_same : (l : List ℕ) (i n : ℕ) → i + n ≤ length l → sets l i (take n (drop i l)) ≡ l
sets_same l i zero h = refl
sets_same l i (suc n) h =
    ap (λ d. sets l i (take (suc n) d)) (drop-cons l i 0 (omega arith))
    ∙ ap (λ m. sets m (suc i) (take n (drop (suc i) l))) (set-get_or l i 0)
    ∙ sets_same l (suc i) n (omega arith)

pub wrote_same : (out : List ℕ) (from size : ℕ) → from + size ≤ length out → Wrote out from (take size (drop from out)) out (from + size)
wrote_same out from size h = record {
  after = ap (λ n. from + n) (sym (length-take-le size (drop from out) (omega (arith, length-drop from out))));
  text = sym (sets_same out from size h);
}

-- ---- the ids of one row

module _ {row : ℕ} {sets-words : List ℕ} {place e : ℕ} {out : List ℕ} {from size : ℕ} {scratch : List ℕ}
    (may : MayUnite row sets-words place e out from size scratch)
  where
    -- the row does not ask
    pub ids_skipped : (row % 65536 ≡ e → ⊥)
        → Wrote out from (with_ids (ids_of_row row sets-words place e) (take size (drop from out))) out (from + size)
    unfolding with_ids
    ids_skipped other = rw (ne_eqb (row % 65536) e other) (wrote_same out from size may.held)

    -- it asks: the two runs
    module _ (own : row % 65536 ≡ e) where
      ids_own : ids_of_row row sets-words place e ≡ set_in sets-words place
      ids_own = rw (eq-eqb (row % 65536) e own)

      set_count : length (set_in sets-words place) ≡ get_or sets-words place 0
      set_count = length-take-le _ _ (omega (arith, may.fits, length-drop (place + 1) sets-words))

      held_count : length (take size (drop from out)) ≡ size
      held_count = length-take-le _ _ (omega (arith, may.held, length-drop from out))

      module _ {end held : ℕ} (ends : end ≡ place + 1 + get_or sets-words place 0) (holds : held ≡ from + size) where
        left_run : take (held - from) (drop from out) ≡ take size (drop from out)
        left_run = let n : held - from ≡ size = omega arith in rw n

        right_run : take (end - (place + 1)) (drop (place + 1) sets-words) ≡ set_in sets-words place
        right_run = let n : end - (place + 1) ≡ get_or sets-words place 0 = omega arith in rw n

        pub unite_fit : IdsFit (take (held - from) (drop from out)) (take (end - (place + 1)) (drop (place + 1) sets-words)) scratch 0
        unite_fit = rw (left_run, right_run) (record {
          left_ascends = may.held_ascend;
          right_ascends = may.ids_ascend;
          room = omega (arith, rw ids_own at may.scratch_room, held_count, set_count);
        })

        module _ {scratch' : List ℕ} {united : ℕ}
            (done : Wrote scratch 0 (with_ids (take (end - (place + 1)) (drop (place + 1) sets-words))
            (take (held - from) (drop from out))) scratch' united)
          where
            united_count : united ≡ length (with_ids (set_in sets-words place) (take size (drop from out)))
            united_count = let e = rw (left_run, right_run) at done.after in omega arith

            pub united_few : united ≤ size + length (ids_of_row row sets-words place e)
            united_few =
                rw ids_own
                (omega (arith, united_count, (ids_sizes (set_in sets-words place) (take size (drop from out))).1, held_count))

            united_words : take united scratch' ≡ with_ids (set_in sets-words place) (take size (drop from out))
            united_words =
                rw (rw (left_run, right_run) at done.text, united_count)
                (taken_back scratch (with_ids (set_in sets-words place) (take size (drop from out)))
                (omega (arith, united_count, united_few, may.scratch_room)))

            pub ids_wrote :
                {out' : List ℕ} {at : ℕ}
                → Wrote out from (take united scratch') out' at
                → Wrote out from (with_ids (ids_of_row row sets-words place e) (take size (drop from out))) out' (from + united)
            ids_wrote wrote = rw ids_own (record {
              after = ap (λ n. from + n) united_count;
              text = wrote.text ∙ rw united_words;
            })

-- ---- the ids of all rows

no_sets : (e : ℕ) (asked : List EntityRequest) → ids_to e asked [] ≡ []
unfolding ids_to
no_sets e [] = refl
no_sets e (row ∷ asked) = refl

none_after : (rows sets-words places : List ℕ) (e k : ℕ) → length places ≤ k → ids_after rows sets-words places e k ≡ []
none_after rows sets-words places e k past = rw (drop_of_length-le places past) (no_sets e (rows_asked (drop k rows)))

-- the sets of the rows before k are united
pub record UnitedTo
    (rows sets-words places : List ℕ) (e : ℕ) (out : List ℕ) (from size : ℕ) (scratch out' scratch' : List ℕ) (count k : ℕ)
    : Type 0 where
  pub inside : k ≤ length places
  pub held : List ℕ
  pub wrote : Wrote out from held out' (from + count)
  pub ascends : IdsFrom 0 held
  pub left : with_ids (ids_after rows sets-words places e k) held ≡ with_ids (ids_for rows sets-words places e) (take size (drop from out))
  pub few : count + length (ids_after rows sets-words places e k) ≤ size + length (ids_for rows sets-words places e)
  pub scratch_kept : length scratch' ≡ length scratch

module _ {rows sets-words places : List ℕ} {e : ℕ} {out : List ℕ} {from size : ℕ} {scratch : List ℕ}
    (may : MayUniteAll rows sets-words places e out from size scratch)
  where
    pub united_none : UnitedTo rows sets-words places e out from size scratch out scratch size 0
    united_none = record {
      inside = omega arith;
      held = take size (drop from out);
      wrote = wrote_same out from size (omega (arith, may.room));
      ascends = may.held_ascend;
      left = refl;
      few = omega arith;
      scratch_kept = refl;
    }

    module _ {out' scratch' : List ℕ} {count k : ℕ}
        (sofar : UnitedTo rows sets-words places e out from size scratch out' scratch' count k) where
      held_count' : length sofar.held ≡ count
      held_count' = omega (arith, sofar.wrote.after)

      pub united_all :
          length places ≤ k
          → Wrote out from (with_ids (ids_for rows sets-words places e) (take size (drop from out))) out' (from + count)
      unfolding with_ids
      united_all past =
          let is : sofar.held ≡ with_ids (ids_for rows sets-words places e) (take size (drop from out)) =
          rw (none_after rows sets-words places e k past) at sofar.left in
          rw (← is) sofar.wrote

      module _ (more : k < length places) where
        ids_next : ids_after rows sets-words places e k
            ≡ ids_of_row (get_or rows k 0) sets-words (get_or places k 0) e ++ ids_after rows sets-words places e (k + 1)
        unfolding ids_to
        ids_next = rw (add-one k, drop-cons rows k 0 (omega (arith, may.heard.as_many)), drop-cons places k 0 more)

        ids_count :
            count + (length (ids_of_row (get_or rows k 0) sets-words (get_or places k 0) e) + length (ids_after rows sets-words places e (k + 1)))
            ≤ size + length (ids_for rows sets-words places e)
        ids_count =
            omega (
              arith,
              rw ids_next at sofar.few,
              length-append (ids_of_row (get_or rows k 0) sets-words (get_or places k 0) e) (ids_after rows sets-words places e (k + 1)),
            )

        held_there : take count (drop from out') ≡ sofar.held
        held_there = rw (← held_count') (wrote_back sofar.wrote (omega (arith, held_count', ids_count, may.room)))

        pub may_unite : MayUnite (get_or rows k 0) sets-words (get_or places k 0) e out' from count scratch'
        may_unite = record {
          fits = may.heard.fits k more;
          ids_ascend = may.heard.ids_ascend k more;
          held = omega (arith, ids_count, may.room, wrote_length sofar.wrote);
          held_ascend = rw held_there sofar.ascends;
          room = omega (arith, ids_count, may.room, wrote_length sofar.wrote);
          scratch_room = omega (arith, ids_count, may.scratch_room, sofar.scratch_kept);
        }

        pub united_next :
            {out'' scratch'' : List ℕ} {count' : ℕ}
            → length scratch'' ≡ length scratch'
            → Wrote out' from (with_ids (ids_of_row (get_or rows k 0) sets-words (get_or places k 0) e) (take count (drop from out'))) out''
            (from + count')
            → UnitedTo rows sets-words places e out from size scratch out'' scratch'' count' (k + 1)
        united_next {count' = count'} kept wrote =
            let own = ids_of_row (get_or rows k 0) sets-words (get_or places k 0) e in
            let here : Wrote out' from (with_ids own sofar.held) _ (from + count') = rw held_there at wrote in
            let sizes = ids_sizes own sofar.held in
            record {
              inside = omega arith;
              held = with_ids own sofar.held;
              wrote = wrote_over sizes.0 sofar.wrote here;
              ascends = ids_from own sofar.held sofar.ascends;
              left = sym (ids_append own (ids_after rows sets-words places e (k + 1)) sofar.held) ∙ rw (← ids_next) sofar.left;
              few = omega (arith, sizes.1, here.after, held_count', ids_count);
              scratch_kept = kept ∙ sofar.scratch_kept;
            }
