-- What a load leaves in its slice: exactly the entities answered, each with what its answers come to (`load_slice`), and then with the
-- ancestors answered (`loaded_exactly`). An answer is refused by 13 where it does not merge with an earlier one (`entered_each`).
use Rattle.std.specs.Prelude.{ℕ, suc, ◌≤◌, ◌<◌, ◌≡◌, ◌↔◌, ◌≢◌, ◌⊎◌, Bool, true, false, cond, ◌&&◌, ltb, eqb, length}
use Rattle.std.proofs.Common.{arith, sym, subst, ◌∙◌, inl, inr, ⊎_elim, length-append, eqb-true, lt-ltb, le-ltb, eq-eqb, ne_eqb}
use Rattle.std.proofs.Math.Path.{refl, ap}
use mathlib.Core.List.Memᴰ.{append_cases as left-or-right}
use mathlib.Core.List.Memᴰ.{append_left as in_left}
use mathlib.Core.List.Memᴰ.{append_right as in_right}
use mathlib.Core.List.Memᴰ.{cases_cons as here-or-later}
use mathlib.Core.List.Memᴰ.{head as here}
use mathlib.Core.List.Memᴰ.{not-nil as none_in_empty}
use mathlib.Core.List.Memᴰ.{tail as later}
use mathlib.Core.List.{
  List,
  [],
  ◌∷◌,
  ◌++◌,
  flatten,
  append_assoc,
  append-nil,
  Memᴰ as Member,
}
use Rattle.std.proofs.Math.Option.{Option, none, some, none-ne-some, some-ne-none, some-injective}
use Rattle.std.proofs.lemmas.Bool.{eqb-false}
use Rattle.rules.specs.Facts.{by_test, by_option, compared}
use Rattle.rules.specs.Tries.{Row}
use Rattle.rules.specs.Listing.{◌>>=◌}
use Rattle.rules.proofs.StepLaws.{Each}
use Rattle.rules.specs.Values.{Entity, merged_entities}
use Rattle.rules.proofs.ValueRowLaws.{bind_some, Every}
use Rattle.rules.proofs.MergeLaws.{
  there,
  there_given,
  there_none,
  bind_given,
  IdsFrom,
  GoodEntity,
  Merges,
  merged_all,
  merged_of,
  each_merges,
  each-merges,
  all_more,
  all_good,
  all_merge_test,
  same_merge,
}
use Rattle.rules.specs.Loading.{LoadAnswer, done, refused_at, counted, ◌then◌, Request, EntityRequest, Loaded, loaded_as, entered, AnswersTaken, take_answer, take_answers, batch_of, remaining_entities, summed, size_of_answer, Load, initial_entities, load_begun, batch_answered, after_batches, with_id, with_ids, with_parents, with_ancestors}
pub use Rattle.rules.specs.SliceLaws.{answer_to, SliceOf, with_answer, NoneRefused, LoadOf, with_more}
unfoldable pub use Rattle.rules.specs.SliceLaws.{answers_to, SliceFrom, put, ids_to}

-- Entering an answer: the entity, merged with the one that is there, is put in its place.

-- an entity before the first is not there
pub before_first : (e least : ℕ) (slice : List Loaded) → e < least → SliceFrom least slice → loaded_as e slice ≡ none
unfolding SliceFrom loaded_as
before_first e least [] less h = refl
before_first e least (l ∷ ls) less h =
    rw (ne_eqb l.id e (λ same. omega arith)) (before_first e (suc l.id) ls (omega arith) h.1)

-- an answer is entered exactly where it merges with what is there, and then the merge is put in
pub entered_as :
    (e : ℕ) (value : Entity) (least : ℕ) (slice : List Loaded)
    → SliceFrom least slice
    → entered e value slice ≡ (with_answer (loaded_as e slice) value >>= (λ m. some (put e m slice)))
unfolding SliceFrom loaded_as entered put
entered_as e value least [] h = refl
entered_as e value least (l ∷ ls) h =
    compared e l.id
    (λ less.
    rw (lt-ltb e l.id less, ne_eqb l.id e (λ same. omega arith), before_first e (suc l.id) ls (omega arith) h.1))
    (λ not-less.
    by_test (eqb e l.id)
    (λ t. rw (le-ltb e l.id not-less, t, eq-eqb l.id e (sym (eqb-true e l.id t))))
    (λ t.
    let other : eqb l.id e ≡ false = ne_eqb l.id e (λ same. eqb-false e l.id t (sym same)) in
    rw (le-ltb e l.id not-less, t, other, entered_as e value (suc l.id) ls h.1) (go (with_answer (loaded_as e ls) value))))
  where
    go :
        (o : Option Entity)
        → ((o >>= (λ m. some (put e m ls))) >>= (λ more. some (l ∷ more))) ≡ (o >>= (λ m. some (l ∷ put e m ls)))
    go none = refl
    go (some m) = refl

-- what was put in is there, and all others are as they were
pub put_same : (e : ℕ) (value : Entity) (slice : List Loaded) → loaded_as e (put e value slice) ≡ some value
unfolding loaded_as put
put_same e value [] = rw (eq-eqb e e refl)
put_same e value (l ∷ ls) =
    by_test (ltb e l.id)
    (λ s. rw (s, eq-eqb e e refl))
    (λ s.
    by_test (eqb e l.id)
    (λ t. rw (s, t, eq-eqb e e refl))
    (λ t.
    let other : eqb l.id e ≡ false = ne_eqb l.id e (λ same. eqb-false e l.id t (sym same)) in
    rw (s, t, other) (put_same e value ls)))

pub put_other : (e x : ℕ) (value : Entity) (slice : List Loaded) → eqb e x ≡ false → loaded_as x (put e value slice) ≡ loaded_as x slice
unfolding loaded_as put
put_other e x value [] other = rw other
put_other e x value (l ∷ ls) other =
    by_test (ltb e l.id)
    (λ s. rw (s, other))
    (λ s.
    by_test (eqb e l.id)
    (λ t. rw (s, t, other, ← eqb-true e l.id t, other))
    (λ t. rw (s, t, put_other e x value ls other)))

put_from :
    (e : ℕ) (value : Entity) (least : ℕ) (slice : List Loaded)
    → least ≤ e
    → SliceFrom least slice
    → SliceFrom least (put e value slice)
unfolding SliceFrom put
put_from e value least [] le h = (le, tt)
put_from e value least (l ∷ ls) le h =
    compared e l.id
    (λ less. rw (lt-ltb e l.id less) (le, (less, h.1)))
    (λ not-less.
    by_test (eqb e l.id)
    (λ t. rw (le-ltb e l.id not-less, t) (le, rw (eqb-true e l.id t) h.1))
    (λ t.
    rw (le-ltb e l.id not-less, t)
    (h.0, put_from e value (suc l.id) ls (omega (arith, eqb-false e l.id t)) h.1)))

-- Rows and answers, one batch behind another.

-- the answers to e in two parts
pub answers_append :
    (e : ℕ) (rows more : List EntityRequest) (answers others : List (Option Entity))
    → length rows ≡ length answers
    → answers_to e (rows ++ more) (answers ++ others) ≡ answers_to e rows answers ++ answers_to e more others
unfolding answers_to
answers_append e [] more [] others same = refl
answers_append e [] more (answer ∷ answers) others same = absurd (omega arith)
answers_append e (row ∷ rows) more [] others same = absurd (omega arith)
answers_append e (row ∷ rows) more (answer ∷ answers) others same =
    rw (answers_append e rows more answers others (omega arith))
    (sym (append_assoc (answer_to e row answer) (answers_to e rows answers) (answers_to e more others)))

pub answers_good :
    (e : ℕ) (rows : List EntityRequest) (answers : List (Option Entity))
    → Each (Every GoodEntity) answers
    → Each GoodEntity (answers_to e rows answers)
unfolding answers_to Each
answers_good e [] answers good = tt
answers_good e (row ∷ rows) [] good = tt
answers_good e (row ∷ rows) (none ∷ answers) good = answers_good e rows answers good.1
answers_good e (row ∷ rows) (some value ∷ answers) good =
    by_test (eqb row.id e)
    (λ t. rw t (good.0, answers_good e rows answers good.1))
    (λ t. rw t (answers_good e rows answers good.1))

-- One answer more.

of_more : (l : List Entity) (value : Entity) → NoneRefused l → merged_of (l ++ (value ∷ [])) ≡ with_answer (merged_of l) value
unfolding merged_of merged_all
of_more [] value h = refl
of_more (a ∷ l) value h =
    all_more a l (value ∷ [])
    ∙ by_option (merged_all a l)
    (λ e. let z : ◌≡◌ {A = ℕ} 0 1 = cc (h e) in absurd (omega arith))
    (λ m e. rw e (bind_some (merged_entities m value)))

none_refused :
    (rows : List EntityRequest) (answers : List (Option Entity)) (slice : List Loaded)
    → SliceOf rows answers slice
    → (e : ℕ)
    → NoneRefused (answers_to e rows answers)
none_refused rows answers slice sofar e h = sofar.answered e (sofar.merged e ∙ h)

module _
    (rows : List EntityRequest) (answers : List (Option Entity)) (slice : List Loaded)
    (lengths : length rows ≡ length answers)
    (sofar : SliceOf rows answers slice)
  where
    -- one that is not there leaves the slice
    pub slice_none : (row : EntityRequest) → SliceOf (rows ++ (row ∷ [])) (answers ++ (none ∷ [])) slice
    unfolding answers_to
    slice_none row =
        record {
          ascends = sofar.ascends;
          merged = λ e. sofar.merged e ∙ ap merged_of (sym (same e));
          answered = λ e h. same e ∙ sofar.answered e h;
        }
      where
        same : (e : ℕ) → answers_to e (rows ++ (row ∷ [])) (answers ++ (none ∷ [])) ≡ answers_to e rows answers
        same e = answers_append e rows (row ∷ []) answers (none ∷ []) lengths ∙ append-nil (answers_to e rows answers)

    -- one that is there is put into it
    module _ (row : EntityRequest) (value m : Entity) (given : with_answer (loaded_as row.id slice) value ≡ some m) where
      one_more :
          (e : ℕ)
          → answers_to e (rows ++ (row ∷ [])) (answers ++ (some value ∷ []))
          ≡ answers_to e rows answers ++ cond (eqb row.id e) (value ∷ []) []
      unfolding answers_to
      one_more e =
          answers_append e rows (row ∷ []) answers (some value ∷ []) lengths
          ∙ ap (λ l. answers_to e rows answers ++ l) (append-nil (cond (eqb row.id e) (value ∷ []) []))

      put_merged : (e : ℕ) → loaded_as e (put row.id m slice) ≡ merged_of (answers_to e (rows ++ (row ∷ [])) (answers ++ (some value ∷ [])))
      put_merged e =
          by_test (eqb row.id e)
          (λ t.
          let id : row.id ≡ e = eqb-true row.id e t in
          let one_answer = of_more (answers_to e rows answers) value (none_refused rows answers slice sofar e) in
          rw (one_more e, t, one_answer, ← sofar.merged e, ← id, given)
          (put_same row.id m slice))
          (λ t. rw (one_more e, t, append-nil (answers_to e rows answers)) (put_other row.id e m slice t ∙ sofar.merged e))

      put_answered :
          (e : ℕ) → loaded_as e (put row.id m slice) ≡ none → answers_to e (rows ++ (row ∷ [])) (answers ++ (some value ∷ [])) ≡ []
      put_answered e h =
          by_test (eqb row.id e)
          (λ t.
          let id : row.id ≡ e = eqb-true row.id e t in
          absurd (some-ne-none m (sym (put_same row.id m slice) ∙ rw (← id) at h)))
          (λ t.
          rw (one_more e, t, append-nil (answers_to e rows answers))
          (sofar.answered e (sym (put_other row.id e m slice t) ∙ h)))

      put_slice : SliceOf (rows ++ (row ∷ [])) (answers ++ (some value ∷ [])) (put row.id m slice)
      put_slice =
          record {
            ascends = put_from row.id m 0 slice (omega arith) sofar.ascends;
            merged = put_merged;
            answered = put_answered;
          }

    -- so an answer that is entered leaves the slice of one row more
    pub slice_some :
        (row : EntityRequest) (value : Entity) (more : List Loaded)
        → entered row.id value slice ≡ some more
        → SliceOf (rows ++ (row ∷ [])) (answers ++ (some value ∷ [])) more
    slice_some row value more e =
        let put_in = sym (entered_as row.id value 0 slice sofar.ascends) ∙ e in
        let (m, given, is) = bind_given (with_answer (loaded_as row.id slice) value) _ put_in in
        rw (← some-injective _ _ is) (put_slice row value m given)

-- An answer is refused by 13 exactly where it does not merge with some earlier answer to the same entity.
module _
    (rows : List EntityRequest) (answers : List (Option Entity)) (slice : List Loaded)
    (sofar : SliceOf rows answers slice)
    (good : Each (Every GoodEntity) answers)
    (e : ℕ) (value : Entity)
    (good-value : GoodEntity value)
  where
    pub entered_test : there (entered e value slice) ≡ each_merges (answers_to e rows answers) value
    unfolding merged_of each_merges
    entered_test =
        ap there (entered_as e value 0 slice sofar.ascends)
        ∙ named (with_answer (loaded_as e slice) value)
        ∙ rw (sofar.merged e) (go (answers_to e rows answers) (none_refused rows answers slice sofar e) (answers_good e rows answers good))
      where
        named : (o : Option Entity) → there (o >>= (λ m. some (put e m slice))) ≡ there o
        named none = refl
        named (some m) = refl

        go : (l : List Entity) → NoneRefused l → Each GoodEntity l → there (with_answer (merged_of l) value) ≡ each_merges l value
        go [] h good-l = refl
        go (a ∷ l) h good-l =
            by_option (merged_all a l)
            (λ n. let z : ◌≡◌ {A = ℕ} 0 1 = cc (h n) in absurd (omega arith))
            (λ m n. rw n (all_merge_test a l m value good-l good-value n))

    pub entered_refused : (entered e value slice ≡ none) ↔ (each_merges (answers_to e rows answers) value ≡ false)
    entered_refused = (
      λ h. sym entered_test ∙ (there_none (entered e value slice)).1 h,
      λ h. (there_none (entered e value slice)).0 (entered_test ∙ h),
    )

    pub entered_each : (entered e value slice ≢ none) ↔ Each (λ w. Merges w value) (answers_to e rows answers)
    entered_each = (
      λ h. (each-merges (answers_to e rows answers) value).0 (sym entered_test ∙ (there_given (entered e value slice)).1 h),
      λ h. (there_given (entered e value slice)).0 (entered_test ∙ (each-merges (answers_to e rows answers) value).1 h),
    )

-- The same for a loop over the earlier rows: a row counts where it asks for e and its answer is there.
module _ (e : ℕ) (value : Entity) (row : EntityRequest) (rows : List EntityRequest) (answers : List (Option Entity)) where
  pub test_none : each_merges (answers_to e (row ∷ rows) (none ∷ answers)) value ≡ each_merges (answers_to e rows answers) value
  unfolding answers_to
  test_none = refl

  pub test_other :
      (w : Entity)
      → eqb row.id e ≡ false
      → each_merges (answers_to e (row ∷ rows) (some w ∷ answers)) value ≡ each_merges (answers_to e rows answers) value
  unfolding answers_to
  test_other w t = rw t

  pub test_same :
      (w : Entity)
      → eqb row.id e ≡ true
      → each_merges (answers_to e (row ∷ rows) (some w ∷ answers)) value
      ≡ (there (merged_entities w value) && each_merges (answers_to e rows answers) value)
  unfolding answers_to each_merges
  test_same w t = rw t

-- Batches.

-- what is done, and a call that is done had its first part done
pub done_same : {A : Type 0} {a b : A} → done a ≡ done b → a ≡ b
done_same e = cc

pub then_done :
    {A B : Type 0} (answer : LoadAnswer A) (next : A → LoadAnswer B) {b : B}
    → (answer then next) ≡ done b
    → (a : A) × (answer ≡ done a) × (next a ≡ done b)
then_done (done a) next e = (a, refl, e)
then_done (refused_at number place) next e = let z : ◌≡◌ {A = ℕ} 0 1 = cc in absurd (omega arith)
then_done (counted expected got) next e = let z : ◌≡◌ {A = ℕ} 0 1 = cc in absurd (omega arith)

-- an answer that is taken is entered
pub answer_entered :
    (nodes : List Row) (place : ℕ) (row : EntityRequest) (value : Entity) (gained more : AnswersTaken)
    → take_answer nodes place row (some value) gained ≡ done more
    → entered row.id value gained.slice ≡ some more.slice
answer_entered nodes place row value gained more =
    go (batch_of (remaining_entities nodes row.node value.attributes)) (entered row.id value gained.slice)
  where
    go :
        (o : Option (List EntityRequest)) (s : Option (List Loaded))
        → elim o [
          | none ↦ refused_at 14 place
          | some rows ↦ elim s [ none ↦ refused_at 13 place | some slice ↦ done (record { slice = slice; next = gained.next ++ rows }) ]
        ]
        ≡ done more
        → s ≡ some more.slice
    go none s e = let z : ◌≡◌ {A = ℕ} 0 1 = cc in absurd (omega arith)
    go (some rows) none e = let z : ◌≡◌ {A = ℕ} 0 1 = cc in absurd (omega arith)
    go (some rows) (some slice) e = ap (λ (t : AnswersTaken). some t.slice) (done_same e)

answer_slice :
    (nodes : List Row) (place : ℕ) (row : EntityRequest) (answer : Option Entity) (gained more : AnswersTaken)
    (rows : List EntityRequest) (answers : List (Option Entity))
    → length rows ≡ length answers
    → SliceOf rows answers gained.slice
    → take_answer nodes place row answer gained ≡ done more
    → SliceOf (rows ++ (row ∷ [])) (answers ++ (answer ∷ [])) more.slice
answer_slice nodes place row none gained more rows answers lengths sofar e =
    rw (← done_same e) (slice_none rows answers gained.slice lengths sofar row)
answer_slice nodes place row (some value) gained more rows answers lengths sofar e =
    slice_some rows answers gained.slice lengths sofar row value more.slice (answer_entered nodes place row value gained more e)

-- Answers to a batch, taken behind those of the batches before it.
pub answers_slice :
    (nodes : List Row) (place : ℕ) (batch : List EntityRequest) (taken : List (Option Entity)) (gained more : AnswersTaken)
    (rows : List EntityRequest) (answers : List (Option Entity))
    → length rows ≡ length answers
    → length batch ≡ length taken
    → SliceOf rows answers gained.slice
    → take_answers nodes place batch taken gained ≡ done more
    → SliceOf (rows ++ batch) (answers ++ taken) more.slice
unfolding take_answers
answers_slice nodes place [] [] gained more rows answers lengths batch-lengths sofar e =
    rw (append-nil rows, append-nil answers, ← done_same e) sofar
answers_slice nodes place [] (answer ∷ taken) gained more rows answers lengths batch-lengths sofar e = absurd (omega arith)
answers_slice nodes place (row ∷ batch) [] gained more rows answers lengths batch-lengths sofar e = absurd (omega arith)
answers_slice nodes place (row ∷ batch) (answer ∷ taken) gained more rows answers lengths batch-lengths sofar e =
    let (next, first, rest) = then_done (take_answer nodes place row answer gained) _ e in
    rw (append_assoc rows (row ∷ []) batch, append_assoc answers (answer ∷ []) taken) at
    (answers_slice nodes (suc place) batch taken next more (rows ++ (row ∷ [])) (answers ++ (answer ∷ []))
    (simp length-append (omega arith))
    (omega arith)
    (answer_slice nodes place row answer gained next rows answers lengths sofar first)
    rest)

cond_done :
    {A : Type 0} (t : Bool) (n m : ℕ) (answer : LoadAnswer A) {a : A}
    → cond t answer (counted n m) ≡ done a
    → (t ≡ true) × (answer ≡ done a)
cond_done true n m answer e = (refl, e)
cond_done false n m answer e = let z : ◌≡◌ {A = ℕ} 0 1 = cc in absurd (omega arith)

-- one batch more
pub batch_slice :
    (nodes : List Row) (answers taken : List (Option Entity)) (sofar next : Load)
    → LoadOf answers sofar
    → batch_answered nodes sofar taken ≡ done next
    → LoadOf (answers ++ taken) next
batch_slice nodes answers taken sofar next h e =
    let (same, counted-so) = cond_done (eqb (length taken) (length sofar.waiting)) _ _ _ e in
    let lengths : length taken ≡ length sofar.waiting = eqb-true (length taken) (length sofar.waiting) same in
    let (sum, summed-so, taken-so) = then_done (summed size_of_answer 0 sofar.sum taken) _ counted-so in
    let before : AnswersTaken = record { slice = sofar.slice; next = [] } in
    let (gained, answers-so, ended) = then_done (take_answers nodes 0 sofar.waiting taken before) _ taken-so in
    rw (← done_same ended)
    (record {
      as_many = simp length-append (omega (arith, h.as_many));
      slice-of =
          answers_slice nodes 0 sofar.waiting taken before gained sofar.asked answers
          h.as_many
          (sym lengths)
          h.slice-of
          answers-so;
    })

-- batches go on from a load only
batches_from :
    (nodes : List Row) (start : LoadAnswer Load) (batches : List (List (Option Entity))) (load : Load)
    → after_batches nodes start batches ≡ done load
    → (sofar : Load) × (start ≡ done sofar)
unfolding after_batches
batches_from nodes start [] load e = (load, e)
batches_from nodes start (batch ∷ batches) load e =
    let (next, so) = batches_from nodes (start then (λ s. batch_answered nodes s batch)) batches load e in
    let (sofar, from, rest) = then_done start _ so in
    (sofar, from)

batches_slice :
    (nodes : List Row) (sofar : Load) (answers : List (Option Entity)) (batches : List (List (Option Entity))) (load : Load)
    → LoadOf answers sofar
    → after_batches nodes (done sofar) batches ≡ done load
    → LoadOf (answers ++ flatten batches) load
unfolding after_batches flatten
batches_slice nodes sofar answers [] load h e = rw (append-nil answers, ← done_same e) h
batches_slice nodes sofar answers (batch ∷ batches) load h e =
    let (next, so) = batches_from nodes (batch_answered nodes sofar batch) batches load e in
    rw (append_assoc answers batch (flatten batches)) at
    (batches_slice nodes next (answers ++ batch) batches load (batch_slice nodes answers batch sofar next h so) (rw so at e))

begun_slice : (request : Request) (nodes : List Row) (begun : Load) → load_begun request nodes ≡ done begun → LoadOf [] begun
unfolding SliceFrom answers_to merged_of loaded_as
begun_slice request nodes begun = go (batch_of (initial_entities request 0 0 nodes))
  where
    go :
        (o : Option (List EntityRequest))
        → elim o [
          | none ↦ refused_at 14 0
          | some rows ↦ done (record { waiting = rows; asked = []; slice = []; sum = 0; batches = 0; rows = 0 })
        ]
        ≡ done begun
        → LoadOf [] begun
    go none e = let z : ◌≡◌ {A = ℕ} 0 1 = cc in absurd (omega arith)
    go (some rows) e =
        rw (← done_same e)
        (record { as_many = refl; slice-of = record { ascends = tt; merged = λ e. refl; answered = λ e h. refl } })

-- A whole load: its slice is that of all rows asked and of the answers to all batches, in order.
pub load_slice :
    (request : Request) (nodes : List Row) (batches : List (List (Option Entity))) (load : Load)
    → after_batches nodes (load_begun request nodes) batches ≡ done load
    → LoadOf (flatten batches) load
load_slice request nodes batches load e =
    let (begun, so) = batches_from nodes (load_begun request nodes) batches load e in
    batches_slice nodes begun [] batches load (begun_slice request nodes begun so) (rw so at e)

-- Of good answers the slice holds good entities.
pub loaded_good :
    (rows : List EntityRequest) (answers : List (Option Entity)) (slice : List Loaded) (e : ℕ) (value : Entity)
    → Each (Every GoodEntity) answers
    → SliceOf rows answers slice
    → loaded_as e slice ≡ some value
    → GoodEntity value
unfolding merged_of
loaded_good rows answers slice e value good h is =
    go (answers_to e rows answers) (answers_good e rows answers good) (sym (h.merged e) ∙ is)
  where
    go : (l : List Entity) → Each GoodEntity l → merged_of l ≡ some value → GoodEntity value
    go [] good-l f = absurd (none-ne-some value f)
    go (a ∷ l) good-l f = all_good a l value good-l f

-- Slices are equal where they hold the same.

same_loaded :
    (least : ℕ) (a b : List Loaded) → SliceFrom least a → SliceFrom least b → ((e : ℕ) → loaded_as e a ≡ loaded_as e b) → a ≡ b
unfolding SliceFrom loaded_as
same_loaded least [] [] ha hb same = refl
same_loaded least [] (k ∷ b) ha hb same =
    absurd (none-ne-some k.value (same k.id ∙ rw (eq-eqb k.id k.id refl)))
same_loaded least (l ∷ a) [] ha hb same =
    absurd (none-ne-some l.value (sym (same l.id) ∙ rw (eq-eqb l.id l.id refl)))
same_loaded least (l ∷ a) (k ∷ b) ha hb same =
    compared l.id k.id
    (λ less. absurd (none-ne-some l.value (sym (not_there l.id k b less hb) ∙ sym (same l.id) ∙ is-there l a)))
    (λ not-less.
    compared k.id l.id
    (λ less. absurd (none-ne-some k.value (sym (not_there k.id l a less ha) ∙ same k.id ∙ is-there k b)))
    (λ not_more.
    let ids : l.id ≡ k.id = omega arith in
    let values : l.value ≡ k.value =
    some-injective l.value k.value (sym (is-there l a) ∙ same l.id ∙ subst (λ (id : ℕ). loaded_as id (k ∷ b) ≡ some k.value) (sym ids) (is-there k b)) in
    let firsts : l ≡ k = λ i. record { id = ids i; value = values i } in
    let rests : a ≡ b =
    same_loaded (suc l.id) a b ha.1 (rw ids hb.1)
    (λ e.
    by_test (eqb l.id e)
    (λ t.
    let is : l.id ≡ e = eqb-true l.id e t in
    before_first e (suc l.id) a (omega arith) ha.1 ∙ sym (before_first e (suc k.id) b (omega arith) hb.1))
    (λ t. let u : eqb k.id e ≡ false = rw ids at t in rw (t, u) at (same e))) in
    cc))
  where
    is-there : (l : Loaded) (a : List Loaded) → loaded_as l.id (l ∷ a) ≡ some l.value
    is-there l a = rw (eq-eqb l.id l.id refl)

    not_there : (e : ℕ) (k : Loaded) (b : List Loaded) → e < k.id → SliceFrom least (k ∷ b) → loaded_as e (k ∷ b) ≡ none
    not_there e k b less h = before_first e k.id (k ∷ b) less (omega arith, h.1)

-- Rows whose answers to each entity are the same, in any order and with any repeats, have the same slice.
pub same_slice :
    (rows others : List EntityRequest) (answers taken : List (Option Entity)) (a b : List Loaded)
    → Each (Every GoodEntity) answers
    → SliceOf rows answers a
    → SliceOf others taken b
    → ((e : ℕ) (w : Entity) → Member w (answers_to e rows answers) ↔ Member w (answers_to e others taken))
    → a ≡ b
same_slice rows others answers taken a b good ha hb same =
    same_loaded 0 a b ha.ascends hb.ascends
    (λ e.
    ha.merged e
    ∙ same_merge (answers_to e rows answers) (answers_to e others taken) (answers_good e rows answers good) (same e)
    ∙ sym (hb.merged e))

-- Two of some lists in each other's place have the same members.
swap_in :
    {w : Entity} (a x b y c : List Entity) → Member w (a ++ (x ++ (b ++ (y ++ c)))) → Member w (a ++ (y ++ (b ++ (x ++ c))))
swap_in a x b y c h =
    ⊎_elim
    (in_left (y ++ (b ++ (x ++ c))))
    (λ h.
    in_right a
    (⊎_elim
    (λ m. in_right y (in_right b (in_left c m)))
    (λ h.
    ⊎_elim
    (λ m. in_right y (in_left (x ++ c) m))
    (λ h. ⊎_elim (in_left (b ++ (x ++ c))) (λ m. in_right y (in_right b (in_right x m))) (left-or-right y h))
    (left-or-right b h))
    (left-or-right x h)))
    (left-or-right a h)

-- Two rows of a batch that ask for the same entity: with their answers swapped, where neither order is refused, the slice is the same.
module _
    (r₁ r₂ r₃ : List EntityRequest) (p q : EntityRequest) (a₁ a₂ a₃ : List (Option Entity))
    (first-lengths : length r₁ ≡ length a₁)
    (second-lengths : length r₂ ≡ length a₂)
    (third-lengths : length r₃ ≡ length a₃)
    (same_id : p.id ≡ q.id)
  where
    abbrev pub two_rows : List EntityRequest
    two_rows = r₁ ++ (p ∷ (r₂ ++ (q ∷ r₃)))

    abbrev pub two_answers : Option Entity → Option Entity → List (Option Entity)
    two_answers x y = a₁ ++ (x ∷ (a₂ ++ (y ∷ a₃)))

    two_parts :
        (e : ℕ) (x y : Option Entity)
        → answers_to e two_rows (two_answers x y)
        ≡ answers_to e r₁ a₁ ++ (answer_to e p x ++ (answers_to e r₂ a₂ ++ (answer_to e p y ++ answers_to e r₃ a₃)))
    unfolding answers_to
    two_parts e x y =
        answers_append e r₁ (p ∷ (r₂ ++ (q ∷ r₃))) a₁ (x ∷ (a₂ ++ (y ∷ a₃))) first-lengths
        ∙ rw (answers_append e r₂ (q ∷ r₃) a₂ (y ∷ a₃) second-lengths) (alike y)
      where
        alike :
            (y : Option Entity)
            → answers_to e r₁ a₁ ++ (answer_to e p x ++ (answers_to e r₂ a₂ ++ (answer_to e q y ++ answers_to e r₃ a₃)))
            ≡ answers_to e r₁ a₁ ++ (answer_to e p x ++ (answers_to e r₂ a₂ ++ (answer_to e p y ++ answers_to e r₃ a₃)))
        alike none = refl
        alike (some value) = rw same_id

    two_members :
        (e : ℕ) (w : Entity) (x y : Option Entity)
        → Member w (answers_to e two_rows (two_answers x y))
        → Member w (answers_to e two_rows (two_answers y x))
    two_members e w x y h =
        rw (two_parts e y x)
        (swap_in (answers_to e r₁ a₁) (answer_to e p x) (answers_to e r₂ a₂) (answer_to e p y) (answers_to e r₃ a₃)
        (rw (two_parts e x y) at h))

    two_lengths : (x y : Option Entity) → length two_rows ≡ length (two_answers x y)
    two_lengths x y = simp length-append (omega arith)

    pub swapped_answers :
        (nodes : List Row) (place : ℕ) (rows : List EntityRequest) (answers : List (Option Entity))
        (x y : Option Entity) (gained one other : AnswersTaken)
        → length rows ≡ length answers
        → SliceOf rows answers gained.slice
        → Each (Every GoodEntity) (answers ++ two_answers x y)
        → take_answers nodes place two_rows (two_answers x y) gained ≡ done one
        → take_answers nodes place two_rows (two_answers y x) gained ≡ done other
        → one.slice ≡ other.slice
    swapped_answers nodes place rows answers x y gained one other lengths sofar good e f =
        same_slice (rows ++ two_rows) (rows ++ two_rows) (answers ++ two_answers x y) (answers ++ two_answers y x) one.slice other.slice
        good
        (answers_slice nodes place two_rows (two_answers x y) gained one rows answers lengths (two_lengths x y) sofar e)
        (answers_slice nodes place two_rows (two_answers y x) gained other rows answers lengths (two_lengths y x) sofar f)
        (λ e w. (behind e w x y, behind e w y x))
      where
        behind :
            (e : ℕ) (w : Entity) (x y : Option Entity)
            → Member w (answers_to e (rows ++ two_rows) (answers ++ two_answers x y))
            → Member w (answers_to e (rows ++ two_rows) (answers ++ two_answers y x))
        behind e w x y h =
            rw (answers_append e rows two_rows answers (two_answers y x) lengths)
            (⊎_elim
            (in_left (answers_to e two_rows (two_answers y x)))
            (λ m. in_right (answers_to e rows answers) (two_members e w x y m))
            (left-or-right (answers_to e rows answers) (rw (answers_append e rows two_rows answers (two_answers x y) lengths) at h)))

-- Ancestors.

pub ids_append : (xs ys parents : List ℕ) → with_ids (xs ++ ys) parents ≡ with_ids ys (with_ids xs parents)
unfolding with_ids
ids_append [] ys parents = refl
ids_append (x ∷ xs) ys parents = ids_append xs ys (with_id x parents)

parents_same :
    (e : ℕ) (ids : List ℕ) (slice : List Loaded)
    → loaded_as e (with_parents e ids slice) ≡ (loaded_as e slice >>= (λ v. some (with_more ids v)))
unfolding loaded_as with_parents
parents_same e ids [] = refl
parents_same e ids (l ∷ ls) =
    by_test (eqb l.id e) (λ t. rw (t, eq-eqb e e refl)) (λ t. rw (t, t) (parents_same e ids ls))

parents_other : (e x : ℕ) (ids : List ℕ) (slice : List Loaded) → eqb e x ≡ false → loaded_as x (with_parents e ids slice) ≡ loaded_as x slice
unfolding loaded_as with_parents
parents_other e x ids [] other = refl
parents_other e x ids (l ∷ ls) other =
    by_test (eqb l.id e)
    (λ t. rw (t, other, eqb-true l.id e t, other))
    (λ t. rw (t, parents_other e x ids ls other))

parents_from : (e : ℕ) (ids : List ℕ) (least : ℕ) (slice : List Loaded) → SliceFrom least slice → SliceFrom least (with_parents e ids slice)
unfolding SliceFrom with_parents
parents_from e ids least [] h = tt
parents_from e ids least (l ∷ ls) h =
    by_test (eqb l.id e)
    (λ t. rw (t, ← eqb-true l.id e t) h)
    (λ t. rw t (h.0, parents_from e ids (suc l.id) ls h.1))

-- After the ancestors: an entity that is not loaded is not loaded then, and one that is has its attributes as they were, and its parents
-- with the ids answered to the requests of the rows that ask for it.
pub ancestors_loaded :
    (rows : List EntityRequest) (answers : List (List ℕ)) (slice : List Loaded) (e : ℕ)
    → loaded_as e (with_ancestors rows answers slice) ≡ (loaded_as e slice >>= (λ v. some (with_more (ids_to e rows answers) v)))
unfolding with_ancestors ids_to with_ids
ancestors_loaded [] answers slice e = sym (bind_some (loaded_as e slice))
ancestors_loaded (row ∷ rows) [] slice e = sym (bind_some (loaded_as e slice))
ancestors_loaded (row ∷ rows) (ids ∷ answers) slice e =
    ancestors_loaded rows answers (with_parents row.id ids slice) e
    ∙ by_test (eqb row.id e)
    (λ t.
    let is : row.id ≡ e = eqb-true row.id e t in
    rw (t, is, parents_same e ids slice) (go (loaded_as e slice)))
    (λ t. rw (t, parents_other row.id e ids slice t))
  where
    go :
        (o : Option Entity)
        → ((o >>= (λ v. some (with_more ids v))) >>= (λ v. some (with_more (ids_to e rows answers) v)))
        ≡ (o >>= (λ v. some (with_more (ids ++ ids_to e rows answers) v)))
    go none = refl
    go (some v) = rw (ids_append ids (ids_to e rows answers) v.parents)

-- The slice still ascends.
pub ancestors_ascend :
    (rows : List EntityRequest) (answers : List (List ℕ)) (least : ℕ) (slice : List Loaded)
    → SliceFrom least slice
    → SliceFrom least (with_ancestors rows answers slice)
unfolding with_ancestors
ancestors_ascend [] answers least slice h = h
ancestors_ascend (row ∷ rows) [] least slice h = h
ancestors_ascend (row ∷ rows) (ids ∷ answers) least slice h =
    ancestors_ascend rows answers least (with_parents row.id ids slice) (parents_from row.id ids least slice h)

-- The parents are exactly those of before and those ids.
id_member : (x e : ℕ) (parents : List ℕ) → Member x (with_id e parents) ↔ ((x ≡ e) ⊎ Member x parents)
unfolding with_id
id_member x e [] = (here-or-later, ⊎_elim here later)
id_member x e (y ∷ ys) =
    by_test (ltb e y)
    (λ s. rw s (here-or-later, ⊎_elim here later))
    (λ s.
    by_test (eqb e y)
    (λ t. rw (s, t) (inr, ⊎_elim (λ is. here (is ∙ eqb-true e y t)) (λ m. m)))
    (λ t.
    rw (s, t) (
      λ m. ⊎_elim (λ is. inr (here is)) (λ m. ⊎_elim inl (λ k. inr (later k)) ((id_member x e ys).0 m)) (here-or-later m),
      λ m.
          ⊎_elim
          (λ is. later ((id_member x e ys).1 (inl is)))
          (λ m. ⊎_elim here (λ k. later ((id_member x e ys).1 (inr k))) (here-or-later m))
          m,
    )))

pub ids_member : (x : ℕ) (ids parents : List ℕ) → Member x (with_ids ids parents) ↔ (Member x parents ⊎ Member x ids)
unfolding with_ids
ids_member x [] parents = (inl, ⊎_elim (λ m. m) (λ m. absurd (none_in_empty m)))
ids_member x (y ∷ ys) parents = (
  λ m.
      ⊎_elim
      (λ k. ⊎_elim (λ is. inr (here is)) inl ((id_member x y parents).0 k))
      (λ k. inr (later k))
      ((ids_member x ys (with_id y parents)).0 m),
  λ m.
      (ids_member x ys (with_id y parents)).1
      (⊎_elim
      (λ k. inl ((id_member x y parents).1 (inr k)))
      (λ k. ⊎_elim (λ is. inl ((id_member x y parents).1 (inl is))) inr (here-or-later k))
      m),
)

-- and they still ascend
id_from : (e least : ℕ) (parents : List ℕ) → least ≤ e → IdsFrom least parents → IdsFrom least (with_id e parents)
unfolding with_id IdsFrom
id_from e least [] le h = (le, tt)
id_from e least (y ∷ ys) le h =
    compared e y
    (λ less. rw (lt-ltb e y less) (le, (less, h.1)))
    (λ not-less.
    by_test (eqb e y)
    (λ t. rw (le-ltb e y not-less, t) h)
    (λ t. rw (le-ltb e y not-less, t) (h.0, id_from e (suc y) ys (omega (arith, eqb-false e y t)) h.1)))

pub ids_from : (ids parents : List ℕ) → IdsFrom 0 parents → IdsFrom 0 (with_ids ids parents)
unfolding with_ids
ids_from [] parents h = h
ids_from (x ∷ xs) parents h = ids_from xs (with_id x parents) (id_from x 0 parents (omega arith) h)

-- 'surplus answers or requests are passed over'
pub surplus_answers :
    (rows : List EntityRequest) (answers more : List (List ℕ)) (slice : List Loaded)
    → length rows ≡ length answers
    → with_ancestors rows (answers ++ more) slice ≡ with_ancestors rows answers slice
unfolding with_ancestors
surplus_answers [] answers more slice lengths = refl
surplus_answers (row ∷ rows) [] more slice lengths = absurd (omega arith)
surplus_answers (row ∷ rows) (ids ∷ answers) more slice lengths =
    surplus_answers rows answers more (with_parents row.id ids slice) (omega arith)

pub surplus_requests :
    (rows more : List EntityRequest) (answers : List (List ℕ)) (slice : List Loaded)
    → length rows ≡ length answers
    → with_ancestors (rows ++ more) answers slice ≡ with_ancestors rows answers slice
unfolding with_ancestors
surplus_requests [] [] [] slice lengths = refl
surplus_requests [] (row ∷ more) [] slice lengths = refl
surplus_requests [] more (ids ∷ answers) slice lengths = absurd (omega arith)
surplus_requests (row ∷ rows) more [] slice lengths = absurd (omega arith)
surplus_requests (row ∷ rows) more (ids ∷ answers) slice lengths =
    surplus_requests rows more answers (with_parents row.id ids slice) (omega arith)

-- A good entity stays good.
pub more_good : (ids : List ℕ) (value : Entity) → GoodEntity value → GoodEntity (with_more ids value)
more_good ids value good =
    record { ids_ascend = ids_from ids value.parents good.ids_ascend; fields_ascend = good.fields_ascend }

-- The whole load with its ancestors: of each entity, what its answers come to, with the ids answered for it among its parents, and
-- nothing of an entity that no answer gives.
pub loaded_exactly :
    (request : Request) (nodes : List Row) (batches : List (List (Option Entity))) (ancestors : List (List ℕ)) (load : Load) (e : ℕ)
    → after_batches nodes (load_begun request nodes) batches ≡ done load
    → loaded_as e (with_ancestors load.asked ancestors load.slice)
    ≡ (merged_of (answers_to e load.asked (flatten batches)) >>= (λ value. some (with_more (ids_to e load.asked ancestors) value)))
loaded_exactly request nodes batches ancestors load e h =
    ancestors_loaded load.asked ancestors load.slice e ∙ rw ((load_slice request nodes batches load h).slice-of.merged e)
