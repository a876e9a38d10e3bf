-- Answers taken row by row, with the answers before them in place of the slice (`taken_by`, `all_taken_by`), and laws that this is the same.
use Rattle.std.specs.Prelude.{ℕ, suc, ◌+◌, ◌≡◌, refl, List, [], ◌∷◌, ◌++◌, length, take, drop}
use Rattle.std.proofs.Common.{arith, add-zero, add-suc, suc-add, sym, ap, ◌∙◌, append_assoc, append-nil, length-append}
use Rattle.std.proofs.Math.Option.{Option, none, some}
use Rattle.std.proofs.Math.Seq.{drop-nil}
use Rattle.rules.specs.Tries.{Row}
use Rattle.rules.specs.Values.{Entity}
use Rattle.rules.proofs.ValueRowLaws.{Every}
use Rattle.rules.proofs.StepLaws.{Each, each_append}
use Rattle.rules.specs.Loading.{
  LoadAnswer,
  done,
  refused_at,
  counted,
  ◌then◌,
  EntityRequest,
  Loaded,
  AnswersTaken,
  batch_of,
  remaining_entities,
  entered,
  take_answer,
  take_answers,
}
use Rattle.rules.proofs.MergeLaws.{GoodEntity, each_merges, there}
use Rattle.rules.proofs.SliceLaws.{answers_to, SliceOf, slice_none, slice_some, entered_test}
pub use Rattle.rules.specs.TakeLaws.{found_or, taken_by, or_else, slice_after, taken_into}
unfoldable pub use Rattle.rules.specs.TakeLaws.{all_taken_by, slices_after}

module _
    (nodes : List Row) (asked : List EntityRequest) (answers : List (Option Entity)) (gained : AnswersTaken)
    (as_many : length asked ≡ length answers)
    (sofar : SliceOf asked answers gained.slice)
    (good : Each (Every GoodEntity) answers)
    (row : EntityRequest)
  where
    pub take_by :
        (place : ℕ) (answer : Option Entity)
        → Every GoodEntity answer
        → take_answer nodes place row answer gained
        ≡ (taken_by nodes asked answers place row answer then (λ rows. done (taken_into gained row answer rows)))
    take_by place none h = rw (append-nil gained.next)
    take_by place (some value) h =
        go (batch_of (remaining_entities nodes row.node value.attributes))
        (entered row.id value gained.slice)
        (entered_test asked answers gained.slice sofar good row.id value h)
      where
        go :
            (batch : Option (List EntityRequest)) (o : Option (List Loaded))
            → there o ≡ each_merges (answers_to row.id asked answers) value
            → ◌≡◌ {A = LoadAnswer AnswersTaken}
            (elim batch [
              | none ↦ refused_at 14 place
              | some rows ↦
                  elim o [
                    | none ↦ refused_at 13 place
                    | some slice ↦ done (record { slice = slice; next = gained.next ++ rows })
                  ]
            ])
            (found_or place (each_merges (answers_to row.id asked answers) value) batch
            then
            (λ rows. done (record { slice = or_else o gained.slice; next = gained.next ++ rows })))
        go none o e = refl
        go (some rows) none e = rw (← e)
        go (some rows) (some slice) e = rw (← e)

    -- the slice is that of one row and answer more
    pub slice-after :
        (place : ℕ) (answer : Option Entity) (rows : List EntityRequest)
        → Every GoodEntity answer
        → taken_by nodes asked answers place row answer ≡ done rows
        → SliceOf (asked ++ (row ∷ [])) (answers ++ (answer ∷ [])) (slice_after row answer gained.slice)
    slice-after place none rows h e = slice_none asked answers gained.slice as_many sofar row
    slice-after place (some value) rows h e =
        go (batch_of (remaining_entities nodes row.node value.attributes))
        (entered row.id value gained.slice)
        (entered_test asked answers gained.slice sofar good row.id value h)
        (λ slice given. slice_some asked answers gained.slice as_many sofar row value slice given)
        e
      where
        go :
            (batch : Option (List EntityRequest)) (o : Option (List Loaded))
            → there o ≡ each_merges (answers_to row.id asked answers) value
            → ((slice : List Loaded) → o ≡ some slice → SliceOf (asked ++ (row ∷ [])) (answers ++ (some value ∷ [])) slice)
            → found_or place (each_merges (answers_to row.id asked answers) value) batch ≡ done rows
            → SliceOf (asked ++ (row ∷ [])) (answers ++ (some value ∷ [])) (or_else o gained.slice)
        go none o t next e = let z : ◌≡◌ {A = ℕ} 0 1 = cc in absurd (omega arith)
        go (some found) none t next e = let z : ◌≡◌ {A = ℕ} 0 1 = cc (rw (← t) at e) in absurd (omega arith)
        go (some found) (some slice) t next e = next slice refl

-- answers after others; rows without an answer are passed over
pub taken_append :
    (nodes : List Row) (asked : List EntityRequest) (before : List (Option Entity)) (place : ℕ) (rows : List EntityRequest)
    (answers others : List (Option Entity))
    → all_taken_by nodes asked before place rows (answers ++ others)
    ≡ (all_taken_by nodes asked before place rows answers then
    (λ found.
    all_taken_by nodes (asked ++ take (length answers) rows) (before ++ answers) (place + length answers) (drop (length answers) rows) others
    then
    (λ more. done (found ++ more))))
unfolding all_taken_by
taken_append nodes asked before place [] answers others = rw (drop-nil {A = EntityRequest} (length answers))
taken_append nodes asked before place (row ∷ rows) [] others =
    same (all_taken_by nodes asked before place (row ∷ rows) others)
    ∙ ap (λ (a : List EntityRequest). all_taken_by nodes a before place (row ∷ rows) others then (λ more. done more)) (sym (append-nil asked))
    ∙ ap (λ (b : List (Option Entity)). all_taken_by nodes (asked ++ []) b place (row ∷ rows) others then (λ more. done more)) (sym (append-nil before))
    ∙ ap (λ (p : ℕ). all_taken_by nodes (asked ++ []) (before ++ []) p (row ∷ rows) others then (λ more. done more)) (sym (add-zero place))
  where
    same : (o : LoadAnswer (List EntityRequest)) → o ≡ (o then (λ more. done more))
    same (done found) = refl
    same (refused_at number place) = refl
    same (counted expected got) = refl
taken_append nodes asked before place (row ∷ rows) (answer ∷ answers) others =
    rw (
      taken_append nodes (asked ++ (row ∷ [])) (before ++ (answer ∷ [])) (suc place) rows answers others,
      append_assoc asked (row ∷ []) (take (length answers) rows),
      append_assoc before (answer ∷ []) answers,
      add-suc place (length answers),
      suc-add place (length answers),
    )
    (grouped (taken_by nodes asked before place row answer)
    (all_taken_by nodes (asked ++ (row ∷ [])) (before ++ (answer ∷ [])) (suc place) rows answers)
    (all_taken_by nodes (asked ++ (row ∷ take (length answers) rows)) (before ++ (answer ∷ answers)) (suc (place + length answers))
    (drop (length answers) rows) others))
  where
    grouped :
        (first second third : LoadAnswer (List EntityRequest))
        → (first then (λ f. (second then (λ found. third then (λ more. done (found ++ more)))) then (λ m. done (f ++ m))))
        ≡ ((first then (λ f. second then (λ m. done (f ++ m)))) then (λ found. third then (λ more. done (found ++ more))))
    grouped (done f) (done g) (done h) = rw (append_assoc f g h)
    grouped (done f) (done g) (refused_at number place) = refl
    grouped (done f) (done g) (counted expected got) = refl
    grouped (done f) (refused_at number place) third = refl
    grouped (done f) (counted expected got) third = refl
    grouped (refused_at number place) second third = refl
    grouped (counted expected got) second third = refl

-- one answer
pub taken_one :
    (nodes : List Row) (asked : List EntityRequest) (before : List (Option Entity)) (place : ℕ) (row : EntityRequest)
    (rows : List EntityRequest) (answer : Option Entity)
    → all_taken_by nodes asked before place (row ∷ rows) (answer ∷ []) ≡ taken_by nodes asked before place row answer
unfolding all_taken_by
taken_one nodes asked before place row rows answer =
    rw (nothing rows) (same (taken_by nodes asked before place row answer))
  where
    nothing :
        (rows : List EntityRequest)
        → all_taken_by nodes (asked ++ (row ∷ [])) (before ++ (answer ∷ [])) (suc place) rows [] ≡ done []
    nothing [] = refl
    nothing (next ∷ rows) = refl

    same : (o : LoadAnswer (List EntityRequest)) → (o then (λ found. done (found ++ []))) ≡ o
    same (done found) = rw (append-nil found)
    same (refused_at number place) = refl
    same (counted expected got) = refl

-- The answers of a batch, taken by the slice, come to the same.
pub takes_by :
    (nodes : List Row) (asked : List EntityRequest) (before : List (Option Entity)) (place : ℕ) (rows : List EntityRequest)
    (answers : List (Option Entity)) (gained : AnswersTaken)
    → length asked ≡ length before
    → SliceOf asked before gained.slice
    → Each (Every GoodEntity) before
    → Each (Every GoodEntity) answers
    → take_answers nodes place rows answers gained
    ≡ (all_taken_by nodes asked before place rows answers then
    (λ found. done (record { slice = slices_after rows answers gained.slice; next = gained.next ++ found })))
unfolding all_taken_by take_answers slices_after Each
takes_by nodes asked before place [] answers gained as_many sofar earlier good = rw (append-nil gained.next)
takes_by nodes asked before place (row ∷ rows) [] gained as_many sofar earlier good = rw (append-nil gained.next)
takes_by nodes asked before place (row ∷ rows) (answer ∷ answers) gained as_many sofar earlier good =
    rw (take_by nodes asked before gained as_many sofar earlier row place answer good.0)
    (go (taken_by nodes asked before place row answer)
    (λ found e.
    takes_by nodes (asked ++ (row ∷ [])) (before ++ (answer ∷ [])) (suc place) rows answers (taken_into gained row answer found)
    (simp length-append (omega arith))
    (slice-after nodes asked before gained as_many sofar earlier row place answer found good.0 e)
    (each_append (Every GoodEntity) before (answer ∷ []) earlier (good.0, tt))
    good.1))
  where
    rest : LoadAnswer (List EntityRequest)
    rest = all_taken_by nodes (asked ++ (row ∷ [])) (before ++ (answer ∷ [])) (suc place) rows answers

    slice : List Loaded
    slice = slices_after rows answers (slice_after row answer gained.slice)

    joined :
        (found : List EntityRequest) (o : LoadAnswer (List EntityRequest))
        → ◌≡◌ {A = LoadAnswer AnswersTaken}
        (o then (λ more. done (record { slice = slice; next = (gained.next ++ found) ++ more })))
        ((o then (λ more. done (found ++ more))) then (λ all. done (record { slice = slice; next = gained.next ++ all })))
    joined found (done more) = rw (append_assoc gained.next found more)
    joined found (refused_at number place) = refl
    joined found (counted expected got) = refl

    go :
        (o : LoadAnswer (List EntityRequest))
        → ((found : List EntityRequest)
        → o ≡ done found
        → take_answers nodes (suc place) rows answers (taken_into gained row answer found)
        ≡ (rest then (λ more. done (record { slice = slice; next = (gained.next ++ found) ++ more }))))
        → ((o then (λ found. done (taken_into gained row answer found)))
        then
        (λ more. take_answers nodes (suc place) rows answers more))
        ≡ ((o then (λ found. rest then (λ more. done (found ++ more))))
        then
        (λ all. done (record { slice = slice; next = gained.next ++ all })))
    go (done found) h = h found refl ∙ joined found rest
    go (refused_at number place) h = refl
    go (counted expected got) h = refl
