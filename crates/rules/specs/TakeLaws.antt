-- The words of proofs/TakeLaws.antt.
use Rattle.std.specs.Prelude.{ℕ, suc, Bool, cond, List, [], ◌∷◌, ◌++◌}
use Rattle.std.proofs.Math.Option.{Option, none, some}
use Rattle.rules.specs.Tries.{Row}
use Rattle.rules.specs.Values.{Entity}
use Rattle.rules.specs.Loading.{LoadAnswer, done, refused_at, ◌then◌, EntityRequest, Loaded, AnswersTaken, batch_of, remaining_entities, entered}
use Rattle.rules.specs.MergeLaws.{each_merges}
use Rattle.rules.specs.SliceLaws.{answers_to}

-- What an answer comes to, by the rows asked and answered before it: the rows that are found, 14, or 13 where it does not merge with an
-- earlier answer to the same entity.
abbrev pub found_or : ℕ → Bool → Option (List EntityRequest) → LoadAnswer (List EntityRequest)
found_or place merges none = refused_at 14 place
found_or place merges (some rows) = cond merges (done rows) (refused_at 13 place)

abbrev pub taken_by :
    List Row → List EntityRequest → List (Option Entity) → ℕ → EntityRequest → Option Entity → LoadAnswer (List EntityRequest)
taken_by nodes asked answers place row none = done []
taken_by nodes asked answers place row (some value) =
    found_or place (each_merges (answers_to row.id asked answers) value) (batch_of (remaining_entities nodes row.node value.attributes))

-- the slice after an answer that is taken
abbrev pub or_else : Option (List Loaded) → List Loaded → List Loaded
or_else none slice = slice
or_else (some more) slice = more

abbrev pub slice_after : EntityRequest → Option Entity → List Loaded → List Loaded
slice_after row none slice = slice
slice_after row (some value) slice = or_else (entered row.id value slice) slice

abbrev pub taken_into : AnswersTaken → EntityRequest → Option Entity → List EntityRequest → AnswersTaken
taken_into gained row answer rows = record { slice = slice_after row answer gained.slice; next = gained.next ++ rows }

-- What a batch's answers come to, each by the rows asked and answered before it.
unfoldable pub all_taken_by :
    List Row → List EntityRequest → List (Option Entity) → ℕ → List EntityRequest → List (Option Entity) → LoadAnswer (List EntityRequest)
all_taken_by nodes asked before place [] answers = done []
all_taken_by nodes asked before place (row ∷ rows) [] = done []
all_taken_by nodes asked before place (row ∷ rows) (answer ∷ answers) =
    taken_by nodes asked before place row answer then
    (λ found.
    all_taken_by nodes (asked ++ (row ∷ [])) (before ++ (answer ∷ [])) (suc place) rows answers then (λ more. done (found ++ more)))

-- The slice after answers that are taken.
unfoldable pub slices_after : List EntityRequest → List (Option Entity) → List Loaded → List Loaded
slices_after [] answers slice = slice
slices_after (row ∷ rows) [] slice = slice
slices_after (row ∷ rows) (answer ∷ answers) slice = slices_after rows answers (slice_after row answer slice)
