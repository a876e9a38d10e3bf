-- A slice that is written (slices) is what is read from its words. No contract cites this file.
use Rattle.std.specs.Prelude.{ℕ, zero, suc, ◌+◌, ◌≤◌, ◌≡◌, refl, List, [], ◌∷◌, ◌++◌, length, drop}
use Rattle.std.proofs.Common.{arith, append_assoc, length-append}
use Rattle.std.proofs.Math.Seq.{take-append_seam, drop-append_seam, drop-append-add}
use Rattle.rules.proofs.StepLaws.{Each}
use Rattle.rules.specs.ValueRows.{attribute_rows}
use Rattle.rules.proofs.ValueRowTestLaws.{read_run}
use Rattle.rules.specs.Loading.{Loaded}
use Rattle.values.specs.ValueWords.{value_rows_of}
use Rattle.slices.specs.Slices.{row_words, slice_words, FitsHead}
use Rattle.answers.specs.Answers.{head_in, head_word, entity_in}
use Rattle.ancestors.specs.SliceWords.{slice_of, slice_in}

-- an entity whose head and rows are read back from their words
abbrev pub Readable : Loaded → Type 0
Readable l = FitsHead l × (value_rows_of (row_words l.value) ≡ attribute_rows 1 l.value.attributes)

module _ (l : Loaded) (readable : Readable l) (rest : List ℕ) where
  abbrev parents : List ℕ
  parents = l.value.parents

  abbrev rows : List ℕ
  rows = row_words l.value

  abbrev head : ℕ
  head = head_word l.id (length parents) (length rows)

  head_id : (head_in head).flag ≡ l.id
  head_id = let small = readable.0.0 in let few = readable.0.1 in omega arith

  head_parents : (head_in head).parents ≡ length parents
  head_parents = let small = readable.0.0 in let few = readable.0.1 in omega arith

  head_rows : (head_in head).rows ≡ length rows
  head_rows = let small = readable.0.0 in let few = readable.0.1 in omega arith

  entity_again : entity_in (head_in head) (parents ++ (rows ++ rest)) ≡ l.value
  entity_again =
      rw (
        head_parents,
        head_rows,
        take-append_seam parents (rows ++ rest),
        drop-append_seam parents (rows ++ rest),
        take-append_seam rows rest,
        readable.1,
        read_run 1 l.value.attributes,
      )

  behind_it : drop ((head_in head).parents + (head_in head).rows) (parents ++ (rows ++ rest)) ≡ rest
  behind_it = rw (head_parents, head_rows, drop-append-add parents (rows ++ rest) (length rows)) (drop-append_seam rows rest)

slice-of : (most : ℕ) (slice : List Loaded) → Each Readable slice → length (slice_words slice) ≤ most → slice_of most (slice_words slice) ≡ slice
unfolding slice_of slice_words Each
slice-of zero [] each fits = refl
slice-of (suc most) [] each fits = refl
slice-of zero (l ∷ slice) each fits = absurd (omega arith)
slice-of (suc most) (l ∷ slice) each fits =
    let run : List ℕ = l.value.parents ++ row_words l.value in
    rw (
      append_assoc l.value.parents (row_words l.value) (slice_words slice),
      head_id l each.0 (slice_words slice),
      entity_again l each.0 (slice_words slice),
      behind_it l each.0 (slice_words slice),
      slice-of most slice each.1 (omega (arith, length-append run (slice_words slice))),
    )

-- what is read from the words of a slice is the slice
pub slice_again : (slice : List Loaded) → Each Readable slice → slice_in (slice_words slice) ≡ slice
slice_again slice each = slice-of (length (slice_words slice)) slice each (omega arith)
