-- Laws of an entity that is written: its parents, its rows, and its head. No contract cites this file.
use Rattle.std.specs.Prelude.{ℕ, suc, ◌+◌, ◌-◌, ◌^◌, ◌≤◌, ◌<◌, ◌≡◌, refl, List, [], ◌∷◌, length, take, drop, get_or, set}
use Rattle.std.proofs.Common.{add-one, arith, sym, ◌∙◌}
use Rattle.std.proofs.Math.Option.{some, none-ne-some, some-injective}
use Rattle.rules.specs.Values.{Entity}
use Rattle.rules.proofs.MergeLaws.{merged_of}
use Rattle.rules.specs.Loading.{with_ids}
use Rattle.rules.proofs.SliceLaws.{with_more}
use Rattle.words.specs.Runs.{Wrote}
use Rattle.words.specs.RunLaws.{wrote_length, wrote_more}
use Rattle.words.specs.SeqLaws.{set_before}
use Rattle.answers.specs.Answers.{head_word}
use Rattle.slices.specs.Slices.{parent_count, parents_at, entity_at, EntityStands, answers_for, row_words, entity_words, ids_for}
use Rattle.slices.specs.Writing.{FirstAnswer, rows_in, entity_sizes, RowsFit, MayUniteAll, ParentsFit, EntityFit, EntityWritten}
use Rattle.slices.specs.HeardLaws.{stands_good}
use Rattle.slices.specs.WriteLaws.{all_parents, parents_count, wrote_back, wrote_over}
use Rattle.slices.specs.IdLaws.{ids_sizes}

-- ---- parents

-- answers that merge are some
pub merged_some : (l : List Entity) (value : Entity) → merged_of l ≡ some value → l ≡ [] → ⊥
unfolding merged_of
merged_some l value given none_there = none-ne-some value (rw none_there at given)

-- they have the parents of the first
first_parents : (a : Entity) (l : List Entity) (value : Entity) → merged_of (a ∷ l) ≡ some value → value.parents ≡ a.parents
unfolding merged_of
first_parents a l value given = all_parents a l value given

module _ {words rows places sets-words set-places : List ℕ} {e : ℕ} {out : List ℕ} {to : ℕ} {scratch : List ℕ}
    (fit : ParentsFit words rows places sets-words set-places e out to scratch)
  where
    pub parents_some : answers_for words rows places e ≡ [] → ⊥
    parents_some none_there = merged_some (answers_for words rows places e) fit.value fit.merged none_there

    module _ {first : ℕ} (found : FirstAnswer words rows places e 0 first) where
      pub first_stands : EntityStands words (get_or places first 0)
      first_stands = fit.heard.stands first found.inside found.present

      value_parents : fit.value.parents ≡ parents_at words (get_or places first 0)
      value_parents = first_parents (entity_at words (get_or places first 0)) _ fit.value (rw found.answers at fit.merged)

      module _ {end : ℕ} (ends : end ≡ get_or places first 0 + 1 + parent_count words (get_or places first 0)) where
        parents_number : end - (get_or places first 0 + 1) ≡ length fit.value.parents
        parents_number = rw value_parents (omega (arith, parents_count first_stands))

        parents_run : take (end - (get_or places first 0 + 1)) (drop (get_or places first 0 + 1) words) ≡ fit.value.parents
        parents_run = let n : end - (get_or places first 0 + 1)
            ≡ parent_count words (get_or places first 0) = omega arith in rw (n, value_parents)

        pub parents_room : to + length (take (end - (get_or places first 0 + 1)) (drop (get_or places first 0 + 1) words)) ≤ length out
        parents_room = rw parents_run (omega (arith, fit.room))

        module _ {out₁ : List ℕ} {at : ℕ}
            (copied : Wrote out to (take (end - (get_or places first 0 + 1)) (drop (get_or places first 0 + 1) words)) out₁ at)
          where
            parents_copied : Wrote out to fit.value.parents out₁ at
            parents_copied = rw parents_run at copied

            parents_held : take (end - (get_or places first 0 + 1)) (drop to out₁) ≡ fit.value.parents
            parents_held = rw parents_number (wrote_back parents_copied (omega (arith, fit.room)))

            pub parents_unite : MayUniteAll rows sets-words set-places e out₁ to (end - (get_or places first 0 + 1)) scratch
            parents_unite = record {
              heard = fit.sets_heard;
              held_ascend = rw (parents_held, value_parents) (stands_good first_stands).ids_ascend;
              room = omega (arith, parents_number, fit.room, wrote_length copied);
              scratch_room = omega (arith, parents_number, fit.scratch_room);
            }

            pub parents_wrote :
                {out₂ : List ℕ} {at₂ : ℕ}
                → Wrote out₁ to (with_ids (ids_for rows sets-words set-places e) (take (end - (get_or places first 0 + 1)) (drop to out₁)))
                out₂ at₂
                → (value : Entity)
                → merged_of (answers_for words rows places e) ≡ some value
                → Wrote out to (with_ids (ids_for rows sets-words set-places e) value.parents) out₂ at₂
            parents_wrote united value given =
                let is : fit.value ≡ value = some-injective _ _ (sym fit.merged ∙ given) in
                rw (← is)
                (wrote_over (ids_sizes (ids_for rows sets-words set-places e) fit.value.parents).0 parents_copied
                (rw parents_held at united))

-- ---- the whole entity

rows_few : (l : List Entity) → rows_in l ≤ entity_sizes l
unfolding rows_in entity_sizes
rows_few [] = omega arith
rows_few (a ∷ l) = omega (arith, rows_few l)

pub sizes_enough : (l : List Entity) (value : Entity) → merged_of l ≡ some value → 1 + length value.parents + rows_in l ≤ entity_sizes l
unfolding rows_in entity_sizes
sizes_enough [] value given = absurd (merged_some [] value given refl)
sizes_enough (a ∷ l) value given = rw (first_parents a l value given) (omega (arith, rows_few l))

-- a word in front of a run
wrote_head : {out xs out' : List ℕ} {to at : ℕ} (head : ℕ) → Wrote out (to + 1) xs out' at → Wrote out to (head ∷ xs) (set out' to head) at
wrote_head {out} {xs} {to = to} head wrote = record {
  after = omega (arith, wrote.after);
  text = rw (wrote.text, add-one to) (set_before out to head (suc to) xs (omega arith));
}

module _ {words rows places sets-words set-places : List ℕ} {e : ℕ} {out : List ℕ} {to : ℕ} {scratch : List ℕ}
    (fit : EntityFit words rows places sets-words set-places e out to scratch)
  where
    answers_enough : 1 + length fit.value.parents + rows_in (answers_for words rows places e)
        ≤ entity_sizes (answers_for words rows places e)
    answers_enough = sizes_enough (answers_for words rows places e) fit.value fit.merged

    pub entity_parents : ParentsFit words rows places sets-words set-places e out (to + 1) scratch
    entity_parents = record {
      heard = fit.heard;
      sets_heard = fit.sets_heard;
      value = fit.value;
      merged = fit.merged;
      room = omega (arith, answers_enough, fit.room);
      scratch_room = omega (arith, answers_enough, fit.scratch_room);
    }

    module _ (out₁ : List ℕ) (parents : ℕ)
        (wrote : (value : Entity)
        → merged_of (answers_for words rows places e) ≡ some value
        → Wrote out (to + 1) (with_ids (ids_for rows sets-words set-places e) value.parents) out₁ (to + 1 + parents))
      where
        parents_more : parents ≡ length (with_ids (ids_for rows sets-words set-places e) fit.value.parents)
        parents_more = omega (arith, (wrote fit.value fit.merged).after)

        parents_most : parents ≤ length fit.value.parents + length (ids_for rows sets-words set-places e)
        parents_most = omega (arith, parents_more, (ids_sizes (ids_for rows sets-words set-places e) fit.value.parents).1)

        pub entity_rows : (scratch₁ : List ℕ) → length scratch₁ ≡ length scratch
            → RowsFit words rows places e out₁ (to + 1 + parents) scratch₁
        entity_rows scratch₁ kept = record {
          heard = fit.heard;
          value = fit.value;
          merged = fit.merged;
          room = omega (arith, answers_enough, parents_most, fit.room, wrote_length (wrote fit.value fit.merged));
          scratch_room = omega (arith, answers_enough, fit.scratch_room, kept);
        }

        pub parents_small : parents < 2 ^ 16
        parents_small = omega (arith, answers_enough, parents_most, fit.few)

        module _ (out₂ : List ℕ) (size : ℕ)
            (rows-wrote : (value : Entity)
            → merged_of (answers_for words rows places e) ≡ some value
            → Wrote out₁ (to + 1 + parents) (row_words value) out₂ (to + 1 + parents + size))
            (most : size ≤ rows_in (answers_for words rows places e))
          where
            pub size_small : size < 2 ^ 16
            size_small = omega (arith, answers_enough, fit.few)

            pub entity_inside : to < length out₂
            entity_inside =
                omega (
                  arith,
                  answers_enough,
                  fit.room,
                  wrote_length (wrote fit.value fit.merged),
                  wrote_length (rows-wrote fit.value fit.merged),
                )

            pub entity_written :
                EntityWritten words rows places sets-words set-places e out to
                (set out₂ to (head_word e parents size)) (to + 1 + parents + size)
            entity_written = record { wrote = all; few = omega (arith, answers_enough, parents_most) }
              where
                all :
                    (value : Entity)
                    → merged_of (answers_for words rows places e) ≡ some value
                    → Wrote out to (entity_words e (with_more (ids_for rows sets-words set-places e) value))
                    (set out₂ to (head_word e parents size)) (to + 1 + parents + size)
                all value given =
                    let first = wrote value given in
                    let second = rows-wrote value given in
                    let n : length (with_ids (ids_for rows sets-words set-places e) value.parents)
                    ≡ parents = omega (arith, first.after) in
                    let m : length (row_words value) ≡ size = omega (arith, second.after) in
                    rw (n, m) (wrote_head (head_word e parents size) (wrote_more first second))
