-- Laws of rows that are copied to the front of a slice. No contract cites this file.
use Rattle.std.specs.Prelude.{ℕ, ◌+◌, ◌≤◌, ◌<◌, ◌≡◌, refl, Bool, cond, List, [], ◌++◌, map, leb, length, take, drop, get_or, set, replicate}
use Rattle.std.proofs.Common.{zero-add, add-one, arith, sym, ap, subst, ◌∙◌, take_all, length-take-le, le-leb, leb-true, leb-false}
use Rattle.std.proofs.Math.Seq.{paste, paste-suc}
use Rattle.std.proofs.lemmas.Bool.{lt-leb}
use Rattle.rules.specs.Facts.{by_test}
use Rattle.values.specs.ValueWords.{row_asked}
use Rattle.values.specs.declared.request.EntityRequest.{EntityRequest}
use Rattle.load_state.specs.Outcomes.{HandedOut, HandedAs, refusing_out}
use Rattle.load_state.specs.LoadReplies.{LoadReply, Refused}
use Rattle.load_batch.specs.Handing.{batch_in}
use Rattle.batch_rows.specs.Rows.{request_of, count_of, at_most, begins, handed_in, lent_rows, batch_rows_in, RowsAs}

-- a struct with the entity and the node of a word is its row
pub same_request : (row : EntityRequest) (word : ℕ) → row.id ≡ (row_asked word).id → row.node ≡ (row_asked word).node → row ≡ request_of word
same_request row word same_id same-node = λ k. record { id = same_id k; node = same-node k }

-- one more row of a copy
pub copy_next : {A : Type 0} (out rows : List A) (i : ℕ) (z : A) → i < length out → i < length rows
    → set (paste out 0 rows i) i (get_or rows i z) ≡ paste out 0 rows (i + 1)
copy_next out rows i z room more =
    ap (λ (k : ℕ). set (paste out 0 rows i) k (get_or rows i z)) (sym (zero-add i))
    ∙ paste-suc out 0 rows i z (subst (λ (k : ℕ). k < length out) (sym (zero-add i)) room) more
    ∙ ap (paste out 0 rows) (sym (add-one i))

-- a copy of some rows begins with them
pub copy_begins : {A : Type 0} (out rows : List A) (n : ℕ) → n ≤ length rows → paste out 0 rows n ≡ begins (take n rows) out
copy_begins out rows n some = ap (λ (k : ℕ). take n rows ++ drop k out) (zero-add n ∙ sym (length-take-le n rows some))

-- ---- what is handed out
no_room : (state : List ℕ) (room : ℕ) → room < 4096 → handed_in state room ≡ refusing_out 31 0 state []
unfolding handed_in
no_room state room short = ap (λ (t : Bool). cond t (batch_in state (replicate 4096 0)) (refusing_out 31 0 state [])) (lt-leb 4096 room short)

has_room : (state : List ℕ) (room : ℕ) → 4096 ≤ room → handed_in state room ≡ batch_in state (replicate 4096 0)
unfolding handed_in
has_room state room long = ap (λ (t : Bool). cond t (batch_in state (replicate 4096 0)) (refusing_out 31 0 state [])) (le-leb 4096 room long)

-- within the limit there are no more
pub at-most : (limit n : ℕ) → at_most limit n ≤ limit
at-most limit n =
    by_test (leb n limit) (λ few. subst (λ (t : Bool). cond t n limit ≤ limit) (sym few) (leb-true n limit few))
    (λ many. subst (λ (t : Bool). cond t n limit ≤ limit) (sym many) (omega arith))

-- a list has no more than its limit
take_most : {A : Type 0} (limit n : ℕ) (xs : List A) → length xs ≡ limit → take (at_most limit n) xs ≡ take n xs
take_most limit n xs all =
    by_test (leb n limit) (λ few. ap (λ (t : Bool). take (cond t n limit) xs) few)
    (λ many. ap (λ (t : Bool). take (cond t n limit) xs) many ∙ take_all limit xs (omega (arith, all)) ∙ sym (take_all n xs (omega (arith, all, leb-false n limit many))))

-- a slice that is too short for a batch
pub rows_short : (state : List ℕ) (out : List EntityRequest) → length out < 4096 → RowsAs (batch_rows_in state out) (Refused 31 0) state out
rows_short state out short =
    subst (λ (handed : HandedOut). RowsAs (lent_rows handed out) (Refused 31 0) state out) (sym (no_room state (length out) short)) (refl, refl, refl)

-- the rows of the words that were handed out
pub rows_handed :
    (state after words : List ℕ) (out : List EntityRequest) (reply : LoadReply) (count : ℕ)
    → 4096 ≤ length out
    → HandedAs (batch_in state (replicate 4096 0)) reply after words
    → length words ≡ 4096
    → count ≡ at_most 4096 (count_of reply)
    → RowsAs (batch_rows_in state out) reply after (begins (map request_of (take count words)) out)
rows_handed state after words out reply count long handed all counted =
    let rows : List ℕ → ℕ → List EntityRequest = λ words n. map request_of (take n words) in
    subst (λ (outcome : HandedOut). RowsAs (lent_rows outcome out) reply after (begins (rows words count) out)) (sym (has_room state (length out) long)) (
      handed.0,
      handed.1,
      ap (λ (l : List EntityRequest). begins l out)
          (ap (rows words) counted
          ∙ ap (map request_of) (take_most 4096 (count_of reply) words all)
          ∙ ap (λ (told : LoadReply). rows words (count_of told)) handed.0
          ∙ ap (λ (handed_words : List ℕ). rows handed_words (count_of (batch_in state (replicate 4096 0)).reply)) handed.2),
    )
