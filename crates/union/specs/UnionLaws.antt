-- Laws of the union of words, of its size, and of what the union of lent states answers (Unions). No contract cites this file.
use Rattle.std.specs.Prelude.{ℕ, ◌+◌, ◌≤◌, ◌<◌, ◌≡◌, refl, true, false, List, [], ◌∷◌, map, ltb, length}
use Rattle.std.proofs.Common.{arith, sym, ap, ap₂, ◌∙◌, ⊎_elim}
use borrow.Author.Tests.{ltb-true, ltb-false, lt-ltb, le-ltb, le-leb, lt-leb}
use Rattle.rules.specs.Facts.{by_test}
use Rattle.rules.specs.Tries.{union, entries_in, nodes_in}
use Rattle.rules.proofs.TrieLaws.{union_nil_left, union_nil_right, union_first, union_second, union_same, union_sum-length, union_sum_entries, union_sum_nodes}
use Rattle.rows.specs.Words.{row_in, is_word, rank_in, joined_word}
use Rattle.union.specs.Unions.{union_words_onto, union_words, union_into, Roomy, union_of}
use Rattle.rows.specs.States.{all_words, form_of, words_of, rows_of, lawful_state}
use Rattle.rows.specs.Sizes.{Counted}
use Rattle.std.proofs.lemmas.List.{length-map}
use Rattle.std.proofs.lemmas.List.Edits.{sets}
use Rattle.rows.specs.WordLaws.{words_rows, all_words_cons, next_first, next_second, next_same, next-word, joined_row, joined-word}
use Rattle.words.specs.Runs.{words_in, refusing}
use Rattle.union.specs.Merge.{Decides}
use Rattle.rows.specs.CountLaws.{counted_all}
use Rattle.rows.specs.declared.Limits.{Limits}
use Rattle.rows.specs.declared.Kind.{Kind}
use Rattle.words.specs.Replies.{Done}
use Rattle.rows.specs.StateLaws.{kind_room, all_rows}

-- ---- the union of words

-- nothing is added to what stands alone
pub union_words_nil : (a : List ℕ) → union_words a [] ≡ a
unfolding union_words union_words_onto
union_words_nil [] = refl
union_words_nil (x ∷ a) = refl

-- the turn that takes the first of the two next words, the second, or both in one
module _ (x y : ℕ) (a b : List ℕ) where
  pub union_words_first : rank_in x < rank_in y → union_words (x ∷ a) (y ∷ b) ≡ x ∷ union_words a (y ∷ b)
  unfolding union_words union_words_onto
  union_words_first h = rw (next_first x y h, union_words, union_words_onto)

  pub union_words_second : rank_in y < rank_in x → union_words (x ∷ a) (y ∷ b) ≡ y ∷ union_words (x ∷ a) b
  unfolding union_words union_words_onto
  union_words_second h = rw (next_second x y h, union_words, union_words_onto)

  pub union_words_same : rank_in x ≡ rank_in y → union_words (x ∷ a) (y ∷ b) ≡ joined_word x y ∷ union_words a b
  unfolding union_words union_words_onto
  union_words_same h = rw (next_same x y h, union_words, union_words_onto)

-- the union of two runs of words is a run of words and packs the union of their rows
abbrev Packs : List ℕ → List ℕ → Type 0
Packs a b = (map row_in (union_words a b) ≡ union (map row_in a) (map row_in b)) × (all_words (union_words a b) ≡ true)

-- it does so turn by turn
module _ (x y : ℕ) (a b : List ℕ) (hx : is_word x ≡ true) (hy : is_word y ≡ true) where
  packs_first : rank_in x < rank_in y → Packs a (y ∷ b) → Packs (x ∷ a) (y ∷ b)
  packs_first h more =
      let e = sym (next-word x y hx hy) ∙ next_first x y h in
      rw (union_words_first x y a b h, union_first (row_in x) (row_in y) (map row_in a) (map row_in b) e)
      (ap (λ c. row_in x ∷ c) more.0, (all_words_cons _ _).1 (hx, more.1))

  packs_second : rank_in y < rank_in x → Packs (x ∷ a) b → Packs (x ∷ a) (y ∷ b)
  packs_second h more =
      let e = sym (next-word x y hx hy) ∙ next_second x y h in
      rw (union_words_second x y a b h, union_second (row_in x) (row_in y) (map row_in a) (map row_in b) e)
      (ap (λ c. row_in y ∷ c) more.0, (all_words_cons _ _).1 (hy, more.1))

  packs_same : rank_in x ≡ rank_in y → Packs a b → Packs (x ∷ a) (y ∷ b)
  packs_same h more =
      let e = sym (next-word x y hx hy) ∙ next_same x y h in
      rw (union_words_same x y a b h, union_same (row_in x) (row_in y) (map row_in a) (map row_in b) e)
      (ap₂ (λ row c. row ∷ c) (joined_row x y) more.0, (all_words_cons _ _).1 (joined-word x y hx hy h, more.1))

-- the union of words packs the union of their rows, and is of words
pub union-words :
    (a b : List ℕ)
    → all_words a ≡ true
    → all_words b ≡ true
    → (map row_in (union_words a b) ≡ union (map row_in a) (map row_in b)) × (all_words (union_words a b) ≡ true)
unfolding union_words
union-words [] b wa wb = rw union_nil_left (refl, wb)
union-words (x ∷ a) b wa wb =
    let (hx, ha) = (all_words_cons x a).0 wa in
    onto hx (λ b. union-words a b ha) b wb
  where
    onto :
        is_word x ≡ true
        → ((b : List ℕ) → all_words b ≡ true → Packs a b)
        → (b : List ℕ)
        → all_words b ≡ true
        → Packs (x ∷ a) b
    onto hx rest [] wb = rw (union_words_nil, union_nil_right) (refl, wa)
    onto hx rest (y ∷ b) wb =
        let (hy, hb) = (all_words_cons y b).0 wb in
        by_test (ltb (rank_in x) (rank_in y))
        (λ e. packs_first x y a b hx hy (ltb-true _ _ e) (rest (y ∷ b) wb))
        (λ e.
        by_test (ltb (rank_in y) (rank_in x))
        (λ f. packs_second x y a b hx hy (ltb-true _ _ f) (onto hx rest b hb))
        (λ f. packs_same x y a b hx hy (omega (arith, ltb-false)) (rest b hb)))

-- ---- the union of rows, by its size

module _ (a b : List ℕ) (good-a : all_words a ≡ true) (good-b : all_words b ≡ true) where
  united : rows_of (union_words a b) ≡ union (rows_of a) (rows_of b)
  united = (union-words a b good-a good-b).0

  -- the size of a union decides, and so does the sum of both where it is within the limits
  module _ (limits : Limits) where
    pub decided_by_size : {entries nodes : ℕ} → Counted (union_words a b) [] entries nodes → Decides limits (union_words a b) entries nodes
    decided_by_size counted = let (types, many) = counted_all counted in record { by_entries = rw types; by_nodes = rw many }

    pub decided_by_sum :
        {entries-a nodes-a entries-b nodes-b : ℕ}
        → Counted a [] entries-a nodes-a
        → Counted b [] entries-b nodes-b
        → entries-a + entries-b ≤ limits.entries
        → nodes-a + nodes-b ≤ limits.nodes
        → Decides limits (union_words a b) (entries-a + entries-b) (nodes-a + nodes-b)
    decided_by_sum {entries-a} {nodes-a} {entries-b} {nodes-b} counted-a counted-b types few =
        let (types-a, many-a) = counted_all counted-a in
        let (types-b, many-b) = counted_all counted-b in
        let fewer-types = union_sum_entries (rows_of a) (rows_of b) in
        let fewer-nodes = union_sum_nodes (rows_of a) (rows_of b) in
        record {
          by_entries =
              le-ltb limits.entries (entries-a + entries-b) types
              ∙ sym (rw united (le-ltb limits.entries (entries_in (union (rows_of a) (rows_of b))) (omega (arith, fewer-types, types-a, types-b))));
          by_nodes =
              le-ltb limits.nodes (nodes-a + nodes-b) few
              ∙ sym (rw united (le-ltb limits.nodes (nodes_in (union (rows_of a) (rows_of b))) (omega (arith, fewer-nodes, many-a, many-b))));
        }

  module _ (kind : Kind) (out : List ℕ) {limits : Limits} {entries nodes : ℕ} (decides : Decides limits (union_words a b) entries nodes) (types_of : limits.entries ≡ (form_of kind).entries) (nodes-of : limits.nodes ≡ (form_of kind).nodes) where
    types_decide : ltb (form_of kind).entries (entries_in (union (rows_of a) (rows_of b))) ≡ ltb limits.entries entries
    types_decide = rw (← types_of, ← united) (sym decides.by_entries)

    nodes_decide : ltb (form_of kind).nodes (nodes_in (union (rows_of a) (rows_of b))) ≡ ltb limits.nodes nodes
    nodes_decide = rw (← nodes-of, ← united) (sym decides.by_nodes)

    pub union_many_types : limits.entries < entries → union_into kind a b out ≡ refusing 5 0 out
    union_many_types h = rw (types_decide, lt-ltb limits.entries entries h)

    module _ (types : entries ≤ limits.entries) where
      pub union_many_nodes : limits.nodes < nodes → union_into kind a b out ≡ refusing 4 0 out
      union_many_nodes h = rw (types_decide, le-ltb limits.entries entries types, nodes_decide, lt-ltb limits.nodes nodes h)

      module _ (few : nodes ≤ limits.nodes) where
        -- the whole union fits behind its count
        union-within : 1 + length (union_words a b) ≤ words_of kind
        union-within =
            let few_types = ltb-false (form_of kind).entries (entries_in (union (rows_of a) (rows_of b))) (types_decide ∙ le-ltb limits.entries entries types) in
            let few_nodes = ltb-false (form_of kind).nodes (nodes_in (union (rows_of a) (rows_of b))) (nodes_decide ∙ le-ltb limits.nodes nodes few) in
            omega (
              arith,
              few_types,
              few_nodes,
              kind_room kind,
              all_rows (union (rows_of a) (rows_of b)),
              ap length united,
              length-map (union_words a b) row_in,
            )

        pub union_fits : Roomy kind a b out → 1 + length (union_words a b) ≤ length out
        union_fits roomy =
            let sum = union_sum-length (rows_of a) (rows_of b) in
            ⊎_elim (λ long. omega (arith, union-within))
            (λ long. omega (arith, sum, ap length united, length-map (union_words a b) row_in, length-map a row_in, length-map b row_in))
            roomy

        pub union_stored : union_into kind a b out ≡ record { reply = Done; buffer = sets out 0 (length (union_words a b) ∷ union_words a b) }
        union_stored =
            rw (
              types_decide,
              le-ltb limits.entries entries types,
              nodes_decide,
              le-ltb limits.nodes nodes few,
              ← united,
              words_rows (union_words a b) (union-words a b good-a good-b).1,
              length-map (union_words a b) row_in,
            )

-- ---- the union of lent states, by what was tested

module _ (kind : Kind) (a b out : List ℕ) where
  pub union_short_a : length a < words_of kind → union_of kind a b out ≡ refusing 31 0 out
  unfolding union_of
  union_short_a h = rw (lt-leb (words_of kind) (length a) h)

  module _ (long-a : words_of kind ≤ length a) where
    pub union_short_b : length b < words_of kind → union_of kind a b out ≡ refusing 31 0 out
    unfolding union_of
    union_short_b h = rw (le-leb (words_of kind) (length a) long-a, lt-leb (words_of kind) (length b) h)

    module _ (long-b : words_of kind ≤ length b) where
      pub union_short_out : length out < words_of kind → union_of kind a b out ≡ refusing 31 0 out
      unfolding union_of
      union_short_out h = rw (le-leb (words_of kind) (length a) long-a, le-leb (words_of kind) (length b) long-b, lt-leb (words_of kind) (length out) h)

      module _ (long-out : words_of kind ≤ length out) where
        pub union_unlawful_a : lawful_state (form_of kind) a ≡ false → union_of kind a b out ≡ refusing 1 0 out
        unfolding union_of
        union_unlawful_a e =
            rw (le-leb (words_of kind) (length a) long-a, le-leb (words_of kind) (length b) long-b, le-leb (words_of kind) (length out) long-out, e)

        pub union_unlawful_b :
            lawful_state (form_of kind) a ≡ true → lawful_state (form_of kind) b ≡ false → union_of kind a b out ≡ refusing 1 0 out
        unfolding union_of
        union_unlawful_b e f =
            rw (le-leb (words_of kind) (length a) long-a, le-leb (words_of kind) (length b) long-b, le-leb (words_of kind) (length out) long-out, e, f)

        pub union_lawful :
            lawful_state (form_of kind) a ≡ true
            → lawful_state (form_of kind) b ≡ true
            → union_of kind a b out ≡ union_into kind (words_in a) (words_in b) out
        unfolding union_of
        union_lawful e f =
            rw (le-leb (words_of kind) (length a) long-a, le-leb (words_of kind) (length b) long-b, le-leb (words_of kind) (length out) long-out, e, f)
