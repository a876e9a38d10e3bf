-- Laws of building a manifest (Building): what adding answers, what a build has, and that order is free. Demand3 states them.
-- No contract cites this file.
use Rattle.std.specs.Prelude.{ℕ, ◌≤◌, ◌<◌, ◌≡◌, ◌⊎◌, ◌↔◌, true, leb, length}
use Rattle.std.proofs.Common.{arith, ap, ⊎_elim, leb-true, lt-ltb, le-ltb, le-leb}
use Rattle.std.proofs.Math.Path.{refl}
use Rattle.std.proofs.Math.Logic.{inl, inr}
use mathlib.Core.Logic.Iff
use Rattle.std.proofs.Math.Bool.{and-eq-true_iff}
use mathlib.Core.List.Memᴰ.{cases_cons as here-or-later}
use mathlib.Core.List.Memᴰ.{head as here}
use mathlib.Core.List.Memᴰ.{not-nil as none_in_empty}
use mathlib.Core.List.Memᴰ.{tail as later}
use mathlib.Core.List.{
  List,
  [],
  ◌∷◌,
  ◌++◌,
  map,
  Memᴰ as Member,
}
use Rattle.rules.specs.Numbers.{Answer, accepted, refused}
use Rattle.rules.specs.Facts.{compared, either, more_first}
use Rattle.rules.specs.Tries.{
  Row,
  Form,
  Has,
  Marked,
  ordered,
  count,
  entries_in,
  nodes_in,
  manifest,
  contribution,
  lawful,
  union,
}
use Rattle.rules.proofs.TrieLaws.{
  bare,
  union_ordered,
  union_has,
  union_marked,
  same_rows,
  subset_entries,
  subset_nodes,
}
use Rattle.rules.specs.Building.{add, after, build, keep, accepted_of, Contributions}
use Rattle.rules.specs.Listing.{listing}
pub use Rattle.rules.specs.BuildingLaws.{Fits, Judged, many_entries, many_nodes, within, Some, Shared, Inside}

-- Lawful runs.

-- a lawful run is in listing order
lawful_ordered : (form : Form) (rows : List Row) → lawful form rows ≡ true → ordered [] rows ≡ true
lawful_ordered form rows h = ((and-eq-true_iff (ordered [] rows) _).0 h).0

-- a lawful manifest is a run in listing order within the limits
lawful_manifest : (rows : List Row) → (lawful manifest rows ≡ true) ↔ ((ordered [] rows ≡ true) × Fits rows)
lawful_manifest rows = (
  λ h.
      let (order, limits) = (and-eq-true_iff (ordered [] rows) _).0 h in
      let (entries, nodes) = (and-eq-true_iff (leb (entries_in rows) 64) _).0 limits in
      (order, (leb-true _ _ entries, leb-true _ _ nodes)),
  λ h. simp (h.0, le-leb _ _ h.1.0, le-leb _ _ h.1.1),
)

-- the empty manifest is one
pub lawful_empty : lawful manifest [] ≡ true
unfolding ordered count
lawful_empty = refl

-- What adding answers.

-- an answer tells its cause
five_cause : {rows : List Row} → Judged rows (refused 5 0) → 64 < entries_in rows
five_cause (many_entries h) = h

four_cause : {rows : List Row} → Judged rows (refused 4 0) → (entries_in rows ≤ 64) × (4096 < nodes_in rows)
four_cause (many_nodes h) = h

accepted_cause : {rows others : List Row} → Judged rows (accepted others) → Fits rows
accepted_cause (within h) = h

module _ (m c : List Row) where
  -- adding answers by the union's counts
  judged : Judged (union m c) (add m c)
  judged =
      compared 64 (entries_in (union m c)) (λ e. simp lt-ltb (many_entries e))
      (λ e.
      compared 4096 (nodes_in (union m c)) (λ n. simp (le-ltb, lt-ltb) (many_nodes (e, n))) (λ n. simp le-ltb (within (e, n))))

  -- each answer is given exactly where its cause holds
  pub refused_entries : (add m c ≡ refused 5 0) ↔ (64 < entries_in (union m c))
  refused_entries = (λ e. five_cause (rw e at judged), λ h. simp lt-ltb)

  pub refused_nodes : (add m c ≡ refused 4 0) ↔ ((entries_in (union m c) ≤ 64) × (4096 < nodes_in (union m c)))
  refused_nodes = (λ e. four_cause (rw e at judged), λ h. simp (le-ltb _ _ h.0, lt-ltb _ _ h.1))

  pub accepted_within : (add m c ≡ accepted (union m c)) ↔ Fits (union m c)
  accepted_within = (λ e. accepted_cause (rw e at judged), λ h. simp (le-ltb _ _ h.0, le-ltb _ _ h.1))

  -- a refused contribution leaves the manifest
  pub refusal_leaves : (number place : ℕ) → add m c ≡ refused number place → after m (add m c) ≡ m
  refusal_leaves number place e = rw e

  -- after adding, a lawful manifest is a lawful manifest
  pub after_lawful : lawful manifest m ≡ true → lawful contribution c ≡ true → lawful manifest (after m (add m c)) ≡ true
  after_lawful lm lc = go judged
    where
      go : {answer : Answer (List Row)} → Judged (union m c) answer → lawful manifest (after m answer) ≡ true
      go (many_entries h) = lm
      go (many_nodes h) = lm
      go (within fits) =
          let order = union_ordered m [] c (lawful_ordered manifest m lm) (lawful_ordered contribution c lc) in
          (lawful_manifest (union m c)).1 (order, fits)

-- a build of lawful contributions is a lawful manifest
pub build_lawful :
    (cs : List (List Row)) (m : List Row)
    → lawful manifest m ≡ true
    → Contributions cs
    → lawful manifest (build m cs) ≡ true
unfolding build Contributions
build_lawful [] m lm lcs = lm
build_lawful (c ∷ cs) m lm lcs = build_lawful cs (after m (add m c)) (after_lawful m c lm lcs.0) lcs.1

-- from the empty manifest too
pub built_lawful : (cs : List (List Row)) → Contributions cs → lawful manifest (build [] cs) ≡ true
built_lawful cs = build_lawful cs [] lawful_empty

-- Contributions in order.

-- no more are accepted than there are
pub accepted_most : (cs : List (List Row)) (m : List Row) → length (accepted_of m cs) ≤ length cs
unfolding accepted_of
accepted_most [] m = omega arith
accepted_most (c ∷ cs) m = go (add m c) (accepted_of (after m (add m c)) cs) (accepted_most cs (after m (add m c)))
  where
    go : (answer : Answer (List Row)) (ds : List (List Row)) → length ds ≤ length cs → length (keep answer c ds) ≤ length (c ∷ cs)
    go (accepted rows) ds h = omega arith
    go (refused number place) ds h = omega arith

-- contributions after others
pub build_append : (cs ds : List (List Row)) (m : List Row) → build m (cs ++ ds) ≡ build (build m cs) ds
unfolding build
build_append [] ds m = refl
build_append (c ∷ cs) ds m = build_append cs ds (after m (add m c))

pub accepted_append : (cs ds : List (List Row)) (m : List Row) → accepted_of m (cs ++ ds) ≡ accepted_of m cs ++ accepted_of (build m cs) ds
unfolding accepted_of build
accepted_append [] ds m = refl
accepted_append (c ∷ cs) ds m = rw (accepted_append cs ds (after m (add m c))) (go (add m c) _ _)
  where
    go : (answer : Answer (List Row)) (xs ys : List (List Row)) → keep answer c (xs ++ ys) ≡ keep answer c xs ++ ys
    go (accepted rows) xs ys = refl
    go (refused number place) xs ys = refl

-- What a build has.

-- one of a run and others has it exactly if the run has it, or one of the others
some_more : (P : List Row → Type 0) (c : List Row) (cs : List (List Row)) → Some P (c ∷ cs) ↔ (P c ⊎ Some P cs)
some_more P c cs = (
  λ (d, member, has). ⊎_elim (λ e. inl (rw e at has)) (λ m. inr (d, m, has)) (here-or-later member),
  elim [ inl has ↦ (c, here refl, has) | inr (d, m, has) ↦ (d, later m, has) ],
)

has_shared : (place : List ℕ) → Shared (λ rows. Has [] rows place)
unfolding Has
has_shared place = record { not_empty = λ h. h; of_union = λ a b oa ob. union_has a [] b oa ob place }

marked_shared : (place : List ℕ) → Shared (λ rows. Marked [] rows place)
unfolding Marked
marked_shared place = record { not_empty = λ h. h; of_union = λ a b oa ob. union_marked a [] b oa ob place }

module _ (P : List Row → Type 0) (shared : Shared P) where
  -- adding gives P to the manifest exactly where the contribution is accepted and has it
  after_some :
      (m c : List Row) (cs : List (List Row))
      → lawful manifest m ≡ true
      → lawful contribution c ≡ true
      → (P (after m (add m c)) ⊎ Some P cs) ↔ (P m ⊎ Some P (keep (add m c) c cs))
  after_some m c cs lm lc = go (judged m c)
    where
      go :
          {answer : Answer (List Row)}
          → Judged (union m c) answer
          → (P (after m answer) ⊎ Some P cs) ↔ (P m ⊎ Some P (keep answer c cs))
      go (many_entries h) = Iff.rfl
      go (many_nodes h) = Iff.rfl
      go (within fits) =
          let union-shares = shared.of_union m c (lawful_ordered manifest m lm) (lawful_ordered contribution c lc) in
          simp (union-shares, some_more, either) (Iff.symm (more_first Iff.rfl))

  -- a build has P exactly if the manifest that it starts from has it, or an accepted contribution
  build_some :
      (cs : List (List Row)) (m : List Row)
      → lawful manifest m ≡ true
      → Contributions cs
      → P (build m cs) ↔ (P m ⊎ Some P (accepted_of m cs))
  unfolding build accepted_of Contributions
  build_some [] m lm lcs = (inl, elim [ inl has ↦ has | inr (c, member, has) ↦ absurd (none_in_empty member) ])
  build_some (c ∷ cs) m lm lcs =
      Iff.trans
      (build_some cs (after m (add m c)) (after_lawful m c lm lcs.0) lcs.1)
      (after_some m c (accepted_of (after m (add m c)) cs) lm lcs.0)

  -- from the empty manifest: exactly if an accepted contribution has it
  built_some : (cs : List (List Row)) → Contributions cs → P (build [] cs) ↔ Some P (accepted_of [] cs)
  built_some cs lcs =
      let whole = build_some cs [] lawful_empty lcs in
      (λ has. ⊎_elim (λ h. absurd (shared.not_empty h)) (λ some. some) (whole.0 has), λ some. whole.1 (inr some))

-- a build has the places of the accepted contributions, and marks theirs
pub built_has :
    (cs : List (List Row))
    → Contributions cs
    → (place : List ℕ)
    → Has [] (build [] cs) place ↔ Some (λ c. Has [] c place) (accepted_of [] cs)
built_has cs lcs place = built_some (λ rows. Has [] rows place) (has_shared place) cs lcs

pub built_marked :
    (cs : List (List Row))
    → Contributions cs
    → (place : List ℕ)
    → Marked [] (build [] cs) place ↔ Some (λ c. Marked [] c place) (accepted_of [] cs)
built_marked cs lcs place = built_some (λ rows. Marked [] rows place) (marked_shared place) cs lcs

-- Order is free.

-- a union of two that are inside m is inside m
inside_union : {m : List Row} (a b : List Row) → Inside m a → Inside m b → Inside m (union a b)
inside_union a b ia ib = record {
  order = union_ordered a [] b ia.order ib.order;
  subset = λ place has. ⊎_elim (ia.subset place) (ib.subset place) ((union_has a [] b ia.order ib.order place).0 has);
}

module _ (m : List Row) (lm : lawful manifest m ≡ true) where
  -- rows inside a lawful manifest are within the limits
  inside_fits : (rows : List Row) → Inside m rows → Fits rows
  inside_fits rows inside =
      let (om, fits) = (lawful_manifest m).0 lm in
      let entries = subset_entries rows [] m inside.order om inside.subset in
      let nodes = subset_nodes rows [] m inside.order om inside.subset in
      omega arith

  -- so all contributions that are inside it are accepted
  inside_accepted :
      (cs : List (List Row)) (a : List Row)
      → Inside m a
      → ((c : List Row) → Member c cs → Inside m c)
      → accepted_of a cs ≡ cs
  unfolding accepted_of
  inside_accepted [] a ia ics = refl
  inside_accepted (c ∷ cs) a ia ics =
      let both = inside_union a c ia (ics c (here refl)) in
      rw (
        (accepted_within a c).1 (inside_fits (union a c) both),
        inside_accepted cs (union a c) both (λ d member. ics d (later member)),
      )

-- each of some contributions is lawful, and runs of which each is lawful are contributions
each_lawful : {c : List Row} {cs : List (List Row)} → Contributions cs → Member c cs → lawful contribution c ≡ true
unfolding Contributions
each_lawful lcs (here e) = rw e lcs.0
each_lawful lcs (later member) = each_lawful lcs.1 member

all_lawful :
    (cs : List (List Row)) → ((c : List Row) → Member c cs → lawful contribution c ≡ true) → Contributions cs
unfolding Contributions
all_lawful [] each = tt
all_lawful (c ∷ cs) each = (each c (here refl), all_lawful cs (λ d member. each d (later member)))

-- a listing looks at no types
listing_bare : (rows : List Row) → listing (map bare rows) ≡ listing rows
unfolding listing
listing_bare [] = refl
listing_bare (row ∷ rows) = rw (listing_bare rows)

-- contributions cs that are all accepted, and runs ds with the same members
module _
    (cs ds : List (List Row))
    (lcs : Contributions cs)
    (all : accepted_of [] cs ≡ cs)
    (same : (c : List Row) → Member c cs ↔ Member c ds)
  where
    -- ds are contributions, and all accepted
    lds : Contributions ds
    lds = all_lawful ds (λ c member. each_lawful lcs ((same c).1 member))

    pub same_accepted : accepted_of [] ds ≡ ds
    unfolding Has ordered
    same_accepted =
        inside_accepted (build [] cs) (built_lawful cs lcs) ds []
        (record { order = refl; subset = λ place has. absurd has })
        (λ c member. record {
          order = lawful_ordered contribution c (each_lawful lds member);
          subset = λ place has. (built_has cs lcs place).1 (rw all (c, (same c).1 member, has));
        })

    -- what one build has the other has
    same_some : (P : List Row → Type 0) → Shared P → P (build [] ds) ↔ P (build [] cs)
    same_some P shared =
        let of-cs = rw all at (built_some P shared cs lcs) in
        let of-ds = rw same_accepted at (built_some P shared ds lds) in (
          λ h. let (c, member, has) = of-ds.0 h in of-cs.1 (c, (same c).1 member, has),
          λ h. let (c, member, has) = of-cs.0 h in of-ds.1 (c, (same c).0 member, has),
        )

    -- so the two builds are the same but for types, and are listed alike
    same_bare : map bare (build [] ds) ≡ map bare (build [] cs)
    same_bare =
        same_rows (build [] ds) [] (build [] cs)
        (lawful_ordered manifest _ (built_lawful ds lds))
        (lawful_ordered manifest _ (built_lawful cs lcs))
        (λ place. same_some (λ rows. Has [] rows place) (has_shared place))
        (λ place. same_some (λ rows. Marked [] rows place) (marked_shared place))

    pub same_listing : listing (build [] ds) ≡ listing (build [] cs)
    same_listing = simp listing_bare at (ap listing same_bare)
