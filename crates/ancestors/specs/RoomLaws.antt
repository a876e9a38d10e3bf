-- All ancestors requests of a load fit into 528,385 words. No contract cites this file.
use Prim.Native.Nat.{ℕ, zero, suc, ◌+◌, ◌*◌, ◌≤◌, ◌<◌}
use native.Mathlib.Omega.{arith}
use Rattle.std.specs.Prelude.{◌≡◌, true, not, ◌&&◌, leb, ltb, eqb, length, take, get_or, set, replicate}
use Rattle.std.proofs.Math.Path.{refl}
use Rattle.std.proofs.Common.{sym, ap, ◌∙◌, true≢false, drop_of_length-le, length-take-le, get_or-set_other, ltb-false, leb-false, eqb-true}
use Rattle.std.proofs.Math.Bool.{false}
use Rattle.std.proofs.lemmas.Bool.{false≢true, eqb-false, not-true}
use mathlib.Core.List.{List, [], ◌∷◌, ◌++◌, flatten, append-nil}
use Rattle.std.proofs.Math.Option.{Option, none, some}
use Rattle.std.proofs.Math.ListN.{drop, length-append}
use Rattle.std.proofs.lemmas.List.{get_or-replicate}
use Rattle.rules.specs.Numbers.{most_steps}
use Rattle.rules.specs.Facts.{by_test, compared, both_true}
use Rattle.rules.specs.Tries.{Row, at, kind_of, ordered, is_entry, count, entries_in}
use Rattle.rules.proofs.TrieLaws.{Ordered, ordered_true}
use Rattle.rules.specs.Typing.{is_field}
use Rattle.rules.specs.Values.{Entity}
use Rattle.rules.specs.Loading.{LoadAnswer, done, refused_at, counted, ◌then◌, Request, EntityRequest, Event, yielded, ancestor, bad, has_child, remaining_entities, is_context_root, in_context, at_roots, initial_entities, Loaded, loaded_as, with_id, Wanted, take_id, take_events, is_marked, take_row, take_rows, take_batches, Load, ancestors_request, ancestors_requests}
use Rattle.rules.specs.Trips.{EachOf, none_left, and_each, with, Distinct, nodes_asked, all_fields, is_primary, place_at, Primary, BoundedTrips, root_under, depth_of}
use Rattle.rules.proofs.TripLaws.{GoingLoad, going_bounded}
use Rattle.ancestors.specs.Takings.{take_mark}
use Rattle.ancestors.specs.Requests.{roots_below}
use Rattle.ancestors.specs.RoundLaws.{none_wait}

-- ---- a request has at most 256 ids

-- what holds of an answer if it is done
abbrev IfDone : {A : Type 0} → (A → Type 0) → LoadAnswer A → Type 0
IfDone P (done a) = P a
IfDone P (refused_at number place) = Unit
IfDone P (counted expected got) = Unit

-- one answer after the other
then_holds :
    {A B : Type 0} (P : A → Type 0) (Q : B → Type 0) (o : LoadAnswer A) (next : A → LoadAnswer B)
    → IfDone P o
    → ((a : A) → P a → IfDone Q (next a))
    → IfDone Q (o then next)
then_holds P Q (done a) next h k = k a h
then_holds P Q (refused_at number place) next h k = tt
then_holds P Q (counted expected got) next h k = tt

-- at most so many ids
abbrev AtMost : ℕ → List ℕ → Type 0
AtMost n ids = length ids ≤ n

abbrev Few : Wanted → Type 0
Few wanted = AtMost 256 wanted.ids

-- whatever is put, there are few
few_id : (place e : ℕ) (wanted : Wanted) → IfDone Few (take_id place e wanted)
few_id place e wanted = by_test (ltb 256 (length (with_id e wanted.ids))) (λ t. rw t tt) (λ t. rw t (ltb-false 256 _ t))

few_events : (place : ℕ) (events : List Event) (wanted : Wanted) → Few wanted → IfDone Few (take_events place events wanted)
unfolding take_events
few_events place [] wanted h = h
few_events place (yielded row ∷ events) wanted h = few_events place events (record { ids = wanted.ids; next = wanted.next ++ (row ∷ []) }) h
few_events place (ancestor e ∷ events) wanted h =
    then_holds Few Few (take_id place e wanted) (take_events place events) (few_id place e wanted) (few_events place events)
few_events place (bad ∷ events) wanted h = tt

module _ (nodes : List Row) (slice : List Loaded) (place : ℕ) where
  few_row : (row : EntityRequest) (wanted : Wanted) → Few wanted → IfDone Few (take_row nodes slice place row wanted)
  few_row row wanted h =
      then_holds Few Few (take_mark nodes place row.node row.id wanted) _
      (by_test (is_marked nodes row.node) (λ t. rw t (few_id place row.id wanted)) (λ t. rw t h))
      (go (loaded_as row.id slice))
    where
      go :
          (o : Option Entity) (more : Wanted)
          → Few more
          → IfDone Few (elim o [ none ↦ done more | some value ↦ take_events place (remaining_entities nodes row.node value.attributes) more ])
      go none more h = h
      go (some value) more h = few_events place (remaining_entities nodes row.node value.attributes) more h

  few_rows : (rows : List EntityRequest) (wanted : Wanted) → Few wanted → IfDone Few (take_rows nodes slice place rows wanted)
  unfolding take_rows
  few_rows [] wanted h = h
  few_rows (row ∷ rows) wanted h =
      then_holds Few Few (take_row nodes slice place row wanted) (take_rows nodes slice place rows) (few_row row wanted h) (few_rows rows)

  few_batches : (left : ℕ) (wanted : Wanted) → Few wanted → IfDone (AtMost 256) (take_batches left nodes slice place wanted)
  unfolding take_batches
  few_batches zero wanted h = h
  few_batches (suc left) wanted h =
      then_holds Few (AtMost 256)
      (take_rows nodes slice place wanted.next (record { ids = wanted.ids; next = [] }))
      (take_batches left nodes slice place)
      (few_rows wanted.next (record { ids = wanted.ids; next = [] }) h)
      (few_batches left)

-- ---- it has none where no root stands right below its node

module _ (request : Request) where
  -- where none does, nothing is met
  none_met :
      (depth node : ℕ) (rows : List Row)
      → has_child (λ step. not (is_field step)) depth rows ≡ false
      → (in_context request depth node rows ≡ []) × (at_roots request depth node rows ≡ [])
  unfolding has_child in_context at_roots
  none_met depth node [] h = (refl, refl)
  none_met depth node (row ∷ rows) h =
      by_test (leb row.depth depth)
      (λ t. rw t (refl, refl))
      (λ t.
      by_test (eqb row.depth (suc depth))
      (λ e.
      by_test (is_field row.step)
      (λ f.
      let other : is_context_root row.step ≡ false = rw (eqb-true (kind_of row.step) 0 f) in
      rw (t, e, f, other) (none_met depth (suc node) rows (rw (t, e, f) at h)))
      (λ f. absurd (true≢false (rw (t, e, f) at h))))
      (λ e. rw (t, e) (none_met depth (suc node) rows (rw (t, e) at h))))

  module _ (nodes : List Row) (slice : List Loaded) (place : ℕ) (row : EntityRequest) where
    -- what the request for a row wants
    abbrev wanted : LoadAnswer (List ℕ)
    wanted = ancestors_request request nodes slice place row

    few_asked : IfDone (AtMost 256) wanted
    few_asked = go (drop row.node nodes) refl
      where
        go : (rest : List Row) → drop row.node nodes ≡ rest → IfDone (AtMost 256) wanted
        go [] e = rw (e, IfDone, ancestors_request) (omega arith)
        go (node ∷ rows) e =
            let events : List Event = initial_entities request node.depth (suc row.node) rows in
            rw (e, IfDone, ancestors_request)
            (then_holds Few (AtMost 256)
            (take_events place events (record { ids = []; next = [] }))
            (take_batches most_steps nodes slice place)
            (few_events place events (record { ids = []; next = [] }) (omega arith))
            (few_batches nodes slice place most_steps))

    pub none_asked : roots_below (drop row.node nodes) ≡ false → wanted ≡ done []
    unfolding take_events
    none_asked h = go (drop row.node nodes) refl
      where
        go : (rest : List Row) → drop row.node nodes ≡ rest → wanted ≡ done []
        go [] e = rw (e, ancestors_request)
        go (node ∷ rows) e =
            let (context, roots) = none_met node.depth (suc row.node) rows (rw e at h) in
            rw (e, ancestors_request, context, roots) (none_wait nodes slice most_steps place [])

-- ---- a root right below a node

-- the first root right below a depth, and what stands before it is deeper
first_root :
    (depth : ℕ) (rows : List Row)
    → has_child (λ step. not (is_field step)) depth rows ≡ true
    → (k : ℕ) × (root_under depth (drop k rows) ≡ true) × ((j : ℕ) → j < k → depth < depth_of (drop j rows))
unfolding has_child
first_root depth [] h = absurd (false≢true h)
first_root depth (row ∷ rows) h =
    by_test (leb row.depth depth)
    (λ t. absurd (false≢true (rw t at h)))
    (λ t.
    by_test (eqb row.depth (suc depth) && not (is_field row.step))
    (λ e. (0, e, λ j less. absurd (omega arith)))
    (λ e.
    let (k, is, deeper) = first_root depth rows (rw (t, e) at h) in
    (suc k, is, later (leb-false row.depth depth t) k deeper)))
  where
    later :
        depth < row.depth
        → (k : ℕ)
        → ((j : ℕ) → j < k → depth < depth_of (drop j rows))
        → (j : ℕ)
        → j < suc k
        → depth < depth_of (drop j (row ∷ rows))
    later here k deeper zero less = here
    later here k deeper (suc j) less = deeper j (omega arith)

-- A root stands right below a node: one deeper, and what stands between is deeper than the node.
record RootChild (nodes : List Row) (n m : ℕ) : Type 0 where
  after : n < m
  is-root : root_under (depth_of (drop n nodes)) (drop m nodes) ≡ true
  between : (k : ℕ) → n < k → k < m → depth_of (drop n nodes) < depth_of (drop k nodes)

-- there is one where the test says so
root_child : (nodes : List Row) (n : ℕ) → roots_below (drop n nodes) ≡ true → (m : ℕ) × RootChild nodes n m
root_child [] zero h = absurd (false≢true h)
root_child [] (suc n) h = absurd (false≢true h)
root_child (row ∷ rows) zero h =
    let (k, is, deeper) = first_root row.depth rows h in
    (suc k, record { after = omega arith; is-root = is; between = go k deeper })
  where
    go :
        (k : ℕ)
        → ((j : ℕ) → j < k → row.depth < depth_of (drop j rows))
        → (i : ℕ)
        → 0 < i
        → i < suc k
        → row.depth < depth_of (drop i (row ∷ rows))
    go k deeper zero low high = absurd (omega arith)
    go k deeper (suc i) low high = deeper i (omega arith)
root_child (row ∷ rows) (suc n) h =
    let (m, c) = root_child rows n h in
    (suc m, record { after = omega (arith, c.after); is-root = c.is-root; between = go m c })
  where
    go : (m : ℕ) → RootChild rows n m → (k : ℕ) → suc n < k → k < suc m → depth_of (drop n rows) < depth_of (drop k (row ∷ rows))
    go m c zero low high = absurd (omega arith)
    go m c (suc k) low high = c.between k (omega arith) (omega arith)

-- it is one deeper, and one of the nodes
root_depth : (depth : ℕ) (rows : List Row) → root_under depth rows ≡ true → depth_of rows ≡ suc depth
root_depth depth [] h = absurd (false≢true h)
root_depth depth (row ∷ rows) h = eqb-true row.depth (suc depth) (both_true _ _ h).0

root_inside : (depth : ℕ) (nodes : List Row) (m : ℕ) → root_under depth (drop m nodes) ≡ true → m < length nodes
root_inside depth nodes m h =
    compared m (length nodes) (λ less. less) (λ past. absurd (false≢true (rw (drop_of_length-le nodes past) at h)))

-- no root stands right below two nodes
roots_apart : (nodes : List Row) (x y m : ℕ) → RootChild nodes x m → RootChild nodes y m → x ≡ y
roots_apart nodes x y m a b =
    let same : depth_of (drop x nodes) ≡ depth_of (drop y nodes) =
    omega (arith, root_depth _ (drop m nodes) a.is-root, root_depth _ (drop m nodes) b.is-root) in
    compared x y
    (λ h. absurd (omega (arith, a.between y h b.after)))
    (λ h. compared y x (λ k. absurd (omega (arith, b.between x k a.after))) (λ k. omega arith))

-- a place whose last step is a root is not primary where two or more steps stand before it
not_all : (place : List ℕ) (step : ℕ) → is_field step ≡ false → all_fields (place ++ (step ∷ [])) ≡ false
unfolding all_fields
not_all [] step h = rw h
not_all (x ∷ place) step h = by_test (is_field x) (λ t. rw (t, not_all place step h)) (λ t. rw t)

not_primary : (place : List ℕ) (step : ℕ) → 2 ≤ length place → is_field step ≡ false → is_primary (place ++ (step ∷ [])) ≡ false
not_primary [] step long h = absurd (omega arith)
not_primary (x ∷ []) step long h = absurd (omega arith)
not_primary (x ∷ y ∷ place) step long h = not_all place step h

-- nor is that of a root right below a node
root_place :
    (s : List ℕ) (nodes : List Row) (depth m : ℕ)
    → Ordered s nodes
    → 1 ≤ depth
    → root_under depth (drop m nodes) ≡ true
    → is_primary (place_at s nodes m) ≡ false
unfolding Ordered place_at
root_place s [] depth zero o deep h = absurd (false≢true h)
root_place s [] depth (suc m) o deep h = absurd (false≢true h)
root_place s (row ∷ rows) depth zero o deep h =
    let (level, root) = both_true _ _ h in
    not_primary (take row.depth s) row.step
    (omega (arith, eqb-true row.depth (suc depth) level, length-take-le row.depth s o.1.near))
    (not-true _ root)
root_place s (row ∷ rows) depth (suc m) o deep h = root_place (at s row) rows depth m o.3 deep h

-- where no row is an entry's, all nodes are at least one deep
no_entry : (row : Row) (rows : List Row) → entries_in (row ∷ rows) ≡ 0 → (1 ≤ row.depth) × (entries_in rows ≡ 0)
unfolding count
no_entry row rows h =
    by_test (is_entry row)
    (λ t. absurd (let z : suc (entries_in rows) ≡ 0 = rw t at h in omega arith))
    (λ t. let deep : row.depth ≡ 0 → ⊥ = eqb-false row.depth 0 t in (omega arith, rw t at h))

node_deep : (nodes : List Row) (n : ℕ) → entries_in nodes ≡ 0 → n < length nodes → 1 ≤ depth_of (drop n nodes)
node_deep [] n h inside = absurd (omega arith)
node_deep (row ∷ rows) zero h inside = (no_entry row rows h).0
node_deep (row ∷ rows) (suc n) h inside = node_deep rows n (no_entry row rows h).1 (omega arith)

-- ---- two nodes of its own for each request that has ids

-- the sum of some numbers, which falls by one that is set to 0
total : List ℕ → ℕ
total [] = 0
total (x ∷ xs) = x + total xs

total_set : (l : List ℕ) (i : ℕ) → total (set l i 0) + get_or l i 0 ≡ total l
unfolding total
total_set [] i = refl
total_set (x ∷ l) zero = omega arith
total_set (x ∷ l) (suc i) = omega (arith, total_set l i)

total_ones : (n : ℕ) → total (replicate n 1) ≡ n
unfolding total
total_ones zero = refl
total_ones (suc n) = omega (arith, total_ones n)

-- each of a list, by one reason or by two
each_map : {P Q : ℕ → Type 0} {xs : List ℕ} → ((x : ℕ) → P x → Q x) → EachOf P xs → EachOf Q xs
each_map f none_left = none_left
each_map f (and_each p h) = and_each (f _ p) (each_map f h)

each_both : {P Q R : ℕ → Type 0} {xs : List ℕ} → ((x : ℕ) → P x → Q x → R x) → EachOf P xs → EachOf Q xs → EachOf R xs
each_both f none_left none_left = none_left
each_both f (and_each p h) (and_each q k) = and_each (f _ p q) (each_both f h k)

module _ (s : List ℕ) (nodes : List Row) (order : ordered s nodes ≡ true) (no_entries : entries_in nodes ≡ 0) where
  -- a root right below a primary node is no primary node
  never_primary : (x y m : ℕ) → Primary s nodes x → Primary s nodes y → RootChild nodes y m → x ≡ m → ⊥
  never_primary x y m p q c e =
      let deep : 1 ≤ depth_of (drop y nodes) = node_deep nodes y no_entries q.is-node in
      let other : is_primary (place_at s nodes m) ≡ false = root_place s nodes (depth_of (drop y nodes)) m (ordered_true s nodes order) deep c.is-root in
      true≢false (sym p.of_fields ∙ ap (λ k. is_primary (place_at s nodes k)) e ∙ other)

  -- A primary node and the roots right below it are left: each has a 1 in a list.
  record Left (l : List ℕ) (n : ℕ) : Type 0 where
    primary : Primary s nodes n
    own : get_or l n 0 ≡ 1
    below : (m : ℕ) → RootChild nodes n m → get_or l m 0 ≡ 1

  -- all are left at first
  left_all : (n : ℕ) → Primary s nodes n → Left (replicate (length nodes) 1) n
  left_all n p = record {
    primary = p;
    own = get_or-replicate (length nodes) n 1 0 p.is-node;
    below = λ m c. get_or-replicate (length nodes) m 1 0 (root_inside (depth_of (drop n nodes)) nodes m c.is-root);
  }

  -- they stay left when another is taken
  left_still : (l : List ℕ) (k y : ℕ) → (y ≡ k → ⊥) → ((m : ℕ) → RootChild nodes y m → m ≡ k → ⊥) → Left l y → Left (set l k 0) y
  left_still l k y not_own not-below left = record {
    primary = left.primary;
    own = get_or-set_other l k y 0 0 not_own ∙ left.own;
    below = λ m c. get_or-set_other l k m 0 0 (not-below m c) ∙ left.below m c;
  }

  -- when a node is taken, and when a root right below it is taken too, the others stay left
  module _ {l : List ℕ} {n : ℕ} (here : Left l n) where
    taken_total : total l ≡ total (set l n 0) + 1
    taken_total = omega (arith, total_set l n, here.own)

    module _ {ns : List ℕ} (apart : EachOf (λ y. n ≡ y → ⊥) ns) (left : EachOf (Left l) ns) where
      taken_left : EachOf (Left (set l n 0)) ns
      taken_left =
          each_both
          (λ y ne at_y. left_still l n y (λ e. ne (sym e)) (λ m c e. never_primary n y m here.primary at_y.primary c (sym e)) at_y)
          apart left

      both_left : (m : ℕ) → RootChild nodes n m → EachOf (Left (set (set l n 0) m 0)) ns
      both_left m c =
          each_both
          (λ y ne at_y.
          left_still (set l n 0) m y
          (never_primary y n m at_y.primary here.primary c)
          (λ k d e. ne (roots_apart nodes n y m c (rw e at d)))
          at_y)
          apart taken_left

    both_total : (m : ℕ) → RootChild nodes n m → total l ≡ total (set (set l n 0) m 0) + 2
    both_total m c =
        let other : get_or (set l n 0) m 0 ≡ get_or l m 0 =
        get_or-set_other l n m 0 0 (λ e. never_primary n n m here.primary here.primary c (sym e)) in
        omega (arith, taken_total, total_set (set l n 0) m, here.below m c)

  module _ (request : Request) (slice : List Loaded) where
    -- 129 for each that is left: a head for one node, and a head with 256 ids for two
    abbrev Fits : List ℕ → List EntityRequest → List (List ℕ) → Type 0
    Fits l rows lists = length rows + length (flatten lists) ≤ 129 * total l

    -- a request in front of others
    one_more :
        (l l' : List ℕ) (most place : ℕ) (row : EntityRequest) (rows : List EntityRequest)
        → 1 + most + 129 * total l' ≤ 129 * total l
        → IfDone (AtMost most) (ancestors_request request nodes slice place row)
        → IfDone (Fits l' rows) (ancestors_requests request nodes slice (suc place) rows)
        → IfDone (Fits l (row ∷ rows)) (ancestors_requests request nodes slice place (row ∷ rows))
    unfolding ancestors_requests flatten
    one_more l l' most place row rows room first rest =
        then_holds (AtMost most) (Fits l (row ∷ rows))
        (ancestors_request request nodes slice place row)
        (λ ids. ancestors_requests request nodes slice (suc place) rows then (λ more. done (ids ∷ more)))
        first
        (λ ids few.
        then_holds (Fits l' rows) (Fits l (row ∷ rows))
        (ancestors_requests request nodes slice (suc place) rows)
        (λ more. done (ids ∷ more))
        rest
        (λ more fits. omega (arith, length-append ids (flatten more))))

    -- one after the other, each takes what is its own
    all_fit :
        (l : List ℕ) (place : ℕ) (rows : List EntityRequest)
        → Distinct (nodes_asked rows)
        → EachOf (Left l) (nodes_asked rows)
        → IfDone (Fits l rows) (ancestors_requests request nodes slice place rows)
    unfolding ancestors_requests flatten
    all_fit l place [] distinct left = omega arith
    all_fit l place (row ∷ rows) (with apart distinct) (and_each here left) =
        by_test (roots_below (drop row.node nodes))
        (λ t.
        let (m, c) = root_child nodes row.node t in
        one_more l _ 256 place row rows
        (omega (arith, both_total here m c))
        (few_asked request nodes slice place row)
        (all_fit (set (set l row.node 0) m 0) (suc place) rows distinct (both_left here apart left m c)))
        (λ t.
        one_more l _ 0 place row rows
        (omega (arith, taken_total here))
        (rw (none_asked request nodes slice place row t) (omega arith))
        (all_fit (set l row.node 0) (suc place) rows distinct (taken_left here apart left)))

-- Requests for rows of an entry's primary nodes, none twice, fit into 528,385 words: the count, their heads and their ids.
pub requests_room :
    (request : Request) (s : List ℕ) (nodes : List Row) (slice : List Loaded) (rows : List EntityRequest) (lists : List (List ℕ))
    → ordered s nodes ≡ true
    → entries_in nodes ≡ 0
    → length nodes ≤ 4096
    → Distinct (nodes_asked rows)
    → EachOf (Primary s nodes) (nodes_asked rows)
    → ancestors_requests request nodes slice 0 rows ≡ done lists
    → 1 + length rows + length (flatten lists) ≤ 528385
requests_room request s nodes slice rows lists order no_entries few distinct primary is =
    let ones : List ℕ = replicate (length nodes) 1 in
    let fits : length rows + length (flatten lists) ≤ 129 * total ones =
    rw is at (all_fit s nodes order no_entries request slice ones 0 rows distinct (each_map (left_all s nodes order no_entries) primary)) in
    omega (arith, total_ones (length nodes))

-- so do those of a load that has ended
pub load_room :
    (request : Request) (s : List ℕ) (nodes : List Row) (slice : List Loaded) (load : Load) (lists : List (List ℕ))
    → ordered s nodes ≡ true
    → entries_in nodes ≡ 0
    → length nodes ≤ 4096
    → GoingLoad s nodes load
    → load.waiting ≡ []
    → ancestors_requests request nodes slice 0 load.asked ≡ done lists
    → 1 + length load.asked + length (flatten lists) ≤ 528385
load_room request s nodes slice load lists order no_entries few going ended is =
    let all : load.asked ++ load.waiting ≡ load.asked = rw (ended, append-nil load.asked) in
    let trips : BoundedTrips s nodes load = going_bounded s nodes load going in
    requests_room request s nodes slice load.asked lists order no_entries few (rw all at trips.once) (rw all at trips.primary) is
