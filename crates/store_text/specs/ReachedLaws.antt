-- Laws of the lines of a store, one behind the other: what they come to, and by what the next is judged. No contract cites this file.
use Rattle.std.specs.Prelude.{ℕ, suc, ◌+◌, ◌-◌, ◌*◌, ◌^◌, ◌≤◌, ◌<◌, true, false, ◌&&◌, ◌≡◌, refl, leb, ltb, eqb, length}
use Rattle.std.proofs.Common.{arith, sym, ap, ◌∙◌, leb-true, ltb-true, eqb-true, ne_eqb, lt-ltb, le-ltb, le-leb}
use mathlib.Core.List.{List, [], ◌∷◌, ◌++◌, map, map-append, append_assoc, append-nil, nil≢cons}
use Rattle.std.proofs.Math.Option.{none, some}
use Rattle.std.proofs.lemmas.Bool.{lt-leb}
use Rattle.rules.specs.Facts.{by_test, both_true, compared}
use Rattle.rules.proofs.MergeLaws.{IdsFrom}
use Rattle.rules.specs.ValueRows.{ValueRow}
use Rattle.rules.specs.ValueRowTests.{is_value_row}
use Rattle.rules.specs.ValueTexts.{StoreLine, entity_line, parent_line, ancestor_line, attribute_line, EntityRead, entity_read, StoreRead, store_read, is_above, without_rows, of_store, no_rows, may_come, with_row}
use Rattle.rules.proofs.ValueTextLaws.{came_none, came_row}
use Rattle.values.specs.ValueWords.{value_word}
use Rattle.store_text.specs.LineLaws.{Formed}
use Rattle.store_text.specs.Words.{parent_word, ancestor_word, lines_behind, store_words}
use Rattle.store_text.specs.Entities.{All, IsId, RowKept, EntityKept}
use Rattle.store_text.specs.RunLaws.{all_map}
use Rattle.store_text.specs.Standings.{StoreSofar, standing, at_start, standing_after}

-- ---- the last of some

last_or : ℕ → List ℕ → ℕ
last_or d [] = d
last_or d (x ∷ xs) = last_or x xs

last_append : (d : ℕ) (xs ys : List ℕ) → last_or d (xs ++ ys) ≡ last_or (last_or d xs) ys
unfolding last_or
last_append d [] ys = refl
last_append d (x ∷ xs) ys = last_append x xs ys

last_snoc : (d x : ℕ) (xs : List ℕ) → last_or d (xs ++ (x ∷ [])) ≡ x
unfolding last_or
last_snoc d x xs = last_append d xs (x ∷ [])

last_map : (f : ℕ → ℕ) (d : ℕ) (xs : List ℕ) → last_or (f d) (map f xs) ≡ f (last_or d xs)
unfolding last_or
last_map f d [] = refl
last_map f d (x ∷ xs) = last_map f x xs

last_all : (P : ℕ → Type 0) (d : ℕ) (xs : List ℕ) → P d → All P xs → P (last_or d xs)
unfolding last_or All
last_all P d [] h all = h
last_all P d (x ∷ xs) h (here, all) = last_all P x xs here all

above_last : (x : ℕ) (xs : List ℕ) (id : ℕ) → is_above (x ∷ xs) id ≡ ltb (last_or x xs) id
unfolding is_above last_or
above_last x [] id = refl
above_last x (y ∷ xs) id = above_last y xs id

above_snoc : (x : ℕ) (xs : List ℕ) (id : ℕ) → is_above (xs ++ (x ∷ [])) id ≡ ltb x id
unfolding last_or
above_snoc x [] id = above_last x [] id
above_snoc x (y ∷ xs) id = above_last y (xs ++ (x ∷ [])) id ∙ rw (last_snoc y x xs)

all_snoc : {A : Type 0} (P : A → Type 0) (xs : List A) (x : A) → All P xs → P x → All P (xs ++ (x ∷ []))
unfolding All
all_snoc P [] x all h = (h, tt)
all_snoc P (y ∷ xs) x (here, all) h = (here, all_snoc P xs x all h)

-- an id that is above ids that ascend
ascend_snoc : (least : ℕ) (xs : List ℕ) (id : ℕ) → IdsFrom least xs → (xs ≡ [] → least ≤ id) → is_above xs id ≡ true → IdsFrom least (xs ++ (id ∷ []))
unfolding IdsFrom is_above
ascend_snoc least [] id ids first above = (first refl, tt)
ascend_snoc least (x ∷ []) id (here, ids) first above = (here, (ltb-true x id above, tt))
ascend_snoc least (x ∷ y ∷ xs) id (here, ids) first above =
    (here, ascend_snoc (suc x) (y ∷ xs) id ids (λ e. absurd (nil≢cons (sym e))) above)

-- ---- whether a parent or an ancestor may come behind the lines of an entity

shifted : (m n k : ℕ) → ltb m n ≡ ltb (m + k) (n + k)
shifted m n k =
    compared m n
    (λ h. rw (lt-ltb m n h, lt-ltb (m + k) (n + k) (omega arith)))
    (λ h. rw (le-ltb m n h, le-ltb (m + k) (n + k) (omega arith)))

some-length : {A : Type 0} (x : A) (xs : List A) → eqb (length (x ∷ xs)) 0 ≡ false
some-length x xs = ne_eqb (length (x ∷ xs)) 0 (λ z. omega arith)

-- behind rows nothing but rows may come
last_row : (d : ℕ) (x : ValueRow) (rows : List ValueRow) → All RowKept (x ∷ rows) → 2 ^ 35 ≤ last_or d (map value_word (x ∷ rows))
unfolding last_or All
last_row d x rows (here, all) =
    last_all (λ w. 2 ^ 35 ≤ w) (value_word x) (map value_word rows) (omega (arith, here.1))
    (all_map RowKept (λ w. 2 ^ 35 ≤ w) value_word rows (λ y k. omega (arith, k.1)) all)

pub last_word : ℕ → List ℕ → List ℕ → List ValueRow → ℕ
last_word own parents ancestors rows = last_or own (map parent_word parents ++ (map ancestor_word ancestors ++ map value_word rows))

last_rows : (own : ℕ) (parents ancestors : List ℕ) (x : ValueRow) (rows : List ValueRow) → All RowKept (x ∷ rows) →
    2 ^ 35 ≤ last_word own parents ancestors (x ∷ rows)
unfolding last_word
last_rows own parents ancestors x rows all =
    rw (last_append own (map parent_word parents) (map ancestor_word ancestors ++ map value_word (x ∷ rows)), last_append (last_or own (map parent_word parents)) (map ancestor_word ancestors) (map value_word (x ∷ rows)))
    (last_row (last_or (last_or own (map parent_word parents)) (map ancestor_word ancestors)) x rows all)

parent_may : (own : ℕ) (parents ancestors : List ℕ) (rows : List ValueRow) (id : ℕ) → IsId own → All IsId ancestors → All RowKept rows → IsId id →
    (eqb (length rows) 0 && (eqb (length ancestors) 0 && is_above parents id)) ≡ ltb (last_word own parents ancestors rows) (parent_word id)
unfolding last_word last_or is_above
parent_may own parents ancestors (x ∷ rows) id own-id us vs h =
    rw (some-length x rows) (sym (le-ltb (last_word own parents ancestors (x ∷ rows)) (parent_word id) (omega (arith, last_rows own parents ancestors x rows vs))))
parent_may own parents (u ∷ ancestors) [] id own-id us vs h =
    let late : 2 * 2 ^ 16 ≤ last_word own parents (u ∷ ancestors) [] =
    rw (append-nil (map ancestor_word (u ∷ ancestors)), last_append own (map parent_word parents) (map ancestor_word (u ∷ ancestors)), last_map ancestor_word u ancestors) (omega arith) in
    rw (some-length u ancestors) (sym (le-ltb (last_word own parents (u ∷ ancestors) []) (parent_word id) (omega (arith, late))))
parent_may own [] [] [] id own-id us vs h = sym (lt-ltb own (parent_word id) (omega arith))
parent_may own (p ∷ parents) [] [] id own-id us vs h =
    rw (append-nil (map parent_word parents), last_map parent_word p parents) (above_last p parents id ∙ shifted (last_or p parents) id (2 ^ 16))

ancestor_may : (own : ℕ) (parents ancestors : List ℕ) (rows : List ValueRow) (id : ℕ) → IsId own → All IsId parents → All RowKept rows → IsId id →
    (eqb (length rows) 0 && is_above ancestors id) ≡ ltb (last_word own parents ancestors rows) (ancestor_word id)
unfolding last_word last_or is_above
ancestor_may own parents ancestors (x ∷ rows) id own-id ps vs h =
    rw (some-length x rows) (sym (le-ltb (last_word own parents ancestors (x ∷ rows)) (ancestor_word id) (omega (arith, last_rows own parents ancestors x rows vs))))
ancestor_may own parents [] [] id own-id ps vs h =
    let early : last_or own (map parent_word parents) < 2 * 2 ^ 16 =
    last_all (λ w. w < 2 * 2 ^ 16) own (map parent_word parents) (omega arith) (all_map IsId (λ w. w < 2 * 2 ^ 16) parent_word parents (λ n k. omega arith) ps) in
    rw (append-nil (map parent_word parents)) (sym (lt-ltb (last_or own (map parent_word parents)) (ancestor_word id) (omega arith)))
ancestor_may own parents (u ∷ ancestors) [] id own-id ps vs h =
    rw (append-nil (map ancestor_word (u ∷ ancestors)), last_append own (map parent_word parents) (map ancestor_word (u ∷ ancestors)), last_map ancestor_word u ancestors)
    (above_last u ancestors id ∙ shifted (last_or u ancestors) id (2 * 2 ^ 16))

-- ---- where the reading has come to

-- Before the first line, or behind a line of the last entity.
pub data StoreReached : Type 0 where
  start : StoreReached
  behind : List EntityRead → EntityRead → StoreReached

abbrev pub store_of : StoreReached → StoreRead
store_of start = store_read [] none
store_of (behind es e) = store_read es (some e)

abbrev pub entities : StoreReached → List EntityRead
entities start = []
entities (behind es e) = es ++ (e ∷ [])

abbrev pub standing_of : StoreReached → StoreSofar
standing_of start = at_start
standing_of (behind es e) = standing (last_word e.id e.parents e.ancestors e.value.rows) (e.id + 1) e.value.levels

-- a line may come: the rules and what is kept of the words go on alike
pub record Went (s : StoreReached) (said : StoreLine) (next : StoreReached) : Type 0 where
  pub of : of_store said (store_of s) ≡ some (store_of next)
  pub stands : standing_after (standing_of s) said ≡ some (standing_of next)
  pub words : store_words (entities next) ≡ store_words (entities s) ++ ((standing_of next).last ∷ [])
  pub kept : All EntityKept (entities next)

pub data StoreStep (s : StoreReached) (said : StoreLine) : Type 0 where
  stopped : of_store said (store_of s) ≡ none → standing_after (standing_of s) said ≡ none → StoreStep s said
  went : (next : StoreReached) → Went s said next → StoreStep s said

words_append : (a b : List EntityRead) → store_words (a ++ b) ≡ store_words a ++ store_words b
unfolding store_words
words_append [] b = refl
words_append (e ∷ a) b = rw (words_append a b) (ap (λ (l : List ℕ). e.id ∷ l) (sym (append_assoc (lines_behind e) (store_words a) (store_words b))))

begun : ℕ → EntityRead
begun id = entity_read id [] [] no_rows

begun_kept : (id : ℕ) → IsId id → EntityKept (begun id)
unfolding All IdsFrom begun
begun_kept id h = record { own = h; parents = tt; ancestors = tt; parents_ascend = tt; ancestors_ascend = tt; rows = tt; came = came_none }

-- an entity
step_entity : (s : StoreReached) (id : ℕ) → All EntityKept (entities s) → IsId id → StoreStep s (entity_line id)
unfolding is_above begun last_word last_or store_words All
step_entity start id kept h = went (behind [] (begun id)) (record {
  of = refl;
  stands = rw (le-leb 0 id (omega arith));
  words = refl;
  kept = (begun_kept id h, tt);
})
step_entity (behind es e) id kept h =
    let above : is_above (map (λ e. e.id) (es ++ (e ∷ []))) id ≡ ltb e.id id = rw (map-append (λ e. e.id) es (e ∷ [])) (above_snoc e.id (map (λ e. e.id) es) id) in
    compared e.id id
    (λ more. went (behind (es ++ (e ∷ [])) (begun id)) (record {
      of = rw (above, lt-ltb e.id id more);
      stands = rw (le-leb (e.id + 1) id (omega arith));
      words = words_append (es ++ (e ∷ [])) (begun id ∷ []);
      kept = all_snoc EntityKept (es ++ (e ∷ [])) (begun id) kept (begun_kept id h);
    }))
    (λ less. stopped (rw (above, le-ltb e.id id less)) (rw (lt-leb (e.id + 1) id (omega arith))))

-- a line of the last entity
last_kept : (es : List EntityRead) (e : EntityRead) → All EntityKept (es ++ (e ∷ [])) → All EntityKept es × EntityKept e
unfolding All
last_kept [] e (here, all) = (tt, here)
last_kept (x ∷ es) e (here, all) = let (rest, last) = last_kept es e all in ((here, rest), last)

module _ (es : List EntityRead) (e e' : EntityRead) (word : ℕ) (same : e'.id ≡ e.id) (more : lines_behind e' ≡ lines_behind e ++ (word ∷ [])) where
  last_more : last_word e'.id e'.parents e'.ancestors e'.value.rows ≡ word
  unfolding last_word
  last_more = rw more (last_snoc e'.id word (lines_behind e))

  words_more : store_words (es ++ (e' ∷ [])) ≡ store_words (es ++ (e ∷ [])) ++ (word ∷ [])
  unfolding store_words
  words_more =
      rw (words_append es (e' ∷ []), words_append es (e ∷ []), same, more, append-nil (lines_behind e), append-nil (lines_behind e ++ (word ∷ [])))
      (sym (append_assoc (store_words es) (e.id ∷ lines_behind e) (word ∷ [])))

no-rows : {A : Type 0} (xs : List A) → eqb (length xs) 0 ≡ true → xs ≡ []
no-rows [] e = refl
no-rows (x ∷ xs) e = absurd (omega (arith, eqb-true (length (x ∷ xs)) 0 e))

step_parent : (s : StoreReached) (id : ℕ) → All EntityKept (entities s) → IsId id → StoreStep s (parent_line id)
step_parent start id kept h = stopped refl (rw (le-ltb (2 ^ 35) (parent_word id) (omega arith)))
step_parent (behind es e) id kept h =
    let (all, here) = last_kept es e kept in
    let may = parent_may e.id e.parents e.ancestors e.value.rows id here.own here.ancestors here.rows h in
    let e' = entity_read e.id (e.parents ++ (id ∷ [])) e.ancestors e.value in
    by_test (ltb (last_word e.id e.parents e.ancestors e.value.rows) (parent_word id))
    (λ t.
    let (rows, rest) = both_true (without_rows e) _ (may ∙ t) in
    let (ancestors, above) = both_true (eqb (length e.ancestors) 0) (is_above e.parents id) rest in
    let more : lines_behind e' ≡ lines_behind e ++ (parent_word id ∷ []) =
    rw (no-rows e.value.rows rows, no-rows e.ancestors ancestors, append-nil (map parent_word (e.parents ++ (id ∷ []))), append-nil (map parent_word e.parents))
    (map-append parent_word e.parents (id ∷ [])) in
    went (behind es e') (record {
      of = rw (may, t);
      stands = rw (t, last_more es e e' (parent_word id) refl more);
      words = rw (last_more es e e' (parent_word id) refl more) (words_more es e e' (parent_word id) refl more);
      kept = all_snoc EntityKept es e' all (record {
        own = here.own;
        parents = all_snoc IsId e.parents id here.parents h;
        ancestors = here.ancestors;
        parents_ascend = ascend_snoc 0 e.parents id here.parents_ascend (λ _. omega arith) above;
        ancestors_ascend = here.ancestors_ascend;
        rows = here.rows;
        came = here.came;
      });
    }))
    (λ t. stopped (rw (may, t)) (rw t))

step_ancestor : (s : StoreReached) (id : ℕ) → All EntityKept (entities s) → IsId id → StoreStep s (ancestor_line id)
step_ancestor start id kept h = stopped refl (rw (le-ltb (2 ^ 35) (ancestor_word id) (omega arith)))
step_ancestor (behind es e) id kept h =
    let (all, here) = last_kept es e kept in
    let may = ancestor_may e.id e.parents e.ancestors e.value.rows id here.own here.parents here.rows h in
    let e' = entity_read e.id e.parents (e.ancestors ++ (id ∷ [])) e.value in
    by_test (ltb (last_word e.id e.parents e.ancestors e.value.rows) (ancestor_word id))
    (λ t.
    let (rows, above) = both_true (without_rows e) _ (may ∙ t) in
    let more : lines_behind e' ≡ lines_behind e ++ (ancestor_word id ∷ []) =
    rw (no-rows e.value.rows rows, append-nil (map ancestor_word (e.ancestors ++ (id ∷ []))), append-nil (map ancestor_word e.ancestors), map-append ancestor_word e.ancestors (id ∷ []))
    (sym (append_assoc (map parent_word e.parents) (map ancestor_word e.ancestors) (ancestor_word id ∷ []))) in
    went (behind es e') (record {
      of = rw (may, t);
      stands = rw (t, last_more es e e' (ancestor_word id) refl more);
      words = rw (last_more es e e' (ancestor_word id) refl more) (words_more es e e' (ancestor_word id) refl more);
      kept = all_snoc EntityKept es e' all (record {
        own = here.own;
        parents = here.parents;
        ancestors = all_snoc IsId e.ancestors id here.ancestors h;
        parents_ascend = here.parents_ascend;
        ancestors_ascend = ascend_snoc 0 e.ancestors id here.ancestors_ascend (λ _. omega arith) above;
        rows = here.rows;
        came = here.came;
      });
    }))
    (λ t. stopped (rw (may, t)) (rw t))

-- with no level open no row may come
none_open : (x : ValueRow) → may_come [] x ≡ false
none_open x = by_test (leb 1 x.depth) (λ t. rw (t, le-ltb (x.depth - 1) 0 (omega arith))) (λ t. rw t)

step_attribute : (s : StoreReached) (x : ValueRow) → All EntityKept (entities s) → is_value_row x ≡ true → StoreStep s (attribute_line x)
step_attribute start x kept formed = stopped refl (rw (none_open x))
step_attribute (behind es e) x kept formed =
    let (all, here) = last_kept es e kept in
    let e' = entity_read e.id e.parents e.ancestors (with_row e.value x) in
    by_test (may_come e.value.levels x)
    (λ t.
    let more : lines_behind e' ≡ lines_behind e ++ (value_word x ∷ []) =
    rw (map-append value_word e.value.rows (x ∷ []))
    (ap (λ (l : List ℕ). map parent_word e.parents ++ l) (sym (append_assoc (map ancestor_word e.ancestors) (map value_word e.value.rows) (value_word x ∷ [])))
    ∙ sym (append_assoc (map parent_word e.parents) (map ancestor_word e.ancestors ++ map value_word e.value.rows) (value_word x ∷ []))) in
    went (behind es e') (record {
      of = rw t;
      stands = rw (t, last_more es e e' (value_word x) refl more);
      words = rw (last_more es e e' (value_word x) refl more) (words_more es e e' (value_word x) refl more);
      kept = all_snoc EntityKept es e' all (record {
        own = here.own;
        parents = here.parents;
        ancestors = here.ancestors;
        parents_ascend = here.parents_ascend;
        ancestors_ascend = here.ancestors_ascend;
        rows = all_snoc RowKept e.value.rows x here.rows (formed, leb-true 1 x.depth (both_true (leb 1 x.depth) _ t).0);
        came = came_row e.value (with_row e.value x) x here.came formed (rw t);
      });
    }))
    (λ t. stopped (rw t) (rw t))

pub step : (s : StoreReached) (said : StoreLine) → All EntityKept (entities s) → Formed said → StoreStep s said
step s (entity_line id) kept formed = step_entity s id kept formed
step s (parent_line id) kept formed = step_parent s id kept formed
step s (ancestor_line id) kept formed = step_ancestor s id kept formed
step s (attribute_line x) kept formed = step_attribute s x kept formed
