-- Laws of what a store answers (Answering). No contract cites this file.
use Prim.Native.Nat.{ℕ, suc, ◌+◌, ◌-◌, ◌*◌, ◌%◌, ◌^◌, ◌≤◌, ◌<◌}
use Rattle.std.proofs.Math.Nat.{add-zero, sub-zero}
use Rattle.std.proofs.Common.{add-one, sym, ap, ◌∙◌, drop_of_length-le}
use native.Mathlib.Omega.{arith}
use Rattle.std.specs.Prelude.{false, cond, ◌≡◌, eqb, take, get_or, set, Option as Maybe, Some, None}
use mathlib.Core.List.{List, [], ◌∷◌, ◌++◌, map, append_assoc, append-nil}
use Rattle.std.proofs.Math.Option.{Option, none, some, none-ne-some, some-injective}
use Rattle.std.proofs.Math.Path.{refl}
use borrow.Author.Tests.{eq-eqb, ne_eqb}
use Rattle.std.proofs.Math.ListN.{length, drop, length-append, get_or-map}
use Rattle.std.proofs.lemmas.List.{length-map}
use Rattle.std.specs.List.{position_from}
use Rattle.std.proofs.lemmas.List.Edits.{sets}
use Rattle.std.proofs.Math.Seq.{drop-cons, drop-append-add}
use Rattle.rules.specs.Facts.{by_test}
use Rattle.rules.proofs.MergeLaws.{IdsFrom}
use Rattle.rules.specs.ValueTexts.{EntityRead}
use Rattle.words.specs.Runs.{Wrote}
use Rattle.words.specs.RunLaws.{wrote_more, wrote_ended}
use Rattle.words.specs.SeqLaws.{copied_next, set_before}
use Rattle.values.specs.ValueWords.{value_word}
use Rattle.store_text.specs.Words.{parent_word, ancestor_word, lines_behind, store_words}
use Rattle.store_text.specs.Entities.{All, IsId, RowKept, EntityKept}
use Rattle.store_text.specs.Runs.{run_of}
use Rattle.store_text.specs.RunLaws.{all_map, EntityAt, entity-at}
use Rattle.store_text.specs.OrderLaws.{Parts}
use Rattle.store_text.specs.Answering.{entity_of, answer_head, answer_of, is_one_of, among_of, set_words, id_in, EntityHere, EntityFoundAt, FoundEntity}

-- ---- where an entity stands

-- the place of a word, the first of some words standing at a place
unfoldable pub place_from : ℕ → ℕ → List ℕ → Option ℕ
place_from i id [] = none
place_from i id (w ∷ ws) = let rest : Option ℕ = place_from (suc i) id ws in cond (eqb w id) (some i) rest

-- it is one of theirs, and the first at which the id stands
place_inside : (id k : ℕ) (words : List ℕ) (at : ℕ) → place_from k id words ≡ some at → at < k + length words
unfolding place_from
place_inside id k [] at e = absurd (none-ne-some at e)
place_inside id k (w ∷ words) at e =
    by_test (eqb w id)
    (λ t. let same : k ≡ at = some-injective k at (rw t at e) in omega arith)
    (λ t. omega (arith, place_inside id (suc k) words at (rw t at e)))

-- as the code has it
abbrev maybe : Option ℕ → Maybe ℕ
maybe none = None
maybe (some at) = Some at

pub place_position : (id k : ℕ) (words : List ℕ) → position_from (λ w. eqb w id) k words ≡ maybe (place_from k id words)
unfolding place_from
place_position id k [] = refl
place_position id k (w ∷ words) = by_test (eqb w id) (λ t. rw t refl) (λ t. rw (t, add-one) (place_position id (suc k) words))

-- the words of an entity's lines but its own are no ids
all_append : (P : ℕ → Type 0) (xs ys : List ℕ) → All P xs → All P ys → All P (xs ++ ys)
unfolding All
all_append P [] ys all more = more
all_append P (x ∷ xs) ys (here, all) more = (here, all_append P xs ys all more)

above_ids : (e : EntityRead) → EntityKept e → All (λ w. 2 ^ 16 ≤ w) (lines_behind e)
above_ids e kept =
    all_append (λ w. 2 ^ 16 ≤ w) (map parent_word e.parents) _
    (all_map IsId (λ w. 2 ^ 16 ≤ w) parent_word e.parents (λ n k. omega arith) kept.parents)
    (all_append (λ w. 2 ^ 16 ≤ w) (map ancestor_word e.ancestors) _
    (all_map IsId (λ w. 2 ^ 16 ≤ w) ancestor_word e.ancestors (λ n k. omega arith) kept.ancestors)
    (all_map RowKept (λ w. 2 ^ 16 ≤ w) value_word e.value.rows (λ x k. omega (arith, k.1)) kept.rows))

module _ (id : ℕ) (small : IsId id) where
  place_skip : (k : ℕ) (xs ys : List ℕ) → All (λ w. 2 ^ 16 ≤ w) xs → place_from k id (xs ++ ys) ≡ place_from (k + length xs) id ys
  unfolding place_from All
  place_skip k [] ys all = rw add-zero
  place_skip k (x ∷ xs) ys (here, all) =
      let next : suc k + length xs ≡ k + suc (length xs) = omega arith in
      rw (ne_eqb x id (λ same. omega arith)) (place_skip (suc k) xs ys all ∙ rw next)

  -- past an entity of another id
  place_other : (k : ℕ) (e : EntityRead) (es : List EntityRead) → EntityKept e → eqb e.id id ≡ false →
      place_from k id (store_words (e ∷ es)) ≡ place_from (k + length (e.id ∷ lines_behind e)) id (store_words es)
  unfolding place_from store_words
  place_other k e es kept other =
      let next : suc k + length (lines_behind e) ≡ k + length (e.id ∷ lines_behind e) = omega arith in
      rw other (place_skip (suc k) (lines_behind e) (store_words es) (above_ids e kept) ∙ rw next)

  place_stands : (k at : ℕ) (es : List EntityRead) → All EntityKept es → place_from k id (store_words es) ≡ some at →
      (k ≤ at) × EntityFoundAt (store_words es) id (at - k) es
  unfolding place_from store_words All entity_of
  place_stands k at [] all e = absurd (none-ne-some at e)
  place_stands k at (e ∷ es) (kept, all) found =
      by_test (eqb e.id id)
      (λ t.
      let first : k ≡ at = some-injective k at (rw t at found) in
      let zero_there : at - k ≡ 0 = omega arith in
      (omega arith, record { e = e; more = es; found = rw t; here = rw zero_there (record { left = refl; kept = kept; later = all }) }))
      (λ t.
      let size = length (e.id ∷ lines_behind e) in
      let (past, stands) = place_stands (k + size) at es all (sym (place_other k e es kept t) ∙ found) in
      let next : at - k ≡ size + (at - (k + size)) = omega arith in
      let others : entity_of id (e ∷ es) ≡ entity_of id es = rw t in (
        omega arith,
        record {
          e = stands.e;
          more = stands.more;
          found = others ∙ stands.found;
          here = record {
            left = rw next (drop-append-add (e.id ∷ lines_behind e) (store_words es) (at - (k + size)) ∙ stands.here.left);
            kept = stands.here.kept;
            later = stands.here.later;
          };
        },
      ))

  place_absent : (k : ℕ) (es : List EntityRead) → All EntityKept es → place_from k id (store_words es) ≡ none → entity_of id es ≡ none
  unfolding place_from store_words All entity_of
  place_absent k [] all e = refl
  place_absent k (e ∷ es) (kept, all) found =
      by_test (eqb e.id id)
      (λ t. absurd (none-ne-some k (sym (rw t at found))))
      (λ t. rw t (place_absent (k + length (e.id ∷ lines_behind e)) es all (sym (place_other k e es kept t) ∙ found)))

  pub found_place : (words : List ℕ) {r : Maybe ℕ} → r ≡ maybe (place_from 0 id words) → FoundEntity words id r
  found_place words {r} found = go (place_from 0 id words) refl found
    where
      go : (o : Option ℕ) → place_from 0 id words ≡ o → r ≡ maybe o → FoundEntity words id r
      go none e q = rw q (record {
        inside = λ there h. absurd (let z : ◌≡◌ {A = ℕ} 0 1 = cc in omega arith);
        there = λ es holds. place_absent 0 es holds.kept (rw holds.same at e);
      })
      go (some at) e q = rw q (record {
        inside = λ there h. let same : at ≡ there = cc in omega (arith, place_inside id 0 words at e);
        there = λ es holds. rw holds.same (rw sub-zero at (place_stands 0 at es holds.kept (rw holds.same at e)).1);
      })

-- ---- ids of words

pub ids_next : (words out : List ℕ) (to i : ℕ) → i < length words →
    set (sets out to (take i (map id_in words))) (to + i) (id_in (get_or words i 0)) ≡ sets out to (take (i + 1) (map id_in words))
ids_next words out to i h =
    rw (← get_or-map id_in words i 0) (copied_next (map id_in words) out to i (omega (arith, length-map words id_in)))

parents_again : (ids : List ℕ) → All IsId ids → map id_in (map parent_word ids) ≡ ids
unfolding All
parents_again [] all = refl
parents_again (n ∷ ids) (here, all) =
    let same : (n + 2 ^ 16) % 2 ^ 16 ≡ n = omega arith in
    rw (same, parents_again ids all)

pub ancestors_again : (ids : List ℕ) → All IsId ids → map id_in (map ancestor_word ids) ≡ ids
unfolding All
ancestors_again [] all = refl
ancestors_again (n ∷ ids) (here, all) =
    let same : (n + 2 * 2 ^ 16) % 2 ^ 16 ≡ n = omega arith in
    rw (same, ancestors_again ids all)

-- ---- those of some ids that are among others

ids_from : (m n : ℕ) (xs : List ℕ) → n ≤ m → IdsFrom m xs → IdsFrom n xs
unfolding IdsFrom
ids_from m n [] h ids = tt
ids_from m n (x ∷ xs) h (here, ids) = (omega arith, ids)

not-one : (least id : ℕ) (us : List ℕ) → id < least → IdsFrom least us → is_one_of us id ≡ false
unfolding is_one_of IdsFrom
not-one least id [] h ids = refl
not-one least id (u ∷ us) h (here, ids) = rw (ne_eqb u id (λ same. omega arith)) (not-one (suc u) id us (omega arith) ids)

among_none : (asked : List ℕ) → among_of [] asked ≡ []
unfolding among_of is_one_of
among_none [] = refl
among_none (id ∷ asked) = among_none asked

-- one that is below all of them makes no difference
among_skip : (u : ℕ) (us asked : List ℕ) → IdsFrom (suc u) asked → among_of (u ∷ us) asked ≡ among_of us asked
unfolding among_of is_one_of IdsFrom
among_skip u us [] ids = refl
among_skip u us (id ∷ asked) (here, ids) =
    rw (ne_eqb u id (λ same. omega arith), among_skip u us asked (ids_from (suc id) (suc u) asked (omega arith) ids))

-- i of the ids are judged, by the ancestors from j on
pub record AmongMerged (us asked out₀ : List ℕ) (to : ℕ) (out : List ℕ) (next i j : ℕ) : Type 0 where
  pub done : List ℕ
  pub wrote : Wrote out₀ to done out next
  pub few : length done ≤ i
  pub inside : i ≤ length asked
  pub reached : j ≤ length us
  pub asks : IdsFrom 0 (drop i asked)
  pub ups : IdsFrom 0 (drop j us)
  pub total : among_of us asked ≡ done ++ among_of (drop j us) (drop i asked)

module _ {us asked out₀ : List ℕ} {to : ℕ} {out : List ℕ} {next i j : ℕ} (merging : AmongMerged us asked out₀ to out next i j) where
  -- no id is left, or no ancestor
  all_done : among_of (drop j us) (drop i asked) ≡ [] → Wrote out₀ to (among_of us asked) out next
  all_done e = rw (merging.total, e, append-nil merging.done) merging.wrote

  pub merging_asked : length asked ≤ i → Wrote out₀ to (among_of us asked) out next
  unfolding among_of
  merging_asked h = all_done (rw (drop_of_length-le asked h))

  pub merging_us : length us ≤ j → Wrote out₀ to (among_of us asked) out next
  merging_us h = all_done (rw (drop_of_length-le us h) (among_none (drop i asked)))

  module _ (more : i < length asked) (others : j < length us) where
    ask : ℕ
    ask = get_or asked i 0

    there : ℕ
    there = get_or us j 0

    asks_left : drop i asked ≡ ask ∷ drop (i + 1) asked
    unfolding ask
    asks_left = rw (add-one, drop-cons asked i 0 more)

    ups_left : drop j us ≡ there ∷ drop (j + 1) us
    unfolding there
    ups_left = rw (add-one, drop-cons us j 0 others)

    asks_here : IdsFrom 0 (ask ∷ drop (i + 1) asked)
    asks_here = rw asks_left at merging.asks

    ups_here : IdsFrom 0 (there ∷ drop (j + 1) us)
    ups_here = rw ups_left at merging.ups

    -- an ancestor below the next id
    pub merging_below : get_or us j 0 < get_or asked i 0 → AmongMerged us asked out₀ to out next i (j + 1)
    unfolding ask there IdsFrom
    merging_below h = record {
      done = merging.done;
      wrote = merging.wrote;
      few = merging.few;
      inside = merging.inside;
      reached = omega arith;
      asks = merging.asks;
      ups = ids_from (suc there) 0 (drop (j + 1) us) (omega arith) ups_here.1;
      total =
          merging.total
          ∙ rw (ups_left, among_skip there (drop (j + 1) us) (drop i asked) (rw asks_left (h, asks_here.1)));
    }

    -- the next id is that ancestor, or is none
    pub merging_same : get_or us j 0 ≡ get_or asked i 0 → AmongMerged us asked out₀ to (set out next (get_or asked i 0)) (next + 1) (i + 1) j
    unfolding ask there IdsFrom among_of is_one_of
    merging_same same = record {
      done = merging.done ++ (ask ∷ []);
      wrote = wrote_ended out₀ merging.done to ask (merging.wrote.after, merging.wrote.text);
      few = omega (arith, length-append merging.done (ask ∷ []), merging.few);
      inside = omega arith;
      reached = merging.reached;
      asks = ids_from (suc ask) 0 (drop (i + 1) asked) (omega arith) asks_here.1;
      ups = merging.ups;
      total =
          merging.total
          ∙ rw (asks_left, ups_left, eq-eqb there ask same) (
          sym (append_assoc merging.done (ask ∷ []) (among_of (drop j us) (drop (i + 1) asked)))
          ∙ ap (λ (l : List ℕ). (merging.done ++ (ask ∷ [])) ++ among_of l (drop (i + 1) asked)) ups_left
          );
    }

    pub merging_above : get_or asked i 0 < get_or us j 0 → AmongMerged us asked out₀ to out next (i + 1) j
    unfolding ask there IdsFrom among_of is_one_of
    merging_above h = record {
      done = merging.done;
      wrote = merging.wrote;
      few = omega (arith, merging.few);
      inside = omega arith;
      reached = merging.reached;
      asks = ids_from (suc ask) 0 (drop (i + 1) asked) (omega arith) asks_here.1;
      ups = merging.ups;
      total =
          merging.total
          ∙ rw (asks_left, ups_left, ne_eqb there ask (λ same. omega arith), not-one (suc there) ask (drop (j + 1) us) (omega arith) ups_here.1)
          (ap (λ (l : List ℕ). merging.done ++ among_of l (drop (i + 1) asked)) ups_left);
    }

-- ---- an answer

-- a word in front of a run
wrote_head : {out xs out' : List ℕ} {to at : ℕ} (head : ℕ) → Wrote out (to + 1) xs out' at → Wrote out to (head ∷ xs) (set out' to head) at
wrote_head {out} {xs} {to = to} head wrote = record {
  after = omega (arith, wrote.after);
  text = rw (wrote.text, add-one to) (set_before out to head (suc to) xs (omega arith));
}

-- an entity by the runs of its words
module _ {words : List ℕ} {at ancestors rows end : ℕ} (parts : Parts words at ancestors rows end) where
  entity_here : {e : EntityRead} {more : List EntityRead} → EntityHere words at e more → EntityAt words at ancestors rows end e more
  entity_here {e} {more} here = entity-at words at e more here.kept here.later here.left parts.parents parts.ancestors parts.rows

  -- how many parents and rows it has
  counts : {e : EntityRead} {more : List EntityRead} → EntityHere words at e more →
      (ancestors - (at + 1) ≡ length e.parents) × (end - rows ≡ length e.value.rows)
  counts {e} here =
      let runs = entity_here here in (
        omega (arith, runs.parents.after, length-map e.parents parent_word),
        omega (arith, runs.rows.after, length-map e.value.rows value_word),
      )

  pub entity_full : (out : List ℕ) (to : ℕ) → length out - to ≤ ancestors - (at + 1) + (end - rows) →
      (e : EntityRead) (more : List EntityRead) → EntityHere words at e more → length out < to + length (answer_of (some e))
  entity_full out to h e more here =
      let (parents, own) = counts here in
      omega (arith, length-append e.parents (map value_word e.value.rows), length-map e.value.rows value_word)

  pub entity_written : {out out₁ out₂ : List ℕ} {to next₁ next₂ : ℕ} →
      Wrote (set out to (answer_head (ancestors - (at + 1)) (end - rows))) (to + 1) (map id_in (take (ancestors - (at + 1)) (drop (at + 1) words))) out₁ next₁ →
      Wrote out₁ next₁ (take (end - rows) (drop rows words)) out₂ next₂ →
      (e : EntityRead) (more : List EntityRead) → EntityHere words at e more → Wrote out to (answer_of (some e)) out₂ next₂
  entity_written {out} {to = to} ids values e more here =
      let runs = entity_here here in
      let (parents, own) = counts here in
      let head = answer_head (ancestors - (at + 1)) (end - rows) in
      let first : Wrote out to (head ∷ []) (set out to head) (to + 1) = record { after = refl; text = refl } in
      rw (runs.parents.run, parents_again e.parents here.kept.parents, runs.rows.run, parents, own) at (wrote_more (wrote_more first ids) values)

-- the ancestors of an entity by the runs of its words
module _ {words : List ℕ} {at start end : ℕ} (p : start ≡ at + 1 + run_of 1 (drop (at + 1) words)) (u : end ≡ start + run_of 2 (drop start words)) where
  pub ancestor_ids : (e : EntityRead) (more : List EntityRead) → EntityHere words at e more →
      map id_in (take (end - start) (drop start words)) ≡ e.ancestors
  ancestor_ids e more here =
      let runs = entity-at words at e more here.kept here.later here.left p u refl in
      rw runs.ancestors.run (ancestors_again e.ancestors here.kept.ancestors)

pub set_written : {out out' ids : List ℕ} {to next : ℕ} → Wrote out (to + 1) ids out' next → Wrote out to (set_words ids) (set out' to (next - to - 1)) next
set_written {ids = ids} {to} {next} wrote =
    let size : next - to - 1 ≡ length ids = omega (arith, wrote.after) in
    rw size (wrote_head (length ids) wrote)

pub set_absent : (asked out : List ℕ) (to : ℕ) → Wrote out to (set_words (among_of [] asked)) (set out to 0) (to + 1)
set_absent asked out to = rw (among_none asked) (record { after = refl; text = refl })
