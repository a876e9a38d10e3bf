-- What follows for a caller from answers or sets that are of their form: how many there are and how many words they take, that they are the
-- same where their words are copied, and what stands at a place. No contract cites this file.
use Prim.Native.Nat.{ℕ, zero, suc, ◌+◌, ◌≤◌, ◌<◌}
use Rattle.std.proofs.Common.{add-zero, add_assoc, add-one, one-add, sym, ◌∙◌, lt-ltb, le-ltb, le-leb, eq-eqb, ne_eqb, leb-true, append_assoc, length-append, take-append-drop, length-take-le, drop-cons}
use Rattle.std.proofs.Math.Nat.{zero-add, suc-add}
use native.Mathlib.Omega.{arith}
use Rattle.std.proofs.Math.Path.{◌≡◌, ap}
use Rattle.std.specs.Prelude.{Result, Ok, Err, refl, ◌≢◌, true, cond, leb, ltb, eqb, List, [], ◌∷◌, ◌++◌, get_or}
use Rattle.std.proofs.Math.Option.{Option, none, some, none-ne-some}
use Rattle.std.proofs.Math.ListN.{length, take, drop, length-drop}
use Rattle.std.proofs.lemmas.List.{take-append-le, drop-append-le}
use Rattle.std.proofs.Math.Seq.{take-add, drop_at}
use Rattle.rules.specs.Facts.{by_test, by_option, both_true, cond-some, compared, then_accepted, accepted_same}
use Rattle.rules.specs.Loading.{LoadAnswer, done, refused_at, summed}
use Rattle.rules.proofs.SliceLaws.{done_same}
use Rattle.rules.specs.Values.{Entity}
use Rattle.rules.specs.Numbers.{Answer, accepted, refused, and_then}
use Rattle.answers.specs.Answers.{id_set, head_in, is_entity, entity_in, ReadItem, read_item, with_first, read_from, checked_as, AllRead, ItemOf, item_at, size_of_item, lent_from, StandsAt}
use Rattle.answers.specs.AnswerLaws.{EntityParts, reads_wrong, reads_next, entity_parts, some_same, headed}
use Rattle.answers.specs.declared.Head.{Head}
use Rattle.answers.specs.declared.Lending.{Lending}
use Rattle.answers.specs.declared.Lending.TheVariants.{Answers, Sets}

-- ---- what a look at all says

pub fine_read : {A : Type 0} (answer : Answer (ReadItem (List A))) {size : ℕ} → checked_as answer ≡ Ok size → (all : ReadItem (List A)) × (answer ≡ accepted all) × (all.size ≡ size)
fine_read (accepted all) e = (all, refl, cc)
fine_read (refused number place) e = absurd (let z : ◌≡◌ {A = ℕ} 0 1 = cc in omega arith)

pub fine_all : {A : Type 0} (answer : Answer (ReadItem (List A))) {size : ℕ} → checked_as answer ≡ Ok size → AllRead answer
fine_all (accepted all) e = tt
fine_all (refused number place) e = absurd (let z : ◌≡◌ {A = ℕ} 0 1 = cc in omega arith)

module _ {A : Type 0} (one : List ℕ → Option (ReadItem A)) where
  -- the first and the others, where all are of their form
  pub record ReadSplit (place count : ℕ) (words : List ℕ) (all : ReadItem (List A)) : Type 0 where
    pub next : ReadItem A
    pub stands : one words ≡ some next
    pub rest : ReadItem (List A)
    pub fine : read_from one (place + 1) count (drop next.size words) ≡ accepted rest
    pub whole : with_first next rest ≡ all

  pub split : (place count : ℕ) (words : List ℕ) {all : ReadItem (List A)} → read_from one place (suc count) words ≡ accepted all → ReadSplit place count words all
  split place count words e =
      by_option (one words)
      (λ wrong. absurd (let w = reads_wrong one place count words wrong in let z : ◌≡◌ {A = ℕ} 0 1 = cc in omega arith))
      (λ next stands.
      let found = then_accepted (read_from one (place + 1) count (drop next.size words)) (λ more. accepted (with_first next more)) (sym (reads_next one place count words stands) ∙ e) in
      record { next = next; stands = stands; rest = found.0; fine = found.1; whole = accepted_same _ _ found.2 })

  -- they are as many as were to be read
  pub all_counted : (place count : ℕ) (words : List ℕ) {all : ReadItem (List A)} → read_from one place count words ≡ accepted all → length all.item ≡ count
  unfolding read_from
  all_counted place zero words e = let none_read = accepted_same _ _ e in ap (λ (r : ReadItem (List A)). length r.item) (sym none_read)
  all_counted place (suc count) words e =
      let parts = split place count words e in
      ap (λ (r : ReadItem (List A)). length r.item) (sym parts.whole) ∙ ap suc (all_counted (place + 1) count _ parts.fine)

  -- the place is told of a refusal only
  pub any_place :
      (place other count : ℕ) (words : List ℕ) {all : ReadItem (List A)}
      → read_from one place count words ≡ accepted all
      → read_from one other count words ≡ accepted all
  unfolding read_from
  any_place place other zero words e = e
  any_place place other (suc count) words e =
      let parts = split place count words e in
      reads_next one other count words parts.stands
      ∙ rw (any_place (place + 1) (other + 1) count (drop parts.next.size words) parts.fine, parts.whole)

  -- one that is not of its form is refused with 1
  pub wrong_read : (place count : ℕ) (words : List ℕ) {at : ℕ} → checked_as (read_from one place count words) ≡ Err at → read_from one place count words ≡ refused 1 at
  unfolding read_from
  wrong_read place zero words e = absurd (let z : ◌≡◌ {A = ℕ} 0 1 = cc in omega arith)
  wrong_read place (suc count) words e =
      by_option (one words)
      (λ wrong. let known = reads_wrong one place count words wrong in known ∙ ap (refused 1) (at_place (rw known at e)))
      (λ next stands.
      let known = reads_next one place count words stands in
      known ∙ onward next (read_from one (place + 1) count (drop next.size words)) (rw known at e) (λ h. wrong_read (place + 1) count (drop next.size words) h))
    where
      at_place : {m n : ℕ} → ◌≡◌ {A = Result ℕ ℕ} (Err m) (Err n) → m ≡ n
      at_place e = cc

      onward :
          (next : ReadItem A) (answer : Answer (ReadItem (List A))) {at : ℕ}
          → checked_as (and_then answer (λ more. accepted (with_first next more))) ≡ Err at
          → (checked_as answer ≡ Err at → answer ≡ refused 1 at)
          → and_then answer (λ more. accepted (with_first next more)) ≡ refused 1 at
      onward next (accepted all) e h = absurd (let z : ◌≡◌ {A = ℕ} 0 1 = cc in omega arith)
      onward next (refused number place) e h = let known = h e in cc

-- ---- how many words they take

module _ (lent : Lending) where
  pub all_within :
      (place count : ℕ) (words : List ℕ) {all : ReadItem (List (ItemOf lent))}
      → lent_from lent place count words ≡ accepted all
      → all.size ≤ length words
  unfolding read_from
  all_within place zero words e = let none_read = ap (λ (r : ReadItem (List (ItemOf lent))). r.size) (accepted_same _ _ e) in omega arith
  all_within place (suc count) words {all} e =
      let parts = split (item_at lent) place count words e in
      let whole : parts.next.size + parts.rest.size ≡ all.size = ap (λ (r : ReadItem (List (ItemOf lent))). r.size) parts.whole in
      omega (
        arith,
        all_within (place + 1) count (drop parts.next.size words) parts.fine,
        (headed lent words parts.next parts.stands).within,
        length-drop parts.next.size words,
      )

  -- a word for each head, and what is summed
  pub all_summed :
      (place count : ℕ) (words : List ℕ) {all : ReadItem (List (ItemOf lent))}
      → lent_from lent place count words ≡ accepted all
      → (at sum total : ℕ)
      → summed (size_of_item lent) at sum all.item ≡ done total
      → all.size + sum ≡ count + total
  unfolding read_from summed
  all_summed place zero words e at sum total done-is =
      let none_read = accepted_same _ _ e in
      let size = ap (λ (r : ReadItem (List (ItemOf lent))). r.size) none_read in
      let same : sum ≡ total = done_same (rw (← ap (λ (r : ReadItem (List (ItemOf lent))). r.item) none_read) at done-is) in
      omega arith
  all_summed place (suc count) words {all} e at sum total done-is =
      let parts = split (item_at lent) place count words e in
      let size : parts.next.size + parts.rest.size ≡ all.size = ap (λ (r : ReadItem (List (ItemOf lent))). r.size) parts.whole in
      let items : parts.next.item ∷ parts.rest.item ≡ all.item = ap (λ (r : ReadItem (List (ItemOf lent))). r.item) parts.whole in
      let head = headed lent words parts.next parts.stands in
      let worth = size_of_item lent parts.next.item in
      let left = not_over (sum + worth) (rw (← items) at done-is) in
      omega (
        arith,
        head.size,
        head.worth,
        all_summed (place + 1) count (drop parts.next.size words) parts.fine (suc at) (sum + worth) total left,
      )
    where
      refused_done : refused_at 15 at ≡ done total → ⊥
      refused_done e = let z : ◌≡◌ {A = ℕ} 0 1 = cc in omega arith

      not_over : {answer : LoadAnswer ℕ} (n : ℕ) → cond (ltb 8192 n) (refused_at 15 at) answer ≡ done total → answer ≡ done total
      not_over n e = compared 8192 n (λ h. absurd (refused_done (rw (lt-ltb 8192 n h) at e))) (λ h. rw (le-ltb 8192 n h) at e)

-- ---- the same words, with others behind them

-- a part of words that are copied
part_of : (i j : ℕ) (xs ys : List ℕ) → i + j ≤ length xs → take j (drop i (xs ++ ys)) ≡ take j (drop i xs)
part_of i j xs ys h =
    rw (drop-append-le i xs ys (omega arith)) (take-append-le j (drop i xs) ys (omega (arith, length-drop i xs)))

module _ (i j n : ℕ) (words more : List ℕ) (inside : i + j ≤ n) (fits : n ≤ length words) where
  part_stays : take j (drop i (take n words ++ more)) ≡ take j (drop i words)
  part_stays =
      let copied : length (take n words) ≡ n = length-take-le n words fits in
      part_of i j (take n words) more (omega arith)
      ∙ sym (part_of i j (take n words) (drop n words) (omega arith))
      ∙ rw take-append-drop

copied_length : (n : ℕ) (words more : List ℕ) → n ≤ length words → n ≤ length (take n words ++ more)
copied_length n words more h = omega (arith, length-append (take n words) more, length-take-le n words h)

entity_stays : (head : Head) (words more : List ℕ) → is_entity head words ≡ true →
    let copy = take (head.parents + head.rows) words ++ more in
    (is_entity head copy ≡ true) × (entity_in head copy ≡ entity_in head words)
entity_stays head words more h =
    let n = head.parents + head.rows in
    let parts = entity_parts head words h in
    let parents = part_stays 0 head.parents n words more (omega arith) parts.fits in
    let rows = part_stays head.parents head.rows n words more (omega arith) parts.fits in (
      rw (eq-eqb head.flag 1 parts.flag, le-leb n (length (take n words ++ more)) (copied_length n words more parts.fits), parents, rows, parts.parents) parts.rows,
      rw (parents, rows),
    )

pub item_stays :
    (lent : Lending) (words more : List ℕ) (next : ReadItem (ItemOf lent))
    → item_at lent words ≡ some next
    → item_at lent (take next.size words ++ more) ≡ some next
item_stays Answers [] more next e = absurd (none-ne-some next e)
item_stays Answers (word ∷ words) more next e =
    by_test (eqb word 0)
    (λ t. rw (← some_same (rw t at e)) (rw t))
    (λ t.
    let found = cond-some _ _ _ (rw t at e) in
    let copy = entity_stays (head_in word) words more found.0 in
    rw (← some_same found.1) (rw (one-add, t, copy.0, copy.1, one-add)))
item_stays Sets [] more next e = absurd (none-ne-some next e)
item_stays Sets (count ∷ words) more next e =
    let found = cond-some _ _ _ e in
    let tests = both_true (leb count (length words)) (id_set 0 (take count words)) found.0 in
    let fits = leb-true count (length words) tests.0 in
    rw (← some_same found.1)
    (rw (one-add, le-leb count (length (take count words ++ more)) (copied_length count words more fits), part_stays 0 count count words more (omega arith) fits, tests.1, one-add))

-- behind some, others follow
abbrev pub joined : {A : Type 0} → ReadItem (List A) → ReadItem (List A) → ReadItem (List A)
joined all more = read_item (all.item ++ more.item) (all.size + more.size)

joined_none : {A : Type 0} (answer : Answer (ReadItem (List A))) → answer ≡ and_then answer (λ more. accepted (joined (read_item [] 0) more))
joined_none (accepted more) = rw zero-add
joined_none (refused number place) = refl

joined_first :
    {A : Type 0} (next : ReadItem A) (rest : ReadItem (List A)) (answer : Answer (ReadItem (List A)))
    → and_then (and_then answer (λ more. accepted (joined rest more))) (λ more. accepted (with_first next more))
    ≡ and_then answer (λ more. accepted (joined (with_first next rest) more))
joined_first next rest (accepted more) = rw add_assoc
joined_first next rest (refused number place) = refl

module _ (lent : Lending) (m : ℕ) (more : List ℕ) where
  pub all_joined :
      (place count : ℕ) (words : List ℕ) {all : ReadItem (List (ItemOf lent))}
      → lent_from lent place count words ≡ accepted all
      → lent_from lent place (count + m) (take all.size words ++ more)
      ≡ and_then (lent_from lent (place + count) m more) (λ rest. accepted (joined all rest))
  unfolding read_from
  all_joined place zero words e = rw (← accepted_same _ _ e, zero-add, add-zero) (joined_none (lent_from lent place m more))
  all_joined place (suc count) words e =
      let parts = split (item_at lent) place count words e in
      onward parts (all_joined (place + 1) count (drop parts.next.size words) parts.fine)
    where
      onward :
          {all : ReadItem (List (ItemOf lent))} (parts : ReadSplit (item_at lent) place count words all)
          → lent_from lent (place + 1) (count + m) (take parts.rest.size (drop parts.next.size words) ++ more)
          ≡ and_then (lent_from lent (place + 1 + count) m more) (λ rest. accepted (joined parts.rest rest))
          → lent_from lent place (suc count + m) (take all.size words ++ more)
          ≡ and_then (lent_from lent (place + suc count) m more) (λ rest. accepted (joined all rest))
      onward parts others =
          let s = parts.next.size in
          let t = parts.rest.size in
          let behind = take t (drop s words) ++ more in
          let fits = (headed lent words parts.next parts.stands).within in
          let copy : take (s + t) words ++ more ≡ take s words ++ behind = rw take-add (append_assoc (take s words) (take t (drop s words)) more) in
          let left : drop s (take s words ++ behind) ≡ behind = drop_at (take s words) behind s (length-take-le s words fits) in
          let place_is : place + suc count ≡ place + 1 + count = omega arith in
          rw (← parts.whole, copy, suc-add, place_is)
          (reads_next (item_at lent) place (count + m) (take s words ++ behind) (item_stays lent words behind parts.next parts.stands)
          ∙ rw (left, others)
          (joined_first parts.next parts.rest (lent_from lent (place + 1 + count) m more)))

-- ---- what stands at a place

module _ (words : List ℕ) (at : ℕ) where
  words_at : at < length words → drop at words ≡ get_or words at 0 ∷ drop (at + 1) words
  words_at h = rw (add-one, drop-cons words at 0)

  stands_inside : (lent : Lending) (item : ItemOf lent) → StandsAt lent words at item → at < length words
  stands_inside lent item (size, e) = omega (arith, (headed lent (drop at words) (read_item item size) e).inside, length-drop at words)

  -- an entity that is absent, and one that is not
  pub absent_stands : (answer : Option Entity) → StandsAt Answers words at answer → get_or words at 0 ≡ 0 → answer ≡ none
  absent_stands answer stands zero-head =
      let e = rw (words_at (stands_inside Answers answer stands), zero-head) at stands.1 in
      ap (λ (r : ReadItem (Option Entity)). r.item) (sym (some_same e))

  pub entity_stands :
      (answer : Option Entity) → StandsAt Answers words at answer → get_or words at 0 ≢ 0
      → (answer ≡ some (entity_in (head_in (get_or words at 0)) (drop (at + 1) words)))
      × EntityParts (head_in (get_or words at 0)) (drop (at + 1) words)
  entity_stands answer stands head =
      let e = rw (words_at (stands_inside Answers answer stands), ne_eqb (get_or words at 0) 0 head) at stands.1 in
      let found = cond-some _ _ _ e in (
        ap (λ (r : ReadItem (Option Entity)). r.item) (sym (some_same found.1)),
        entity_parts (head_in (get_or words at 0)) (drop (at + 1) words) found.0,
      )

  pub set_stands :
      (set : List ℕ) → StandsAt Sets words at set
      → (set ≡ take (get_or words at 0) (drop (at + 1) words)) × (get_or words at 0 ≤ length (drop (at + 1) words)) × (id_set 0 set ≡ true)
  set_stands set stands =
      let e = rw (words_at (stands_inside Sets set stands)) at stands.1 in
      let found = cond-some _ _ _ e in
      let tests = both_true (leb (get_or words at 0) (length (drop (at + 1) words))) (id_set 0 (take (get_or words at 0) (drop (at + 1) words))) found.0 in
      let same : take (get_or words at 0) (drop (at + 1) words) ≡ set = ap (λ (r : ReadItem (List ℕ)). r.item) (some_same found.1) in
      (sym same, leb-true _ _ tests.0, rw same at tests.1)
