-- Laws of the fields of a line as names, decimals that ascend, and of those that are kept. No contract cites this file.
use Prim.Native.Nat.{ℕ, suc, ◌+◌, ◌-◌, ◌≤◌, ◌<◌}
use native.Mathlib.Nat.{sub-zero}
use native.Mathlib.Omega.{arith}
use mathlib.Core.Bool.{cond}
use mathlib.Core.List.{List, [], ◌∷◌, ◌++◌, append-nil}
use mathlib.Core.Option.{Option, none, some}
use mathlib.Core.Path.{◌≡◌, refl, sym, ap, ◌∙◌}
use borrow.Author.Tests.{le-leb, lt-leb, lt-ltb, le-ltb}
use lib.Dec.{eqb, leb, ltb}
use lib.ListN.{length, get_or, take, drop, set, length-append, length-drop, length-set, drop_of_length-le}
use lib.Seq.{append_snoc, drop-cons, drop-length, drop-set-lt, get_or-set_same, take_all, take-nil, take-append-le}
use Rattle.rules.specs.Facts.{by_test, by_option, compared}
use Rattle.rules.specs.Text.{parted, fields_of, decimal_of, TAB}
use Rattle.rules.proofs.TextLaws.{parted_some, decimal_written, decimal_up_to_empty}
use Rattle.rules.specs.Listing.{◌>>=◌}
use Rattle.rules.proofs.ListingLaws.{bind_some}
use Rattle.rules.specs.Schema.{ascending}
use Rattle.rules.specs.Steps.{reversed}
use Rattle.text.specs.Answers.{names_counted, NamesKept, NamesRead}
use Rattle.text.specs.Before.{before as earlier}
use Rattle.std.specs.Prelude.{Option as Maybe, Some, None}
use Rattle.text.proofs.Laws.{parted_next, parted_whole, parted_cut}

-- ---- the field from a place to the next tab

-- the fields behind the place where one ends: none at the end of the line
abbrev pub fields_behind : List ℕ → ℕ → List (List ℕ)
fields_behind line end = cond (ltb end (length line)) (fields_of (drop (end + 1) line)) []

-- no more is passed than there is
earlier_most : (b : ℕ) (xs : List ℕ) → length (earlier b xs) ≤ length xs
unfolding earlier
earlier_most b [] = omega arith
earlier_most b (x ∷ xs) = let rest = earlier_most b xs in by_test (eqb x b) (λ t. rw t (omega arith)) (λ t. rw t (omega arith))

-- what is known of the field from a place on, by the place where a scan for a tab ended
abbrev pub Scanned : List ℕ → ℕ → ℕ → Type 0
Scanned line at end = (at ≤ end) × (end ≤ length line) × (fields_of (drop at line) ≡ take (end - at) (drop at line) ∷ fields_behind line end)

pub scanned : (line : List ℕ) (at end : ℕ) → at ≤ length line → end ≡ at + length (earlier TAB (drop at line)) → Scanned line at end
scanned line at end inside found =
    let field = earlier TAB (drop at line) in
    let within : end ≤ length line = omega (arith, earlier_most TAB (drop at line), length-drop at line) in
    let size : end - at ≡ length field = omega arith in (
      omega arith,
      within,
      rw size
          (compared end (length line)
          (λ h.
          let (next, others, p) = parted_cut TAB at line (omega arith) in
          parted_next TAB at line field next others p ∙ rw (← found, lt-ltb end (length line) h))
          (λ h. parted_whole TAB at line (omega arith) ∙ rw (take_all (length field) (drop at line) (omega (arith, length-drop at line)), le-ltb end (length line) h))),
    )

-- ---- decimals that ascend

module _ (least : ℕ) (field : List ℕ) (fields : List (List ℕ)) where
  -- the first field is no decimal, or too low
  ascending_bad : decimal_of field ≡ none → ascending least (field ∷ fields) ≡ none
  unfolding ascending
  ascending_bad e = rw e

  module _ {n : ℕ} (e : decimal_of field ≡ some n) where
    ascending_low : n < least → ascending least (field ∷ fields) ≡ none
    unfolding ascending
    ascending_low h = rw (e, lt-leb least n h)

    -- the others follow it
    ascending_next : least ≤ n → ascending least (field ∷ fields) ≡ (ascending (n + 1) fields >>= (λ ns. some (n ∷ ns)))
    unfolding ascending
    ascending_next h = rw (e, le-leb least n h)

-- the first of decimals that ascend is what the first field writes
pub ascending_first : (least : ℕ) (field : List ℕ) (fields : List (List ℕ)) {ns : List ℕ} → ascending least (field ∷ fields) ≡ some ns →
    (n : ℕ) × (others : List ℕ) × (decimal_of field ≡ some n) × (ns ≡ n ∷ others)
unfolding ascending
ascending_first least field fields {ns} e =
    bind_some (decimal_of field) _ ns e λ n value e.
    bind_some (cond (leb least n) (ascending (n + 1) fields) none) _ ns e λ others rest e.
    (n, others, value, cc)

-- nothing is left past the end of a line but a field without a byte, which is no name
ascending_past : (least : ℕ) (line : List ℕ) (from : ℕ) → length line ≤ from → ascending least (fields_of (drop from line)) ≡ none
unfolding parted
ascending_past least line from h = rw (drop_of_length-le line h) (ascending_bad least [] [] (decimal_up_to_empty 65535 [] refl))

-- ---- the names of a line, last first

reversed_snoc : (xs : List ℕ) (n : ℕ) → reversed (xs ++ (n ∷ [])) ≡ n ∷ reversed xs
reversed_snoc [] n = refl
reversed_snoc (x ∷ xs) n = rw (reversed_snoc xs n)

-- a value stored stands in front of what follows it
stored_front : (l : List ℕ) (i v : ℕ) → i < length l → drop i (set l i v) ≡ v ∷ drop (suc i) l
stored_front l i v h =
    let room : i < length (set l i v) = omega (arith, length-set l i v) in
    drop-cons (set l i v) i 0 room ∙ rw (get_or-set_same l i v 0 h, drop-set-lt (suc i) l i v (omega arith))

module _ (done buffer : List ℕ) (n : ℕ) (kept : NamesKept (some done) buffer) where
  -- one more is kept where there is room
  kept_room : length done < length buffer → NamesKept (some (done ++ (n ∷ []))) (set buffer (length buffer - 1 - length done) n)
  kept_room h =
      let slot = length buffer - 1 - length done in
      let place : length buffer - length (done ++ (n ∷ [])) ≡ slot = omega (arith, length-append done (n ∷ [])) in
      let after : suc slot ≡ length buffer - length done = omega arith in
      rw (length-set, place, take_all (length buffer) (done ++ (n ∷ [])) (omega (arith, length-append done (n ∷ []))), reversed_snoc)
      (stored_front buffer slot n (omega arith) ∙ rw (after, kept, take_all (length buffer) done (omega arith)))

  -- and else none
  kept_full : length buffer ≤ length done → NamesKept (some (done ++ (n ∷ []))) buffer
  kept_full h =
      let none_left : length buffer - length (done ++ (n ∷ [])) ≡ length buffer - length done = omega (arith, length-append done (n ∷ [])) in
      rw (none_left, take-append-le (length buffer) done (n ∷ []) h) kept

-- the names that are left follow those and one more
then_more : (done : List ℕ) (n : ℕ) (rest : Option (List ℕ)) → ((rest >>= (λ ns. some (n ∷ ns))) >>= (λ ns. some (done ++ ns))) ≡ (rest >>= (λ ns. some ((done ++ (n ∷ [])) ++ ns)))
then_more done n none = refl
then_more done n (some ns) = rw append_snoc

-- So many names are passed, and with those from a place on they are the names of the line.
pub record Naming (line buffer : List ℕ) (from least count : ℕ) : Type 0 where
  pub done : List ℕ
  pub all : length done ≡ count
  pub few : count ≤ from
  pub kept : NamesKept (some done) buffer
  pub left : ascending 0 (fields_of line) ≡ (ascending least (fields_of (drop from line)) >>= (λ ns. some (done ++ ns)))

pub naming_first : (line buffer : List ℕ) → Naming line buffer 0 0 0
naming_first line buffer =
    record {
      done = [];
      all = refl;
      few = omega arith;
      kept = rw (take-nil, sub-zero, drop-length);
      left = by_option (ascending 0 (fields_of line)) (λ e. rw e) (λ ns e. rw e);
    }

-- no names
bad_names : (line buffer : List ℕ) → ascending 0 (fields_of line) ≡ none → NamesRead (ascending 0 (fields_of line)) None buffer
bad_names line buffer e = record { answer = rw e; kept = rw e tt }

module _ {line buffer : List ℕ} {from least count : ℕ} (naming : Naming line buffer from least count) where
  pub naming_past : length line ≤ from → NamesRead (ascending 0 (fields_of line)) None buffer
  naming_past h = bad_names line buffer (naming.left ∙ rw (ascending_past least line from h))

  -- the next name is kept where there is room
  module _ (n : ℕ) where
    pub naming_room : count < length buffer → NamesKept (some (naming.done ++ (n ∷ []))) (set buffer (length buffer - 1 - count) n)
    naming_room h = rw (← naming.all) (kept_room naming.done buffer n naming.kept (omega (arith, naming.all)))

    pub naming_full : length buffer ≤ count → NamesKept (some (naming.done ++ (n ∷ []))) buffer
    naming_full h = kept_full naming.done buffer n naming.kept (omega (arith, naming.all))

  -- the next field, by the fields from it on
  module _ {field : List ℕ} {fields : List (List ℕ)} (here : fields_of (drop from line) ≡ field ∷ fields) where
    pub naming_bad : decimal_of field ≡ none → NamesRead (ascending 0 (fields_of line)) None buffer
    naming_bad e = bad_names line buffer (naming.left ∙ rw (here, ascending_bad least field fields e))

    module _ {n : ℕ} (value : decimal_of field ≡ some n) where
      pub naming_low : n < least → NamesRead (ascending 0 (fields_of line)) None buffer
      naming_low h = bad_names line buffer (naming.left ∙ rw (here, ascending_low least field fields value h))

      module _ (h : least ≤ n) where
        passed : ascending 0 (fields_of line) ≡ (ascending (n + 1) fields >>= (λ ns. some ((naming.done ++ (n ∷ [])) ++ ns)))
        passed = naming.left ∙ rw (here, ascending_next least field fields value h, then_more naming.done n)

        one_more : length (naming.done ++ (n ∷ [])) ≡ count + 1
        one_more = omega (arith, length-append naming.done (n ∷ []), naming.all)

        module _ (buffer' : List ℕ) (keeps : NamesKept (some (naming.done ++ (n ∷ []))) buffer') where
          -- others follow
          pub naming_next : {next : ℕ} → from < next → fields ≡ fields_of (drop next line) → Naming line buffer' next (n + 1) (count + 1)
          naming_next behind e =
              record { done = naming.done ++ (n ∷ []); all = one_more; few = omega (arith, naming.few); kept = keeps; left = rw e at passed }

          -- it was the last
          pub naming_last : fields ≡ [] → NamesRead (ascending 0 (fields_of line)) (Some (count + 1)) buffer'
          unfolding ascending
          naming_last e =
              let names : ascending 0 (fields_of line) ≡ some (naming.done ++ (n ∷ [])) = passed ∙ rw (e, append-nil) in
              record { answer = rw (names, one_more); kept = rw names keeps }

-- ---- names that were read

module _ {names : Option (List ℕ)} {r : Maybe ℕ} {buffer : List ℕ} (names-read : NamesRead names r buffer) where
  pub no_names : r ≡ None → names ≡ none
  no_names e = by_option names (λ q. q) (λ ns q. absurd (let z : ◌≡◌ {A = ℕ} 0 1 = cc (e, names-read.answer, ap names_counted q) in omega arith))

  -- so many names, of which those are kept for which there is room
  pub names_kept : {count : ℕ} → r ≡ Some count →
      (ns : List ℕ) × (names ≡ some ns) × (length ns ≡ count) × (drop (length buffer - count) buffer ≡ reversed (take (length buffer) ns))
  names_kept {count} e =
      by_option names
      (λ q. absurd (let z : ◌≡◌ {A = ℕ} 0 1 = cc (e, names-read.answer, ap names_counted q) in omega arith))
      (λ ns q.
      let size : length ns ≡ count = cc (e, names-read.answer, ap names_counted q) in
      (ns, q, size, rw size at (rw q at names-read.kept)))

-- a buffer for one name has the first, which is an id
pub first_kept : (line buffer : List ℕ) {r : Maybe ℕ} {count : ℕ} → length buffer ≡ 1 → NamesRead (ascending 0 (fields_of line)) r buffer → r ≡ Some count →
    (others : List ℕ) × (ascending 0 (fields_of line) ≡ some (get_or buffer 0 0 ∷ others)) × (suc (length others) ≡ count) × (get_or buffer 0 0 ≤ 65535)
first_kept line [] room names-read e = absurd (omega arith)
first_kept line (word ∷ more ∷ words) room names-read e = absurd (omega arith)
first_kept line (word ∷ []) {count = count} room names-read e =
    let (ns, q, size, kept) = names_kept names-read e in
    let (field, fields, some-field) = parted_some TAB line in
    let (n, others, value, first) = ascending_first 0 field fields (sym (ap (ascending 0) some-field) ∙ q) in
    let counts : suc (length others) ≡ count = sym (ap length first) ∙ size in
    let here : 1 - count ≡ 0 = omega arith in
    let same : word ∷ [] ≡ n ∷ [] = rw (here, first) at kept in
    let word_first : word ≡ n = cc in
    let all : ns ≡ word ∷ others = cc in
    (others, q ∙ ap some all, counts, omega (arith, (decimal_written field n value).1))
