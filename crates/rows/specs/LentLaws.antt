-- Laws of a buffer that rows are stored in: it is a lent state that has them. No contract cites this file.
use Rattle.std.specs.Prelude.{ℕ, ◌+◌, ◌≤◌, ◌<◌, ◌≡◌, refl, true, List, [], ◌∷◌, ◌++◌, map, leb, ltb, eqb, length, drop, get_or, take}
use Rattle.std.proofs.Common.{add-one, arith, ap, ap₂, ◌∙◌, leb-true, eqb-true, lt-ltb, length-drop, take_at, length-take-le}
use Rattle.std.proofs.lemmas.List.{length-map}
use Rattle.std.proofs.lemmas.List.Edits.{sets, sets-eq}
use Rattle.std.proofs.Math.Seq.{length-sets}
use Rattle.rules.specs.Numbers.{Answer, accepted, refused}
use Rattle.rules.specs.Facts.{both_true}
use Rattle.rules.specs.Tries.{Row, ordered, entries_in, nodes_in, lawful}
use Rattle.rules.proofs.TrieLaws.{Ordered, ordered_true}
use Rattle.words.specs.Runs.{words_in}
use Rattle.words.specs.RunLaws.{held_count}
use Rattle.words.specs.Replies.{Done}
use Rattle.rows.specs.Words.{word_of, row_in}
use Rattle.rows.specs.WordLaws.{row_word, all_words_cons, word_row}
use Rattle.rows.specs.States.{Lent, form_of, words_of, all_words, rows_of, lawful_state, holding, storing, rows_in}
use Rattle.rows.specs.StateLaws.{all_rows, rows_lawful, count_within, words_good}
use Rattle.rows.specs.declared.Kind.{Kind}
use Rattle.rows.specs.declared.Kind.TheVariants.{Contribution, Manifest}

-- ---- a buffer that holds rows

-- rows in order are what their words pack, and each word packs a row
pub packed : (s : List ℕ) (rows : List Row) → Ordered s rows → (rows_of (map word_of rows) ≡ rows) × (all_words (map word_of rows) ≡ true)
unfolding Ordered all_words
packed s [] h = (refl, refl)
packed s (row ∷ rows) (whole, follows, near, rest) =
    let (same, good) = row_word row whole near in
    let (more, all) = packed _ rows rest in
    (ap₂ (λ (r : Row) (rs : List Row). r ∷ rs) same more, (all_words_cons (word_of row) (map word_of rows)).1 (good, all))

-- words with their count in front are the words of the buffer
module _ (out words : List ℕ) {count : ℕ} (counted : length words ≡ count) (room : count < length out) where
  pub words_held : words_in (sets out 0 (count ∷ words)) ≡ words
  words_held =
      let laid : sets out 0 (count ∷ words) ≡ (count ∷ words) ++ drop (0 + length (count ∷ words)) out = sets-eq (count ∷ words) out 0 (omega arith) in
      ap words_in laid ∙ take_at words _ count counted

-- a kind has room for the rows of a lawful state
lawful_room : (kind : Kind) (rows : List Row) → lawful (form_of kind) rows ≡ true → length rows < words_of kind
lawful_room Contribution rows h =
    let (one, few) = both_true (eqb (entries_in rows) 1) (leb (nodes_in rows) 1024) (both_true (ordered [] rows) _ h).1 in
    omega (arith, eqb-true, leb-true, all_rows rows)
lawful_room Manifest rows h =
    let (types, few) = both_true (leb (entries_in rows) 64) (leb (nodes_in rows) 4096) (both_true (ordered [] rows) _ h).1 in
    omega (arith, leb-true, all_rows rows)

-- lawful rows that are stored in a long buffer are a lent state
pub stored_lent : (kind : Kind) (out : List ℕ) (rows : List Row) → words_of kind ≤ length out → lawful (form_of kind) rows ≡ true → Lent kind (holding out rows) rows
unfolding lawful_state
stored_lent kind out rows long h =
    let (same, all) = packed [] rows (ordered_true [] rows (both_true (ordered [] rows) _ h).0) in
    let room : length rows < length out = omega (arith, lawful_room kind rows h) in
    let words : words_in (holding out rows) ≡ map word_of rows = words_held out (map word_of rows) (length-map rows word_of) room in
    let count : get_or (holding out rows) 0 0 ≡ length rows = held_count out (map word_of rows) (length-map rows word_of) room in
    let size : length (holding out rows) ≡ length out = length-sets out 0 (length rows ∷ map word_of rows) in
    let within : ltb (get_or (holding out rows) 0 0) (length (holding out rows)) ≡ true =
    lt-ltb (get_or (holding out rows) 0 0) (length (holding out rows)) (omega arith) in
    record {
      long = omega arith;
      lawful-state = rw (within, words, all, same, h);
      has_rows = ap rows_of words ∙ same;
    }

-- ---- what an operation stores

-- where rows are stored and the reply is Done, the buffer is a lent state
pub done_lent :
    (kind : Kind) (out : List ℕ) (answer : Answer (List Row))
    → words_of kind ≤ length out
    → ((rows : List Row) → answer ≡ accepted rows → lawful (form_of kind) rows ≡ true)
    → (storing out answer).reply ≡ Done
    → (rows : List Row) × (answer ≡ accepted rows) × Lent kind (storing out answer).buffer rows
done_lent kind out (accepted rows) long each e = (rows, refl, stored_lent kind out rows long (each rows refl))
done_lent kind out (refused number place) long each e = absurd (let z : ◌≡◌ {A = ℕ} 0 1 = cc in omega arith)

-- a lent state's rows are lawful
pub lent_lawful : (kind : Kind) (state : List ℕ) (rows : List Row) → Lent kind state rows → lawful (form_of kind) rows ≡ true
lent_lawful kind state rows lent = rw lent.has_rows at (rows_lawful (form_of kind) state lent.lawful-state)

-- ---- a lent state that is copied

-- words that pack rows are the words of these rows
all_words_back : (words : List ℕ) → all_words words ≡ true → map word_of (rows_of words) ≡ words
unfolding all_words
all_words_back [] h = refl
all_words_back (w ∷ words) h =
    let (one, rest) = (all_words_cons w words).0 h in
    ap₂ (λ (x : ℕ) (xs : List ℕ). x ∷ xs) (word_row w one) (all_words_back words rest)

-- it counts as many words as it has rows, within it and within the words of its kind
module _ (kind : Kind) (state : List ℕ) (rows : List Row) (lent : Lent kind state rows) where
  as_many : length (rows_in state) ≡ get_or state 0 0
  as_many =
      length-map (words_in state) row_in
      ∙ length-take-le (get_or state 0 0) (drop 1 state) (omega (arith, count_within (form_of kind) state lent.lawful-state, length-drop 1 state))

  pub lent_few : (get_or state 0 0 < length state) × (get_or state 0 0 < words_of kind)
  lent_few =
      let few = lawful_room kind (rows_in state) (rows_lawful (form_of kind) state lent.lawful-state) in
      (count_within (form_of kind) state lent.lawful-state, omega (arith, few, as_many))

-- its count and its words, copied, are what another buffer holds that has its rows
pub lent_copied :
    (kind : Kind) (state out : List ℕ) (rows : List Row)
    → Lent kind state rows
    → sets out 0 (take (get_or state 0 0 + 1) state) ≡ holding out rows
lent_copied kind state out rows lent =
    let inside = count_within (form_of kind) state lent.lawful-state in
    let back : map word_of (rows_in state) ≡ words_in state = all_words_back (words_in state) (words_good (form_of kind) state lent.lawful-state) in
    let front : take (get_or state 0 0 + 1) state ≡ get_or state 0 0 ∷ words_in state = take_front state inside in
    rw front (rw (← lent.has_rows, as_many kind state rows lent, back))
  where
    take_front : (state : List ℕ) → get_or state 0 0 < length state → take (get_or state 0 0 + 1) state ≡ get_or state 0 0 ∷ take (get_or state 0 0) (drop 1 state)
    take_front [] h = absurd (omega arith)
    take_front (count ∷ words) h = rw add-one
