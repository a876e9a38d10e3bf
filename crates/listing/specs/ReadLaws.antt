-- Laws of the rows that a listing is read as, and of what reading answers. No contract cites this file.
use Rattle.std.specs.Prelude.{ℕ, ◌+◌, ◌≤◌, ◌<◌, Bool, true, false, cond, not, ◌&&◌, ◌≢◌, ◌≡◌, refl, ltb, leb, length, take, set}
use Rattle.std.proofs.Common.{arith, sym, ◌∙◌, eqb-true, eq-eqb, ne_eqb, le-leb, ltb-false, leb-false, length-set, length-take-le}
use mathlib.Core.List.{List, [], ◌∷◌, ◌++◌, map, map-append, nil≢cons}
use Rattle.std.proofs.Math.Option.{Option, none, some, some-ne-none}
use Rattle.std.proofs.lemmas.Bool.{eqb-false, lt-leb, not-false}
use Rattle.std.proofs.lemmas.List.{length-map}
use Rattle.std.proofs.lemmas.List.Edits.{sets}
use Rattle.rules.specs.Text.{lines_of, fields_of}
use Rattle.rules.specs.Numbers.{Answer, accepted, refused, most_steps}
use Rattle.rules.specs.Lines.{Folded, fold_text}
use Rattle.rules.proofs.LineLaws.{gathering, gathered, row_line, rows_folded}
use Rattle.rules.proofs.WalkLaws.{kept_stored}
use Rattle.rules.specs.Facts.{cond-none}
use Rattle.rules.specs.Tries.{Row, Form, is_entry, at, follows}
use Rattle.rules.proofs.TrieLaws.{follows_true}
use Rattle.rules.specs.Listing.{Sofar, row_of, start, refusal, entered_by}
use Rattle.text.proofs.Laws.{by_line}
use Rattle.rows.specs.Words.{word_of}
use Rattle.rows.specs.States.{form_of, words_of, storing}
use Rattle.words.specs.Runs.{refusing, stored}
use Rattle.rows.specs.declared.Kind.{Kind}
use Rattle.rows.specs.declared.Limits.{Limits}
use Rattle.words.specs.Replies.{Done}
use Rattle.text.proofs.FoldLaws.{CameTo, came_start, came_end, came_cut, came_refused, came_next}
use Rattle.listing.specs.declared.reading.Sofar.{Sofar as Kept}
use Rattle.listing_lines.specs.Lines.{ended_at, row_at, RowFits}
use Rattle.listing_lines.specs.LineLaws.{row_fits, line_read, row-line}
use Rattle.listing.specs.Reads.{form_for, sofar_in, RowRoom, RowPassed, rows_by, row_words}
use Rattle.listing.specs.Outcomes.{read_listing_in}
use Rattle.words.specs.RunLaws.{stored_next}

-- ---- a row that is taken

-- what is known of a row that is not refused
pub record Allowed (form : Form) (sofar : Sofar) (row : Row) : Type 0 where
  pub near : row.depth ≤ length sofar.place
  pub shallow : row.depth ≤ most_steps
  pub entry_fits : row.depth ≡ 0 → sofar.entries < form.entries
  pub node_fits : row.depth ≢ 0 → sofar.nodes < form.nodes

pub refusal_none : (form : Form) (sofar : Sofar) (row : Row) → refusal form sofar row ≡ none → Allowed form sofar row
refusal_none form sofar row e =
    let (_, unsecond) = (cond-none {A = ℕ} ((form.single && is_entry row) && ltb 0 sofar.entries) 1 _).0 e in
    let (after, in_order) = (cond-none {A = ℕ} (not (follows sofar.place row)) 2 _).0 unsecond in
    let (shallow, not-deep) = (cond-none {A = ℕ} (ltb most_steps row.depth) 3 _).0 in_order in
    let (entries, one_more) = (cond-none {A = ℕ} (is_entry row && leb form.entries sofar.entries) 5 _).0 not-deep in
    let (nodes, _) = (cond-none {A = ℕ} (not (is_entry row) && leb form.nodes sofar.nodes) 4 _).0 one_more in
    record {
      near = (follows_true sofar.place row (not-false (follows sofar.place row) after)).near;
      shallow = ltb-false most_steps row.depth shallow;
      entry_fits = λ z. leb-false form.entries sofar.entries (rw (eq-eqb row.depth 0 z) at entries);
      node_fits = λ z. leb-false form.nodes sofar.nodes (rw (ne_eqb row.depth 0 z) at nodes);
    }

-- a row that is not refused is passed with its step in the path and its word behind the others
pub row_passed :
    (limits : Limits) (kept : Kept) (path rows : List ℕ) (row : Row) {word : ℕ} {next : Kept} →
    RowRoom limits kept path rows →
    refusal (form_for limits) (sofar_in kept path) row ≡ none →
    word ≡ word_of row →
    next.len ≡ row.depth + 1 →
    next.entries ≡ cond (is_entry row) (kept.entries + 1) kept.entries →
    next.nodes ≡ cond (is_entry row) kept.nodes (kept.nodes + 1) →
    RowPassed limits kept row path rows (set path row.depth row.step) (set rows (kept.entries + kept.nodes + 1) word) next
row_passed limits kept path rows row {word} {next} room unrefused packed len entries nodes =
    let allowed : Allowed (form_for limits) (sofar_in kept path) row = refusal_none (form_for limits) (sofar_in kept path) row unrefused in
    let fits : kept.len ≤ length path = omega (arith, room.path_length, room.in_path) in
    let near : row.depth ≤ kept.len = omega (arith, allowed.near, length-take-le kept.len path fits) in
    let place : take next.len (set path row.depth row.step) ≡ at (take kept.len path) row =
    rw len (kept_stored path kept.len row row.step near (omega (arith, room.path_length, allowed.shallow))) in
    let (few_entries, few_nodes, one_more) = counts allowed (is_entry row) refl entries nodes in
    record {
      unrefused = unrefused;
      comes_past = λ i. record { place = place i; entries = entries i; nodes = nodes i };
      stored_row = rw (one_more, packed) (stored_next rows (kept.entries + kept.nodes) (word_of row) (omega (arith, room.in_rows)));
      room = record {
        path_length = simp length-set room.path_length;
        in_path = omega (arith, allowed.shallow);
        few_entries = few_entries;
        few_nodes = few_nodes;
        in_rows = simp length-set room.in_rows;
      };
    }
  where
    counts : Allowed (form_for limits) (sofar_in kept path) row → (entry : Bool) → is_entry row ≡ entry →
        next.entries ≡ cond entry (kept.entries + 1) kept.entries →
        next.nodes ≡ cond entry kept.nodes (kept.nodes + 1) →
        (next.entries ≤ limits.entries) × (next.nodes ≤ limits.nodes) × (next.entries + next.nodes ≡ kept.entries + kept.nodes + 1)
    counts allowed true q entries nodes =
        let fits = allowed.entry_fits (eqb-true row.depth 0 q) in
        (omega arith, omega (arith, room.few_nodes), omega arith)
    counts allowed false q entries nodes =
        let fits = allowed.node_fits (eqb-false row.depth 0 q) in
        (omega (arith, room.few_entries), omega arith, omega arith)

-- ---- reading from line to line

-- the lines that were passed came to the rows whose words are stored
pub record Reading (limits : Limits) (text : List ℕ) (kept : Kept) (path rows : List ℕ) (at line : ℕ) : Type 0 where
  pub room : RowRoom limits kept path rows
  pub passed : List Row
  pub in_words : stored (kept.entries + kept.nodes) rows ≡ map word_of passed
  pub came : CameTo (gathering (row_line (form_for limits))) (start, []) text at line (sofar_in kept path, passed)

pub reading_none : (limits : Limits) (text path rows : List ℕ) → length path ≡ 25 → limits.entries + limits.nodes < length rows →
    Reading limits text (record { len = 0; entries = 0; nodes = 0 }) path rows 0 0
reading_none limits text path rows steps fits = record {
  room = record { path_length = steps; in_path = omega arith; few_entries = omega arith; few_nodes = omega arith; in_rows = fits };
  passed = [];
  in_words = refl;
  came = came_start (gathering (row_line (form_for limits))) (start, []) text;
}

module _ {limits : Limits} {text : List ℕ} {kept : Kept} {path rows : List ℕ} {at line : ℕ} (reading : Reading limits text kept path rows at line) where
  -- the words of what the text gives, by what its lines come to
  words_given : {answer : Answer (Folded (Sofar × List Row))} → fold_text (gathering (row_line (form_for limits))) text (start, []) ≡ answer →
      row_words (gathered answer) ≡ row_words (rows_by limits text)
  words_given e = rw (rows_folded (form_for limits) start 0 (lines_of text), e)

  -- no line is left
  pub reading_all : length text ≤ at → accepted (stored (kept.entries + kept.nodes) rows) ≡ row_words (rows_by limits text)
  reading_all h = rw reading.in_words (words_given (came_end reading.came h))

  -- the next line is not read
  pub reading_unread : row_at text at ≡ none → at < length text → refused 1 line ≡ row_words (rows_by limits text)
  reading_unread e more =
      words_given
      (by_line text at
      (λ alone. came_cut reading.came more alone)
      (λ end l to. came_refused reading.came to (rw (unread end (row_of (fields_of l)) (sym (line_read to) ∙ e)))))
    where
      unread : (end : ℕ) (o : Option Row) → ended_at end o ≡ none → o ≡ none
      unread end none e = refl
      unread end (some row) e = absurd (some-ne-none _ e)

  module _ {row : Row} {end : ℕ} (e : row_at text at ≡ some (row, end)) where
    -- the next line's LF stands in the text
    pub reading_within : (at ≤ end) × (end < length text)
    reading_within = let (_, to, _) = row-line text at row end e in (omega (arith, to.ends), to.within)

    -- its row can be stored
    pub reading_fits : RowFits row
    reading_fits = let (_, _, read-row) = row-line text at row end e in row_fits _ row read-row

    -- its row is refused
    pub reading_stopped : {number : ℕ} → refusal (form_for limits) (sofar_in kept path) row ≡ some number → refused number line ≡ row_words
        (rows_by limits text)
    reading_stopped stopped =
        let (_, to, read-row) = row-line text at row end e in
        words_given (came_refused reading.came to (rw (read-row, stopped)))

    -- its row is taken
    pub reading_next : {path' rows' : List ℕ} {next : Kept} → RowPassed limits kept row path rows path' rows' next →
        Reading limits text next path' rows' (end + 1) (line + 1)
    reading_next passed =
        let (_, to, read-row) = row-line text at row end e in
        record {
          room = passed.room;
          passed = reading.passed ++ (row ∷ []);
          in_words = passed.stored_row ∙ rw (reading.in_words, map-append word_of reading.passed (row ∷ []));
          came = rw passed.comes_past (came_next reading.came to (rw (read-row, passed.unrefused)));
        }

-- ---- what reading answers, by what was tested

-- the words that were read are stored with their count, unless they have to be some and are none
stored_words : (form : Form) (out : List ℕ) (answer : Answer (List Row)) (words : List ℕ) → accepted words ≡ row_words answer →
    (words ≡ [] → form.single ≡ false) → storing out (entered_by form answer) ≡ record { reply = Done; buffer = sets out 0 (length words ∷ words) }
stored_words form out (accepted []) words e some_words =
    let none_read : words ≡ [] = cc in
    rw (some_words none_read, none_read)
stored_words form out (accepted (row ∷ rows)) words e some_words =
    let all_read : words ≡ word_of row ∷ map word_of rows = cc in
    rw (all_read, length-map rows word_of)
stored_words form out (refused number place) words e some_words = absurd (let z : ◌≡◌ {A = ℕ} 0 1 = cc in omega arith)

no_words : (form : Form) (out : List ℕ) (answer : Answer (List Row)) → accepted [] ≡ row_words answer → form.single ≡ true →
    storing out (entered_by form answer) ≡ refusing 1 0 out
no_words form out (accepted []) e single = rw single
no_words form out (accepted (row ∷ rows)) e single = absurd (let z : [] ≡ word_of row ∷ map word_of rows = cc in nil≢cons z)
no_words form out (refused number place) e single = absurd (let z : ◌≡◌ {A = ℕ} 0 1 = cc in omega arith)

no-rows : (form : Form) (out : List ℕ) (answer : Answer (List Row)) (number place : ℕ) → refused number place ≡ row_words answer →
    storing out (entered_by form answer) ≡ refusing number place out
no-rows form out (accepted rows) number place e = absurd (let z : ◌≡◌ {A = ℕ} 0 1 = cc in omega arith)
no-rows form out (refused n p) number place e =
    let same_number : number ≡ n = cc in
    let same_place : place ≡ p = cc in
    rw (same_number, same_place)

module _ (kind : Kind) (text out : List ℕ) where
  pub read_short : length out < words_of kind → read_listing_in kind text out ≡ refusing 31 0 out
  unfolding read_listing_in
  read_short h = rw (lt-leb (words_of kind) (length out) h)

  module _ (long : words_of kind ≤ length out) {limits : Limits} (given : form_for limits ≡ form_of kind) where
    read_long : read_listing_in kind text out ≡ storing out (entered_by (form_of kind) (rows_by limits text))
    unfolding read_listing_in
    read_long = rw (le-leb (words_of kind) (length out) long, given)

    pub read_refused : {number place : ℕ} → refused number place ≡ row_words (rows_by limits text) →
        read_listing_in kind text out ≡ refusing number place out
    read_refused {number} {place} e = read_long ∙ no-rows (form_of kind) out (rows_by limits text) number place e

    pub read_empty : accepted [] ≡ row_words (rows_by limits text) → (form_of kind).single ≡ true →
        read_listing_in kind text out ≡ refusing 1 0 out
    read_empty e single = read_long ∙ no_words (form_of kind) out (rows_by limits text) e single

    pub read_stored : {words : List ℕ} → accepted words ≡ row_words (rows_by limits text) →
        (words ≡ [] → (form_of kind).single ≡ false) → read_listing_in kind text out ≡ record { reply = Done; buffer = sets out 0 (length words ∷ words) }
    read_stored {words} e some_words = read_long ∙ stored_words (form_of kind) out (rows_by limits text) words e some_words
