-- Laws of reading the lines of a value. No contract cites this file.
use Rattle.std.specs.Prelude.{ℕ, ◌+◌, ◌-◌, ◌≤◌, ◌<◌, Bool, true, false, cond, List, [], ◌∷◌, ◌++◌, map, ◌≡◌, refl, length, take, drop, set, Some, None}
use Rattle.std.proofs.Common.{add-zero, add_assoc, arith, sym, ap, ◌∙◌, lt-ltb, le-ltb, le-leb, length-set, length-drop, length-take-le}
use Rattle.std.proofs.lemmas.List.{map-append}
use Rattle.std.proofs.Math.Option.{Option, none, some}
use Rattle.std.proofs.lemmas.Bool.{lt-leb}
use Rattle.std.proofs.Math.ListN.{length-map}
use Rattle.std.proofs.lemmas.List.Edits.{sets}
use Rattle.rules.specs.Facts.{then_accepted, accepted_same}
use Rattle.rules.specs.Numbers.{Answer, accepted, refused, and_then}
use Rattle.rules.specs.Lines.{Folded, fold_lines}
use Rattle.rules.proofs.LineLaws.{fold_kept}
use Rattle.rules.specs.Listing.{◌>>=◌}
use Rattle.rules.specs.Text.{lines_of, fields_of}
use Rattle.rules.specs.ValueRows.{ValueRow}
use Rattle.rules.specs.ValueTexts.{ValueRead, value_row_of, field_level, no_rows, row_taken, has_room, or_one, value_line, in_order, value_from_lines}
use Rattle.rules.proofs.ValueTextLaws.{may_pass, Came, came_none, came_line}
use Rattle.text.specs.Answers.{line_at}
use Rattle.text.proofs.Laws.{whole_line, cut_line}
use Rattle.text.proofs.FoldLaws.{CameFrom, came_here, came_end, came_cut, came_refused, came_next}
use Rattle.text.specs.declared.Line.{Line}
use Rattle.text.specs.declared.Line.TheVariants.{Whole}
use Rattle.words.specs.Runs.{stored, refusing}
use Rattle.words.specs.RunLaws.{stored_next}
use Rattle.words.specs.Replies.{Done}
use Rattle.values.specs.ValueWords.{value_row_in, value_rows_of, value_word}
use Rattle.values.specs.ValueWordLaws.{word_again}
use Rattle.values.specs.Lawful.{levels_in}
use Rattle.value_text.specs.Rows.{ValueLinePassed, RefusedRow, Misplaced}
use Rattle.value_text.specs.Reads.{rows_given}
use Rattle.value_text.specs.Outcomes.{storing_rows, read_value_in}

-- ---- a line

-- a line whose row may not come is 1, and so is one too many
line_refused : (place : ℕ) (sofar : ValueRead) (o : Option ValueRow) → RefusedRow sofar.levels o →
    or_one place (o >>= (λ x. cond (has_room sofar) (row_taken sofar x) none)) ≡ refused 1 place
line_refused place sofar none stopped = refl
line_refused place sofar (some x) stopped = go (has_room sofar)
  where
    go : (room : Bool) → or_one place (cond room (row_taken sofar x) none) ≡ refused 1 place
    go true = rw stopped
    go false = refl

line_full : (place : ℕ) (sofar : ValueRead) (o : Option ValueRow) → has_room sofar ≡ false →
    or_one place (o >>= (λ x. cond (has_room sofar) (row_taken sofar x) none)) ≡ refused 1 place
line_full place sofar none full = refl
line_full place sofar (some x) full = rw full

-- ---- reading from line to line

-- where reading has come to, by the levels and the words
abbrev pub value_at : List ℕ → List ℕ → ℕ → ℕ → ValueRead
value_at words levels count len = record { levels = levels_in (take len levels); rows = value_rows_of (stored count words) }

-- the lines that were passed came to the rows whose words are stored
pub record ReadingRows (text : List ℕ) (from place : ℕ) (words levels : List ℕ) (len count at : ℕ) : Type 0 where
  pub words_length : length words ≡ 8193
  pub levels_length : length levels ≡ 8194
  pub most : count ≤ 8192
  pub few : len ≤ count + 1
  pub came : CameFrom value_line from place no_rows text at (place + count) (value_at words levels count len)

pub rows_none : (text : List ℕ) (from place : ℕ) (words levels : List ℕ) → from ≤ length text → place ≤ from → length words ≡ 8193 → length levels ≡ 8194 →
    ReadingRows text from place words (set levels 0 0) 1 0 from
rows_none text from place words [] inside few w l = absurd (omega arith)
rows_none text from place words (x ∷ levels) inside few w l = record {
  words_length = w;
  levels_length = l;
  most = omega arith;
  few = omega arith;
  came = rw add-zero (came_here value_line from place no_rows text inside few);
}

module _ {text : List ℕ} {from place : ℕ} {words levels : List ℕ} {len count at : ℕ}
    (reading : ReadingRows text from place words levels len count at) where
  -- what the text gives, by what its lines come to
  given : {answer : Answer (Folded ValueRead)} → fold_lines value_line place (lines_of (drop from text)) no_rows ≡ answer →
      and_then answer (λ all. accepted all.state.rows) ≡ rows_given place (lines_of (drop from text))
  given e = rw e

  -- no line is left
  pub rows_all : length text ≤ at → accepted (value_rows_of (stored count words)) ≡ rows_given place (lines_of (drop from text))
  rows_all h = given (came_end reading.came h)

  -- the next line has no LF
  pub rows_cut : {r : Line} → r ≡ line_at text at → ((end : ℕ) → r ≡ Whole end → ⊥) → at < length text →
      refused 1 (place + count) ≡ rows_given place (lines_of (drop from text))
  rows_cut {r} ensured unended more = given (came_cut reading.came more (cut_line text at r ensured unended))

  rows_counted : length (value_rows_of (stored count words)) ≡ count
  rows_counted =
      length-map (stored count words) value_row_in
      ∙ length-take-le count (drop 1 words) (omega (arith, length-drop 1 words, reading.words_length, reading.most))

  module _ {end : ℕ} {r : Line} (ensured : r ≡ line_at text at) (e : r ≡ Whole end) where
    -- the next line is refused, or one too many
    pub rows_stopped : RefusedRow (levels_in (take len levels)) (value_row_of (fields_of (take (end - at) (drop at text)))) →
        refused 1 (place + count) ≡ rows_given place (lines_of (drop from text))
    rows_stopped stopped =
        given
        (came_refused reading.came (whole_line text at end r ensured e)
        (line_refused (place + count) (value_at words levels count len) (value_row_of (fields_of (take (end - at) (drop at text)))) stopped))

    pub rows_full : count ≡ 8192 → refused 1 (place + count) ≡ rows_given place (lines_of (drop from text))
    rows_full full =
        given
        (came_refused reading.came (whole_line text at end r ensured e)
        (line_full (place + count) (value_at words levels count len) (value_row_of (fields_of (take (end - at) (drop at text))))
        (le-ltb (length (value_rows_of (stored count words))) 8192 (omega (arith, rows_counted)))))

    -- the next line is taken
    pub rows_next : {words' levels' : List ℕ} {len' : ℕ} → (count ≡ 8192 → ⊥) → length levels' ≡ length levels →
        ValueLinePassed (take (end - at) (drop at text)) words (count + 1) words' (take len levels) levels' len' →
        ReadingRows text from place words' levels' len' (count + 1) (end + 1)
    rows_next {words'} {levels'} {len'} more kept passed =
        let most : count < 8192 = omega (arith, reading.most) in
        let opens : length (take len levels) ≡ len = length-take-le len levels (omega (arith, reading.few, reading.levels_length)) in
        let rows : value_rows_of (stored (count + 1) words') ≡ value_rows_of (stored count words) ++ (value_row_in passed.word ∷ []) =
        rw (passed.written, stored_next words count passed.word (omega (arith, reading.words_length)))
        (map-append value_row_in (stored count words) (passed.word ∷ [])) in
        record {
          words_length = rw (passed.written, length-set) reading.words_length;
          levels_length = kept ∙ reading.levels_length;
          most = omega arith;
          few = omega (arith, passed.few, reading.few);
          came =
              rw (rows, passed.after, ← add_assoc)
              (came_next reading.came (whole_line text at end r ensured e)
              (rw (passed.read, lt-ltb (length (value_rows_of (stored count words))) 8192 (omega (arith, rows_counted)), passed.may)));
        }

-- ---- the order of elements, once every line has passed

module _ (place : ℕ) (lines : List (List ℕ)) where
  -- a line was refused
  pub order_refused : {number at : ℕ} → refused number at ≡ rows_given place lines → refused number at ≡ value_from_lines place lines
  order_refused {number} {at} e = go (fold_lines value_line place lines no_rows) refl e
    where
      go : (answer : Answer (Folded ValueRead)) → fold_lines value_line place lines no_rows ≡ answer →
          refused number at ≡ and_then answer (λ all. accepted all.state.rows) → refused number at ≡ value_from_lines place lines
      go (accepted all) q e = absurd (let z : ◌≡◌ {A = ℕ} 0 1 = cc in omega arith)
      go (refused n p) q e = e ∙ rw q

  -- every line has passed
  module _ (words : List ℕ) (e : accepted (value_rows_of words) ≡ rows_given place lines) where
    passed_rows : (may_pass field_level (value_rows_of words) ≡ true) × (value_from_lines place lines ≡ in_order place (value_rows_of words))
    passed_rows =
        let (all, read, given) = then_accepted (fold_lines value_line place lines no_rows) _ (sym e) in
        let same : all.state.rows ≡ value_rows_of words = accepted_same _ _ given in
        let (passes, levels) = fold_kept value_line Came came_line lines place no_rows came_none read in
        (rw same at passes, rw read (ap (in_order place) same))

    pub order_passes : may_pass field_level (value_rows_of words) ≡ true
    order_passes = passed_rows.0

    -- the first element out of order, or none
    pub order_broken : {n : ℕ} → Misplaced words (Some n) → refused 1 (place + n) ≡ value_from_lines place lines
    order_broken found = sym (passed_rows.1 ∙ rw (found.least place))

    pub order_kept : Misplaced words None → accepted (value_rows_of words) ≡ value_from_lines place lines
    order_kept found = sym (passed_rows.1 ∙ rw (found.least place))

-- ---- what reading answers, by what was tested

words_again : (words : List ℕ) → map value_word (value_rows_of words) ≡ words
words_again [] = refl
words_again (w ∷ words) = rw (word_again w, words_again words)

module _ (place : ℕ) (text out : List ℕ) where
  pub value_short : length out < 8193 → read_value_in place text out ≡ refusing 31 0 out
  unfolding read_value_in
  value_short h = rw (lt-leb 8193 (length out) h)

  module _ (long : 8193 ≤ length out) where
    pub value_refused : {number at : ℕ} → refused number at ≡ value_from_lines place (lines_of text) → read_value_in place text out ≡ refusing number at out
    unfolding read_value_in
    value_refused e = rw (le-leb 8193 (length out) long) (ap (storing_rows out) (sym e))

    pub value_stored : (words : List ℕ) → accepted (value_rows_of words) ≡ value_from_lines place (lines_of text) →
        read_value_in place text out ≡ record { reply = Done; buffer = sets out 0 (length words ∷ words) }
    unfolding read_value_in
    value_stored words e =
        rw (le-leb 8193 (length out) long)
        (ap (storing_rows out) (sym e) ∙ rw (words_again words, length-map words value_row_in))
