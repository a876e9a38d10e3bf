-- Laws of reading a name table from line to line, and of what reading and finding answer. No contract cites this file.
use Rattle.std.specs.Prelude.{ℕ, suc, ◌+◌, ◌-◌, ◌*◌, ◌/◌, ◌≤◌, ◌<◌, true, false, List, [], ◌∷◌, ◌++◌, map, ◌≡◌, refl, length, take, drop, set, eqb, ltb}
use Rattle.std.proofs.Common.{arith, ap, ◌∙◌, length-drop, length-set, length-take-le}
use Rattle.std.proofs.lemmas.List.{map-append}
use Rattle.std.proofs.Math.Option.{Option, some, none}
use Rattle.std.proofs.Math.Path.{sym}
use borrow.Author.Tests.{le-leb, lt-leb, lt-ltb, le-ltb}
use Rattle.std.proofs.Math.ListN.{get_or, length-map}
use Rattle.std.proofs.lemmas.List.Edits.{sets}
use Rattle.rules.specs.Facts.{by_test}
use Rattle.rules.specs.Numbers.{Answer, accepted, refused, and_then}
use Rattle.rules.specs.Text.{lines_of, fields_of}
use Rattle.rules.specs.Lines.{Folded, fold_lines}
use Rattle.text.specs.Answers.{line_at}
use Rattle.text.specs.declared.Line.{Line}
use Rattle.text.specs.declared.Line.TheVariants.{Whole}
use Rattle.text.proofs.Laws.{whole_line, cut_line}
use Rattle.text.proofs.FoldLaws.{CameTo, came_start, came_end, came_cut, came_refused, came_next}
use Rattle.words.specs.Keys.{key_in, later, searched}
use Rattle.words.specs.Runs.{refusing, stored, words_in}
use Rattle.words.specs.RunLaws.{stored_next}
use Rattle.words.specs.Replies.{Done, Refused}
use Rattle.std.specs.Result.{result_ok}
use Rattle.std.specs.Prelude.{Result, Ok, Err, Some, None}
use Rattle.rules.specs.Names.{Named, named, Naming, naming, named_of, is_taken, name_taken, name_line, read_names}
use Rattle.name_table.specs.Words.{name_word, named_in}
use Rattle.name_table.specs.Lines.{NameParsed}
use Rattle.name_table.specs.Outcomes.{took_naming, names_got, read_names_in, place_of, place_at, name_found}
use Rattle.name_table.specs.NameLaws.{word_packed, words_packed}

-- ---- a line, from a place of the text to its LF

module _ (text : List ℕ) (at end least : ℕ) (names : List Named) (behind : at ≤ end) (inside : end ≤ length text) where
  abbrev line : List ℕ
  line = take (end - at) (drop at text)

  pub line_size : length line ≡ end - at
  line_size = length-take-le (end - at) (drop at text) (omega (arith, length-drop at text))

  -- it is not of the form
  pub not_formed : ((place : ℕ) → named_of place (fields_of line) ≡ none) → none ≡ name_taken text (naming at least names) line
  not_formed h = sym (rw (h (at + length line)))

  module _ {key start : ℕ} (parsed : NameParsed line key start) where
    pub starts_inside : at + start < end
    starts_inside = omega (arith, parsed.inside, line_size)

    pub some_name : 0 < length (take (end - (at + start)) (drop (at + start) text))
    some_name = omega (arith, starts_inside, length-take-le (end - (at + start)) (drop (at + start) text) (omega (arith, length-drop (at + start) text)))

    abbrev read : Named
    read = named key (at + start) (end - (at + start))

    said : named_of (at + length line) (fields_of line) ≡ some read
    said =
        let size : length line - start ≡ end - (at + start) = omega (arith, line_size, starts_inside) in
        parsed.said at ∙ rw size

    -- its key is too low, or its name is taken
    pub too_low : key < least → none ≡ name_taken text (naming at least names) line
    too_low h = sym (rw (said, lt-leb least key h))

    module _ (high : least ≤ key) where
      pub name_again : is_taken text (key / 65536) (take (end - (at + start)) (drop (at + start) text)) names ≡ true → none ≡ name_taken text (naming at least names) line
      name_again e = sym (rw (said, le-leb least key high, e))

      -- or it is taken
      pub name_new : length text ≤ 65536 → is_taken text (key / 65536) (take (end - (at + start)) (drop (at + start) text)) names ≡ false →
          took_naming end names (Some (name_word read)) ≡ name_taken text (naming at least names) line
      name_new short e =
          let packed : named_in (name_word read) ≡ read = word_packed read (omega (arith, starts_inside)) (omega arith) in
          let ends : at + length line ≡ end = omega (arith, line_size) in
          ap (λ (n : Named). some (naming (end + 1) (n.key + 1) (names ++ (n ∷ [])))) packed ∙ sym (rw (said, le-leb least key high, e, ends))

-- ---- reading from line to line

-- the lines that were passed came to the names whose words are stored
pub record NamesReading (text words : List ℕ) (least count at : ℕ) : Type 0 where
  pub words_length : length words ≡ 10923
  pub room : 6 * count ≤ at
  pub came : CameTo (name_line text) (naming 0 0 []) text at count (naming at least (map named_in (stored count words)))

pub reading_none : (text words : List ℕ) → length words ≡ 10923 → NamesReading text words 0 0 0
reading_none text words w = record { words_length = w; room = omega arith; came = came_start (name_line text) (naming 0 0 []) text }

module _ {text words : List ℕ} {least count at : ℕ} (reading : NamesReading text words least count at) where
  -- what the text gives, by what its lines come to
  given : {answer : Answer (Folded Naming)} → fold_lines (name_line text) 0 (lines_of (drop 0 text)) (naming 0 0 []) ≡ answer →
      read_names text ≡ and_then answer (λ all. accepted all.state.names)
  given e = rw e

  -- no line is left
  pub reading_all : length text ≤ at → names_got (Ok count) words ≡ read_names text
  reading_all h = sym (given (came_end reading.came h))

  -- the next line has no LF
  pub reading_cut : {r : Line} → r ≡ line_at text at → ((end : ℕ) → r ≡ Whole end → ⊥) → at < length text → names_got (Refused 1 count) words ≡ read_names text
  reading_cut {r} ensured unended more = sym (given (came_cut reading.came more (cut_line text at r ensured unended)))

  module _ {end : ℕ} {r : Line} (ensured : r ≡ line_at text at) (e : r ≡ Whole end) where
    abbrev next : Option Naming
    next = name_taken text (naming at least (map named_in (stored count words))) (take (end - at) (drop at text))

    -- the next line is not taken, or it is
    pub reading_stopped : none ≡ next → names_got (Refused 1 count) words ≡ read_names text
    reading_stopped not_taken = sym (given (came_refused reading.came (whole_line text at end r ensured e) (rw (sym not_taken))))

    pub reading_next : (word : ℕ) → length text ≤ 65536 → at + 5 ≤ end → took_naming end (map named_in (stored count words)) (Some word) ≡ next →
        NamesReading text (set words (count + 1) word) ((named_in word).key + 1) (count + 1) (end + 1)
    reading_next word short long taken =
        let to = whole_line text at end r ensured e in
        let more : map named_in (stored (count + 1) (set words (count + 1) word)) ≡ map named_in (stored count words) ++ (named_in word ∷ []) =
        ap (map named_in) (stored_next words count word (omega (arith, reading.words_length, reading.room, to.within)))
        ∙ map-append named_in (stored count words) (word ∷ []) in
        record {
          words_length = rw length-set reading.words_length;
          room = omega (arith, reading.room);
          came = rw more (came_next reading.came to (rw (sym taken)));
        }

-- ---- what reading answers, by what was tested

module _ (text out : List ℕ) where
  pub names_short : length out < 10923 → read_names_in text out ≡ refusing 31 0 out
  unfolding read_names_in
  names_short h = rw (lt-leb 10923 (length out) h)

  module _ (long : 10923 ≤ length out) where
    pub names_long : 65536 < length text → read_names_in text out ≡ refusing 15 0 out
    unfolding read_names_in
    names_long h = rw (le-leb 10923 (length out) long, lt-leb (length text) 65536 h)

    module _ (few : length text ≤ 65536) where
      pub names_refused : {number place : ℕ} → refused number place ≡ read_names text → read_names_in text out ≡ refusing number place out
      unfolding read_names_in
      names_refused e = rw (le-leb 10923 (length out) long, le-leb (length text) 65536 few, sym e)

      pub names_stored : (words : List ℕ) → accepted (map named_in words) ≡ read_names text →
          read_names_in text out ≡ record { reply = Done; buffer = sets out 0 (length words ∷ words) }
      unfolding read_names_in
      names_stored words e =
          rw (le-leb 10923 (length out) long, le-leb (length text) 65536 few, sym e, length-map words named_in, words_packed words)

-- ---- what finding answers

-- a key that is found stands among the words
found_inside : (words : List ℕ) (key i : ℕ) → searched words key ≡ Ok i → i < length words
unfolding searched
found_inside [] key i e = absurd (let z : ◌≡◌ {A = ℕ} 0 1 = cc in omega arith)
found_inside (w ∷ words) key i e =
    by_test (eqb (key_in w) key)
    (λ same. let here : Ok 0 ≡ Ok i = rw same at e in let first : 0 ≡ i = cc in omega arith)
    (λ other.
    by_test (ltb key (key_in w))
    (λ past. absurd (let gone : Err 0 ≡ Ok i = rw (other, past) at e in let z : ◌≡◌ {A = ℕ} 0 1 = cc in omega arith))
    (λ low. go (searched words key) (λ j q. found_inside words key j q) (rw (other, low) at e)))
  where
    go : (r : Result ℕ ℕ) → ((j : ℕ) → r ≡ Ok j → j < length words) → later r ≡ Ok i → i < length (w ∷ words)
    go (Ok j) inside e = let next : suc j ≡ i = cc in omega (arith, inside j refl)
    go (Err j) inside e = absurd (let z : ◌≡◌ {A = ℕ} 0 1 = cc in omega arith)

module _ (text names : List ℕ) (key : ℕ) where
  pub no_words : length names ≤ get_or names 0 0 → None ≡ name_found text names key
  unfolding name_found
  no_words h = sym (rw (le-ltb (get_or names 0 0) (length names) h))

  -- words that a count in front of them has room for
  module _ {words : List ℕ} (inside : get_or names 0 0 < length names) (counted : words ≡ words_in names) where
    pub no_key : result_ok (searched words key) ≡ None → None ≡ name_found text names key
    unfolding name_found
    no_key e = sym (rw (lt-ltb (get_or names 0 0) (length names) inside) (go (searched (words_in names) key) (rw counted at e)))
      where
        go : (r : Result ℕ ℕ) → result_ok r ≡ None → place_at text (words_in names) r ≡ None
        go (Ok i) e = absurd (let z : ◌≡◌ {A = ℕ} 0 1 = cc in omega arith)
        go (Err i) e = refl

    module _ (i : ℕ) (was : result_ok (searched words key) ≡ Some i) where
      at_key : searched words key ≡ Ok i
      at_key = go (searched words key) was
        where
          go : (r : Result ℕ ℕ) → result_ok r ≡ Some i → r ≡ Ok i
          go (Ok j) same = let here : j ≡ i = cc in ap {B = Result ℕ ℕ} Ok here
          go (Err j) same = absurd (let z : ◌≡◌ {A = ℕ} 0 1 = cc in omega arith)

      pub place_inside : i < length words
      place_inside = found_inside words key i at_key

      abbrev found : Named
      found = named_in (get_or words i 0)

      by_place : name_found text names key ≡ place_of text found
      unfolding name_found
      by_place = rw (lt-ltb (get_or names 0 0) (length names) inside, ← counted, at_key)

      pub no_place : length text < found.from + found.size → None ≡ name_found text names key
      no_place h = sym (by_place ∙ rw (lt-leb (found.from + found.size) (length text) h))

      pub at_place : found.from + found.size ≤ length text → Some (found.from, found.from + found.size) ≡ name_found text names key
      at_place h = sym (by_place ∙ rw (le-leb (found.from + found.size) (length text) h))
