-- Laws of the fields of a line and of the row that it is read as. No contract cites this file.
use Rattle.std.specs.Prelude.{ℕ, suc, ◌+◌, ◌-◌, ◌*◌, ◌/◌, ◌%◌, ◌^◌, ◌≤◌, ◌<◌, Bool, true, false, cond, not, ◌&&◌, ◌||◌, ◌≢◌, ◌⊎◌, ◌≡◌, eqb, length, get_or, take, drop}
use Rattle.std.proofs.Common.{add-zero, arith, inl, inr, ap, ◌∙◌, eqb-true, ne_eqb, le-leb, length-drop, length-append, drop-cons, get_or-drop, take_all}
use Rattle.std.proofs.Math.Bool.{or-true}
use Rattle.std.proofs.lemmas.Bool.{false≢true, eqb-false}
use mathlib.Core.List.{List, [], ◌∷◌, ◌++◌, append_assoc, head-eq_of_cons-eq, tail-eq_of_cons-eq}
use Rattle.std.proofs.Math.Option.{Option, none, some, none-ne-some, some-injective}
use Rattle.std.proofs.Math.Path.{refl, sym}
use Rattle.std.proofs.Math.Seq.{append_snoc}
use Rattle.rules.specs.Text.{bytes, parted, lines_of, fields_of, decimal_of, decimal, LF, TAB}
use Rattle.rules.proofs.TextLaws.{Free, free_empty, free_more, free_append, free_decimal, parted_free, parted_first, parted_split, parted_some, joined_by, joined_parted, decimal_read, decimal_written}
use Rattle.rules.specs.Facts.{by_test, by_option, cond-some, cond_other}
use Rattle.rules.specs.Tries.{Row, step_of, request_of, is_row, at}
use Rattle.rules.specs.Listing.{is_letter, place_in, letters, mark_of, read, of_form, entry_of, node_of, row_of}
use Rattle.rules.proofs.ListingLaws.{bind_some, place_read}
use Rattle.text.proofs.FieldLaws.{place_within}
use Rattle.text.proofs.Laws.{NumberEnds, LineTo, by_line}
use Rattle.listing_lines.specs.Lines.{ended_at, row_from, row_at, kind_in, node_row, RowFits}

-- ---- what is left of a text from a place on, as the code slices it

abbrev pub left_from : List ℕ → ℕ → List ℕ
left_from text at = take (length text - at) (drop at text)

left_whole : (text : List ℕ) (at : ℕ) → left_from text at ≡ drop at text
left_whole text at = take_all (length text - at) (drop at text) (omega (arith, length-drop at text))

module _ (text : List ℕ) (at : ℕ) {left : List ℕ} (is : left ≡ left_from text at) where
  pub left_length : length left ≡ length text - at
  left_length = ap length (is ∙ left_whole text at) ∙ length-drop at text

  -- its first two bytes are those at the place
  pub left_first : get_or left 0 0 ≡ get_or text at 0
  left_first = rw (is ∙ left_whole text at) (get_or-drop at text 0 0 ∙ rw add-zero)

  pub left_second : get_or left 1 0 ≡ get_or text (at + 1) 0
  left_second = rw (is ∙ left_whole text at) (get_or-drop at text 1 0)

-- ---- the fields of a line, one after the other

-- a first field of one byte has a tab behind it
field_letter : (line : List ℕ) (at byte : ℕ) (next : List ℕ) (more : List (List ℕ)) → fields_of (drop at line) ≡ (byte ∷ []) ∷ next ∷ more →
    (at + 1 < length line) × (get_or line at 0 ≡ byte) × (get_or line (at + 1) 0 ≡ TAB)
field_letter line at byte next more q =
    let split = parted_split TAB (drop at line) (byte ∷ []) next more q in
    let left : drop at line ≡ byte ∷ TAB ∷ split.0 = split.1 in (
      omega (arith, length-drop at line, ap length left),
      sym (get_or-drop at line 0 0 ∙ rw add-zero) ∙ ap (λ (l : List ℕ). get_or l 0 0) left,
      sym (get_or-drop at line 1 0) ∙ ap (λ (l : List ℕ). get_or l 1 0) left,
    )

-- a byte and a tab, and what is left behind them
letter_bytes : (line : List ℕ) (at : ℕ) → at + 1 < length line → get_or line (at + 1) 0 ≡ TAB → drop at line ≡ get_or line at 0 ∷ TAB ∷ drop (at + 2) line
letter_bytes line at inside tab =
    let second : drop (suc at) line ≡ TAB ∷ drop (at + 2) line =
    let next : suc at ≡ at + 1 = omega arith in
    let behind : suc (at + 1) ≡ at + 2 = omega arith in
    ap (λ (n : ℕ). drop n line) next ∙ drop-cons line (at + 1) 0 inside ∙ rw (tab, behind) in
    drop-cons line at 0 (omega arith) ∙ rw second

-- the kind of a byte that has a tab behind it
pub kind_letter : (line : List ℕ) (at : ℕ) {byte : ℕ} → at + 1 < length line → get_or line (at + 1) 0 ≡ TAB → get_or line at 0 ≡ byte →
    kind_in (fields_of (drop at line)) ≡ place_in letters (byte ∷ [])
unfolding parted place_in
kind_letter line at {byte} inside tab first =
    ap (λ (l : List ℕ). kind_in (fields_of l)) (letter_bytes line at inside tab)
    ∙ rw first
    (by_test (eqb byte TAB)
    (λ e. rw (eqb-true byte TAB e))
    (λ e. rw (e, (parted_some TAB (drop (at + 2) line)).2)))

-- what is known of a step's letter that a tab ends
abbrev pub StepEnds : List ℕ → ℕ → ℕ → Type 0
StepEnds text at kind =
    (kind ≤ 5) × (at + 1 < length text) × (get_or text (at + 1) 0 ≡ TAB)
    × (place_in letters (get_or letters kind 0 ∷ []) ≡ some kind)
    × (get_or text at 0 ≡ get_or letters kind 0)

pub step_ends : (text : List ℕ) (at kind : ℕ) → kind_in (fields_of (drop at text)) ≡ some kind → StepEnds text at kind
step_ends text at kind e = go (fields_of (drop at text)) refl e
  where
    go : (fields : List (List ℕ)) → fields_of (drop at text) ≡ fields → kind_in fields ≡ some kind → StepEnds text at kind
    go [] q e = absurd (none-ne-some kind e)
    go (field ∷ []) q e = absurd (none-ne-some kind e)
    go (field ∷ next ∷ more) q e =
        let (among, letter) = place_read letters field kind e in
        let (inside, first, tab) = field_letter text at (get_or letters kind 0) next more (q ∙ ap (λ (f : List ℕ). f ∷ next ∷ more) letter) in
        (omega arith, inside, tab, rw letter at e, first)

-- where no tab is behind it a byte is no step
pub kind_none : (line : List ℕ) (at : ℕ) → (at + 1 < length line → get_or line (at + 1) 0 ≡ TAB → ⊥) → kind_in (fields_of (drop at line)) ≡ none
kind_none line at h =
    by_option (kind_in (fields_of (drop at line))) (λ e. e)
    (λ kind e. let ends = step_ends line at kind e in absurd (h ends.1 ends.2))

-- the same, by what is left of a text as the code slices it
module _ (text : List ℕ) (at : ℕ) (left : List ℕ) where
  pub kind_left : left ≡ left_from text at → 2 ≤ length left → get_or left 1 0 ≡ TAB → kind_in (fields_of (drop at text)) ≡ place_in letters (get_or left 0 0 ∷ [])
  kind_left is two tab =
      kind_letter text at (omega (arith, left_length text at is)) (sym (left_second text at is) ∙ tab) (sym (left_first text at is))

  pub kind_short : left ≡ left_from text at → length left < 2 → kind_in (fields_of (drop at text)) ≡ none
  kind_short is few = kind_none text at λ inside tab. omega (arith, left_length text at is)

  pub kind_untabbed : left ≡ left_from text at → get_or left 1 0 ≢ TAB → kind_in (fields_of (drop at text)) ≡ none
  kind_untabbed is other = kind_none text at λ inside tab. other (left_second text at is ∙ tab)

pub kind_past : (text : List ℕ) (at : ℕ) → length text < at → kind_in (fields_of (drop at text)) ≡ none
kind_past text at past = kind_none text at λ inside tab. omega arith

-- fields that are read as a row begin with A or N, and others follow
lettered : (line : List ℕ) (row : Row) → row_of (fields_of line) ≡ some row →
    (1 < length line) × (get_or line 1 0 ≡ TAB) × ((get_or line 0 0 ≡ 65) ⊎ (get_or line 0 0 ≡ 78))
unfolding row_of
lettered line row e = go (fields_of line) refl e
  where
    one_letter : (letter : ℕ) (word next : List ℕ) (more : List (List ℕ)) → is_letter letter word ≡ true → fields_of line ≡ word ∷ next ∷ more →
        (1 < length line) × (get_or line 1 0 ≡ TAB) × (get_or line 0 0 ≡ letter)
    one_letter letter [] next more is q = absurd (false≢true is)
    one_letter letter (byte ∷ []) next more is q =
        let (inside, first, tab) = field_letter line 0 byte next more q in
        (inside, tab, first ∙ eqb-true byte letter is)
    one_letter letter (byte ∷ other ∷ word) next more is q = absurd (false≢true is)

    go : (fields : List (List ℕ)) → fields_of line ≡ fields → row_of fields ≡ some row →
        (1 < length line) × (get_or line 1 0 ≡ TAB) × ((get_or line 0 0 ≡ 65) ⊎ (get_or line 0 0 ≡ 78))
    go [] q e = absurd (none-ne-some row e)
    go (a ∷ []) q e = absurd (none-ne-some row e)
    go (a ∷ b ∷ []) q e = absurd (none-ne-some row e)
    go (a ∷ b ∷ c ∷ []) q e = absurd (none-ne-some row e)
    go (word ∷ b ∷ c ∷ d ∷ []) q e =
        let (inside, tab, first) = one_letter 65 word b (c ∷ d ∷ []) (cond-some (is_letter 65 word) _ row e).0 q in
        (inside, tab, inl first)
    go (word ∷ b ∷ c ∷ d ∷ f ∷ []) q e =
        let (inside, tab, first) = one_letter 78 word b (c ∷ d ∷ f ∷ []) (cond-some (is_letter 78 word) _ row e).0 q in
        (inside, tab, inr first)
    go (a ∷ b ∷ c ∷ d ∷ f ∷ g ∷ more) q e = absurd (none-ne-some row e)

-- fields make no entry behind A unless they are three that make one, and no node behind N unless they are four that make one
entry_none : (fields : List (List ℕ)) → ((f g h : List ℕ) → fields ≡ f ∷ g ∷ h ∷ [] → entry_of f g h ≡ none) → row_of (bytes "A" ∷ fields) ≡ none
unfolding row_of
entry_none [] bad = refl
entry_none (f ∷ []) bad = refl
entry_none (f ∷ g ∷ []) bad = refl
entry_none (f ∷ g ∷ h ∷ []) bad = bad f g h refl
entry_none (f ∷ g ∷ h ∷ i ∷ []) bad = refl
entry_none (f ∷ g ∷ h ∷ i ∷ j ∷ more) bad = refl

node_none : (fields : List (List ℕ)) → ((f g h i : List ℕ) → fields ≡ f ∷ g ∷ h ∷ i ∷ [] → node_of f g h i ≡ none) → row_of (bytes "N" ∷ fields) ≡ none
unfolding row_of
node_none [] bad = refl
node_none (f ∷ []) bad = refl
node_none (f ∷ g ∷ []) bad = refl
node_none (f ∷ g ∷ h ∷ []) bad = refl
node_none (f ∷ g ∷ h ∷ i ∷ []) bad = bad f g h i refl
node_none (f ∷ g ∷ h ∷ i ∷ j ∷ more) bad = refl

-- of some fields the first that another follows is not read, or the only one is not
abbrev pub NoneFirst : (List ℕ → Option ℕ) → List (List ℕ) → Type 0
NoneFirst reads fields = (f next : List ℕ) (more : List (List ℕ)) → fields ≡ f ∷ next ∷ more → reads f ≡ none

abbrev pub NoneLast : List (List ℕ) → Type 0
NoneLast fields = (f : List ℕ) → fields ≡ f ∷ [] → decimal_of f ≡ none

pub kind_none_first : (fields : List (List ℕ)) → kind_in fields ≡ none → NoneFirst (place_in letters) fields
kind_none_first fields e f next more q = sym (ap kind_in q) ∙ e

-- what is read as a decimal or as a step's letter has no tab
pub decimal_free : (f : List ℕ) (n : ℕ) → decimal_of f ≡ some n → Free TAB f
decimal_free f n e = rw (decimal_written f n e).0 (free_decimal TAB n (omega arith))

-- a byte that is no letter is no step's letter
letter_other : (b kind : ℕ) → place_in letters (b ∷ []) ≡ none → place_in letters (get_or letters kind 0 ∷ []) ≡ some kind → get_or letters kind 0 ≢ b
letter_other b kind bad e same = none-ne-some kind (sym bad ∙ rw (← same) e)

pub letter_free : (f : List ℕ) (kind : ℕ) → place_in letters f ≡ some kind → Free TAB f
unfolding place_in
letter_free f kind e =
    let (among, letter) = place_read letters f kind e in
    rw letter (free_more (letter_other TAB kind refl (rw letter at e)) free_empty)

-- ---- the line that begins at a place of a text, field after field

-- a run without b stands in front of the first part of what follows
parted_front : {b : ℕ} {xs : List ℕ} (ys part : List ℕ) (parts : List (List ℕ)) → Free b xs → parted b ys ≡ part ∷ parts → parted b
    (xs ++ ys) ≡ (xs ++ part) ∷ parts
unfolding parted
parted_front ys part parts free_empty e = e
parted_front {b} ys part parts (free_more {x} h xs) e = rw (ne_eqb x b h, parted_front ys part parts xs e)

module _ (fields : List (List ℕ)) (text : List ℕ) (at end : ℕ) (f : List ℕ) (tabless : Free TAB f) (lineless : Free LF f)
    (place : at + length f ≡ end) where
  -- a field that a tab ends goes to the fields before
  pub row_field : drop at text ≡ f ++ TAB ∷ drop (end + 1) text →
      row_from fields at (lines_of (drop at text)) ≡ row_from (fields ++ (f ∷ [])) (end + 1) (lines_of (drop (end + 1) text))
  row_field split =
      let (line, others, q) = parted_some LF (drop (end + 1) text) in
      let front : lines_of (drop at text) ≡ ((f ++ (TAB ∷ [])) ++ line) ∷ others =
      ap lines_of (split ∙ sym (append_snoc f TAB (drop (end + 1) text)))
      ∙ parted_front (drop (end + 1) text) line others (free_append lineless (free_more (omega arith) free_empty)) q in
      rw (front, q) (go line others)
    where
      go : (line : List ℕ) (others : List (List ℕ)) →
          row_from fields at (((f ++ (TAB ∷ [])) ++ line) ∷ others) ≡ row_from (fields ++ (f ∷ [])) (end + 1) (line ∷ others)
      go line [] = refl
      go line (next ∷ more) =
          let same_end : at + length ((f ++ (TAB ∷ [])) ++ line) ≡ end + 1 + length line =
          omega (arith, length-append (f ++ (TAB ∷ [])) line, length-append f (TAB ∷ [])) in
          let parts : fields_of ((f ++ (TAB ∷ [])) ++ line) ≡ f ∷ fields_of line = ap fields_of (append_snoc f TAB line) ∙ parted_first tabless line in
          rw (same_end, parts, append_snoc fields f (fields_of line))

  -- a field that an LF ends is the last
  pub row_last : drop at text ≡ f ++ LF ∷ drop (end + 1) text → row_from fields at (lines_of (drop at text)) ≡ ended_at end (row_of (fields ++ (f ∷ [])))
  row_last split =
      let (line, others, q) = parted_some LF (drop (end + 1) text) in
      let lines : lines_of (drop at text) ≡ f ∷ line ∷ others = ap lines_of split ∙ parted_first lineless (drop (end + 1) text) ∙ rw q in
      rw (lines, place, parted_free tabless)

-- a decimal, and a step's letter, that a tab ends
module _ (fields : List (List ℕ)) (text : List ℕ) (at : ℕ) where
  pub row_number : {n end : ℕ} → NumberEnds TAB text at n end →
      row_from fields at (lines_of (drop at text)) ≡ row_from (fields ++ (decimal n ∷ [])) (end + 1) (lines_of (drop (end + 1) text))
  row_number {n} {end} ends =
      row_field fields text at end (decimal n) (free_decimal TAB n (omega arith)) (free_decimal LF n (omega arith)) ends.2 ends.3

  pub row_ends : {n end : ℕ} → NumberEnds LF text at n end → row_from fields at (lines_of (drop at text)) ≡ ended_at end
      (row_of (fields ++ (decimal n ∷ [])))
  row_ends {n} {end} ends =
      row_last fields text at end (decimal n) (free_decimal TAB n (omega arith)) (free_decimal LF n (omega arith)) ends.2 ends.3

  pub row_letter : {byte : ℕ} → byte ≢ TAB → byte ≢ LF → at + 1 < length text → get_or text (at + 1) 0 ≡ TAB → get_or text at 0 ≡ byte →
      row_from fields at (lines_of (drop at text)) ≡ row_from (fields ++ ((byte ∷ []) ∷ [])) (at + 2) (lines_of (drop (at + 2) text))
  row_letter {byte} tabless lineless inside tab first =
      let two : at + 1 + 1 ≡ at + 2 = omega arith in
      let split : drop at text ≡ (byte ∷ []) ++ TAB ∷ drop (at + 1 + 1) text = letter_bytes text at inside tab ∙ rw (first, two) in
      rw (← two) (row_field fields text at (at + 1) (byte ∷ []) (free_more tabless free_empty) (free_more lineless free_empty) refl split)

  pub row_step : {kind : ℕ} → StepEnds text at kind →
      row_from fields at (lines_of (drop at text)) ≡ row_from (fields ++ ((get_or letters kind 0 ∷ []) ∷ [])) (at + 2) (lines_of (drop (at + 2) text))
  unfolding place_in
  row_step {kind} (few, inside, tab, place, first) = row_letter (letter_other TAB kind refl place) (letter_other LF kind refl place) inside tab first

  -- no row is read where none is of the fields of the line
  row_none : ((line next : List ℕ) (more : List (List ℕ)) → lines_of (drop at text) ≡ line ∷ next ∷ more → row_of (fields ++ fields_of line) ≡ none) →
      row_from fields at (lines_of (drop at text)) ≡ none
  row_none bad = go (lines_of (drop at text)) bad
    where
      go : (lines : List (List ℕ)) → ((line next : List ℕ) (more : List (List ℕ)) → lines ≡ line ∷ next ∷ more → row_of
          (fields ++ fields_of line) ≡ none) →
          row_from fields at lines ≡ none
      go [] bad = refl
      go (line ∷ []) bad = refl
      go (line ∷ next ∷ more) bad = rw (bad line next more refl)

  -- so it is where a first field is not read in the text
  pub row_unread : (reads : List ℕ → Option ℕ) → ((f : List ℕ) (n : ℕ) → reads f ≡ some n → Free TAB f) → NoneFirst reads (fields_of (drop at text)) →
      ((others : List (List ℕ)) → NoneFirst reads others → row_of (fields ++ others) ≡ none) → row_from fields at (lines_of (drop at text)) ≡ none
  row_unread reads free unread bad =
      row_none λ line next more q.
      bad (fields_of line) λ f g others p.
      by_option (reads f) (λ e. e) λ n e.
      let in-text = parted_split LF (drop at text) line next more q in
      let in-line = parted_split TAB line f g others p in
      let rest = in-line.0 ++ LF ∷ in-text.0 in
      let whole : drop at text ≡ f ++ TAB ∷ rest =
      in-text.1 ∙ ap (λ (l : List ℕ). l ++ LF ∷ in-text.0) in-line.1 ∙ append_assoc f (TAB ∷ in-line.0) (LF ∷ in-text.0) in
      let (second, behind, r) = parted_some TAB rest in
      absurd (none-ne-some n (sym (unread f second behind (ap fields_of whole ∙ parted_first (free f n e) rest ∙ rw r)) ∙ e))

  -- and where no decimal stands before the LF
  pub row_unended : NoneFirst decimal_of (lines_of (drop at text)) →
      ((others : List (List ℕ)) → NoneLast others → row_of (fields ++ others) ≡ none) → row_from fields at (lines_of (drop at text)) ≡ none
  unfolding joined_by
  row_unended unread bad =
      row_none λ line next more q.
      bad (fields_of line) λ f p.
      let same : f ≡ line = sym (ap (joined_by TAB) p) ∙ joined_parted TAB line in
      rw same (unread line next more q)

-- a line that is read begins with A or N and a tab
pub row_begins : (text : List ℕ) (at : ℕ) → (at + 1 < length text → get_or text (at + 1) 0 ≡ TAB → (get_or text at 0 ≡ 65) ⊎ (get_or text at 0 ≡ 78) → ⊥) →
    row_at text at ≡ none
row_begins text at h =
    row_none [] text at λ line next more q.
    by_option (row_of (fields_of line)) (λ e. e) λ row e.
    let (inside, tab, first) = lettered line row e in
    let split = parted_split LF (drop at text) line next more q in
    absurd (begins line split.0 split.1 inside tab first)
  where
    begins : (line rest : List ℕ) → drop at text ≡ line ++ LF ∷ rest → 1 < length line → get_or line 1 0 ≡ TAB → (get_or line 0 0 ≡ 65) ⊎
        (get_or line 0 0 ≡ 78) → ⊥
    begins [] rest split inside tab first = omega arith
    begins (x ∷ []) rest split inside tab first = omega arith
    begins (x ∷ y ∷ line) rest split inside tab first =
        let letter : get_or text at 0 ≡ x = sym (get_or-drop at text 0 0 ∙ rw add-zero) ∙ ap (λ (l : List ℕ). get_or l 0 0) split in
        let second : get_or text (at + 1) 0 ≡ y = sym (get_or-drop at text 1 0) ∙ ap (λ (l : List ℕ). get_or l 1 0) split in
        h (omega (arith, length-drop at text, ap length split)) (second ∙ tab) (rw letter first)

-- behind the fields of an entry that were read, such fields make none
module _ (fields : List (List ℕ)) where
  pub entry_no_principal : NoneFirst decimal_of fields → row_of (bytes "A" ∷ fields) ≡ none
  entry_no_principal bad = entry_none fields λ f g h e. rw (bad f g (h ∷ []) e)

  module _ (p : ℕ) (small-p : p ≤ 65535) where
    pub entry_no_action : NoneFirst decimal_of fields → row_of (bytes "A" ∷ decimal p ∷ fields) ≡ none
    entry_no_action bad =
        entry_none (decimal p ∷ fields) λ f g h e.
        let first : f ≡ decimal p = sym (head-eq_of_cons-eq e) in
        rw (first, decimal_read p small-p, bad g h [] (tail-eq_of_cons-eq e))

    pub entry_no_resource : (a : ℕ) → a ≤ 65535 → NoneLast fields → row_of (bytes "A" ∷ decimal p ∷ decimal a ∷ fields) ≡ none
    entry_no_resource a small-a bad =
        entry_none (decimal p ∷ decimal a ∷ fields) λ f g h e.
        let others : decimal a ∷ fields ≡ g ∷ h ∷ [] = tail-eq_of_cons-eq e in
        let first : f ≡ decimal p = sym (head-eq_of_cons-eq e) in
        let second : g ≡ decimal a = sym (head-eq_of_cons-eq others) in
        rw (first, second, decimal_read p small-p, decimal_read a small-a, bad h (tail-eq_of_cons-eq others))

-- behind the fields of a node that were read, such fields make none
module _ (fields : List (List ℕ)) where
  pub node_no_depth : NoneFirst decimal_of fields → row_of (bytes "N" ∷ fields) ≡ none
  node_no_depth bad = node_none fields λ f g h i e. rw (bad f g (h ∷ i ∷ []) e)

  module _ (d : ℕ) (small-d : d ≤ 65535) where
    pub node_no_kind : NoneFirst (place_in letters) fields → row_of (bytes "N" ∷ decimal d ∷ fields) ≡ none
    node_no_kind bad =
        node_none (decimal d ∷ fields) λ f g h i e.
        let first : f ≡ decimal d = sym (head-eq_of_cons-eq e) in
        rw (first, decimal_read d small-d, bad g h (i ∷ []) (tail-eq_of_cons-eq e))

    module _ (step : List ℕ) (kind : ℕ) (place : place_in letters step ≡ some kind) where
      pub node_no_id : NoneFirst decimal_of fields → row_of (bytes "N" ∷ decimal d ∷ step ∷ fields) ≡ none
      node_no_id bad =
          node_none (decimal d ∷ step ∷ fields) λ f g h i e.
          let others : step ∷ fields ≡ g ∷ h ∷ i ∷ [] = tail-eq_of_cons-eq e in
          let first : f ≡ decimal d = sym (head-eq_of_cons-eq e) in
          let second : g ≡ step = sym (head-eq_of_cons-eq others) in
          rw (first, second, decimal_read d small-d, place, bad h i [] (tail-eq_of_cons-eq others))

      pub node_no_mark : (n : ℕ) → n ≤ 65535 → NoneLast fields → row_of (bytes "N" ∷ decimal d ∷ step ∷ decimal n ∷ fields) ≡ none
      node_no_mark n small_n bad =
          node_none (decimal d ∷ step ∷ decimal n ∷ fields) λ f g h i e.
          let others : step ∷ decimal n ∷ fields ≡ g ∷ h ∷ i ∷ [] = tail-eq_of_cons-eq e in
          let last_two : decimal n ∷ fields ≡ h ∷ i ∷ [] = tail-eq_of_cons-eq others in
          let first : f ≡ decimal d = sym (head-eq_of_cons-eq e) in
          let second : g ≡ step = sym (head-eq_of_cons-eq others) in
          let third : h ≡ decimal n = sym (head-eq_of_cons-eq last_two) in
          rw (first, second, third, decimal_read d small-d, place, decimal_read n small_n, bad i (tail-eq_of_cons-eq last_two))

-- ---- a node's row, by what was tested

-- whether a kind and an id make a step
abbrev stepped : ℕ → ℕ → Bool
stepped kind id = eqb id 0 || (eqb kind 0 || eqb kind 5)

stepped_true : (kind id : ℕ) → (id ≢ 0 → kind ≢ 0 → kind ≢ 5 → ⊥) → stepped kind id ≡ true
stepped_true kind id formed =
    by_test (eqb id 0) (λ e. rw e)
    (λ e. by_test (eqb kind 0) (λ f. rw (f, or-true))
    (λ f. by_test (eqb kind 5) (λ g. rw (g, or-true, or-true)) (λ g. absurd (formed (eqb-false id 0 e) (eqb-false kind 0 f) (eqb-false kind 5 g)))))

module _ (depth kind id mark : ℕ) where
  node_marked : mark ≤ 1 → node_row depth kind id mark ≡ cond (eqb depth 0) none (of_form (read depth (step_of kind id) (eqb mark 1)))
  node_marked h =
      by_test (eqb mark 0)
      (λ e. rw (eqb-true mark 0 e))
      (λ e. let one : mark ≡ 1 = omega (arith, eqb-false mark 0 e) in rw one)

  module _ (few : kind ≤ 5) (small : id ≤ 65535) (deep : depth ≢ 0) (marked : mark ≤ 1) where
    node_formed : node_row depth kind id mark ≡ cond (cond (eqb depth 1) (stepped kind id && not (eqb kind 0)) (stepped kind id) && true) (some (read depth (step_of kind id) (eqb mark 1))) none
    node_formed =
        let k : (kind * 65536 + id) / 65536 ≡ kind = omega arith in
        let i : (kind * 65536 + id) % 65536 ≡ id = omega arith in
        node_marked marked ∙ rw (ne_eqb depth 0 deep, k, i, le-leb kind 5 few)

    -- what passes the tests is of its form
    pub node_good : (depth ≡ 1 → kind ≢ 0) → (id ≢ 0 → kind ≢ 0 → kind ≢ 5 → ⊥) →
        node_row depth kind id mark ≡ some (read depth (step_of kind id) (eqb mark 1))
    node_good rooted formed =
        node_formed
        ∙ rw (stepped_true kind id formed)
        (by_test (eqb depth 1)
        (λ e. rw (e, ne_eqb kind 0 (rooted (eqb-true depth 1 e))))
        (λ e. rw e))

-- a line's row fits its word
entry_fits : (b c d : List ℕ) (row : Row) → entry_of b c d ≡ some row → RowFits row
entry_fits b c d row e =
    bind_some (decimal_of b) _ row e λ p p-read e₁.
    bind_some (decimal_of c) _ row e₁ λ a a_read e₂.
    bind_some (decimal_of d) _ row e₂ λ r r-read e₃.
    let small : request_of p a r < 2 ^ 48 = omega (arith, (decimal_written b p p-read).1, (decimal_written c a a_read).1, (decimal_written d r r-read).1) in
    rw (← some-injective (read 0 (request_of p a r) false) row e₃) (small, λ z. refl)

node_fits : (b c d f : List ℕ) (row : Row) → node_of b c d f ≡ some row → RowFits row
node_fits b c d f row e =
    bind_some (decimal_of b) _ row e λ n n-read e₁.
    bind_some (place_in letters c) _ row e₁ λ kind kind-read e₂.
    bind_some (decimal_of d) _ row e₂ λ id id-read e₃.
    bind_some (mark_of f) _ row e₃ λ m m-read e₄.
    let small : step_of kind id < 2 ^ 19 = omega (arith, place_within letters c kind kind-read, (decimal_written d id id-read).1) in
    let (deep, e₅) = cond_other (eqb n 0) _ row e₄ in
    let (_, e₆) = cond-some (is_row (read n (step_of kind id) m)) _ row e₅ in
    rw (← some-injective (read n (step_of kind id) m) row e₆, deep) (small, λ z. absurd (eqb-false n 0 deep z))

pub row_fits : (fields : List (List ℕ)) (row : Row) → row_of fields ≡ some row → RowFits row
unfolding row_of
row_fits [] row e = absurd (none-ne-some row e)
row_fits (a ∷ []) row e = absurd (none-ne-some row e)
row_fits (a ∷ b ∷ []) row e = absurd (none-ne-some row e)
row_fits (a ∷ b ∷ c ∷ []) row e = absurd (none-ne-some row e)
row_fits (a ∷ b ∷ c ∷ d ∷ []) row e = entry_fits b c d row (cond-some (is_letter 65 a) (entry_of b c d) row e).1
row_fits (a ∷ b ∷ c ∷ d ∷ f ∷ []) row e = node_fits b c d f row (cond-some (is_letter 78 a) (node_of b c d f) row e).1
row_fits (a ∷ b ∷ c ∷ d ∷ f ∷ g ∷ more) row e = absurd (none-ne-some row e)

-- ---- the lines of a text

-- what is read of a line that an LF ends
pub line_read : {text : List ℕ} {at end : ℕ} {line : List ℕ} → LineTo text at end line → row_at text at ≡ ended_at end (row_of (fields_of line))
line_read {text} {at} {end} {line} to = rw (to.first, (parted_some LF (drop (end + 1) text)).2, to.ends)

-- a line that is read as a row has the row's fields, and an LF ends it
pub row-line : (text : List ℕ) (at : ℕ) (row : Row) (end : ℕ) → row_at text at ≡ some (row, end) →
    (line : List ℕ) × LineTo text at end line × (row_of (fields_of line) ≡ some row)
row-line text at row end e =
    by_line text at
    (λ alone. absurd (none-ne-some (row, end) (sym (rw alone) ∙ e)))
    (λ last line to.
    by_option (row_of (fields_of line))
    (λ bad. absurd (none-ne-some (row, end) (sym (line_read to ∙ rw bad) ∙ e)))
    (λ found good.
    let same : (found, last) ≡ (row, end) = some-injective _ _ (sym (line_read to ∙ rw good) ∙ e) in
    let place : last ≡ end = ap (λ (w : Row × ℕ). w.1) same in
    (line, rw place at to, good ∙ ap (λ (w : Row × ℕ). some w.0) same)))
