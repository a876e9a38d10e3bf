-- Laws of a text that is read line after line (Lines): the next line, the last, what each line keeps, and that listings and schemas are
-- read so.
use Rattle.std.specs.Prelude.{ℕ, ◌+◌, ◌≡◌, Bool, cond, ◌≢◌, eqb, length}
use Rattle.std.proofs.Math.Path.{refl}
use Rattle.std.proofs.Common.{sym, ◌∙◌, ne_eqb}
use Rattle.std.proofs.Math.Bool.{true, false}
use mathlib.Core.List.{List, [], ◌∷◌, ◌++◌, append-nil}
use Rattle.std.proofs.Math.Seq.{append_snoc}
use Rattle.rules.specs.Numbers.{Answer, accepted, refused, and_then}
use Rattle.rules.specs.Facts.{by_test, by_option, accepted_same, then_accepted}
use Rattle.rules.specs.Text.{parted, lines_of, fields_of, LF}
use Rattle.rules.proofs.TextLaws.{parted_some}
use Rattle.rules.specs.Lines.{Folded, folded, fold_lines}
use Rattle.rules.specs.Tries.{Row, Form}
use Rattle.rules.specs.Walks.{Walked}
use Rattle.rules.proofs.WalkLaws.{walked_to, turn_past}
use Rattle.rules.specs.Listing.{Sofar, row_of, past, refusal, row_in_front, rows_from}
use Rattle.rules.proofs.ListingLaws.{refused_not}
use Rattle.rules.specs.Schema.{Item, Known, item_of, fits, beyond, ahead, items_from}
pub use Rattle.rules.specs.LineLaws.{gathering, gathered, behind, row_after, row_line, turn_after, turn_line, item_after, item_line}

-- ---- the next line

module _ {S : Type 0} (step : ℕ → List ℕ → S → Answer S) (place : ℕ) (s : S) where
  -- no line is left
  pub fold_end : fold_lines step place (lines_of []) s ≡ accepted (folded place s)
  unfolding fold_lines parted
  fold_end = refl

  -- what is left has no LF
  pub fold_cut : (line : List ℕ) → length line ≢ 0 → fold_lines step place (line ∷ []) s ≡ refused 1 place
  unfolding fold_lines
  fold_cut line some_byte = rw (ne_eqb (length line) 0 some_byte)

  module _ (line rest : List ℕ) where
    -- a line comes row_in_front those of the rest of a text
    pub fold_line :
        fold_lines step place (line ∷ lines_of rest) s
        ≡ and_then (step place line s) (λ after. fold_lines step (place + 1) (lines_of rest) after)
    unfolding fold_lines
    fold_line = rw (parted_some LF rest).2

    -- the others go on from what it makes of the state
    pub fold_next : {after : S} → step place line s ≡ accepted after →
        fold_lines step place (line ∷ lines_of rest) s ≡ fold_lines step (place + 1) (lines_of rest) after
    fold_next e = fold_line ∙ rw e

    -- its refusal is that of the text
    pub fold_refused : {number at : ℕ} → step place line s ≡ refused number at → fold_lines step place (line ∷ lines_of rest) s ≡ refused number at
    fold_refused e = fold_line ∙ rw e

-- ---- what each line keeps

-- a property that each line keeps is kept by all of them
module _
    {S : Type 0}
    (step : ℕ → List ℕ → S → Answer S)
    (P : S → Type 0)
    (kept : (place : ℕ) (line : List ℕ) (s after : S) → P s → step place line s ≡ accepted after → P after) where
  pub fold_kept : (lines : List (List ℕ)) (place : ℕ) (s : S) {all : Folded S} → P s → fold_lines step place lines s ≡ accepted all → P all.state
  unfolding fold_lines
  fold_kept [] place s {all} p e = rw (sym (accepted_same (folded place s) all e)) p
  fold_kept (line ∷ []) place s {all} p e =
      by_test (eqb (length line) 0)
      (λ empty. rw (sym (accepted_same (folded place s) all (rw empty at e))) p)
      (λ some_byte. refused_not 1 place all (rw some_byte at e))
  fold_kept (line ∷ next ∷ lines) place s p e =
      let (after, stepped, rest) = then_accepted (step place line s) (λ after. fold_lines step (place + 1) (next ∷ lines) after) e in
      fold_kept (next ∷ lines) (place + 1) after (kept place line s after p stepped) rest

-- ---- a state that is held otherwise

-- a fold goes alike over states that stand for others, where each line does
module _
    {S T : Type 0}
    (step : ℕ → List ℕ → S → Answer S)
    (other : ℕ → List ℕ → T → Answer T)
    (held : S → T)
    (alike : (place : ℕ) (line : List ℕ) (s : S) → other place line (held s) ≡ and_then (step place line s) (λ after. accepted (held after))) where
  pub fold_alike :
      (lines : List (List ℕ)) (place : ℕ) (s : S)
      → fold_lines other place lines (held s) ≡ and_then (fold_lines step place lines s) (λ all. accepted (folded all.lines (held all.state)))
  unfolding fold_lines
  fold_alike [] place s = refl
  fold_alike (line ∷ []) place s = by_test (eqb (length line) 0) (λ empty. rw empty) (λ some_byte. rw some_byte)
  fold_alike (line ∷ next ∷ lines) place s = rw alike (go (step place line s) (λ after. fold_alike (next ∷ lines) (place + 1) after))
    where
      go : (answer : Answer S) →
          ((after : S) →
          fold_lines other (place + 1) (next ∷ lines) (held after)
          ≡ and_then (fold_lines step (place + 1) (next ∷ lines) after) (λ all. accepted (folded all.lines (held all.state)))) →
          and_then (and_then answer (λ after. accepted (held after))) (λ after. fold_lines other (place + 1) (next ∷ lines) after)
          ≡ and_then (and_then answer (λ after. fold_lines step (place + 1) (next ∷ lines) after)) (λ all. accepted (folded all.lines (held all.state)))
      go (accepted after) rest = rest after
      go (refused number at) rest = refl

-- ---- lines that each give something

behind_none : {A : Type 0} (answer : Answer (List A)) → behind [] answer ≡ answer
behind_none (accepted more) = refl
behind_none (refused number place) = refl

behind_one : {A : Type 0} (things : List A) (a : A) (answer : Answer (List A)) →
    behind things (behind (a ∷ []) answer) ≡ behind (things ++ (a ∷ [])) answer
behind_one things a (accepted more) = rw (append_snoc things a more)
behind_one things a (refused number place) = refl

-- Reading by clauses as listings and schemas are read, where each line's thing stands in front of those of the lines behind it, is the
-- fold that gathers them.
module _
    {S A : Type 0}
    (look : ℕ → List ℕ → S → Answer (A × S))
    (from : S → ℕ → List (List ℕ) → Answer (List A))
    (no_line : (s : S) (place : ℕ) → from s place [] ≡ accepted [])
    (last_Line : (s : S) (place : ℕ) (line : List ℕ) → from s place (line ∷ []) ≡ cond (eqb (length line) 0) (accepted []) (refused 1 place))
    (more-lines :
    (s : S) (place : ℕ) (line next : List ℕ) (lines : List (List ℕ))
    → from s place (line ∷ next ∷ lines)
    ≡ and_then (look place line s) (λ got. behind (got.0 ∷ []) (from got.1 (place + 1) (next ∷ lines)))) where
  behind_gathered :
      (lines : List (List ℕ)) (s : S) (place : ℕ) (things : List A)
      → behind things (from s place lines) ≡ gathered (fold_lines (gathering look) place lines (s, things))
  unfolding fold_lines
  behind_gathered [] s place things = rw (no_line, append-nil)
  behind_gathered (line ∷ []) s place things = rw last_Line (go (eqb (length line) 0))
    where
      go : (empty : Bool) →
          behind things (cond empty (accepted []) (refused 1 place))
          ≡ gathered (cond empty (accepted (folded place (s, things))) (refused 1 place))
      go true = rw append-nil
      go false = refl
  behind_gathered (line ∷ next ∷ lines) s place things =
      rw more-lines (go (look place line s) (λ after more. behind_gathered (next ∷ lines) after (place + 1) more))
    where
      go : (answer : Answer (A × S)) →
          ((after : S) (more : List A) →
          behind more (from after (place + 1) (next ∷ lines))
          ≡ gathered (fold_lines (gathering look) (place + 1) (next ∷ lines) (after, more))) →
          behind things (and_then answer (λ got. behind (got.0 ∷ []) (from got.1 (place + 1) (next ∷ lines))))
          ≡ gathered
          (and_then (and_then answer (λ got. accepted (got.1, things ++ (got.0 ∷ []))))
          (λ after. fold_lines (gathering look) (place + 1) (next ∷ lines) after))
      go (accepted got) rest = behind_one things got.0 (from got.1 (place + 1) (next ∷ lines)) ∙ rest got.1 (things ++ (got.0 ∷ []))
      go (refused number at) rest = refl

  pub gathered_from : (lines : List (List ℕ)) (s : S) (place : ℕ) → from s place lines ≡ gathered (fold_lines (gathering look) place lines (s, []))
  gathered_from lines s place = sym (behind_none (from s place lines)) ∙ behind_gathered lines s place []

-- ---- a listing

-- a listing is read line after line
pub rows_folded :
    (form : Form) (sofar : Sofar) (place : ℕ) (lines : List (List ℕ))
    → rows_from form sofar place lines ≡ gathered (fold_lines (gathering (row_line form)) place lines (sofar, []))
unfolding rows_from
rows_folded form sofar place lines =
    gathered_from (row_line form) (rows_from form) (λ s p. refl) (λ s p line. refl) more_rows lines sofar place
  where
    in-front : (row : Row) (answer : Answer (List Row)) → row_in_front row answer ≡ behind (row ∷ []) answer
    in-front row (accepted rows) = refl
    in-front row (refused number at) = refl

    more_rows :
        (s : Sofar) (p : ℕ) (line next : List ℕ) (lines : List (List ℕ))
        → rows_from form s p (line ∷ next ∷ lines)
        ≡ and_then (row_line form p line s) (λ got. behind (got.0 ∷ []) (rows_from form got.1 (p + 1) (next ∷ lines)))
    more_rows s p line next lines =
        by_option (row_of (fields_of line))
        (λ e. rw (rows_from, e))
        (λ row e.
        by_option (refusal form s row)
        (λ none-given. rw (rows_from, e, none-given) (in-front row (rows_from form (past s row) (p + 1) (next ∷ lines))))
        (λ number given. rw (rows_from, e, given)))

-- each line's row is a turn of a walk
pub rows_walked :
    (form : Form) (sofar : Sofar) (place : ℕ) (lines : List (List ℕ))
    → rows_from form sofar place lines ≡ gathered (fold_lines (gathering (turn_line form)) place lines (walked_to sofar, []))
rows_walked form sofar place lines =
    rows_folded form sofar place lines
    ∙ sym
    (rw (fold_alike (gathering (row_line form)) (gathering (turn_line form)) as_walked alike lines place (sofar, []))
    (told (fold_lines (gathering (row_line form)) place lines (sofar, []))))
  where
    as_walked : Sofar × List Row → Walked ℕ (ℕ × ℕ) × List Row
    as_walked (sofar, rows) = (walked_to sofar, rows)

    told : (answer : Answer (Folded (Sofar × List Row))) →
        gathered (and_then answer (λ all. accepted (folded all.lines (as_walked all.state)))) ≡ gathered answer
    told (accepted all) = refl
    told (refused number at) = refl

    alike : (p : ℕ) (line : List ℕ) (s : Sofar × List Row) →
        gathering (turn_line form) p line (as_walked s) ≡ and_then (gathering (row_line form) p line s) (λ after. accepted (as_walked after))
    alike p line (s, rows) =
        by_option (row_of (fields_of line))
        (λ bad. rw bad)
        (λ row e.
        by_option (refusal form s row)
        (λ unrefused. rw (e, turn_past form p row [] s, unrefused))
        (λ number given. rw (e, turn_past form p row [] s, given)))

-- ---- a schema

-- so is a schema
pub items_folded :
    (known : Known) (place : ℕ) (lines : List (List ℕ))
    → items_from known place lines ≡ gathered (fold_lines (gathering item_line) place lines (known, []))
unfolding items_from
items_folded known place lines =
    gathered_from item_line items_from (λ k p. refl) (λ k p line. refl) more_items lines known place
  where
    in-front : (it : Item) (answer : Answer (List Item)) → ahead it answer ≡ behind (it ∷ []) answer
    in-front it (accepted items) = refl
    in-front it (refused number at) = refl

    more_items :
        (k : Known) (p : ℕ) (line next : List ℕ) (lines : List (List ℕ))
        → items_from k p (line ∷ next ∷ lines)
        ≡ and_then (item_line p line k) (λ got. behind (got.0 ∷ []) (items_from got.1 (p + 1) (next ∷ lines)))
    more_items k p line next lines =
        by_option (item_of (fields_of line))
        (λ e. rw (items_from, e))
        (λ it e.
        by_test (fits k it)
        (λ fit. rw (items_from, e, fit) (in-front it (items_from (beyond k it) (p + 1) (next ∷ lines))))
        (λ unfit. rw (items_from, e, unfit)))
