-- Laws of the fields of a line, by the answers that find them, and of letters. No contract cites this file.
use Prim.Native.Nat.{ℕ, ◌+◌, ◌-◌, ◌≤◌, ◌<◌}
use native.Mathlib.Nat.{sub-zero, add-sub_cancel_left}
use native.Mathlib.Omega.{arith}
use mathlib.Core.List.{List, [], ◌∷◌}
use mathlib.Core.Bool.{true, false, true≢false, false≢true}
use Rattle.std.specs.Option.{is_some}
use mathlib.Core.Option.{Option, none, some}
use mathlib.Core.Path.{◌≡◌, refl, sym, ap, ◌∙◌}
use lib.ListN.{length, get_or, take, drop, length-drop}
use lib.Seq.{take_all}
use lib.Dec.{eqb}
use Rattle.std.specs.List.{position, position_from}
use Rattle.std.proofs.lemmas.Iterator.Adapters.{position_from-zero}
use Rattle.rules.specs.Facts.{by_test, compared}
use Rattle.rules.specs.Text.{fields_of, TAB}
use Rattle.rules.specs.Listing.{◌>>=◌, place_in}
use Rattle.rules.proofs.ListingLaws.{place_read}
use Rattle.text.specs.Answers.{field_at, first_field, number_of}
use Rattle.text.specs.Before.{before as earlier}
use Rattle.std.specs.Prelude.{Option as Maybe, Some, None}
use Rattle.text.proofs.Laws.{more_within, parted_next, parted_whole, parted_cut, letter_none}

-- ---- fields

-- a field that a tab ends stands in front of the fields behind the tab
fields_more : (line : List ℕ) (at end : ℕ) (r : Maybe ℕ) → r ≡ field_at line at → r ≡ Some end →
    fields_of (drop at line) ≡ take (end - at) (drop at line) ∷ fields_of (drop (end + 1) line)
fields_more line at end r ensured e = go (fields_of (drop at line)) refl (sym ensured ∙ e)
  where
    go : (fields : List (List ℕ)) → fields_of (drop at line) ≡ fields → first_field at fields ≡ Some end →
        fields_of (drop at line) ≡ take (end - at) (drop at line) ∷ fields_of (drop (end + 1) line)
    go [] q e = absurd (let z : ◌≡◌ {A = ℕ} 0 1 = cc in omega arith)
    go (field ∷ []) q e = absurd (let z : ◌≡◌ {A = ℕ} 0 1 = cc in omega arith)
    go (field ∷ next ∷ fields) q e =
        let place : at + length field ≡ end = cc in
        parted_next TAB at line field next fields q ∙ rw (← place, add-sub_cancel_left)

-- what is known of a field that a tab ends: where it ends, and the fields from it on
abbrev pub Ends : List ℕ → ℕ → ℕ → Type 0
Ends line at end =
    (at ≤ end) × (end < length line) × (fields_of (drop at line) ≡ take (end - at) (drop at line) ∷ fields_of (drop (end + 1) line))

pub field_ends : (line : List ℕ) (at end : ℕ) (r : Maybe ℕ) → r ≡ field_at line at → r ≡ Some end → Ends line at end
field_ends line at end r ensured e =
    let (behind, within) = more_within line at end r ensured e in
    (behind, within, fields_more line at end r ensured e)

-- a last field is all that is left
pub fields_last : (line : List ℕ) (at : ℕ) (r : Maybe ℕ) → r ≡ field_at line at → r ≡ None →
    fields_of (drop at line) ≡ take (length line - at) (drop at line) ∷ []
fields_last line at r ensured e =
    compared (at + length (earlier TAB (drop at line))) (length line)
    (λ h.
    let (next, others, p) = parted_cut TAB at line h in
    let other : None ≡ Some (at + length (earlier TAB (drop at line))) = sym e ∙ ensured ∙ ap (first_field at) p in
    absurd (let z : ◌≡◌ {A = ℕ} 0 1 = cc in omega arith))
    (λ h. parted_whole TAB at line h ∙ rw (take_all (length line - at) (drop at line) (omega (arith, length-drop at line))))

-- a line whose first field is the last is that field
pub fields_whole : (line : List ℕ) (r : Maybe ℕ) → r ≡ field_at line 0 → r ≡ None → fields_of line ≡ line ∷ []
fields_whole line r ensured e = fields_last line 0 r ensured e ∙ rw (sub-zero, take_all (length line) line (omega arith))

-- a line's field ends at a tab or not
pub no_field : (r : Maybe ℕ) → is_some r ≡ false → r ≡ None
no_field None e = refl
no_field (Some end) e = absurd (true≢false e)

pub some_field : (r : Maybe ℕ) → is_some r ≡ true → (end : ℕ) × (r ≡ Some end)
some_field None e = absurd (false≢true e)
some_field (Some end) e = (end, refl)

-- ---- letters

-- a field of no byte, or of more, is at no place among letters
pub place_none : (xs field : List ℕ) → (length field ≡ 1 → ⊥) → place_in xs field ≡ none
unfolding place_in
place_none [] field h = refl
place_none (x ∷ xs) field h = rw (letter_none x field h, place_none xs field h)

-- a field of one byte is that byte
one_byte : (field : List ℕ) → length field ≡ 1 → field ≡ get_or field 0 0 ∷ []
one_byte [] h = absurd (omega arith)
one_byte (byte ∷ []) h = refl
one_byte (byte ∷ more ∷ field) h = absurd (omega arith)

-- so its place among letters is that byte's
pub place_one : (xs field : List ℕ) {byte : ℕ} → length field ≡ 1 → get_or field 0 0 ≡ byte → place_in xs field ≡ place_in xs (byte ∷ [])
place_one xs field h e = ap (place_in xs) (one_byte field h) ∙ rw e

-- which is that of the first letter that is the byte, counted from a number on
counted_on : (r : Option ℕ) (i : ℕ) → (r >>= (λ n. some (n + (i + 1)))) ≡ ((r >>= (λ n. some (n + 1))) >>= (λ n. some (n + i)))
counted_on none i = refl
counted_on (some n) i = ap {B = Option ℕ} some (omega arith)

place_from : (xs : List ℕ) (byte i : ℕ) → number_of (position_from (λ x. eqb byte x) i xs) ≡ (place_in xs (byte ∷ []) >>= (λ n. some (n + i)))
unfolding place_in
place_from [] byte i = refl
place_from (x ∷ xs) byte i =
    by_test (eqb byte x) (λ e. rw e (ap {B = Option ℕ} some (omega arith))) (λ e. rw e (place_from xs byte (i + 1) ∙ counted_on (place_in xs (byte ∷ [])) i))

pub place_first : (xs : List ℕ) (byte : ℕ) → number_of (position (λ x. eqb byte x) xs) ≡ place_in xs (byte ∷ [])
place_first xs byte =
    ap number_of (position_from-zero (λ x. eqb byte x) xs) ∙ place_from xs byte 0 ∙ counted_none (place_in xs (byte ∷ []))
  where
    counted_none : (r : Option ℕ) → (r >>= (λ n. some (n + 0))) ≡ r
    counted_none none = refl
    counted_none (some n) = ap {B = Option ℕ} some (omega arith)

-- a place among letters is one of theirs
pub place_within : (xs field : List ℕ) (n : ℕ) → place_in xs field ≡ some n → n < length xs
place_within xs field n e = (place_read xs field n e).0
