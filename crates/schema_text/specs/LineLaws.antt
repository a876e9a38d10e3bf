-- Laws of the fields of a schema's lines. No contract cites this file.
use Rattle.std.specs.Prelude.{ℕ, ◌+◌, ◌≤◌, ◌<◌, true, List, [], ◌∷◌, ◌≢◌, ◌≡◌, refl, length, drop, false, Option as Maybe, Some, None}
use Rattle.std.proofs.Common.{add-one, arith, sym, ap, ◌∙◌, ne_eqb, le-leb, drop-cons, length-drop, take_all}
use Rattle.std.proofs.Math.Option.{none, some, some-injective}
use Rattle.rules.specs.Facts.{by_option}
use Rattle.rules.specs.Text.{decimal_of, fields_of, TAB}
use Rattle.rules.proofs.TextLaws.{decimal_written, parted_some}
use Rattle.rules.specs.Listing.{is_letter}
use Rattle.rules.proofs.ListingLaws.{bind_some}
use Rattle.text.proofs.NameLaws.{ascending_first}
use Rattle.rules.specs.Schema.{ascending, names_of, value_of, type_of, item_of}
use Rattle.schema_text.specs.Fields.{named_by, fields_after_kind, KindEnds}
use Rattle.std.specs.Option.{unwrap_or, is_some}
use Rattle.std.proofs.lemmas.Bool.{false≢true}
use Rattle.std.proofs.Math.Nat.{sub-zero}
use Rattle.text.specs.Answers.{field_at}
use Rattle.text.proofs.FieldLaws.{field_ends, fields_whole}

-- ---- the names of an entity type

-- one name
named_one : (field : List ℕ) → named_by (field ∷ []) ≡ decimal_of field
unfolding ascending
named_one field = by_option (decimal_of field) (λ e. rw e) (λ n e. rw (e, le-leb 0 n (omega arith)))

-- names, by the first and whether it is the only one
module _ (fields : List (List ℕ)) {name : ℕ} {others : List ℕ} (e : ascending 0 fields ≡ some (name ∷ others)) where
  pub named_more : 0 < length others → named_by fields ≡ some (name + 65536)
  named_more h = rw e (go others h)
    where
      go : (others : List ℕ) → 0 < length others → names_of (name ∷ others) ≡ some (name + 65536)
      go [] h = absurd (omega arith)
      go (next ∷ others) h = refl

-- they give a small number
pub named_most : (field : List ℕ) (fields : List (List ℕ)) (v : ℕ) → named_by (field ∷ fields) ≡ some v → v < 131072
named_most field fields v e =
    bind_some (ascending 0 (field ∷ fields)) names_of v e λ ns read e.
    let (n, others, value, same) = ascending_first 0 field fields read in
    let most = (decimal_written field n value).1 in
    omega (arith, go n others (sym (ap names_of same) ∙ e))
  where
    go : (n : ℕ) (others : List ℕ) → names_of (n ∷ others) ≡ some v → v ≤ n + 65536
    go n [] e = omega (arith, some-injective n v e)
    go n (next ∷ others) e = omega (arith, some-injective (n + 65536) v e)

-- ---- what follows a kind

-- nothing behind it, or more from a place of the line on
pub behind_none : (behind : List ℕ) → length behind ≡ 0 → fields_after_kind behind ≡ []
behind_none [] none_left = refl
behind_none (tab ∷ more) none_left = absurd (omega arith)

pub behind_tab : (line : List ℕ) (at : ℕ) → at < length line → fields_after_kind (drop at line) ≡ fields_of (drop (at + 1) line)
behind_tab line at h = rw (drop-cons line at 0 h, add-one)

-- where the kind ends
pub kind_ends : (rest : List ℕ) (r : Maybe ℕ) → r ≡ field_at rest 0 → KindEnds rest (unwrap_or r (length rest))
kind_ends rest None e = (
  omega arith,
  fields_whole rest None e refl
      ∙ rw (take_all (length rest) rest (omega arith), behind_none (drop (length rest) rest) (omega (arith, length-drop (length rest) rest))),
)
kind_ends rest (Some end) e =
    let ends = field_ends rest 0 end (Some end) e refl in
    (omega (arith, ends.1), ends.2 ∙ rw (sub-zero, behind_tab rest end ends.1))

-- an entity type has its names
pub value_names : (kind : ℕ) (field : List ℕ) (fields : List (List ℕ)) → kind ≡ 9 → value_of kind (field ∷ fields) ≡ named_by (field ∷ fields)
value_names kind field [] e = rw e (sym (named_one field))
value_names kind field (next ∷ fields) e = rw e

pub more_names : (kind : ℕ) (more : List ℕ) → kind ≡ 9 → value_of kind (fields_of more) ≡ named_by (fields_of more)
more_names kind more e = let (field, fields, some-field) = parted_some TAB more in rw some-field (value_names kind field fields e)

-- a set has one element type
pub value_one : (kind : ℕ) (field : List ℕ) → kind ≡ 6 → value_of kind (field ∷ []) ≡ decimal_of field
value_one kind field e = rw e

pub more_one : (kind : ℕ) (more : List ℕ) (r : Maybe ℕ) → r ≡ field_at more 0 → is_some r ≡ false → kind ≡ 6 → value_of kind (fields_of more) ≡ decimal_of more
more_one kind more None e alone k = rw (fields_whole more None e refl) (value_one kind more k)
more_one kind more (Some end) e alone k = absurd (false≢true (sym alone))

pub value_more : (kind : ℕ) (field next : List ℕ) (fields : List (List ℕ)) → kind ≢ 9 → value_of kind (field ∷ next ∷ fields) ≡ none
value_more kind field next fields h = rw (ne_eqb kind 9 h)

pub more_others : (kind : ℕ) (more : List ℕ) (r : Maybe ℕ) → r ≡ field_at more 0 → is_some r ≡ true → kind ≢ 9 → value_of kind (fields_of more) ≡ none
more_others kind more None e others k = absurd (false≢true others)
more_others kind more (Some end) e others k =
    let (next, fields, rest) = parted_some TAB (drop (end + 1) more) in
    rw ((field_ends more 0 end (Some end) e refl).2, rest) (value_more kind _ next fields k)

-- any other kind has nothing more
pub value_none : (kind : ℕ) (field : List ℕ) (fields : List (List ℕ)) → kind ≢ 9 → kind ≢ 6 → value_of kind (field ∷ fields) ≡ none
value_none kind field [] h k = rw (ne_eqb kind 6 k, ne_eqb kind 9 h)
value_none kind field (next ∷ fields) h k = rw (ne_eqb kind 9 h)

pub more_none : (kind : ℕ) (more : List ℕ) → kind ≢ 9 → kind ≢ 6 → value_of kind (fields_of more) ≡ none
more_none kind more h k = let (field, fields, some-field) = parted_some TAB more in rw some-field (value_none kind field fields h k)

-- ---- a type's line

pub type_line :
    (word number kind : List ℕ) (more : List (List ℕ))
    → is_letter 84 word ≡ true
    → item_of (word ∷ number ∷ kind ∷ more) ≡ type_of number kind more
unfolding item_of
type_line word number kind [] t = rw t
type_line word number kind (next ∷ more) t = rw t
