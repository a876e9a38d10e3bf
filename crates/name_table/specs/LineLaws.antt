-- Laws of the fields of a name table's line. No contract cites this file.
use Rattle.std.specs.Prelude.{ℕ, ◌+◌, ◌-◌, List, [], ◌∷◌, ◌≡◌, take, drop}
use Rattle.std.proofs.Math.Nat.{sub-zero}
use Rattle.std.proofs.Common.{arith}
use Rattle.std.proofs.Math.Option.{some, none}
use Rattle.std.proofs.Math.Path.{sym}
use Rattle.std.proofs.Math.ListN.{length, length-drop}
use Rattle.std.proofs.Math.Seq.{length-take-le}
use Rattle.rules.specs.Text.{fields_of}
use Rattle.text.proofs.FieldLaws.{Ends}
use Rattle.rules.specs.Names.{key_from, named_of}
use Rattle.name_table.specs.Lines.{NameParsed}
use Rattle.name_table.specs.NameLaws.{key_parts}

-- A line of three fields, by where the first two end.
module _ (line : List ℕ) (k i : ℕ) (first : Ends line 0 k) (second : Ends line (k + 1) i)
    (last : fields_of (drop (i + 1) line) ≡ take (length line - (i + 1)) (drop (i + 1) line) ∷ []) where
  abbrev kind : List ℕ
  kind = take k line

  abbrev id : List ℕ
  id = take (i - (k + 1)) (drop (k + 1) line)

  abbrev name : List ℕ
  name = take (length line - (i + 1)) (drop (i + 1) line)

  three_fields : fields_of line ≡ kind ∷ id ∷ name ∷ []
  three_fields = rw (first.2, sub-zero, second.2, last)

  -- no key, or a name that begins behind the second tab
  pub not_named : none ≡ key_from kind id name → (end : ℕ) → named_of end (fields_of line) ≡ none
  unfolding named_of
  not_named e end = rw (three_fields, sym e)

  pub name_parsed : {key : ℕ} → some key ≡ key_from kind id name → NameParsed line key (i + 1)
  unfolding named_of
  name_parsed {key} e =
      let parts = key_parts kind id name (sym e) in
      let kind_size : length kind ≡ k = length-take-le k line (omega (arith, first)) in
      let id_size : length id ≡ i - (k + 1) = length-take-le _ _ (omega (arith, length-drop (k + 1) line, second)) in
      let name_size : length name ≡ length line - (i + 1) = length-take-le _ _ (omega (arith, length-drop (i + 1) line)) in
      record {
        small = parts.small;
        long = omega (arith, parts.letter, parts.digits, parts.letters, first, second);
        inside = omega (arith, parts.letters);
        said =
            λ at.
            let begins : at + length line - (length line - (i + 1)) ≡ at + (i + 1) = omega (arith, second) in
            rw (three_fields, sym e, name_size, begins);
      }
