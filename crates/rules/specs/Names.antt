-- docs/FORMS.md, 'Name table': the names of entity types, entities and fields, read line after line.
use Rattle.std.specs.Prelude.{ℕ, ◌+◌, ◌-◌, Bool, true, false, cond, not, ◌&&◌, List, [], ◌∷◌, ◌++◌, leb, ltb, eqb, length, take, drop}
use Rattle.std.proofs.Math.Option.{Option, none, some}
use Rattle.rules.specs.Numbers.{Answer, accepted, and_then}
use Rattle.rules.specs.Text.{bytes, fields_of, decimal_of}
use Rattle.rules.specs.Lines.{fold_text}
use Rattle.rules.specs.Tries.{step_of, kind_of, same_list}
use Rattle.rules.specs.Listing.{◌>>=◌, place_in}
use Rattle.rules.specs.ValueTexts.{or_one}

-- What a line says: a kind and an id as one number, its key, as a step's are (Tries), and where the name stands in the text. The kinds `t`, `e`
-- and `f` are 0, 1 and 2, so that 'ascending by kind in that order and id' is the order of keys.
pub record Named : Type 0 where
  pub key : ℕ
  pub from : ℕ
  pub size : ℕ

abbrev pub named : ℕ → ℕ → ℕ → Named
named key from size = record { key = key; from = from; size = size }

abbrev pub name_kinds : List ℕ
name_kinds = bytes "tef"

abbrev pub name_in : List ℕ → Named → List ℕ
name_in text n = take n.size (drop n.from text)

-- 'a name is printable ASCII (bytes 32 to 126), at least one byte, without quote (34) and backslash (92)'
abbrev pub is_name_byte : ℕ → Bool
is_name_byte byte = leb 32 byte && (leb byte 126 && (not (eqb byte 34) && not (eqb byte 92)))

unfoldable pub all_name_bytes : List ℕ → Bool
all_name_bytes [] = true
all_name_bytes (byte ∷ name) = let rest : Bool = all_name_bytes name in cond (is_name_byte byte) rest false

abbrev pub is_name : List ℕ → Bool
is_name name = ltb 0 (length name) && all_name_bytes name

-- kind, id and name: the key
abbrev pub key_from : List ℕ → List ℕ → List ℕ → Option ℕ
key_from kind id name = do
  k ← place_in name_kinds kind
  i ← decimal_of id
  cond (is_name name) (some (step_of k i)) none

-- what a line says, by its fields; it ends at a place of the text, and its name right there
unfoldable pub named_of : ℕ → List (List ℕ) → Option Named
named_of end [] = none
named_of end (a ∷ []) = none
named_of end (a ∷ b ∷ []) = none
named_of end (kind ∷ id ∷ name ∷ []) = key_from kind id name >>= (λ key. some (named key (end - length name) (length name)))
named_of end (a ∷ b ∷ c ∷ d ∷ more) = none

-- 'each name once within its kind': whether a line is of a kind and has a name, as long and of the same bytes, and whether one of some lines is
abbrev pub same_name : List ℕ → ℕ → List ℕ → Named → Bool
same_name text kind name n = eqb (kind_of n.key) kind && (eqb n.size (length name) && same_list (name_in text n) name)

unfoldable pub is_taken : List ℕ → ℕ → List ℕ → List Named → Bool
is_taken text kind name [] = false
is_taken text kind name (n ∷ ns) = let rest : Bool = is_taken text kind name ns in cond (same_name text kind name n) true rest

-- Where a table has come to: the place of the text where the next line begins, the least key that it may have, and the lines so far.
pub record Naming : Type 0 where
  pub at : ℕ
  pub least : ℕ
  pub names : List Named

abbrev pub naming : ℕ → ℕ → List Named → Naming
naming at least names = record { at = at; least = least; names = names }

-- 'ascending strictly by kind and id; each name once within its kind'
abbrev pub may_name : List ℕ → Naming → Named → Bool
may_name text sofar n = leb sofar.least n.key && not (is_taken text (kind_of n.key) (name_in text n) sofar.names)

-- a line behind others
abbrev pub name_taken : List ℕ → Naming → List ℕ → Option Naming
name_taken text sofar line = do
  n ← named_of (sofar.at + length line) (fields_of line)
  cond (may_name text sofar n) (some (naming (sofar.at + length line + 1) (n.key + 1) (sofar.names ++ (n ∷ [])))) none

-- 'anything else is 1 at its line'
abbrev pub name_line : List ℕ → ℕ → List ℕ → Naming → Answer Naming
name_line text place line sofar = or_one place (name_taken text sofar line)

-- a name table read: its lines, or 1 and the line
abbrev pub read_names : List ℕ → Answer (List Named)
read_names text = and_then (fold_text (name_line text) text (naming 0 0 [])) (λ all. accepted all.state.names)
