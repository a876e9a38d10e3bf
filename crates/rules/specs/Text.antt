-- Document 01, 'Listing': 'one record a line, fields parted by one tab, each line ended by LF; decimals without extra zeros'.
-- A text is the list of its bytes.
use Rattle.std.specs.Prelude.{ℕ, zero, suc, ◌+◌, ◌-◌, ◌*◌, ◌/◌, ◌%◌, Bool, cond, ◌&&◌, List, [], ◌∷◌, ◌++◌, leb, ltb, eqb}
use Prim.Native.Char.{code}
use Prim.Native.String.{String, [] as end, ◌∷◌ as ◌then◌}
use Rattle.std.proofs.Math.Option.{Option, none, some}

-- the bytes of a text that is written out, as "N\t1\n"
abbrev pub bytes : String → List ℕ
bytes end = []
bytes (c then s) = code c ∷ bytes s

-- the byte of a letter that is written out
abbrev pub byte_of : String → ℕ
byte_of end = 0
byte_of (c then s) = code c

abbrev pub LF : ℕ
LF = 10

abbrev pub TAB : ℕ
TAB = 9

-- a byte in front of the first of some parts
abbrev pub onto : ℕ → List (List ℕ) → List (List ℕ)
onto x [] = []
onto x (part ∷ parts) = (x ∷ part) ∷ parts

-- the parts of a run of bytes that each byte b in it parts: one more than there are b
unfoldable pub parted : ℕ → List ℕ → List (List ℕ)
parted b [] = [] ∷ []
parted b (x ∷ xs) = let rest : List (List ℕ) = parted b xs in cond (eqb x b) ([] ∷ rest) (onto x rest)

-- the lines of a text. What follows the last LF stands last: it is empty where each line is ended, and then it is no line
abbrev pub lines_of : List ℕ → List (List ℕ)
lines_of text = parted LF text

-- the fields of a line
abbrev pub fields_of : List ℕ → List (List ℕ)
fields_of line = parted TAB line

abbrev pub is_digit : ℕ → Bool
is_digit byte = leb 48 byte && leb byte 57

-- the number that digits write after the number n before them, where it stays at most `most`
unfoldable pub number_from : ℕ → ℕ → List ℕ → Option ℕ
number_from most n [] = some n
number_from most n (d ∷ ds) =
    let next : ℕ = n * 10 + (d - 48) in
    let rest : Option ℕ = number_from most next ds in
    cond (is_digit d) (cond (leb next most) rest none) none

-- the number that a field writes: one digit or more, no 0 in front of another digit, at most `most`
unfoldable pub decimal_up_to : ℕ → List ℕ → Option ℕ
decimal_up_to most [] = none
decimal_up_to most (d ∷ []) = number_from most 0 (d ∷ [])
decimal_up_to most (d ∷ e ∷ ds) = cond (eqb d 48) none (number_from most 0 (d ∷ e ∷ ds))

-- 'A decimal over 65,535 is 1'
abbrev pub decimal_of : List ℕ → Option ℕ
decimal_of field = decimal_up_to 65535 field

-- the decimal of a number, of at most k + 1 digits: below 10 its digit, otherwise the decimal of its tenth and then its last digit
unfoldable pub decimal_in : ℕ → ℕ → List ℕ
decimal_in zero n = (48 + n) ∷ []
decimal_in (suc k) n =
    let more : List ℕ = decimal_in k (n / 10) in
    cond (ltb n 10) ((48 + n) ∷ []) (more ++ ((48 + n % 10) ∷ []))

-- the decimal of a number. Every number of 64 bits has at most 20 digits
abbrev pub decimal : ℕ → List ℕ
decimal n = decimal_in 19 n
