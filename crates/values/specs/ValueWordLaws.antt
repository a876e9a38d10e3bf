-- Laws of the words of values. No contract cites this file.
use Rattle.std.specs.Prelude.{ℕ, ◌+◌, ◌*◌, ◌/◌, ◌%◌, ◌^◌, ◌≤◌, ◌<◌, ◌≡◌, true, false, eqb}
use Rattle.std.proofs.Common.{div-add-mod', mod-lt, mul-le-mul_right, suc-mul, arith, ap, ◌∙◌, lt-ltb, le-ltb, le-leb}
use Rattle.std.proofs.lemmas.Bool.{lt-leb}
use Rattle.rules.specs.Facts.{compared}
use Rattle.rules.specs.Tries.{Next, first, second, same, ids}
use Rattle.rules.specs.ValueRows.{ValueRow, value_row}
use Rattle.rules.specs.ValueRowTests.{is_value_row, by_number, by_row}
use Rattle.rules.specs.Loading.{EntityRequest}
use Rattle.values.specs.ValueWords.{depth_from, key_from, kind_from, number_from, value_row_in, value_word, unkeyed_word, row_asked, request_word}

-- a word packs one row, and is that row's word
pub word_again : (w : ℕ) → value_word (value_row_in w) ≡ w
word_again w = omega arith

-- What the test of a row asks, since a word's key and number are ids: by its kind, nothing, number 0, or it is no row.
pub plain_row : (w : ℕ) → kind_from w < 3 → is_value_row (value_row_in w) ≡ true
plain_row w h =
    rw (le-leb (kind_from w) 4 (omega arith), lt-ltb (key_from w) 65536 (omega arith), lt-ltb (kind_from w) 3 h)
    (lt-ltb (number_from w) 65536 (omega arith))

pub open_row : (w : ℕ) → 3 ≤ kind_from w → kind_from w ≤ 4 → is_value_row (value_row_in w) ≡ eqb (number_from w) 0
open_row w h k = rw (le-leb (kind_from w) 4 k, lt-ltb (key_from w) 65536 (omega arith), le-ltb (kind_from w) 3 h)

pub no_row : (w : ℕ) → 4 < kind_from w → is_value_row (value_row_in w) ≡ false
no_row w h = rw (lt-leb (kind_from w) 4 h)

-- The order of rows is the order of their words.

less_by_digit : (v w base : ℕ) → 0 < base → v / base < w / base → v < w
less_by_digit v w base some h =
    omega (arith, div-add-mod' v base, div-add-mod' w base, mod-lt v some, mul-le-mul_right base h, suc-mul (v / base) base)

-- two numbers compare as what they are without their low digits, and then as those digits
by_digit : (v w base : ℕ) (otherwise : Next) → 0 < base →
    by_number (v / base) (w / base) (by_number (v % base) (w % base) otherwise) ≡ by_number v w otherwise
by_digit v w base otherwise some =
    compared (v / base) (w / base)
    (λ h. rw (lt-ltb (v / base) (w / base) h, lt-ltb v w (less_by_digit v w base some h)))
    (λ h.
    compared (w / base) (v / base)
    (λ k.
    let after : w < v = less_by_digit w v base some k in
    rw (le-ltb (v / base) (w / base) h, lt-ltb (w / base) (v / base) k, le-ltb v w (omega arith), lt-ltb w v after))
    (λ k. rw (le-ltb (v / base) (w / base) h, le-ltb (w / base) (v / base) k) (by_low (omega arith))))
  where
    -- where they differ in those digits alone
    by_low : v / base ≡ w / base → by_number (v % base) (w % base) otherwise ≡ by_number v w otherwise
    by_low e =
        let v_parts : w / base * base + v % base ≡ v = rw e at (div-add-mod' v base) in
        let w-parts = div-add-mod' w base in
        compared (v % base) (w % base)
        (λ h. rw (lt-ltb (v % base) (w % base) h, lt-ltb v w (omega arith)))
        (λ h.
        compared (w % base) (v % base)
        (λ k. rw (le-ltb (v % base) (w % base) h, lt-ltb (w % base) (v % base) k, le-ltb v w (omega arith), lt-ltb w v (omega arith)))
        (λ k. rw (le-ltb (v % base) (w % base) h, le-ltb (w % base) (v % base) k, le-ltb v w (omega arith), le-ltb w v (omega arith))))

row_word : (v w : ℕ) → by_row (value_row_in v) (value_row_in w) ≡ by_number v w same
row_word v w =
    let deep : (n : ℕ) → n / 2 ^ 35 ≡ n / 2 ^ 19 / 2 ^ 16 = λ n. omega arith in
    let keyed : (n : ℕ) → n / 2 ^ 19 ≡ n / 2 ^ 16 / 2 ^ 3 = λ n. omega arith in
    let kinds : Next = by_number (kind_from v) (kind_from w) (by_number (number_from v) (number_from w) same) in
    let numbers : Next = by_number (number_from v) (number_from w) same in
    rw (
      deep v,
      deep w,
      by_digit (v / 2 ^ 19) (w / 2 ^ 19) (2 ^ 16) kinds (omega arith),
      keyed v,
      keyed w,
      by_digit (v / 2 ^ 16) (w / 2 ^ 16) (2 ^ 3) numbers (omega arith),
      by_digit v w (2 ^ 16) same (omega arith),
    )

pub row_first : (v w : ℕ) → v < w → by_row (value_row_in v) (value_row_in w) ≡ first
row_first v w h = rw (row_word v w, lt-ltb v w h)

pub row_second : (v w : ℕ) → w < v → by_row (value_row_in v) (value_row_in w) ≡ second
row_second v w h = rw (row_word v w, lt-ltb w v h, le-ltb v w (omega arith))

pub row_same : (v w : ℕ) → v ≤ w → w ≤ v → by_row (value_row_in v) (value_row_in w) ≡ same
row_same v w h k = rw (row_word v w, le-ltb v w k, le-ltb w v h)

-- the row of a word, its key aside
abbrev pub unkeyed_row : ℕ → ValueRow
unkeyed_row w = value_row (depth_from w) 0 (kind_from w) (number_from w)

unkeyed-row : (w : ℕ) → unkeyed_row w ≡ value_row_in (unkeyed_word w)
unkeyed-row w =
    let depth : depth_from (unkeyed_word w) ≡ depth_from w = omega arith in
    let key : key_from (unkeyed_word w) ≡ 0 = omega arith in
    let kind : kind_from (unkeyed_word w) ≡ kind_from w = omega arith in
    let number : number_from (unkeyed_word w) ≡ number_from w = omega arith in
    rw (depth, key, kind, number)

-- rows compare without their keys as their words do
pub unkeyed-word : (v w : ℕ) → by_row (unkeyed_row v) (unkeyed_row w) ≡ by_number (unkeyed_word v) (unkeyed_word w) same
unkeyed-word v w =
    ap (λ x. by_row x (unkeyed_row w)) (unkeyed-row v)
    ∙ ap (λ y. by_row (value_row_in (unkeyed_word v)) y) (unkeyed-row w)
    ∙ row_word (unkeyed_word v) (unkeyed_word w)

-- a row asked is read back from its word
pub request_again : (row : EntityRequest) → row.id < ids → row_asked (request_word row) ≡ row
request_again row small =
    let id : request_word row % ids ≡ row.id = omega arith in
    let node : request_word row / ids ≡ row.node = omega arith in
    λ i. record { id = id i; node = node i }
