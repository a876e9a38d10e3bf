-- Laws of the texts of document 01 (Text): what a text is parted into, and that a decimal that is written is the decimal that is read.
-- No contract cites this file.
use Rattle.std.specs.Prelude.{ℕ, zero, suc, ◌+◌, ◌-◌, ◌*◌, ◌/◌, ◌%◌, ◌^◌, ◌≤◌, ◌<◌, Bool, true, false, cond, ◌&&◌, ◌≢◌, ◌⊎◌, ◌≡◌, refl, leb, eqb, length, get_or}
use Rattle.std.proofs.Common.{pow-suc, arith, inl, inr, ⊎_elim, sym, ap, ◌∙◌, eqb-true, leb-true, lt-ltb, le-ltb, le-leb, eq-eqb, ne_eqb, length-append}
use Rattle.std.proofs.Math.Decide.{dec_lt}
use mathlib.Core.List.{List, [], ◌∷◌, ◌++◌, append-nil, nil≢cons, head-eq_of_cons-eq, tail-eq_of_cons-eq}
use Rattle.std.proofs.Math.Option.{Option, none, some, none-ne-some, some-injective}
use Rattle.std.proofs.lemmas.Bool.{eqb-false}
use Rattle.std.proofs.Math.Seq.{append_snoc}
use Rattle.std.proofs.Math.ListN.{get_or-append}
use Rattle.rules.specs.Text.{parted, onto, number_from, decimal_up_to, decimal_of, decimal_in, decimal}
pub use Rattle.rules.specs.TextLaws.{Free, free_empty, free_more, AllFree, one_free, more_free, Split}
unfoldable pub use Rattle.rules.specs.TextLaws.{joined_by}

-- ---- parts

-- two runs with no b make one with no b
pub free_append : {b : ℕ} {xs ys : List ℕ} → Free b xs → Free b ys → Free b (xs ++ ys)
free_append free_empty ys = ys
free_append (free_more h xs) ys = free_more h (free_append xs ys)

-- a run with no b is one part
pub parted_free : {b : ℕ} {xs : List ℕ} → Free b xs → parted b xs ≡ xs ∷ []
unfolding parted
parted_free free_empty = refl
parted_free {b} (free_more {x} h xs) = rw (ne_eqb x b h, parted_free xs)

-- what stands before the first b is the first part
pub parted_first : {b : ℕ} {xs : List ℕ} → Free b xs → (ys : List ℕ) → parted b (xs ++ b ∷ ys) ≡ xs ∷ parted b ys
unfolding parted
parted_first {b} free_empty ys = rw (eq-eqb b b refl)
parted_first {b} (free_more {x} h xs) ys = rw (ne_eqb x b h, parted_first xs ys)

-- there is a first part
pub parted_some : (b : ℕ) (xs : List ℕ) → (part : List ℕ) × (parts : List (List ℕ)) × (parted b xs ≡ part ∷ parts)
unfolding parted
parted_some b [] = ([], [], refl)
parted_some b (x ∷ xs) = go (eqb x b) (parted_some b xs)
  where
    go : (same : Bool) → (part : List ℕ) × (parts : List (List ℕ)) × (parted b xs ≡ part ∷ parts) →
        (part : List ℕ) × (parts : List (List ℕ)) × (cond same ([] ∷ parted b xs) (onto x (parted b xs)) ≡ part ∷ parts)
    go true rest = ([], parted b xs, refl)
    go false rest = (x ∷ rest.0, rest.1, rw rest.2)

-- a byte in front of the first part is one in front of the whole
joined_by_onto : (b x : ℕ) (part : List ℕ) (parts : List (List ℕ)) → joined_by b ((x ∷ part) ∷ parts) ≡ x ∷ joined_by b (part ∷ parts)
unfolding joined_by
joined_by_onto b x part [] = refl
joined_by_onto b x part (next ∷ parts) = refl

-- the parts of a run make the run
pub joined_parted : (b : ℕ) (xs : List ℕ) → joined_by b (parted b xs) ≡ xs
unfolding parted joined_by
joined_parted b [] = refl
joined_parted b (x ∷ xs) = go (eqb x b) refl (parted_some b xs) (joined_parted b xs)
  where
    go : (same : Bool) → eqb x b ≡ same → (part : List ℕ) × (parts : List (List ℕ)) × (parted b xs ≡ part ∷ parts) →
        joined_by b (parted b xs) ≡ xs → joined_by b (cond same ([] ∷ parted b xs) (onto x (parted b xs))) ≡ x ∷ xs
    go true q (part, parts, e) rest = rw (e, eqb-true x b q) (ap (λ (l : List ℕ). b ∷ l) (rw e at rest))
    go false q (part, parts, e) rest = rw e (joined_by_onto b x part parts ∙ ap (λ (l : List ℕ). x ∷ l) (rw e at rest))

-- they are the parts of the run that they make
pub parted_joined : {b : ℕ} {parts : List (List ℕ)} → AllFree b parts → parted b (joined_by b parts) ≡ parts
unfolding joined_by
parted_joined (one_free part) = parted_free part
parted_joined (more_free part rest) = rw (parted_first part _, parted_joined rest)

-- with another byte between each two they make a run with no b
pub free_joined : {b : ℕ} {parts : List (List ℕ)} (between : ℕ) → between ≢ b → AllFree b parts → Free b (joined_by between parts)
unfolding joined_by
free_joined between other (one_free part) = part
free_joined between other (more_free part rest) = free_append part (free_more other (free_joined between other rest))

pub parted_split : (b : ℕ) (xs part next : List ℕ) (more : List (List ℕ)) → parted b xs ≡ part ∷ next ∷ more → Split b xs part (next ∷ more)
unfolding parted
parted_split b [] part next more e = absurd (nil≢cons (tail-eq_of_cons-eq e))
parted_split b (x ∷ xs) part next more e = go (eqb x b) refl (λ first h. parted_split b xs first next more h) (parted_some b xs) e
  where
    go : (same : Bool) → eqb x b ≡ same → ((first : List ℕ) → parted b xs ≡ first ∷ next ∷ more → Split b xs first (next ∷ more)) →
        (first : List ℕ) × (others : List (List ℕ)) × (parted b xs ≡ first ∷ others) →
        cond same ([] ∷ parted b xs) (onto x (parted b xs)) ≡ part ∷ next ∷ more → Split b (x ∷ xs) part (next ∷ more)
    go true q split some-part e =
        (xs, rw (← head-eq_of_cons-eq e, eqb-true x b q), tail-eq_of_cons-eq e)
    go false q split some-part e =
        let whole : (x ∷ some-part.0) ∷ some-part.1 ≡ part ∷ next ∷ more = rw some-part.2 at e in
        let found : Split b xs some-part.0 (next ∷ more) = split some-part.0 (some-part.2 ∙ ap (λ (l : List (List ℕ)). some-part.0 ∷ l) (tail-eq_of_cons-eq whole)) in
        (found.0, ap (λ (l : List ℕ). x ∷ l) found.1 ∙ ap (λ (l : List ℕ). l ++ b ∷ found.0) (head-eq_of_cons-eq whole), found.2)

-- ---- decimals that are read

-- a digit goes on with the number, where that stays at most `most`
pub number_from_digit : (most n d : ℕ) (ds : List ℕ) → 48 ≤ d → d ≤ 57 → n * 10 + (d - 48) ≤ most →
    number_from most n (d ∷ ds) ≡ number_from most (n * 10 + (d - 48)) ds
unfolding number_from
number_from_digit most n d ds low high fits = rw (le-leb 48 d low, le-leb d 57 high, le-leb (n * 10 + (d - 48)) most fits)

-- a byte is a digit with which the number stays at most `most`, or no number is read
number_from_cases : (most n d : ℕ) (ds : List ℕ) →
    ((48 ≤ d) × (d ≤ 57) × (n * 10 + (d - 48) ≤ most) × (number_from most n (d ∷ ds) ≡ number_from most (n * 10 + (d - 48)) ds))
    ⊎ (number_from most n (d ∷ ds) ≡ none)
unfolding number_from
number_from_cases most n d ds = go (leb 48 d) (leb d 57) (leb next most) refl refl refl
  where
    next : ℕ
    next = n * 10 + (d - 48)

    rest : Option ℕ
    rest = number_from most next ds

    go : (low high fits : Bool) → leb 48 d ≡ low → leb d 57 ≡ high → leb next most ≡ fits →
        ((48 ≤ d) × (d ≤ 57) × (next ≤ most) × (cond (low && high) (cond fits rest none) none ≡ rest))
        ⊎ (cond (low && high) (cond fits rest none) none ≡ none)
    go true true true p q r = inl (leb-true 48 d p, leb-true d 57 q, leb-true next most r, refl)
    go true true false p q r = inr refl
    go true false fits p q r = inr refl
    go false high fits p q r = inr refl

-- with any other byte no number is read
pub number_from_none : (most n d : ℕ) (ds : List ℕ) → (48 ≤ d → d ≤ 57 → n * 10 + (d - 48) ≤ most → ⊥) → number_from most n (d ∷ ds) ≡ none
number_from_none most n d ds h = ⊎_elim (λ w. absurd (h w.0 w.1 w.2)) (λ e. e) (number_from_cases most n d ds)

-- where a number is read, its first byte is such a digit, and the rest goes on with it
number_from_some : (most n d m : ℕ) (ds : List ℕ) → number_from most n (d ∷ ds) ≡ some m →
    (48 ≤ d) × (d ≤ 57) × (n * 10 + (d - 48) ≤ most) × (number_from most (n * 10 + (d - 48)) ds ≡ some m)
number_from_some most n d m ds e =
    ⊎_elim
    (λ w. (w.0, w.1, w.2, sym w.3 ∙ e))
    (λ w. absurd (none-ne-some m (sym w ∙ e)))
    (number_from_cases most n d ds)

-- a number that was read is at most `most`
number_from_most : (most n m : ℕ) (ds : List ℕ) → n ≤ most → number_from most n ds ≡ some m → m ≤ most
unfolding number_from
number_from_most most n m [] h e = rw (some-injective n m e) at h
number_from_most most n m (d ∷ ds) h e =
    let (low, high, fits, rest) = number_from_some most n d m ds e in
    number_from_most most (n * 10 + (d - 48)) m ds fits rest

-- digits after digits go on with the number of the first
number_from_append : (most n m : ℕ) (ds es : List ℕ) → number_from most n ds ≡ some m → number_from most n (ds ++ es) ≡ number_from most m es
unfolding number_from
number_from_append most n m [] es e = rw (some-injective n m e)
number_from_append most n m (d ∷ ds) es e =
    let (low, high, fits, rest) = number_from_some most n d m ds e in
    number_from_digit most n d (ds ++ es) low high fits ∙ number_from_append most (n * 10 + (d - 48)) m ds es rest

-- one digit goes on with the number
number_from_one : (most n d m : ℕ) → d < 10 → n * 10 + d ≡ m → m ≤ most → number_from most n ((48 + d) ∷ []) ≡ some m
unfolding number_from
number_from_one most n d m h e fits =
    let same : n * 10 + (48 + d - 48) ≡ m = omega arith in
    number_from_digit most n (48 + d) [] (omega arith) (omega arith) (omega arith) ∙ ap {B = Option ℕ} some same

-- an empty field is no decimal
pub decimal_up_to_empty : (most : ℕ) (field : List ℕ) → length field ≡ 0 → decimal_up_to most field ≡ none
unfolding decimal_up_to
decimal_up_to_empty most [] h = refl
decimal_up_to_empty most (d ∷ ds) h = absurd (omega arith)

-- a 0 in front of another digit makes no decimal
pub decimal_up_to_zero : (most : ℕ) (field : List ℕ) → 1 < length field → get_or field 0 0 ≡ 48 → decimal_up_to most field ≡ none
unfolding decimal_up_to
decimal_up_to_zero most [] h e = absurd (omega arith)
decimal_up_to_zero most (d ∷ []) h e = absurd (omega arith)
decimal_up_to_zero most (d ∷ c ∷ ds) h e = rw (eq-eqb d 48 e)

-- one byte writes its digit
pub decimal_up_to_one : (most : ℕ) (field : List ℕ) → length field ≡ 1 → decimal_up_to most field ≡ number_from most 0 field
unfolding decimal_up_to
decimal_up_to_one most [] h = absurd (omega arith)
decimal_up_to_one most (d ∷ []) h = refl
decimal_up_to_one most (d ∷ c ∷ ds) h = absurd (omega arith)

-- without a 0 in front a field writes the number of its digits
pub decimal_up_to_more : (most : ℕ) (field : List ℕ) → 0 < length field → get_or field 0 0 ≢ 48 → decimal_up_to most field ≡ number_from most 0 field
unfolding decimal_up_to
decimal_up_to_more most [] h e = absurd (omega arith)
decimal_up_to_more most (d ∷ []) h e = refl
decimal_up_to_more most (d ∷ c ∷ ds) h e = rw (ne_eqb d 48 e)

-- ---- decimals that are written

-- what holds of the digit of a number below 10, and of the decimal of its tenth with a last digit from 10 on, holds of the decimal
decimal_in_cases : (P : List ℕ → Type 0) (k n : ℕ) → (n < 10 → P ((48 + n) ∷ [])) →
    (10 ≤ n → P (decimal_in k (n / 10) ++ ((48 + n % 10) ∷ []))) → P (decimal_in (suc k) n)
unfolding decimal_in
decimal_in_cases P k n digit more = go (dec_lt n 10)
  where
    go : Dec (n < 10) → P (decimal_in (suc k) n)
    go (yes h) = rw (lt-ltb n 10 h) (digit h)
    go (no h) = rw (le-ltb n 10 (omega arith)) (more (omega arith))

-- below 10 a decimal is one digit
pub decimal_in_digit : (k n : ℕ) → n < 10 → decimal_in k n ≡ (48 + n) ∷ []
unfolding decimal_in
decimal_in_digit zero n h = refl
decimal_in_digit (suc k) n h = rw (lt-ltb n 10 h)

-- room for one more digit changes nothing
decimal_in_suc : (k n : ℕ) → n < 10 ^ suc k → decimal_in (suc k) n ≡ decimal_in k n
unfolding decimal_in
decimal_in_suc zero n h = rw (lt-ltb n 10 h)
decimal_in_suc (suc k) n h = rw (decimal_in_suc k (n / 10) (omega (arith, pow-suc 10 (suc k))))

-- from 10 on a decimal is that of the tenth, and then the last digit
pub decimal_in_tenth : (k n : ℕ) → 10 ≤ n → n < 10 ^ suc k → decimal_in k n ≡ decimal_in k (n / 10) ++ ((48 + n % 10) ∷ [])
decimal_in_tenth zero n low h = absurd (omega arith)
decimal_in_tenth (suc k) n low h =
    rw (decimal_in_suc k (n / 10) (omega (arith, pow-suc 10 (suc k))))
    (decimal_in_cases (λ ds. ds ≡ decimal_in k (n / 10) ++ ((48 + n % 10) ∷ [])) k n (λ h. absurd (omega arith)) (λ h. refl))

-- a digit is no byte below the digits
free_digit : (b d : ℕ) → b < 48 → Free b ((48 + d) ∷ [])
free_digit b d h = free_more {x = 48 + d} (omega arith) free_empty

-- a decimal has no byte below the digits
pub free_decimal_in : (b k n : ℕ) → b < 48 → Free b (decimal_in k n)
unfolding decimal_in
free_decimal_in b zero n h = free_digit b n h
free_decimal_in b (suc k) n h =
    decimal_in_cases
    (Free b)
    k
    n
    (λ l. free_digit b n h)
    (λ l. free_append (free_decimal_in b k (n / 10) h) (free_digit b (n % 10) h))

-- the decimal of a number below 10 ^ (j + 1) has at most j + 1 bytes
pub length_decimal_in : (k j n : ℕ) → n < 10 ^ suc j → length (decimal_in k n) ≤ suc j
unfolding decimal_in
length_decimal_in zero j n h = omega arith
length_decimal_in (suc k) zero n h = rw (decimal_in_digit (suc k) n h) (omega arith)
length_decimal_in (suc k) (suc j) n h =
    decimal_in_cases
    (λ ds. length ds ≤ suc (suc j))
    k
    n
    (λ l. omega arith)
    (λ l. rw length-append (omega (arith, length_decimal_in k j (n / 10) (omega (arith, pow-suc 10 (suc j))))))

-- the decimal of a number from 1 on does not begin with 0
decimal_in_leads : (k n : ℕ) → 1 ≤ n → (0 < length (decimal_in k n)) × (get_or (decimal_in k n) 0 0 ≢ 48)
unfolding decimal_in
decimal_in_leads zero n h = omega arith
decimal_in_leads (suc k) n h =
    decimal_in_cases
    (λ ds. (0 < length ds) × (get_or ds 0 0 ≢ 48))
    k
    n
    (λ l. omega arith)
    (λ l. let (some_digit, leads) = decimal_in_leads k (n / 10) (omega arith) in
    (rw length-append (omega arith), rw get_or-append leads))

-- ---- writing and reading

-- the digits of a decimal are the number's
number_from_decimal_in : (most k n : ℕ) → n ≤ most → n < 10 ^ suc k → number_from most 0 (decimal_in k n) ≡ some n
unfolding decimal_in
number_from_decimal_in most zero n fits h = number_from_one most 0 n n h (omega arith) fits
number_from_decimal_in most (suc k) n fits h =
    decimal_in_cases
    (λ ds. number_from most 0 ds ≡ some n)
    k
    n
    (λ l. number_from_one most 0 n n l (omega arith) fits)
    (λ l. number_from_append most 0 (n / 10) (decimal_in k (n / 10)) _ (number_from_decimal_in most k (n / 10) (omega arith) (omega (arith, pow-suc 10 (suc k))))
    ∙ number_from_one most (n / 10) (n % 10) n (omega arith) (omega arith) fits)

-- a decimal has no extra zero
decimal_up_to_plain : (most k n : ℕ) → decimal_up_to most (decimal_in k n) ≡ number_from most 0 (decimal_in k n)
decimal_up_to_plain most k zero = decimal_up_to_one most (decimal_in k 0) (ap length (decimal_in_digit k 0 (omega arith)))
decimal_up_to_plain most k (suc n) =
    let (some_digit, leads) = decimal_in_leads k (suc n) (omega arith) in
    decimal_up_to_more most (decimal_in k (suc n)) some_digit leads

-- what is written is read as the number
pub decimal_up_to_decimal_in : (most k n : ℕ) → n ≤ most → n < 10 ^ suc k → decimal_up_to most (decimal_in k n) ≡ some n
decimal_up_to_decimal_in most k n fits h = decimal_up_to_plain most k n ∙ number_from_decimal_in most k n fits h

-- a digit that goes on with a number from 1 on stands after its decimal
decimal_in_next : (k n d : ℕ) → 1 ≤ n → 48 ≤ d → d ≤ 57 → n * 10 + (d - 48) < 10 ^ suc k →
    decimal_in k (n * 10 + (d - 48)) ≡ decimal_in k n ++ (d ∷ [])
decimal_in_next k n d h low high fits =
    let tenth : (n * 10 + (d - 48)) / 10 ≡ n = omega arith in
    let last : 48 + (n * 10 + (d - 48)) % 10 ≡ d = omega arith in
    decimal_in_tenth k (n * 10 + (d - 48)) (omega arith) fits ∙ rw (tenth, last)

-- digits that are read after a number from 1 on stand after its decimal
decimal_in_append : (most k n m : ℕ) (ds : List ℕ) → most < 10 ^ suc k → 1 ≤ n → number_from most n ds ≡ some m → decimal_in k m ≡ decimal_in k n ++ ds
unfolding number_from
decimal_in_append most k n m [] room h e = rw (some-injective n m e, append-nil)
decimal_in_append most k n m (d ∷ ds) room h e =
    let (low, high, fits, rest) = number_from_some most n d m ds e in
    decimal_in_append most k (n * 10 + (d - 48)) m ds room (omega arith) rest
    ∙ rw (decimal_in_next k n d h low high (omega arith), append_snoc)

-- the decimal of a first digit's number is that digit
decimal_in_first : (k d : ℕ) → 48 ≤ d → d ≤ 57 → decimal_in k (0 * 10 + (d - 48)) ≡ d ∷ []
decimal_in_first k d low high =
    let same : 48 + (0 * 10 + (d - 48)) ≡ d = omega arith in
    decimal_in_digit k (0 * 10 + (d - 48)) (omega arith) ∙ rw same

-- a digit that is read as a number is its decimal
decimal_in_one : (most k n d : ℕ) → number_from most 0 (d ∷ []) ≡ some n → d ∷ [] ≡ decimal_in k n
unfolding number_from
decimal_in_one most k n d e =
    let (low, high, fits, rest) = number_from_some most 0 d n [] e in
    rw (← some-injective (0 * 10 + (d - 48)) n rest, decimal_in_first k d low high)

-- digits without a 0 in front that are read as a number are its decimal
decimal_in_more : (most k n d : ℕ) (ds : List ℕ) → most < 10 ^ suc k → d ≢ 48 → number_from most 0 (d ∷ ds) ≡ some n → d ∷ ds ≡ decimal_in k n
decimal_in_more most k n d ds room lead e =
    let (low, high, fits, rest) = number_from_some most 0 d n ds e in
    rw (decimal_in_append most k (0 * 10 + (d - 48)) n ds room (omega arith) rest, decimal_in_first k d low high)

-- what is read as a number is what would be written
pub decimal_up_to_written : (most k n : ℕ) (field : List ℕ) → most < 10 ^ suc k → decimal_up_to most field ≡ some n → (field ≡ decimal_in k n) × (n ≤ most)
unfolding decimal_up_to
decimal_up_to_written most k n [] room e = absurd (none-ne-some n e)
decimal_up_to_written most k n (d ∷ []) room e = (decimal_in_one most k n d e, number_from_most most 0 n (d ∷ []) (omega arith) e)
decimal_up_to_written most k n (d ∷ c ∷ ds) room e = go (eqb d 48) refl e
  where
    go : (extra : Bool) → eqb d 48 ≡ extra → cond extra none (number_from most 0 (d ∷ c ∷ ds)) ≡ some n →
        (d ∷ c ∷ ds ≡ decimal_in k n) × (n ≤ most)
    go true q e = absurd (none-ne-some n e)
    go false q e = (decimal_in_more most k n d (c ∷ ds) room (eqb-false d 48 q) e, number_from_most most 0 n (d ∷ c ∷ ds) (omega arith) e)

-- ---- the decimals of document 01

-- writing a number and reading it gives the number
pub decimal_read : (n : ℕ) → n ≤ 65535 → decimal_of (decimal n) ≡ some n
decimal_read n h = decimal_up_to_decimal_in 65535 19 n h (omega arith)

-- a field that is accepted is the one that would be written
pub decimal_written : (field : List ℕ) (n : ℕ) → decimal_of field ≡ some n → (field ≡ decimal n) × (n ≤ 65535)
decimal_written field n e = decimal_up_to_written 65535 19 n field (omega arith) e

-- a decimal of at most 65,535 has at most 5 bytes
pub length_decimal : (n : ℕ) → n ≤ 65535 → length (decimal n) ≤ 5
length_decimal n h = length_decimal_in 19 4 n (omega arith)

-- a byte below the digits, as LF or a tab, is in no decimal
pub free_decimal : (b n : ℕ) → b < 48 → Free b (decimal n)
free_decimal b n h = free_decimal_in b 19 n h
