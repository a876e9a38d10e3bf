-- Laws of the lines of a store. No contract cites this file.
use Rattle.std.specs.Prelude.{ℕ, ◌+◌, ◌≤◌, true, List, [], ◌∷◌, ◌≡◌, length}
use Rattle.std.proofs.Common.{arith, length-append}
use Rattle.std.proofs.Math.Option.{some, none-ne-some, some-injective}
use Rattle.rules.specs.Facts.{by_test}
use Rattle.rules.specs.Text.{fields_of, decimal_of, decimal_up_to, TAB}
use Rattle.rules.proofs.TextLaws.{joined_by, joined_parted, decimal_written}
use Rattle.rules.specs.Listing.{is_letter}
use Rattle.rules.proofs.ListingLaws.{bind_some}
use Rattle.rules.specs.ValueRowTests.{is_value_row}
use Rattle.rules.specs.ValueTexts.{StoreLine, entity_line, parent_line, ancestor_line, attribute_line, id_line, store_line_of, value_row_of}
use Rattle.rules.proofs.ValueTextLaws.{row_of_form}

-- what holds of each line that is read: its id is a decimal, or its row is of its form
abbrev pub Formed : StoreLine → Type 0
Formed (entity_line id) = id ≤ 65535
Formed (parent_line id) = id ≤ 65535
Formed (ancestor_line id) = id ≤ 65535
Formed (attribute_line x) = is_value_row x ≡ true

-- a field that is a letter is one byte, and one that is a decimal is a byte or more
one_byte : (letter : ℕ) (word : List ℕ) → is_letter letter word ≡ true → length word ≡ 1
one_byte letter [] e = absurd (let z : ◌≡◌ {A = ℕ} 0 1 = cc in omega arith)
one_byte letter (byte ∷ []) e = omega arith
one_byte letter (byte ∷ more ∷ word) e = absurd (let z : ◌≡◌ {A = ℕ} 0 1 = cc in omega arith)

some_digit : (field : List ℕ) (n : ℕ) → decimal_of field ≡ some n → 1 ≤ length field
unfolding decimal_up_to
some_digit [] n e = absurd (none-ne-some n e)
some_digit (d ∷ ds) n e = omega arith

id_formed : (word : List ℕ) (id : ℕ) (said : StoreLine) → id ≤ 65535 → id_line word id ≡ some said → (length word ≡ 1) × Formed said
id_formed word id said small e =
    by_test (is_letter 69 word)
    (λ t. (one_byte 69 word t, rw (← some-injective (entity_line id) said (rw t at e)) small))
    (λ t.
    by_test (is_letter 80 word)
    (λ u. (one_byte 80 word u, rw (← some-injective (parent_line id) said (rw (t, u) at e)) small))
    (λ u.
    by_test (is_letter 85 word)
    (λ v. (one_byte 85 word v, rw (← some-injective (ancestor_line id) said (rw (t, u, v) at e)) small))
    (λ v. absurd (none-ne-some said (rw (t, u, v) at e)))))

fields_formed : (fields : List (List ℕ)) (said : StoreLine) → store_line_of fields ≡ some said → (3 ≤ length (joined_by TAB fields)) × Formed said
unfolding store_line_of joined_by value_row_of
fields_formed [] said e = absurd (none-ne-some said e)
fields_formed (a ∷ []) said e = absurd (none-ne-some said e)
fields_formed (word ∷ id ∷ []) said e =
    bind_some (decimal_of id) (id_line word) said e λ n read there.
    let (one, formed) = id_formed word n said (decimal_written id n read).1 there in
    (omega (arith, length-append word (TAB ∷ id), some_digit id n read), formed)
fields_formed (a ∷ b ∷ c ∷ []) said e = absurd (none-ne-some said e)
fields_formed (a ∷ b ∷ c ∷ d ∷ []) said e = absurd (none-ne-some said e)
fields_formed (a ∷ b ∷ c ∷ d ∷ f ∷ more) said e =
    bind_some (value_row_of (a ∷ b ∷ c ∷ d ∷ f ∷ more)) _ said e λ x read there.
    let tabs : length (joined_by TAB (a ∷ b ∷ c ∷ d ∷ f ∷ more)) ≡ length a + (1 + (length b + (1 + (length c + (1 + (length d + (1 + length (joined_by TAB (f ∷ more))))))))) =
    simp length-append (omega arith) in
    (omega arith, rw (← some-injective (attribute_line x) said there) (row_of_form (a ∷ b ∷ c ∷ d ∷ f ∷ more) x read))

-- a line that is read has three bytes or more
pub line_formed : (line : List ℕ) {said : StoreLine} → store_line_of (fields_of line) ≡ some said → (3 ≤ length line) × Formed said
line_formed line {said} e = rw (joined_parted TAB line) at (fields_formed (fields_of line) said e)
