-- Laws of name tables and of their words. No contract cites this file.
use Rattle.std.specs.Prelude.{ℕ, ◌+◌, ◌*◌, ◌/◌, ◌≤◌, ◌<◌, ◌^◌, Bool, false, List, [], ◌∷◌, map, ◌≡◌, refl, length, take, drop}
use Rattle.std.proofs.Common.{arith, sym, ap, ◌∙◌, ltb-true, eq-eqb, ne_eqb, length-drop, take_all}
use Rattle.std.specs.Str.{bytes_eq}
use Rattle.std.proofs.lemmas.Slice.Eq.{bytes_eq-Decides}
use Rattle.std.specs.List.{list_all, list_any}
use Rattle.std.proofs.Math.Option.{some, some-injective, none-ne-some}
use Rattle.rules.specs.Facts.{by_test, compared, both_true, cond-some, same_test}
use Rattle.rules.specs.Text.{decimal_of}
use Rattle.rules.proofs.TextLaws.{decimal_written, decimal_up_to_empty}
use Rattle.rules.specs.Tries.{step_of, same_list}
use Rattle.rules.proofs.PlaceLaws.{same-list}
use Rattle.rules.specs.Listing.{place_in}
use Rattle.rules.proofs.ListingLaws.{bind_some, place_read}
use Rattle.rules.specs.Names.{Named, name_kinds, name_in, is_name_byte, all_name_bytes, is_name, key_from, same_name, is_taken}
use Rattle.name_table.specs.Words.{name_word, named_in}

-- ---- names

-- each byte of a name may stand in one
pub all_bytes : (name : List ℕ) → list_all is_name_byte name ≡ all_name_bytes name
unfolding all_name_bytes
all_bytes [] = refl
all_bytes (byte ∷ name) = by_test (is_name_byte byte) (λ e. rw e (all_bytes name)) (λ e. rw e refl)

-- ---- keys

-- what the fields of a line have that gives a key
pub record KeyParts (kind id name : List ℕ) (key : ℕ) : Type 0 where
  pub letter : length kind ≡ 1
  pub digits : 0 < length id
  pub letters : 0 < length name
  pub small : key < 196608

pub key_parts : (kind id name : List ℕ) {key : ℕ} → key_from kind id name ≡ some key → KeyParts kind id name key
key_parts kind id name {key} e =
    bind_some (place_in name_kinds kind) _ key e λ k place e.
    bind_some (decimal_of id) _ key e λ i number e.
    let (named, same) = cond-some (is_name name) (some (step_of k i)) key e in
    let step : step_of k i ≡ key = some-injective (step_of k i) key same in
    let (few, letter) = place_read name_kinds kind k place in
    record {
      letter = ap length letter;
      digits = compared 0 (length id) (λ h. h) (λ h. absurd (none-ne-some i (sym (decimal_up_to_empty 65535 id (omega arith)) ∙ number)));
      letters = ltb-true 0 (length name) (both_true _ _ named).0;
      small = omega (arith, few, step, (decimal_written id i number).1);
    }

-- ---- names that stand among others

pub any_taken : (text : List ℕ) (kind : ℕ) (name words : List ℕ) →
    list_any (λ word. same_name text kind name (named_in word)) words ≡ is_taken text kind name (map named_in words)
unfolding is_taken
any_taken text kind name [] = refl
any_taken text kind name (word ∷ words) =
    by_test (same_name text kind name (named_in word)) (λ e. rw e refl) (λ e. rw e (any_taken text kind name words))

module _ (text : List ℕ) (kind : ℕ) (name : List ℕ) (n : Named) where
  pub other_kind : (n.key / 65536 ≡ kind → ⊥) → same_name text kind name n ≡ false
  other_kind h = rw (ne_eqb (n.key / 65536) kind h)

  module _ (of-kind : n.key / 65536 ≡ kind) where
    pub other_size : (n.size ≡ length name → ⊥) → same_name text kind name n ≡ false
    other_size h = rw (eq-eqb (n.key / 65536) kind of-kind, ne_eqb n.size (length name) h)

    module _ (as_long : n.size ≡ length name) where
      by_bytes : same_name text kind name n ≡ same_list (name_in text n) name
      by_bytes = rw (eq-eqb (n.key / 65536) kind of-kind, eq-eqb n.size (length name) as_long)

      -- a name that does not end in the text is shorter than it says
      pub other_end : 0 < length name → length text < n.from + n.size → same_name text kind name n ≡ false
      other_end some_byte h =
          by_bytes
          ∙ by_test (same_list (name_in text n) name)
          (λ e.
          let all : take n.size (drop n.from text) ≡ drop n.from text = take_all n.size (drop n.from text) (omega (arith, length-drop n.from text)) in
          absurd (omega (arith, length-drop n.from text, ap length (sym all ∙ (same-list (name_in text n) name).0 e))))
          (λ e. e)

      -- what a comparison says
      pub same_bytes : (r : Bool) → r ≡ bytes_eq (name_in text n) name → r ≡ same_name text kind name n
      same_bytes r ensured =
          let decides = bytes_eq-Decides (name_in text n) name in
          let lists = same-list (name_in text n) name in
          ensured
          ∙ same_test (bytes_eq (name_in text n) name) (same_list (name_in text n) name) (λ e. lists.1 (decides.0 e), λ e. decides.1 (lists.0 e))
          ∙ sym by_bytes

-- ---- words

pub word_packed : (n : Named) → n.from < 65536 → n.size ≤ 65536 → named_in (name_word n) ≡ n
word_packed n from size =
    let key_same : (named_in (name_word n)).key ≡ n.key = omega arith in
    let from_same : (named_in (name_word n)).from ≡ n.from = omega arith in
    let high : name_word n / 2 ^ 16 ≡ n.size + n.key * 2 ^ 24 = omega arith in
    let size_same : (named_in (name_word n)).size ≡ n.size = rw high (omega arith) in
    rw (key_same, from_same, size_same)

pub words_packed : (words : List ℕ) → map name_word (map named_in words) ≡ words
words_packed [] = refl
words_packed (w ∷ ws) =
    let same : name_word (named_in w) ≡ w = omega arith in
    rw (same, words_packed ws)
