-- Laws of a search that passes word after word. No contract cites this file.
use Rattle.std.specs.Prelude.{ℕ, ◌+◌, ◌≤◌, ◌<◌, List, ◌∷◌, ◌≢◌, ◌≡◌, length, drop, get_or}
use Rattle.std.proofs.Common.{add-zero, add-one, arith, ap, ◌∙◌, drop_of_length-le, drop-cons}
use Rattle.std.proofs.Math.Path.{sym}
use borrow.Author.Tests.{eq-eqb, ne_eqb, lt-ltb, le-ltb}
use Rattle.words.specs.Keys.{key_in, later, searched}
use Rattle.std.specs.Prelude.{Result, Ok, Err}

-- what is answered so many words later
abbrev moved : ℕ → Result ℕ ℕ → Result ℕ ℕ
moved i (Ok place) = Ok (i + place)
moved i (Err place) = Err (i + place)

moved_none : (r : Result ℕ ℕ) → moved 0 r ≡ r
moved_none (Ok place) = ap {B = Result ℕ ℕ} Ok (omega arith)
moved_none (Err place) = ap {B = Result ℕ ℕ} Err (omega arith)

moved_later : (i : ℕ) (r : Result ℕ ℕ) → moved i (later r) ≡ moved (i + 1) r
moved_later i (Ok place) = ap {B = Result ℕ ℕ} Ok (omega arith)
moved_later i (Err place) = ap {B = Result ℕ ℕ} Err (omega arith)

-- i words are passed, and the others say what is answered
pub record KeySought (words : List ℕ) (key i : ℕ) : Type 0 where
  pub inside : i ≤ length words
  pub left : searched words key ≡ moved i (searched (drop i words) key)

pub sought_none : (words : List ℕ) (key : ℕ) → KeySought words key 0
sought_none words key = record { inside = omega arith; left = sym (moved_none _) }

module _ {words : List ℕ} {key i : ℕ} (sought : KeySought words key i) where
  -- no word is left
  pub sought_all : length words ≤ i → Err i ≡ searched words key
  unfolding searched
  sought_all h = sym (sought.left ∙ rw (drop_of_length-le words h, add-zero))

  module _ (more : i < length words) where
    words_left : drop i words ≡ get_or words i 0 ∷ drop (i + 1) words
    words_left = rw (add-one, drop-cons words i 0)

    -- the next word has the key
    pub sought_found : key_in (get_or words i 0) ≡ key → Ok i ≡ searched words key
    unfolding searched
    sought_found e = sym (sought.left ∙ rw (words_left, eq-eqb (key_in (get_or words i 0)) key e, add-zero))

    module _ (other : key_in (get_or words i 0) ≢ key) where
      -- the next word has a greater key
      pub sought_missing : key < key_in (get_or words i 0) → Err i ≡ searched words key
      unfolding searched
      sought_missing h = sym (sought.left ∙ rw (words_left, ne_eqb (key_in (get_or words i 0)) key other, lt-ltb key (key_in (get_or words i 0)) h, add-zero))

      -- the next word has a lower key
      pub sought_next : key_in (get_or words i 0) ≤ key → KeySought words key (i + 1)
      unfolding searched
      sought_next h = record {
        inside = omega arith;
        left = sought.left ∙ rw (words_left, ne_eqb (key_in (get_or words i 0)) key other, le-ltb key (key_in (get_or words i 0)) h) (moved_later i (searched (drop (i + 1) words) key));
      }
