-- Laws of writing runs (Runs), of words with their count in front, and of copying them. No contract cites this file.
use Rattle.std.specs.Prelude.{ℕ, suc, ◌+◌, ◌≤◌, ◌<◌, List, [], ◌∷◌, ◌++◌, ◌≡◌, refl, length, get_or, take, drop, set}
use Rattle.std.proofs.Common.{add-zero, add-suc, suc-add, add_comm, add-one, arith, sym, ap, ◌∙◌, length-drop, length-append, get_or-take, get_or-set_same, take-suc-set, length-take-le}
use Rattle.std.proofs.lemmas.List.Edits.{sets, sets-eq}
use Rattle.std.proofs.Math.Seq.{length-sets, take-append_seam, take-length}
use Rattle.std.proofs.lemmas.List.{drop-set-add}
use Rattle.words.specs.Runs.{Wrote, stored, Outcome}
use Rattle.words.specs.SeqLaws.{copied_item}

-- ---- runs after one another

-- a second run goes to the place after the first
sets-append : (l : List ℕ) (i : ℕ) (xs ys : List ℕ) → sets (sets l i xs) (i + length xs) ys ≡ sets l i (xs ++ ys)
sets-append l i [] ys = rw add-zero
sets-append l i (x ∷ xs) ys = rw (add-suc, ← suc-add) (sets-append (set l i x) (suc i) xs ys)

-- what is written keeps the length
pub wrote_length : {out xs out' : List ℕ} {at at' : ℕ} → Wrote out at xs out' at' → length out' ≡ length out
wrote_length {out} {xs} {at} w = rw w.text (length-sets out at xs)

module _ {out xs ys out₁ out₂ : List ℕ} {at at₁ at₂ : ℕ} (first : Wrote out at xs out₁ at₁) where
  -- a run after a run
  pub wrote_more : Wrote out₁ at₁ ys out₂ at₂ → Wrote out at (xs ++ ys) out₂ at₂
  wrote_more rest = record {
    after = omega (arith, length-append xs ys);
    text = rest.text ∙ rw (first.text, first.after) (sets-append out at xs ys);
  }

  -- what is left of two runs after the first
  pub wrote_left : Wrote out at (xs ++ ys) out₂ at₂ → Wrote out₁ at₁ ys out₂ at₂
  wrote_left both = record {
    after = omega (arith, length-append xs ys);
    text = both.text ∙ rw (first.text, first.after) (sym (sets-append out at xs ys));
  }

-- one more after a run
pub wrote_ended : (out xs : List ℕ) (at b : ℕ) {out' : List ℕ} {at' : ℕ} → (at' ≡ at + length xs) × (out' ≡ sets out at xs) →
    Wrote out at (xs ++ (b ∷ [])) (set out' at' b) (at' + 1)
wrote_ended out xs at b {out'} {at'} e =
    let first : Wrote out at xs out' at' = record { after = e.0; text = e.1 } in
    wrote_more first (record { after = refl; text = refl })

-- runs that are the same
pub wrote_same : {out xs ys out' : List ℕ} {at at' : ℕ} → xs ≡ ys → Wrote out at xs out' at' → Wrote out at ys out' at'
wrote_same e w = rw e at w

-- what was stored from the start on is what stands there
pub taken_back : (l xs : List ℕ) → length xs ≤ length l → take (length xs) (sets l 0 xs) ≡ xs
taken_back l xs h = rw (sets-eq xs l 0 (omega arith)) (take-append_seam xs (drop (0 + length xs) l))

-- ---- a copy, item by item

-- the first i items are copied
pub record Copying {A : Type 0} (items out : List A) (to : ℕ) (out' : List A) (i : ℕ) : Type 0 where
  pub so_many : i ≤ length items
  pub text : out' ≡ sets out to (take i items)

pub copying_first : {A : Type 0} (items out : List A) (to : ℕ) → Copying items out to out 0
copying_first items out to = record { so_many = omega arith; text = refl }

module _ {A : Type 0} {items out out' : List A} {to i : ℕ} (copying : Copying items out to out' i) where
  -- the output keeps its length
  pub copying_length : length out' ≡ length out
  copying_length = ap length copying.text ∙ length-sets out to (take i items)

  pub copying_item : (d : A) → i < length items → Copying items out to (set out' (to + i) (get_or items i d)) (i + 1)
  copying_item d h = record { so_many = omega arith; text = rw copying.text (copied_item items out to i d h) }

  pub copying_all : length items ≤ i → Wrote out to items out' (to + i)
  copying_all h =
      let all : i ≡ length items = omega (arith, copying.so_many) in
      record { after = rw all; text = copying.text ∙ rw (all, take-length items) }

-- the same of words, which are 0 past their end
pub copying_next :
    {words out out' : List ℕ} {to i : ℕ} → Copying words out to out' i → i < length words → Copying words out to (set out' (to + i) (get_or words i 0)) (i + 1)
copying_next copying h = copying_item copying 0 h

-- ---- words with their count in front

module _ (out words : List ℕ) {count : ℕ} (counted : length words ≡ count) (h : count < length out) where
  -- a buffer that holds them holds their count, and they stand behind it
  held_words : take (count + 1) (sets out 0 (count ∷ words)) ≡ count ∷ words
  held_words =
      let all : length (count ∷ words) ≡ count + 1 = omega arith in
      rw all at (taken_back out (count ∷ words) (omega arith))

  pub held_count : get_or (sets out 0 (count ∷ words)) 0 0 ≡ count
  held_count = sym (get_or-take (count + 1) (sets out 0 (count ∷ words)) 0 0 (omega arith)) ∙ ap (λ (l : List ℕ). get_or l 0 0) held_words

  -- and copied they are what another buffer holds
  pub held_copied : (to : List ℕ) → sets to 0 (take (get_or (sets out 0 (count ∷ words)) 0 0 + 1) (sets out 0 (count ∷ words))) ≡ sets to 0 (count ∷ words)
  held_copied to = rw (held_count, held_words)

-- a word behind the others is stored after them
pub stored_next : (words : List ℕ) (count word : ℕ) → count + 1 < length words → stored (count + 1) (set words (count + 1) word) ≡ stored count words ++ (word ∷ [])
stored_next words count word inside =
    let behind : drop 1 (set words (count + 1) word) ≡ set (drop 1 words) count word = rw (add_comm count 1) (drop-set-add 1 words count word) in
    rw behind (rw add-one (take-suc-set (drop 1 words) count word (omega (arith, length-drop 1 words))))

-- words with a count in front count so many
pub counted : (words : List ℕ) (count : ℕ) → count < length words → get_or (set words 0 count) 0 0 ≡ count
counted words count h = get_or-set_same words 0 count 0 (omega arith)

-- and as they are copied
pub copied : (words : List ℕ) (count : ℕ) → count < length words →
    take (get_or (set words 0 count) 0 0 + 1) (set words 0 count) ≡ length (stored count words) ∷ stored count words
copied [] count h = absurd (omega arith)
copied (x ∷ rest) count h = rw (add-one, length-take-le count rest (omega arith))

-- ---- outcomes

-- what an outcome says, part by part
pub by_parts : {defined given : Outcome} → defined ≡ given → (given.reply ≡ defined.reply) × (given.buffer ≡ defined.buffer)
by_parts e = (ap (λ (o : Outcome). o.reply) (sym e), ap (λ (o : Outcome). o.buffer) (sym e))
