-- Laws of uniting a lent manifest in place and of copying rows. No contract cites this file.
use Rattle.std.specs.Prelude.{ℕ, ◌≤◌, ◌<◌, ◌≡◌, refl, true, false, List, length, set}
use Rattle.std.proofs.Common.{ap, arith}
use borrow.Author.Tests.{le-leb, lt-leb}
use Rattle.rules.specs.Numbers.{Answer, accepted, refused}
use Rattle.rules.specs.Tries.{Row, manifest, entries_in, nodes_in, union}
use Rattle.rules.specs.Facts.{compared}
use Rattle.rules.specs.Building.{add}
use Rattle.rules.proofs.Demand3.{refused_exactly}
use Rattle.rows.specs.States.{form_of, words_of, lawful_state, storing}
use Rattle.rows.specs.declared.Kind.{Kind}
use Rattle.words.specs.Runs.{refusing}
use Rattle.rows.specs.StateLaws.{all_rows}
use Rattle.words.specs.Replies.{Done, Refused}
use Rattle.manifest.specs.Outcomes.{empty_in, united_rows, united_in}

-- ---- an empty manifest

pub empty_short : (out : List ℕ) → length out < 4161 → empty_in out ≡ refusing 31 0 out
unfolding empty_in
empty_short out h = rw (lt-leb 4161 (length out) h)

pub empty_long : (out : List ℕ) → 4161 ≤ length out → empty_in out ≡ record { reply = Done; buffer = set out 0 0 }
unfolding empty_in
empty_long out h = rw (le-leb 4161 (length out) h)

-- ---- uniting in place, by what was tested

module _ (kind : Kind) (m other : List ℕ) where
  pub unite_short_m : length m < 4161 → united_in kind m other ≡ refusing 31 0 m
  unfolding united_in
  unite_short_m h = rw (lt-leb 4161 (length m) h)

  module _ (long-m : 4161 ≤ length m) where
    pub unite_short_other : length other < words_of kind → united_in kind m other ≡ refusing 31 0 m
    unfolding united_in
    unite_short_other h = rw (le-leb 4161 (length m) long-m, lt-leb (words_of kind) (length other) h)

    module _ (long-other : words_of kind ≤ length other) where
      pub unite_unlawful_m : lawful_state manifest m ≡ false → united_in kind m other ≡ refusing 1 0 m
      unfolding united_in
      unite_unlawful_m e = rw (le-leb 4161 (length m) long-m, le-leb (words_of kind) (length other) long-other, e)

      pub unite_unlawful_other : lawful_state manifest m ≡ true → lawful_state (form_of kind) other ≡ false → united_in kind m other ≡ refusing 1 0 m
      unfolding united_in
      unite_unlawful_other e f = rw (le-leb 4161 (length m) long-m, le-leb (words_of kind) (length other) long-other, e, f)

      pub unite_lawful : lawful_state manifest m ≡ true → lawful_state (form_of kind) other ≡ true → united_in kind m other ≡ storing m (united_rows m other)
      unfolding united_in
      unite_lawful e f = rw (le-leb 4161 (length m) long-m, le-leb (words_of kind) (length other) long-other, e, f)

-- ---- what was united, copied

-- a reply does not depend on the buffer
pub same_reply : (out out' : List ℕ) (answer : Answer (List Row)) → (storing out answer).reply ≡ (storing out' answer).reply
same_reply out out' (accepted rows) = refl
same_reply out out' (refused number place) = refl

-- where a reply is a refusal, the buffer is as it was
pub refused_kept : (out out' : List ℕ) (answer : Answer (List Row)) (number place : ℕ) → (storing out answer).reply ≡ Refused number place → (storing out' answer).buffer ≡ out'
refused_kept out out' (accepted rows) number place e = absurd (let z : ◌≡◌ {A = ℕ} 0 1 = cc in omega arith)
refused_kept out out' (refused n p) number place e = refl

-- where a reply is done, there are rows
pub done_rows : (out : List ℕ) (answer : Answer (List Row)) → (storing out answer).reply ≡ Done → (rows : List Row) × (answer ≡ accepted rows)
done_rows out (accepted rows) e = (rows, refl)
done_rows out (refused number place) e = absurd (let z : ◌≡◌ {A = ℕ} 0 1 = cc in omega arith)

-- rows that were accepted fit a manifest
pub added_most : (m c rows : List Row) → add m c ≡ accepted rows → length rows ≤ 4160
added_most m c rows e =
    compared 64 (entries_in (union m c))
    (λ many. absurd (never 5 ((refused_exactly m c).0.1 many)))
    (λ few.
    compared 4096 (nodes_in (union m c))
    (λ many. absurd (never 4 ((refused_exactly m c).1.1 (few, many))))
    (λ enough. sized ((refused_exactly m c).2.1 (few, enough)) few enough))
  where
    never : (number : ℕ) → add m c ≡ refused number 0 → ⊥
    never number f = let z : ◌≡◌ {A = ℕ} 0 1 = cc in omega arith

    sized : add m c ≡ accepted (union m c) → entries_in (union m c) ≤ 64 → nodes_in (union m c) ≤ 4096 → length rows ≤ 4160
    sized f few enough =
        let same : rows ≡ union m c = cc in
        omega (arith, ap length same, all_rows (union m c))
