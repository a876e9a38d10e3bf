-- Laws of counting the entries and nodes of words, word by word (Merge). No contract cites this file.
use Rattle.std.specs.Prelude.{ℕ, ◌+◌, List, [], ◌∷◌, ◌≢◌, ◌≡◌}
use Rattle.std.proofs.Common.{arith}
use borrow.Author.Tests.{eq-eqb, ne_eqb}
use Rattle.rules.specs.Tries.{count, entries_in, nodes_in}
use Rattle.rows.specs.Words.{depth_in}
use Rattle.rows.specs.Sizes.{Counted}
use Rattle.rows.specs.States.{rows_of}

-- nothing is counted
pub counted_none : (words : List ℕ) → Counted words words 0 0
counted_none words = omega arith

-- the next row is counted as what it is
module _ {words rest : List ℕ} {word entries nodes : ℕ} (counted : Counted words (word ∷ rest) entries nodes) where
  pub counted_entry : depth_in word ≡ 0 → Counted words rest (entries + 1) nodes
  unfolding count
  counted_entry e = let test = eq-eqb (depth_in word) 0 e in omega (arith, rw test at counted.all_entries, rw test at counted.all-nodes)

  pub counted_node : depth_in word ≢ 0 → Counted words rest entries (nodes + 1)
  unfolding count
  counted_node e = let test = ne_eqb (depth_in word) 0 e in omega (arith, rw test at counted.all_entries, rw test at counted.all-nodes)

-- all are counted
pub counted_all : {words : List ℕ} {entries nodes : ℕ} → Counted words [] entries nodes →
    (entries ≡ entries_in (rows_of words)) × (nodes ≡ nodes_in (rows_of words))
unfolding count
counted_all counted = omega arith
