-- How many entries and nodes words are, counted word by word.
use Rattle.std.specs.Prelude.{ℕ, ◌+◌, List, map, ◌≡◌}
use Rattle.rules.specs.Tries.{entries_in, nodes_in}
use Rattle.rows.specs.Words.{row_in}

-- of words, all but those that are left are counted: so many entries and so many nodes
pub record Counted (words rest : List ℕ) (entries nodes : ℕ) : Type 0 where
  pub all_entries : entries + entries_in (map row_in rest) ≡ entries_in (map row_in words)
  pub all-nodes : nodes + nodes_in (map row_in rest) ≡ nodes_in (map row_in words)
