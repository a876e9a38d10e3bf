-- What a step of the union in `trie` keeps: with what is left of the union stored, the output is the same as before.
use Rattle.std.specs.Prelude.{ℕ, ◌+◌, ◌-◌, ◌^◌, ◌≤◌, ◌<◌, ◌≡◌, cond, List, ◌∷◌, map, ltb, length, take, drop, get_or}
use Rattle.std.proofs.lemmas.List.Edits.{sets}
use Rattle.rules.specs.Tries.{entries_in, nodes_in}
use Rattle.rows.specs.Words.{depth_in, row_in, rank_in}
use Rattle.union.specs.Unions.{union_words}
use Rattle.rows.specs.declared.Limits.{Limits}

-- the key of the row at a place of a run, past every row's key behind the last
unfoldable pub key_at : List ℕ → ℕ → ℕ
key_at rows at = cond (ltb at (length rows)) (rank_in (get_or rows at 0)) (2 ^ 53)

-- the key of the next row of either run
unfoldable pub next_key : List ℕ → List ℕ → ℕ → ℕ → ℕ
next_key a b i j = cond (ltb (key_at a i) (key_at b j)) (key_at a i) (key_at b j)

-- the union of what is left of two runs
unfoldable pub left : List ℕ → List ℕ → ℕ → ℕ → List ℕ
left a b i j = union_words (drop i a) (drop j b)

-- the word w is next, and i' and j' rows are passed then
pub record UnionTurn (a b : List ℕ) (i j w i' j' : ℕ) : Type 0 where
  pub taken : left a b i j ≡ w ∷ left a b i' j'
  pub in_a : i' ≤ length a
  pub in_b : j' ≤ length b
  pub more : i + j < i' + j'

-- i and j rows of the runs are passed, and what is left of their union fits from the place k of the output on
pub record MergeRoom (a b out : List ℕ) (i j k : ℕ) : Type 0 where
  pub in_a : i ≤ length a
  pub in_b : j ≤ length b
  pub fits : k + length (left a b i j) ≤ length out

-- rows were stored: what is left still fits, and storing it gives what storing all of it would have given
pub record Merged (a b out : List ℕ) (i j k : ℕ) (out' : List ℕ) (i' j' k' : ℕ) : Type 0 where
  pub room : MergeRoom a b out' i' j' k'
  pub same : sets out' k' (left a b i' j') ≡ sets out k (left a b i j)
  pub placed : k' + length (left a b i' j') ≡ k + length (left a b i j)
  pub passed : i + j ≤ i' + j'

-- rows from a place on are deeper than a depth
pub record BelowTo (depth : ℕ) (rows : List ℕ) (from end : ℕ) : Type 0 where
  pub passed : from ≤ end
  pub inside : end ≤ length rows
  pub deeper : (k : ℕ) → from ≤ k → k < end → depth < depth_in (get_or rows k 0)

-- and were copied
pub record CopiedBelow (depth : ℕ) (rows : List ℕ) (from : ℕ) (out : List ℕ) (to : ℕ) (out' : List ℕ) (end : ℕ) : Type 0 where
  pub below : BelowTo depth rows from end
  pub copied : out' ≡ sets out to (take (end - from) (drop from rows))

-- the node at a place and rows below it were copied
pub record Copied (rows : List ℕ) (at : ℕ) (out : List ℕ) (to : ℕ) (out' : List ℕ) (end : ℕ) : Type 0 where
  pub some_row : at < end
  pub inside : end ≤ length rows
  pub deeper : (k : ℕ) → at < k → k < end → depth_in (get_or rows at 0) < depth_in (get_or rows k 0)
  pub copied : out' ≡ sets out to (take (end - at) (drop at rows))

-- so many entries and nodes exceed the limits exactly where those of words do
pub record Decides (limits : Limits) (words : List ℕ) (entries nodes : ℕ) : Type 0 where
  pub by_entries : ltb limits.entries entries ≡ ltb limits.entries (entries_in (map row_in words))
  pub by_nodes : ltb limits.nodes nodes ≡ ltb limits.nodes (nodes_in (map row_in words))
