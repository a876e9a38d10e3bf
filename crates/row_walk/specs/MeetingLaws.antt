-- Laws of the walk over words. No contract cites this file.
use Rattle.std.specs.Prelude.{ℕ, zero, suc, ◌+◌, ◌-◌, ◌≤◌, ◌<◌, min, ◌≡◌, refl, List, [], ◌∷◌, ◌++◌, map, length, take, drop, get_or, set}
use Rattle.std.proofs.Common.{add-one, arith, ap, ◌∙◌, length-set, length-take, drop_of_length-le, take-take, take_all, take-suc-set}
use Rattle.std.proofs.lemmas.List.{map-append}
use Rattle.std.specs.Prelude.{Option as Maybe, None}
use Rattle.std.proofs.Math.Option.{Option}
use borrow.Author.Tests.{le-leb, lt-leb}
use Rattle.rules.specs.Facts.{compared}
use Rattle.rules.specs.Tries.{Row as TrieRow}
use Rattle.rules.proofs.WalkLaws.{take-map}
use Rattle.rules.specs.ValueRows.{ValueRow}
use Rattle.rules.specs.WalkRows.{MetRows, kept_rows_at, at_node_rows, walk_rows}
use Rattle.rows.specs.Words.{row_in, depth_in}
use Rattle.rows.specs.States.{rows_of}
use Rattle.row_walk.specs.RowWalks.{kept_in, kept_by, met_by, MeansRule}
use Rattle.row_walk.specs.ScanLaws.{rows_left}
use Rattle.row_walk.specs.Meetings.{kept_for, going, Visited, MeetsAt}
use Rattle.row_walk.specs.declared.rule.Rule.{Rule}
use Rattle.row_walk.specs.declared.rule.Rule.TheVariants.{Kept, Met as MetRule}
use Rattle.row_walk.specs.declared.rule.Met.{Met}

-- what is kept at a place
kept_place :
    (values : List ℕ) (kept : List (Maybe ℕ)) (at : ℕ) → kept_rows_at (map (kept_in values) kept) at ≡ kept_in values (get_or kept at None)
unfolding kept_rows_at
kept_place values [] at = refl
kept_place values (k ∷ kept) zero = refl
kept_place values (k ∷ kept) (suc at) = kept_place values kept at

-- what a row keeps
kept_met : (values : List ℕ) (node : ℕ) (rule : Rule) → (met_by values node rule).kept ≡ kept_in values (kept_by rule)
kept_met values node (Kept k) = refl
kept_met values node (MetRule met) = refl

-- a store at a place, or behind the last that is kept, keeps one more
kept_more :
    (values : List ℕ) (kept : List (Maybe ℕ)) (len at : ℕ) (k : Maybe ℕ)
    → len ≤ length kept
    → min at len < length kept
    → take at (kept_for values kept len) ++ (kept_in values k ∷ []) ≡ kept_for values (set kept (min at len) k) (min at len + 1)
kept_more values kept len at k fits room =
    let front : take at (take len kept) ≡ take (min at len) kept =
    compared at len
    (λ h. let e : min at len ≡ at = omega arith in rw e (take-take at len kept (omega arith)))
    (λ h. let e : min at len ≡ len = omega arith in rw e (take_all at (take len kept) (omega (arith, length-take len kept)))) in
    rw (add-one, take-suc-set kept (min at len) k room, map-append, take-map, front)

-- one row of the walk
walk_row :
    (depth : ℕ) (kept : List (Option (List ValueRow))) (node : ℕ) (row : TrieRow) (rows : List TrieRow) {here : MetRows}
    → depth < row.depth
    → here ≡ at_node_rows (row.depth - depth) (kept_rows_at kept (row.depth - suc depth)) row rows node
    → walk_rows depth kept node (row ∷ rows)
    ≡ here.events ++ walk_rows depth (take (row.depth - depth) kept ++ (here.kept ∷ [])) (suc node) rows
unfolding walk_rows
walk_row depth kept node row rows below e = rw (lt-leb row.depth depth below, ← e)

-- a row is visited: it is looked up in what is kept above it, and what it keeps is stored
module _ (nodes values : List ℕ) (depth : ℕ) (kept : List (Maybe ℕ)) (len node : ℕ) (inside : node < length nodes) where
  pub visited :
      (below : ℕ) (above : Maybe ℕ) (rule : Rule)
      → depth < depth_in (get_or nodes node 0)
      → len ≤ length kept
      → 32 ≤ length kept
      → below ≡ depth_in (get_or nodes node 0) - depth
      → above ≡ get_or (take len kept) (below - 1) None
      → MeansRule values node rule (at_node_rows below (kept_in values above) (row_in (get_or nodes node 0)) (rows_of (drop (node + 1) nodes)) node)
      → Visited nodes values depth kept len node (set kept (min below len) (kept_by rule)) (min below len + 1) rule
  visited below above rule deeper fits room is_below is-above means =
      let row : TrieRow = row_in (get_or nodes node 0) in
      let rows : List TrieRow = rows_of (drop (node + 1) nodes) in
      let place : row.depth - suc depth ≡ below - 1 = omega arith in
      let there : kept_rows_at (kept_for values kept len) (row.depth - suc depth) ≡ kept_in values above =
      rw (place, is-above) (kept_place values (take len kept) (below - 1)) in
      let here : met_by values node rule ≡ at_node_rows (row.depth - depth) (kept_rows_at (kept_for values kept len) (row.depth - suc depth)) row rows node =
      rw (there, ← is_below) means.means in
      let stored = kept_more values kept len below (kept_by rule) fits (omega arith) in
      record {
        comes =
            ap (walk_rows depth (kept_for values kept len) node) (rows_left row_in nodes node inside)
            ∙ walk_row depth (kept_for values kept len) node row rows deeper here
            ∙ rw (kept_met values node rule, ← is_below, stored, add-one node);
        small = means.small;
        counts = simp length-set (omega arith);
      }

-- Nothing is met up to a node: the rest of the walk is all of it.
pub record NothingMet (nodes values : List ℕ) (depth : ℕ) (kept : List (Maybe ℕ)) (len from : ℕ) (kept' : List (Maybe ℕ)) (len' node : ℕ) : Type 0 where
  pub rest : going nodes values depth kept len from ≡ going nodes values depth kept' len' node
  pub onward : from ≤ node
  pub counts : len' ≤ length kept'
  pub same : length kept' ≡ length kept

module _ {nodes values : List ℕ} {depth : ℕ} {kept : List (Maybe ℕ)} {len from : ℕ} {kept' : List (Maybe ℕ)} {len' node : ℕ}
    (sofar : NothingMet nodes values depth kept len from kept' len' node) where
  -- no row is left
  pub meets_last : length nodes ≤ node → going nodes values depth kept len from ≡ []
  unfolding walk_rows
  meets_last h = sofar.rest ∙ rw (drop_of_length-le nodes h)

  -- the next row is not below the depth
  pub meets_above : node < length nodes → depth_in (get_or nodes node 0) ≤ depth → going nodes values depth kept len from ≡ []
  unfolding walk_rows
  meets_above inside h = sofar.rest ∙ rw (rows_left row_in nodes node inside, le-leb (depth_in (get_or nodes node 0)) depth h)

  -- something is met at the node, or nothing
  module _ {kept'' : List (Maybe ℕ)} {len'' : ℕ} {rule : Rule} (visit : Visited nodes values depth kept' len' node kept'' len'' rule) (inside : node < length nodes) where
    pub meets_met : {met : Met} → rule ≡ MetRule met → MeetsAt nodes values depth kept len from kept'' (record { node = node; len = len''; met = met })
    meets_met is = record {
      meets = sofar.rest ∙ visit.comes ∙ rw is;
      onward = sofar.onward;
      inside = inside;
      small = rw is at visit.small;
      counts = visit.counts;
    }

    pub nothing_more : {k : Maybe ℕ} → rule ≡ Kept k → length kept'' ≡ length kept' → NothingMet nodes values depth kept len from kept'' len'' (node + 1)
    nothing_more is same = record {
      rest = sofar.rest ∙ visit.comes ∙ rw is;
      onward = omega (arith, sofar.onward);
      counts = visit.counts;
      same = same ∙ sofar.same;
    }
