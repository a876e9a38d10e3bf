-- Where the walk over words has come to, and what it meets next.
use Rattle.std.specs.Prelude.{ℕ, ◌+◌, ◌≤◌, ◌<◌, ◌≡◌, List, [], ◌++◌, map, length, take, drop}
use Rattle.std.specs.Prelude.{Option as Maybe, Some, None}
use Rattle.std.proofs.Math.Option.{Option}
use Rattle.rules.specs.ValueRows.{ValueRow}
use Rattle.rules.specs.Loading.{Event}
use Rattle.rules.specs.WalkRows.{walk_rows}
use Rattle.rows.specs.States.{rows_of}
use Rattle.row_walk.specs.RowWalks.{kept_in, met_at, met_by, SmallMet, SmallId}
use Rattle.row_walk.specs.declared.rule.Rule.{Rule}
use Rattle.row_walk.specs.declared.walk.Meeting.{Meeting}
use Rattle.row_walk.specs.declared.rule.Met.{Met}

-- what is kept for each depth: the first of an array
abbrev pub kept_for : List ℕ → List (Maybe ℕ) → ℕ → List (Option (List ValueRow))
kept_for values kept len = map (kept_in values) (take len kept)

-- what the walk below a depth has yet to meet, from a row on
abbrev pub going : List ℕ → List ℕ → ℕ → List (Maybe ℕ) → ℕ → ℕ → List Event
going nodes values depth kept len node = walk_rows depth (kept_for values kept len) node (rows_of (drop node nodes))

-- One row is visited: what it comes to is met before the rest.
pub record Visited (nodes values : List ℕ) (depth : ℕ) (kept : List (Maybe ℕ)) (len node : ℕ) (kept' : List (Maybe ℕ)) (len' : ℕ) (rule : Rule) :
    Type 0 where
  pub comes : going nodes values depth kept len node ≡ (met_by values node rule).events ++ going nodes values depth kept' len' (node + 1)
  pub small : SmallId rule
  pub counts : len' ≤ length kept'

-- what is met at a node, and then the rest
abbrev pub met_then : List ℕ → ℕ → Met → List Event → List Event
met_then values node met rest = met_at values node met ++ rest

-- Something is met at a node, and an entity's id is small.
pub record MeetsAt (nodes values : List ℕ) (depth : ℕ) (kept : List (Maybe ℕ)) (len from : ℕ) (kept' : List (Maybe ℕ)) (r : Meeting) : Type 0 where
  pub meets :
      going nodes values depth kept len from
      ≡ met_then values r.node r.met (going nodes values depth kept' r.len (r.node + 1))
  pub onward : from ≤ r.node
  pub inside : r.node < length nodes
  pub small : SmallMet r.met
  pub counts : r.len ≤ length kept'

-- The walk goes on from a row until something is met, if anything is.
abbrev pub Meets : List ℕ → List ℕ → ℕ → List (Maybe ℕ) → ℕ → ℕ → List (Maybe ℕ) → Maybe Meeting → Type 0
Meets nodes values depth kept len from kept' None = going nodes values depth kept len from ≡ []
Meets nodes values depth kept len from kept' (Some r) = MeetsAt nodes values depth kept len from kept' r
