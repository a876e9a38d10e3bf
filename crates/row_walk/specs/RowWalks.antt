-- What the walk over the words of nodes and of values answers, by the walk of `WalkRows`.
use Rattle.std.specs.Prelude.{ℕ, ◌<◌, ◌≡◌, Bool, true, false, cond, not, List, [], ◌∷◌, ltb, eqb, drop}
use Rattle.std.specs.Prelude.{Option as Maybe, Some, None}
use Rattle.std.proofs.Math.Option.{Option, none, some}
use Rattle.rules.specs.Tries.{ids}
use Rattle.rules.specs.ValueRows.{ValueRow}
use Rattle.rules.specs.Typing.{is_field}
use Rattle.rules.specs.Loading.{Event, yielded, ancestor, bad}
use Rattle.rules.specs.WalkRows.{MetRows, comes_to}
use Rattle.values.specs.ValueWords.{value_rows_of}
use Rattle.row_walk.specs.declared.rule.Rule.{Rule}
use Rattle.row_walk.specs.declared.rule.Rule.TheVariants.{Kept, Met as Meets}
use Rattle.row_walk.specs.declared.rule.Met.{Met}
use Rattle.row_walk.specs.declared.rule.Met.TheVariants.{Row, Ids, Bad}

-- which children are asked for: fields, or the roots of an ancestors trie
abbrev pub child_test : Bool → ℕ → Bool
child_test true = is_field
child_test false = λ step. not (is_field step)

-- the ids of the elements at a depth, up to a row above it
unfoldable pub ancestors_at : ℕ → List ValueRow → List Event
ancestors_at depth [] = []
ancestors_at depth (x ∷ rows) =
    let rest : List Event = ancestors_at depth rows in
    cond (ltb x.depth depth) [] (cond (eqb x.depth depth) (ancestor x.number ∷ rest) rest)

-- what a set with a mark comes to: its elements' ids, if all are entity ids
abbrev pub ids_if_held : Bool → ℕ → List ValueRow → Option (List Event)
ids_if_held held depth rows = cond held (some (ancestors_at depth rows)) none

-- the rows that are kept: those from a place on, if any
abbrev pub kept_in : List ℕ → Maybe ℕ → Option (List ValueRow)
kept_in values None = none
kept_in values (Some p) = some (value_rows_of (drop p values))

-- what is met at a node
abbrev pub met_at : List ℕ → ℕ → Met → List Event
met_at values node (Row e) = yielded (record { id = e; node = node }) ∷ []
met_at values node (Ids p depth) = ancestors_at depth (value_rows_of (drop p values))
met_at values node Bad = bad ∷ []

-- what a node comes to, as the rule says it
abbrev pub met_by : List ℕ → ℕ → Rule → MetRows
met_by values node (Kept k) = comes_to [] (kept_in values k)
met_by values node (Meets met) = comes_to (met_at values node met) none

-- an entity's id is small
abbrev pub SmallMet : Met → Type 0
SmallMet (Row e) = e < ids
SmallMet (Ids p depth) = Unit
SmallMet Bad = Unit

abbrev pub SmallId : Rule → Type 0
SmallId (Kept k) = Unit
SmallId (Meets met) = SmallMet met

-- A rule says what a node comes to.
pub record MeansRule (values : List ℕ) (node : ℕ) (rule : Rule) (met : MetRows) : Type 0 where
  pub means : met_by values node rule ≡ met
  pub small : SmallId rule

-- what a node keeps
abbrev pub kept_by : Rule → Maybe ℕ
kept_by (Kept k) = k
kept_by (Meets met) = None
