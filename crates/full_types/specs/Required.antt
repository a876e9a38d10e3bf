-- Wrapped paths against types, head by head: for what a head wraps, types wait on a stack.
use Rattle.std.specs.Prelude.{Option as Maybe, Some, None, ℕ, ◌+◌, ◌*◌, ◌^◌, ◌≤◌, ◌<◌, ◌≡◌, cond, ◌&&◌, List, [], ◌∷◌, ◌++◌, map, reverse, eqb, length, take, drop, get_or}
use Rattle.std.proofs.Math.Option.{Option, none, some}
use Rattle.rules.specs.Schema.{Item, set_type, record_type}
use Rattle.rules.specs.Paths.{
  Paths,
  Empty,
  AccessPath,
  Union,
  RecordLiteral,
  SetLiteral,
  Fields,
  nodes_of,
  paths_in,
  kind_at,
  element_at,
  attributes_at,
  attribute_type,
  has_all,
  full_type_required,
}
use Rattle.rules.proofs.StepLaws.{AllPaths}
use Rattle.rules.proofs.TypeLaws.{types_in}
use Rattle.wrapped_paths.specs.declared.WrappedAccessPaths.{WrappedAccessPaths}
use Rattle.wrapped_paths.specs.declared.WrappedAccessPaths.TheVariants.{
  Empty as EmptyHead,
  AccessPath as PathHead,
  Union as UnionHead,
  RecordLiteral as RecordHead,
  SetLiteral as SetHead,
}
use Rattle.full_types.specs.declared.Required.{Required}
use Rattle.type_table.specs.declared.types.Types.{Types}
use Rattle.wrapped_paths.specs.Code.{head_of, names_in, code, ResultStands}
use Rattle.wrapped_paths.specs.Turns.{Noted}
use Rattle.full_types.specs.Pairs.{taken_at, AllPairs}

-- ---- what waits

-- a number past all types: what it waits for is passed over
abbrev pub passed_over : ℕ
passed_over = 1024

-- the type that attributes give each field; a field that they have not is passed over
abbrev pub type_or : Option ℕ → ℕ
type_or none = passed_over
type_or (some t) = t

abbrev pub field_types : List Item → List ℕ → List ℕ
field_types attributes names = map (λ name. type_or (attribute_type name attributes)) names

-- the types that wait for what a head wraps, in its order; none where a literal is against its type
abbrev pub set_awaits : List Item → ℕ → Option (List ℕ)
set_awaits items t = cond (eqb (kind_at items t) set_type) (some (element_at items t ∷ [])) none

abbrev pub record_awaits : List Item → Fields → ℕ → Option (List ℕ)
record_awaits items fields t =
    cond (eqb (kind_at items t) record_type && has_all fields (attributes_at items t))
    (some (field_types (attributes_at items t) (names_in fields)))
    none

abbrev pub awaits : List Item → Paths → ℕ → Option (List ℕ)
awaits items Empty t = some []
awaits items (AccessPath path) t = some []
awaits items (Union left right) t = some (t ∷ t ∷ [])
awaits items (RecordLiteral fields) t = record_awaits items fields t
awaits items (SetLiteral elements) t = set_awaits items t

-- they come on top of those that wait, the first on top
pub record Stacked (types : Option (List ℕ)) (waiting : List ℕ) (left : ℕ) (waiting' : List ℕ) (more : ℕ) : Type 0 where
  pub new : List ℕ
  pub awaited : types ≡ some new
  pub there : Noted waiting left (reverse new) waiting' more

abbrev pub StackedBy : Option (List ℕ) → List ℕ → ℕ → List ℕ → Maybe ℕ → Type 0
StackedBy types waiting left waiting' (Some more) = Stacked types waiting left waiting' more
StackedBy types waiting left waiting' None = types ≡ none

abbrev pub RecordStacked : List ℕ → List Item → ℕ → ℕ → List ℕ → ℕ → List ℕ → Maybe ℕ → Type 0
RecordStacked words items at t waiting left waiting' r =
    (fields : Fields) (rest : List ℕ)
    → drop at words ≡ code (RecordLiteral fields) ++ rest
    → StackedBy (record_awaits items fields t) waiting left waiting' r

abbrev pub PathsStacked : List ℕ → List Item → ℕ → ℕ → List ℕ → ℕ → List ℕ → Maybe ℕ → Type 0
PathsStacked words items at t waiting left waiting' r =
    (paths : Paths) (rest : List ℕ)
    → drop at words ≡ code paths ++ rest
    → StackedBy (awaits items paths t) waiting left waiting' r

-- wrapped paths stand there behind a head, their type is known, and there is room for the types that wait for what they wrap
pub record Meeting (words : List ℕ) (at : ℕ) (head : WrappedAccessPaths) (types : Types) (t : ℕ) (waiting : List ℕ) (left : ℕ) : Type 0 where
  pub paths : Paths
  pub rest : List ℕ
  pub coded : drop at words ≡ code paths ++ rest
  pub said : head ≡ head_of (get_or words at 0)
  pub known : t < types.count
  pub room : left + nodes_of paths ≤ length waiting

-- ---- which path takes which type

-- the pair that a head gives, if it is that of a path
abbrev pub pairs_for : WrappedAccessPaths → ℕ → ℕ → List ℕ
pairs_for EmptyHead at t = []
pairs_for (PathHead kind steps) at t = (at * 1024 + t) ∷ []
pairs_for UnionHead at t = []
pairs_for SetHead at t = []
pairs_for (RecordHead fields) at t = []

-- a place and a type that one word holds, and a place for it behind so many others
pub record PairRoom (at t : ℕ) (pairs : List ℕ) (count : ℕ) : Type 0 where
  pub place : at < 2 ^ 53
  pub type : t < 1024
  pub room : count < length pairs

-- wrapped paths of a result stand there, and there is a place for each of their paths
pub record PairsRoom (words : List ℕ) (at : ℕ) (pairs : List ℕ) : Type 0 where
  pub result : ResultStands words at
  pub short : length words < 2 ^ 53
  pub places : length pairs ≡ 256

-- which path takes which type, in pairs
pub record TypesTook (words : List ℕ) (items : List Item) (paths : Paths) (t at : ℕ) (pairs : List ℕ) (end count : ℕ) : Type 0 where
  pub ends : end ≡ at + length (code paths)
  pub in_pairs : count ≤ length pairs
  pub all_pairs : AllPairs words (types_in items) (take count pairs)
  pub required : full_type_required items paths t ≡ some (map (taken_at words) (take count pairs))

abbrev pub RequiredBy : List ℕ → List Item → Paths → ℕ → ℕ → List ℕ → Maybe Required → Type 0
RequiredBy words items paths t at pairs (Some required) = TypesTook words items paths t at pairs required.end required.pairs
RequiredBy words items paths t at pairs None = full_type_required items paths t ≡ none

abbrev pub RequiredAt : List ℕ → List Item → ℕ → ℕ → List ℕ → Maybe Required → Type 0
RequiredAt words items t at pairs r =
    (paths : Paths) (rest : List ℕ)
    → drop at words ≡ code paths ++ rest
    → AllPaths (paths_in paths)
    → RequiredBy words items paths t at pairs r
