-- What one turn of a walk over wrapped paths does, head by head.
use Rattle.std.specs.Prelude.{Option as Maybe, Some, None, ℕ, ◌+◌, ◌≤◌, ◌≡◌, Bool, true, false, List, [], ◌∷◌, ◌++◌, length, take, drop}
use Rattle.rules.specs.Paths.{
  Path,
  Paths,
  Empty,
  AccessPath,
  Union,
  RecordLiteral,
  SetLiteral,
  Fields,
  field_of,
  field_or,
}
use Rattle.rules.proofs.StepLaws.{Each, Stepped, grown_in}
use Rattle.words.specs.Runs.{Wrote}
use Rattle.wrapped_paths.specs.declared.WrappedAccessPaths.{WrappedAccessPaths}
use Rattle.wrapped_paths.specs.declared.WrappedAccessPaths.TheVariants.{
  Empty as EmptyHead,
  AccessPath as PathHead,
  Union as UnionHead,
  RecordLiteral as RecordHead,
  SetLiteral as SetHead,
}
use Rattle.wrapped_paths.specs.declared.Moved.{Moved}
use Rattle.wrapped_paths.specs.Code.{head_word, root_kind, count_in, code, ResultStands}

-- the place of a head, if it is that of a path
abbrev pub places_for : WrappedAccessPaths → ℕ → List ℕ
places_for EmptyHead at = []
places_for (PathHead kind steps) at = at ∷ []
places_for UnionHead at = []
places_for SetHead at = []
places_for (RecordHead fields) at = []

-- places come behind those that were noted
pub record Noted (places : List ℕ) (count : ℕ) (more places' : List ℕ) (count' : ℕ) : Type 0 where
  pub in_places : count' ≤ length places'
  pub there : take count' places' ≡ take count places ++ more

-- how many wrapped paths behind a head are extended too
abbrev pub sides_of : WrappedAccessPaths → ℕ
sides_of EmptyHead = 0
sides_of (PathHead kind steps) = 0
sides_of UnionHead = 2
sides_of SetHead = 0
sides_of (RecordHead fields) = 0

-- words were read up to a place and others written
pub record TurnTook (at : ℕ) (read : List ℕ) (out : List ℕ) (to : ℕ) (written out' : List ℕ) (moved : Moved) : Type 0 where
  pub next : moved.from ≡ at + length read
  pub wrote : Wrote out to written out' moved.to

-- a path that has gained a field
pub record IsGrown (path : Path) : Type 0 where
  pub steps : Stepped path
  pub short : length path ≤ 25

-- a path gains the field f
abbrev pub Gained : List ℕ → ℕ → ℕ → ℕ → ℕ → List ℕ → ℕ → List ℕ → Moved → Type 0
Gained words at kind steps f out to out' moved =
    (path : Path) (rest : List ℕ)
    → root_kind path ≡ kind
    → length path ≡ steps
    → drop at words ≡ code (AccessPath path) ++ rest
    → TurnTook at (code (AccessPath path)) out to (code (AccessPath (path ++ (f ∷ [])))) out' moved

-- what a record literal gives for the field f
abbrev pub field_from : ℕ → Fields → Paths
field_from f fields = field_or (field_of f fields) (RecordLiteral fields)

-- a record literal stands there, and there is room for what it gives
pub record Literal (words : List ℕ) (at count f : ℕ) (out : List ℕ) (to : ℕ) : Type 0 where
  pub fields : Fields
  pub rest : List ℕ
  pub as_many : count_in fields ≡ count
  pub coded : drop at words ≡ code (RecordLiteral fields) ++ rest
  pub room : to + length (code (field_from f fields)) ≤ length out

abbrev pub FieldTaken : List ℕ → ℕ → ℕ → ℕ → List ℕ → ℕ → List ℕ → Moved → Type 0
FieldTaken words at count f out to out' moved =
    (fields : Fields) (rest : List ℕ)
    → count_in fields ≡ count
    → drop at words ≡ code (RecordLiteral fields) ++ rest
    → TurnTook at (code (RecordLiteral fields)) out to (code (field_from f fields)) out' moved

-- what `attr` reads and writes at one head: all of it, or the head of a union alone
unfoldable pub read_at : Paths → List ℕ
read_at Empty = code Empty
read_at (AccessPath path) = code (AccessPath path)
read_at (Union left right) = head_word UnionHead ∷ []
read_at (RecordLiteral fields) = code (RecordLiteral fields)
read_at (SetLiteral elements) = []

unfoldable pub written_for : ℕ → Paths → List ℕ
written_for f Empty = code Empty
written_for f (AccessPath path) = code (AccessPath (path ++ (f ∷ [])))
written_for f (Union left right) = head_word UnionHead ∷ []
written_for f (RecordLiteral fields) = code (field_from f fields)
written_for f (SetLiteral elements) = []

-- a set is dereferenced
abbrev pub is_set : Paths → Bool
is_set Empty = false
is_set (AccessPath path) = false
is_set (Union left right) = false
is_set (RecordLiteral fields) = false
is_set (SetLiteral elements) = true

-- wrapped paths stand there, and there is room for what `attr` makes of them: a word more for each path that gains the field
pub record TurnRoom (words : List ℕ) (at f : ℕ) (out : List ℕ) (to : ℕ) : Type 0 where
  pub paths : Paths
  pub rest : List ℕ
  pub coded : drop at words ≡ code paths ++ rest
  pub good : Each IsGrown (grown_in f paths)
  pub fits : to + (length (code paths) + length (grown_in f paths)) ≤ length out

-- and they are those of a result
pub record Growing (words : List ℕ) (at f : ℕ) (out : List ℕ) : Type 0 where
  pub result : ResultStands words at
  pub fits : length (code result.paths) + length (grown_in f result.paths) ≤ length out

abbrev pub TurnedBy : ℕ → Paths → ℕ → List ℕ → ℕ → List ℕ → Maybe Moved → Type 0
TurnedBy f paths at out to out' (Some moved) = (is_set paths ≡ false) × TurnTook at (read_at paths) out to (written_for f paths) out' moved
TurnedBy f paths at out to out' None = is_set paths ≡ true

abbrev pub Turned : List ℕ → ℕ → ℕ → List ℕ → ℕ → List ℕ → Maybe Moved → Type 0
Turned words at f out to out' r = (paths : Paths) (rest : List ℕ) → drop at words ≡ code paths ++ rest → TurnedBy f paths at out to out' r
