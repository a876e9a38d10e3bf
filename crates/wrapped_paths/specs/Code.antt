-- Wrapped paths as words: a head, its steps or names, and then what it wraps, the right side of a union and the last field of a record first.
use Rattle.std.specs.Prelude.{Option as Maybe, Some, None, ℕ, suc, ◌<◌, ◌+◌, ◌*◌, ◌/◌, ◌%◌, ◌≤◌, ◌≡◌, cond, List, [], ◌∷◌, ◌++◌, map, eqb, length, take, drop, get_or}
use Rattle.std.proofs.Math.Option.{none, some}
use Rattle.rules.specs.Tries.{step_of, kind_of, id_of}
use Rattle.rules.specs.Paths.{
  Path,
  Paths,
  Empty,
  AccessPath,
  Union,
  RecordLiteral,
  SetLiteral,
  Fields,
  no_field,
  field,
  nodes_of,
  paths_in,
  get_or_has_attr,
}
use Rattle.rules.proofs.StepLaws.{AllPaths, grown_in}
use Rattle.wrapped_paths.specs.declared.WrappedAccessPaths.{WrappedAccessPaths}
use Rattle.wrapped_paths.specs.declared.WrappedAccessPaths.TheVariants.{
  Empty as EmptyHead,
  AccessPath as PathHead,
  Union as UnionHead,
  RecordLiteral as RecordHead,
  SetLiteral as SetHead,
}
use Rattle.wrapped_paths.specs.declared.Extended.{Extended}

-- the head that a word says, and the word that says it: what it is, 8 times the kind of a path's root, and 64 times the steps of a path or the
-- fields of a record
unfoldable pub head_of : ℕ → WrappedAccessPaths
head_of w =
    cond (eqb (w % 8) 0) EmptyHead
    (cond (eqb (w % 8) 1) (PathHead (w / 8 % 8) (w / 64))
    (cond (eqb (w % 8) 2) UnionHead (cond (eqb (w % 8) 3) SetHead (RecordHead (w / 64)))))

abbrev pub head_word : WrappedAccessPaths → ℕ
head_word EmptyHead = 0
head_word (PathHead kind steps) = 1 + 8 * kind + 64 * steps
head_word UnionHead = 2
head_word SetHead = 3
head_word (RecordHead fields) = 4 + 64 * fields

-- the kind of a path's root
abbrev pub root_in : WrappedAccessPaths → ℕ
root_in EmptyHead = 0
root_in (PathHead kind steps) = kind
root_in UnionHead = 0
root_in SetHead = 0
root_in (RecordHead fields) = 0

-- its steps or names, and how many wrapped paths it wraps
abbrev pub size_of : WrappedAccessPaths → ℕ
size_of EmptyHead = 0
size_of (PathHead kind steps) = steps
size_of UnionHead = 0
size_of SetHead = 0
size_of (RecordHead fields) = fields

abbrev pub wraps_of : WrappedAccessPaths → ℕ
wraps_of EmptyHead = 0
wraps_of (PathHead kind steps) = 0
wraps_of UnionHead = 2
wraps_of SetHead = 1
wraps_of (RecordHead fields) = fields

unfoldable pub count_in : Fields → ℕ
count_in no_field = 0
count_in (field name paths fields) = suc (count_in fields)

unfoldable pub names_in : Fields → List ℕ
names_in no_field = []
names_in (field name paths fields) = name ∷ names_in fields

-- the kind of a path's root, which its head says; the words behind the head are ids
abbrev pub root_kind : Path → ℕ
root_kind [] = 0
root_kind (root ∷ fields) = kind_of root % 8

-- the words of wrapped paths
unfoldable mutual
  pub code : Paths → List ℕ
  code Empty = head_word EmptyHead ∷ []
  code (AccessPath path) = head_word (PathHead (root_kind path) (length path)) ∷ map id_of path
  code (Union left right) = head_word UnionHead ∷ (code right ++ code left)
  code (RecordLiteral fields) = head_word (RecordHead (count_in fields)) ∷ (names_in fields ++ code_fields fields)
  code (SetLiteral elements) = head_word SetHead ∷ code elements

  pub code_fields : Fields → List ℕ
  code_fields no_field = []
  code_fields (field name paths fields) = code paths ++ code_fields fields

-- those of several, one after the other, and their path nodes
unfoldable pub codes : List Paths → List ℕ
codes [] = []
codes (paths ∷ more) = code paths ++ codes more

unfoldable pub nodes_of_all : List Paths → ℕ
nodes_of_all [] = 0
nodes_of_all (paths ∷ more) = nodes_of paths + nodes_of_all more

-- the place of a name among names, or their count
unfoldable pub name_place : List ℕ → ℕ → ℕ
name_place [] name = 0
name_place (other ∷ names) name = cond (eqb other name) 0 (suc (name_place names name))

abbrev pub IsPlace : List ℕ → ℕ → Maybe ℕ → Type 0
IsPlace names name (Some place) = (place ≡ name_place names name) × (place < length names)
IsPlace names name None = name_place names name ≡ length names

-- some wrapped paths stand in words from a place on
pub record Standing (words : List ℕ) (at count : ℕ) : Type 0 where
  pub paths : List Paths
  pub rest : List ℕ
  pub as_many : length paths ≡ count
  pub coded : drop at words ≡ codes paths ++ rest

-- how far they go, and how many path nodes they have
abbrev pub Measures : List ℕ → ℕ → ℕ → ℕ → ℕ → Type 0
Measures words at count end nodes =
    (paths : List Paths) (rest : List ℕ)
    → length paths ≡ count
    → drop at words ≡ codes paths ++ rest
    → (end ≡ at + length (codes paths)) × (nodes ≡ nodes_of_all paths)

-- wrapped paths within the limits stand there
pub record ResultStands (words : List ℕ) (at : ℕ) : Type 0 where
  pub paths : Paths
  pub rest : List ℕ
  pub coded : drop at words ≡ code paths ++ rest
  pub few_nodes : nodes_of paths ≤ 256
  pub good_paths : AllPaths (paths_in paths)

-- how many steps the path has whose head stands at a place, the kind of its root, the path, and that all of it stands there
abbrev pub steps_at : List ℕ → ℕ → ℕ
steps_at words at = get_or words at 0 / 64

abbrev pub root_at : List ℕ → ℕ → ℕ
root_at words at = get_or words at 0 / 8 % 8

abbrev pub rooted : ℕ → List ℕ → Path
rooted kind [] = []
rooted kind (id ∷ fields) = step_of kind id ∷ fields

unfoldable pub path_at : List ℕ → ℕ → Path
path_at words at = rooted (root_at words at) (take (steps_at words at) (drop (at + 1) words))

unfoldable pub paths_at : List ℕ → List ℕ → List Path
paths_at words [] = []
paths_at words (at ∷ places) = path_at words at ∷ paths_at words places

unfoldable pub AllWithin : List ℕ → List ℕ → Type 0
AllWithin words [] = Unit
AllWithin words (at ∷ places) = (at + 1 + steps_at words at ≤ length words) × AllWithin words places

-- the places of the paths among wrapped paths
pub record Found (words : List ℕ) (paths : Paths) (places : List ℕ) (count : ℕ) : Type 0 where
  pub in_places : count ≤ length places
  pub within : AllWithin words (take count places)
  pub there : paths_at words (take count places) ≡ paths_in paths

abbrev pub FoundAt : List ℕ → ℕ → List ℕ → ℕ → Type 0
FoundAt words at places count =
    (paths : Paths) (rest : List ℕ)
    → drop at words ≡ code paths ++ rest
    → AllPaths (paths_in paths)
    → Found words paths places count

-- what `attr` gives in words, and the places of the paths that gained the field
pub record Grew (f : ℕ) (paths : Paths) (out places : List ℕ) (words grown : ℕ) : Type 0 where
  pub after : Paths
  pub extended : get_or_has_attr f paths ≡ some after
  pub in_out : words ≤ length out
  pub few_words : words ≤ length (code paths) + length (grown_in f paths)
  pub coded : take words out ≡ code after
  pub in_places : grown ≤ length places
  pub within : AllWithin out (take grown places)
  pub there : paths_at out (take grown places) ≡ grown_in f paths

abbrev pub ExtendedBy : ℕ → Paths → List ℕ → List ℕ → Maybe Extended → Type 0
ExtendedBy f paths out places (Some extended) = Grew f paths out places extended.words extended.grown
ExtendedBy f paths out places None = get_or_has_attr f paths ≡ none

abbrev pub ExtendedAt : List ℕ → ℕ → ℕ → List ℕ → List ℕ → Maybe Extended → Type 0
ExtendedAt words at f out places r =
    (paths : Paths) (rest : List ℕ)
    → drop at words ≡ code paths ++ rest
    → AllPaths (paths_in paths)
    → ExtendedBy f paths out places r
