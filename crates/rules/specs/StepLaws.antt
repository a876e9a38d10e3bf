-- The words of proofs/StepLaws.antt.
use Prim.Native.Nat.{ℕ, suc, ◌+◌, ◌≤◌, ◌<◌}
use Rattle.std.specs.Prelude.{◌≡◌, Bool, true, false, cond, ◌||◌, eqb, length}
use mathlib.Core.List.{List, [], ◌∷◌, ◌++◌}
use Rattle.std.proofs.Math.Option.{none}
use Rattle.rules.specs.Tries.{Row, is_step, is_root, is_entry, is_row, at, ordered, union}
use Rattle.rules.specs.TrieLaws.{Follows}
use Rattle.rules.specs.Schema.{Item, Known, unknown, lawful_items}
use Rattle.rules.specs.Paths.{Path, Paths, Empty, AccessPath, Union, RecordLiteral, SetLiteral, Leaf, empty_leaf, paths_in, paths_in_fields, nodes_of, to_root_access_trie_with_leaf}
use Rattle.rules.specs.Steps.{Result, Wrapped, Step, root, none_line, attr, union_line, drop_line, full, in_line, set, rec, is_too_deep}

-- each member of a list has P
unfoldable pub Each : {A : Type 0} → (A → Type 0) → List A → Type 0
Each P [] = Unit
Each P (a ∷ more) = P a × Each P more

-- 'a path is a root and fields'
unfoldable pub Stepped : Path → Type 0
Stepped [] = ⊥
Stepped (first ∷ fields) = (is_root first ≡ true) × Each (λ f. f < 65536) fields

-- a path of at most 24 steps
pub record IsPath (path : Path) : Type 0 where
  pub steps : Stepped path
  pub short : length path ≤ 24

abbrev pub AllPaths : List Path → Type 0
AllPaths = Each IsPath

-- a row of a trie: a node, and not typed
pub record Plain (row : Row) : Type 0 where
  pub node : is_entry row ≡ false
  pub untyped : row.type ≡ none

-- a run of nodes in listing order, as it stands behind an entry
pub record IsTrie (rows : List Row) : Type 0 where
  pub order : ordered (0 ∷ []) rows ≡ true
  pub plain : Each Plain rows

-- a trie to which a path adds nothing
abbrev pub Absorbs : List Row → Path → Type 0
Absorbs trie path = union trie (to_root_access_trie_with_leaf path empty_leaf) ≡ trie

abbrev pub AllAbsorbed : List Row → List Path → Type 0
AllAbsorbed trie = Each (Absorbs trie)

-- a result that may stand on the stack
pub record GoodResult (r : Result) : Type 0 where
  pub few_nodes : nodes_of r.paths ≤ 256
  pub good_paths : AllPaths (paths_in r.paths)
  pub good_trie : IsTrie r.trie
  pub few_rows : length r.trie ≤ 1024
  pub absorbed : AllAbsorbed r.trie (paths_in r.paths)

abbrev pub AllGood : List Result → Type 0
AllGood = Each GoodResult

-- what a line's step names is a root or fields
abbrev pub GoodStep : Step → Type 0
GoodStep (root r) = is_root r ≡ true
GoodStep none_line = Unit
GoodStep (attr f) = f < 65536
GoodStep union_line = Unit
GoodStep drop_line = Unit
GoodStep (full t) = Unit
GoodStep in_line = Unit
GoodStep set = Unit
GoodStep (rec names) = Each (λ f. f < 65536) names

-- the items of a schema that was read
abbrev pub AllKeys : List Item → Type 0
AllKeys = Each (λ it. it.key ≤ 65535)

abbrev pub GoodSchema : List Item → Type 0
GoodSchema items = (lawful_items unknown items ≡ true) × AllKeys items

-- rows that may stand below any node: in listing order after the place s, none less deep than `least`, by steps of any kind, and not typed
unfoldable pub Below : ℕ → List ℕ → List Row → Type 0
Below least s [] = Unit
Below least s (row ∷ rows) =
    (is_step row.step ≡ true) × (least ≤ row.depth) × (row.type ≡ none) × Follows s row × Below least (at s row) rows

-- a leaf whose rows may stand below any node
pub record GoodLeaf (leaf : Leaf) : Type 0 where
  pub in_order : Below 1 (0 ∷ []) leaf.below

-- whether one of some tries is too deep
unfoldable pub any_too_deep : List (List Row) → Bool
any_too_deep [] = false
any_too_deep (trie ∷ tries) = is_too_deep trie || any_too_deep tries

-- the paths that gain the field f: those in no record literal
unfoldable pub grown_in : ℕ → Paths → List Path
grown_in f Empty = []
grown_in f (AccessPath path) = (path ++ (f ∷ [])) ∷ []
grown_in f (Union a b) = grown_in f b ++ grown_in f a
grown_in f (RecordLiteral fields) = []
grown_in f (SetLiteral elements) = []

-- a result within the limits
pub record Judged (top : Result) : Type 0 where
  pub few_nodes : nodes_of top.paths ≤ 256
  pub shallow : is_too_deep top.trie ≡ false
  pub few_rows : length top.trie ≤ 1024

-- nodes in listing order after the place s, as deep as they may be, and not typed
unfoldable pub Nodes : List ℕ → List Row → Type 0
Nodes s [] = Unit
Nodes s (row ∷ rows) = (is_row row ≡ true) × Plain row × Follows s row × Nodes (at s row) rows

-- the steps of a path from a depth on: at depth 1 a root
unfoldable pub StepsAt : ℕ → Path → Type 0
StepsAt d [] = Unit
StepsAt d (step ∷ steps) = (cond (eqb d 1) (is_root step) (is_step step) ≡ true) × StepsAt (suc d) steps

-- a list by its last member
pub record Ended (x : ℕ) (xs : List ℕ) : Type 0 where
  pub front : List ℕ
  pub last : ℕ
  pub whole : x ∷ xs ≡ front ++ (last ∷ [])
  pub size : length front ≡ length xs

-- attributes by ascending fields, the first at least `least`
unfoldable pub Ascends : ℕ → List Item → Type 0
Ascends least [] = Unit
Ascends least (it ∷ items) = (least ≤ it.key) × (it.key < 65536) × Ascends (it.key + 1) items

-- lines that are lawful after some others
abbrev pub LawfulLines : List Item → Type 0
LawfulLines lines = (known : Known) × (lawful_items known lines ≡ true) × AllKeys lines

-- `rec`: what is taken from a good stack
pub record GoodWrapped (w : Wrapped) : Type 0 where
  pub paths : AllPaths (paths_in_fields w.fields)
  pub trie : IsTrie w.trie
  pub absorbed : AllAbsorbed w.trie (paths_in_fields w.fields)
  pub left : AllGood w.left
