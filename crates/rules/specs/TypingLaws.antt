-- The words of proofs/TypingLaws.antt.
use Prim.Native.Nat.{ℕ, suc, ◌-◌, ◌≤◌, ◌<◌}
use Rattle.std.specs.Prelude.{◌≡◌, Bool, true, cond, ◌&&◌, ◌||◌, leb, eqb, length, take, get_or}
use Rattle.std.proofs.Math.Bool.{false}
use mathlib.Core.List.{List, [], ◌∷◌, ◌++◌}
use Rattle.std.proofs.Math.Option.{Option, none, some}
use Rattle.rules.specs.Numbers.{Answer, accepted, and_then}
use Rattle.rules.specs.Tries.{Row, is_entry}
use Rattle.rules.specs.Schema.{Item, entity_line}
use Rattle.rules.specs.Typing.{Shape, known, leaf, not_strict, shape_of, is_field, Fate, stays, dropped, wrong, of_shape, fate, with_type}

-- The types kept for each depth.
abbrev pub Types : Type 0
Types = List (Option ℕ)

abbrev pub type_above : Types → Row → Option ℕ
type_above above row = get_or above (row.depth - 1) none

abbrev pub below : Types → Row → Option ℕ → Types
below above row type = take row.depth above ++ (type ∷ [])

-- How rows are typed where they are accepted: the rows, and those that stay.
pub data Course (items : List Item) : ℕ → Types → List Row → List Row → Type 0 where
  end : {request : ℕ} {above : Types} → Course items request above [] []
  entry :
      {request : ℕ} {above : Types} {row : Row} {rows out : List Row}
      → is_entry row ≡ true
      → Course items row.step (some 0 ∷ []) rows out
      → Course items request above (row ∷ rows) (row ∷ out)
  stay :
      {request : ℕ} {above : Types} {row : Row} {rows out : List Row} {t : ℕ}
      → is_entry row ≡ false
      → fate items request (type_above above row) row rows ≡ stays t
      → Course items request (below above row (some t)) rows out
      → Course items request above (row ∷ rows) (with_type t row ∷ out)
  drop :
      {request : ℕ} {above : Types} {row : Row} {rows out : List Row}
      → is_entry row ≡ false
      → fate items request (type_above above row) row rows ≡ dropped
      → Course items request (below above row none) rows out
      → Course items request above (row ∷ rows) out

-- a type among them after a row at depth d is one of before, higher up, or the row's own
pub data Stood (above : Types) (d : ℕ) (type : Option ℕ) (i u : ℕ) : Type 0 where
  higher : i < d → get_or above i none ≡ some u → Stood above d type i u
  own : type ≡ some u → (d ≤ length above → i ≡ d) → Stood above d type i u

-- the fate of a field or a root by the type that its step leads to
abbrev pub by_type : List Item → ℕ → Option ℕ → Bool → Bool → Fate
by_type items request none field children = cond field dropped (wrong 9)
by_type items request (some t) field children = of_shape (shape_of items request t) t children

-- Types that cover others: where these have one, they have the same.
abbrev pub Covers : Types → Types → Type 0
Covers above others = (i u : ℕ) → get_or above i none ≡ some u → get_or others i none ≡ some u

-- whether a field is among the children of a node of a depth, with these rows behind it
unfoldable pub any_field : ℕ → List Row → Bool
any_field depth [] = false
any_field depth (row ∷ rows) =
    let rest : Bool = any_field depth rows in
    cond (leb row.depth depth) false ((eqb row.depth (suc depth) && is_field row.step) || rest)

unfoldable pub Small : List Item → Type 0
Small [] = Unit
Small (it ∷ items) = (entity_line < it.tag → it.value < 1024) × Small items

unfoldable pub Values : List Item → Type 0
Values [] = Unit
Values (a ∷ more) = (a.value < 1024) × Values more

-- the attributes that a type has
abbrev pub OfShape : Shape → Type 0
OfShape (known attributes) = Values attributes
OfShape leaf = Unit
OfShape not_strict = Unit

-- Rows that are typed: each node has a type of the schema or one of the two more, and entries have none.
pub data IsTyped (row : Row) : Type 0 where
  no_type : is_entry row ≡ true → row.type ≡ none → IsTyped row
  has_type : (t : ℕ) → is_entry row ≡ false → row.type ≡ some t → t < 1026 → IsTyped row

unfoldable pub AllTyped : List Row → Type 0
AllTyped [] = Unit
AllTyped (row ∷ rows) = IsTyped row × AllTyped rows

-- what is accepted behind the rows so far, and behind one more
abbrev pub behind : List Row → Answer (List Row) → Answer (List Row)
behind done answer = and_then answer (λ out. accepted (done ++ out))
